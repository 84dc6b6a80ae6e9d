-- The journal has one more event, which is an own one.
use Rattle.std.proofs.Common.{◌≡◌, ℕ, zero, suc, ℤ, ◌+◌, ◌++◌, ◌∷◌, [], List, length, sym, ◌∙◌, ap, subst, append-nil, length-append, arith, w64, to_z, of_z, rules}
use Rattle.std.proofs.Math.Nat.{add-zero}
use Rattle.std.specs.List.{range_with_len}
use Rattle.venue_words.specs.declared.command.Command.{Command}
use Rattle.venue_words.specs.declared.command.Event.{Event}
use Rattle.venue_words.specs.Floors.{Records}
use Rattle.venue_words.specs.Journals.{event}
use Rattle.desk_trials.specs.Listings.{listing_view}
use Rattle.desk_trials.proofs.tests.lines.listing.ListingFloor.submit.Goals as goal

range_more : (a n : ℕ) → range_with_len a (suc n) ≡ range_with_len a n ++ (a + n) ∷ []
range_more a zero = ap (λ (k : ℕ). k ∷ []) (sym (add-zero a))
range_more a (suc n) =
    let e : (a + 1) + n ≡ a + suc n = omega arith in
    ap (λ (xs : List ℕ). a ∷ xs) (range_more (a + 1) n ∙ ap (λ (k : ℕ). range_with_len (a + 1) n ++ k ∷ []) e)

listed : (journal next : List Event) (number feed : ℕ) (moment : ℤ) (command : Command)
    → next ≡ journal ++ event number feed moment command ∷ [] → number ≡ length journal + 1
    → Records (listing_view journal 0) (listing_view next 0) number feed moment command
listed journal next number feed moment command e n =
    let long : length next ≡ length journal + 1 = ap (length {A = Event}) e ∙ length-append journal (event number feed moment command ∷ []) in
    let more : length next ≡ suc (length journal) = omega arith in
    let last : 1 + length journal ≡ number = omega arith in (
      [],
      e ∙ ap (λ (js : List Event). js ++ event number feed moment command ∷ []) (sym (append-nil journal)),
      n ∙ sym long,
      ap (range_with_len 1) more ∙ range_more 1 (length journal) ∙ ap (λ (k : ℕ). range_with_len 1 (length journal) ++ k ∷ []) last,
    )

pub returns-clause-records : goal.returns-clause-records
returns-clause-records g c =
    let e : to_z w64 (of_z w64 c.args.moment) ≡ c.args.moment = search rules in
    let first : c.args.symbol ≡ 0 = omega arith in
    let journal = c.push_reserved.new.self.items in
    let one : Event = event (c.len-found.result + 1) c.args.feed (to_z w64 (of_z w64 c.args.moment)) c.in-Ok.command in
    let more : journal ≡ c.args.self.now.journal.items ++ one ∷ [] =
    c.push_reserved.ensures.items ∙ ap (λ (es : List Event). es ++ one ∷ []) c.reserve.ensures.items in
    let same : journal ≡ c.args.self.now.journal.items ++ event (c.len-found.result + 1) c.args.feed c.args.moment c.args.command.now ∷ [] =
    more ∙ ap (λ (m : ℤ). c.args.self.now.journal.items ++ event (c.len-found.result + 1) c.args.feed m c.in-Ok.command ∷ []) e
    ∙ ap (λ (k : Command). c.args.self.now.journal.items ++ event (c.len-found.result + 1) c.args.feed c.args.moment k ∷ []) c.in-Ok.ensures in
    subst (λ (s : ℕ). Records (listing_view c.args.self.now.journal.items s) (listing_view journal s) (c.len-found.result + 1) c.args.feed c.args.moment c.args.command.now)
    (sym first)
    (listed c.args.self.now.journal.items journal (c.len-found.result + 1) c.args.feed c.args.moment c.args.command.now same
    (omega (arith, c.args.self.now.journal.ok.0, c.len-found.ensures)))
