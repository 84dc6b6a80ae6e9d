-- One more event of a journal that is worked once more.
use Rattle.std.proofs.Common.{◌≡◌, ◌<◌, ℕ, zero, suc, ◌+◌, List, [], ◌∷◌, ◌++◌, length, get_or, take, refl, sym, ◌∙◌, ap, subst, append_assoc, add-one, arith}
use Rattle.std.proofs.Math.Seq.{take-suc}
use Rattle.std.proofs.lemmas.Option.{slice_get_read}
use Rattle.std.specs.List.{AllByRecursion}
use Rattle.venue_words.specs.declared.command.Event.{Event}
use Rattle.venue_words.specs.declared.config.Config.{Config}
use Rattle.eager_meaning.specs.Step.{IsNumbered}
use Rattle.audit_core.specs.declared.part.OpenPart.{OpenPart}
use Rattle.audit_core.specs.Progress.{IsOpen}
use Rattle.audit_core.specs.Telling.{events_text}
use Rattle.audit_core.proofs.Standing.{told_more}
use Rattle.audit_tables.specs.Asked.{AnswerText, telling_of}

-- what holds of each holds at a place
pub each_at : {A : Type 0} (P : A → Type 0) (xs : List A) (i : ℕ) (x : A) → AllByRecursion P xs → i < length xs → x ≡ get_or xs i x → P x
each_at P [] i x all lt is = absurd (omega arith)
each_at P (y ∷ xs) zero x all lt is = subst P (sym is) all.0
each_at P (y ∷ xs) (suc i) x all lt is = each_at P xs i x all.1 (omega arith) is

-- the next event's number
pub next_number : (journal : List Event) (i : ℕ) (event : Event) → IsNumbered journal → i < length journal → event ≡ get_or journal i event
    → event.number ≡ i + 1
next_number journal i event numbered lt is = numbered i event (slice_get_read journal (length journal) i event refl lt is)

-- one more of the first events
pub take_next : (journal : List Event) (i : ℕ) (event : Event) → i < length journal → event ≡ get_or journal i event
    → take (i + 1) journal ≡ take i journal ++ event ∷ []
take_next journal i event lt is =
    ap (λ (n : ℕ). take n journal) (add-one i) ∙ take-suc journal i event lt ∙ ap (λ (e : Event). take i journal ++ e ∷ []) (sym is)

-- its text stands behind those before
pub text_next : (tells : AnswerText) (asked symbol : ℕ) (config : Config) (journal worked : List Event) (i : ℕ) (event : Event) (old now new : List ℕ)
    → i < length journal → event ≡ get_or journal i event → worked ≡ take i journal ++ event ∷ []
    → now ≡ old ++ events_text (telling_of tells asked) config symbol [] (take i journal)
    → new ≡ now ++ tells asked config symbol worked
    → new ≡ old ++ events_text (telling_of tells asked) config symbol [] (take (i + 1) journal)
text_next tells asked symbol config journal worked i event old now new lt is worked_is so_far more =
    let telling = telling_of tells asked in
    let front = events_text telling config symbol [] (take i journal) in
    more
    ∙ ap (λ (t : List ℕ). t ++ tells asked config symbol worked) so_far
    ∙ append_assoc old front (tells asked config symbol worked)
    ∙ ap (λ (j : List Event). old ++ (front ++ tells asked config symbol j)) worked_is
    ∙ ap (λ (t : List ℕ). old ++ t) (sym (told_more telling config symbol [] (take i journal) event))
    ∙ ap (λ (j : List Event). old ++ events_text telling config symbol [] j) (sym (take_next journal i event lt is))

-- the reports that come next are passed over
pub passed : (config : Config) (symbol : ℕ) (part new : OpenPart) → IsOpen config symbol part → new ≡ record part { told = length part.book.reports }
    → IsOpen config symbol new
passed config symbol part new opened is =
    subst (λ (p : OpenPart). IsOpen config symbol p) (sym is) (record {
      within = opened.within;
      markets = opened.markets;
      tick = opened.tick;
      limit = opened.limit;
      reports = opened.reports;
      numbered = opened.numbered;
      fits = opened.fits;
      told = omega arith;
      few = opened.few;
      counted = opened.counted;
    })
