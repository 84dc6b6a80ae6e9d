-- A listing is that of one list of journals.
use Rattle.std.proofs.Common.{◌≡◌, ◌≤◌, ◌<◌, ℕ, zero, suc, ◌+◌, true, List, [], ◌∷◌, ◌++◌, length, map, slice_get, Some, refl, sym, ◌∙◌, ap, subst, append_assoc, arith}
use Rattle.std.specs.List.{AllByRecursion}
use Rattle.std.proofs.lemmas.Bool.{lt-ltb}
use Rattle.std.proofs.lemmas.List.{length-append}
use Rattle.venue_words.specs.Conditions.{IsConfig}
use Rattle.venue_words.specs.declared.config.Config.{Config}
use Rattle.venue_words.specs.declared.command.Event.{Event}
use Rattle.venue_words.specs.declared.report.Report.{Report}
use Rattle.eager_meaning.specs.Step.{IsNumbered}
use Rattle.market_laws.specs.Reports.{ReportsAreFew}
use Rattle.listing.specs.Commands.{name_at}
use Rattle.listing.specs.Lines.{symbol_line, event_line, ended}
use Rattle.listing.specs.Listing.{Part, RunsAreInOrder, listing_from, reports_for}
use Rattle.listing_reader.specs.Fitting.{fits_event, fits_number, has_word_names}
use Rattle.listing_reader.proofs.Events.{same_event}
use Rattle.audit_core.specs.Audited.{AreParts, limit_at, run_of, tick_at}
use Rattle.audit_core.specs.Names.{has_line_names}
use Rattle.audit_core.specs.Ahead.{event_lines}
use Rattle.audit_core.specs.Progress.{report_lines}
use Rattle.audit_core.proofs.Awaiting.{event_front, front_of_part, limit_small, same_line}
use Rattle.audit_core.proofs.Clearing.{event_clear, symbol_clear}
use Rattle.audit_core.proofs.Growing.{IsAfter, IsBefore, own_reports, runs_before, runs_go_on, runs_more}

-- ---- the reports of an event do not depend on later ones

at_front : (xs ys : List Event) (k : ℕ) (event : Event) → slice_get xs k ≡ Some event → slice_get (xs ++ ys) k ≡ Some event
at_front [] ys k event at = absurd (cc)
at_front (x ∷ xs) ys zero event at = at
at_front (x ∷ xs) ys (suc k) event at = at_front xs ys k event at

numbered_front : (xs ys : List Event) → IsNumbered (xs ++ ys) → IsNumbered xs
numbered_front xs ys numbered k event at = numbered k event (at_front xs ys k event at)

at_place : (xs ys : List Event) (event : Event) → slice_get (xs ++ event ∷ ys) (length xs) ≡ Some event
at_place [] ys event = refl
at_place (x ∷ xs) ys event = at_place xs ys event

module _ (in_order : RunsAreInOrder) (config : Config) (symbol : ℕ) where
  abbrev markets : ℕ
  markets = length config.markets

  abbrev tick : ℕ
  tick = tick_at config symbol

  own : (before : List Event) (event : Event) (later journal : List Event) → journal ≡ before ++ event ∷ later → IsNumbered journal
      → reports_for event (run_of config symbol journal).reports ≡ (runs_more markets tick before event).news
  own before event later journal is numbered =
      let parts : before ++ event ∷ later ≡ (before ++ event ∷ []) ++ later = sym (append_assoc before (event ∷ []) later) in
      let all : IsNumbered ((before ++ event ∷ []) ++ later) = subst IsNumbered (is ∙ parts) numbered in
      let adds = runs_more markets tick before event in
      let goes = runs_go_on markets tick (before ++ event ∷ []) later all in
      let number : event.number ≡ length before + 1 = numbered (length before) event (ap (λ (j : List Event). slice_get j (length before)) is ∙ at_place before later event) in
      let size : length (before ++ event ∷ []) ≡ event.number = length-append before (event ∷ []) ∙ (let e : length before + 1 ≡ event.number = omega (arith, number) in e) in
      let made : (run_of config symbol journal).reports ≡ ((run_of config symbol before).reports ++ adds.news) ++ goes.news =
      ap (λ (j : List Event). (run_of config symbol j).reports) (is ∙ parts) ∙ goes.grown ∙ ap (λ (r : List Report). r ++ goes.news) adds.grown in
      ap (reports_for event) made
      ∙ own_reports event (run_of config symbol before).reports adds.news goes.news
      (subst (λ (n : ℕ). AllByRecursion (IsBefore n) (run_of config symbol before).reports) (sym number)
      (runs_before in_order markets tick before (numbered_front before (event ∷ []) (numbered_front (before ++ event ∷ []) later all)))) adds.own
      (subst (λ (n : ℕ). AllByRecursion (IsAfter n) goes.news) size goes.after)

-- ---- a symbol

drop_front : (a b c : List ℕ) → a ++ b ≡ a ++ c → b ≡ c
drop_front [] b c e = e
drop_front (x ∷ a) b c e = drop_front a b c (let rest : a ++ b ≡ a ++ c = cc in rest)

first_byte : (x y : ℕ) (xs ys : List ℕ) → x ∷ xs ≡ y ∷ ys → x ≡ y
first_byte x y xs ys e = cc

-- no event stands at the front of these bytes
abbrev NoEvent : Config → ℕ → List ℕ → Type 0
NoEvent config symbol text = (event : Event) (more : List ℕ) → text ≡ ended (event_line config symbol event) ++ more → ⊥

other_line : (config : Config) (symbol n events reports : ℕ) (event : Event) (rest more : List ℕ)
    → ended (symbol_line (name_at config.symbols n) events reports) ++ rest ≡ ended (event_line config symbol event) ++ more → ⊥
unfolding symbol_line event_line
other_line config symbol n events reports event rest more both = absurd (omega (arith, first_byte 83 74 _ _ both))

no_event : (config : Config) (symbol n : ℕ) (parts : List Part) → NoEvent config symbol (listing_from config n parts)
unfolding event_line
no_event config symbol n [] event more e = absurd (cc)
no_event config symbol n (part ∷ parts) event more e =
    other_line config symbol n (length part.journal) (length part.reports) event
    (event_lines config n part.journal part.reports ++ listing_from config (n + 1) parts) more
    (sym (front_of_part config n part parts) ∙ e)

module _ (in_order : RunsAreInOrder) (config : Config) (symbol : ℕ) (is : IsConfig config) (words : has_word_names config ≡ true) (lines : has_line_names config ≡ true) (one two : List Event) (numbered_one : IsNumbered one) (numbered_two : IsNumbered two) where
  abbrev told_one : List Report
  told_one = (run_of config symbol one).reports

  abbrev told_two : List Report
  told_two = (run_of config symbol two).reports

  same_events : (before later others : List Event) (r q : List ℕ) → one ≡ before ++ later → two ≡ before ++ others
      → AllByRecursion (λ event. fits_event config event ≡ true) later → AllByRecursion (λ event. fits_event config event ≡ true) others
      → NoEvent config symbol r → NoEvent config symbol q
      → event_lines config symbol later told_one ++ r ≡ event_lines config symbol others told_two ++ q → (later ≡ others) × (r ≡ q)
  same_events before [] [] r q a b fits others_fit none other e = (refl, e)
  same_events before [] (y ∷ ys) r q a b fits others_fit none other e =
      absurd (none y _ (e ∙ event_front config symbol y ys told_two q))
  same_events before (x ∷ xs) [] r q a b fits others_fit none other e =
      absurd (other x _ (sym e ∙ event_front config symbol x xs told_one r))
  same_events before (x ∷ xs) (y ∷ ys) r q a b fits others_fit none other e =
      let tail_one = report_lines config symbol (reports_for x told_one) ++ (event_lines config symbol xs told_one ++ r) in
      let tail_two = report_lines config symbol (reports_for y told_two) ++ (event_lines config symbol ys told_two ++ q) in
      let both : ended (event_line config symbol x) ++ tail_one ≡ ended (event_line config symbol y) ++ tail_two =
      sym (event_front config symbol x xs told_one r) ∙ e ∙ event_front config symbol y ys told_two q in
      let split = same_line (event_line config symbol x) (event_line config symbol y) tail_one tail_two (event_clear config symbol x lines fits.0)
      (event_clear config symbol y lines others_fit.0) both in
      let first : x ≡ y = same_event config symbol symbol x y is words fits.0 others_fit.0 split.0 in
      let reports : reports_for x told_one ≡ reports_for y told_two =
      own in_order config symbol before x xs one a numbered_one
      ∙ ap (λ (event : Event). (runs_more (length config.markets) (tick_at config symbol) before event).news) first
      ∙ sym (own in_order config symbol before y ys two b numbered_two) in
      let rests : event_lines config symbol xs told_one ++ r ≡ event_lines config symbol ys told_two ++ q =
      drop_front (report_lines config symbol (reports_for x told_one)) _ _
      (split.1 ∙ ap (λ (l : List Report). report_lines config symbol l ++ (event_lines config symbol ys told_two ++ q)) (sym reports)) in
      let more = same_events (before ++ x ∷ []) xs ys r q (a ∙ sym (append_assoc before (x ∷ []) xs))
      (b ∙ ap (λ (event : Event). before ++ event ∷ ys) (sym first) ∙ sym (append_assoc before (x ∷ []) ys)) fits.1 others_fit.1 none other rests in
      (λ k. first k ∷ more.0 k, more.1)

-- ---- all symbols

abbrev journals : List Part → List (List Event)
journals parts = map (λ part. part.journal) parts

small : (few : ReportsAreFew) (config : Config) (symbol : ℕ) (part : Part) → IsConfig config → symbol < length config.symbols → IsNumbered part.journal
    → length part.journal ≤ limit_at config symbol → part.reports ≡ (run_of config symbol part.journal).reports
    → (fits_number (length part.journal) ≡ true) × (fits_number (length part.reports) ≡ true)
small few config symbol part is within numbered most reports =
    let limit = limit_small config symbol is within in
    let total = few (length config.markets) (tick_at config symbol) part.journal numbered in
    let told : length part.reports ≡ length (run_of config symbol part.journal).reports = ap (λ (l : List Report). length l) reports in
    (lt-ltb _ _ (omega (arith, limit, most)), lt-ltb _ _ (omega (arith, limit, most, total, told)))

module _ (in_order : RunsAreInOrder) (few : ReportsAreFew) (config : Config) (is : IsConfig config) (words : has_word_names config ≡ true) (lines : has_line_names config ≡ true) where
  same_parts : (symbol : ℕ) (parts others : List Part) → symbol + length parts ≡ length config.symbols → symbol + length others ≡ length config.symbols
      → AreParts config symbol parts → AreParts config symbol others → listing_from config symbol parts ≡ listing_from config symbol others
      → journals parts ≡ journals others
  same_parts symbol [] [] each other made others_made e = refl
  same_parts symbol [] (q ∷ qs) each other made others_made e = absurd (omega (arith, each, other))
  same_parts symbol (p ∷ ps) [] each other made others_made e = absurd (omega (arith, each, other))
  same_parts symbol (p ∷ ps) (q ∷ qs) each other made others_made e =
      let within : symbol < length config.symbols = omega (arith, each) in
      let a = small few config symbol p is within made.0.numbered made.0.few made.0.reports in
      let b = small few config symbol q is within others_made.0.numbered others_made.0.few others_made.0.reports in
      let split = same_line (symbol_line (name_at config.symbols symbol) (length p.journal) (length p.reports))
      (symbol_line (name_at config.symbols symbol) (length q.journal) (length q.reports))
      (event_lines config symbol p.journal p.reports ++ listing_from config (symbol + 1) ps)
      (event_lines config symbol q.journal q.reports ++ listing_from config (symbol + 1) qs)
      (symbol_clear config symbol (length p.journal) (length p.reports) lines a.0 a.1) (symbol_clear config symbol (length q.journal) (length q.reports) lines b.0 b.1)
      (sym (front_of_part config symbol p ps) ∙ e ∙ front_of_part config symbol q qs) in
      let told : event_lines config symbol p.journal (run_of config symbol p.journal).reports ++ listing_from config (symbol + 1) ps
      ≡ event_lines config symbol q.journal (run_of config symbol q.journal).reports ++ listing_from config (symbol + 1) qs =
      ap (λ (l : List Report). event_lines config symbol p.journal l ++ listing_from config (symbol + 1) ps) (sym made.0.reports)
      ∙ split.1 ∙ ap (λ (l : List Report). event_lines config symbol q.journal l ++ listing_from config (symbol + 1) qs) others_made.0.reports in
      let same = same_events in_order config symbol is words lines p.journal q.journal made.0.numbered others_made.0.numbered [] p.journal q.journal
      (listing_from config (symbol + 1) ps) (listing_from config (symbol + 1) qs) refl refl made.0.fits others_made.0.fits
      (no_event config symbol (symbol + 1) ps) (no_event config symbol (symbol + 1) qs) told in
      let more = same_parts (symbol + 1) ps qs (omega (arith, each)) (omega (arith, other)) made.1 others_made.1 same.1 in
      λ k. same.0 k ∷ more k

  -- two lists of journals with one listing are the same
  pub one_listing : (parts others : List Part) → length parts ≡ length config.symbols → length others ≡ length config.symbols → AreParts config 0 parts
      → AreParts config 0 others → listing_from config 0 parts ≡ listing_from config 0 others → journals parts ≡ journals others
  one_listing parts others each other made others_made e =
      same_parts 0 parts others (omega (arith, each)) (omega (arith, other)) made others_made e
