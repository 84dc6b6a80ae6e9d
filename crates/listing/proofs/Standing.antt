-- A journal whose reports stand event by event is walked with each event's own reports.
use Rattle.std.proofs.Common.{◌≡◌, ◌≤◌, ◌<◌, ℕ, suc, ◌+◌, ◌==◌, List, [], ◌∷◌, ◌++◌, length, take, drop, slice_get, Some, refl, sym, ◌∙◌, ap, subst, append_assoc, append-nil, arith, eq-eqb, ne_eqb}
use Rattle.std.specs.Prelude.{filter}
use Rattle.std.specs.List.{AllByRecursion, flat_map}
use Rattle.std.proofs.Math.Seq.{take-append_seam}
use Rattle.std.proofs.lemmas.List.Elements.{filter-append}
use Rattle.std.proofs.lemmas.List.Concat.{flat_map-cons}
use Rattle.venue_words.specs.declared.command.Event.{Event}
use Rattle.venue_words.specs.declared.config.Config.{Config}
use Rattle.venue_words.specs.declared.report.Report.{Report}
use Rattle.venue_words.specs.ListLaws.{all_weaken, all_append}
use Rattle.listing.specs.Listing.{StandByEvent, IsInOrder, event_text, reports_for}
use Rattle.listing.specs.Walking.{count_of, walked}

-- the events are numbered from n on
abbrev NumberedFrom : ℕ → List Event → Type 0
NumberedFrom n events = (k : ℕ) (event : Event) → slice_get events k ≡ Some event → event.number ≡ n + k

abbrev IsOf : ℕ → Report → Type 0
IsOf number report = report.event ≡ number

abbrev IsFrom : ℕ → Report → Type 0
IsFrom number report = number ≤ report.event

abbrev IsBefore : ℕ → Report → Type 0
IsBefore number report = report.event < number

first_number : (n : ℕ) (event : Event) (events : List Event) → NumberedFrom n (event ∷ events) → event.number ≡ n
first_number n event events numbered = omega (arith, numbered 0 event refl)

later_numbers : (n : ℕ) (event : Event) (events : List Event) → NumberedFrom n (event ∷ events) → NumberedFrom (n + 1) events
later_numbers n event events numbered k x at = omega (arith, numbered (suc k) x at)

-- no report of events numbered from n on has a smaller number
none_before : (n : ℕ) (events : List Event) (reports : List Report) → NumberedFrom n events → StandByEvent events reports
    → AllByRecursion (IsFrom n) reports
none_before n [] reports numbered stand = subst (AllByRecursion (IsFrom n)) (sym stand) tt
none_before n (event ∷ events) reports numbered stand =
    let first = first_number n event events numbered in
    let own : AllByRecursion (IsFrom n) stand.0 =
    all_weaken (IsOf event.number) (IsFrom n) (λ r is. omega (arith, is, first)) stand.0 stand.3 in
    let others : AllByRecursion (IsFrom n) stand.1 =
    all_weaken (IsFrom (n + 1)) (IsFrom n) (λ r is. omega (arith, is)) stand.1
    (none_before (n + 1) events stand.1 (later_numbers n event events numbered) stand.4) in
    subst (AllByRecursion (IsFrom n)) (sym stand.2) (all_append (IsFrom n) stand.0 stand.1 own others)

-- ---- the reports of one event

filter_all : (n : ℕ) (reports : List Report) → AllByRecursion (IsOf n) reports
    → filter (λ report. report.event == n) reports ≡ reports
filter_all n [] all = refl
filter_all n (r ∷ rs) all = rw (eq-eqb r.event n all.0) (ap (λ (l : List Report). r ∷ l) (filter_all n rs all.1))

filter_before : (n : ℕ) (reports : List Report) → AllByRecursion (IsBefore n) reports
    → filter (λ report. report.event == n) reports ≡ []
filter_before n [] all = refl
filter_before n (r ∷ rs) all = rw (ne_eqb r.event n (λ e. omega (arith, e, all.0))) (filter_before n rs all.1)

filter_after : (n : ℕ) (reports : List Report) → AllByRecursion (IsFrom (n + 1)) reports
    → filter (λ report. report.event == n) reports ≡ []
filter_after n [] all = refl
filter_after n (r ∷ rs) all = rw (ne_eqb r.event n (λ e. omega (arith, e, all.0))) (filter_after n rs all.1)

count_front : (n : ℕ) (told later : List Report) → AllByRecursion (IsOf n) told → AllByRecursion (IsFrom (n + 1)) later
    → count_of n (told ++ later) ≡ length told
count_front n [] [] own others = refl
count_front n [] (r ∷ rs) own others = rw (ne_eqb r.event n (λ e. omega (arith, e, others.0))) refl
count_front n (r ∷ rs) later own others = rw (eq-eqb r.event n own.0) (omega (arith, count_front n rs later own.1 others))

drop_seam : (told later : List Report) → drop (length told) (told ++ later) ≡ later
drop_seam [] later = refl
drop_seam (r ∷ rs) later = drop_seam rs later

own_reports : (n : ℕ) (before told later : List Report)
    → AllByRecursion (IsBefore n) before → AllByRecursion (IsOf n) told → AllByRecursion (IsFrom (n + 1)) later
    → filter (λ report. report.event == n) (before ++ (told ++ later)) ≡ told
own_reports n before told later early own others =
    filter-append (λ report. report.event == n) before (told ++ later)
    ∙ ap (λ (l : List Report). l ++ filter (λ report. report.event == n) (told ++ later)) (filter_before n before early)
    ∙ filter-append (λ report. report.event == n) told later
    ∙ ap (λ (l : List Report). l ++ filter (λ report. report.event == n) later) (filter_all n told own)
    ∙ ap (λ (l : List Report). told ++ l) (filter_after n later others)
    ∙ append-nil told

-- ---- all of them

walks_from : (config : Config) (symbol n : ℕ) (events : List Event) (before reports : List Report)
    → NumberedFrom n events → StandByEvent events reports → AllByRecursion (IsBefore n) before
    → walked config symbol events reports
    ≡ flat_map (λ event. event_text config symbol event (reports_for event (before ++ reports))) events
walks_from config symbol n [] before reports numbered stand early = refl
walks_from config symbol n (event ∷ events) before reports numbered stand early =
    let told = stand.0 in
    let later = stand.1 in
    let number = event.number in
    let is : number ≡ n = first_number n event events numbered in
    let own : AllByRecursion (IsOf number) told = stand.3 in
    let others : AllByRecursion (IsFrom (number + 1)) later =
    subst (λ (m : ℕ). AllByRecursion (IsFrom (m + 1)) later) (sym is)
    (none_before (n + 1) events later (later_numbers n event events numbered) stand.4) in
    let front : take (count_of number reports) reports ≡ told =
    (λ k. take (count_of number (stand.2 k)) (stand.2 k))
    ∙ ap (λ (m : ℕ). take m (told ++ later)) (count_front number told later own others)
    ∙ take-append_seam told later in
    let back : drop (count_of number reports) reports ≡ later =
    (λ k. drop (count_of number (stand.2 k)) (stand.2 k))
    ∙ ap (λ (m : ℕ). drop m (told ++ later)) (count_front number told later own others)
    ∙ drop_seam told later in
    let mine : reports_for event (before ++ reports) ≡ told =
    ap (λ (l : List Report). reports_for event (before ++ l)) stand.2
    ∙ own_reports number before told later (subst (λ (m : ℕ). AllByRecursion (IsBefore m) before) (sym is) early) own others in
    let all : (before ++ told) ++ later ≡ before ++ reports =
    append_assoc before told later ∙ ap (λ (l : List Report). before ++ l) (sym stand.2) in
    let past : AllByRecursion (IsBefore (n + 1)) (before ++ told) =
    all_append (IsBefore (n + 1)) before told
    (all_weaken (IsBefore n) (IsBefore (n + 1)) (λ r b. omega (arith, b)) before early)
    (all_weaken (IsOf number) (IsBefore (n + 1)) (λ r o. omega (arith, o, is)) told own) in
    (λ k. event_text config symbol event (front k) ++ walked config symbol events (back k))
    ∙ ap (λ (l : List ℕ). event_text config symbol event told ++ l)
    (walks_from config symbol (n + 1) events (before ++ told) later (later_numbers n event events numbered) stand.4 past)
    ∙ (λ k. event_text config symbol event (sym mine k)
    ++ flat_map (λ x. event_text config symbol x (reports_for x (all k))) events)
    ∙ sym (flat_map-cons (λ x. event_text config symbol x (reports_for x (before ++ reports))) event events)

-- each event is walked with its own reports
pub walks : (config : Config) (symbol : ℕ) (journal : List Event) (reports : List Report) → IsInOrder journal reports
    → walked config symbol journal reports
    ≡ flat_map (λ event. event_text config symbol event (reports_for event reports)) journal
walks config symbol journal reports order =
    walks_from config symbol 1 journal [] reports (λ k event at. omega (arith, order.numbered k event at)) order.by_event tt
