-- One more event of a part adds its line, and the lines of its reports.
use Rattle.std.proofs.Common.{◌≡◌, ◌<◌, ℕ, suc, ◌+◌, ◌==◌, List, [], ◌∷◌, ◌++◌, length, slice_get, Some, refl, sym, ◌∙◌, ap, subst, append_assoc, append-nil, arith, eq-eqb, ne_eqb}
use Rattle.std.specs.Prelude.{filter, fold}
use Rattle.std.specs.List.{AllByRecursion, flat_map}
use Rattle.std.proofs.lemmas.List.Elements.{filter-append}
use Rattle.std.proofs.lemmas.Grind.{flat_map-append}
use Rattle.std.proofs.lemmas.List.Sums.{fold-append}
use Rattle.venue_words.specs.declared.command.Event.{Event}
use Rattle.venue_words.specs.declared.config.Config.{Config}
use Rattle.venue_words.specs.declared.report.Report.{Report}
use Rattle.venue_words.specs.ListLaws.{all_weaken, all_append}
use Rattle.eager_meaning.specs.declared.notice.Notice.{Notice}
use Rattle.eager_meaning.specs.Step.{Run, IsNumbered, outcome_of, reports_from, step, runs}
use Rattle.listing.specs.Listing.{StandByEvent, RunsAreInOrder, event_text, reports_for}
use Rattle.listing.specs.Lines.{event_line, ended}
use Rattle.audit_core.specs.Progress.{report_lines}

abbrev NumberedFrom : ℕ → List Event → Type 0
NumberedFrom n events = (k : ℕ) (event : Event) → slice_get events k ≡ Some event → event.number ≡ n + k

abbrev pub IsOf : ℕ → Report → Type 0
IsOf number report = report.event ≡ number

abbrev pub IsBefore : ℕ → Report → Type 0
IsBefore number report = report.event < number

abbrev pub IsAfter : ℕ → Report → Type 0
IsAfter number report = number < report.event

abbrev ComesBefore : ℕ → Event → Type 0
ComesBefore number event = event.number < number

-- ---- events and reports by their numbers

first_number : (n : ℕ) (event : Event) (events : List Event) → NumberedFrom n (event ∷ events) → event.number ≡ n
first_number n event events numbered = omega (arith, numbered 0 event refl)

later_numbers : (n : ℕ) (event : Event) (events : List Event) → NumberedFrom n (event ∷ events) → NumberedFrom (n + 1) events
later_numbers n event events numbered k x at = omega (arith, numbered (suc k) x at)

reports_before : (n : ℕ) (events : List Event) (reports : List Report) → NumberedFrom n events → StandByEvent events reports
    → AllByRecursion (IsBefore (n + length events)) reports
reports_before n [] reports numbered stand = subst (AllByRecursion (IsBefore (n + 0))) (sym stand) tt
reports_before n (event ∷ events) reports numbered stand =
    let first = first_number n event events numbered in
    let last = n + suc (length events) in
    let own : AllByRecursion (IsBefore last) stand.0 = all_weaken (IsOf event.number) (IsBefore last) (λ r is. omega (arith, is, first)) stand.0 stand.3 in
    let others : AllByRecursion (IsBefore last) stand.1 =
    all_weaken (IsBefore (n + 1 + length events)) (IsBefore last) (λ r is. omega (arith, is)) stand.1
    (reports_before (n + 1) events stand.1 (later_numbers n event events numbered) stand.4) in
    subst (AllByRecursion (IsBefore last)) (sym stand.2) (all_append (IsBefore last) stand.0 stand.1 own others)

events_before : (n : ℕ) (events : List Event) → NumberedFrom n events → AllByRecursion (ComesBefore (n + length events)) events
events_before n [] numbered = tt
events_before n (event ∷ events) numbered = (
  omega (arith, first_number n event events numbered),
  weaker events (events_before (n + 1) events (later_numbers n event events numbered)),
)
  where
    weaker : (more : List Event) → AllByRecursion (ComesBefore (n + 1 + length events)) more → AllByRecursion (ComesBefore (n + suc (length events))) more
    weaker [] h = tt
    weaker (e ∷ more) h = (omega (arith, h.0), weaker more h.1)

-- ---- the reports of one event

filter_all : (n : ℕ) (reports : List Report) → AllByRecursion (IsOf n) reports → filter (λ report. report.event == n) reports ≡ reports
filter_all n [] all = refl
filter_all n (r ∷ rs) all = rw (eq-eqb r.event n all.0) (ap (λ (l : List Report). r ∷ l) (filter_all n rs all.1))

filter_before : (n : ℕ) (reports : List Report) → AllByRecursion (IsBefore n) reports → filter (λ report. report.event == n) reports ≡ []
filter_before n [] all = refl
filter_before n (r ∷ rs) all = rw (ne_eqb r.event n (λ e. omega (arith, e, all.0))) (filter_before n rs all.1)

filter_after : (n : ℕ) (reports : List Report) → AllByRecursion (IsAfter n) reports → filter (λ report. report.event == n) reports ≡ []
filter_after n [] all = refl
filter_after n (r ∷ rs) all = rw (ne_eqb r.event n (λ e. omega (arith, e, all.0))) (filter_after n rs all.1)

filter_other : (n m : ℕ) (reports : List Report) → n < m → AllByRecursion (IsOf m) reports → filter (λ report. report.event == n) reports ≡ []
filter_other n m [] l all = refl
filter_other n m (r ∷ rs) l all = rw (ne_eqb r.event n (λ e. omega (arith, e, all.0))) (filter_other n m rs l all.1)

earlier_same : (event : Event) (m : ℕ) (old news : List Report) → event.number < m → AllByRecursion (IsOf m) news
    → reports_for event (old ++ news) ≡ reports_for event old
earlier_same event m old news l of =
    filter-append (λ report. report.event == event.number) old news
    ∙ ap (λ (x : List Report). reports_for event old ++ x) (filter_other event.number m news l of) ∙ append-nil (reports_for event old)

all_same : (config : Config) (symbol m : ℕ) (events : List Event) (old news : List Report) → AllByRecursion (ComesBefore m) events → AllByRecursion (IsOf m) news
    → flat_map (λ event. event_text config symbol event (reports_for event (old ++ news))) events
    ≡ flat_map (λ event. event_text config symbol event (reports_for event old)) events
all_same config symbol m [] old news before of = refl
all_same config symbol m (event ∷ events) old news before of =
    let here = earlier_same event m old news before.0 of in
    let more = all_same config symbol m events old news before.1 of in
    ap (λ (x : List Report). event_text config symbol event x ++ flat_map (λ event. event_text config symbol event (reports_for event (old ++ news))) events) here
    ∙ ap (λ (x : List ℕ). event_text config symbol event (reports_for event old) ++ x) more

pub last_own : (event : Event) (old news : List Report) → AllByRecursion (IsBefore event.number) old → AllByRecursion (IsOf event.number) news
    → reports_for event (old ++ news) ≡ news
last_own event old news before of =
    filter-append (λ report. report.event == event.number) old news
    ∙ ap (λ (x : List Report). x ++ filter (λ report. report.event == event.number) news) (filter_before event.number old before)
    ∙ filter_all event.number news of

-- those of an event in the middle
pub own_reports : (event : Event) (old news after : List Report) → AllByRecursion (IsBefore event.number) old → AllByRecursion (IsOf event.number) news
    → AllByRecursion (IsAfter event.number) after → reports_for event ((old ++ news) ++ after) ≡ news
own_reports event old news after before of later =
    filter-append (λ report. report.event == event.number) (old ++ news) after
    ∙ ap (λ (x : List Report). reports_for event (old ++ news) ++ x) (filter_after event.number after later)
    ∙ append-nil (reports_for event (old ++ news)) ∙ last_own event old news before of

-- ---- one more event

pub text_of_event : (config : Config) (symbol : ℕ) (event : Event) (told : List Report)
    → event_text config symbol event told ≡ ended (event_line config symbol event) ++ report_lines config symbol told
unfolding event_text
text_of_event config symbol event told = refl

pub events_grow : (config : Config) (symbol : ℕ) (journal : List Event) (event : Event) (old news : List Report)
    → IsNumbered journal → event.number ≡ length journal + 1
    → AllByRecursion (IsBefore event.number) old → AllByRecursion (IsOf event.number) news
    → flat_map (λ e. event_text config symbol e (reports_for e (old ++ news))) (journal ++ event ∷ [])
    ≡ flat_map (λ e. event_text config symbol e (reports_for e old)) journal
    ++ (ended (event_line config symbol event) ++ report_lines config symbol news)
events_grow config symbol journal event old news numbered next before of =
    let from : NumberedFrom 1 journal = λ k e at. omega (arith, numbered k e at) in
    let earlier : AllByRecursion (ComesBefore event.number) journal =
    subst (λ (n : ℕ). AllByRecursion (ComesBefore n) journal) (let e : 1 + length journal ≡ event.number = omega (arith, next) in e) (events_before 1 journal from) in
    let text = λ (e : Event). event_text config symbol e (reports_for e (old ++ news)) in
    flat_map-append text journal (event ∷ [])
    ∙ ap (λ (x : List ℕ). x ++ (text event ++ [])) (all_same config symbol event.number journal old news earlier of)
    ∙ ap (λ (x : List ℕ). flat_map (λ e. event_text config symbol e (reports_for e old)) journal ++ x)
    (append-nil (text event) ∙ ap (event_text config symbol event) (last_own event old news before of) ∙ text_of_event config symbol event news)

-- ---- what an event makes

reports_of : (place : ℕ) (event : Event) (notices : List Notice) → AllByRecursion (IsOf event.number) (reports_from place event notices)
unfolding reports_from
reports_of place event [] = tt
reports_of place event (notice ∷ notices) = (refl, reports_of (place + 1) event notices)

-- the reports of one more event stand behind those of the events before it
pub record Adds (markets tick : ℕ) (journal : List Event) (event : Event) : Type 0 where
  pub news : List Report
  pub grown : (runs markets tick (journal ++ event ∷ [])).reports ≡ (runs markets tick journal).reports ++ news
  pub own : AllByRecursion (IsOf event.number) news

pub runs_more : (markets tick : ℕ) (journal : List Event) (event : Event) → Adds markets tick journal event
unfolding runs step
runs_more markets tick journal event =
    let run = runs markets tick journal in
    let notices = (outcome_of tick event.number event.command run.state).notices in
    record {
      news = reports_from 1 event notices;
      grown = ap (λ (r : Run). r.reports) (fold-append (step tick) _ journal (event ∷ []));
      own = reports_of 1 event notices;
    }

-- the reports of later events stand behind those of the events before them
pub record GoesOn (markets tick : ℕ) (journal later : List Event) : Type 0 where
  pub news : List Report
  pub grown : (runs markets tick (journal ++ later)).reports ≡ (runs markets tick journal).reports ++ news
  pub after : AllByRecursion (IsAfter (length journal)) news

numbered_behind : (n : ℕ) (xs ys : List Event) → NumberedFrom n (xs ++ ys) → NumberedFrom (n + length xs) ys
numbered_behind n [] ys numbered k event at = omega (arith, numbered k event at)
numbered_behind n (x ∷ xs) ys numbered k event at =
    omega (arith, numbered_behind (n + 1) xs ys (later_numbers n x (xs ++ ys) numbered) k event at)

record Folds (tick n : ℕ) (run : Run) (later : List Event) : Type 0 where
  pub news : List Report
  pub grown : (fold (step tick) run later).reports ≡ run.reports ++ news
  pub after : AllByRecursion (IsAfter n) news

folds : (tick n : ℕ) (run : Run) (later : List Event) → NumberedFrom (n + 1) later → Folds tick n run later
unfolding step
folds tick n run [] numbered = record { news = []; grown = sym (append-nil run.reports); after = tt }
folds tick n run (event ∷ later) numbered =
    let notices = (outcome_of tick event.number event.command run.state).notices in
    let made = reports_from 1 event notices in
    let more = folds tick (n + 1) (step tick run event) later (later_numbers (n + 1) event later numbered) in
    let first : event.number ≡ n + 1 = first_number (n + 1) event later numbered in
    let own : AllByRecursion (IsAfter n) made = all_weaken (IsOf event.number) (IsAfter n) (λ r is. omega (arith, is, first)) made (reports_of 1 event notices) in
    let others : AllByRecursion (IsAfter n) more.news = all_weaken (IsAfter (n + 1)) (IsAfter n) (λ r is. omega (arith, is)) more.news more.after in
    record {
      news = made ++ more.news;
      grown = more.grown ∙ append_assoc run.reports made more.news;
      after = all_append (IsAfter n) made more.news own others;
    }

pub runs_go_on : (markets tick : ℕ) (journal later : List Event) → IsNumbered (journal ++ later) → GoesOn markets tick journal later
unfolding runs
runs_go_on markets tick journal later numbered =
    let from : NumberedFrom 1 (journal ++ later) = λ k e at. omega (arith, numbered k e at) in
    let behind : NumberedFrom (length journal + 1) later = λ k e at. omega (arith, numbered_behind 1 journal later from k e at) in
    let more = folds tick (length journal) (runs markets tick journal) later behind in
    record {
      news = more.news;
      grown = ap (λ (r : Run). r.reports) (fold-append (step tick) _ journal later) ∙ more.grown;
      after = more.after;
    }

pub runs_before : RunsAreInOrder → (markets tick : ℕ) (journal : List Event) → IsNumbered journal → AllByRecursion (IsBefore (length journal + 1)) (runs markets tick journal).reports
runs_before in_order markets tick journal numbered =
    let from : NumberedFrom 1 journal = λ k e at. omega (arith, numbered k e at) in
    let stand = (in_order markets tick journal numbered).by_event in
    let e : 1 + length journal ≡ length journal + 1 = omega arith in
    subst (λ (n : ℕ). AllByRecursion (IsBefore n) (runs markets tick journal).reports) e (reports_before 1 journal (runs markets tick journal).reports from stand)
