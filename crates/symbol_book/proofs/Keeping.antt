-- A book after one more event.
use Rattle.std.proofs.Common.{◌≡◌, ℕ, zero, suc, ◌+◌, ◌*◌, ◌<◌, ◌≤◌, List, [], ◌∷◌, ◌++◌, length, All, Some, None, refl, ap, sym, ◌∙◌, subst, arith}
use Rattle.std.specs.Prelude.{Option, fold, map, replicate, slice_get, min, max}
use Rattle.std.proofs.lemmas.List.{length-append, length-replicate, append-nil}
use Rattle.std.proofs.lemmas.List.Sums.{fold-append}
use Rattle.venue_words.specs.declared.command.Event.{Event}
use Rattle.venue_words.specs.declared.price.Best.{Best}
use Rattle.venue_words.specs.declared.report.Report.{Report}
use Rattle.venue_words.specs.declared.row.Row.{Row}
use Rattle.venue_words.specs.declared.row.Priced.{Priced}
use Rattle.venue_words.specs.Best.{best_of, either_by}
use Rattle.venue_words.specs.Conditions.{IsTick}
use Rattle.venue_words.specs.declared.limits.TheConstants.{MAX_EVENTS}
use Rattle.eager_meaning.specs.declared.order.Order.{Order}
use Rattle.eager_meaning.specs.declared.notice.Notice.{Notice}
use Rattle.eager_meaning.specs.State.{State}
use Rattle.eager_meaning.specs.Step.{IsNumbered, runs, step, outcome_of, reports_from}
use Rattle.market_laws.specs.Reports.{ReportsAreFew}
use Rattle.market_laws.specs.Sound.{IsSound, BookIsSound}
use Rattle.market_laws.specs.Standing.{AreStanding, RowsStand, next_entries}
use Rattle.symbol_book.specs.Book.{IsKept, KeepsOrders}
use Rattle.symbol_book.specs.Changes.{ids_after}
use Rattle.symbol_book.specs.Ids.{UsedId, IdList, NameOrders, used_of}
use Rattle.symbol_book.specs.Log.{Log, Reports}
use Rattle.symbol_book.specs.Orders.{IsSmall}
use Rattle.symbol_book.specs.State.{state_of}
use Rattle.symbol_book.specs.Worked.{IsWorked}
use Rattle.symbol_book.proofs.Naming.{named_next}

-- one more event is one more step
pub runs_next : (markets tick : ℕ) (journal : List Event) (event : Event) → runs markets tick (journal ++ event ∷ []) ≡ step tick (runs markets tick journal) event
unfolding runs
runs_next markets tick journal event = fold-append (step tick) _ journal (event ∷ [])

-- what was reported is what the event reports
reported_all : (event : Event) (before : List Report) (notices : List Notice) (after : List Report) (next : ℕ) → Reports event before 1 notices after next → after ≡ before ++ reports_from 1 event notices
unfolding reports_from
reported_all event before notices after next told =
    sym (append-nil after) ∙ (told.all [] ∙ ap (λ (ns : List Notice). before ++ reports_from 1 event ns) (append-nil notices))

-- the reports of the journal's run are then what was reported
pub reports_next : (markets tick : ℕ) (journal : List Event) (event : Event) (s : State) (before after : List Report) (place : ℕ)
    → (runs markets tick journal).state ≡ s → (runs markets tick journal).reports ≡ before
    → Reports event before 1 (outcome_of tick event.number event.command s).notices after place
    → (runs markets tick (journal ++ event ∷ [])).reports ≡ after
unfolding step
reports_next markets tick journal event s before after place state reports told =
    rw (runs_next markets tick journal event, state, reports) (sym (reported_all event before _ after place told))

some_event : (x y : Event) → Some x ≡ Some y → x ≡ y
some_event x y e = cc

numbered_from : (first : ℕ) (events : List Event) (event : Event) → ((k : ℕ) (x : Event) → slice_get events k ≡ Some x → x.number ≡ first + k + 1) → event.number ≡ first + length events + 1
    → (k : ℕ) (x : Event) → slice_get (events ++ event ∷ []) k ≡ Some x → x.number ≡ first + k + 1
numbered_from first [] event each last zero x e = subst (λ (y : Event). y.number ≡ first + 0 + 1) (some_event _ _ e) (omega arith)
numbered_from first [] event each last (suc k) x e = cc
numbered_from first (y ∷ ys) event each last zero x e = each 0 x e
numbered_from first (y ∷ ys) event each last (suc k) x e =
    let later = numbered_from (first + 1) ys event (λ j z f. let h = each (suc j) z f in omega arith) (omega arith) k x e in
    omega arith

numbered_next : (journal : List Event) (event : Event) → IsNumbered journal → event.number ≡ length journal + 1 → IsNumbered (journal ++ event ∷ [])
numbered_next journal event numbered number = λ k x e.
    let h = numbered_from 0 journal event (λ j y f. let g = numbered j y f in omega arith) (omega arith) k x e in
    omega arith

pub kept_next : (tick limit : ℕ) (markets : List Best) (buys sells : List Priced) (best : Best) (latest : ℕ) (orders : List Order) (entered : List (Option Row)) (ids : IdList) (log : Log) (journal : List Event)
    (event : Event) (markets' : List Best) (buys' sells' : List Priced) (best' : Best) (latest' : ℕ) (orders' : List Order) (entered' : List (Option Row)) (ids' : IdList) (log' : Log) (place : ℕ)
    → IsKept tick limit markets buys sells best latest orders entered ids log journal
    → length markets' ≡ length markets
    → IsWorked tick event (state_of markets buys sells orders (used_of ids.entries)) entered ids.entries log.list (state_of markets' buys' sells' orders' (used_of ids'.entries)) entered' ids'.entries log'.list place
    → best' ≡ best_of markets'
    → latest' ≤ event.number
    → All IsSmall orders'
    → ids'.placed ≡ []
    → event.number ≡ length journal + 1
    → length journal < limit
    → IsKept tick limit markets' buys' sells' best' latest' orders' entered' ids' log' (journal ++ event ∷ [])
unfolding step
kept_next tick limit markets buys sells best latest orders entered ids log journal event markets' buys' sells' best' latest' orders' entered' ids' log' place kept count worked quote past small settled number below =
    let grown : length (journal ++ event ∷ []) ≡ length journal + 1 = length-append journal (event ∷ []) in
    let s : State = state_of markets buys sells orders (used_of ids.entries) in
    let named = named_next ids.entries tick event.number event.command s refl kept.named in
    let by_orders : NameOrders (ids_after tick event.command s ids.entries) orders' = subst (λ (t : State). NameOrders (ids_after tick event.command s ids.entries) t.orders) worked.state named in
    record {
      ticks = kept.ticks;
      limits = kept.limits;
      state = rw (count, runs_next (length markets) tick journal event, kept.state) worked.state;
      reports = rw count (reports_next (length markets) tick journal event s log.list log'.list place kept.state kept.reports worked.reports);
      quote = quote;
      past = omega arith;
      short = omega arith;
      numbered = numbered_next journal event kept.numbered number;
      rows = rw (count, next_entries (length markets) tick journal event, kept.state, ← kept.rows) worked.rows;
      small = small;
      named = subst (λ (es : List UsedId). NameOrders es orders') (sym worked.ids) by_orders;
      settled = settled;
    }

-- ---- a book without events

-- no market has a quote
abbrev pub NO_QUOTE : Best
NO_QUOTE = record { bid = None; offer = None }

no_bid : (n : ℕ) → fold (either_by max) None (map (λ (row : Best). row.bid) (replicate n NO_QUOTE)) ≡ None
no_bid zero = refl
no_bid (suc n) = no_bid n

no_offer : (n : ℕ) → fold (either_by min) None (map (λ (row : Best). row.offer) (replicate n NO_QUOTE)) ≡ None
no_offer zero = refl
no_offer (suc n) = no_offer n

no_prices : (n : ℕ) → best_of (replicate n NO_QUOTE) ≡ NO_QUOTE
unfolding best_of
no_prices n = rw (no_bid n, no_offer n) refl

none_yet : {X : Type 0} (P : X → Type 0) → All P []
none_yet P = grind arith

pub kept_first : (tick limit markets : ℕ) (best : Best) (latest : ℕ) (ids : IdList) (log : Log) → IsTick tick → limit ≤ MAX_EVENTS
    → best ≡ NO_QUOTE → latest ≡ 0 → ids.entries ≡ [] → ids.placed ≡ [] → log.list ≡ []
    → IsKept tick limit (replicate markets NO_QUOTE) [] [] best latest [] [] ids log []
unfolding runs
kept_first tick limit markets best latest ids log ticks limits quote first empty settled told =
    record {
      ticks = ticks;
      limits = limits;
      state = rw (length-replicate markets NO_QUOTE, empty) refl;
      reports = sym told;
      quote = quote ∙ sym (no_prices markets);
      past = omega arith;
      short = omega arith;
      numbered = λ k event e. cc;
      rows = refl;
      small = none_yet _;
      named = record { each = λ k order e. cc };
      settled = settled;
    }

-- ---- what a book keeps beside its state

module _ (tick limit : ℕ) (markets : List Best) (buys sells : List Priced) (best : Best) (latest : ℕ) (orders : List Order) (entered : List (Option Row)) (ids : IdList) (log : Log) (journal : List Event) (kept : IsKept tick limit markets buys sells best latest orders entered ids log journal) where
  pub keeps_orders : RowsStand → KeepsOrders entered orders (buys ++ sells) ids.entries
  keeps_orders law =
      let rows : AreStanding entered (runs (length markets) tick journal).state =
      subst (λ (es : List (Option Row)). AreStanding es (runs (length markets) tick journal).state) (sym kept.rows) (law (length markets) tick journal kept.numbered) in
      let standing : AreStanding entered (state_of markets buys sells orders (used_of ids.entries)) = subst (λ (s : State). AreStanding entered s) kept.state rows in
      record { small = kept.small; entered_rows = record { count = standing.count; each = standing.rows }; named = kept.named }

  -- no more orders than events, and no more rows than orders
  pub few_orders : BookIsSound → (length orders ≤ length journal) × (length buys + length sells ≤ length orders)
  few_orders law =
      let sound : IsSound (length journal) (state_of markets buys sells orders (used_of ids.entries)) = subst (λ (s : State). IsSound (length journal) s) kept.state (law (length markets) tick journal kept.numbered) in
      (sound.few, sound.fewer)

  pub few_reports : ReportsAreFew → length log.list ≤ 4 * length journal
  few_reports law =
      let few = law (length markets) tick journal kept.numbered in
      omega (arith, few, ap length kept.reports)
