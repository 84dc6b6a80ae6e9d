-- The rows of orders.
use Rattle.std.proofs.Common.{◌≡◌, ◌<◌, ℕ, List, [], ◌∷◌, length, get_or, Option, refl, sym, ◌∙◌, ap, subst}
use Rattle.std.proofs.lemmas.Option.{slice_get_read}
use Rattle.std.specs.Prelude.{option_map, option_to_list}
use Rattle.venue_words.specs.declared.command.Event.{Event}
use Rattle.venue_words.specs.declared.config.Config.{Config}
use Rattle.venue_words.specs.declared.report.Report.{Report}
use Rattle.venue_words.specs.declared.row.Priced.{Priced}
use Rattle.eager_meaning.specs.declared.order.Order.{Order}
use Rattle.eager_meaning.specs.Showing.{row_of_order}
use Rattle.eager_meaning.specs.State.{resting}
use Rattle.eager_meaning.specs.Step.{Run, runs}
use Rattle.symbol_book.specs.Book.{BookView}
use Rattle.audit_core.specs.Audited.{run_of}
use Rattle.audit_core.specs.Telling.{IsBookOf}
use Rattle.audit_html.specs.Chunks.{Adds}
use Rattle.audit_html.specs.declared.chunks.Chunks.{Chunks}
use Rattle.audit_report.specs.declared.parts.Part.TheVariants.{Orders}
use Rattle.audit_report.specs.Parts.{box}
use Rattle.std.specs.Global.{Vec}
use Rattle.audit_report.specs.declared.lives.At.{At}
use Rattle.audit_report.specs.Orders.{AreLives, order_row, order_rows, row_at, rows_to}

-- the run of a book is that of its symbol
pub run_is : (config : Config) (symbol : ℕ) (book : BookView) → IsBookOf config symbol book
    → runs book.markets book.tick book.journal ≡ run_of config symbol book.journal
run_is config symbol book of =
    ap (λ (m : ℕ). runs m book.tick book.journal) of.markets ∙ ap (λ (t : ℕ). runs (length config.markets) t book.journal) of.tick

row_in : (config : Config) (symbol : ℕ) (journal : List Event) (run : Run) (reports : List Report) (number : ℕ) (order : Order) (x : Option Priced)
    → number < length run.state.orders → order ≡ get_or run.state.orders number order → x ≡ row_of_order number (resting run.state) → reports ≡ run.reports
    → option_to_list (row_at config symbol journal run number) ≡ order_row config symbol journal reports order x ∷ []
row_in config symbol journal run reports number order x lt is x_is reports_are =
    ap (λ (o : Option Order). option_to_list (option_map (λ (order : Order). order_row config symbol journal run.reports order (row_of_order number (resting run.state))) o))
    (slice_get_read run.state.orders (length run.state.orders) number order refl lt is)
    ∙ ap (λ (r : List Report). order_row config symbol journal r order (row_of_order number (resting run.state)) ∷ []) (sym reports_are)
    ∙ ap (λ (x : Option Priced). order_row config symbol journal reports order x ∷ []) (sym x_is)

-- the row of an order
pub row_there : (config : Config) (symbol : ℕ) (book : BookView) (journal : List Event) (reports : List Report) (number : ℕ) (order : Order) (x : Option Priced)
    → IsBookOf config symbol book → journal ≡ book.journal → reports ≡ book.reports
    → number < length (runs book.markets book.tick book.journal).state.orders
    → order ≡ get_or (runs book.markets book.tick book.journal).state.orders number order
    → x ≡ row_of_order number (resting (runs book.markets book.tick book.journal).state)
    → option_to_list (row_at config symbol book.journal (run_of config symbol book.journal) number) ≡ order_row config symbol journal reports order x ∷ []
row_there config symbol book journal reports number order x of journal_is reports_are lt is x_is =
    let run = run_is config symbol book of in
    ap (λ (r : Run). option_to_list (row_at config symbol book.journal r number)) (sym run)
    ∙ row_in config symbol book.journal (runs book.markets book.tick book.journal) reports number order x lt is x_is
    (reports_are ∙ of.reports ∙ ap (λ (r : Run). r.reports) (sym run))
    ∙ ap (λ (j : List Event). order_row config symbol j reports order x ∷ []) (sym journal_is)

-- the rows of so many orders are those of all
pub all_rows : (config : Config) (symbol : ℕ) (book : BookView) (count : ℕ) → IsBookOf config symbol book
    → count ≡ length (runs book.markets book.tick book.journal).state.orders
    → rows_to count config symbol book.journal ≡ order_rows config symbol book.journal
all_rows config symbol book count of is =
    ap (λ (n : ℕ). rows_to n config symbol book.journal) (is ∙ ap (λ (r : Run). length r.state.orders) (run_is config symbol book of))

-- an order's row is added
pub order_added : (config : Config) (symbol : ℕ) (book : BookView) (journal : List Event) (reports : List Report) (number : ℕ) (order : Order) (x : Option Priced)
    (row : List ℕ) (old new : Chunks) → IsBookOf config symbol book → journal ≡ book.journal → reports ≡ book.reports
    → number < length (runs book.markets book.tick book.journal).state.orders
    → order ≡ get_or (runs book.markets book.tick book.journal).state.orders number order
    → x ≡ row_of_order number (resting (runs book.markets book.tick book.journal).state)
    → row ≡ order_row config symbol journal reports order x → Adds (box Orders) (row ∷ []) old new
    → Adds (box Orders) (option_to_list (row_at config symbol book.journal (run_of config symbol book.journal) number)) old new
order_added config symbol book journal reports number order x row old new of journal_is reports_are lt is x_is row_is adds =
    subst (λ (rows : List (List ℕ)). Adds (box Orders) rows old new)
    (ap (λ (r : List ℕ). r ∷ []) row_is ∙ sym (row_there config symbol book journal reports number order x of journal_is reports_are lt is x_is)) adds

-- an order of a book, by its number
pub entry_of : (book : BookView) (orders : List Order) (number : ℕ) (order : Order) → orders ≡ (runs book.markets book.tick book.journal).state.orders
    → order ≡ get_or orders number order → order ≡ get_or (runs book.markets book.tick book.journal).state.orders number order
entry_of book orders number order all is = is ∙ ap (λ (l : List Order). get_or l number order) all

-- it has a bucket
pub has_bucket : (config : Config) (symbol : ℕ) (book : BookView) (journal : List Event) (reports : List Report) (buckets : List (Vec At)) (orders : List Order)
    (number : ℕ) (order : Order) → AreLives config symbol book journal reports buckets → orders ≡ (runs book.markets book.tick book.journal).state.orders
    → number < length (runs book.markets book.tick book.journal).state.orders → order ≡ get_or orders number order → order.first < length buckets
has_bucket config symbol book journal reports buckets orders number order lives all lt is =
    let run = (runs book.markets book.tick book.journal).state.orders in
    lives.room number order (slice_get_read run (length run) number order refl lt (entry_of book orders number order all is))
