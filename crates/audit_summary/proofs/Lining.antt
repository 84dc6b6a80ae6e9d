-- The line from the sums is the member's.
use Rattle.std.proofs.Common.{◌≡◌, ◌<◌, ◌+◌, ℕ, suc, List, [], ◌∷◌, ◌++◌, length, get_or, refl, sym, ◌∙◌, ap, append_assoc, arith, Option, Some, None}
use Rattle.std.specs.Prelude.{decimal, filter_map}
use Rattle.std.specs.List.{flat_map, range_with_len}
use Rattle.venue_words.specs.declared.command.Event.{Event}
use Rattle.venue_words.specs.declared.config.Config.{Config}
use Rattle.venue_words.specs.declared.report.Report.{Report}
use Rattle.eager_meaning.specs.Step.{Run}
use Rattle.listing.specs.Commands.{name_at}
use Rattle.listing.specs.Lines.{ended}
use Rattle.audit_core.specs.Audited.{run_of}
use Rattle.audit_tables.specs.Cells.{cell}
use Rattle.audit_summary.specs.Columns.{rejected_in, rejected_of}
use Rattle.audit_summary.specs.Counting.{AreTotals, once, total}
use Rattle.audit_summary.specs.Summaries.{lines_to, member_cells, member_line, rejected_cells, summary_text, who_name}
use Rattle.audit_summary.specs.Sums.{AreRejections, AreSums, once_cell, sum_cell, sum_of, sums_cells, sums_line}
use Rattle.audit_summary.proofs.Lists.{flat_next}
use Rattle.audit_summary.specs.declared.sums.Sums.{Sums}
use Rattle.audit_summary.specs.declared.totals.Counted.{Counted}

abbrev told : Option ℕ → List (ℕ × ℕ) → List ℕ
told member pairs = cell (decimal (total member pairs))

-- a member within so many, or all of them
abbrev IsWho : ℕ → Option ℕ → Type 0
IsWho many None = Unit {0}
IsWho many (Some member) = member < many

-- the sum of a column
sum_is : (many : ℕ) (member : Option ℕ) (pairs : List (ℕ × ℕ)) (counted : Counted) → AreTotals many pairs counted → IsWho many member
    → sum_of member counted ≡ total member pairs
sum_is many None pairs counted are is = are.all
sum_is many (Some member) pairs counted are is = are.each member is

-- a field of a column
told_of : (many : ℕ) (member : Option ℕ) (pairs : List (ℕ × ℕ)) (counted : Counted) → AreTotals many pairs counted → IsWho many member
    → sum_cell member counted ≡ told member pairs
told_of many member pairs counted are is = ap (λ (n : ℕ). cell (decimal n)) (sum_is many member pairs counted are is)

once_of : (many : ℕ) (member : Option ℕ) (pairs : List (ℕ × ℕ)) (counted : Counted) → AreTotals many pairs counted → IsWho many member
    → once_cell member counted ≡ cell (decimal (once member (total member pairs)))
once_of many member pairs counted are is = ap (λ (n : ℕ). cell (decimal (once member n))) (sum_is many member pairs counted are is)

abbrev by_rule : Option ℕ → List Report → ℕ → List ℕ
by_rule member reports rule = cell (decimal (rejected_of rule member reports))

-- the fields of the rules from one on
rules_from : (member : Option ℕ) (reports : List Report) (first : ℕ) (columns : List Counted)
    → ((place : ℕ) (column : Counted) → place < length columns → sum_cell member (get_or columns place column) ≡ by_rule member reports (first + place))
    → flat_map (λ column. sum_cell member column) columns ≡ flat_map (by_rule member reports) (range_with_len first (length columns))
rules_from member reports first [] each = refl
rules_from member reports first (column ∷ columns) each =
    let here : first + 0 ≡ first = omega arith in
    let later = rules_from member reports (first + 1) columns (λ place column lt.
    let next : first + suc place ≡ (first + 1) + place = omega arith in
    each (suc place) column (omega (arith, lt)) ∙ ap (by_rule member reports) next) in
    ap (λ (xs : List ℕ). xs ++ flat_map (λ column. sum_cell member column) columns) (each 0 column (omega arith) ∙ ap (by_rule member reports) here)
    ∙ ap (λ (xs : List ℕ). by_rule member reports first ++ xs) later

rules_told : (many : ℕ) (member : Option ℕ) (reports : List Report) (columns : List Counted) → AreRejections many 18 reports columns → IsWho many member
    → flat_map (λ column. sum_cell member column) columns ≡ rejected_cells member reports
rules_told many member reports columns are is =
    rules_from member reports 1 columns (λ place column h.
    let next : place + 1 ≡ 1 + place = omega arith in
    told_of many member (filter_map (rejected_in (place + 1)) reports) (get_or columns place column)
    (are.each place column (omega (arith, h, are.all))) is
    ∙ ap (by_rule member reports) next)
    ∙ ap (λ (n : ℕ). flat_map (by_rule member reports) (range_with_len 1 n)) are.all

join : (a b xs ys : List ℕ) → a ≡ b → xs ≡ ys → a ++ xs ≡ b ++ ys
join a b xs ys e f = ap (λ (c : List ℕ). c ++ xs) e ∙ ap (λ (zs : List ℕ). b ++ zs) f

cells_told : (many : ℕ) (journal : List Event) (run : Run) (sums : Sums) (member : Option ℕ) → AreSums many journal run sums → IsWho many member
    → sums_cells member sums ≡ member_cells member journal run
unfolding sums_cells member_cells
cells_told many journal run sums member are is =
    join _ _ _ _ (join _ _ _ _ (join _ _ _ _ (join _ _ _ _ (join _ _ _ _ (join _ _ _ _
    (told_of many member _ _ are.commands is)
    (told_of many member _ _ are.accepted is))
    (once_of many member _ _ are.trades is))
    (once_of many member _ _ are.shares is))
    (told_of many member _ _ are.resting_orders is))
    (told_of many member _ _ are.resting_shares is))
    (rules_told many member run.reports sums.rejected.items are.rejected is)

-- the whole line
line_told : (config : Config) (symbol : ℕ) (journal : List Event) (sums : Sums) (member : Option ℕ)
    → AreSums (length config.members) journal (run_of config symbol journal) sums → IsWho (length config.members) member
    → sums_line config symbol member sums ≡ member_line config symbol journal member
unfolding sums_line member_line
line_told config symbol journal sums member are is =
    ap (λ (xs : List ℕ). name_at config.symbols symbol ++ cell (who_name config member) ++ xs)
    (cells_told (length config.members) journal (run_of config symbol journal) sums member are is)

-- one more line
pub next_line : (config : Config) (symbol : ℕ) (journal : List Event) (sums : Sums) (member : ℕ) (old now new : List ℕ)
    → AreSums (length config.members) journal (run_of config symbol journal) sums → member < length config.members
    → now ≡ old ++ lines_to member config symbol journal → new ≡ now ++ ended (sums_line config symbol (Some member) sums)
    → new ≡ old ++ lines_to (member + 1) config symbol journal
next_line config symbol journal sums member old now new are lt so_far more =
    more
    ∙ ap (λ (xs : List ℕ). xs ++ ended (sums_line config symbol (Some member) sums)) so_far
    ∙ append_assoc old (lines_to member config symbol journal) (ended (sums_line config symbol (Some member) sums))
    ∙ ap (λ (line : List ℕ). old ++ (lines_to member config symbol journal ++ ended line)) (line_told config symbol journal sums (Some member) are lt)
    ∙ ap (λ (xs : List ℕ). old ++ xs) (sym (flat_next (λ m. ended (member_line config symbol journal (Some m))) member))

-- the line of all members behind those of each
pub last_line : (config : Config) (symbol : ℕ) (journal : List Event) (sums : Sums) (old now new : List ℕ)
    → AreSums (length config.members) journal (run_of config symbol journal) sums
    → now ≡ old ++ lines_to (length config.members) config symbol journal → new ≡ now ++ ended (sums_line config symbol None sums)
    → new ≡ old ++ summary_text config symbol journal
last_line config symbol journal sums old now new are so_far more =
    more
    ∙ ap (λ (xs : List ℕ). xs ++ ended (sums_line config symbol None sums)) so_far
    ∙ append_assoc old (lines_to (length config.members) config symbol journal) (ended (sums_line config symbol None sums))
    ∙ ap (λ (line : List ℕ). old ++ (lines_to (length config.members) config symbol journal ++ ended line)) (line_told config symbol journal sums None are tt)
