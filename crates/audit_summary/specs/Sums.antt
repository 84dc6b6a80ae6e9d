-- The sums of a symbol, by column and member, and the line that they give.
use Rattle.std.specs.Prelude.{◌≡◌, ◌<◌, ◌+◌, ℕ, List, ◌++◌, length, get_or, map, decimal, slice_index, filter_map, Option, Some, None}
use Rattle.std.specs.List.{flat_map}
use Rattle.venue_words.specs.declared.command.Event.{Event}
use Rattle.venue_words.specs.declared.config.Config.{Config}
use Rattle.venue_words.specs.declared.report.Report.{Report}
use Rattle.eager_meaning.specs.Step.{Run}
use Rattle.listing.specs.Commands.{name_at}
use Rattle.audit_tables.specs.Cells.{cell}
use Rattle.audit_summary.specs.declared.sums.Sums.{Sums}
use Rattle.audit_summary.specs.declared.totals.Counted.{Counted}
use Rattle.audit_summary.specs.Columns.{accepted_in, command_in, rejected_in, resting_rows, shares_in, trade_in}
use Rattle.audit_summary.specs.Counting.{AreTotals, once}
use Rattle.audit_summary.specs.Summaries.{who_name}

-- the sums of the first rules, rule by rule
pub record AreRejections (many rules : ℕ) (reports : List Report) (columns : List Counted) : Type 0 where
  pub all : length columns ≡ rules
  pub each : (place : ℕ) (column : Counted) → place < rules
      → AreTotals many (filter_map (rejected_in (place + 1)) reports) (get_or columns place column)

-- the sums for so many members of a journal and what the market's rules make of it
pub record AreSums (many : ℕ) (journal : List Event) (run : Run) (sums : Sums) : Type 0 where
  pub commands : AreTotals many (filter_map command_in journal) sums.commands
  pub accepted : AreTotals many (filter_map accepted_in run.reports) sums.accepted
  pub trades : AreTotals many (filter_map trade_in run.reports) sums.trades
  pub shares : AreTotals many (filter_map shares_in run.reports) sums.shares
  pub resting_orders : AreTotals many (map (λ x. (x.row.member, 1)) (resting_rows run.state)) sums.resting_orders
  pub resting_shares : AreTotals many (map (λ x. (x.row.member, x.row.leaves)) (resting_rows run.state)) sums.resting_shares
  pub rejected : AreRejections many 18 run.reports sums.rejected.items

-- the sum of a member, or of all
abbrev pub sum_of : Option ℕ → Counted → ℕ
sum_of None counted = counted.all
sum_of (Some member) counted = slice_index counted.each.items member

-- a field for it
abbrev pub sum_cell : Option ℕ → Counted → List ℕ
sum_cell member counted = cell (decimal (sum_of member counted))

-- a field for it, of what both parties of a trade are told
abbrev pub once_cell : Option ℕ → Counted → List ℕ
once_cell member counted = cell (decimal (once member (sum_of member counted)))

-- the fields of a member, from the sums
unfoldable pub sums_cells : Option ℕ → Sums → List ℕ
sums_cells member sums =
    sum_cell member sums.commands
    ++ sum_cell member sums.accepted
    ++ once_cell member sums.trades
    ++ once_cell member sums.shares
    ++ sum_cell member sums.resting_orders
    ++ sum_cell member sums.resting_shares
    ++ flat_map (λ column. sum_cell member column) sums.rejected.items

-- the line of a member, from the sums
unfoldable pub sums_line : Config → ℕ → Option ℕ → Sums → List ℕ
sums_line config symbol member sums =
    name_at config.symbols symbol ++ cell (who_name config member) ++ sums_cells member sums
