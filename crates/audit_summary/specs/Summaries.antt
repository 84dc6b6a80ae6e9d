-- What each member did in each symbol, counted.
use Rattle.std.specs.Prelude.{ℕ, List, [], ◌++◌, length, codes, decimal, Option, Some, None}
use Rattle.std.specs.List.{flat_map, range_with_len}
use Rattle.venue_words.specs.declared.command.Event.{Event}
use Rattle.venue_words.specs.declared.config.Config.{Config}
use Rattle.venue_words.specs.declared.report.Report.{Report}
use Rattle.eager_meaning.specs.Step.{Run}
use Rattle.listing.specs.Commands.{name_at}
use Rattle.listing.specs.Lines.{ended}
use Rattle.audit_core.specs.Audited.{run_of}
use Rattle.audit_core.specs.Telling.{Telling}
use Rattle.audit_tables.specs.Cells.{cell}
use Rattle.audit_summary.specs.Columns.{accepted_of, commands_of, rejected_of, resting_orders_of, resting_shares_of, shares_of, trades_of}

-- a field for each rule, 1 to 18: how many commands of a member it rejected or refused
abbrev pub rejected_cells : Option ℕ → List Report → List ℕ
rejected_cells member reports = flat_map (λ rule. cell (decimal (rejected_of rule member reports))) (range_with_len 1 18)

-- EVENTS,ACCEPTED,TRADES,SHARES,RESTING_ORDERS,RESTING_SHARES, and a field for each rule: what is counted for a member
unfoldable pub member_cells : Option ℕ → List Event → Run → List ℕ
member_cells member journal run =
    cell (decimal (commands_of member journal))
    ++ cell (decimal (accepted_of member run.reports))
    ++ cell (decimal (trades_of member run.reports))
    ++ cell (decimal (shares_of member run.reports))
    ++ cell (decimal (resting_orders_of member run.state))
    ++ cell (decimal (resting_shares_of member run.state))
    ++ rejected_cells member run.reports

-- the name of a member; a star stands for all of them
abbrev pub who_name : Config → Option ℕ → List ℕ
who_name config None = codes "*"
who_name config (Some member) = name_at config.members member

-- SYMBOL,MEMBER, and what is counted
unfoldable pub member_line : Config → ℕ → List Event → Option ℕ → List ℕ
member_line config symbol journal member =
    name_at config.symbols symbol
    ++ cell (who_name config member)
    ++ member_cells member journal (run_of config symbol journal)

-- the lines of these members of a symbol
abbrev pub lines_to : ℕ → Config → ℕ → List Event → List ℕ
lines_to count config symbol journal =
    flat_map (λ member. ended (member_line config symbol journal (Some member))) (range_with_len 0 count)

-- a line for each member, in the config's order, and one for all of them
abbrev pub summary_text : Config → ℕ → List Event → List ℕ
summary_text config symbol journal =
    lines_to (length config.members) config symbol journal ++ ended (member_line config symbol journal None)

-- all is told at a symbol's end
abbrev pub summary_telling : Telling
summary_telling = record { event = λ _ _ _. []; end = summary_text }

abbrev pub summary_header : List ℕ
summary_header =
    ended (codes "symbol,member,events,accepted,trades,shares,resting_orders,resting_shares,rejected_1_unknown_symbol,rejected_2_used_clordid,rejected_3_quantity,rejected_4_side,rejected_5_order_type,rejected_6_time_in_force,rejected_7_no_price,rejected_8_price,rejected_9_peg_price,rejected_10_peg_move,rejected_11_peg_offset_type,rejected_12_peg_offset,rejected_13_peg_rounding,rejected_14_minimum,rejected_15_minimum_method,rejected_16_unknown_order,rejected_17_other_side,rejected_18_traded_quantity")
