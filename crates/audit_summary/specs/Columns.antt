-- What an event, a report or a resting order counts for a member, and so for all of them.
use Rattle.std.specs.Prelude.{ℕ, ◌==◌, Bool, true, false, if◌then◌else◌, List, length, map, Option, Some, None, option_map, option_to_list, filter_map}
use Rattle.std.specs.Option.{option_map_or}
use Rattle.std.specs.List.{flat_map, range_with_len}
use Rattle.venue_words.specs.declared.command.Command.{Command}
use Rattle.venue_words.specs.declared.command.Command.TheVariants.{Quote, New, Cancel, Replace, Status}
use Rattle.venue_words.specs.declared.command.Event.{Event}
use Rattle.venue_words.specs.declared.report.Execution.TheVariants.{Accepted}
use Rattle.venue_words.specs.declared.report.Kind.{Kind}
use Rattle.venue_words.specs.declared.report.Kind.TheVariants.{Order}
use Rattle.venue_words.specs.declared.report.Report.{Report}
use Rattle.venue_words.specs.declared.row.Priced.{Priced}
use Rattle.eager_meaning.specs.Showing.{row_of_order}
use Rattle.eager_meaning.specs.State.{State, resting}
use Rattle.exec_reports.specs.Parts.{last_quantity_in, rule_in}
use Rattle.audit_summary.specs.Counting.{once, total}

-- ---- events

-- the member whose command it is; a quote is of no member
unfoldable pub member_in : Command → Option ℕ
member_in (Quote market bid offer) = None
member_in (New member id terms) = Some member
member_in (Cancel member id orig) = Some member
member_in (Replace member id orig terms) = Some member
member_in (Status member id side) = Some member

-- a command counts once for its member
abbrev pub command_in : Event → Option (ℕ × ℕ)
command_in event = option_map (λ member. (member, 1)) (member_in event.command)

-- how many events of a journal are commands of a member
abbrev pub commands_of : Option ℕ → List Event → ℕ
commands_of member journal = total member (filter_map command_in journal)

-- ---- reports

-- whether it tells that an order entered
unfoldable pub is_accepted : Kind → Bool
is_accepted (Order view Accepted) = true
is_accepted _ = false

-- a report that an order entered counts once for its member
unfoldable pub accepted_in : Report → Option (ℕ × ℕ)
accepted_in report = if is_accepted report.kind then Some (report.member, 1) else None

-- how many orders of a member entered
abbrev pub accepted_of : Option ℕ → List Report → ℕ
accepted_of member reports = total member (filter_map accepted_in reports)

-- a report of a trade counts once for its member
abbrev pub trade_in : Report → Option (ℕ × ℕ)
trade_in report = option_map (λ quantity. (report.member, 1)) (last_quantity_in report.kind)

-- how many trades a member was told of
abbrev pub trades_of : Option ℕ → List Report → ℕ
trades_of member reports = once member (total member (filter_map trade_in reports))

-- a report of a trade counts its shares for its member
abbrev pub shares_in : Report → Option (ℕ × ℕ)
shares_in report = option_map (λ quantity. (report.member, quantity)) (last_quantity_in report.kind)

-- how many shares a member was told to have traded
abbrev pub shares_of : Option ℕ → List Report → ℕ
shares_of member reports = once member (total member (filter_map shares_in reports))

-- whether it tells that this rule was broken
abbrev pub breaks : ℕ → Kind → Bool
breaks rule kind = option_map_or (λ broken. broken == rule) (rule_in kind) false

-- a report that this rule was broken counts once for its member
unfoldable pub rejected_in : ℕ → Report → Option (ℕ × ℕ)
rejected_in rule report = if breaks rule report.kind then Some (report.member, 1) else None

-- how many commands of a member were rejected or refused by a rule
abbrev pub rejected_of : ℕ → Option ℕ → List Report → ℕ
rejected_of rule member reports = total member (filter_map (rejected_in rule) reports)

-- ---- resting orders

-- the rows of the first so many orders, order by order; an order that does not rest has none
abbrev pub rows_to : ℕ → State → List Priced
rows_to count state = flat_map (λ number. option_to_list (row_of_order number (resting state))) (range_with_len 0 count)

-- the rows of all orders that rest, active or not
abbrev pub resting_rows : State → List Priced
resting_rows state = rows_to (length state.orders) state

-- how many orders of a member rest
abbrev pub resting_orders_of : Option ℕ → State → ℕ
resting_orders_of member state = total member (map (λ x. (x.row.member, 1)) (resting_rows state))

-- how many shares of them are left
abbrev pub resting_shares_of : Option ℕ → State → ℕ
resting_shares_of member state = total member (map (λ x. (x.row.member, x.row.leaves)) (resting_rows state))
