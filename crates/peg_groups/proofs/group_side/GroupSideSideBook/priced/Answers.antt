use Rattle.std.proofs.Common.{◌≡◌, Option, Some, None, ℕ}
use Rattle.std.specs.Option.{MatchOption}
use Rattle.venue_words.specs.declared.row.Key.{Key}
use Rattle.venue_words.specs.declared.row.Priced.{Priced}
use Rattle.peg_groups.specs.Side.{IsHeldAt, NoneAt}
use Rattle.peg_groups.specs.Groups.{GroupsView, IsGroupSide, rows_of, NoneIn, PricesRow}
use Rattle.peg_groups.proofs.SideSteps.{none_placed, priced_row}
use Rattle.peg_groups.proofs.group_side.GroupSideSideBook.priced.Goals as goal

outcome : (side : GroupsView) (key : Key) (cap entry : ℕ) (o : Option (Option ℕ × ℕ)) → IsGroupSide side → MatchOption o (NoneIn key cap entry side.entries) (λ pair. PricesRow key cap entry side.entries pair.0 pair.1) → MatchOption o (NoneAt key cap entry (rows_of side.entries)) (λ pair. (row : Priced) × IsHeldAt key cap entry (rows_of side.entries) row × (row.value ≡ pair.0) × (row.time ≡ pair.1))
outcome side key cap entry None s m = none_placed side key cap entry s m
outcome side key cap entry (Some pair) s m = priced_row side key cap entry pair.0 pair.1 s m

pub returns-clause-found : goal.returns-clause-found
returns-clause-found g c = rw (← c.self.view_is) (outcome (record { entries = c.self.inside.groups.entries; best = c.self.inside.best; event = c.self.inside.event }) c.args.key c.args.cap c.args.entry c.look_up.result c.self.invariant.is c.look_up.ensures.found)
