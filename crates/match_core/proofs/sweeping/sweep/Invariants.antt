use Rattle.std.proofs.Common.{◌≡◌, ◌+◌, ◌*◌, ◌≤◌, [], length, vec_len}
use Rattle.std.specs.List.{AllByRecursion}
use Rattle.venue_words.specs.declared.row.Key.{Key}
use Rattle.peg_groups.specs.Side.{Standing, standing_of, taken_row}
use Rattle.match_core.specs.Aside.{IsAlone}
use Rattle.match_core.specs.Rooms.{IsAsRoomy}
use Rattle.match_core.specs.Sweeping.{IsStage, HasStageRoom, stage_of, rest_of_sweep, rest_of_work, fills_and_rows}
use Rattle.match_core.proofs.sweeping.sweep.Given as goal

-- the rest of the sweep, from where the takers that have walked left it, is the rest of the whole
abbrev pub invariant-loop : goal.invariant-loop
invariant-loop g l = record {
  stage : IsStage (stage_of (g.S.SideBook.state l.own).rows (g.S.SideBook.state l.other).rows l.scratch);
  alone : AllByRecursion IsAlone l.scratch.tried.items;
  out_fit : AllByRecursion (λ taken. g.S.SideBook.fits l.own (standing_of (taken_row taken))) l.scratch.tried.items;
  empty : l.scratch.aside.items ≡ [];
  room : HasStageRoom (g.S.SideBook.state l.own).rows (g.S.SideBook.state l.other).rows l.scratch;
  swept : rest_of_sweep (stage_of (g.S.SideBook.state l.initial.own).rows (g.S.SideBook.state l.initial.other).rows l.initial.scratch) ≡ rest_of_sweep (stage_of (g.S.SideBook.state l.own).rows (g.S.SideBook.state l.other).rows l.scratch);
  few : fills_and_rows (stage_of (g.S.SideBook.state l.own).rows (g.S.SideBook.state l.other).rows l.scratch) ≤ fills_and_rows (stage_of (g.S.SideBook.state l.initial.own).rows (g.S.SideBook.state l.initial.other).rows l.initial.scratch);
  more : length l.initial.scratch.fills.items ≤ length l.scratch.fills.items;
  capacity : IsAsRoomy l.initial.scratch l.scratch;
  best : (g.S.SideBook.state l.own).best ≡ (g.S.SideBook.state l.initial.own).best;
  event : (g.S.SideBook.state l.own).event ≡ (g.S.SideBook.state l.initial.own).event;
  fits : (standing : Standing) → g.S.SideBook.fits l.initial.own standing → g.S.SideBook.fits l.own standing;
  rows : (key : Key) → g.S.SideBook.row_room l.initial.own key → g.S.SideBook.row_room l.own key;
  moves : g.S.SideBook.move_room l.initial.own → g.S.SideBook.move_room l.own;
  width : g.S.SideBook.width l.own ≡ g.S.SideBook.width l.initial.own;
  other_best : (g.S.SideBook.state l.other).best ≡ (g.S.SideBook.state l.initial.other).best;
  other_event : (g.S.SideBook.state l.other).event ≡ (g.S.SideBook.state l.initial.other).event;
  other_fits : (standing : Standing) → g.S.SideBook.fits l.initial.other standing → g.S.SideBook.fits l.other standing;
  other_rows : (key : Key) → g.S.SideBook.row_room l.initial.other key → g.S.SideBook.row_room l.other key;
  other_moves : g.S.SideBook.move_room l.initial.other → g.S.SideBook.move_room l.other;
  other_width : g.S.SideBook.width l.other ≡ g.S.SideBook.width l.initial.other;
  most : l.steps + 512 * vec_len l.scratch.tried + 1536 * (g.S.SideBook.width l.initial.own + g.S.SideBook.width l.initial.other + 2) * rest_of_work (stage_of (g.S.SideBook.state l.own).rows (g.S.SideBook.state l.other).rows l.scratch) ≤ l.initial.steps + 512 * vec_len l.initial.scratch.tried + 1536 * (g.S.SideBook.width l.initial.own + g.S.SideBook.width l.initial.other + 2) * rest_of_work (stage_of (g.S.SideBook.state l.initial.own).rows (g.S.SideBook.state l.initial.other).rows l.initial.scratch);
}

abbrev pub decreases-loop : goal.decreases-loop
decreases-loop g l = length (g.S.SideBook.state l.own).rows
