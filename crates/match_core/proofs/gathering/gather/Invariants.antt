use Rattle.std.proofs.Common.{◌≡◌, ◌+◌, ◌*◌, ◌≤◌, ◌⊎◌, length, vec_len}
use Rattle.std.specs.Vec.{vec_capacity}
use Rattle.venue_words.specs.declared.row.Key.{Key}
use Rattle.venue_words.specs.Rows.{IsByEntry}
use Rattle.peg_groups.specs.Side.{Standing, standing_of, taken_row}
use Rattle.match_core.specs.Aside.{taken_rows, IsAlone, Gathered}
use Rattle.std.specs.List.{AllByRecursion}
use Rattle.match_core.proofs.gathering.gather.Given as goal

-- what was set aside so far
abbrev pub invariant-loop-left : goal.invariant-loop-left
invariant-loop-left g l = record {
  sorted : (l.left ≡ l.t.row.leaves) ⊎ IsByEntry (g.S.SideBook.state l.other).rows;
  gathered : Gathered l.t (g.S.SideBook.state l.initial.other).rows (g.S.SideBook.state l.other).rows (taken_rows l.aside.items) l.left;
  best : (g.S.SideBook.state l.other).best ≡ (g.S.SideBook.state l.initial.other).best;
  event : (g.S.SideBook.state l.other).event ≡ (g.S.SideBook.state l.initial.other).event;
  alone : AllByRecursion IsAlone l.aside.items;
  out_fit : AllByRecursion (λ taken. g.S.SideBook.fits l.other (standing_of (taken_row taken))) l.aside.items;
  fits : (standing : Standing) → g.S.SideBook.fits l.initial.other standing → g.S.SideBook.fits l.other standing;
  rows : (key : Key) → g.S.SideBook.row_room l.initial.other key → g.S.SideBook.row_room l.other key;
  moves : g.S.SideBook.move_room l.initial.other → g.S.SideBook.move_room l.other;
  width : g.S.SideBook.width l.other ≡ g.S.SideBook.width l.initial.other;
  room : vec_len l.aside + length (g.S.SideBook.state l.other).rows ≤ vec_capacity l.aside;
  capacity : vec_capacity l.aside ≡ vec_capacity l.initial.aside;
  most : l.steps ≤ l.initial.steps + 1024 * (g.S.SideBook.width l.initial.other + 1) * length l.aside.items;
}

abbrev pub decreases-loop-left : goal.decreases-loop-left
decreases-loop-left g l = length (g.S.SideBook.state l.other).rows
