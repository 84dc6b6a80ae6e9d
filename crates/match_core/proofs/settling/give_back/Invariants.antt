use Rattle.std.proofs.Common.{◌≡◌, ◌+◌, ◌*◌, ◌≤◌, length, reverse, vec_len}
use Rattle.std.specs.Vec.{vec_capacity}
use Rattle.venue_words.specs.declared.row.Key.{Key}
use Rattle.peg_groups.specs.Side.{Standing, standing_of, taken_row}
use Rattle.match_core.specs.Aside.{taken_rows, IsAlone, AreOut, put_filled}
use Rattle.std.specs.List.{AllByRecursion}
use Rattle.match_core.proofs.settling.give_back.Given as goal

-- those that are still out come back too
abbrev pub invariant-loop-taken : goal.invariant-loop-taken
invariant-loop-taken g l = record {
  put : put_filled (taken_rows (reverse l.aside.items)) (g.S.SideBook.state l.other).rows ≡ put_filled (taken_rows (reverse l.initial.aside.items)) (g.S.SideBook.state l.initial.other).rows;
  out : AreOut (taken_rows (reverse l.aside.items)) (g.S.SideBook.state l.other).rows;
  alone : AllByRecursion IsAlone (reverse l.aside.items);
  out_fit : AllByRecursion (λ taken. g.S.SideBook.fits l.other (standing_of (taken_row taken))) (reverse l.aside.items);
  best : (g.S.SideBook.state l.other).best ≡ (g.S.SideBook.state l.initial.other).best;
  event : (g.S.SideBook.state l.other).event ≡ (g.S.SideBook.state l.initial.other).event;
  fits : (standing : Standing) → g.S.SideBook.fits l.initial.other standing → g.S.SideBook.fits l.other standing;
  rows : (key : Key) → g.S.SideBook.row_room l.initial.other key → g.S.SideBook.row_room l.other key;
  moves : g.S.SideBook.move_room l.initial.other → g.S.SideBook.move_room l.other;
  width : g.S.SideBook.width l.other ≡ g.S.SideBook.width l.initial.other;
  capacity : vec_capacity l.aside ≡ vec_capacity l.initial.aside;
  most : l.steps + 512 * length (reverse l.aside.items) ≤ l.initial.steps + 512 * length (reverse l.initial.aside.items);
}

abbrev pub decreases-loop-taken : goal.decreases-loop-taken
decreases-loop-taken g l = vec_len l.aside
