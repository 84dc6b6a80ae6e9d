use Rattle.std.proofs.Common.{◌≡◌, ◌+◌, ◌*◌, ◌≤◌, ◌++◌, ℕ, length, reverse, vec_len, filter, nat_lt}
use Rattle.std.specs.Vec.{vec_capacity}
use Rattle.venue_words.specs.declared.row.Key.{Key}
use Rattle.eager_meaning.specs.Walk.{walk}
use Rattle.eager_meaning.specs.Matching.{fills_of}
use Rattle.peg_groups.specs.Side.{Standing, standing_of, taken_row}
use Rattle.match_core.specs.Aside.{taken_rows, IsAlone, AreOut, PassesAll, finals, put_filled}
use Rattle.std.specs.List.{AllByRecursion}
use Rattle.match_core.proofs.settling.settle.Given as goal

-- those that are still out trade and come back too
abbrev pub invariant-loop-taken : goal.invariant-loop-taken
invariant-loop-taken g l = record {
  put : put_filled (finals l.t l.left (taken_rows (reverse l.aside.items))) (g.S.SideBook.state l.other).rows ≡ put_filled (finals l.t l.t.row.leaves (taken_rows (reverse l.initial.aside.items))) (g.S.SideBook.state l.initial.other).rows;
  filled : l.fills.items ++ fills_of l.t (filter (λ take. nat_lt 0 take.shares) (walk l.t l.left (taken_rows (reverse l.aside.items)))) ≡ l.initial.fills.items ++ fills_of l.t (filter (λ take. nat_lt 0 take.shares) (walk l.t l.t.row.leaves (taken_rows (reverse l.initial.aside.items))));
  out : AreOut (taken_rows (reverse l.aside.items)) (g.S.SideBook.state l.other).rows;
  passes : (rest : ℕ) × PassesAll l.t l.left (taken_rows (reverse l.aside.items)) rest;
  alone : AllByRecursion IsAlone (reverse l.aside.items);
  out_fit : AllByRecursion (λ taken. g.S.SideBook.fits l.other (standing_of (taken_row taken))) (reverse l.aside.items);
  room : vec_len l.fills + length (reverse l.aside.items) ≤ vec_capacity l.fills;
  best : (g.S.SideBook.state l.other).best ≡ (g.S.SideBook.state l.initial.other).best;
  event : (g.S.SideBook.state l.other).event ≡ (g.S.SideBook.state l.initial.other).event;
  fits : (standing : Standing) → g.S.SideBook.fits l.initial.other standing → g.S.SideBook.fits l.other standing;
  rows : (key : Key) → g.S.SideBook.row_room l.initial.other key → g.S.SideBook.row_room l.other key;
  moves : g.S.SideBook.move_room l.initial.other → g.S.SideBook.move_room l.other;
  width : g.S.SideBook.width l.other ≡ g.S.SideBook.width l.initial.other;
  capacity : vec_capacity l.aside ≡ vec_capacity l.initial.aside;
  fills_capacity : vec_capacity l.fills ≡ vec_capacity l.initial.fills;
  most : l.steps + 512 * length (reverse l.aside.items) ≤ l.initial.steps + 512 * length (reverse l.initial.aside.items);
}

abbrev pub decreases-loop-taken : goal.decreases-loop-taken
decreases-loop-taken g l = vec_len l.aside
