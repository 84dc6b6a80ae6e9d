use Rattle.std.proofs.Common.{◌≡◌, ap, List, length, refl, Option, Some, None, ℕ, arith, ◌≤◌, ◌-◌, is_some, true}
use Rattle.std.specs.Option.{MatchOption, IsNone, IfSome}
use Rattle.std.specs.declared.boxed.Box.{Box}
use Rattle.std.specs.declared.alloc.Global.{Global}
use Rattle.std.specs.Prelude.{if◌then◌else◌}
use Rattle.peg_groups.specs.declared.group_side.GroupSide.TheInside.{Inside}
use Rattle.peg_groups.proofs.Counting.{length_without}
use Rattle.limit_tree.specs.Part.{Part}
use Rattle.venue_words.specs.declared.row.Key.{Key}
use Rattle.venue_words.specs.declared.row.Priced.{Priced}
use Rattle.peg_groups.specs.Side.{IsCut, NoneAt, IsHeldAt, standing_of}
use Rattle.peg_groups.specs.Groups.{GroupsView, IsGroupSide, groups_state, rows_of, NoneIn, LeavesGroup, KeepsMoves, FitsGroup}
use Rattle.peg_groups.specs.declared.group.Group.{Group}
use Rattle.peg_groups.proofs.GroupSteps.{by_entry_groups}
use Rattle.peg_groups.proofs.SideSteps.{side_leaves, leaving_row, left_fits, none_placed, keeps_leave, keeps_same}
use Rattle.peg_groups.proofs.group_side.GroupSideSideBook.cut.Goals as goal

abbrev new_side : GroupsView → List (Key × Group) → GroupsView
new_side side new = record { entries = new; best = side.best; event = side.event }

-- what a cut does, whether there is a row or none
record Outcome (side : GroupsView) (key : Key) (cap entry : ℕ) (new : List (Key × Group)) (o : Option (Box Part Global)) : Type 0 where
  pub is : IsGroupSide (new_side side new)
  pub least : is_some o ≡ true → 1 ≤ length (rows_of side.entries)
  pub count : (if is_some o then length (rows_of side.entries) - 1 else length (rows_of side.entries)) ≡ length (rows_of new)
  pub keeps : KeepsMoves side.entries new
  pub found : MatchOption o (groups_state (new_side side new) ≡ groups_state side) (λ node. IsCut key cap entry (groups_state side) (groups_state (new_side side new)) node.value.row)
  pub none : IsNone o → NoneAt key cap entry (rows_of side.entries)
  pub fits : IfSome o (λ _. (row : Priced) → IsHeldAt key cap entry (rows_of side.entries) row → FitsGroup new (standing_of row))

outcome : (side : GroupsView) (key : Key) (cap entry : ℕ) (new : List (Key × Group)) (o : Option (Box Part Global)) → IsGroupSide side → MatchOption o (NoneIn key cap entry side.entries × (new ≡ side.entries)) (λ node. LeavesGroup key cap entry node.value.row side.entries new) → Outcome side key cap entry new o
outcome side key cap entry new None s m =
    rw m.1 (record { is = s; least = λ x. cc; count = refl; keeps = keeps_same side.entries; found = refl; none = λ _. none_placed side key cap entry s m.0; fits = tt })
outcome side key cap entry new (Some node) s m =
    let l = side_leaves side key cap entry node.value.row new s m in
    let shorter = length_without entry (rows_of side.entries) _ (leaving_row side key cap entry node.value.row m.i m.group s m.at m.row_is).held in
    let r = leaving_row side key cap entry node.value.row m.i m.group s m.at m.row_is in
    record {
      is = l.0;
      least = λ x. omega (arith, shorter);
      count = omega (arith, shorter, ap length l.1);
      keeps = keeps_leave key cap entry node.value.row side.entries new m;
      found = record { taken = _; is = refl; held = record { held = r.held; placed = r.placed }; left = ap (λ (rows : List Priced). record { rows = rows; best = side.best; event = side.event }) l.1 };
      none = λ x. cc;
      fits = left_fits side key cap entry node.value.row new s m;
    }

abbrev side_of : Inside → GroupsView
side_of s = record { entries = s.groups.entries; best = s.best; event = s.event }

pub invariant_of-self : goal.invariant_of-self
invariant_of-self g c = record { is = (outcome (side_of c.self.inside) c.args.key c.args.cap c.args.entry c.leave-found.new.groups.entries c.leave-found.result c.self.invariant.is c.leave-found.ensures.left).is; len_is = rw (c.without_one-self-inside.ensures, c.is_some.ensures, c.self.invariant.len_is) (outcome (side_of c.self.inside) c.args.key c.args.cap c.args.entry c.leave-found.new.groups.entries c.leave-found.result c.self.invariant.is c.leave-found.ensures.left).count; used = λ h. cc; roomy = λ h. (outcome (side_of c.self.inside) c.args.key c.args.cap c.args.entry c.leave-found.new.groups.entries c.leave-found.result c.self.invariant.is c.leave-found.ensures.left).keeps.room (c.self.invariant.roomy h) }

pub returns-clause-by_entry : goal.returns-clause-by_entry
returns-clause-by_entry g c = rw (← c.self.view_is) (by_entry_groups c.self.inside.best c.self.inside.event c.self.inside.groups.entries c.self.invariant.is.groups)

pub returns-clause-found : goal.returns-clause-found
returns-clause-found g c = rw (← c.self.view_is) (outcome (side_of c.self.inside) c.args.key c.args.cap c.args.entry c.leave-found.new.groups.entries c.leave-found.result c.self.invariant.is c.leave-found.ensures.left).found

pub returns-clause-none : goal.returns-clause-none
returns-clause-none g c = rw (← c.self.view_is) (outcome (side_of c.self.inside) c.args.key c.args.cap c.args.entry c.leave-found.new.groups.entries c.leave-found.result c.self.invariant.is c.leave-found.ensures.left).none

pub returns-clause-cut_fits : goal.returns-clause-cut_fits
returns-clause-cut_fits g c = rw (← c.self.view_is) (outcome (side_of c.self.inside) c.args.key c.args.cap c.args.entry c.leave-found.new.groups.entries c.leave-found.result c.self.invariant.is c.leave-found.ensures.left).fits

pub returns-clause-fits : goal.returns-clause-fits
returns-clause-fits g c = rw (← c.self.view_is) (outcome (side_of c.self.inside) c.args.key c.args.cap c.args.entry c.leave-found.new.groups.entries c.leave-found.result c.self.invariant.is c.leave-found.ensures.left).keeps.fits

pub returns-clause-rows : goal.returns-clause-rows
returns-clause-rows g c = rw (← c.self.view_is) (outcome (side_of c.self.inside) c.args.key c.args.cap c.args.entry c.leave-found.new.groups.entries c.leave-found.result c.self.invariant.is c.leave-found.ensures.left).keeps.rows

pub returns-clause-moves : goal.returns-clause-moves
returns-clause-moves g c = rw (← c.self.view_is) (outcome (side_of c.self.inside) c.args.key c.args.cap c.args.entry c.leave-found.new.groups.entries c.leave-found.result c.self.invariant.is c.leave-found.ensures.left).keeps.room

pub returns-clause-width : goal.returns-clause-width
returns-clause-width g c = rw (← c.self.view_is) (outcome (side_of c.self.inside) c.args.key c.args.cap c.args.entry c.leave-found.new.groups.entries c.leave-found.result c.self.invariant.is c.leave-found.ensures.left).keeps.len

pub without_one-self-inside-requires : goal.without_one-self-inside-requires
without_one-self-inside-requires g c = rw (c.is_some.ensures, c.self.invariant.len_is) (outcome (side_of c.self.inside) c.args.key c.args.cap c.args.entry c.leave-found.new.groups.entries c.leave-found.result c.self.invariant.is c.leave-found.ensures.left).least
