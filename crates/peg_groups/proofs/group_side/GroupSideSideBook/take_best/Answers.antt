use Rattle.std.proofs.Common.{◌≡◌, ◌≤◌, ap, List, length, refl, Option, Some, None, arith, ◌-◌, is_some, true}
use Rattle.std.specs.Option.{IsNone, IfSome}
use Rattle.std.specs.Prelude.{if◌then◌else◌}
use Rattle.peg_groups.specs.declared.group_side.GroupSide.TheInside.{Inside}
use Rattle.peg_groups.proofs.Counting.{length_without}
use Rattle.venue_words.specs.declared.row.Key.{Key}
use Rattle.venue_words.specs.declared.row.Priced.{Priced}
use Rattle.peg_groups.specs.Side.{standing_of, without, taken_row}
use Rattle.venue_words.specs.FirstRow.{IsFirst, NoneActive}
use Rattle.peg_groups.specs.Groups.{GroupsView, IsGroupSide, groups_state, rows_of, TakesFirst, NoneActiveIn, EachGroup, KeepsMoves, FitsGroup}
use Rattle.peg_groups.specs.declared.group.Group.{Group}
use Rattle.peg_groups.specs.declared.group.Candidate.{Candidate}
use Rattle.peg_groups.specs.declared.side_book.Taken.{Taken}
use Rattle.peg_groups.proofs.GroupSteps.{by_entry_groups}
use Rattle.peg_groups.proofs.SideSteps.{side_leaves, first_taken, none_active, keeps_leave, keeps_same}
use Rattle.peg_groups.proofs.group_side.GroupSideSideBook.take_best.Goals as goal

abbrev new_side : GroupsView → List (Key × Group) → GroupsView
new_side side new = record { entries = new; best = side.best; event = side.event }

-- what the call does, whether a row is active or none
record Outcome (side : GroupsView) (new : List (Key × Group)) (o : Option Taken) : Type 0 where
  pub is : IsGroupSide (new_side side new)
  pub least : is_some o ≡ true → 1 ≤ length (rows_of side.entries)
  pub count : (if is_some o then length (rows_of side.entries) - 1 else length (rows_of side.entries)) ≡ length (rows_of new)
  pub keeps : KeepsMoves side.entries new
  pub none : IsNone o → NoneActive (rows_of side.entries)
  pub same : IsNone o → groups_state (new_side side new) ≡ groups_state side
  pub best : IfSome o (λ taken. IsFirst (rows_of side.entries) (taken_row taken))
  pub state : IfSome o (λ taken. groups_state (new_side side new) ≡ without taken.node.value.row.entry (groups_state side))
  pub fits : IfSome o (λ taken. FitsGroup new (standing_of (taken_row taken)))

outcome : (side : GroupsView) (new : List (Key × Group)) (o : Option Taken) → IsGroupSide side → (IsNone o → EachGroup NoneActiveIn side.entries × (new ≡ side.entries)) → IfSome o (λ taken. (best : Candidate) × TakesFirst taken.node.value.row best side.entries new × (taken.value ≡ Some best.value) × (taken.time ≡ best.time)) → Outcome side new o
outcome side new None s n f =
    let k = n refl in
    rw k.1 (record { is = s; least = λ x. cc; count = refl; keeps = keeps_same side.entries; none = λ _. none_active side.entries k.0; same = λ _. refl; best = tt; state = tt; fits = tt })
outcome side new (Some taken) s n f =
    let t = f.1 in
    let l = side_leaves side t.key f.0.cap f.0.entry taken.node.value.row new s t.leaves in
    let r = first_taken side taken.node.value.row f.0 new s t in
    let shorter = length_without taken.node.value.row.entry (rows_of side.entries) _ r.best_is.held in
    record {
      is = l.0;
      least = λ x. omega (arith, shorter);
      count = omega (arith, rw r.entry_is at shorter, ap length l.1);
      keeps = keeps_leave t.key f.0.cap f.0.entry taken.node.value.row side.entries new t.leaves;
      none = λ x. cc;
      same = λ x. cc;
      best = rw (f.2, f.3) r.best_is;
      state = rw r.entry_is (ap (λ (rows : List Priced). record { rows = rows; best = side.best; event = side.event }) l.1);
      fits = rw (f.2, f.3) r.fits;
    }

abbrev side_of : Inside → GroupsView
side_of s = record { entries = s.groups.entries; best = s.best; event = s.event }

pub invariant_of-self : goal.invariant_of-self
invariant_of-self g c = record { is = (outcome (side_of c.self.inside) c.take_first-found.new.groups.entries c.take_first-found.result c.self.invariant.is c.take_first-found.ensures.none c.take_first-found.ensures.first).is; len_is = rw (c.without_one-self-inside.ensures, c.is_some.ensures, c.self.invariant.len_is) (outcome (side_of c.self.inside) c.take_first-found.new.groups.entries c.take_first-found.result c.self.invariant.is c.take_first-found.ensures.none c.take_first-found.ensures.first).count; used = λ h. cc; roomy = λ h. (outcome (side_of c.self.inside) c.take_first-found.new.groups.entries c.take_first-found.result c.self.invariant.is c.take_first-found.ensures.none c.take_first-found.ensures.first).keeps.room (c.self.invariant.roomy h) }

pub returns-clause-by_entry : goal.returns-clause-by_entry
returns-clause-by_entry g c = rw (← c.self.view_is) (by_entry_groups c.self.inside.best c.self.inside.event c.self.inside.groups.entries c.self.invariant.is.groups)

pub returns-clause-none : goal.returns-clause-none
returns-clause-none g c = rw (← c.self.view_is) (outcome (side_of c.self.inside) c.take_first-found.new.groups.entries c.take_first-found.result c.self.invariant.is c.take_first-found.ensures.none c.take_first-found.ensures.first).none

pub returns-clause-same : goal.returns-clause-same
returns-clause-same g c = rw (← c.self.view_is) (outcome (side_of c.self.inside) c.take_first-found.new.groups.entries c.take_first-found.result c.self.invariant.is c.take_first-found.ensures.none c.take_first-found.ensures.first).same

pub returns-clause-best : goal.returns-clause-best
returns-clause-best g c = rw (← c.self.view_is) (outcome (side_of c.self.inside) c.take_first-found.new.groups.entries c.take_first-found.result c.self.invariant.is c.take_first-found.ensures.none c.take_first-found.ensures.first).best

pub returns-clause-state : goal.returns-clause-state
returns-clause-state g c = rw (← c.self.view_is) (outcome (side_of c.self.inside) c.take_first-found.new.groups.entries c.take_first-found.result c.self.invariant.is c.take_first-found.ensures.none c.take_first-found.ensures.first).state

pub returns-clause-taken_fits : goal.returns-clause-taken_fits
returns-clause-taken_fits g c = (outcome (side_of c.self.inside) c.take_first-found.new.groups.entries c.take_first-found.result c.self.invariant.is c.take_first-found.ensures.none c.take_first-found.ensures.first).fits

pub returns-clause-fits : goal.returns-clause-fits
returns-clause-fits g c = rw (← c.self.view_is) (outcome (side_of c.self.inside) c.take_first-found.new.groups.entries c.take_first-found.result c.self.invariant.is c.take_first-found.ensures.none c.take_first-found.ensures.first).keeps.fits

pub returns-clause-rows : goal.returns-clause-rows
returns-clause-rows g c = rw (← c.self.view_is) (outcome (side_of c.self.inside) c.take_first-found.new.groups.entries c.take_first-found.result c.self.invariant.is c.take_first-found.ensures.none c.take_first-found.ensures.first).keeps.rows

pub returns-clause-moves : goal.returns-clause-moves
returns-clause-moves g c = rw (← c.self.view_is) (outcome (side_of c.self.inside) c.take_first-found.new.groups.entries c.take_first-found.result c.self.invariant.is c.take_first-found.ensures.none c.take_first-found.ensures.first).keeps.room

pub returns-clause-width : goal.returns-clause-width
returns-clause-width g c = rw (← c.self.view_is) (outcome (side_of c.self.inside) c.take_first-found.new.groups.entries c.take_first-found.result c.self.invariant.is c.take_first-found.ensures.none c.take_first-found.ensures.first).keeps.len

pub without_one-self-inside-requires : goal.without_one-self-inside-requires
without_one-self-inside-requires g c = rw (c.is_some.ensures, c.self.invariant.len_is) (outcome (side_of c.self.inside) c.take_first-found.new.groups.entries c.take_first-found.result c.self.invariant.is c.take_first-found.ensures.none c.take_first-found.ensures.first).least
