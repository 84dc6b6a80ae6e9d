use Rattle.std.proofs.Common.{true, arith, is_ok, Ok, Err, ◌≡◌, refl, sym, ap, ◌∙◌, List, length, Some, None, Option}
use Rattle.std.specs.Option.{IsNone}
use Rattle.std.specs.Result.{OnOk}
use Rattle.std.specs.declared.result.Result.{Result}
use Rattle.peg_groups.proofs.GroupSteps.{by_entry_groups}
use Rattle.venue_words.specs.declared.row.Key.{Key}
use Rattle.venue_words.specs.declared.row.Priced.{Priced}
use Rattle.peg_groups.proofs.NoPass.{rows_reserved}
use Rattle.peg_groups.proofs.Repricing.{IsReserved, side_reserved, reserved_none}
use Rattle.peg_groups.proofs.group_side.GroupSideSideBook.reserve.Goals as goal

module _ (c : goal.After-self-2-1) where
  result : IsReserved (record { entries = c.self.inside.groups.entries; best = c.self.inside.best; event = c.self.inside.event }) c.reserve_all-reserved.new.groups.entries
  result = side_reserved (record { entries = c.self.inside.groups.entries; best = c.self.inside.best; event = c.self.inside.event }) c.args.key c.reserve_all-reserved.new.groups.entries c.self.invariant.is c.requires.key c.reserve_all-reserved.ensures.kept

none_of : (o : Option Key) → IsNone o → o ≡ None
none_of None h = refl
none_of (Some k) h = cc

room_of : {T E P : Type 0} (r : Result T E) → is_ok r ≡ true → OnOk r P → P
room_of (Ok v) h p = p
room_of (Err e) h p = cc

pub invariant_of-self : goal.invariant_of-self
invariant_of-self c = record {
  is = (result c).is;
  len_is = c.self.invariant.len_is ∙ ap length (sym (result c).rows);
  used = λ h. let same = c.may_be_empty-self-inside.ensures h in rows_reserved c.self.inside.best c.args.key c.self.inside.groups.entries c.reserve_all-reserved.new.groups.entries c.reserve_all-reserved.ensures.kept (omega (arith, same.1, c.len.ensures.len, c.len-before.ensures.len)) (c.self.invariant.used same.0);
  roomy = λ h. room_of c.reserve_all-reserved.result (sym c.is_ok-self-inside.ensures.value ∙ h) c.reserve_all-reserved.ensures.room;
}

pub returns-clause-state : goal.returns-clause-state
returns-clause-state c = rw (← c.self.view_is) (ap (λ (rows : List Priced). record { rows = rows; best = c.self.inside.best; event = c.self.inside.event }) (result c).rows)

pub returns-clause-fits : goal.returns-clause-fits
returns-clause-fits c = rw (← c.self.view_is) (result c).fits

pub returns-clause-rows_kept : goal.returns-clause-rows_kept
returns-clause-rows_kept c = rw (← c.self.view_is) (result c).has

pub returns-clause-moves_kept : goal.returns-clause-moves_kept
returns-clause-moves_kept c = rw (← c.self.view_is) (result c).room

pub returns-clause-width : goal.returns-clause-width
returns-clause-width c = rw (← c.self.view_is) (result c).width

pub returns-clause-no_key : goal.returns-clause-no_key
returns-clause-no_key c = rw (← c.self.view_is) (λ none. reserved_none c.self.inside.best c.args.key c.self.inside.groups.entries c.reserve_all-reserved.new.groups.entries (none_of c.args.key none) c.reserve_all-reserved.ensures.kept)

pub returns-clause-by_entry : goal.returns-clause-by_entry
returns-clause-by_entry c = rw (← c.self.view_is) (by_entry_groups c.self.inside.best c.self.inside.event c.self.inside.groups.entries c.self.invariant.is.groups)
