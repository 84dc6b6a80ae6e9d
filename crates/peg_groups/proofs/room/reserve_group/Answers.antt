use Rattle.std.proofs.Common.{refl, sym, ◌∙◌, inr}
use Rattle.venue_words.specs.KeyLaws.{key_true}
use Rattle.peg_groups.proofs.GroupLookup.{found_has, found_none, insert_new, has_last}
use Rattle.peg_groups.proofs.room.reserve_group.Goals as goal

pub returns-then-is_some-clause-has : goal.returns-then-is_some-clause-has
returns-then-is_some-clause-has c = found_has c.args.key _ _ c.group_of.ensures.found (sym c.is_some.ensures ∙ c.if-is_some.true)

pub returns-in-Ok-clause-grown : goal.returns-in-Ok-clause-grown
returns-in-Ok-clause-grown c =
    let absent = found_none c.args.key _ _ c.group_of.ensures.found (sym c.is_some.ensures ∙ c.if-is_some.false) in
    let same = c.reserve.ensures.same in
    inr (record {
      group = record { moves = c.reserve.new.self; tree = c.new-tree.result };
      fresh = record {
        tree = c.new-tree.ensures;
        current = rw (same, c.start-moves.ensures.current, c.number_of.ensures, c.peg_value.ensures) refl;
        latest = rw same c.start-moves.ensures.latest;
        changes = λ cap. rw same (c.start-moves.ensures.changes cap);
        room = c.in_ok-reserve.ensures.room;
      };
      is_new = absent;
      left = c.in-Ok.ensures.entries ∙ insert_new _ c.args.key _ key_true _ absent;
    })

pub returns-in-Ok-clause-has : goal.returns-in-Ok-clause-has
returns-in-Ok-clause-has c =
    let absent = found_none c.args.key _ _ c.group_of.ensures.found (sym c.is_some.ensures ∙ c.if-is_some.false) in
    rw (c.in-Ok.ensures.entries ∙ insert_new _ c.args.key _ key_true _ absent) (_, has_last c.args.key (record { moves = c.reserve.new.self; tree = c.new-tree.result }) c.args.groups.now.entries)
