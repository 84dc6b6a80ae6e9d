use Rattle.std.proofs.Common.{◌≡◌, ◌<◌, refl, length, arith, add-one, subst, ℕ, suc}
use Rattle.indexmap.specs.IndexMap.{set_value_at}
use Rattle.peg_groups.specs.Groups.{IsRoomier, EachUpTo}
use Rattle.peg_groups.specs.declared.group.Group.{Group}
use Rattle.venue_words.specs.declared.row.Key.{Key}
use Rattle.peg_groups.proofs.Paired.{paired_more, paired_len, paired_end, paired_all, upto_set, at_set}
use Rattle.peg_groups.proofs.Scan.{each_more, upto_all}
use Rattle.peg_groups.proofs.room.reserve_moves.Goals as goal

abbrev Roomier : Key → Group → Group → Type 0
Roomier _ old new = IsRoomier old new

same_room : (key : Key) (group : Group) → Roomier key group group
same_room key group = record { tree = refl; moves = refl; room = omega arith }

pub reserve_at-requires : goal.reserve_at-requires
reserve_at-requires c = record { within = omega (arith, c.loop-i-test.true, c.loop-i.invariant.ends, paired_len Roomier c.loop-i.i c.args.groups.now.entries c.loop-i.groups.entries c.loop-i.invariant.kept) }

pub returns-in_err-reserve_at-clause-kept : goal.returns-in_err-reserve_at-clause-kept
returns-in_err-reserve_at-clause-kept c =
    let m = c.reserve_at.ensures.grown in
    rw m.4 (paired_all Roomier same_room (suc c.loop-i.i) c.args.groups.now.entries (set_value_at c.loop-i.groups.entries c.loop-i.i m.2) (paired_more Roomier c.loop-i.i c.args.groups.now.entries c.loop-i.groups.entries m.0 m.1 m.2 c.loop-i.invariant.kept m.3 m.5))

pub loop-i-preserved : goal.loop-i-preserved
loop-i-preserved c =
    let m = c.in_ok-reserve_at.ensures.grown in
    record {
      kept = rw (add-one, m.4) (paired_more Roomier c.loop-i.i c.args.groups.now.entries c.loop-i.groups.entries m.0 m.1 m.2 c.loop-i.invariant.kept m.3 m.5);
      ends = c.loop-i.invariant.ends;
      room = rw (add-one, m.4) (each_more (λ _ group. 0 < group.moves.room) _ c.loop-i.i m.0 m.2 (upto_set (λ _ group. 0 < group.moves.room) c.loop-i.i c.loop-i.groups.entries m.2 c.loop-i.invariant.room) (at_set c.loop-i.groups.entries c.loop-i.i m.0 m.1 m.2 m.3) m.6);
    }

pub returns-clause-kept : goal.returns-clause-kept
returns-clause-kept c = paired_end Roomier c.loop-i.i c.args.groups.now.entries c.loop-i.groups.entries (omega (arith, c.loop-i-test.false, c.loop-i.invariant.ends, c.loop-i.auto.i-end)) c.loop-i.invariant.kept

pub returns-clause-room : goal.returns-clause-room
returns-clause-room c =
    let len : c.loop-i.i ≡ length c.loop-i.groups.entries = omega (arith, c.loop-i-test.false, c.loop-i.invariant.ends, c.loop-i.auto.i-end, paired_len Roomier c.loop-i.i c.args.groups.now.entries c.loop-i.groups.entries c.loop-i.invariant.kept) in
    upto_all (λ _ group. 0 < group.moves.room) c.loop-i.groups.entries (subst (λ (n : ℕ). EachUpTo (λ _ group. 0 < group.moves.room) n c.loop-i.groups.entries) len c.loop-i.invariant.room)
