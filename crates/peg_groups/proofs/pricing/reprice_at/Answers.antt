use Rattle.std.proofs.Common.{refl}
use Rattle.peg_groups.proofs.pricing.reprice_at.Goals as goal

pub peg_value-requires : goal.peg_value-requires
peg_value-requires g c = (c.requires.room _ _ c.pair_mut-group.ensures.value).0.grid

pub push-requires-clause-room : goal.push-requires-clause-room
push-requires-clause-room g c = (c.requires.room _ _ c.pair_mut-group.ensures.value).1

pub push-requires-clause-later : goal.push-requires-clause-later
push-requires-clause-later g c = (c.requires.room _ _ c.pair_mut-group.ensures.value).2

pub returns-clause-moved : goal.returns-clause-moved
returns-clause-moved g c = (
  _,
  _,
  _,
  c.pair_mut-group.ensures.value,
  refl,
  record {
    tree = refl;
    current = rw (c.push.ensures.current, c.number_of-value.ensures, c.peg_value.ensures) refl;
    latest = c.push.ensures.latest;
    changes = λ cap. rw c.push.ensures.current (c.push.ensures.changes cap);
  },
)
