-- The mark keeps the rule.
use Rattle.std.proofs.Common.{rules}
use Rattle.turn_gate.proofs.TurnSteps.{marks}
use Rattle.turn_gate.proofs.turn.mark_sleepers.Goals as goal

pub store-requires : goal.store-requires
store-requires g c = (
  search rules,
  search rules,
  marks _ _ _ _ _ _ _ c.args.mark c.requires.part,
)
