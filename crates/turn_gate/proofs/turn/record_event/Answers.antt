-- The record keeps the rule.
use Rattle.std.proofs.Common.{rules}
use Rattle.turn_gate.proofs.TurnSteps.{records}
use Rattle.turn_gate.proofs.turn.record_event.Goals as goal

pub fetch_add-requires : goal.fetch_add-requires
fetch_add-requires g c = let r = c.requires.grown in (
  search rules,
  search rules,
  records _ _ _ _ _ _ _ r.history r.last r.value r.has_turn r.opening r.slot r.grown r.part r.limit r.room r.small,
)
