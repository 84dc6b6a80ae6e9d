use Rattle.std.proofs.Common.{subst}
use Rattle.replay_core.specs.Phases.{IsAtStage}
use Rattle.replay_core.specs.declared.phase.Phase.{Phase}
use Rattle.replay_core.proofs.Turns.{body_steps}
use Rattle.live_machine.proofs.Bodies.{body_takes_if, body_refused}
use Rattle.live_machine.proofs.taking.take.Goals as goal

pub returns-in-Body-clause-taken : goal.returns-in-Body-clause-taken
returns-in-Body-clause-taken g c =
    body_takes_if g.F.Floor.at c.args.line c.args.phase.now c.in-Body.player c.take_in_body.new.player c.args.text.now c.take_in_body.new.out.items
    c.take_in_body.result c.in-Body.is c.take_in_body.ensures.taken

pub returns-in-Body-clause-halted : goal.returns-in-Body-clause-halted
returns-in-Body-clause-halted g c halted stage s =
    body_refused g.F.Floor.at c.args.line c.in-Body.player c.args.text.now stage (c.take_in_body.ensures.halted halted)
    (subst (λ (p : Phase _). IsAtStage g.F.Floor.at p stage) c.in-Body.is s)

pub returns-in-Body-clause-steps : goal.returns-in-Body-clause-steps
returns-in-Body-clause-steps g c stage s =
    body_steps g.F.Floor.at c.args.line c.in-Body.player stage c.args.text.now c.args.steps.now c.take_in_body.new.steps c.take_in_body.ensures.steps
    (subst (λ (p : Phase _). IsAtStage g.F.Floor.at p stage) c.in-Body.is s)
