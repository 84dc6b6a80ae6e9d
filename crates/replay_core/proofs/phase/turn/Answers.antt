use Rattle.std.proofs.Common.{ℕ, List, Ok, OnOk, sym, ◌∙◌, ap, subst}
use Rattle.script_text.specs.declared.header.Header.{Header}
use Rattle.replay_core.specs.Phases.{IsAtStage}
use Rattle.replay_core.specs.Play.{Body}
use Rattle.replay_core.specs.Playing.{before_body}
use Rattle.replay_core.specs.declared.phase.Phase.{Phase}
use Rattle.replay_core.proofs.Turns.{head_refused, head_goes_on, head_begins, body_worked, body_steps}
use Rattle.replay_core.proofs.phase.turn.Goals as goal

pub returns-in-Ok-true-clause-answer : goal.returns-in-Ok-true-clause-answer
returns-in-Ok-true-clause-answer g c stage s =
    head_begins g.F.Floor.at c.args.line c.in-Head.header c.line.new.self c.in-Ok-true.field-0 stage c.args.text.now c.begin_body.new.phase
    c.begin_body.result c.args.out.now.items
    (subst (λ (p : Phase _). IsAtStage g.F.Floor.at p stage) c.in-Head.is s) c.in-Ok-true.ensures.line c.in-Ok-true.field-0-test
    (subst (λ (h : Header). OnOk c.begin_body.result (IsAtStage g.F.Floor.at c.begin_body.new.phase (Body (before_body h.config))))
    c.replace-whole.ensures.value c.begin_body.ensures.stage)
    c.begin_body.ensures.memory c.requires.empty

pub returns-in-Ok-false-clause-answer : goal.returns-in-Ok-false-clause-answer
returns-in-Ok-false-clause-answer g c stage s =
    let x = head_goes_on g.F.Floor.at c.args.line c.in-Head.header c.line.new.self c.in-Ok-false.field-0 stage c.args.text.now
    (subst (λ (p : Phase _). IsAtStage g.F.Floor.at p stage) c.in-Head.is s) c.in-Ok-false.ensures.line c.in-Ok-false.field-0-test in
    (x.0, x.1 ∙ ap (λ (t : List ℕ). Ok (x.0, t)) (sym c.requires.empty), x.2)

pub returns-in-Err-clause-answer : goal.returns-in-Err-clause-answer
returns-in-Err-clause-answer g c stage s =
    head_refused g.F.Floor.at c.args.line c.in-Head.header stage c.args.text.now c.in-Err.fault
    (subst (λ (p : Phase _). IsAtStage g.F.Floor.at p stage) c.in-Head.is s) c.in-Err.ensures.line

pub returns-in-Body-clause-answer : goal.returns-in-Body-clause-answer
returns-in-Body-clause-answer g c stage s =
    body_worked g.F.Floor.at c.args.line c.in-Body.player c.line-in-Body.new.self stage c.args.text.now c.line-in-Body.new.out.items
    c.line-in-Body.result c.line-in-Body.ensures.answer (subst (λ (p : Phase _). IsAtStage g.F.Floor.at p stage) c.in-Body.is s)

pub returns-in-Body-clause-steps : goal.returns-in-Body-clause-steps
returns-in-Body-clause-steps g c stage s =
    body_steps g.F.Floor.at c.args.line c.in-Body.player stage c.args.text.now c.args.steps.now c.line-in-Body.new.steps
    c.line-in-Body.ensures.steps (subst (λ (p : Phase _). IsAtStage g.F.Floor.at p stage) c.in-Body.is s)
