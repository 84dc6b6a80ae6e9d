use Rattle.std.proofs.Common.{◌≡◌, ◌+◌, ◌++◌, ℕ, Bool, true, false, List, length, sym, ◌∙◌, ap, subst, arith}
use Rattle.replay_core.specs.Phases.{IsAtStage}
use Rattle.replay_core.specs.Play.{Stage, turned}
use Rattle.live_core.specs.Lines.{Answers}
use Rattle.live_machine.specs.Taking.{HasTaken, MachineView, TakesLine, machine_of, yields}
use Rattle.live_machine.proofs.Taken.{unfit_refused, halt_refused, turn_refused, turn_taken}
use Rattle.live_machine.proofs.machine.PhaseMachineMachine.line.Goals as goal

pub returns-then-not-fits-clause-answer : goal.returns-then-not-fits-clause-answer
returns-then-not-fits-clause-answer g c past h =
    let text = c.args.text.now in
    let out = c.args.out.now.items in
    subst (λ (m : MachineView g.row.F.Denot). Answers (HasTaken g.F.Floor.at m) (yields past text) past text out out false) c.self.view_is
    (unfit_refused g.F.Floor.at c.self.inside.phase c.self.inside.lines c.self.inside.bytes c.self.inside.steps past text out
    (sym c.fits.ensures ∙ c.if-not-fits.true)
    (subst (λ (m : MachineView g.row.F.Denot). HasTaken g.F.Floor.at m past) (sym c.self.view_is) h))

pub returns-in-Ok-false-clause-answer : goal.returns-in-Ok-false-clause-answer
returns-in-Ok-false-clause-answer g c past h =
    let takes = subst (λ (b : Bool). (stage : Stage) → IsAtStage g.F.Floor.at c.self.inside.phase stage
    → TakesLine (IsAtStage g.F.Floor.at) (turned (c.self.inside.lines + 1) stage c.args.text.now).result stage c.take.new.phase c.take.new.out.items b)
    c.in-Ok-false.field-0-test c.in-Ok-false.ensures.taken in
    turn_refused g.F.Floor.at c.self.inside.phase c.self.inside.lines c.self.inside.bytes c.self.inside.steps past c.args.text.now c.args.out.now.items
    c.take.new.out.items c.take.new.phase c.take.new.steps (sym c.fits.ensures ∙ c.if-not-fits.false)
    (subst (λ (m : MachineView g.row.F.Denot). HasTaken g.F.Floor.at m past) (sym c.self.view_is) h) takes

pub returns-in-Err-clause-halted : goal.returns-in-Err-clause-halted
returns-in-Err-clause-halted g c halted past h =
    halt_refused g.F.Floor.at c.self.inside.phase c.self.inside.lines c.self.inside.bytes c.self.inside.steps past c.args.text.now
    (sym c.fits.ensures ∙ c.if-not-fits.false)
    (subst (λ (m : MachineView g.row.F.Denot). HasTaken g.F.Floor.at m past) (sym c.self.view_is) h) (c.in-Err.ensures.halted halted)

pub returns-clause-answer : goal.returns-clause-answer
returns-clause-answer g c past h =
    let bytes = c.self.inside.bytes in
    let text = c.args.text.now in
    let out : List ℕ = c.args.out.now.items in
    let told : List ℕ = c.take.new.out.items in
    let takes = subst (λ (b : Bool). (stage : Stage) → IsAtStage g.F.Floor.at c.self.inside.phase stage
    → TakesLine (IsAtStage g.F.Floor.at) (turned (c.self.inside.lines + 1) stage c.args.text.now).result stage c.take.new.phase c.take.new.out.items b)
    c.in-Ok-true.field-0-test c.in-Ok-true.ensures.taken in
    let items : c.extend_from_slice.new.self.items ≡ out ++ told = c.in-Ok.ensures.items ∙ ap (λ (t : List ℕ). out ++ t) c.deref.ensures.value in
    let total : ℕ = bytes + (length text + 1) in
    subst (λ (o : List ℕ). Answers (HasTaken g.F.Floor.at (machine_of c.take.new.phase (c.self.inside.lines + 1) total c.take.new.steps))
    (yields past text) past text out o true) (sym items)
    (turn_taken g.F.Floor.at c.self.inside.phase c.self.inside.lines bytes c.self.inside.steps past text out told c.take.new.phase c.take.new.steps total
    (omega arith) (sym c.fits.ensures ∙ c.if-not-fits.false)
    (subst (λ (m : MachineView g.row.F.Denot). HasTaken g.F.Floor.at m past) (sym c.self.view_is) h) takes)
