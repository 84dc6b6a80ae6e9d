use Rattle.std.proofs.Common.{◌≡◌, ◌≤◌, ◌+◌, sym, ◌∙◌, ap, subst}
use Rattle.replay_core.specs.PlayLine.{Answer}
use Rattle.replay_core.specs.PlayLineLaws.{line_read}
use Rattle.live_core.specs.declared.machine.Halt.TheVariants.{Halted}
use Rattle.live_machine.proofs.Bodies.{unread_takes, halted_refused}
use Rattle.live_machine.proofs.taking.take_in_body.Goals as goal

pub returns-in-Err-clause-taken : goal.returns-in-Err-clause-taken
returns-in-Err-clause-taken g c =
    unread_takes g.F.Floor.at c.args.line c.args.player.now c.args.text.now c.args.out.now.items c.in-Err.fault c.unread.result
    c.unread.ensures.refused c.in-Err.ensures.line

pub returns-in-Ok-work-clause-taken : goal.returns-in-Ok-work-clause-taken
returns-in-Ok-work-clause-taken g c playing s =
    let same = line_read c.args.line playing c.args.player.now.worker.config c.args.text.now c.in-Ok.read s.feed.config c.in-Ok.ensures.line in
    let x = c.in-Ok-work.ensures.answer playing s in (x.0, ap (λ (a : Answer). a.result) same ∙ x.1, x.2)

pub returns-in-Ok-work-clause-steps : goal.returns-in-Ok-work-clause-steps
returns-in-Ok-work-clause-steps g c playing s =
    let same = line_read c.args.line playing c.args.player.now.worker.config c.args.text.now c.in-Ok.read s.feed.config c.in-Ok.ensures.line in
    subst (λ (a : Answer). c.work.new.steps ≤ c.args.steps.now + a.steps) (sym same) (c.work.ensures.steps playing s)

pub returns-in-Err-work-clause-halted : goal.returns-in-Err-work-clause-halted
returns-in-Err-work-clause-halted g c halted playing s =
    let same = line_read c.args.line playing c.args.player.now.worker.config c.args.text.now c.in-Ok.read s.feed.config c.in-Ok.ensures.line in
    let is : c.halt_of.result ≡ Halted = cc in
    halted_refused c.args.line playing c.args.text.now c.in-Ok.read c.in-Err-work.stop same (c.in-Err-work.ensures.answer playing s) (c.halt_of.ensures is)

pub returns-in-Err-work-clause-steps : goal.returns-in-Err-work-clause-steps
returns-in-Err-work-clause-steps g c playing s =
    let same = line_read c.args.line playing c.args.player.now.worker.config c.args.text.now c.in-Ok.read s.feed.config c.in-Ok.ensures.line in
    subst (λ (a : Answer). c.work.new.steps ≤ c.args.steps.now + a.steps) (sym same) (c.work.ensures.steps playing s)
