use Rattle.std.proofs.Common.{◌≤◌, ◌+◌, Err, sym, ◌∙◌, ap, subst, inl, inr}
use Rattle.script_text.specs.declared.fault.LineFault.{LineFault}
use Rattle.line_work.specs.Refusing.{fault_at}
use Rattle.replay_core.specs.Meets.{MeetsInPlace}
use Rattle.replay_core.specs.PlayLine.{Answer}
use Rattle.replay_core.specs.PlayLineLaws.{line_read, line_unread}
use Rattle.replay_core.specs.Stages.{StandsFor}
use Rattle.replay_core.proofs.player.Player.play_text.Goals as goal

pub returns-in-Ok-clause-answer : goal.returns-in-Ok-clause-answer
returns-in-Ok-clause-answer g c playing s =
    let same = line_read c.args.line playing c.args.self.now.worker.config c.args.text.now c.in-Ok.read s.feed.config c.in-Ok.ensures.line in
    subst (λ (a : Answer). MeetsInPlace (StandsFor g.F.Floor.at) a.result c.play.result c.play.new.self c.play.new.out.items) (sym same)
    (c.play.ensures.answer playing s)

pub returns-in-Ok-clause-steps : goal.returns-in-Ok-clause-steps
returns-in-Ok-clause-steps g c playing s =
    let same = line_read c.args.line playing c.args.self.now.worker.config c.args.text.now c.in-Ok.read s.feed.config c.in-Ok.ensures.line in
    subst (λ (a : Answer). c.play.new.steps ≤ c.args.steps.now + a.steps) (sym same) (c.play.ensures.steps playing s)

pub returns-in-Err-clause-answer : goal.returns-in-Err-clause-answer
returns-in-Err-clause-answer g c playing s =
    elim c.in-Err.ensures.line [
      | inl none ↦ inl (c.fault_at.ensures ∙ ap (fault_at c.args.line) none)
      | inr e ↦ inr (line_unread c.args.line playing c.args.self.now.worker.config c.args.text.now c.in-Err.fault s.feed.config e
          ∙ ap (λ (f : LineFault). Err f) (sym c.fault_at.ensures))
    ]
