use Rattle.std.proofs.Common.{◌≡◌, ℤ, [], ◌∷◌, sym, ◌∙◌, ap, subst, w64, to_z, of_z, rules}
use Rattle.script_text.specs.declared.body.Line.{Line}
use Rattle.member_gate.specs.Submitting.{TookAll}
use Rattle.line_work.specs.LineWork.{work_of_line}
use Rattle.line_work.specs.Refusing.{TookPart}
use Rattle.line_work.specs.Standing.{WorkerView}
use Rattle.line_work.proofs.Kept.{weaker, weaker_err}
use Rattle.line_work.proofs.Stops.{stopped_before, stopped_first}
use Rattle.line_work.proofs.worker.LineWorker.work_line.Goals as goal

pub returns-in-Err-clause-stopped : goal.returns-in-Err-clause-stopped
returns-in-Err-clause-stopped g c state s =
    stopped_before g.F.Floor.at g.F.Floor.step_limit (g.F.Floor.mark c.args.floor.now) c.args.feed (work_of_line state c.args.line.now).state.moment
    (work_of_line state c.args.line.now).submissions (c.args.floor.now, c.args.steps.now)

pub returns-in-Quote-clause-took : goal.returns-in-Quote-clause-took
returns-in-Quote-clause-took g c =
    let e : to_z w64 (of_z w64 c.self.inside.moment) ≡ c.self.inside.moment = search rules in
    weaker c.submit.result _ _ (λ took state s.
    subst (λ (l : Line). TookAll g.F.Floor.at g.F.Floor.step_limit (g.F.Floor.mark c.args.floor.now) c.args.feed (work_of_line state l).state.moment
    (work_of_line state l).submissions (c.args.floor.now, c.args.steps.now) (c.submit.new.floor, c.submit.new.steps)) (sym c.in-Quote.is)
    (subst (λ (m : ℤ). TookAll g.F.Floor.at g.F.Floor.step_limit (g.F.Floor.mark c.args.floor.now) c.args.feed m
    (record { symbol = c.in-Quote.symbol; command = c.in-Quote.command } ∷ []) (c.args.floor.now, c.args.steps.now) (c.submit.new.floor, c.submit.new.steps))
    (e ∙ ap (λ (w : WorkerView). w.moment) c.self.view_is ∙ s.moment) took)) c.submit.ensures.took

pub returns-in-Quote-clause-stopped : goal.returns-in-Quote-clause-stopped
returns-in-Quote-clause-stopped g c =
    let e : to_z w64 (of_z w64 c.self.inside.moment) ≡ c.self.inside.moment = search rules in
    weaker_err c.submit.result _ _ (λ refusal none state s.
    subst (λ (l : Line). TookPart g.F.Floor.at g.F.Floor.step_limit (g.F.Floor.mark c.args.floor.now) c.args.feed (work_of_line state l).state.moment refusal
    (work_of_line state l).submissions (c.args.floor.now, c.args.steps.now) (c.submit.new.floor, c.submit.new.steps)) (sym c.in-Quote.is)
    (subst (λ (m : ℤ). TookPart g.F.Floor.at g.F.Floor.step_limit (g.F.Floor.mark c.args.floor.now) c.args.feed m refusal
    (record { symbol = c.in-Quote.symbol; command = c.in-Quote.command } ∷ []) (c.args.floor.now, c.args.steps.now) (c.submit.new.floor, c.submit.new.steps))
    (e ∙ ap (λ (w : WorkerView). w.moment) c.self.view_is ∙ s.moment)
    (stopped_first g.F.Floor.at g.F.Floor.step_limit (g.F.Floor.mark c.args.floor.now) c.args.feed _ refusal _
    (c.args.floor.now, c.args.steps.now) (c.submit.new.floor, c.submit.new.steps) none))) c.submit.ensures.none

pub returns-in-Piece-clause-stands : goal.returns-in-Piece-clause-stands
returns-in-Piece-clause-stands g c = search rules

pub returns-in-Piece-clause-text : goal.returns-in-Piece-clause-text
returns-in-Piece-clause-text g c = search rules

pub returns-in-Piece-clause-took : goal.returns-in-Piece-clause-took
returns-in-Piece-clause-took g c = search rules

pub returns-in-Piece-clause-stopped : goal.returns-in-Piece-clause-stopped
returns-in-Piece-clause-stopped g c = search rules
