use Rattle.std.proofs.Common.{◌≡◌, ◌++◌, ap}
use Rattle.member_gate.specs.Submitting.{TookAll}
use Rattle.line_work.specs.LineWork.{LineWork}
use Rattle.line_work.specs.Standing.{StandsFor, WorkerView}
use Rattle.line_work.proofs.LineReads.{read_done, read_stopped, read_refused}
use Rattle.line_work.proofs.worker.LineWorker.line.Goals as goal

pub returns-in-Err-clause-refused : goal.returns-in-Err-clause-refused
returns-in-Err-clause-refused g c state s =
    let same : c.self.inside.config ≡ c.args.self.now.config = ap (λ (w : WorkerView). w.config) c.self.view_is in
    read_refused g.F.Floor.at g.F.Floor.step_limit (g.F.Floor.mark c.args.floor.now) c.args.feed c.args.self.now c.self.inside.config state
    c.args.text.now c.in-Err.fault (c.args.floor.now, c.args.steps.now) same s c.in-Err.ensures.line

pub returns-in-Ok-work-clause-stands : goal.returns-in-Ok-work-clause-stands
returns-in-Ok-work-clause-stands g c state s =
    let same : c.self.inside.config ≡ c.args.self.now.config = ap (λ (w : WorkerView). w.config) c.self.view_is in
    read_done (λ (work : LineWork). StandsFor c.work.new.self work.state) c.args.self.now c.self.inside.config state c.args.text.now c.in-Ok.line
    same s c.in-Ok.ensures.line (c.in-Ok-work.ensures.stands state s)

pub returns-in-Ok-work-clause-text : goal.returns-in-Ok-work-clause-text
returns-in-Ok-work-clause-text g c state s =
    let same : c.self.inside.config ≡ c.args.self.now.config = ap (λ (w : WorkerView). w.config) c.self.view_is in
    read_done (λ (work : LineWork). c.work.new.out.items ≡ c.args.out.now.items ++ work.text) c.args.self.now c.self.inside.config state
    c.args.text.now c.in-Ok.line same s c.in-Ok.ensures.line (c.in-Ok-work.ensures.text state s)

pub returns-in-Ok-work-clause-took : goal.returns-in-Ok-work-clause-took
returns-in-Ok-work-clause-took g c state s =
    let same : c.self.inside.config ≡ c.args.self.now.config = ap (λ (w : WorkerView). w.config) c.self.view_is in
    read_done (λ (work : LineWork). TookAll g.F.Floor.at g.F.Floor.step_limit (g.F.Floor.mark c.args.floor.now) c.args.feed work.state.moment
    work.submissions (c.args.floor.now, c.args.steps.now) (c.work.new.floor, c.work.new.steps)) c.args.self.now c.self.inside.config state
    c.args.text.now c.in-Ok.line same s c.in-Ok.ensures.line (c.in-Ok-work.ensures.took state s)

pub returns-in-Err-work-clause-refused : goal.returns-in-Err-work-clause-refused
returns-in-Err-work-clause-refused g c state s =
    let same : c.self.inside.config ≡ c.args.self.now.config = ap (λ (w : WorkerView). w.config) c.self.view_is in
    read_stopped g.F.Floor.at g.F.Floor.step_limit (g.F.Floor.mark c.args.floor.now) c.args.feed c.args.self.now c.self.inside.config state
    c.args.text.now c.in-Ok.line c.in-Err-work.refusal c.refusal_at.result (c.args.floor.now, c.args.steps.now)
    (c.work.new.floor, c.work.new.steps) same s c.in-Ok.ensures.line c.refusal_at.ensures (c.in-Err-work.ensures.stopped state s)
