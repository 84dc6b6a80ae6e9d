use Rattle.std.proofs.Common.{◌≡◌, subst, w64, to_z, of_z, rules}
use Rattle.std.proofs.lemmas.Result.{err_from_is_err_and}
use Rattle.std.specs.Prelude.{OnOk, IfErr}
use Rattle.session_core.specs.declared.message.Request.{Request}
use Rattle.member_gate.specs.Answering.{answer}
use Rattle.member_gate.specs.Submitting.{TookAll, TookNone}
use Rattle.member_gate.proofs.Framing.{frame_session, frame_submits, gave_up_behind}
use Rattle.member_gate.proofs.Taking.{none_taken}
use Rattle.member_gate.proofs.working.work_frame.Goals as goal

-- The session's replies and then the answer are added. A refusal leaves the session behind the frame or as it was.

pub returns-in_err-append-clause-gave_up : goal.returns-in_err-append-clause-gave_up
returns-in_err-append-clause-gave_up g c =
    let moment : to_z w64 (of_z w64 c.args.origin.moment) ≡ c.args.origin.moment = search rules in
    let p = err_from_is_err_and c.from_residual-in_err-append.result c.from_residual-in_err-append.ensures.1 in
    rw p.1 (gave_up_behind c.args.origin.moment _ c.args.session.now c.take.new.self c.args.frame.bytes.now moment (c.in_ok-turn.ensures.machine))

pub returns-in_err-turn-clause-none : goal.returns-in_err-turn-clause-none
returns-in_err-turn-clause-none g c =
    let p = err_from_is_err_and c.from_residual.result c.from_residual.ensures.1 in
    rw (p.1, p.2) (none_taken g.F.Floor.at g.F.Floor.step_limit (g.F.Floor.mark c.args.floor.now) c.args.origin.feed c.args.origin.moment _ (c.args.floor.now, c.args.steps.now))

pub returns-in_err-append-clause-none : goal.returns-in_err-append-clause-none
returns-in_err-append-clause-none g c =
    let p = err_from_is_err_and c.from_residual-in_err-append.result c.from_residual-in_err-append.ensures.1 in
    rw (p.1, p.2) (none_taken g.F.Floor.at g.F.Floor.step_limit (g.F.Floor.mark c.args.floor.now) c.args.origin.feed c.args.origin.moment _ (c.args.floor.now, c.args.steps.now))

pub returns-clause-session : goal.returns-clause-session
returns-clause-session g c =
    let origin = c.args.origin in
    let moment : to_z w64 (of_z w64 origin.moment) ≡ origin.moment = search rules in
    let same = frame_session origin.config.now origin.member origin.moment _ c.args.session.now c.take.new.self c.args.frame.bytes.now c.in_ok-turn.turn c.in-Some.request moment
    c.in_ok-turn.ensures.turn c.in_ok-turn.ensures.machine c.in-Some.is in
    rw same
    (subst (λ (r : Request). OnOk c.work_request.result (c.work_request.new.session ≡ (answer origin.config.now origin.member origin.moment c.take.new.self r).session))
    c.in-Some.request-is c.work_request.ensures.session)

pub returns-clause-took : goal.returns-clause-took
returns-clause-took g c =
    let origin = c.args.origin in
    let moment : to_z w64 (of_z w64 origin.moment) ≡ origin.moment = search rules in
    let same = frame_submits origin.config.now origin.member origin.moment _ c.args.session.now c.take.new.self c.args.frame.bytes.now c.in_ok-turn.turn c.in-Some.request moment
    c.in_ok-turn.ensures.turn c.in_ok-turn.ensures.machine c.in-Some.is in
    rw same
    (subst (λ (r : Request). OnOk c.work_request.result (TookAll g.F.Floor.at g.F.Floor.step_limit (g.F.Floor.mark c.args.floor.now) origin.feed origin.moment
    (answer origin.config.now origin.member origin.moment c.take.new.self r).submissions (c.args.floor.now, c.args.steps.now) (c.work_request.new.floor, c.work_request.new.steps)))
    c.in-Some.request-is c.work_request.ensures.took)

pub returns-clause-none : goal.returns-clause-none
returns-clause-none g c =
    let origin = c.args.origin in
    let moment : to_z w64 (of_z w64 origin.moment) ≡ origin.moment = search rules in
    let same = frame_submits origin.config.now origin.member origin.moment _ c.args.session.now c.take.new.self c.args.frame.bytes.now c.in_ok-turn.turn c.in-Some.request moment
    c.in_ok-turn.ensures.turn c.in_ok-turn.ensures.machine c.in-Some.is in
    rw same
    (subst (λ (r : Request). IfErr c.work_request.result (λ refusal. TookNone g.F.Floor.at g.F.Floor.step_limit (g.F.Floor.mark c.args.floor.now) origin.feed origin.moment refusal
    (answer origin.config.now origin.member origin.moment c.take.new.self r).submissions (c.args.floor.now, c.args.steps.now) (c.work_request.new.floor, c.work_request.new.steps)))
    c.in-Some.request-is c.work_request.ensures.none)
