use Rattle.std.proofs.Common.{◌≡◌, ℤ, ℕ, List, ◌++◌, sym, ◌∙◌, ap, subst, w64, to_z, of_z, rules}
use Rattle.fix_frames.specs.Reading.{reading_of}
use Rattle.session_core.specs.declared.turn.Turn.{Turn}
use Rattle.member_gate.specs.Answering.{Work, name_at}
use Rattle.member_gate.specs.Desks as desks
use Rattle.member_gate.specs.Submitting.{Stopped}
use Rattle.line_work.specs.LineWork.{work_of_bytes}
use Rattle.line_work.specs.Output.{frame_lines}
use Rattle.line_work.proofs.DeskWork.{piece_same, piece_took, desk_fed, piece_stopped}
use Rattle.line_work.proofs.Stops.{stopped_behind}
use Rattle.line_work.proofs.taking.take_piece.Goals as goal

pub returns-in-Err-clause-stopped : goal.returns-in-Err-clause-stopped
returns-in-Err-clause-stopped g c connection x =
    let e : to_z w64 (of_z w64 c.args.source.moment) ≡ c.args.source.moment = search rules in
    piece_stopped g.F.Floor.at g.F.Floor.step_limit (g.F.Floor.mark c.args.floor.now) c.args.source.config.now c.args.source.feed
    c.args.source.moment c.args.desk.now c.take.new.self.session connection c.args.piece.now c.in-Err.refusal
    c.take.new.self.submitted (c.args.floor.now, c.args.steps.now) (c.take.new.floor, c.take.new.steps) x
    (subst (λ (m : ℤ). Stopped g.F.Floor.at g.F.Floor.step_limit (g.F.Floor.mark c.args.floor.now) c.args.source.config.now
    c.args.desk.now.member c.args.source.feed m c.args.desk.now.session (reading_of (c.args.desk.now.unread ++ c.args.piece.now)).frames
    c.in-Err.refusal c.take.new.self.session c.take.new.self.submitted (c.args.floor.now, c.args.steps.now) (c.take.new.floor, c.take.new.steps)) e
    c.in-Err.ensures.stopped)

pub returns-in-Ok-push_frames-clause-desk : goal.returns-in-Ok-push_frames-clause-desk
returns-in-Ok-push_frames-clause-desk g c connection x =
    let e : to_z w64 (of_z w64 c.args.source.moment) ≡ c.args.source.moment = search rules in
    desk_fed c.args.source.config.now c.args.source.moment c.args.desk.now c.take.new.self connection c.args.piece.now x
    c.in-Ok.ensures.member
    (c.in-Ok.ensures.session
    ∙ ap (λ (m : ℤ). (desks.work_of_piece c.args.source.config.now m c.args.desk.now c.args.piece.now).session) e)
    c.in-Ok.ensures.unread

pub returns-in-Ok-push_frames-clause-text : goal.returns-in-Ok-push_frames-clause-text
returns-in-Ok-push_frames-clause-text g c connection x =
    let e : to_z w64 (of_z w64 c.args.source.moment) ≡ c.args.source.moment = search rules in
    let name : c.name_at-name.result.now ≡ name_at c.args.source.config.now.members connection.number =
    c.name_at-name.ensures ∙ ap (λ (names : List (List ℕ)). name_at names c.args.source.member) c.as_slice.ensures
    ∙ ap (name_at c.args.source.config.now.members) (sym c.requires.own ∙ x.number) in
    let sent : c.as_slice-2.result.now ≡ (work_of_bytes c.args.source.config.now c.args.source.moment connection c.args.piece.now).replies =
    c.as_slice-2.ensures ∙ ap (λ (t : Turn). t.replies) c.in-Ok.ensures.turn
    ∙ ap (λ (m : ℤ). (desks.work_of_piece c.args.source.config.now m c.args.desk.now c.args.piece.now).replies) e
    ∙ ap (λ (w : Work). w.replies) (piece_same c.args.source.config.now c.args.source.moment c.args.desk.now connection c.args.piece.now x) in
    c.in-Ok-push_frames.ensures ∙ ap (λ (n : List ℕ). c.args.out.now.items ++ frame_lines n c.as_slice-2.result.now) name
    ∙ ap (λ (f : List (List ℕ)). c.args.out.now.items ++ frame_lines (name_at c.args.source.config.now.members connection.number) f) sent

pub returns-in-Ok-push_frames-clause-took : goal.returns-in-Ok-push_frames-clause-took
returns-in-Ok-push_frames-clause-took g c connection x =
    let e : to_z w64 (of_z w64 c.args.source.moment) ≡ c.args.source.moment = search rules in
    piece_took g.F.Floor.at g.F.Floor.step_limit (g.F.Floor.mark c.args.floor.now) c.args.source.config.now c.args.source.feed
    c.args.source.moment _ c.args.desk.now connection c.args.piece.now
    (c.args.floor.now, c.args.steps.now) (c.take.new.floor, c.take.new.steps) e x c.in-Ok.ensures.took

pub returns-clause-stopped : goal.returns-clause-stopped
returns-clause-stopped g c connection x =
    let e : to_z w64 (of_z w64 c.args.source.moment) ≡ c.args.source.moment = search rules in
    stopped_behind g.F.Floor.at g.F.Floor.step_limit (g.F.Floor.mark c.args.floor.now) c.args.source.feed c.args.source.moment _
    (c.args.floor.now, c.args.steps.now) (c.take.new.floor, c.take.new.steps)
    (piece_took g.F.Floor.at g.F.Floor.step_limit (g.F.Floor.mark c.args.floor.now) c.args.source.config.now c.args.source.feed
    c.args.source.moment _ c.args.desk.now connection c.args.piece.now
    (c.args.floor.now, c.args.steps.now) (c.take.new.floor, c.take.new.steps) e x c.in-Ok.ensures.took)
