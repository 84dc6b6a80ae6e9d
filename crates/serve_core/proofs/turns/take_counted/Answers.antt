use Rattle.std.proofs.Common.{◌≡◌, ℤ, ◌++◌, ◌∙◌, ap, subst, w64, to_z, of_z, rules}
use Rattle.fix_frames.specs.Reading.{reading_of}
use Rattle.session_core.specs.declared.turn.Turn.{Turn}
use Rattle.member_gate.specs.Answering.{Work}
use Rattle.member_gate.specs.Desks as desks
use Rattle.member_gate.specs.Submitting.{Stopped}
use Rattle.line_work.specs.LineWork.{work_of_bytes}
use Rattle.line_work.proofs.DeskWork.{piece_same, piece_took, desk_fed}
use Rattle.serve_core.proofs.Grows.{grew_all}
use Rattle.serve_core.proofs.Pieces.{piece_refused}
use Rattle.serve_core.proofs.turns.take_counted.Goals as goal

pub returns-in-Ok-clause-serves : goal.returns-in-Ok-clause-serves
returns-in-Ok-clause-serves g c before x =
    let e : to_z w64 (of_z w64 c.args.source.moment) ≡ c.args.source.moment = search rules in record {
      desk_is =
          desk_fed c.args.source.config.now c.args.source.moment c.args.desk.now c.take.new.self before.connection
          c.args.piece.now x.desk_is c.in-Ok.ensures.member
          (c.in-Ok.ensures.session
          ∙ ap (λ (m : ℤ). (desks.work_of_piece c.args.source.config.now m c.args.desk.now c.args.piece.now).session) e)
          c.in-Ok.ensures.unread;
      cursors_are = c.in-Ok.ensures.cursors ∙ x.cursors_are;
    }

pub returns-in-Ok-clause-replies : goal.returns-in-Ok-clause-replies
returns-in-Ok-clause-replies g c before x =
    let e : to_z w64 (of_z w64 c.args.source.moment) ≡ c.args.source.moment = search rules in
    ap (λ (t : Turn). t.replies) c.in-Ok.ensures.turn
    ∙ ap (λ (m : ℤ). (desks.work_of_piece c.args.source.config.now m c.args.desk.now c.args.piece.now).replies) e
    ∙ ap (λ (w : Work). w.replies) (piece_same c.args.source.config.now c.args.source.moment c.args.desk.now before.connection c.args.piece.now x.desk_is)

pub returns-in-Ok-clause-ended : goal.returns-in-Ok-clause-ended
returns-in-Ok-clause-ended g c = ap (λ (t : Turn). t.ended) c.in-Ok.ensures.turn

pub returns-in-Ok-clause-grew : goal.returns-in-Ok-clause-grew
returns-in-Ok-clause-grew g c before x =
    let e : to_z w64 (of_z w64 c.args.source.moment) ≡ c.args.source.moment = search rules in
    grew_all g.F.Floor.at g.F.Floor.step_limit (g.F.Floor.mark c.args.floor.now) c.args.source.feed c.args.source.moment
    (work_of_bytes c.args.source.config.now c.args.source.moment before.connection c.args.piece.now).submissions (c.args.floor.now, c.start-steps.result) (c.take.new.floor, c.take.new.steps)
    (piece_took g.F.Floor.at g.F.Floor.step_limit (g.F.Floor.mark c.args.floor.now) c.args.source.config.now c.args.source.feed
    c.args.source.moment _ c.args.desk.now before.connection c.args.piece.now (c.args.floor.now, c.start-steps.result) (c.take.new.floor, c.take.new.steps) e x.desk_is c.in-Ok.ensures.took)

pub returns-clause-refused : goal.returns-clause-refused
returns-clause-refused g c before x =
    let e : to_z w64 (of_z w64 c.args.source.moment) ≡ c.args.source.moment = search rules in
    piece_refused g.F.Floor.at g.F.Floor.step_limit (g.F.Floor.mark c.args.floor.now) c.args.source.config.now c.args.source.feed
    c.args.source.moment c.in-Err.refusal c.take.new.self.session c.take.new.self.submitted (c.args.floor.now, c.start-steps.result)
    (c.take.new.floor, c.take.new.steps) c.args.desk.now before.connection c.args.piece.now x.desk_is
    (λ over. let is = (c.in-Err.ensures.over over).0 in (cc))
    (subst (λ (m : ℤ). Stopped g.F.Floor.at g.F.Floor.step_limit (g.F.Floor.mark c.args.floor.now) c.args.source.config.now
    c.args.desk.now.member c.args.source.feed m c.args.desk.now.session (reading_of (c.args.desk.now.unread ++ c.args.piece.now)).frames
    c.in-Err.refusal c.take.new.self.session c.take.new.self.submitted (c.args.floor.now, c.start-steps.result) (c.take.new.floor, c.take.new.steps)) e c.in-Err.ensures.stopped)
