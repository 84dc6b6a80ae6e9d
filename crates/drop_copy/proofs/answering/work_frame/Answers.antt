use Rattle.std.proofs.Common.{◌≡◌, w64, to_z, of_z, rules}
use Rattle.session_stream.specs.Work.{work_of_frame}
use Rattle.drop_copy.proofs.Frames.{gave_up_after}
use Rattle.drop_copy.proofs.answering.work_frame.Goals as goal

pub returns-clause-session : goal.returns-clause-session
unfolding work_of_frame
returns-clause-session c = search rules

pub returns-clause-replies : goal.returns-clause-replies
unfolding work_of_frame
returns-clause-replies c = search rules

pub returns-clause-gave_up : goal.returns-clause-gave_up
returns-clause-gave_up c =
    let e : to_z w64 (of_z w64 c.args.moment) ≡ c.args.moment = search rules in
    gave_up_after c.work_turn.result c.args.moment _ c.args.session.now c.take.new.self c.work_turn.new.session c.args.frame.bytes.now e
    c.in_ok-turn.ensures.machine c.work_turn.ensures.err
