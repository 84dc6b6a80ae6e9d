use Rattle.fix_frames.specs.FramedLaws.{framed_frame, wrapped_frame}
use Rattle.message_laws.proofs.framers.written_frames.Goals as goal

pub returns-clause-message : goal.returns-clause-message
returns-clause-message c = λ kind sender target number moment first_sent body whole fits. framed_frame kind sender target number moment first_sent body whole fits

pub returns-clause-fields : goal.returns-clause-fields
returns-clause-fields c = λ content start first last fits. wrapped_frame content start first last fits
