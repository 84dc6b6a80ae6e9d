use Rattle.fix_frames.specs.NextLaws.{given_frame, none_before, frame_in_front}
use Rattle.message_laws.proofs.framers.whole_frames.Goals as goal

pub returns-clause-given : goal.returns-clause-given
returns-clause-given c = λ bytes n frame h. given_frame bytes n frame h

pub returns-clause-first : goal.returns-clause-first
returns-clause-first c = λ bytes n frame h k other rest l f fits e. none_before bytes n frame h k other rest l f fits e

pub returns-clause-front : goal.returns-clause-front
returns-clause-front c = λ frame more f fits. frame_in_front frame more f fits
