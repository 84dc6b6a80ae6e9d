use Rattle.fix_frames.specs.FramedLaws.{field-spelling}
use Rattle.message_laws.proofs.framers.written_fields.Goals as goal

pub returns : goal.returns
returns c = field-spelling
