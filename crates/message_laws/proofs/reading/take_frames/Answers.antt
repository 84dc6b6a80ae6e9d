use Rattle.std.proofs.Common.{rules}
use Rattle.message_laws.proofs.reading.take_frames.Goals as goal

pub returns-in-TooLong : goal.returns-in-TooLong
returns-in-TooLong c = search rules
