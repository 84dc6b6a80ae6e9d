use Rattle.session_stream.specs.WorkLaws.{over_reading}
use Rattle.session_stream.proofs.laws.over_rests.Goals as goal

pub returns : goal.returns
returns c = over_reading
