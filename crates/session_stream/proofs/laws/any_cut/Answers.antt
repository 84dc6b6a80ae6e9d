use Rattle.session_stream.specs.WorkLaws.{cut_anywhere}
use Rattle.session_stream.proofs.laws.any_cut.Goals as goal

pub returns : goal.returns
returns c = cut_anywhere
