use Rattle.quote_text.proofs.Written.{written_side}
use Rattle.quote_text.proofs.laws.written_sides.Goals as goal

pub returns : goal.returns
returns c = written_side
