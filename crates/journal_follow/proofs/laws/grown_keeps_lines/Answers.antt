use Rattle.journal_follow.proofs.Growing.{grown_keeps}
use Rattle.journal_follow.proofs.laws.grown_keeps_lines.Goals as goal

pub returns : goal.returns
returns c = grown_keeps
