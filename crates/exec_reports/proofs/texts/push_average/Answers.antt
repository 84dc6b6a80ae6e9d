use Rattle.std.proofs.Common.{rules}
use Rattle.exec_reports.specs.Texts.{average_text}
use Rattle.exec_reports.proofs.texts.push_average.Goals as goal

pub returns : goal.returns
unfolding average_text
returns c = search rules
