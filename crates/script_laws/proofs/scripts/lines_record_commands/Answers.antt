use Rattle.script_laws.proofs.LineHistories.{lines_record}
use Rattle.script_laws.proofs.scripts.lines_record_commands.Goals as goal

pub returns : goal.returns
returns c = lines_record
