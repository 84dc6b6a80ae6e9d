use Rattle.script_laws.proofs.ScriptHistories.{script_records}
use Rattle.script_laws.proofs.scripts.scripts_record_commands.Goals as goal

pub returns : goal.returns
returns c = script_records
