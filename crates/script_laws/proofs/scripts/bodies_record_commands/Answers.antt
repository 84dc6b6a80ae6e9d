use Rattle.script_laws.proofs.ScriptHistories.{body_records}
use Rattle.script_laws.proofs.scripts.bodies_record_commands.Goals as goal

pub returns : goal.returns
returns c = body_records
