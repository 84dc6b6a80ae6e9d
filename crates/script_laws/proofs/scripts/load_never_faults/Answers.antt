use Rattle.replay_core.proofs.LoadTaken.{load_whole}
use Rattle.script_laws.proofs.scripts.load_never_faults.Goals as goal

pub returns : goal.returns
returns c = load_whole
