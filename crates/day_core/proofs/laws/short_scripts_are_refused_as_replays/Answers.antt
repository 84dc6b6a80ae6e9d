use Rattle.day_core.proofs.Refused.{refuses_as_replay}
use Rattle.day_core.proofs.laws.short_scripts_are_refused_as_replays.Goals as goal

pub returns : goal.returns
returns c = refuses_as_replay
