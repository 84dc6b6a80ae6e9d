use Rattle.live_machine.proofs.Transcripts.{run}
use Rattle.live_machine.proofs.laws.output_goes_on.Goals as goal

pub returns : goal.returns
returns c = run
