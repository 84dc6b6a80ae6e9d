use Rattle.live_machine.proofs.Transcripts.{goes_on}
use Rattle.live_machine.proofs.laws.journal_goes_on.Goals as goal

pub returns : goal.returns
returns c = goes_on
