use Rattle.live_machine.proofs.Transcripts.{whole}
use Rattle.live_machine.proofs.laws.journal_is_script.Goals as goal

pub returns : goal.returns
returns c = whole
