use Rattle.live_machine.proofs.Transcripts.{transcript}
use Rattle.live_machine.proofs.laws.output_is_transcript.Goals as goal

pub returns : goal.returns
returns c = transcript
