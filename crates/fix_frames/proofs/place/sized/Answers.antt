use Rattle.std.proofs.Common.{arith, rules}
use Rattle.std.proofs.lemmas.Grind.{common_steps}
use Rattle.fix_frames.specs.Places.{judged}
use Rattle.fix_frames.proofs.place.sized.Goals as goal

pub returns-then-is_frame : goal.returns-then-is_frame
unfolding judged
returns-then-is_frame c = grind (arith, common_steps)

pub returns-then-bytes-size : goal.returns-then-bytes-size
unfolding judged
returns-then-bytes-size c = search rules
