-- No field has ended so far.
use Rattle.std.proofs.Common.{◌≡◌, drop}
use Rattle.fix_fields.specs.Content.{behind_first_end}
use Rattle.fix_fields.proofs.frame.front_of.Given as goal

abbrev pub invariant-loop-place : goal.invariant-loop-place
invariant-loop-place l = behind_first_end (drop l.place l.bytes) ≡ behind_first_end (drop 11 l.bytes)
