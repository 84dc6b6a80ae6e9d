use Rattle.std.proofs.Common.{◌≡◌, ◌<◌, ◌≤◌, ◌^◌, drop}
use Rattle.fix_frames.specs.Places.{length_after}
use Rattle.fix_frames.proofs.place.digits_at.Given as goal

abbrev pub invariant-loop-byte : goal.invariant-loop-byte
invariant-loop-byte l = record {
  meant : length_after l.digits l.value (drop l.byte-index l.bytes) ≡ length_after 0 0 l.bytes;
  few : l.digits ≤ 5;
  small : l.value < 10 ^ l.digits;
}
