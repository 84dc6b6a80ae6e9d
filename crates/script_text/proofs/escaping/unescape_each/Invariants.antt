use Rattle.std.proofs.Common.{◌≡◌, ◌+◌, ◌++◌, ◌≤◌, length, vec_len, vec_capacity}
use Rattle.std.specs.Option.{option_map}
use Rattle.script_text.specs.Escaping.{text_of}
use Rattle.script_text.proofs.escaping.unescape_each.Given as goal

-- the bytes so far stand before those of the rest, for which there is room
abbrev pub invariant-loop-byte : goal.invariant-loop-byte
invariant-loop-byte l = record {
  bytes : option_map (λ more. l.bytes.items ++ more) (text_of l.rest) ≡ text_of l.text;
  room : vec_len l.bytes + length l.rest ≤ vec_capacity l.bytes;
}

abbrev pub decreases-loop-byte : goal.decreases-loop-byte
decreases-loop-byte l = length l.rest
