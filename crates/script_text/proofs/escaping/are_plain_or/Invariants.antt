use Rattle.std.proofs.Common.{◌≡◌, take}
use Rattle.std.specs.List.{list_all}
use Rattle.script_text.specs.Escaping.{is_plain_or}
use Rattle.script_text.proofs.escaping.are_plain_or.Given as goal

-- what was found of the bytes so far
abbrev pub invariant-loop-byte : goal.invariant-loop-byte
invariant-loop-byte l = l.passed ≡ list_all (is_plain_or l.other) (take l.byte-index l.bytes)
