use Rattle.std.proofs.Common.{◌≡◌, ◌++◌, take}
use Rattle.script_text.specs.Escaping.{escape_text}
use Rattle.script_text.proofs.escaping.push_each.Given as goal

-- the bytes so far were appended
abbrev pub invariant-loop-byte : goal.invariant-loop-byte
invariant-loop-byte l = l.out.items ≡ l.initial.out.items ++ escape_text (take l.byte-index l.bytes)
