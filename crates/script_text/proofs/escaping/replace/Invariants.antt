use Rattle.std.proofs.Common.{◌≡◌, ◌++◌, map, take, drop}
use Rattle.script_text.specs.Escaping.{replaced}
use Rattle.script_text.proofs.escaping.replace.Given as goal

-- the bytes so far were replaced, and the others stand
abbrev pub invariant-loop-byte : goal.invariant-loop-byte
invariant-loop-byte l = l.bytes ≡ map (replaced l.old l.new) (take l.byte-index l.fn.bytes) ++ drop l.byte-index l.fn.bytes
