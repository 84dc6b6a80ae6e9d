use Rattle.std.proofs.Common.{get_or, arith}
use Rattle.std.proofs.lemmas.List.{get_or_default}
use Rattle.std.proofs.lemmas.List.Edits.{map_over_more}
use Rattle.script_text.specs.Escaping.{replaced}
use Rattle.script_text.proofs.escaping.replace.Goals as goal

pub loop-byte-preserved : goal.loop-byte-preserved
loop-byte-preserved c =
    let byte = get_or c.loop-byte.bytes c.loop-byte.byte-index 0 in
    rw c.replaced.ensures
    (map_over_more (replaced c.args.old c.args.new) c.args.bytes.now c.loop-byte.bytes c.loop-byte.byte-index byte (omega arith) c.loop-byte.invariant (get_or_default c.loop-byte.bytes c.loop-byte.byte-index 0 byte (omega arith)))
