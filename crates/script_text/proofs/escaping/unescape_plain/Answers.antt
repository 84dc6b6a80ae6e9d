use Rattle.std.proofs.Common.{arith}
use Rattle.script_text.proofs.Written.{plain_read}
use Rattle.script_text.proofs.escaping.unescape_plain.Goals as goal

pub returns : goal.returns
returns c =
    plain_read c.args.text.now c.as_mut_slice.result.now c.in_ok-bytes.bytes.items c.replace.new.bytes c.in_ok-bytes.bytes.len
    c.in_ok-bytes.ensures.items c.as_mut_slice.ensures.value (omega (arith, c.in_ok-bytes.ensures.len)) c.requires c.replace.ensures
