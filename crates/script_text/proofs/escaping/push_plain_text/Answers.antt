use Rattle.std.proofs.Common.{◌∙◌, sym, arith}
use Rattle.script_text.proofs.Written.{plain_pushed}
use Rattle.script_text.proofs.escaping.push_plain_text.Goals as goal

pub returns : goal.returns
returns c =
    plain_pushed c.args.out.now.items c.args.bytes.now c.deref_mut.result.now c.extend_from_slice.new.self.items c.replace.new.bytes
    c.len-start.result c.extend_from_slice.new.self.len
    (c.deref_mut.ensures.value ∙ c.in_ok-extend_from_slice.ensures.items) (sym c.deref_mut.ensures.value) (omega arith)
    (omega (arith, c.in_ok-extend_from_slice.ensures.len)) c.requires c.replace.ensures
