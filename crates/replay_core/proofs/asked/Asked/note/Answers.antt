-- The symbol that was noted is one.
use Rattle.std.proofs.Common.{◌<◌, length, true, false, arith}
use Rattle.std.proofs.lemmas.List.{get_or-set_same}
use Rattle.replay_core.proofs.asked.Asked.note.Goals as goal

pub invariant_of-self : goal.invariant_of-self
invariant_of-self c =
    let within : c.args.symbol < length c.self.inside.symbols.items = omega (arith, c.len.ensures, c.if-symbol-len.true) in
    record {
      none = λ e. absurd (cc);
      some = λ e. record { symbol = c.args.symbol; is = get_or-set_same c.self.inside.symbols.items c.args.symbol true false within };
    }
