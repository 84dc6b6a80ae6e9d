use Rattle.std.proofs.Common.{◌≡◌, Some, None, length, sym, ◌∙◌, eq-eqb, rules}
use Rattle.audit_core.proofs.Awaiting.{awaits_end}
use Rattle.audit_core.proofs.reading.Auditor.is_whole.Goals as goal

pub returns-in-None-clause-awaited : goal.returns-in-None-clause-awaited
returns-in-None-clause-awaited c = λ rest clear awaits.
    let e = awaits_end c.args.config.now c.args.self.now.symbol c.args.self.now.part rest c.requires.opened clear awaits in
    let n : c.len.result ≡ length c.args.config.now.symbols = search rules in
    (eq-eqb c.args.self.now.symbol c.len.result (e.1 ∙ sym n), e.2)

pub returns-in-Some-clause-awaited : goal.returns-in-Some-clause-awaited
returns-in-Some-clause-awaited c = λ rest clear awaits.
    let e = awaits_end c.args.config.now c.args.self.now.symbol c.args.self.now.part rest c.requires.opened clear awaits in
    let never : None ≡ Some c.in-Some.field-0 = sym e.0 ∙ c.in-Some.is in
    absurd (cc)
