use Rattle.std.proofs.Common.{◌≡◌, ℕ, true, false, [], ◌∷◌, drop, sym, ◌∙◌, ap, arith}
use lib.Pointwise.{bytes_decides}
use Rattle.day_journal.specs.Log.{size_of}
use Rattle.journal_follow.proofs.Finding.{end_shut, end_first, end_open}
use Rattle.journal_follow.proofs.following.end_of.Goals as goal

pub returns-then-gate-eq0-clause-found : goal.returns-then-gate-eq0-clause-found
returns-then-gate-eq0-clause-found c file past gate begins is =
    let rest : drop (size_of past) file ≡ c.args.bytes.now = ap (λ (n : ℕ). drop n file) (sym gate) ∙ is in
    rw (c.nothing.ensures.0, c.nothing.ensures.2) (end_first file c.args.bytes.now past begins rest c.requires (omega (arith, gate, c.if-gate-eq0.true)))

pub returns-then-eq-clause-found : goal.returns-then-eq-clause-found
returns-then-eq-clause-found c file past gate begins is =
    let rest : drop (size_of past) file ≡ c.args.bytes.now = ap (λ (n : ℕ). drop n file) (sym gate) ∙ is in
    let one : c.args.bytes.now ≡ 1 ∷ [] = (bytes_decides c.args.bytes.now c.as_slice.result.now).0 (sym c.if-eq.ensures) ∙ c.as_slice.ensures in
    rw (c.nothing-then-eq.ensures.0, c.nothing-then-eq.ensures.2) (end_open file c.args.bytes.now past begins rest one (omega (arith, gate, c.if-gate-eq0.false)))

pub returns-clause-found : goal.returns-clause-found
returns-clause-found c file past gate begins is =
    let rest : drop (size_of past) file ≡ c.args.bytes.now = ap (λ (n : ℕ). drop n file) (sym gate) ∙ is in
    rw (c.nothing-2.ensures.0, c.nothing-2.ensures.2) (end_shut file c.args.bytes.now past begins rest c.requires (λ one.
    let never : false ≡ true = c.if-eq.ensures ∙ (bytes_decides c.args.bytes.now c.as_slice.result.now).1 (one ∙ sym c.as_slice.ensures) in absurd (cc)))
