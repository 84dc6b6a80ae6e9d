use Rattle.std.proofs.Common.{◌≡◌, ◌==◌, ℕ, List, [], ◌∷◌, ◌++◌, true, false, length, sym, ◌∙◌, ap, subst, append-nil, refl, arith}
use Rattle.std.proofs.lemmas.Bool.Decides.{nat_tests}
use Rattle.audit_core.specs.Telling.{Lists}
use Rattle.audit_core.proofs.Awaiting.{awaits_end}
use Rattle.audit_core.proofs.verdict.verdict_at_end.Goals as goal
use Rattle.audit_core.proofs.verdict.verdict_at_end.Goals.{else-is_empty-via-then-is_empty+else-is_whole, else-is_empty-via-else-is_empty}

empty_of : (xs : List ℕ) → (length xs == 0) ≡ true → xs ≡ []
empty_of [] e = refl
empty_of (x ∷ xs) e = grind (arith, nat_tests)

pub returns-then-is_whole-clause-same : goal.returns-then-is_whole-clause-same
returns-then-is_whole-clause-same c = λ is telling read told has.
    let none : c.args.rest.now ≡ [] = empty_of c.args.rest.now (sym c.is_empty.ensures ∙ c.if-is_empty.true) in
    subst (λ (t : List ℕ). Lists telling c.args.config.now (read ++ t) told) (sym none)
    (subst (λ (t : List ℕ). Lists telling c.args.config.now t told) (sym (append-nil read)) (c.is_whole.ensures.whole c.if-is_whole.true telling read told has))

pub returns-else-is_empty-clause-differs : goal.returns-else-is_empty-clause-differs
returns-else-is_empty-clause-differs c = λ number expected is. (
  cc,
  cc,
  λ awaits.
      elim c.else-is_empty.branch [
        | else-is_empty-via-then-is_empty+else-is_whole w ↦
            let e = w.is_whole.ensures.awaited c.args.rest.now c.requires.clear awaits in
            let never : true ≡ false = sym e.0 ∙ w.if-is_whole.false in
            absurd (cc)
        | else-is_empty-via-else-is_empty w ↦
            let e = awaits_end c.args.config.now c.args.auditor.now.symbol c.args.auditor.now.part c.args.rest.now c.requires.at.opened c.requires.clear awaits in
            let none : (length c.args.rest.now == 0) ≡ true = ap (λ (xs : List ℕ). length xs == 0) e.2 in
            let never : true ≡ false = sym none ∙ sym c.is_empty.ensures ∙ w.if-is_empty.false in
            absurd (cc)
      ],
)
