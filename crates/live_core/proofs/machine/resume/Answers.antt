use Rattle.std.proofs.Common.{rules, ◌≡◌, ◌+◌, ℕ, List, None, Some, Err, [], ◌∷◌, ◌++◌, take, drop, sym, ◌∙◌, ap, subst, arith}
use Rattle.std.proofs.lemmas.List.{take_more, drop_more, take-append-drop, length-take-le}
use Rattle.live_core.specs.Lines.{kept}
use Rattle.live_core.specs.declared.machine.Halt.TheVariants.{Halted}
use Rattle.live_core.proofs.Laws.{taken_is, refused_is, refused-not, kept-append, kept-taken}
use Rattle.live_core.proofs.machine.resume.Goals as goal

pub returns-then-not-branch-clause-resumed : goal.returns-then-not-branch-clause-resumed
returns-then-not-branch-clause-resumed g c =
    let inv = c.loop-line.invariant in
    let i = c.loop-line.line-index in
    let lines : List (List ℕ) = c.args.lines.now in
    let line : List ℕ = c.line-item.result in
    let at = take i lines in
    let answer = refused_is (g.M.Machine.has_taken c.line.new.self) (g.M.Machine.yields at c.as_slice.result.now) at c.as_slice.result.now c.clear.new.self.items c.line.new.out.items c.in_ok-line.field-0 c.if-not-branch.true
    (c.in_ok-line.ensures.answer at inv.has_taken) in (
      at,
      line,
      drop (i + 1) lines,
      sym (take-append-drop i lines) ∙ ap (λ (l : List (List ℕ)). at ++ l) (drop_more lines i line (omega arith) ∙ ap (λ (x : List ℕ). x ∷ drop (i + 1) lines) (sym c.line-item.is)),
      inv.number ∙ ap (λ (n : ℕ). n + 1) (sym (length-take-le i lines (omega arith))),
      inv.kept,
      ap (g.M.Machine.yields at) (sym c.as_slice.ensures) ∙ answer.0,
    )

pub loop-line-preserved : goal.loop-line-preserved
loop-line-preserved g c =
    let inv = c.loop-line.invariant in
    let i = c.loop-line.line-index in
    let lines : List (List ℕ) = c.args.lines.now in
    let line : List ℕ = c.line-item.result in
    let at = take i lines in
    let yields = g.M.Machine.yields in
    let more : take (i + 1) lines ≡ at ++ line ∷ [] = take_more lines i line (omega arith) ∙ ap (λ (x : List ℕ). at ++ x ∷ []) (sym c.line-item.is) in
    let answer = taken_is (g.M.Machine.has_taken c.line.new.self) (yields at c.as_slice.result.now) at c.as_slice.result.now c.clear.new.self.items c.line.new.out.items c.in_ok-line.field-0 c.if-not-branch.false
    (c.in_ok-line.ensures.answer at inv.has_taken) in
    let is : yields at line ≡ Some answer.0 = ap (yields at) (sym c.as_slice.ensures) ∙ answer.1 in
    let whole : kept yields [] (at ++ line ∷ []) ≡ at ++ line ∷ [] =
    kept-append yields [] at (line ∷ []) ∙ ap (λ (l : List (List ℕ)). l ++ kept yields l (line ∷ [])) inv.kept ∙ ap (λ (l : List (List ℕ)). at ++ l) (kept-taken yields at line [] answer.0 is) in
    record {
      has_taken = subst (g.M.Machine.has_taken c.line.new.self) (ap (λ (x : List ℕ). at ++ x ∷ []) c.as_slice.ensures ∙ sym more) answer.3;
      kept = ap (kept yields []) more ∙ whole ∙ sym more;
      number = omega (arith, inv.number);
    }

pub returns-in_err-line-clause-halted : goal.returns-in_err-line-clause-halted
returns-in_err-line-clause-halted g c halted all =
    let inv = c.loop-line.invariant in
    let i = c.loop-line.line-index in
    let lines : List (List ℕ) = c.args.lines.now in
    let line : List ℕ = c.line-item.result in
    let at = take i lines in
    let is : c.line.result ≡ Err Halted = search rules in
    let none : g.M.Machine.yields at line ≡ None =
    ap (g.M.Machine.yields at) (sym c.as_slice.ensures) ∙ c.line.ensures.halted is at inv.has_taken in
    let whole : lines ≡ at ++ line ∷ drop (i + 1) lines =
    sym (take-append-drop i lines) ∙ ap (λ (l : List (List ℕ)). at ++ l) (drop_more lines i line (omega arith) ∙ ap (λ (x : List ℕ). x ∷ drop (i + 1) lines) (sym c.line-item.is)) in
    refused-not g.M.Machine.yields at line (drop (i + 1) lines) inv.kept none (subst (λ (l : List (List ℕ)). kept g.M.Machine.yields [] l ≡ l) whole all)
