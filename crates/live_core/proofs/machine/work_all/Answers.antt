use Rattle.std.proofs.Common.{rules, ◌≡◌, ℕ, List, Some, None, Err, [], ◌∷◌, ◌++◌, length, sym, ◌∙◌, ap, subst, append_assoc, length-append, arith}
use Rattle.std.proofs.lemmas.List.Elements.{All-head, All-same, All-rest, All-push}
use Rattle.day_journal.specs.Log.{IsShortLine}
use Rattle.live_core.specs.Lines.{kept, output}
use Rattle.live_core.specs.declared.machine.Halt.TheVariants.{Halted}
use Rattle.live_core.proofs.Laws.{taken_is, refused_is, refused_among, work_taken, tell_taken, kept-refused, output-refused}
use Rattle.live_core.proofs.machine.work_all.Goals as goal

pub loop-line-preserved-in-Continue-branch-2 : goal.loop-line-preserved-in-Continue-branch-2
loop-line-preserved-in-Continue-branch-2 g c =
    let inv = c.loop-line.invariant in
    let yields = g.M.Machine.yields in
    let line : List ℕ = c.in-Some.line in
    let rest : List (List ℕ) = c.next.new.self.rest.items in
    let e : c.loop-line.line-iterator.rest.items ≡ line ∷ rest = c.in-Some.ensures.steps.0 in
    let taken : List (List ℕ) = c.loop-line.taken.items in
    let out : List ℕ = c.loop-line.out.items in
    let items : c.push.new.self.items ≡ taken ++ line ∷ [] = c.in_ok-push.ensures.items in
    let short = All-head IsShortLine line rest (All-same IsShortLine (line ∷ rest) c.loop-line.line-iterator.rest.items (sym e) inv.rest) in
    record {
      worked = λ past was.
          let was_worked = inv.worked past was in
          let at = past ++ taken in
          let answer = taken_is (g.M.Machine.has_taken c.line.new.self) (yields at c.as_slice.result.now) at c.as_slice.result.now out c.line.new.out.items c.in_ok-line.field-0 c.if-branch.true
          (c.in_ok-line.ensures.answer at was_worked.2) in
          let text : List ℕ = answer.0 in
          let is : yields at line ≡ Some text = ap (yields at) (sym c.as_slice.ensures) ∙ answer.1 in (
            ap (λ (t : List (List ℕ)). t ++ kept yields (past ++ t) rest) items
                ∙ work_taken yields past taken rest line text is ∙ ap (λ (r : List (List ℕ)). taken ++ kept yields at r) (sym e) ∙ was_worked.0,
            ap (λ (o : List ℕ). o ++ output yields (past ++ c.push.new.self.items) rest) answer.2
                ∙ ap (λ (t : List (List ℕ)). (out ++ text) ++ output yields (past ++ t) rest) items
                ∙ tell_taken yields past taken rest line text out is ∙ ap (λ (r : List (List ℕ)). out ++ output yields at r) (sym e) ∙ was_worked.1,
            subst (g.M.Machine.has_taken c.line.new.self)
                (append_assoc past taken (c.as_slice.result.now ∷ []) ∙ ap (λ (l : List ℕ). past ++ (taken ++ l ∷ [])) c.as_slice.ensures ∙ ap (λ (l : List (List ℕ)). past ++ l) (sym items)) answer.3,
          );
      taken = All-same IsShortLine c.push.new.self.items (taken ++ line ∷ []) items (All-push IsShortLine taken line inv.taken short);
      rest = All-rest IsShortLine line rest c.loop-line.line-iterator.rest.items e inv.rest;
      few = omega (arith, inv.few, ap length items, length-append taken (line ∷ []), ap length e);
      len = (let h = ap length e in let k = c.in-Some.ensures.steps.1 in let w = inv.len in omega arith);
    }

pub loop-line-preserved : goal.loop-line-preserved
loop-line-preserved g c =
    let inv = c.loop-line.invariant in
    let yields = g.M.Machine.yields in
    let line : List ℕ = c.in-Some.line in
    let rest : List (List ℕ) = c.next.new.self.rest.items in
    let e : c.loop-line.line-iterator.rest.items ≡ line ∷ rest = c.in-Some.ensures.steps.0 in
    let taken : List (List ℕ) = c.loop-line.taken.items in
    let out : List ℕ = c.loop-line.out.items in
    record {
      worked = λ past was.
          let was_worked = inv.worked past was in
          let at = past ++ taken in
          let answer = refused_is (g.M.Machine.has_taken c.line.new.self) (yields at c.as_slice.result.now) at c.as_slice.result.now out c.line.new.out.items c.in_ok-line.field-0 c.if-branch.false
          (c.in_ok-line.ensures.answer at was_worked.2) in
          let is : yields at line ≡ None = ap (yields at) (sym c.as_slice.ensures) ∙ answer.0 in (
            ap (λ (l : List (List ℕ)). taken ++ l) (sym (kept-refused yields at line rest is)) ∙ ap (λ (r : List (List ℕ)). taken ++ kept yields at r) (sym e) ∙ was_worked.0,
            ap (λ (o : List ℕ). o ++ output yields at rest) answer.1 ∙ ap (λ (l : List ℕ). out ++ l) (sym (output-refused yields at line rest is))
                ∙ ap (λ (r : List (List ℕ)). out ++ output yields at r) (sym e) ∙ was_worked.1,
            answer.2,
          );
      taken = inv.taken;
      rest = All-rest IsShortLine line rest c.loop-line.line-iterator.rest.items e inv.rest;
      few = omega (arith, inv.few, ap length e);
      len = (let h = ap length e in let k = c.in-Some.ensures.steps.1 in let w = inv.len in omega arith);
    }

pub returns-in_err-line-clause-halted : goal.returns-in_err-line-clause-halted
returns-in_err-line-clause-halted g c halted past was all =
    let inv = c.loop-line.invariant in
    let yields = g.M.Machine.yields in
    let line : List ℕ = c.in-Some.line in
    let rest : List (List ℕ) = c.next.new.self.rest.items in
    let e : c.loop-line.line-iterator.rest.items ≡ line ∷ rest = c.in-Some.ensures.steps.0 in
    let taken : List (List ℕ) = c.loop-line.taken.items in
    let worked = inv.worked past was in
    let is : c.line.result ≡ Err Halted = search rules in
    let none : yields (past ++ taken) line ≡ None =
    ap (yields (past ++ taken)) (sym c.as_slice.ensures) ∙ c.line.ensures.halted is (past ++ taken) worked.2 in
    refused_among yields past taken rest line c.args.lines.items none (ap (λ (r : List (List ℕ)). taken ++ kept yields (past ++ taken) r) (sym e) ∙ worked.0)
    (omega (arith, inv.few, ap length e)) all
