use Rattle.std.proofs.Common.{rules, Err, ◌≡◌, ◌+◌, ℕ, List, Some, None, [], ◌∷◌, ◌++◌, length, take, drop, sym, ◌∙◌, ap, subst, append_assoc, arith, length-append}
use Rattle.std.proofs.lemmas.List.{append-nil, take_more, drop_more, take-append-drop}
use Rattle.live_core.specs.Lines.{kept, output}
use Rattle.live_core.specs.declared.machine.Halt.TheVariants.{Halted}
use Rattle.live_core.proofs.Laws.{taken_is, refused_is, refused_among, kept-append, kept-taken, output-append, output-taken}
use Rattle.journal_follow.proofs.following.work.Goals as goal

pub returns-in-Ok-false-clause-refused : goal.returns-in-Ok-false-clause-refused
returns-in-Ok-false-clause-refused g c = (
  λ odd. odd,
  λ number same past was all.
      let yields = g.M.Machine.yields in
      let inv = c.loop-line.invariant.worked past was in
      let i = c.loop-line.line-index in
      let lines : List (List ℕ) = c.args.lines.now in
      let line : List ℕ = c.line-item.result in
      let at = take i lines in
      let rest = drop (i + 1) lines in
      let answer = refused_is (g.M.Machine.has_taken c.line.new.self) (yields (past ++ at) c.as_slice.result.now) (past ++ at) c.as_slice.result.now c.loop-line.out.items c.line.new.out.items c.in-Ok-false.field-0 c.in-Ok-false.field-0-test
      (c.in-Ok-false.ensures.answer (past ++ at) inv.2) in
      let none : yields (past ++ at) line ≡ None = ap (yields (past ++ at)) (sym c.as_slice.ensures) ∙ answer.0 in
      let whole : lines ≡ at ++ line ∷ rest =
      sym (take-append-drop i lines) ∙ ap (λ (l : List (List ℕ)). at ++ l) (drop_more lines i line (omega arith) ∙ ap (λ (x : List ℕ). x ∷ rest) (sym c.line-item.is)) in
      let worked : at ++ kept yields (past ++ at) (line ∷ rest) ≡ kept yields past lines =
      sym (ap (kept yields past) whole ∙ kept-append yields past at (line ∷ rest) ∙ ap (λ (k : List (List ℕ)). k ++ kept yields (past ++ k) (line ∷ rest)) inv.0) in
      refused_among yields past at rest line lines none worked (omega (arith, ap length whole, length-append at (line ∷ rest))) all,
)

pub returns-in-Err-Halted-clause-refused : goal.returns-in-Err-Halted-clause-refused
returns-in-Err-Halted-clause-refused g c = (
  λ odd. odd,
  λ number same past was all.
      let yields = g.M.Machine.yields in
      let inv = c.loop-line.invariant.worked past was in
      let i = c.loop-line.line-index in
      let lines : List (List ℕ) = c.args.lines.now in
      let line : List ℕ = c.line-item.result in
      let at = take i lines in
      let rest = drop (i + 1) lines in
      let is : c.line.result ≡ Err Halted = search rules in
      let none : yields (past ++ at) line ≡ None = ap (yields (past ++ at)) (sym c.as_slice.ensures) ∙ c.line.ensures.halted is (past ++ at) inv.2 in
      let whole : lines ≡ at ++ line ∷ rest =
      sym (take-append-drop i lines) ∙ ap (λ (l : List (List ℕ)). at ++ l) (drop_more lines i line (omega arith) ∙ ap (λ (x : List ℕ). x ∷ rest) (sym c.line-item.is)) in
      let worked : at ++ kept yields (past ++ at) (line ∷ rest) ≡ kept yields past lines =
      sym (ap (kept yields past) whole ∙ kept-append yields past at (line ∷ rest) ∙ ap (λ (k : List (List ℕ)). k ++ kept yields (past ++ k) (line ∷ rest)) inv.0) in
      refused_among yields past at rest line lines none worked (omega (arith, ap length whole, length-append at (line ∷ rest))) all,
)

pub loop-line-preserved : goal.loop-line-preserved
loop-line-preserved g c =
    record {
      worked = λ past was.
          let yields = g.M.Machine.yields in
          let inv = c.loop-line.invariant.worked past was in
          let i = c.loop-line.line-index in
          let lines : List (List ℕ) = c.args.lines.now in
          let line : List ℕ = c.line-item.result in
          let at = take i lines in
          let before : List ℕ = c.args.out.now.items in
          let more : take (i + 1) lines ≡ at ++ line ∷ [] = take_more lines i line (omega arith) ∙ ap (λ (x : List ℕ). at ++ x ∷ []) (sym c.line-item.is) in
          let answer = taken_is (g.M.Machine.has_taken c.line.new.self) (yields (past ++ at) c.as_slice.result.now) (past ++ at) c.as_slice.result.now c.loop-line.out.items c.line.new.out.items c.in-Ok-true.field-0 c.in-Ok-true.field-0-test
          (c.in-Ok-true.ensures.answer (past ++ at) inv.2) in
          let text : List ℕ = answer.0 in
          let is : yields (past ++ at) line ≡ Some text = ap (yields (past ++ at)) (sym c.as_slice.ensures) ∙ answer.1 in
          let each : kept yields past (at ++ line ∷ []) ≡ at ++ line ∷ [] =
          kept-append yields past at (line ∷ []) ∙ ap (λ (k : List (List ℕ)). k ++ kept yields (past ++ k) (line ∷ [])) inv.0
          ∙ ap (λ (k : List (List ℕ)). at ++ k) (kept-taken yields (past ++ at) line [] text is) in
          let told : output yields past (at ++ line ∷ []) ≡ output yields past at ++ text =
          output-append yields past at (line ∷ []) ∙ ap (λ (k : List (List ℕ)). output yields past at ++ output yields (past ++ k) (line ∷ [])) inv.0
          ∙ ap (λ (o : List ℕ). output yields past at ++ o) (output-taken yields (past ++ at) line [] text is ∙ append-nil text) in (
            ap (kept yields past) more ∙ each ∙ sym more,
            answer.2 ∙ ap (λ (o : List ℕ). o ++ text) inv.1 ∙ append_assoc before (output yields past at) text
                ∙ ap (λ (o : List ℕ). before ++ o) (sym (ap (output yields past) more ∙ told)),
            subst (g.M.Machine.has_taken c.line.new.self)
                (append_assoc past at (c.as_slice.result.now ∷ []) ∙ ap (λ (l : List ℕ). past ++ (at ++ l ∷ [])) c.as_slice.ensures ∙ ap (λ (l : List (List ℕ)). past ++ l) (sym more)) answer.3,
          );
    }
