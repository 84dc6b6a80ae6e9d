-- Lines after lines.
use Rattle.std.proofs.Common.{◌≡◌, ◌≤◌, ◌+◌, length, length-append, arith, ℕ, Bool, true, false, List, [], ◌∷◌, ◌++◌, Option, None, Some, refl, sym, ◌∙◌, ap, append_assoc}
use Rattle.std.proofs.lemmas.List.{append-nil}
use Rattle.live_core.specs.Lines.{Yields, Answers, keeping, kept, telling, output}

module _ (yields : Yields) where
  pub kept-append : (past lines more : List (List ℕ)) → kept yields past (lines ++ more) ≡ kept yields past lines ++ kept yields (past ++ kept yields past lines) more
  kept-append past [] more = ap (λ p. kept yields p more) (sym (append-nil past))
  kept-append past (line ∷ lines) more =
      let next = past ++ line ∷ [] in
      let taken = kept yields next lines in
      elim (yields past line) as (λ o. keeping o line (kept yields past (lines ++ more)) (kept yields next (lines ++ more))
      ≡ keeping o line (kept yields past lines) taken ++ kept yields (past ++ keeping o line (kept yields past lines) taken) more) [
        | None ↦ kept-append past lines more
        | Some text ↦ ap (λ (k : List (List ℕ)). line ∷ k) (kept-append next lines more)
            ∙ ap (λ (p : List (List ℕ)). line ∷ (taken ++ kept yields p more)) (append_assoc past (line ∷ []) taken)
      ]

  pub output-append : (past lines more : List (List ℕ)) → output yields past (lines ++ more) ≡ output yields past lines ++ output yields (past ++ kept yields past lines) more
  output-append past [] more = ap (λ p. output yields p more) (sym (append-nil past))
  output-append past (line ∷ lines) more =
      let next = past ++ line ∷ [] in
      let taken = kept yields next lines in
      let told = output yields next lines in
      elim (yields past line) as (λ o. telling o (output yields past (lines ++ more)) (output yields next (lines ++ more))
      ≡ telling o (output yields past lines) told ++ output yields (past ++ keeping o line (kept yields past lines) taken) more) [
        | None ↦ output-append past lines more
        | Some text ↦ ap (λ (k : List ℕ). text ++ k) (output-append next lines more)
            ∙ sym (append_assoc text told (output yields (next ++ taken) more))
            ∙ ap (λ (p : List (List ℕ)). (text ++ told) ++ output yields p more) (append_assoc past (line ∷ []) taken)
      ]

  -- what was refused yields nothing
  pub output-kept : (past lines : List (List ℕ)) → output yields past (kept yields past lines) ≡ output yields past lines
  output-kept past [] = refl
  output-kept past (line ∷ lines) =
      let next = past ++ line ∷ [] in
      let taken = kept yields next lines in
      (elim (yields past line) as (λ o. yields past line ≡ o
      → output yields past (keeping o line (kept yields past lines) taken) ≡ telling o (output yields past lines) (output yields next lines)) [
        | None ↦ λ is. output-kept past lines
        | Some text ↦ λ is. ap (λ o. telling o (output yields past taken) (output yields next taken)) is ∙ ap (λ (k : List ℕ). text ++ k) (output-kept next lines)
      ]) refl

  -- of those that are taken all are taken
  pub kept-kept : (past lines : List (List ℕ)) → kept yields past (kept yields past lines) ≡ kept yields past lines
  kept-kept past [] = refl
  kept-kept past (line ∷ lines) =
      let next = past ++ line ∷ [] in
      let taken = kept yields next lines in
      (elim (yields past line) as (λ o. yields past line ≡ o
      → kept yields past (keeping o line (kept yields past lines) taken) ≡ keeping o line (kept yields past lines) taken) [
        | None ↦ λ is. kept-kept past lines
        | Some text ↦ λ is. ap (λ o. keeping o line (kept yields past taken) (kept yields next taken)) is ∙ ap (λ (k : List (List ℕ)). line ∷ k) (kept-kept next lines)
      ]) refl

  -- one more line is taken
  pub kept-taken : (past : List (List ℕ)) (line : List ℕ) (lines : List (List ℕ)) (text : List ℕ) → yields past line ≡ Some text
      → kept yields past (line ∷ lines) ≡ line ∷ kept yields (past ++ line ∷ []) lines
  kept-taken past line lines text is = ap (λ o. keeping o line (kept yields past lines) (kept yields (past ++ line ∷ []) lines)) is

  pub output-taken : (past : List (List ℕ)) (line : List ℕ) (lines : List (List ℕ)) (text : List ℕ) → yields past line ≡ Some text
      → output yields past (line ∷ lines) ≡ text ++ output yields (past ++ line ∷ []) lines
  output-taken past line lines text is = ap (λ o. telling o (output yields past lines) (output yields (past ++ line ∷ []) lines)) is

  pub kept-refused : (past : List (List ℕ)) (line : List ℕ) (lines : List (List ℕ)) → yields past line ≡ None → kept yields past (line ∷ lines) ≡ kept yields past lines
  kept-refused past line lines is = ap (λ o. keeping o line (kept yields past lines) (kept yields (past ++ line ∷ []) lines)) is

  pub output-refused : (past : List (List ℕ)) (line : List ℕ) (lines : List (List ℕ)) → yields past line ≡ None → output yields past (line ∷ lines) ≡ output yields past lines
  output-refused past line lines is = ap (λ o. telling o (output yields past lines) (output yields (past ++ line ∷ []) lines)) is

  -- a line is moved from the rest to those that were taken
  pub work_taken : (past taken rest : List (List ℕ)) (line text : List ℕ) → yields (past ++ taken) line ≡ Some text
      → (taken ++ line ∷ []) ++ kept yields (past ++ (taken ++ line ∷ [])) rest ≡ taken ++ kept yields (past ++ taken) (line ∷ rest)
  work_taken past taken rest line text is =
      append_assoc taken (line ∷ []) (kept yields (past ++ (taken ++ line ∷ [])) rest)
      ∙ ap (λ (p : List (List ℕ)). taken ++ (line ∷ kept yields p rest)) (sym (append_assoc past taken (line ∷ [])))
      ∙ ap (λ (l : List (List ℕ)). taken ++ l) (sym (kept-taken (past ++ taken) line rest text is))

  pub tell_taken : (past taken rest : List (List ℕ)) (line text out : List ℕ) → yields (past ++ taken) line ≡ Some text
      → (out ++ text) ++ output yields (past ++ (taken ++ line ∷ [])) rest ≡ out ++ output yields (past ++ taken) (line ∷ rest)
  tell_taken past taken rest line text out is =
      append_assoc out text (output yields (past ++ (taken ++ line ∷ [])) rest)
      ∙ ap (λ (p : List (List ℕ)). out ++ (text ++ output yields p rest)) (sym (append_assoc past taken (line ∷ [])))
      ∙ ap (λ (l : List ℕ). out ++ l) (sym (output-taken (past ++ taken) line rest text is))

module _ (yields : Yields) where
  pub kept-length : (past lines : List (List ℕ)) → length (kept yields past lines) ≤ length lines
  kept-length past [] = omega arith
  kept-length past (line ∷ lines) =
      elim (yields past line) as (λ o. length (keeping o line (kept yields past lines) (kept yields (past ++ line ∷ []) lines)) ≤ length (line ∷ lines)) [
        | None ↦ omega (arith, kept-length past lines)
        | Some text ↦ omega (arith, kept-length (past ++ line ∷ []) lines)
      ]

  pub kept-all : (past lines : List (List ℕ)) → length (kept yields past lines) ≡ length lines → kept yields past lines ≡ lines
  kept-all past [] = λ all. refl
  kept-all past (line ∷ lines) =
      elim (yields past line) as (λ o. length (keeping o line (kept yields past lines) (kept yields (past ++ line ∷ []) lines)) ≡ length (line ∷ lines)
      → keeping o line (kept yields past lines) (kept yields (past ++ line ∷ []) lines) ≡ line ∷ lines) [
        | None ↦ λ all. absurd (omega (arith, all, kept-length past lines))
        | Some text ↦ λ all. ap (λ (l : List (List ℕ)). line ∷ l) (kept-all (past ++ line ∷ []) lines (omega (arith, all)))
      ]

  -- a refused line is not among those that are taken
  pub refused-not : (before : List (List ℕ)) (line : List ℕ) (after : List (List ℕ)) → kept yields [] before ≡ before → yields before line ≡ None
      → kept yields [] (before ++ line ∷ after) ≡ before ++ line ∷ after → ⊥
  refused-not before line after is none all =
      let parts : kept yields [] (before ++ line ∷ after) ≡ before ++ kept yields before after =
      kept-append yields [] before (line ∷ after) ∙ ap (λ (l : List (List ℕ)). l ++ kept yields l (line ∷ after)) is
      ∙ ap (λ (l : List (List ℕ)). before ++ l) (kept-refused yields before line after none) in
      let left = ap length (sym parts ∙ all) in
      absurd (omega (arith, left, length-append before (kept yields before after), length-append before (line ∷ after), kept-length before after))

-- where one of the rest is refused, not all were taken
module _ (yields : Yields) where
  pub refused_among : (past taken rest : List (List ℕ)) (line : List ℕ) (all : List (List ℕ)) → yields (past ++ taken) line ≡ None
      → taken ++ kept yields (past ++ taken) (line ∷ rest) ≡ kept yields past all → length taken + length (line ∷ rest) ≤ length all
      → kept yields past all ≡ all → ⊥
  refused_among past taken rest line all none worked few is =
      let left = ap length (ap (λ (l : List (List ℕ)). taken ++ l) (sym (kept-refused yields (past ++ taken) line rest none)) ∙ worked ∙ is) in
      absurd (omega (arith, left, few, length-append taken (kept yields (past ++ taken) rest), kept-length yields (past ++ taken) rest))

  -- where not all of the last lines were taken, not all were
  pub not-all-append : (past lines more : List (List ℕ)) → (kept yields (past ++ kept yields past lines) more ≡ more → ⊥)
      → kept yields past (lines ++ more) ≡ lines ++ more → ⊥
  not-all-append past lines more some all =
      let next = past ++ kept yields past lines in
      let left = ap length (sym (kept-append yields past lines more) ∙ all) in
      some (kept-all yields next more (omega (
        arith,
        left,
        length-append (kept yields past lines) (kept yields next more),
        length-append lines more,
        kept-length yields past lines,
        kept-length yields next more,
      )))

pub no_path : true ≡ false → ⊥
no_path is = absurd (cc)

-- what an answer says of a line that was taken, and of one that was not
pub taken_is : (has_taken : List (List ℕ) → Type 0) (o : Option (List ℕ)) (past : List (List ℕ)) (line before after : List ℕ) (b : Bool) → b ≡ true → Answers has_taken o past line before after b
    → (text : List ℕ) × (o ≡ Some text) × (after ≡ before ++ text) × has_taken (past ++ line ∷ [])
taken_is has_taken (Some text) past line before after true so answer = (text, refl, answer.0, answer.1)
taken_is has_taken None past line before after true so answer = absurd answer
taken_is has_taken (Some text) past line before after false so answer = absurd answer
taken_is has_taken None past line before after false so answer = absurd (no_path (sym so))

pub refused_is : (has_taken : List (List ℕ) → Type 0) (o : Option (List ℕ)) (past : List (List ℕ)) (line before after : List ℕ) (b : Bool) → b ≡ false → Answers has_taken o past line before after b
    → (o ≡ None) × (after ≡ before) × has_taken past
refused_is has_taken None past line before after false so answer = (refl, answer.0, answer.1)
refused_is has_taken (Some text) past line before after false so answer = absurd answer
refused_is has_taken None past line before after true so answer = absurd answer
refused_is has_taken (Some text) past line before after true so answer = absurd (no_path so)
