-- The last move with a low below a cap, by its place in the staircase.
use Rattle.std.proofs.Common.{◌≡◌, ℕ, zero, suc, ◌<◌, ◌≤◌, true, false, cond, ltb, List, [], ◌∷◌, ◌++◌, length, get_or, take, refl, sym, ◌∙◌, arith}
use Rattle.std.proofs.lemmas.Bool.{ltb-false, lt-ltb, le-ltb}
use Rattle.move_history.specs.declared.kept.KeptMove.{KeptMove}
use Rattle.move_history.specs.Kept.{low_at, last_below, no_move}

-- no move is below the cap
pub last_below-none : (cap answer : ℕ) (kept : List KeptMove) → ((i : ℕ) → i < length kept → cap ≤ low_at kept i) → last_below cap answer kept ≡ answer
last_below-none cap answer [] above = refl
last_below-none cap answer (move ∷ kept) above =
    rw (le-ltb move.low cap (above 0 (omega arith))) (last_below-none cap answer kept (λ i h. above (suc i) (omega arith)))

-- the kept up to k are below the cap, and the others are not
pub last_below-at : (cap answer : ℕ) (kept : List KeptMove) (k : ℕ) → k < length kept → ((i : ℕ) → i ≤ k → low_at kept i < cap) → ((i : ℕ) → k < i → i < length kept → cap ≤ low_at kept i) → (get_or kept k no_move).event ≡ last_below cap answer kept
last_below-at cap answer [] k within below above = absurd (omega arith)
last_below-at cap answer (move ∷ kept) zero within below above =
    rw (lt-ltb move.low cap (below 0 (omega arith))) (sym (last_below-none cap move.event kept (λ i h. above (suc i) (omega arith) (omega arith))))
last_below-at cap answer (move ∷ kept) (suc k) within below above =
    rw (lt-ltb move.low cap (below 0 (omega arith))) (last_below-at cap move.event kept k (omega arith) (λ i h. below (suc i) (omega arith)) (λ i h m. above (suc i) (omega arith) (omega arith)))

-- kept that aren't below the cap make no difference
pub last_below-take : (cap answer : ℕ) (kept : List KeptMove) (k : ℕ) → ((i : ℕ) → k ≤ i → i < length kept → cap ≤ low_at kept i) → last_below cap answer (take k kept) ≡ last_below cap answer kept
last_below-take cap answer [] zero above = refl
last_below-take cap answer [] (suc k) above = refl
last_below-take cap answer (move ∷ kept) zero above = sym (last_below-none cap answer (move ∷ kept) (λ i h. above i (omega arith) h))
last_below-take cap answer (move ∷ kept) (suc k) above = last_below-take cap (cond (ltb move.low cap) move.event answer) kept k (λ i h m. above (suc i) (omega arith) (omega arith))

-- one more move behind the others
pub last_below-push : (cap answer : ℕ) (kept : List KeptMove) (move : KeptMove) → last_below cap answer (kept ++ move ∷ []) ≡ cond (ltb move.low cap) move.event (last_below cap answer kept)
last_below-push cap answer [] move = refl
last_below-push cap answer (first ∷ kept) move = last_below-push cap (cond (ltb first.low cap) first.event answer) kept move

-- the kept that a new one hides make no difference
pub last_below-keep : (cap : ℕ) (kept : List KeptMove) (move : KeptMove) (k : ℕ) → ((i : ℕ) → k ≤ i → i < length kept → move.low ≤ low_at kept i) → last_below cap 0 (take k kept ++ move ∷ []) ≡ cond (ltb move.low cap) move.event (last_below cap 0 kept)
last_below-keep cap kept move k hidden =
    last_below-push cap 0 (take k kept) move
    ∙ (elim (ltb move.low cap) as (λ b. ltb move.low cap ≡ b → cond b move.event (last_below cap 0 (take k kept)) ≡ cond b move.event (last_below cap 0 kept)) [
      | true ↦ λ e. refl
      | false ↦ λ e. let low : cap ≤ move.low = ltb-false move.low cap e in last_below-take cap 0 kept k (λ i h m. let at : move.low ≤ low_at kept i = hidden i h m in omega arith)
    ] refl)

-- two caps above all lows
pub last_below-above : (most cap other answer : ℕ) (kept : List KeptMove) → most < cap → most < other → ((i : ℕ) → i < length kept → low_at kept i ≤ most) → last_below other answer kept ≡ last_below cap answer kept
last_below-above most cap other answer [] h k lows = refl
last_below-above most cap other answer (move ∷ kept) h k lows =
    let low : move.low ≤ most = lows 0 (omega arith) in
    rw (lt-ltb move.low cap (omega arith), lt-ltb move.low other (omega arith)) (last_below-above most cap other move.event kept h k (λ i m. lows (suc i) (omega arith)))
