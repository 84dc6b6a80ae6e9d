use Rattle.std.proofs.Common.{◌≡◌, ℕ, zero, suc, ◌+◌, not, Bool, true, false, cond, List, [], ◌∷◌, length, filter, take, Some, refl, ap, sym, ◌∙◌, subst, arith, add-one, slice_get}
use Rattle.venue_words.specs.declared.row.Key.{Key}
use Rattle.limit_tree.specs.Order.{is_empty}
use Rattle.peg_groups.specs.Groups.{has_rows}
use Rattle.peg_groups.specs.declared.group.Group.{Group}
use Rattle.peg_groups.proofs.GroupSteps.{there}
use Rattle.peg_groups.proofs.room.used_groups.Goals as goal
use Rattle.peg_groups.proofs.room.used_groups.Goals.{then-not-is_empty, else-not-is_empty}

-- one group more
used_more : (es : List (Key × Group)) (i : ℕ) (key : Key) (group : Group) → slice_get es i ≡ Some (key, group) → length (filter has_rows (take (suc i) es)) ≡ cond (not (is_empty group.tree)) (length (filter has_rows (take i es)) + 1) (length (filter has_rows (take i es)))
used_more [] i key group h = cc
used_more (e ∷ es) zero key group h =
    let t = there e h in
    subst (λ (x : Group). length (filter has_rows (take 1 (e ∷ es))) ≡ cond (not (is_empty x.tree)) (0 + 1) 0) t.group_is (first (not (is_empty e.1.tree))) where
      first : (b : Bool) → length (cond b (e ∷ []) []) ≡ cond b (0 + 1) 0
      first true = refl
      first false = refl
used_more (e ∷ es) (suc i) key group h = more (has_rows e) (not (is_empty group.tree)) (used_more es i key group h) where
  more : (b v : Bool) → length (filter has_rows (take (suc i) es)) ≡ cond v (length (filter has_rows (take i es)) + 1) (length (filter has_rows (take i es))) → length (cond b (e ∷ filter has_rows (take (suc i) es)) (filter has_rows (take (suc i) es))) ≡ cond v (length (cond b (e ∷ filter has_rows (take i es)) (filter has_rows (take i es))) + 1) (length (cond b (e ∷ filter has_rows (take i es)) (filter has_rows (take i es))))
  more true true k = omega (arith, k)
  more true false k = ap suc k
  more false v k = k

pub loop-i-preserved : goal.loop-i-preserved
loop-i-preserved c =
    let at = used_more c.args.groups.now.entries c.loop-i.i c.group_at.ensures.0 c.group_at.result.now c.group_at.ensures.1 in
    elim c.if-not-is_empty.branch [
      | then-not-is_empty w ↦
          let used : is_empty c.group_at.result.now.tree ≡ false = sym w.if-not-is_empty.ensures in
          (rw (add-one, at, used) (w.count-is ∙ ap (λ (n : ℕ). n + 1) c.loop-i.invariant.0), omega (arith, c.loop-i.invariant.1))
      | else-not-is_empty w ↦
          let empty : is_empty c.group_at.result.now.tree ≡ true = sym w.if-not-is_empty.ensures in
          (rw (add-one, at, empty) (w.count-is ∙ c.loop-i.invariant.0), omega (arith, c.loop-i.invariant.1))
    ]
