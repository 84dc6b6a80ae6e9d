-- One more row.
use Rattle.std.proofs.Common.{◌≡◌, ◌+◌, ℕ, Bool, List, [], ◌∷◌, ◌++◌, length, get_or, sym, ◌∙◌, ap, subst, length-append, arith}
use Rattle.std.proofs.lemmas.List.{get_or_append_left}
use Rattle.std.proofs.Math.Seq.{get_or-append_seam}
use mathlib.Core.Logic.{dite}
use native.Mathlib.Decide.{ℕ_discrete}
use Rattle.replay_core.specs.News.{AreRows}
use Rattle.replay_core.proofs.news.rows.Goals as goal

rows_more : (rows : List (List Bool)) (row : List Bool) (count symbols : ℕ) → length rows ≡ count → length row ≡ symbols
    → AreRows count symbols rows → AreRows (count + 1) symbols (rows ++ row ∷ [])
rows_more rows row count symbols e here each member l =
    dite (ℕ_discrete member count)
    (λ is. ap (λ (k : ℕ). length (get_or (rows ++ row ∷ []) k [])) (is ∙ sym e)
    ∙ ap (λ (r : List Bool). length r) (get_or-append_seam rows row [] []) ∙ here)
    (λ not. ap (λ (r : List Bool). length r) (get_or_append_left rows (row ∷ []) [] member (omega (arith, e)))
    ∙ each member (omega arith))

pub loop-preserved : goal.loop-preserved
loop-preserved c = record {
  all = ap (λ (rows : List (List Bool)). length rows) c.in_ok-push.ensures.items
      ∙ length-append c.loop.asked.items (c.in_ok-new.field-0 ∷ []) ∙ ap (λ (k : ℕ). k + 1) c.loop.invariant.all;
  rows = subst (λ (rows : List (List Bool)). AreRows (c.loop.counter + 1) c.args.symbols rows) (sym c.in_ok-push.ensures.items)
      (rows_more c.loop.asked.items c.in_ok-new.field-0 c.loop.counter c.args.symbols c.loop.invariant.all c.in_ok-new.ensures.count
      c.loop.invariant.rows);
}

pub returns : goal.returns
returns c member l = c.loop.invariant.rows member (omega (arith, c.loop-test.false))
