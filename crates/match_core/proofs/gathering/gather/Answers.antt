use Rattle.std.proofs.Common.{◌≡◌, ◌≤◌, ◌+◌, ◌*◌, ℕ, suc, refl, sym, ◌∙◌, ap, List, length, arith, inl, inr}
use Rattle.std.proofs.Math.Nat.{mul-suc}
use Rattle.venue_words.specs.declared.row.Priced.{Priced}
use Rattle.venue_words.specs.Rows.{insert_by_entry}
use Rattle.peg_groups.specs.Side.{SideState, standing_of, taken_row}
use Rattle.match_core.specs.Aside.{taken_rows, IsAlone}
use Rattle.match_core.proofs.SetAside.{gathered_none, gathered_more, walked, walked_done, length_insert, taken_more, taken_map, rows_more, length_more}
use Rattle.match_core.proofs.gathering.gather.Goals as goal

pub returns-in-None-clause-walked : goal.returns-in-None-clause-walked
returns-in-None-clause-walked g c = walked c.args.t.now _ _ (taken_rows c.loop-left.aside.items) c.loop-left.left c.loop-left.invariant.gathered (c.in-None.ensures.none refl c.loop-left.left)

pub returns-in-None-clause-out_fit : goal.returns-in-None-clause-out_fit
returns-in-None-clause-out_fit g c = taken_map _ _ (λ x h. c.in-None.ensures.fits (standing_of (taken_row x)) h) c.loop-left.aside.items c.loop-left.invariant.out_fit

pub returns-clause-walked : goal.returns-clause-walked
returns-clause-walked g c = walked_done c.args.t.now _ _ (taken_rows c.loop-left.aside.items) c.loop-left.left c.loop-left.invariant.gathered (omega (arith, c.loop-left-test.false))

shorter : (x : Priced) (rows new : List Priced) → insert_by_entry x new ≡ rows → length rows ≡ suc (length new)
shorter x rows new e = ap length (sym e) ∙ length_insert x new

pub push_reserved-requires : goal.push_reserved-requires
push_reserved-requires g c = omega (arith, c.loop-left.invariant.room, shorter (taken_row c.in-Some.taken) (g.S.SideBook.state c.loop-left.other).rows (g.S.SideBook.state c.next_contra.new.other).rows c.in-Some.ensures.next.back)

pub loop-left-smaller : goal.loop-left-smaller
loop-left-smaller g c = omega (arith, shorter (taken_row c.in-Some.taken) (g.S.SideBook.state c.loop-left.other).rows (g.S.SideBook.state c.next_contra.new.other).rows c.in-Some.ensures.next.back)

costs : (n k s t u : ℕ) → t ≤ s + n * k → u ≤ t + n → u ≤ s + n * suc k
costs n k s t u h i = rw (mul-suc n k) (omega arith)

pub loop-left-preserved : goal.loop-left-preserved
loop-left-preserved g c = record {
  sorted = inr c.in-Some.ensures.next.sorted;
  gathered = rw (c.push_reserved.ensures.items, rows_more c.loop-left.aside.items c.in-Some.taken, c.taken_shares-shares.ensures.value) (gathered_more c.args.t.now (taken_row c.in-Some.taken) _ _ _ (taken_rows c.loop-left.aside.items) c.loop-left.left c.loop-left.invariant.gathered c.in-Some.ensures.next c.loop-left-test.true);
  best = c.in-Some.ensures.best ∙ c.loop-left.invariant.best;
  event = c.in-Some.ensures.event ∙ c.loop-left.invariant.event;
  alone = rw c.push_reserved.ensures.items (taken_more IsAlone c.loop-left.aside.items c.in-Some.taken c.loop-left.invariant.alone c.in-Some.ensures.alone);
  out_fit = rw c.push_reserved.ensures.items (taken_more _ c.loop-left.aside.items c.in-Some.taken (taken_map _ _ (λ x h. c.in-Some.ensures.fits (standing_of (taken_row x)) h) c.loop-left.aside.items c.loop-left.invariant.out_fit) c.in-Some.ensures.taken_fits);
  fits = λ s h. c.in-Some.ensures.fits s (c.loop-left.invariant.fits s h);
  rows = λ k h. c.in-Some.ensures.rows k (c.loop-left.invariant.rows k h);
  moves = λ h. c.in-Some.ensures.moves (c.loop-left.invariant.moves h);
  width = c.in-Some.ensures.width ∙ c.loop-left.invariant.width;
  room = omega (arith, c.loop-left.invariant.room, shorter (taken_row c.in-Some.taken) (g.S.SideBook.state c.loop-left.other).rows (g.S.SideBook.state c.next_contra.new.other).rows c.in-Some.ensures.next.back, c.push_reserved.ensures.len, c.push_reserved.ensures.capacity);
  capacity = c.push_reserved.ensures.capacity ∙ c.loop-left.invariant.capacity;
  most = rw (c.push_reserved.ensures.items, length_more c.loop-left.aside.items c.in-Some.taken) (costs (1024 * (g.S.SideBook.width c.args.other.now + 1)) (length c.loop-left.aside.items) c.args.steps.now c.loop-left.steps c.next_contra.new.steps c.loop-left.invariant.most (rw c.loop-left.invariant.width at c.in-Some.ensures.most_next));
}

pub loop-left-init : goal.loop-left-init
loop-left-init g c = record {
  sorted = inl refl;
  gathered = rw c.requires.empty (gathered_none c.args.t.now (g.S.SideBook.state c.args.other.now).rows);
  best = refl;
  event = refl;
  alone = rw c.requires.empty tt;
  out_fit = rw c.requires.empty tt;
  fits = λ s h. h;
  rows = λ k h. h;
  moves = λ h. h;
  width = refl;
  room = c.requires.room;
  capacity = refl;
  most = omega arith;
}

pub returns-in-None-clause-by_entry : goal.returns-in-None-clause-by_entry
returns-in-None-clause-by_entry g c = rw (ap (λ (s : SideState). s.rows) (c.in-None.ensures.same refl)) c.in-None.ensures.by_entry

pub returns-clause-by_entry : goal.returns-clause-by_entry
returns-clause-by_entry g c = elim c.loop-left.invariant.sorted [
  | inl e ↦ absurd (omega (arith, e, c.requires.leaves, c.loop-left-test.false))
  | inr o ↦ o
]
