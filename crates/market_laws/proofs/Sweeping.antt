-- A walk, a sweep and a recheck leave rows and orders that agree.
use Rattle.std.proofs.Common.{◌≡◌, ℕ, ◌+◌, ◌≤◌, true, false, cond, List, [], ◌∷◌, ◌++◌, Option, Some, None, refl, ap, sym, ◌∙◌, subst, inl, inr, arith}
use Rattle.std.specs.Prelude.{slice_get, map, nat_eq, ◌==◌}
use Rattle.std.specs.Option.{option_eq}
use Rattle.std.specs.List.{AllByRecursion}
use Rattle.std.proofs.lemmas.List.Sums.{fold-append}
use Rattle.venue_words.specs.declared.price.Best.{Best}
use Rattle.venue_words.specs.declared.row.Row.{Row}
use Rattle.venue_words.specs.declared.row.Priced.{Priced}
use Rattle.venue_words.specs.ListLaws.{all_weaken, all_both}
use Rattle.venue_words.specs.Peg.{value_under}
use Rattle.venue_words.specs.Priority.{in_priority}
use Rattle.venue_words.specs.Retime.{retime, reprice}
use Rattle.eager_meaning.specs.declared.order.Order.{Order}
use Rattle.eager_meaning.specs.declared.trade.Fill.{Fill}
use Rattle.eager_meaning.specs.declared.trade.Take.{Take}
use Rattle.eager_meaning.specs.Trades.{orders_after, orders_after_all}
use Rattle.eager_meaning.specs.Walk.{total_of}
use Rattle.eager_meaning.specs.Matching.{takes_of, fills_of, row_after, shares_of, rows_after}
use Rattle.eager_meaning.specs.Recheck.{Sides, meet, crosses_any, sweep, recheck}
use Rattle.market_laws.specs.Equalities.{same_number, some_is}
use Rattle.market_laws.specs.Pairwise.{Keeps, to_each_after, pairwise_map, pairwise_after, across_map, across_after, across_back}
use Rattle.market_laws.specs.Sound.{AreDifferent, IsNew, AllDiffer, IsHeld, IsLiveRow, IsSoundOrder, AreSound}
use Rattle.market_laws.specs.ListLaws.{all_map}
use Rattle.market_laws.specs.WalkLaws.{rows_after_all, in_priority_all}
use Rattle.market_laws.proofs.Differing.{different_back, different_kept, IsSameOrDiffers, each_same_or_differs, differ_in_priority, TakesDiffer, takes_differ, takes_within, taken_by, taken_cons, none_taken, Fits, shares_found}
use Rattle.market_laws.proofs.Backing.{traded_in, found_after, none_before, traded_by_walk, held_after, still_held, live_unfilled, same_leaves, IsFit, takes_fit, no_take, takes_new, taker_trades, others_rest, met_held}

-- ---- orders after a walk

-- no more is taken from an order than it has left
room : (n : ℕ) (orders : List Order) (takes : List Take) → AllByRecursion (IsFit n orders) takes → TakesDiffer takes → (k : ℕ) (order : Order) → slice_get orders k ≡ Some order → order.cum ≤ order.quantity → taken_by k takes + order.cum ≤ order.quantity
room n orders [] f d k order h s = omega arith
room n orders (t ∷ ts) f d k order h s =
    let all = taken_cons k t ts in
    let more = room n orders ts f.1 d.1 k order h s in
    (elim (t.contra.row.order == k) as (λ b. (t.contra.row.order == k) ≡ b → taken_by k (t ∷ ts) + order.cum ≤ order.quantity) [
      | true ↦ λ e.
          let at = same_number _ _ e in
          let held = f.0.0 in
          let same : held.order ≡ order = some_is _ _ (sym held.is ∙ (ap (slice_get orders) at ∙ h)) in
          let cum : held.order.cum ≡ order.cum = ap (λ (o : Order). o.cum) same in
          let quantity : held.order.quantity ≡ order.quantity = ap (λ (o : Order). o.quantity) same in
          let sum = held.quantity in
          let within = f.0.1 in
          let rest = none_taken k ts (all_weaken (λ u. AreDifferent t.contra.row u.contra.row) (λ u. u.contra.row.order ≡ k → ⊥) (λ u a g. a.order (at ∙ sym g)) ts d.0) in
          let here : cond (t.contra.row.order == k) t.shares 0 ≡ t.shares = rw e refl in
          omega (arith, all, rest, here)
      | false ↦ λ e.
          let here : cond (t.contra.row.order == k) t.shares 0 ≡ 0 = rw e refl in
          omega (arith, all, more, here)
    ]) refl

-- each order stays sound where what it trades fits
pub sound_after : (orders : List Order) (fills : List Fill) → ((k : ℕ) (order : Order) → slice_get orders k ≡ Some order → IsSoundOrder order × (order.cum + traded_in k fills ≤ order.quantity)) → (k : ℕ) (after : Order) → slice_get (orders_after_all fills orders) k ≡ Some after → IsSoundOrder after
sound_after orders fills h k after is = go (slice_get orders k) refl where
  go : (before : Option Order) → slice_get orders k ≡ before → IsSoundOrder after
  go None e = let none = none_before fills orders k e in let no_order = sym none ∙ is in cc
  go (Some before) e =
      let found = found_after fills orders k before e in
      let fits = h k before e in
      let same : found.order ≡ after = some_is _ _ (sym found.is ∙ is) in
      subst IsSoundOrder same (record {
        traded = (let c = found.adds.cum in let q = found.adds.quantity in let f = fits.1 in omega arith);
        quantity = (let q = found.adds.quantity in let f = fits.0.quantity in omega arith);
      })

same_or_differs_after : (x : Row) (m : ℕ) (y : Priced) → IsSameOrDiffers x y.row → IsSameOrDiffers x (row_after m y).row
unfolding row_after
same_or_differs_after x m y d = elim d [ inl same ↦ inl same | inr other ↦ inr (record { entry = other.entry; order = other.order }) ]

pub new_after : (x : Row) (takes : List Take) (rows : List Priced) → IsNew x rows → IsNew x (rows_after takes rows)
new_after x takes rows a = to_each_after AreDifferent different_back different_kept x takes rows a

pub new_from : (m : ℕ) (x : Priced) (rows : List Priced) → IsNew x.row rows → IsNew (row_after m x).row rows
new_from m x rows a = all_weaken (λ y. AreDifferent x.row y.row) (λ y. AreDifferent (row_after m x).row y.row) (λ y d. different_kept m x y.row d) rows a

pub differ_after : (takes : List Take) (rows : List Priced) → AllDiffer rows → AllDiffer (rows_after takes rows)
differ_after takes rows a = pairwise_after AreDifferent different_back different_kept takes rows a

module _ (n : ℕ) (orders : List Order) (taker : Priced) (others : List Priced) (held : IsHeld n orders taker.row) (live : AllByRecursion (λ x. IsLiveRow n orders x.row) others) (differ : AllDiffer others) (fresh : IsNew taker.row others) where
  -- no order trades more than it has left
  pub walk_fits : ((k : ℕ) (order : Order) → slice_get orders k ≡ Some order → IsSoundOrder order) → (k : ℕ) (order : Order) → slice_get orders k ≡ Some order → IsSoundOrder order × (order.cum + traded_in k (fills_of taker (takes_of taker others)) ≤ order.quantity)
  walk_fits sound k order h =
      let takes : List Take = takes_of taker others in
      let all = traded_by_walk k taker takes in
      let s = sound k order h in
      let within = takes_within taker others in (
        s,
        (elim (taker.row.order == k) as (λ b. (taker.row.order == k) ≡ b → order.cum + traded_in k (fills_of taker takes) ≤ order.quantity) [
          | true ↦ λ e.
              let at = same_number _ _ e in
              let same : held.order ≡ order = some_is _ _ (sym held.is ∙ (ap (slice_get orders) at ∙ h)) in
              let cum : held.order.cum ≡ order.cum = ap (λ (o : Order). o.cum) same in
              let quantity : held.order.quantity ≡ order.quantity = ap (λ (o : Order). o.quantity) same in
              let sum = held.quantity in
              let most = within.0 in
              let own = taker_trades n orders taker others held live differ fresh in
              let here : traded_in k (fills_of taker takes) ≡ total_of takes = subst (λ (j : ℕ). traded_in j (fills_of taker takes) ≡ total_of takes) at own in
              omega (arith, here, most)
          | false ↦ λ e.
              let most = room n orders takes (takes_fit n orders taker others live) (takes_differ taker others differ) k order h s.traded in
              let here : cond (taker.row.order == k) (total_of takes) 0 ≡ 0 = rw e refl in
              omega (arith, all, most, here)
        ]) refl,
      )

  -- the rows of the other side, before those that are filled leave
  pub other_rows_held : AllByRecursion (λ x. IsHeld n (orders_after_all (fills_of taker (takes_of taker others)) orders) x.row) (map (λ x. row_after (shares_of (takes_of taker others) x) x) others)
  other_rows_held =
      let takes : List Take = takes_of taker others in
      let next : List Order = orders_after_all (fills_of taker takes) orders in
      let both = all_both (λ x. IsLiveRow n orders x.row) (λ x. AllByRecursion (λ y. IsSameOrDiffers x.row y.row) others) (λ x. IsHeld n orders x.row × AllByRecursion (λ y. IsSameOrDiffers x.row y.row) others) (λ x l s. (l.held, s)) others live (each_same_or_differs others differ) in
      let heldness = all_both (λ x. IsHeld n orders x.row × AllByRecursion (λ y. IsSameOrDiffers x.row y.row) others) (λ x. AreDifferent taker.row x.row) (λ x. IsHeld n next (row_after (shares_of takes x) x).row)
      (λ x p d. met_held n orders taker others held live differ fresh x p.0 p.1 d) others both fresh in
      all_map (λ x. IsHeld n next (row_after (shares_of takes x) x).row) (λ x. IsHeld n next x.row) (λ x. row_after (shares_of takes x) x) (λ x p. p) others heldness

  pub others_live_after : AllByRecursion (λ x. IsLiveRow n (orders_after_all (fills_of taker (takes_of taker others)) orders) x.row) (rows_after (takes_of taker others) others)
  unfolding rows_after
  others_live_after = live_unfilled n (orders_after_all (fills_of taker (takes_of taker others)) orders) (map (λ x. row_after (shares_of (takes_of taker others) x) x) others) other_rows_held

  -- a row of the taker's side: the taker's own, or another
  own_held : (x : Priced) → IsHeld n orders x.row → IsSameOrDiffers taker.row x.row → IsNew x.row others → IsHeld n (orders_after_all (fills_of taker (takes_of taker others)) orders) (row_after (shares_of (record { contra = taker; shares = total_of (takes_of taker others) } ∷ []) x) x).row
  own_held x h d a =
      let takes : List Take = takes_of taker others in
      let own : Take = record { contra = taker; shares = total_of takes } in
      let most = (takes_within taker others).0 in
      let fits : Fits x.row own = elim d [
        | inl same ↦ inl (sym same.0, sym same.1, (let e = same_leaves n orders taker.row x.row held h (sym same.1) in omega (arith, most)))
        | inr other ↦ inr (different_back taker.row x.row other)
      ] in
      let found = shares_found x (own ∷ []) (fits, tt) (tt, tt) in
      let one = taken_cons x.row.order own [] in
      let all = traded_by_walk x.row.order taker takes in
      let none = no_take x.row takes (takes_new x.row taker others a) in
      held_after n orders (fills_of taker takes) (shares_of (own ∷ []) x) x h (omega (arith, found.0, one, all, none)) found.1

-- ---- takers

-- the takers of a sweep, among the rows of both sides
pub record AreTakers (n : ℕ) (orders : List Order) (own others takers : List Priced) : Type 0 where
  pub held : AllByRecursion (λ t. IsHeld n orders t.row) takers
  pub differ : AllDiffer takers
  pub same : AllByRecursion (λ t. AllByRecursion (λ y. IsSameOrDiffers t.row y.row) own) takers
  pub fresh : AllByRecursion (λ t. IsNew t.row others) takers

-- the rows of the taker's side, before one that is filled leaves
pub own_rows_held : (n : ℕ) (orders : List Order) (taker : Priced) (sides : Sides) → IsHeld n orders taker.row → AllByRecursion (λ y. IsSameOrDiffers taker.row y.row) sides.own → IsNew taker.row sides.others → AreSound n orders sides.own sides.others
    → AllByRecursion (λ x. IsHeld n (orders_after_all (fills_of taker (takes_of taker sides.others)) orders) x.row) (map (λ x. row_after (shares_of (record { contra = taker; shares = total_of (takes_of taker sides.others) } ∷ []) x) x) sides.own)
own_rows_held n orders taker sides h same fresh a =
    let takes : List Take = takes_of taker sides.others in
    let next : List Order = orders_after_all (fills_of taker takes) orders in
    let mine : List Take = record { contra = taker; shares = total_of takes } ∷ [] in
    let both = all_both (λ x. IsLiveRow n orders x.row) (λ x. IsNew x.row sides.others) (λ x. IsHeld n orders x.row × IsNew x.row sides.others) (λ x l d. (l.held, d)) sides.own a.own_live a.differ in
    let own = all_both (λ x. IsHeld n orders x.row × IsNew x.row sides.others) (λ x. IsSameOrDiffers taker.row x.row) (λ x. IsHeld n next (row_after (shares_of mine x) x).row)
    (λ x p d. own_held n orders taker sides.others h a.others_live a.others_differ fresh x p.0 d p.1) sides.own both same in
    all_map (λ x. IsHeld n next (row_after (shares_of mine x) x).row) (λ x. IsHeld n next x.row) (λ x. row_after (shares_of mine x) x) (λ x p. p) sides.own own

pub meet_sound : (n : ℕ) (orders : List Order) (taker : Priced) (sides : Sides) → IsHeld n orders taker.row → AllByRecursion (λ y. IsSameOrDiffers taker.row y.row) sides.own → IsNew taker.row sides.others → AreSound n orders sides.own sides.others
    → AreSound n (orders_after_all (fills_of taker (takes_of taker sides.others)) orders) (rows_after (record { contra = taker; shares = total_of (takes_of taker sides.others) } ∷ []) sides.own) (rows_after (takes_of taker sides.others) sides.others)
unfolding rows_after
meet_sound n orders taker sides h same fresh a =
    let takes : List Take = takes_of taker sides.others in
    let fills : List Fill = fills_of taker takes in
    let mine : List Take = record { contra = taker; shares = total_of takes } ∷ [] in
    record {
      own_live = live_unfilled n (orders_after_all fills orders) (map (λ x. row_after (shares_of mine x) x) sides.own) (own_rows_held n orders taker sides h same fresh a);
      others_live = others_live_after n orders taker sides.others h a.others_live a.others_differ fresh;
      own_differ = differ_after mine sides.own a.own_differ;
      others_differ = differ_after takes sides.others a.others_differ;
      differ = across_after AreDifferent different_back different_kept mine takes sides.own sides.others a.differ;
      sound = sound_after orders fills (walk_fits n orders taker sides.others h a.others_live a.others_differ fresh a.sound);
    }

-- the takers behind the first one
rest_taking : (n : ℕ) (orders : List Order) (taker : Priced) (takers : List Priced) (sides : Sides) → AllByRecursion (λ x. IsLiveRow n orders x.row) sides.others → AllDiffer sides.others → AreTakers n orders sides.own sides.others (taker ∷ takers)
    → AreTakers n (orders_after_all (fills_of taker (takes_of taker sides.others)) orders) (rows_after (record { contra = taker; shares = total_of (takes_of taker sides.others) } ∷ []) sides.own) (rows_after (takes_of taker sides.others) sides.others) takers
rest_taking n orders taker takers sides live differ t =
    let takes : List Take = takes_of taker sides.others in
    let fills : List Fill = fills_of taker takes in
    let next : List Order = orders_after_all fills orders in
    let mine : List Take = record { contra = taker; shares = total_of takes } ∷ [] in
    let both = all_both (λ x. IsHeld n orders x.row) (λ x. AreDifferent taker.row x.row) (λ x. IsHeld n orders x.row × AreDifferent taker.row x.row) (λ x h d. (h, d)) takers t.held.1 t.differ.0 in
    record {
      held = all_both (λ x. IsHeld n orders x.row × AreDifferent taker.row x.row) (λ x. IsNew x.row sides.others) (λ x. IsHeld n next x.row)
          (λ x p d. still_held n orders fills x.row p.0 (others_rest n orders taker sides.others t.held.0 live differ t.fresh.0 x.row p.1 d)) takers both t.fresh.1;
      differ = t.differ.1;
      same = all_weaken (λ x. AllByRecursion (λ y. IsSameOrDiffers x.row y.row) sides.own) (λ x. AllByRecursion (λ y. IsSameOrDiffers x.row y.row) (rows_after mine sides.own))
          (λ x p. rows_after_all (λ y. IsSameOrDiffers x.row y.row) (λ m y d. same_or_differs_after x.row m y d) mine sides.own p) takers t.same.1;
      fresh = all_weaken (λ x. IsNew x.row sides.others) (λ x. IsNew x.row (rows_after takes sides.others)) (λ x d. new_after x.row takes sides.others d) takers t.fresh.1;
    }

fills_more : (fills more : List Fill) (orders : List Order) → orders_after_all (fills ++ more) orders ≡ orders_after_all more (orders_after_all fills orders)
unfolding orders_after_all
fills_more fills more orders = fold-append (λ before fill. orders_after fill before) orders fills more

-- what one taker's trades keep of orders and rows that agree
abbrev pub MeetKeeps : ℕ → (List Order → List Priced → List Priced → Type 0) → Type 0
MeetKeeps n P =
    (orders : List Order) (taker : Priced) (sides : Sides)
    → IsHeld n orders taker.row
    → AllByRecursion (λ y. IsSameOrDiffers taker.row y.row) sides.own
    → IsNew taker.row sides.others
    → AreSound n orders sides.own sides.others
    → P orders sides.own sides.others
    → P (orders_after_all (fills_of taker (takes_of taker sides.others)) orders) (rows_after (record { contra = taker; shares = total_of (takes_of taker sides.others) } ∷ []) sides.own) (rows_after (takes_of taker sides.others) sides.others)

-- all takers' trades keep it
pub sweep_keeps : (n : ℕ) (P : List Order → List Priced → List Priced → Type 0) → MeetKeeps n P → (orders : List Order) (takers : List Priced) (sides : Sides)
    → AreTakers n (orders_after_all sides.fills orders) sides.own sides.others takers → AreSound n (orders_after_all sides.fills orders) sides.own sides.others → P (orders_after_all sides.fills orders) sides.own sides.others
    → P (orders_after_all (sweep takers sides).fills orders) (sweep takers sides).own (sweep takers sides).others
unfolding sweep meet
sweep_keeps n P keeps orders [] sides t a p = p
sweep_keeps n P keeps orders (taker ∷ takers) sides t a p =
    let now : List Order = orders_after_all sides.fills orders in
    let takes : List Take = takes_of taker sides.others in
    let next : Sides = meet taker sides in
    let more = fills_more sides.fills (fills_of taker takes) orders in
    let sound = subst (λ (os : List Order). AreSound n os next.own next.others) (sym more) (meet_sound n now taker sides t.held.0 t.same.0 t.fresh.0 a) in
    let taking = subst (λ (os : List Order). AreTakers n os next.own next.others takers) (sym more) (rest_taking n now taker takers sides a.others_live a.others_differ t) in
    let kept = subst (λ (os : List Order). P os next.own next.others) (sym more) (keeps now taker sides t.held.0 t.same.0 t.fresh.0 a p) in
    let Q : Sides → Type 0 = λ s. P (orders_after_all s.fills orders) s.own s.others in
    elim (crosses_any taker sides.others) as (λ b. Q (cond b (sweep takers next) sides)) [ true ↦ sweep_keeps n P keeps orders takers next taking sound kept | false ↦ p ]

pub sweep_sound : (n : ℕ) (orders : List Order) (takers : List Priced) (sides : Sides) → AreTakers n (orders_after_all sides.fills orders) sides.own sides.others takers → AreSound n (orders_after_all sides.fills orders) sides.own sides.others
    → AreSound n (orders_after_all (sweep takers sides).fills orders) (sweep takers sides).own (sweep takers sides).others
sweep_sound n orders takers sides t a = sweep_keeps n (AreSound n) (λ os taker s h same fresh b p. meet_sound n os taker s h same fresh b) orders takers sides t a a

pub turned : (n : ℕ) (orders : List Order) (own others : List Priced) → AreSound n orders own others → AreSound n orders others own
turned n orders own others a =
    record {
      own_live = a.others_live;
      others_live = a.own_live;
      own_differ = a.others_differ;
      others_differ = a.own_differ;
      differ = across_back AreDifferent different_back own others a.differ;
      sound = a.sound;
    }

-- the rows of a side in priority order are takers
pub takers_of : (n : ℕ) (orders : List Order) (own others : List Priced) → AreSound n orders own others → AreTakers n orders own others (in_priority own)
takers_of n orders own others a =
    record {
      held = in_priority_all (λ x. IsHeld n orders x.row) own (all_weaken (λ x. IsLiveRow n orders x.row) (λ x. IsHeld n orders x.row) (λ x l. l.held) own a.own_live);
      differ = differ_in_priority own a.own_differ;
      same = in_priority_all (λ t. AllByRecursion (λ y. IsSameOrDiffers t.row y.row) own) own (each_same_or_differs own a.own_differ);
      fresh = in_priority_all (λ t. IsNew t.row others) own a.differ;
    }

pub recheck_sound : (n : ℕ) (orders : List Order) (buys sells : List Priced) → AreSound n orders buys sells → AreSound n (orders_after_all (recheck buys sells).fills orders) (recheck buys sells).buys (recheck buys sells).sells
unfolding recheck orders_after_all
recheck_sound n orders buys sells a =
    let before : Sides = record { own = buys; others = sells; fills = [] } in
    let half : Sides = sweep (in_priority buys) before in
    let first = sweep_sound n orders (in_priority buys) before (takers_of n orders buys sells a) a in
    let now : List Order = orders_after_all half.fills orders in
    let back = turned n now half.own half.others first in
    let middle : Sides = record { own = half.others; others = half.own; fills = half.fills } in
    let second = sweep_sound n orders (in_priority half.others) middle (takers_of n now half.others half.own back) back in
    let after : Sides = sweep (in_priority half.others) middle in
    turned n (orders_after_all after.fills orders) after.own after.others second

-- ---- a new quote changes no row

pub retime_row : (event : ℕ) (best : Best) (x : Priced) → (retime event best x).row ≡ x.row
unfolding retime
retime_row event best x =
    let value : Option ℕ = value_under best x.row in
    elim (option_eq nat_eq value x.value) as (λ b. (cond b x (record { row = x.row; value = value; time = event })).row ≡ x.row) [ true ↦ refl | false ↦ refl ]

retime_apart : (event : ℕ) (best : Best) → Keeps AreDifferent (retime event best)
retime_apart event best x y d = subst (λ (r : Row). AreDifferent r y) (sym (retime_row event best x)) d

pub reprice_sound : (n event : ℕ) (best : Best) (orders : List Order) (own others : List Priced) → AreSound n orders own others → AreSound n orders (reprice event best own) (reprice event best others)
unfolding reprice
reprice_sound n event best orders own others a =
    let f : Priced → Priced = retime event best in
    let live = λ (x : Priced) (l : IsLiveRow n orders x.row). subst (λ (r : Row). IsLiveRow n orders r) (sym (retime_row event best x)) l in
    record {
      own_live = all_map (λ x. IsLiveRow n orders x.row) (λ x. IsLiveRow n orders x.row) f live own a.own_live;
      others_live = all_map (λ x. IsLiveRow n orders x.row) (λ x. IsLiveRow n orders x.row) f live others a.others_live;
      own_differ = pairwise_map AreDifferent different_back f (retime_apart event best) own a.own_differ;
      others_differ = pairwise_map AreDifferent different_back f (retime_apart event best) others a.others_differ;
      differ = across_map AreDifferent different_back f f (retime_apart event best) (retime_apart event best) own others a.differ;
      sound = a.sound;
    }
