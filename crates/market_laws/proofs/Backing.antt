-- Orders and rows go on agreeing as trades are made.
use Rattle.std.proofs.Common.{◌≡◌, ℕ, zero, suc, ◌+◌, ◌≤◌, Bool, true, false, cond, ◌||◌, List, [], ◌∷◌, length, Some, None, refl, ap, sym, ◌∙◌, subst, inl, inr, arith}
use Rattle.std.specs.Prelude.{slice_get, map, nat_lt, sum_by, ◌==◌}
use Rattle.std.specs.List.{AllByRecursion}
use Rattle.std.proofs.lemmas.Bool.{ne_eqb, eq-eqb}
use Rattle.std.proofs.lemmas.Bool.Decides.{nat_tests}
use Rattle.std.proofs.lemmas.Option.{slice_get_past}
use Rattle.std.proofs.lemmas.List.Sums.{sum_by-cons}
use Rattle.venue_words.specs.declared.row.Row.{Row}
use Rattle.venue_words.specs.declared.row.Priced.{Priced}
use Rattle.venue_words.specs.ListLaws.{all_weaken, all_both}
use Rattle.venue_words.specs.Price.{crosses}
use Rattle.eager_meaning.specs.declared.order.Order.{Order}
use Rattle.eager_meaning.specs.declared.trade.Fill.{Fill}
use Rattle.eager_meaning.specs.declared.trade.Take.{Take}
use Rattle.eager_meaning.specs.Orders.{changed_at}
use Rattle.eager_meaning.specs.Trades.{order_after, orders_after, orders_after_all}
use Rattle.eager_meaning.specs.Walk.{total_of}
use Rattle.eager_meaning.specs.Matching.{takes_of, fill_of, fills_of, row_after, shares_of, unfilled}
use Rattle.market_laws.specs.Equalities.{some_is}
use Rattle.market_laws.specs.Sound.{AreDifferent, IsNew, AllDiffer, IsHeld, IsLiveRow}
use Rattle.market_laws.specs.ChangedLaws.{changed_next}
use Rattle.market_laws.specs.WalkLaws.{takes_all}
use Rattle.market_laws.proofs.Differing.{IsSameOrDiffers, takes_differ, IsWithin, takes_within, taken_by, taken_cons, none_taken, Fits, shares_found}

-- ---- what trades add to an order

-- the shares that trades give to the order with a number
abbrev pub traded_in : ℕ → List Fill → ℕ
traded_in k fills = sum_by (λ f. cond (f.taker.order == k) f.quantity 0 + cond (f.contra.order == k) f.quantity 0) fills

pub traded_cons : (k : ℕ) (f : Fill) (fs : List Fill) → traded_in k (f ∷ fs) ≡ cond (f.taker.order == k) f.quantity 0 + cond (f.contra.order == k) f.quantity 0 + traded_in k fs
traded_cons k f fs = sum_by-cons (λ (g : Fill). cond (g.taker.order == k) g.quantity 0 + cond (g.contra.order == k) g.quantity 0) f fs

-- an order with more shares traded, and else as it was in what matters here
pub record Adds (shares : ℕ) (before after : Order) : Type 0 where
  pub cum : after.cum ≡ before.cum + shares
  pub quantity : after.quantity ≡ before.quantity
  pub member : after.member ≡ before.member

-- the order at a number after some trades
pub record FoundAfter (orders : List Order) (k shares : ℕ) (before : Order) : Type 0 where
  pub order : Order
  pub is : slice_get orders k ≡ Some order
  pub adds : Adds shares before order

pub changed_found : (fill : Fill) (j : ℕ) (orders : List Order) (k : ℕ) (order : Order) → slice_get orders k ≡ Some order → FoundAfter (changed_at (order_after fill) j orders) k (cond (j == k) fill.quantity 0) order
unfolding order_after
changed_found fill j [] k order h = cc
changed_found fill zero (o ∷ os) zero order h =
    subst (λ (x : Order). FoundAfter (order_after fill o ∷ os) 0 fill.quantity x) (some_is _ _ h)
    (record { order = order_after fill o; is = refl; adds = record { cum = refl; quantity = refl; member = refl } })
changed_found fill zero (o ∷ os) (suc k) order h =
    let e : (0 == suc k) ≡ false = grind (arith, nat_tests) in
    rw e (record { order = order; is = h; adds = record { cum = omega arith; quantity = refl; member = refl } })
changed_found fill (suc j) (o ∷ os) zero order h =
    let e : (suc j == 0) ≡ false = grind (arith, nat_tests) in
    rw (e, changed_next (order_after fill) j o os) (record { order = order; is = h; adds = record { cum = omega arith; quantity = refl; member = refl } })
changed_found fill (suc j) (o ∷ os) (suc k) order h =
    let e : (suc j == suc k) ≡ (j == k) = grind (arith, nat_tests) in
    let more = changed_found fill j os k order h in
    rw (e, changed_next (order_after fill) j o os) (record { order = more.order; is = more.is; adds = more.adds })

pub fill_found : (fill : Fill) (orders : List Order) (k : ℕ) (order : Order) → slice_get orders k ≡ Some order → FoundAfter (orders_after fill orders) k (cond (fill.taker.order == k) fill.quantity 0 + cond (fill.contra.order == k) fill.quantity 0) order
unfolding orders_after
fill_found fill orders k order h =
    let one = changed_found fill fill.taker.order orders k order h in
    let two = changed_found fill fill.contra.order (changed_at (order_after fill) fill.taker.order orders) k one.order one.is in
    record {
      order = two.order;
      is = two.is;
      adds = record { cum = (let a = one.adds.cum in let b = two.adds.cum in omega arith); quantity = two.adds.quantity ∙ one.adds.quantity; member = two.adds.member ∙ one.adds.member };
    }

pub found_after : (fills : List Fill) (orders : List Order) (k : ℕ) (order : Order) → slice_get orders k ≡ Some order → FoundAfter (orders_after_all fills orders) k (traded_in k fills) order
unfolding orders_after_all
found_after [] orders k order h = record { order = order; is = h; adds = record { cum = omega arith; quantity = refl; member = refl } }
found_after (fill ∷ fills) orders k order h =
    let one = fill_found fill orders k order h in
    let more = found_after fills (orders_after fill orders) k one.order one.is in
    let all = traded_cons k fill fills in
    record {
      order = more.order;
      is = more.is;
      adds = record { cum = (let a = one.adds.cum in let b = more.adds.cum in omega arith); quantity = more.adds.quantity ∙ one.adds.quantity; member = more.adds.member ∙ one.adds.member };
    }

pub length_changed : (f : Order → Order) (k : ℕ) (orders : List Order) → length (changed_at f k orders) ≡ length orders
length_changed f k [] = refl
length_changed f zero (o ∷ os) = refl
length_changed f (suc k) (o ∷ os) = rw (changed_next f k o os) (ap suc (length_changed f k os))

pub length_after_all : (fills : List Fill) (orders : List Order) → length (orders_after_all fills orders) ≡ length orders
unfolding orders_after_all orders_after
length_after_all [] orders = refl
length_after_all (fill ∷ fills) orders =
    length_after_all fills (orders_after fill orders)
    ∙ (length_changed (order_after fill) fill.contra.order (changed_at (order_after fill) fill.taker.order orders)
    ∙ length_changed (order_after fill) fill.taker.order orders)

-- an order that is there after was there before
pub none_before : (fills : List Fill) (orders : List Order) (k : ℕ) → slice_get orders k ≡ None → slice_get (orders_after_all fills orders) k ≡ None
none_before fills orders k h =
    let same = length_after_all fills orders in
    let past : length orders ≤ k = past_of orders k h in
    slice_get_past (orders_after_all fills orders) k (omega arith)
  where
    past_of : (os : List Order) (j : ℕ) → slice_get os j ≡ None → length os ≤ j
    past_of [] j h = omega arith
    past_of (o ∷ os) zero h = cc
    past_of (o ∷ os) (suc j) h = let more = past_of os j h in omega arith

-- so after one trade
pub none_after_fill : (fill : Fill) (orders : List Order) (k : ℕ) → slice_get orders k ≡ None → slice_get (orders_after fill orders) k ≡ None
unfolding orders_after_all
none_after_fill fill orders k h = none_before (fill ∷ []) orders k h

-- ---- one walk's trades

pub traded_by_walk : (k : ℕ) (taker : Priced) (takes : List Take) → traded_in k (fills_of taker takes) ≡ cond (taker.row.order == k) (total_of takes) 0 + taken_by k takes
unfolding fills_of
traded_by_walk k taker [] = elim (taker.row.order == k) as (λ b. 0 ≡ cond b 0 0 + 0) [ true ↦ refl | false ↦ refl ]
traded_by_walk k taker (t ∷ ts) =
    let more = traded_by_walk k taker ts in
    let all = traded_cons k (fill_of taker t) (map (fill_of taker) ts) in
    let sum = sum_by-cons (λ (u : Take). u.shares) t ts in
    let taken = taken_cons k t ts in
    let both : cond (taker.row.order == k) (total_of (t ∷ ts)) 0 ≡ cond (taker.row.order == k) t.shares 0 + cond (taker.row.order == k) (total_of ts) 0 =
    elim (taker.row.order == k) as (λ b. cond b (total_of (t ∷ ts)) 0 ≡ cond b t.shares 0 + cond b (total_of ts) 0) [ true ↦ sum | false ↦ refl ] in
    omega (arith, more, all, taken, both)

-- ---- rows after trades

shares_traded : (b : Bool) (cum s : ℕ) → b ≡ nat_lt 0 cum → (b || nat_lt 0 s) ≡ nat_lt 0 (cum + s)
shares_traded b cum s e = rw e (grind (arith, nat_tests))

-- a row after its order traded just the shares that it lost
pub held_after : (n : ℕ) (orders : List Order) (fills : List Fill) (s : ℕ) (x : Priced) → IsHeld n orders x.row → traded_in x.row.order fills ≡ s → s ≤ x.row.leaves → IsHeld n (orders_after_all fills orders) (row_after s x).row
unfolding row_after
held_after n orders fills s x h e most =
    let after = found_after fills orders x.row.order h.order h.is in
    let cum : after.order.cum ≡ h.order.cum + s = after.adds.cum ∙ ap (λ m. h.order.cum + m) e in
    record {
      order = after.order;
      is = after.is;
      member = h.member ∙ sym after.adds.member;
      quantity = (let q = h.quantity in let same = after.adds.quantity in omega arith);
      traded = shares_traded x.row.traded h.order.cum s h.traded ∙ ap (nat_lt 0) (sym cum);
      entered = h.entered;
    }

-- a row whose order did not trade
pub still_held : (n : ℕ) (orders : List Order) (fills : List Fill) (row : Row) → IsHeld n orders row → traded_in row.order fills ≡ 0 → IsHeld n (orders_after_all fills orders) row
still_held n orders fills row h e =
    let after = found_after fills orders row.order h.order h.is in
    let cum : after.order.cum ≡ h.order.cum = (let a = after.adds.cum in omega arith) in
    record {
      order = after.order;
      is = after.is;
      member = h.member ∙ sym after.adds.member;
      quantity = (let q = h.quantity in let same = after.adds.quantity in omega arith);
      traded = h.traded ∙ ap (nat_lt 0) (sym cum);
      entered = h.entered;
    }

left_of : (m : ℕ) → nat_lt 0 m ≡ true → 1 ≤ m
left_of m e = grind (arith, nat_tests)

-- the held rows with shares left are live
pub live_unfilled : (n : ℕ) (orders : List Order) (rows : List Priced) → AllByRecursion (λ x. IsHeld n orders x.row) rows → AllByRecursion (λ x. IsLiveRow n orders x.row) (unfilled rows)
live_unfilled n orders [] a = tt
live_unfilled n orders (x ∷ xs) a =
    (elim (nat_lt 0 x.row.leaves) as (λ b. nat_lt 0 x.row.leaves ≡ b → AllByRecursion (λ y. IsLiveRow n orders y.row) (cond b (x ∷ unfilled xs) (unfilled xs)))
    [ true ↦ λ e. (record { held = a.0; left = left_of _ e }, live_unfilled n orders xs a.1) | false ↦ λ e. live_unfilled n orders xs a.1 ]) refl

-- ---- a taker and the rows that it meets

-- the same order leaves the same
pub same_leaves : (n : ℕ) (orders : List Order) (x y : Row) → IsHeld n orders x → IsHeld n orders y → x.order ≡ y.order → x.leaves ≡ y.leaves
same_leaves n orders x y h k e =
    let same : h.order ≡ k.order = some_is _ _ (sym h.is ∙ (ap (slice_get orders) e ∙ k.is)) in
    let q : h.order.quantity ≡ k.order.quantity = ap (λ (o : Order). o.quantity) same in
    let c : h.order.cum ≡ k.order.cum = ap (λ (o : Order). o.cum) same in
    let a = h.quantity in
    let b = k.quantity in
    omega arith

-- a contra that is held, with at most its shares taken
abbrev pub IsFit : ℕ → List Order → Take → Type 0
IsFit n orders t = IsHeld n orders t.contra.row × IsWithin t

pub takes_fit : (n : ℕ) (orders : List Order) (taker : Priced) (others : List Priced) → AllByRecursion (λ x. IsLiveRow n orders x.row) others → AllByRecursion (IsFit n orders) (takes_of taker others)
takes_fit n orders taker others a =
    all_both (λ t. IsLiveRow n orders t.contra.row × (crosses taker t.contra ≡ true)) IsWithin (IsFit n orders) (λ t m w. (m.0.held, w)) (takes_of taker others)
    (takes_all (λ x. IsLiveRow n orders x.row) taker others a) (takes_within taker others).1

-- takes that are from other orders than k, or that are from a row's order
fits_of : (n : ℕ) (orders : List Order) (x : Row) (t : Take) → IsHeld n orders x → IsSameOrDiffers x t.contra.row → IsFit n orders t → Fits x t
fits_of n orders x t h d f =
    elim d [
      | inl same ↦ inl (same.0, same.1, (let e = same_leaves n orders t.contra.row x f.0 h same.1 in let w = f.1 in omega arith))
      | inr other ↦ inr other
    ]

pub no_take : (x : Row) (takes : List Take) → AllByRecursion (λ t. AreDifferent x t.contra.row) takes → taken_by x.order takes ≡ 0
no_take x takes a = none_taken x.order takes (all_weaken (λ t. AreDifferent x t.contra.row) (λ t. t.contra.row.order ≡ x.order → ⊥) (λ t d e. d.order (sym e)) takes a)

pub takes_new : (x : Row) (taker : Priced) (others : List Priced) → IsNew x others → AllByRecursion (λ t. AreDifferent x t.contra.row) (takes_of taker others)
takes_new x taker others a =
    all_weaken (λ t. AreDifferent x t.contra.row × (crosses taker t.contra ≡ true)) (λ t. AreDifferent x t.contra.row) (λ t m. m.0) (takes_of taker others) (takes_all (λ y. AreDifferent x y.row) taker others a)

module _ (n : ℕ) (orders : List Order) (taker : Priced) (others : List Priced) (held : IsHeld n orders taker.row) (live : AllByRecursion (λ x. IsLiveRow n orders x.row) others) (differ : AllDiffer others) (fresh : IsNew taker.row others) where
  -- the taker's own order trades the whole walk
  pub taker_trades : traded_in taker.row.order (fills_of taker (takes_of taker others)) ≡ total_of (takes_of taker others)
  taker_trades =
      let takes : List Take = takes_of taker others in
      let all = traded_by_walk taker.row.order taker takes in
      let none = no_take taker.row takes (takes_new taker.row taker others fresh) in
      let own : cond (taker.row.order == taker.row.order) (total_of takes) 0 ≡ total_of takes = (let e : (taker.row.order == taker.row.order) ≡ true = eq-eqb _ _ refl in rw e refl) in
      omega (arith, all, none, own)

  -- a row that is neither the taker's nor one of those that it meets does not trade
  pub others_rest : (x : Row) → AreDifferent taker.row x → IsNew x others → traded_in x.order (fills_of taker (takes_of taker others)) ≡ 0
  others_rest x d a =
      let takes : List Take = takes_of taker others in
      let all = traded_by_walk x.order taker takes in
      let none = no_take x takes (takes_new x taker others a) in
      let own : cond (taker.row.order == x.order) (total_of takes) 0 ≡ 0 = (let e : (taker.row.order == x.order) ≡ false = ne_eqb _ _ d.order in rw e refl) in
      omega (arith, all, none, own)

  -- each row that it meets
  pub met_held : (x : Priced) → IsHeld n orders x.row → AllByRecursion (λ y. IsSameOrDiffers x.row y.row) others → AreDifferent taker.row x.row → IsHeld n (orders_after_all (fills_of taker (takes_of taker others)) orders) (row_after (shares_of (takes_of taker others) x) x).row
  met_held x h same d =
      let takes : List Take = takes_of taker others in
      let met = all_weaken (λ t. IsSameOrDiffers x.row t.contra.row × (crosses taker t.contra ≡ true)) (λ t. IsSameOrDiffers x.row t.contra.row) (λ t m. m.0) takes (takes_all (λ y. IsSameOrDiffers x.row y.row) taker others same) in
      let fits = all_both (λ t. IsSameOrDiffers x.row t.contra.row) (IsFit n orders) (Fits x.row) (λ t s f. fits_of n orders x.row t h s f) takes met (takes_fit n orders taker others live) in
      let found = shares_found x takes fits (takes_differ taker others differ) in
      let all = traded_by_walk x.row.order taker takes in
      let own : cond (taker.row.order == x.row.order) (total_of takes) 0 ≡ 0 = (let e : (taker.row.order == x.row.order) ≡ false = ne_eqb _ _ d.order in rw e refl) in
      held_after n orders (fills_of taker takes) (shares_of takes x) x h (omega (arith, all, own, found.0)) found.1
