-- Each row is the one with which its order entered last, and each order with shares left has it.
use Rattle.std.proofs.Common.{◌≡◌, ℕ, zero, suc, ◌-◌, ◌<◌, Bool, true, false, cond, List, [], ◌∷◌, ◌++◌, length, Option, Some, None, refl, ap, sym, ◌∙◌, subst, inl, inr, arith}
use Rattle.std.specs.Prelude.{◌⊎◌, find, nat_lt, slice_get, slice_set, option_map, ◌==◌}
use Rattle.std.specs.List.{AllByRecursion}
use Rattle.std.proofs.lemmas.Bool.{eq-eqb}
use Rattle.std.proofs.lemmas.Bool.Decides.{nat_tests}
use Rattle.venue_words.specs.declared.row.Row.{Row}
use Rattle.venue_words.specs.declared.row.Priced.{Priced}
use Rattle.venue_words.specs.ListLaws.{all_both, all_append}
use Rattle.venue_words.specs.Retime.{retime, reprice}
use Rattle.venue_words.specs.declared.price.Best.{Best}
use Rattle.eager_meaning.specs.declared.order.Order.{Order}
use Rattle.eager_meaning.specs.declared.trade.Take.{Take}
use Rattle.eager_meaning.specs.Matching.{takes_of, row_after, unfilled, rows_after}
use Rattle.eager_meaning.specs.Recheck.{Sides, meet, crosses_any, sweep, recheck}
use Rattle.eager_meaning.specs.Entering.{entered}
use Rattle.eager_meaning.specs.Showing.{row_of_order}
use Rattle.eager_meaning.specs.State.{State, resting}
use Rattle.eager_meaning.specs.Walk.{total_of}
use Rattle.venue_words.specs.Priority.{in_priority}
use Rattle.market_laws.specs.Equalities.{same_number, some_is}
use Rattle.market_laws.specs.Sound.{IsLiveRow}
use Rattle.market_laws.specs.Standing.{row_by_now, row_left, AreStanding}
use Rattle.market_laws.specs.ListLaws.{all_map}
use Rattle.market_laws.specs.WalkLaws.{rows_after_all}
use Rattle.market_laws.proofs.Admitting.{RowsAgree}
use Rattle.market_laws.proofs.Naming.{find_passes}
use Rattle.market_laws.proofs.Owning.{HasRowOf, HaveRows, row_appended, row_behind}
use Rattle.market_laws.proofs.Sweeping.{retime_row}

-- ---- lists with one place set

pub get_set : {A : Type 0} (xs : List A) (k : ℕ) (new : A) → k < length xs → slice_get (slice_set xs k new) k ≡ Some new
get_set [] k new h = absurd (omega arith)
get_set (x ∷ xs) zero new h = refl
get_set (x ∷ xs) (suc k) new h = get_set xs k new (omega arith)

pub get_set_other : {A : Type 0} (xs : List A) (k j : ℕ) (new : A) → (k ≡ j → ⊥) → slice_get (slice_set xs k new) j ≡ slice_get xs j
get_set_other [] k j new d = refl
get_set_other (x ∷ xs) zero zero new d = absurd (d refl)
get_set_other (x ∷ xs) zero (suc j) new d = refl
get_set_other (x ∷ xs) (suc k) zero new d = refl
get_set_other (x ∷ xs) (suc k) (suc j) new d = get_set_other xs k j new (λ e. d (ap suc e))

pub length_set : {A : Type 0} (xs : List A) (k : ℕ) (new : A) → length (slice_set xs k new) ≡ length xs
length_set [] k new = refl
length_set (x ∷ xs) zero new = refl
length_set (x ∷ xs) (suc k) new = let more = length_set xs k new in omega arith

-- an element of the longer list is the new one, or one of the others
pub get_either : {A : Type 0} (xs : List A) (new : A) (k : ℕ) (x : A) → slice_get (xs ++ new ∷ []) k ≡ Some x → ((k ≡ length xs) × (new ≡ x)) ⊎ (slice_get xs k ≡ Some x)
get_either [] new zero x h = inl (refl, cc)
get_either [] new (suc k) x h = cc
get_either (y ∷ ys) new zero x h = inr h
get_either (y ∷ ys) new (suc k) x h = elim (get_either ys new k x h) [ inl last ↦ inl ((let e = last.0 in omega arith), last.1) | inr old ↦ inr old ]

-- ---- rows as they entered

-- a row is the one with which its order entered last, but for its shares left and whether it has traded
pub record IsAsEntered (entries : List (Option Row)) (x : Priced) : Type 0 where
  pub entry : Row
  pub is : slice_get entries x.row.order ≡ Some (Some entry)
  pub same : x.row ≡ record entry { leaves = x.row.leaves; traded = x.row.traded }

abbrev pub AreAsEntered : List (Option Row) → List Priced → Type 0
AreAsEntered entries rows = AllByRecursion (IsAsEntered entries) rows

abbrev pub with_parts : ℕ → Bool → Row → Row
with_parts leaves traded row = record row { leaves = leaves; traded = traded }

pub entered_row_after : (entries : List (Option Row)) (n : ℕ) (x : Priced) → IsAsEntered entries x → IsAsEntered entries (row_after n x)
unfolding row_after
entered_row_after entries n x a =
    let next : Row = (row_after n x).row in
    record { entry = a.entry; is = a.is; same = ap (with_parts next.leaves next.traded) a.same }

pub entered_rows_after : (entries : List (Option Row)) (takes : List Take) (rows : List Priced) → AreAsEntered entries rows → AreAsEntered entries (rows_after takes rows)
entered_rows_after entries takes rows a = rows_after_all (IsAsEntered entries) (entered_row_after entries) takes rows a

pub entered_repriced : (entries : List (Option Row)) (event : ℕ) (best : Best) (rows : List Priced) → AreAsEntered entries rows → AreAsEntered entries (reprice event best rows)
unfolding reprice
entered_repriced entries event best rows a =
    all_map (IsAsEntered entries) (IsAsEntered entries) (retime event best) (λ x p. as_row entries x (retime event best x) (sym (retime_row event best x)) p) rows a
  where
    as_row : (es : List (Option Row)) (x y : Priced) → x.row ≡ y.row → IsAsEntered es x → IsAsEntered es y
    as_row es x y e p =
        let R : Row → Type 0 = λ r. (slice_get es r.order ≡ Some (Some p.entry)) × (r ≡ record p.entry { leaves = r.leaves; traded = r.traded }) in
        let both : R y.row = subst R e (p.is, p.same) in
        record { entry = p.entry; is = both.0; same = both.1 }

pub entered_swept : (entries : List (Option Row)) (takers : List Priced) (sides : Sides) → AreAsEntered entries sides.own → AreAsEntered entries sides.others → AreAsEntered entries (sweep takers sides).own × AreAsEntered entries (sweep takers sides).others
unfolding sweep meet
entered_swept entries [] sides a b = (a, b)
entered_swept entries (taker ∷ takers) sides a b =
    let takes : List Take = takes_of taker sides.others in
    let mine : List Take = record { contra = taker; shares = total_of takes } ∷ [] in
    let more = entered_swept entries takers (meet taker sides) (entered_rows_after entries mine sides.own a) (entered_rows_after entries takes sides.others b) in
    let P : Sides → Type 0 = λ s. AreAsEntered entries s.own × AreAsEntered entries s.others in
    elim (crosses_any taker sides.others) as (λ c. P (cond c (sweep takers (meet taker sides)) sides)) [ true ↦ more | false ↦ (a, b) ]

pub entered_rechecked : (entries : List (Option Row)) (buys sells : List Priced) → AreAsEntered entries buys → AreAsEntered entries sells → AreAsEntered entries (recheck buys sells).buys × AreAsEntered entries (recheck buys sells).sells
unfolding recheck
entered_rechecked entries buys sells a b =
    let half : Sides = sweep (in_priority buys) (record { own = buys; others = sells; fills = [] }) in
    let first = entered_swept entries (in_priority buys) (record { own = buys; others = sells; fills = [] }) a b in
    let second = entered_swept entries (in_priority half.others) (record { own = half.others; others = half.own; fills = half.fills }) first.1 first.0 in
    (second.1, second.0)

pub entered_entered : (entries : List (Option Row)) (taker : Priced) (immediate : Bool) (own others : List Priced) → (immediate ≡ false → IsAsEntered entries taker) → AreAsEntered entries own → AreAsEntered entries others
    → AreAsEntered entries (entered taker immediate own others).own × AreAsEntered entries (entered taker immediate own others).others
unfolding entered
entered_entered entries taker immediate own others t a b =
    let takes : List Take = takes_of taker others in
    let after : Priced = row_after (total_of takes) taker in
    let left : List Priced = unfilled (after ∷ []) in
    let rest = entered_rows_after entries takes others b in
    let joined : immediate ≡ false → AreAsEntered entries (own ++ left) = λ e.
    all_append (IsAsEntered entries) own left a
    (elim (nat_lt 0 after.row.leaves) as (λ c. AreAsEntered entries (cond c (after ∷ []) [])) [ true ↦ (entered_row_after entries (total_of takes) taker (t e), tt) | false ↦ tt ]) in
    (elim immediate as (λ c. immediate ≡ c → AreAsEntered entries (cond c own (own ++ left)) × AreAsEntered entries (rows_after takes others)) [ true ↦ λ e. (a, rest) | false ↦ λ e. (joined e, rest) ]) refl

-- ---- states

-- an order that entered to rest, and was not canceled since
abbrev pub MayHaveRow : List (Option Row) → ℕ → Type 0
MayHaveRow entries k = (entry : Row) × (slice_get entries k ≡ Some (Some entry))

-- the entries of a state: one for each order, from which each row came; and each order that has one has a row while it
-- has shares left
pub record HasEntries (entries : List (Option Row)) (s : State) : Type 0 where
  pub count : length entries ≡ length s.orders
  pub buys : AreAsEntered entries s.buys
  pub sells : AreAsEntered entries s.sells
  pub rows : HaveRows (MayHaveRow entries) s.orders s.buys s.sells

-- a row of an order is found
some_row : (k : ℕ) (rows : List Priced) → HasRowOf k rows → row_of_order k rows ≡ None → ⊥
unfolding row_of_order
some_row k [] h e = h
some_row k (x ∷ xs) h e =
    (elim (x.row.order == k) as (λ b. (x.row.order == k) ≡ b → cond b (Some x) (find (λ y. y.row.order == k) xs) ≡ None → ⊥) [
      | true ↦ λ f g. cc
      | false ↦ λ f g. elim h [ inl here ↦ (let is = eq-eqb _ _ here in let both = sym f ∙ is in cc) | inr there ↦ some_row k xs there g ]
    ]) refl e

-- what is left of a row is the row
left_is : (n : ℕ) (entries : List (Option Row)) (s : State) (k : ℕ) (order : Order) (entry : Option Row) (x : Priced) → slice_get s.orders k ≡ Some order → slice_get entries k ≡ Some entry → x.row.order ≡ k → IsLiveRow n s.orders x.row → IsAsEntered entries x → Some x.row ≡ row_left order entry
left_is n entries s k order entry x at kept number live is =
    let same : live.held.order ≡ order = some_is _ _ (sym live.held.is ∙ (ap (slice_get s.orders) number ∙ at)) in
    let q : live.held.order.quantity ≡ order.quantity = ap (λ (o : Order). o.quantity) same in
    let c : live.held.order.cum ≡ order.cum = ap (λ (o : Order). o.cum) same in
    let sum = live.held.quantity in
    let some = live.left in
    let more : nat_lt order.cum order.quantity ≡ true = (let less : order.cum < order.quantity = omega (arith, q, c, sum, some) in grind (arith, nat_tests)) in
    let leaves : x.row.leaves ≡ order.quantity - order.cum = omega (arith, q, c, sum) in
    let traded : x.row.traded ≡ nat_lt 0 order.cum = live.held.traded ∙ ap (nat_lt 0) c in
    let own : Some is.entry ≡ entry = some_is _ _ (sym is.is ∙ (ap (slice_get entries) number ∙ kept)) in
    let now : x.row ≡ row_by_now order is.entry = is.same ∙ (ap (λ (m : ℕ). with_parts m x.row.traded is.entry) leaves ∙ ap (λ (b : Bool). with_parts (order.quantity - order.cum) b is.entry) traded) in
    rw (sym own, more) (ap Some now)

abbrev no_row : Option Row
no_row = None

less : (x y : ℕ) → nat_lt x y ≡ true → x < y
less x y more = grind (arith, nat_tests)

pub stands : (n : ℕ) (entries : List (Option Row)) (s : State) → RowsAgree n s → HasEntries entries s → AreStanding entries s
unfolding row_of_order
stands n entries s a h =
    let lives = all_append (λ x. IsLiveRow n s.orders x.row) s.buys s.sells a.own_live a.others_live in
    let entered = all_append (IsAsEntered entries) s.buys s.sells h.buys h.sells in
    let both = all_both (λ x. IsLiveRow n s.orders x.row) (IsAsEntered entries) (λ x. IsLiveRow n s.orders x.row × IsAsEntered entries x) (λ x l e. (l, e)) (resting s) lives entered in
    let owned : (k : ℕ) → HasRowOf k s.buys ⊎ HasRowOf k s.sells → HasRowOf k (resting s) = λ k o. elim o [ inl one ↦ row_appended k s.buys s.sells one | inr other ↦ row_behind k s.buys s.sells other ] in
    record { count = h.count; rows = λ k order entry at kept. at_number k order entry at kept both owned (row_of_order k (resting s)) refl }
  where
    at_number : (k : ℕ) (order : Order) (entry : Option Row) → slice_get s.orders k ≡ Some order → slice_get entries k ≡ Some entry → AllByRecursion (λ x. IsLiveRow n s.orders x.row × IsAsEntered entries x) (resting s) → ((j : ℕ) → HasRowOf j s.buys ⊎ HasRowOf j s.sells → HasRowOf j (resting s))
        → (found : Option Priced) → row_of_order k (resting s) ≡ found → option_map (λ x. x.row) found ≡ row_left order entry
    at_number k order entry at kept both owned (Some x) e =
        let passes = find_passes (λ y. IsLiveRow n s.orders y.row × IsAsEntered entries y) (λ y. y.row.order == k) (resting s) x both e in
        left_is n entries s k order entry x at kept (same_number _ _ passes.1) passes.0.0 passes.0.1
    at_number k order None at kept both owned None e = elim (nat_lt order.cum order.quantity) as (λ b. no_row ≡ cond b no_row no_row) [ true ↦ refl | false ↦ refl ]
    at_number k order (Some entry) at kept both owned None e =
        (elim (nat_lt order.cum order.quantity) as (λ b. nat_lt order.cum order.quantity ≡ b → no_row ≡ cond b (Some (row_by_now order entry)) no_row) [
          | true ↦ λ more. absurd (some_row k (resting s) (owned k (h.rows k order (entry, kept) at (less _ _ more))) e)
          | false ↦ λ more. refl
        ]) refl
