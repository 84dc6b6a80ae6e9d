-- The live order that a request names.
use Rattle.std.proofs.Common.{◌≡◌, ℕ, suc, ◌+◌, Bool, true, false, cond, ◌&&◌, List, [], ◌∷◌, Option, Some, None, refl, ap, sym, ◌∙◌, subst, arith}
use Rattle.std.specs.Prelude.{slice_get, find, option_and_then, option_map, ◌==◌}
use Rattle.std.specs.List.{enumerate_from}
use Rattle.venue_words.specs.declared.row.Priced.{Priced}
use Rattle.eager_meaning.specs.declared.order.Order.{Order}
use Rattle.eager_meaning.specs.declared.order.Live.{Live}
use Rattle.eager_meaning.specs.Orders.{is_named, order_named, with_row, live_named}
use Rattle.eager_meaning.specs.Showing.{row_of_order}
use Rattle.market_laws.specs.Equalities.{same_number, some_is}

-- an element that is found has its place in the list
record IsAtPlace (orders : List Order) (from : ℕ) (found : ℕ × Order) : Type 0 where
  place : ℕ
  number : found.0 ≡ from + place
  is : slice_get orders place ≡ Some found.1

find_place : (test : ℕ × Order → Bool) (from : ℕ) (orders : List Order) (found : ℕ × Order) → find test (enumerate_from from orders) ≡ Some found → IsAtPlace orders from found
find_place test from [] found h = cc
find_place test from (order ∷ orders) found h =
    (elim (test (from, order)) as (λ b. cond b (Some (from, order)) (find test (enumerate_from (from + 1) orders)) ≡ Some found → IsAtPlace (order ∷ orders) from found) [
      | true ↦ λ k. subst (λ (x : ℕ × Order). IsAtPlace (order ∷ orders) from x) (some_is _ _ k) (record { place = 0; number = omega arith; is = refl })
      | false ↦ λ k. let r = find_place test (from + 1) orders found k in record { place = suc r.place; number = (let e = r.number in omega arith); is = r.is }
    ]) h

-- a live order's parts are those that the book has at its number
pub record IsLive (orders : List Order) (rows : List Priced) (live : Live) : Type 0 where
  pub order : slice_get orders live.number ≡ Some live.order
  pub row : row_of_order live.number rows ≡ Some live.row

row_found : (number : ℕ) (order : Order) (rows : List Priced) (orders : List Order) (row : Option Priced) (live : Live) → slice_get orders number ≡ Some order → row_of_order number rows ≡ row
    → option_map (λ x. record { number = number; order = order; row = x }) row ≡ Some live → IsLive orders rows live
row_found number order rows orders None live at is h = cc
row_found number order rows orders (Some x) live at is h = subst (λ (l : Live). IsLive orders rows l) (some_is _ _ h) (record { order = at; row = is })

named_found : (member : ℕ) (id : List ℕ) (orders : List Order) (rows : List Priced) (named : Option (ℕ × Order)) (live : Live) → order_named member id orders ≡ named → option_and_then (with_row rows) named ≡ Some live → IsLive orders rows live
unfolding order_named
named_found member id orders rows None live is h = cc
named_found member id orders rows (Some found) live is h =
    let at = find_place (λ x. is_named member id x.1) 0 orders found is in
    let here : slice_get orders found.0 ≡ Some found.1 = subst (λ (k : ℕ). slice_get orders k ≡ Some found.1) (let e = at.number in omega arith) at.is in
    row_found found.0 found.1 rows orders (row_of_order found.0 rows) live here refl h

pub live_found : (member : ℕ) (id : List ℕ) (orders : List Order) (rows : List Priced) (live : Live) → live_named member id orders rows ≡ Some live → IsLive orders rows live
unfolding live_named
live_found member id orders rows live h = named_found member id orders rows (order_named member id orders) live refl h

-- ---- its member

pair_passes : (test : ℕ × Order → Bool) (pairs : List (ℕ × Order)) (found : ℕ × Order) → find test pairs ≡ Some found → test found ≡ true
pair_passes test [] found h = cc
pair_passes test (x ∷ xs) found h =
    (elim (test x) as (λ b. test x ≡ b → cond b (Some x) (find test xs) ≡ Some found → test found ≡ true) [
      | true ↦ λ e k. subst (λ (z : ℕ × Order). test z ≡ true) (some_is _ _ k) e
      | false ↦ λ e k. pair_passes test xs found k
    ]) refl h

first_true : (a b : Bool) → (a && b) ≡ true → a ≡ true
first_true true b h = refl
first_true false b h = cc

with_row_order : (found : ℕ × Order) (row : Option Priced) (live : Live) → option_map (λ x. record { number = found.0; order = found.1; row = x }) row ≡ Some live → found.1 ≡ live.order
with_row_order found None live h = cc
with_row_order found (Some x) live h = ap (λ (l : Live). l.order) (some_is _ _ h)

named_member : (member : ℕ) (id : List ℕ) (orders : List Order) (rows : List Priced) (named : Option (ℕ × Order)) (live : Live) → order_named member id orders ≡ named → option_and_then (with_row rows) named ≡ Some live → live.order.member ≡ member
unfolding order_named
named_member member id orders rows None live is h = cc
named_member member id orders rows (Some found) live is h =
    let passes : (found.1.member == member) ≡ true = first_true _ _ (pair_passes (λ x. is_named member id x.1) (enumerate_from 0 orders) found is) in
    let same = with_row_order found (row_of_order found.0 rows) live h in
    sym (ap (λ (o : Order). o.member) same) ∙ same_number _ _ passes

pub live_member : (member : ℕ) (id : List ℕ) (orders : List Order) (rows : List Priced) (live : Live) → live_named member id orders rows ≡ Some live → live.order.member ≡ member
unfolding live_named
live_member member id orders rows live h = named_member member id orders rows (order_named member id orders) live refl h
