-- The order that an id names is the one of its entry, where the order has the id.
use Rattle.std.proofs.Common.{◌≡◌, ℕ, ◌+◌, Bool, true, false, List, [], ◌∷◌, refl, ap, sym, ◌∙◌, subst, arith}
use Rattle.std.specs.Prelude.{Option, Some, None, find, slice_get, option_map, option_and_then, cond, suc, zero, unwrap_or}
use Rattle.std.specs.List.{enumerate_from}
use Rattle.std.specs.Prelude.{◌==◌, ◌&&◌}
use Rattle.std.specs.Str.{bytes_eq}
use Rattle.std.proofs.lemmas.Bool.Decides.{nat_tests}
use Rattle.std.proofs.lemmas.Slice.Eq.{bytes_eq-Decides}
use Rattle.eager_meaning.specs.declared.order.Order.{Order}
use Rattle.eager_meaning.specs.Orders.{is_named, order_named}
use Rattle.symbol_book.specs.Finding.{IsNumber}
use Rattle.symbol_book.specs.Ids.{UsedId, NameOrders, entry_of, if_named, named_at}

-- the order of an entry, where the id names it at present
abbrev checked : ℕ → List ℕ → List Order → Option UsedId → Option (ℕ × Order)
checked member id orders entry = option_and_then (λ e. option_and_then (if_named member id e.order) (slice_get orders e.order)) entry

-- where a search stops
pub record StopsAt (P : Order → Bool) (first : ℕ) (orders : List Order) (found : ℕ × Order) : Type 0 where
  pub place : ℕ
  pub number : found.0 ≡ first + place
  pub here : slice_get orders place ≡ Some found.1
  pub passes : P found.1 ≡ true

stop_step : (P : Order → Bool) (first : ℕ) (order : Order) (orders : List Order) (found : ℕ × Order) (rest : Option (ℕ × Order)) (b : Bool) → P order ≡ b → cond b (Some (first, order)) rest ≡ Some found
    → (rest ≡ Some found → StopsAt P (first + 1) orders found) → StopsAt P first (order ∷ orders) found
stop_step P first order orders found rest true p is later =
    let same : (first, order) ≡ found = ap (λ (o : Option (ℕ × Order)). unwrap_or o found) is in
    record {
      place = 0;
      number = sym (ap (λ (x : ℕ × Order). x.0) same) ∙ omega arith;
      here = ap (λ (x : ℕ × Order). Some x.1) same;
      passes = subst (λ (x : ℕ × Order). P x.1 ≡ true) same p;
    }
stop_step P first order orders found rest false p is later =
    let found_later = later is in
    record { place = suc found_later.place; number = omega (arith, found_later.number); here = found_later.here; passes = found_later.passes }

pub stops : (P : Order → Bool) (first : ℕ) (orders : List Order) (found : ℕ × Order) → find (λ x. P x.1) (enumerate_from first orders) ≡ Some found → StopsAt P first orders found
stops P first [] found is = cc
stops P first (order ∷ orders) found is = stop_step P first order orders found _ (P order) refl is (λ h. stops P (first + 1) orders found h)

-- where it finds nothing, no order passes
miss_here : (P : Order → Bool) (first : ℕ) (order other : Order) (rest : Option (ℕ × Order)) (b : Bool) → P order ≡ b → cond b (Some (first, order)) rest ≡ None → order ≡ other → P other ≡ false
miss_here P first order other rest true p is same = cc
miss_here P first order other rest false p is same = subst (λ (x : Order). P x ≡ false) same p

miss_later : (first : ℕ) (order : Order) (rest : Option (ℕ × Order)) (b : Bool) → cond b (Some (first, order)) rest ≡ None → rest ≡ None
miss_later first order rest true is = cc
miss_later first order rest false is = is

pub misses : (P : Order → Bool) (first : ℕ) (orders : List Order) → find (λ x. P x.1) (enumerate_from first orders) ≡ None → (k : ℕ) (other : Order) → slice_get orders k ≡ Some other → P other ≡ false
misses P first [] is k other at = cc
misses P first (order ∷ orders) is zero other at = miss_here P first order other _ (P order) refl is (ap (λ (o : Option Order). unwrap_or o other) at)
misses P first (order ∷ orders) is (suc k) other at = misses P (first + 1) orders (miss_later first order _ (P order) is) k other at

-- an entry whose order is found, or is none
by_place : (member : ℕ) (id : List ℕ) (orders : List Order) (k : ℕ) (order : Order) (entry : Option UsedId) → slice_get orders k ≡ Some order → is_named member id order ≡ true
    → option_map (λ e. e.order) entry ≡ Some k → Some (k, order) ≡ checked member id orders entry
by_place member id orders k order None at named is = cc
by_place member id orders k order (Some e) at named is =
    let same : e.order ≡ k = ap (λ (o : Option ℕ). unwrap_or o k) is in
    rw (same, at, named) refl

by_none : (member : ℕ) (id : List ℕ) (orders : List Order) (number : ℕ) (found : Option Order) → ((order : Order) → found ≡ Some order → is_named member id order ≡ false) → None ≡ option_and_then (if_named member id number) found
by_none member id orders number None none = refl
by_none member id orders number (Some order) none = rw (none order refl) refl

no_entry : (member : ℕ) (id : List ℕ) (orders : List Order) (entry : Option UsedId) → ((k : ℕ) (order : Order) → slice_get orders k ≡ Some order → is_named member id order ≡ false) → None ≡ checked member id orders entry
no_entry member id orders None none = refl
no_entry member id orders (Some e) none = by_none member id orders e.order (slice_get orders e.order) (λ order at. none e.order order at)

both_true : (a b : Bool) → (a && b) ≡ true → (a ≡ true) × (b ≡ true)
both_true true b p = (refl, p)
both_true false b p = cc

-- the member and the id of an order that is named so
names_it : (member : ℕ) (id : List ℕ) (order : Order) → is_named member id order ≡ true → (order.member ≡ member) × (order.id ≡ id)
names_it member id order named =
    let both = both_true (order.member == member) (bytes_eq order.id id) named in
    (grind (arith, nat_tests, both.0), (bytes_eq-Decides order.id id).0 both.1)

-- the order that an id names is the one of its entry, where the order has the id
pub named_by_entry : (orders : List Order) (entries : List UsedId) (member : ℕ) (id : List ℕ) → NameOrders entries orders → order_named member id orders ≡ checked member id orders (entry_of member id entries)
unfolding order_named
named_by_entry orders entries member id has = by (find (λ (x : ℕ × Order). is_named member id x.1) (enumerate_from 0 orders)) refl
  where
    by : (r : Option (ℕ × Order)) → find (λ (x : ℕ × Order). is_named member id x.1) (enumerate_from 0 orders) ≡ r → find (λ (x : ℕ × Order). is_named member id x.1) (enumerate_from 0 orders) ≡ checked member id orders (entry_of member id entries)
    by None is = is ∙ no_entry member id orders (entry_of member id entries) (misses (is_named member id) 0 orders is)
    by (Some found) is = is ∙ found_entry found (stops (is_named member id) 0 orders found is)
      where
        found_entry : (found : ℕ × Order) → StopsAt (is_named member id) 0 orders found → Some found ≡ checked member id orders (entry_of member id entries)
        found_entry found at =
            let name = names_it member id found.1 at.passes in
            let entry : option_map (λ e. e.order) (entry_of member id entries) ≡ Some at.place =
            subst (λ (m : ℕ). option_map (λ e. e.order) (entry_of m id entries) ≡ Some at.place) name.0
            (subst (λ (i : List ℕ). option_map (λ e. e.order) (entry_of found.1.member i entries) ≡ Some at.place) name.1 (has.each at.place found.1 at.here)) in
            let number : found.0 ≡ at.place = at.number ∙ omega arith in
            ap (λ (n : ℕ). Some (n, found.1)) number ∙ by_place member id orders at.place found.1 _ at.here at.passes entry

checked_by_number : (member : ℕ) (id : List ℕ) (orders : List Order) (entry : Option UsedId) → checked member id orders entry ≡ named_at member id orders (option_map (λ e. e.order) entry)
checked_by_number member id orders None = refl
checked_by_number member id orders (Some e) = refl

-- so the number that the entry gives is enough
pub named_by_number : (orders : List Order) (entries : List UsedId) (member : ℕ) (id : List ℕ) (number : Option ℕ) → NameOrders entries orders → number ≡ option_map (λ e. e.order) (entry_of member id entries) → order_named member id orders ≡ named_at member id orders number
named_by_number orders entries member id number has is = named_by_entry orders entries member id has ∙ (checked_by_number member id orders (entry_of member id entries) ∙ ap (named_at member id orders) (sym is))

-- what is found is the order with its number
is_number : (member : ℕ) (id : List ℕ) (orders : List Order) (found : Option (ℕ × Order)) (number : Option ℕ) → find (λ (x : ℕ × Order). is_named member id x.1) (enumerate_from 0 orders) ≡ found → option_map (λ (x : ℕ × Order). x.0) found ≡ number → IsNumber member id orders found number
is_number member id orders None None is e = refl
is_number member id orders None (Some k) is e = cc
is_number member id orders (Some x) None is e = cc
is_number member id orders (Some x) (Some k) is e =
    let at = stops (is_named member id) 0 orders x is in
    let name = names_it member id x.1 at.passes in
    let number : x.0 ≡ k = ap (λ (o : Option ℕ). unwrap_or o k) e in
    let place : at.place ≡ k = omega (arith, at.number) in
    record {
      order = x.1;
      is = ap (λ (n : ℕ). Some (n, x.1)) number;
      at = subst (λ (n : ℕ). slice_get orders n ≡ Some x.1) place at.here;
      owner = name.0;
      name = name.1;
    }

pub number_found : (member : ℕ) (id : List ℕ) (orders : List Order) (number : Option ℕ) → number ≡ option_map (λ (x : ℕ × Order). x.0) (order_named member id orders) → IsNumber member id orders (order_named member id orders) number
unfolding order_named
number_found member id orders number e = is_number member id orders _ number refl (sym e)
