-- The row of an order, by the rows with which orders entered.
use Rattle.std.proofs.Common.{◌≡◌, ℕ, zero, suc, ◌<◌, ◌≤◌, true, false, cond, List, [], ◌∷◌, length, Option, Some, None, refl, ap, sym, ◌∙◌, subst, inl, inr, arith}
use Rattle.std.specs.Prelude.{◌⊎◌, ◌==◌, nat_lt, slice_get, slice_index_or, option_map}
use Rattle.std.proofs.lemmas.Bool.Decides.{nat_tests}
use Rattle.venue_words.specs.declared.row.Row.{Row}
use Rattle.venue_words.specs.declared.row.Priced.{Priced}
use Rattle.eager_meaning.specs.declared.order.Order.{Order}
use Rattle.eager_meaning.specs.Orders.{order_named, live_named}
use Rattle.eager_meaning.specs.Showing.{row_of_order}
use Rattle.market_laws.specs.Standing.{row_by_now, row_left}
use Rattle.match_core.specs.BothSides.{Rests}
use Rattle.symbol_book.specs.Finding.{IsNumber, IsRowIfLive, IsFoundAs, IsFound}
use Rattle.symbol_book.specs.Rows.{AreEntered}

same_number : (a b : ℕ) → (a == b) ≡ true → a ≡ b
same_number a b e = grind (arith, nat_tests)

less_or_not : (a b : ℕ) → (a < b) ⊎ (b ≤ a)
less_or_not a b = grind arith

some_priced : (x y : Priced) → Some x ≡ Some y → x ≡ y
some_priced x y e = cc

-- the row that is found is of the order
found_order : (number : ℕ) (rows : List Priced) (x : Priced) → row_of_order number rows ≡ Some x → x.row.order ≡ number
unfolding row_of_order
found_order number [] x e = cc
found_order number (y ∷ ys) x e =
    (elim (y.row.order == number) as (λ b. (y.row.order == number) ≡ b → cond b (Some y) (row_of_order number ys) ≡ Some x → x.row.order ≡ number) [
      | true ↦ λ f g. subst (λ (z : Priced). z.row.order ≡ number) (some_priced _ _ g) (same_number _ _ f)
      | false ↦ λ f g. found_order number ys x g
    ]) refl e

pub get_at : {T : Type 0} (xs : List T) (k : ℕ) (x : T) → k < length xs → x ≡ slice_index_or xs k x → slice_get xs k ≡ Some x
get_at [] k x less e = absurd (omega arith)
get_at (y ∷ ys) zero x less e = ap Some (sym e)
get_at (y ∷ ys) (suc k) x less e = get_at ys k x (omega arith) e

-- there is an element at each place
pub record HasAt {T : Type 0} (xs : List T) (k : ℕ) : Type 0 where
  pub x : T
  pub is : slice_get xs k ≡ Some x

pub has_at : {T : Type 0} (xs : List T) (k : ℕ) → k < length xs → HasAt xs k
has_at [] k less = absurd (omega arith)
has_at (y ∷ ys) zero less = record { x = y; is = refl }
has_at (y ∷ ys) (suc k) less = let more = has_at ys k (omega arith) in record { x = more.x; is = more.is }

pub at_within : {T : Type 0} (xs : List T) (k : ℕ) (x : T) → slice_get xs k ≡ Some x → k < length xs
at_within [] k x e = cc
at_within (y ∷ ys) zero x e = omega arith
at_within (y ∷ ys) (suc k) x e = omega (arith, at_within ys k x e)

-- a row that is there
record HasRow (number : ℕ) (rows : List Priced) (row : Row) : Type 0 where
  x : Priced
  is : row_of_order number rows ≡ Some x
  row_is : x.row ≡ row

some_row : (x y : Row) → Some x ≡ Some y → x ≡ y
some_row x y e = cc

row_there : (number : ℕ) (rows : List Priced) (row : Row) → option_map (λ (x : Priced). x.row) (row_of_order number rows) ≡ Some row → HasRow number rows row
row_there number rows row e =
    (elim (row_of_order number rows) as (λ found. row_of_order number rows ≡ found → option_map (λ (x : Priced). x.row) found ≡ Some row → HasRow number rows row) [
      | None ↦ λ f g. cc
      | Some x ↦ λ f g. record { x = x; is = f; row_is = some_row _ _ g }
    ]) refl e

none_there : (number : ℕ) (rows : List Priced) → option_map (λ (x : Priced). x.row) (row_of_order number rows) ≡ None → row_of_order number rows ≡ None
none_there number rows e =
    (elim (row_of_order number rows) as (λ found. row_of_order number rows ≡ found → option_map (λ (x : Priced). x.row) found ≡ None → row_of_order number rows ≡ None) [
      | None ↦ λ f g. f
      | Some x ↦ λ f g. cc
    ]) refl e

-- the row of a live order rests
pub live_rests : (number : ℕ) (row : Row) (order : Order) (entered : List (Option Row)) (orders : List Order) (rows : List Priced) → AreEntered entered orders rows
    → slice_get orders number ≡ Some order → IsRowIfLive orders entered number (Some row)
    → (x : Priced) × (row_of_order number rows ≡ Some x) × IsFoundAs orders rows (record { number = number; order = order; row = x }) (record { number = number; row = row })
live_rests number row order entered orders rows are at live =
    elim (less_or_not order.cum order.quantity) [
      | inl more ↦
          let less : nat_lt order.cum order.quantity ≡ true = grind (arith, nat_tests) in
          let left : row_left order (Some row) ≡ Some (row_by_now order row) = rw less refl in
          let here = row_there number rows (row_by_now order row) (are.each number order (Some row) at (live.live order at more) ∙ left) in
          let number_is = found_order number rows here.x here.is in
          let order_is : row.order ≡ number = sym (ap (λ (r : Row). r.order) here.row_is) ∙ number_is in
          let terms : here.x.row ≡ record row { leaves = here.x.row.leaves; traded = here.x.row.traded } =
          here.row_is ∙ ap (λ (r : Row). record row { leaves = r.leaves; traded = r.traded }) (sym here.row_is) in (
            here.x,
            here.is,
            record {
              number = refl;
              at = at;
              more = more;
              row = here.is;
              order = order_is;
              same = terms;
              rests = record {
                found = here.x;
                is = ap (λ (k : ℕ). row_of_order k rows) order_is ∙ here.is;
                key_is = ap (λ (r : Row). r.key) terms;
                cap_is = ap (λ (r : Row). r.cap) terms;
                entry_is = ap (λ (r : Row). r.entry) terms;
              };
            },
          )
      | inr filled ↦ let none : Some row ≡ None = live.filled order at filled in absurd (cc)
    ]

-- a live order that entered with a row, as it rests
pub record RestsAs (number : ℕ) (order : Order) (entry : Row) (rows : List Priced) : Type 0 where
  pub x : Priced
  pub is : row_of_order number rows ≡ Some x
  pub row : x.row ≡ row_by_now order entry
  pub of : entry.order ≡ number
  pub rests : Rests entry rows

pub rests_as : (number : ℕ) (entry : Row) (order : Order) (entered : List (Option Row)) (orders : List Order) (rows : List Priced) → AreEntered entered orders rows
    → slice_get orders number ≡ Some order → IsRowIfLive orders entered number (Some entry) → RestsAs number order entry rows
rests_as number entry order entered orders rows are at live =
    let r = live_rests number entry order entered orders rows are at live in
    let less : nat_lt order.cum order.quantity ≡ true = let more = r.2.more in grind (arith, nat_tests) in
    let left : row_left order (Some entry) ≡ Some (row_by_now order entry) = rw less refl in
    let here = row_there number rows (row_by_now order entry) (are.each number order (Some entry) at (live.live order at r.2.more) ∙ left) in
    record { x = here.x; is = here.is; row = here.row_is; of = r.2.order; rests = r.2.rests }

-- an order that is not live has none
pub none_rests : (number : ℕ) (order : Order) (entered : List (Option Row)) (orders : List Order) (rows : List Priced) → AreEntered entered orders rows
    → slice_get orders number ≡ Some order → IsRowIfLive orders entered number None → row_of_order number rows ≡ None
none_rests number order entered orders rows are at live =
    elim (less_or_not order.cum order.quantity) [
      | inl more ↦
          let less : nat_lt order.cum order.quantity ≡ true = grind (arith, nat_tests) in
          let left : row_left order None ≡ None = rw less refl in
          none_there number rows (are.each number order None at (live.live order at more) ∙ left)
      | inr filled ↦
          let within = at_within orders number order at in
          let entry = has_at entered number (omega (arith, are.count)) in
          let less : nat_lt order.cum order.quantity ≡ false = grind (arith, nat_tests) in
          let left : row_left order entry.x ≡ None = rw less refl in
          none_there number rows (are.each number order entry.x at entry.is ∙ left)
    ]

-- what is found of a live order that an id names
pub found_live : (member : ℕ) (id : List ℕ) (entered : List (Option Row)) (orders : List Order) (rows : List Priced) (number : ℕ) (row : Row) → AreEntered entered orders rows
    → IsNumber member id orders (order_named member id orders) (Some number) → IsRowIfLive orders entered number (Some row) → IsFound orders rows (live_named member id orders rows) (Some (record { number = number; row = row }))
unfolding live_named
found_live member id entered orders rows number row are named live =
    let r = live_rests number row named.order entered orders rows are named.at live in
    (record { number = number; order = named.order; row = r.0 }, rw (named.is, r.1) refl, r.2)

pub none_found : (member : ℕ) (id : List ℕ) (entered : List (Option Row)) (orders : List Order) (rows : List Priced) (number : ℕ) → AreEntered entered orders rows
    → IsNumber member id orders (order_named member id orders) (Some number) → IsRowIfLive orders entered number None → live_named member id orders rows ≡ None
unfolding live_named
none_found member id entered orders rows number are named live =
    rw (named.is, none_rests number named.order entered orders rows are named.at live) refl

pub none_named : (member : ℕ) (id : List ℕ) (orders : List Order) (rows : List Priced) → order_named member id orders ≡ None → live_named member id orders rows ≡ None
unfolding live_named
none_named member id orders rows e = rw e refl

-- rows of which one is found are some
pub some_rest : (number : ℕ) (rows : List Priced) (x : Priced) → row_of_order number rows ≡ Some x → 0 < length rows
unfolding row_of_order
some_rest number [] x e = cc
some_rest number (y ∷ ys) x e = omega arith
