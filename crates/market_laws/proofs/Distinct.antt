-- Lists without a double, and names that are used up.
use Rattle.std.proofs.Common.{◌≡◌, ℕ, zero, suc, ◌+◌, Bool, true, false, cond, ◌&&◌, ◌||◌, List, [], ◌∷◌, ◌++◌, Option, Some, refl, ap, sym, ◌∙◌, subst, arith}
use Rattle.std.specs.Prelude.{find, map, option_map, slice_get, ◌==◌}
use Rattle.std.specs.List.{AllByRecursion, list_any, enumerate_from}
use Rattle.std.specs.Str.{bytes_eq}
use Rattle.std.proofs.lemmas.Bool.Decides.{Decides-eqb}
use Rattle.std.proofs.lemmas.List.Folds.{list_any-append}
use Rattle.std.proofs.lemmas.Option.{slice_get-map}
use Rattle.std.proofs.lemmas.Slice.Eq.{bytes_eq-Decides}
use Rattle.venue_words.specs.ListLaws.{all_weaken, all_append}
use Rattle.eager_meaning.specs.declared.order.Order.{Order}
use Rattle.eager_meaning.specs.Orders.{changed_at, is_named, order_named, is_used}
use Rattle.market_laws.specs.Names.{Name, name_of}
use Rattle.market_laws.specs.ChangedLaws.{changed_next}

-- ---- lists without a double

-- an element is none of a list's
abbrev pub IsOther : {A : Type 0} → A → List A → Type 0
IsOther x ys = AllByRecursion (λ y. y ≡ x → ⊥) ys

-- no element stands twice
abbrev pub AreDistinct : {A : Type 0} → List A → Type 0
AreDistinct [] = Unit {0}
AreDistinct (x ∷ xs) = IsOther x xs × AreDistinct xs

pub distinct_append : {A : Type 0} (xs : List A) (y : A) → AreDistinct xs → IsOther y xs → AreDistinct (xs ++ y ∷ [])
distinct_append [] y d o = (tt, tt)
distinct_append (x ∷ xs) y d o = (all_append (λ z. z ≡ x → ⊥) xs (y ∷ []) d.0 ((λ e. o.0 (sym e)), tt), distinct_append xs y d.1 o.1)

-- the list with another element in one place
abbrev pub put_at : {A : Type 0} → A → ℕ → List A → List A
put_at x k xs = changed_at (λ old. x) k xs

other_put : {A : Type 0} (x y : A) (k : ℕ) (xs : List A) → (y ≡ x → ⊥) → IsOther x xs → IsOther x (put_at y k xs)
other_put x y k [] d o = tt
other_put x y zero (z ∷ zs) d o = (d, o.1)
other_put x y (suc k) (z ∷ zs) d o = rw (changed_next (λ old. y) k z zs) (o.0, other_put x y k zs d o.1)

pub distinct_put : {A : Type 0} (y : A) (k : ℕ) (xs : List A) → AreDistinct xs → IsOther y xs → AreDistinct (put_at y k xs)
distinct_put y k [] d o = tt
distinct_put y zero (x ∷ xs) d o = (o.1, d.1)
distinct_put y (suc k) (x ∷ xs) d o = rw (changed_next (λ old. y) k x xs) (other_put x y k xs (λ e. o.0 (sym e)) d.0, distinct_put y k xs d.1 o.1)

pub all_put : {A : Type 0} (P : A → Type 0) (y : A) (k : ℕ) (xs : List A) → P y → AllByRecursion P xs → AllByRecursion P (put_at y k xs)
all_put P y k [] p a = tt
all_put P y zero (x ∷ xs) p a = (p, a.1)
all_put P y (suc k) (x ∷ xs) p a = rw (changed_next (λ old. y) k x xs) (a.0, all_put P y k xs p a.1)

pub map_put : {A B : Type 0} (g : A → B) (f : A → A) (k : ℕ) (xs : List A) (x : A) → slice_get xs k ≡ Some x → map g (changed_at f k xs) ≡ put_at (g (f x)) k (map g xs)
map_put g f k [] x h = cc
map_put g f zero (y ∷ ys) x h = let same : y ≡ x = cc in ap (λ z. g (f z) ∷ map g ys) same
map_put g f (suc k) (y ∷ ys) x h = rw (changed_next f k y ys, changed_next (λ old. g (f x)) k (g y) (map g ys)) (ap (λ zs. g y ∷ zs) (map_put g f k ys x h))

-- a change that keeps what is seen of each element
pub map_kept : {A B : Type 0} (g : A → B) (f : A → A) → ((x : A) → g (f x) ≡ g x) → (k : ℕ) (xs : List A) → map g (changed_at f k xs) ≡ map g xs
map_kept g f h k [] = refl
map_kept g f h zero (x ∷ xs) = ap (λ y. y ∷ map g xs) (h x)
map_kept g f h (suc k) (x ∷ xs) = rw (changed_next f k x xs) (ap (λ ys. g x ∷ ys) (map_kept g f h k xs))

pub all_get : {A : Type 0} (P : A → Type 0) (xs : List A) → AllByRecursion P xs → (k : ℕ) (x : A) → slice_get xs k ≡ Some x → P x
all_get P [] a k x h = cc
all_get P (y ∷ ys) a zero x h = let same : y ≡ x = cc in subst P same a.0
all_get P (y ∷ ys) a (suc k) x h = all_get P ys a.1 k x h

-- so an element has one place
pub one_place : {A : Type 0} (xs : List A) → AreDistinct xs → (j k : ℕ) (x : A) → slice_get xs j ≡ Some x → slice_get xs k ≡ Some x → j ≡ k
one_place [] d j k x h g = cc
one_place (y ∷ ys) d zero zero x h g = refl
one_place (y ∷ ys) d zero (suc k) x h g = let same : y ≡ x = cc in absurd (all_get (λ z. z ≡ y → ⊥) ys d.0 k x g (sym same))
one_place (y ∷ ys) d (suc j) zero x h g = let same : y ≡ x = cc in absurd (all_get (λ z. z ≡ y → ⊥) ys d.0 j x h (sym same))
one_place (y ∷ ys) d (suc j) (suc k) x h g = ap suc (one_place ys d.1 j k x h g)

-- ---- names that are used up

-- whether a name is a member's identifier
abbrev is_name : ℕ → List ℕ → Name → Bool
is_name member id name = (name.0 == member) && bytes_eq name.1 id

abbrev pub name_with : ℕ → List ℕ → Name
name_with member id = (member, id)

name_is : (member : ℕ) (id : List ℕ) (name : Name) → is_name member id name ≡ true → name ≡ (member, id)
name_is member id name h = both (name.0 == member) (bytes_eq name.1 id) refl refl h where
  pair : name.0 ≡ member → name.1 ≡ id → name ≡ (member, id)
  pair e f = ap (λ (m : ℕ). name_with m name.1) e ∙ ap (λ (i : List ℕ). name_with member i) f

  both : (a b : Bool) → (name.0 == member) ≡ a → bytes_eq name.1 id ≡ b → (a && b) ≡ true → name ≡ (member, id)
  both true true e f g = pair ((Decides-eqb name.0 member).0 e) ((bytes_eq-Decides name.1 id).0 f)
  both true false e f g = cc
  both false b e f g = cc

own_name : (member : ℕ) (id : List ℕ) → is_name member id (member, id) ≡ true
own_name member id =
    let number : (member == member) ≡ true = (Decides-eqb member member).1 refl in
    let bytes : bytes_eq id id ≡ true = (bytes_eq-Decides id id).1 refl in
    rw (number, bytes) refl

-- a name that is used up
abbrev pub IsUsed : List Name → Name → Type 0
IsUsed used name = is_used name.0 name.1 used ≡ true

-- the names used up are others than one that is not
pub unused_differs : (member : ℕ) (id : List ℕ) (used : List Name) → is_used member id used ≡ false → IsOther (member, id) used
unfolding is_used
unused_differs member id [] h = tt
unused_differs member id (name ∷ names) h =
    (elim (is_name member id name) as (λ b. is_name member id name ≡ b → (b || list_any (is_name member id) names) ≡ false → IsOther (member, id) (name ∷ names)) [
      | true ↦ λ e g. cc
      | false ↦ λ e g. ((λ same. let own = subst (λ (n : Name). is_name member id n ≡ true) (sym same) (own_name member id) in cc), unused_differs member id names g)
    ]) refl h

-- and so are all that are used up
pub used_differ : (member : ℕ) (id : List ℕ) (used names : List Name) → is_used member id used ≡ false → AllByRecursion (IsUsed used) names → IsOther (member, id) names
used_differ member id used names h a =
    all_weaken (IsUsed used) (λ name. name ≡ (member, id) → ⊥) (λ name u same. let own = subst (λ (n : Name). is_used n.0 n.1 used ≡ true) same u in let both = sym own ∙ h in cc) names a

or_true : (a b : Bool) → a ≡ true → (a || b) ≡ true
or_true a b e = rw e refl

pub still_used : (used : List Name) (more : Name) (name : Name) → IsUsed used name → IsUsed (used ++ more ∷ []) name
unfolding is_used
still_used used more name u = list_any-append (is_name name.0 name.1) used (more ∷ []) ∙ or_true _ _ u

last_true : (a b : Bool) → b ≡ true → (a || (b || false)) ≡ true
last_true true b e = refl
last_true false b e = rw e refl

pub last_used : (used : List Name) (name : Name) → IsUsed (used ++ name ∷ []) name
unfolding is_used
last_used used name = list_any-append (is_name name.0 name.1) used (name ∷ []) ∙ last_true (list_any (is_name name.0 name.1) used) (is_name name.0 name.1 name) (own_name name.0 name.1)

-- ---- orders by their names

-- the names of orders
abbrev pub names : List Order → List Name
names orders = map name_of orders

pub name_at : (orders : List Order) (k : ℕ) (order : Order) → slice_get orders k ≡ Some order → slice_get (names orders) k ≡ Some (name_of order)
name_at orders k order h = slice_get-map name_of orders k ∙ ap (option_map name_of) h

abbrev numbered : ℕ → Order → Option (ℕ × Order)
numbered number order = Some (number, order)

name_found : (member : ℕ) (id : List ℕ) (from : ℕ) (orders : List Order) → AreDistinct (names orders) → (k : ℕ) (order : Order) → slice_get orders k ≡ Some order → name_of order ≡ (member, id)
    → find (λ found. is_named member id found.1) (enumerate_from from orders) ≡ Some (from + k, order)
name_found member id from [] d k order h e = cc
name_found member id from (o ∷ os) d zero order h e =
    let same : o ≡ order = cc in
    let is : is_named member id o ≡ true = subst (λ (n : Name). is_name member id n ≡ true) (sym (ap name_of same ∙ e)) (own_name member id) in
    let number : from ≡ from + 0 = omega arith in
    rw is (ap (λ (n : ℕ). numbered n o) number ∙ ap (λ (x : Order). numbered (from + 0) x) same)
name_found member id from (o ∷ os) d (suc k) order h e =
    let other : name_of o ≡ (member, id) → ⊥ = λ same. all_get (λ n. n ≡ name_of o → ⊥) (names os) d.0 k (name_of order) (name_at os k order h) (e ∙ sym same) in
    let more = name_found member id (from + 1) os d.1 k order h e in
    let number : from + 1 + k ≡ from + suc k = omega arith in
    (elim (is_named member id o) as (λ b. is_named member id o ≡ b → cond b (Some (from, o)) (find (λ found. is_named member id found.1) (enumerate_from (from + 1) os)) ≡ Some (from + suc k, order)) [
      | true ↦ λ is. absurd (other (name_is member id (name_of o) is))
      | false ↦ λ is. more ∙ ap (λ (n : ℕ). numbered n order) number
    ]) refl

-- each order is found by its name
pub found_by_name : (orders : List Order) → AreDistinct (names orders) → (k : ℕ) (order : Order) → slice_get orders k ≡ Some order → order_named order.member order.id orders ≡ Some (k, order)
unfolding order_named
found_by_name orders d k order h =
    let number : 0 + k ≡ k = omega arith in
    name_found order.member order.id 0 orders d k order h refl ∙ ap (λ (n : ℕ). numbered n order) number
