-- Facts of an answer that are put together.
use Rattle.std.proofs.Common.{Result, Ok, Err, IfOk, IfErr, OnOk, OnErr}

module _ {A E : Type 0} where
  pub map_ok : (r : Result A E) (P Q : A → Type 0) → ((a : A) → P a → Q a) → IfOk r P → IfOk r Q
  map_ok (Ok a) P Q f h = f a h
  map_ok (Err e) P Q f h = h

  pub ok_both : (r : Result A E) (P Q R : A → Type 0) → ((a : A) → P a → Q a → R a) → IfOk r P → IfOk r Q → IfOk r R
  ok_both (Ok a) P Q R f p q = f a p q
  ok_both (Err e) P Q R f p q = p

  pub map_err : (r : Result A E) (P Q : E → Type 0) → ((e : E) → P e → Q e) → IfErr r P → IfErr r Q
  map_err (Ok a) P Q f h = h
  map_err (Err e) P Q f h = f e h

  pub on_ok : (r : Result A E) (X : Type 0) → X → OnOk r X
  on_ok (Ok a) X x = x
  on_ok (Err e) X x = tt

  pub on_err : (r : Result A E) (X : Type 0) → X → OnErr r X
  on_err (Ok a) X x = tt
  on_err (Err e) X x = x

  pub map_on_err : (r : Result A E) (X Y : Type 0) → (X → Y) → OnErr r X → OnErr r Y
  map_on_err (Ok a) X Y f x = x
  map_on_err (Err e) X Y f x = f x

  pub err_both : (r : Result A E) (X Y Z : Type 0) → (X → Y → Z) → OnErr r X → OnErr r Y → OnErr r Z
  err_both (Ok a) X Y Z f x y = x
  err_both (Err e) X Y Z f x y = f x y

  -- what follows from both kinds of answer
  pub either_way : (r : Result A E) (P : A → Type 0) (X Y : Type 0) → ((a : A) → P a → Y) → (X → Y) → IfOk r P → OnErr r X → Y
  either_way (Ok a) P X Y f g p x = f a p
  either_way (Err e) P X Y f g p x = g x

  -- what an error says, where the same holds at each error
  pub err_with : (r : Result A E) (P Q : E → Type 0) (X : Type 0) → ((e : E) → P e → X → Q e) → IfErr r P → OnErr r X → IfErr r Q
  err_with (Ok a) P Q X f p x = p
  err_with (Err e) P Q X f p x = f e p x
