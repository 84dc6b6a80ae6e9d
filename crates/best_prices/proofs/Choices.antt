-- The choice among several prices, after one of them has changed.
use Rattle.std.proofs.Common.{◌≡◌, ℕ, zero, suc, ◌<◌, min, max, List, [], ◌∷◌, length, get_or, set, Option, Some, None, ◌⊎◌, inl, inr, refl, sym, ◌∙◌, ap, arith}
use Rattle.std.specs.Prelude.{fold}
use Rattle.std.proofs.lemmas.Bool.{cases_lt}
use Rattle.venue_words.specs.Best.{either_by}

-- a choice of one of two prices that may be missing
pub record IsChoice (op : Option ℕ → Option ℕ → Option ℕ) : Type 0 where
  pub none : (x : Option ℕ) → op None x ≡ x
  pub joins : (x y z : Option ℕ) → op (op x y) z ≡ op x (op y z)
  pub swaps : (x y : Option ℕ) → op x y ≡ op y x
  pub picks : (x y : Option ℕ) → (op x y ≡ x) ⊎ (op x y ≡ y)

-- the choice among all
abbrev all : (op : Option ℕ → Option ℕ → Option ℕ) → List (Option ℕ) → Option ℕ
all op xs = fold op None xs

same : (op : Option ℕ → Option ℕ → Option ℕ) → IsChoice op → (x : Option ℕ) → op x x ≡ x
same op c x = elim (c.picks x x) [ inl e ↦ e | inr e ↦ e ]

fold_from : (op : Option ℕ → Option ℕ → Option ℕ) → IsChoice op → (a : Option ℕ) (xs : List (Option ℕ)) → fold op a xs ≡ op a (all op xs)
fold_from op c a [] = sym (c.swaps a None ∙ c.none a)
fold_from op c a (x ∷ xs) =
    fold_from op c (op a x) xs ∙ c.joins a x (all op xs) ∙ ap (op a) (sym (fold_from op c x xs) ∙ ap (λ (b : Option ℕ). fold op b xs) (sym (c.none x)))

-- the first against the others
all_more : (op : Option ℕ → Option ℕ → Option ℕ) → IsChoice op → (x : Option ℕ) (xs : List (Option ℕ)) → all op (x ∷ xs) ≡ op x (all op xs)
all_more op c x xs = ap (λ (b : Option ℕ). fold op b xs) (c.none x) ∙ fold_from op c x xs

-- what is chosen before a choice is chosen before each of its parts
before_second : (op : Option ℕ → Option ℕ → Option ℕ) → IsChoice op → (m x z : Option ℕ) → op m (op x z) ≡ m → op m z ≡ m
before_second op c m x z h =
    ap (λ (b : Option ℕ). op b z) (sym h) ∙ c.joins m (op x z) z ∙ ap (op m) (c.joins x z z ∙ ap (op x) (same op c z)) ∙ h

before_first : (op : Option ℕ → Option ℕ → Option ℕ) → IsChoice op → (m x z : Option ℕ) → op m (op x z) ≡ m → op m x ≡ m
before_first op c m x z h = before_second op c m z x (ap (op m) (c.swaps z x) ∙ h)

-- what is chosen before all and before the new one is chosen before all that are there then
stays_before : (op : Option ℕ → Option ℕ → Option ℕ) → IsChoice op → (m y : Option ℕ) (xs : List (Option ℕ)) (i : ℕ) → op m (all op xs) ≡ m → op m y ≡ m → op m (all op (set xs i y)) ≡ m
stays_before op c m y [] i h k = h
stays_before op c m y (x ∷ xs) zero h k =
    let rest : op m (all op xs) ≡ m = before_second op c m x (all op xs) (ap (op m) (sym (all_more op c x xs)) ∙ h) in
    ap (op m) (all_more op c y xs) ∙ sym (c.joins m y (all op xs)) ∙ ap (λ (b : Option ℕ). op b (all op xs)) k ∙ rest
stays_before op c m y (x ∷ xs) (suc i) h k =
    let both : op m (op x (all op xs)) ≡ m = ap (op m) (sym (all_more op c x xs)) ∙ h in
    let first : op m x ≡ m = before_first op c m x (all op xs) both in
    let rest : op m (all op xs) ≡ m = before_second op c m x (all op xs) both in
    ap (op m) (all_more op c x (set xs i y)) ∙ sym (c.joins m x (all op (set xs i y))) ∙ ap (λ (b : Option ℕ). op b (all op (set xs i y))) first
    ∙ stays_before op c m y xs i rest k

-- a new one that is chosen before all is the choice then
pub set_wins : (op : Option ℕ → Option ℕ → Option ℕ) → IsChoice op → (y : Option ℕ) (xs : List (Option ℕ)) (i : ℕ) → i < length xs → op (all op xs) y ≡ y → all op (set xs i y) ≡ y
set_wins op c y [] i l h = absurd (omega arith)
set_wins op c y (x ∷ xs) zero l h =
    all_more op c y xs ∙ before_second op c y x (all op xs) (ap (op y) (sym (all_more op c x xs)) ∙ c.swaps y (all op (x ∷ xs)) ∙ h)
set_wins op c y (x ∷ xs) (suc i) l h =
    let both : op y (op x (all op xs)) ≡ y = ap (op y) (sym (all_more op c x xs)) ∙ c.swaps y (all op (x ∷ xs)) ∙ h in
    let rest : op (all op xs) y ≡ y = c.swaps (all op xs) y ∙ before_second op c y x (all op xs) both in
    all_more op c x (set xs i y) ∙ ap (op x) (set_wins op c y xs i (omega arith) rest) ∙ c.swaps x y ∙ before_first op c y x (all op xs) both

-- the choice stays where the new one is not chosen before it, and another one was replaced
pub set_loses : (op : Option ℕ → Option ℕ → Option ℕ) → IsChoice op → (y : Option ℕ) (xs : List (Option ℕ)) (i : ℕ) → (get_or xs i None ≡ all op xs → ⊥) → op (all op xs) y ≡ all op xs → all op (set xs i y) ≡ all op xs
set_loses op c y [] i other h = refl
set_loses op c y (x ∷ xs) zero other h =
    elim (c.picks x (all op xs)) [
      | inl e ↦ absurd (other (sym (all_more op c x xs ∙ e)))
      | inr e ↦
          let is : all op (x ∷ xs) ≡ all op xs = all_more op c x xs ∙ e in
          let loses : op (all op xs) y ≡ all op xs = ap (λ (b : Option ℕ). op b y) (sym is) ∙ h ∙ is in
          all_more op c y xs ∙ c.swaps y (all op xs) ∙ loses ∙ sym is
    ]
set_loses op c y (x ∷ xs) (suc i) other h =
    elim (c.picks x (all op xs)) [
      | inl e ↦
          let is : all op (x ∷ xs) ≡ x = all_more op c x xs ∙ e in
          let loses : op x y ≡ x = ap (λ (b : Option ℕ). op b y) (sym is) ∙ h ∙ is in
          all_more op c x (set xs i y) ∙ stays_before op c x y xs i e loses ∙ sym is
      | inr e ↦
          let is : all op (x ∷ xs) ≡ all op xs = all_more op c x xs ∙ e in
          let loses : op (all op xs) y ≡ all op xs = ap (λ (b : Option ℕ). op b y) (sym is) ∙ h ∙ is in
          all_more op c x (set xs i y) ∙ ap (op x) (set_loses op c y xs i (λ f. other (f ∙ sym is)) loses) ∙ sym (all_more op c x xs)
    ]

max_joins : (x y z : Option ℕ) → either_by max (either_by max x y) z ≡ either_by max x (either_by max y z)
max_joins None y z = refl
max_joins (Some x) None z = refl
max_joins (Some x) (Some y) None = refl
max_joins (Some x) (Some y) (Some z) = ap Some (omega arith)

max_swaps : (x y : Option ℕ) → either_by max x y ≡ either_by max y x
max_swaps None None = refl
max_swaps None (Some y) = refl
max_swaps (Some x) None = refl
max_swaps (Some x) (Some y) = ap Some (omega arith)

max_picks : (x y : Option ℕ) → (either_by max x y ≡ x) ⊎ (either_by max x y ≡ y)
max_picks None y = inr refl
max_picks (Some x) None = inl refl
max_picks (Some x) (Some y) = elim (cases_lt x y) [ inl h ↦ inr (ap Some (omega arith)) | inr h ↦ inl (ap Some (omega arith)) ]

pub max_choice : IsChoice (either_by max)
max_choice = record { none = λ x. refl; joins = max_joins; swaps = max_swaps; picks = max_picks }

min_joins : (x y z : Option ℕ) → either_by min (either_by min x y) z ≡ either_by min x (either_by min y z)
min_joins None y z = refl
min_joins (Some x) None z = refl
min_joins (Some x) (Some y) None = refl
min_joins (Some x) (Some y) (Some z) = ap Some (omega arith)

min_swaps : (x y : Option ℕ) → either_by min x y ≡ either_by min y x
min_swaps None None = refl
min_swaps None (Some y) = refl
min_swaps (Some x) None = refl
min_swaps (Some x) (Some y) = ap Some (omega arith)

min_picks : (x y : Option ℕ) → (either_by min x y ≡ x) ⊎ (either_by min x y ≡ y)
min_picks None y = inr refl
min_picks (Some x) None = inl refl
min_picks (Some x) (Some y) = elim (cases_lt x y) [ inl h ↦ inl (ap Some (omega arith)) | inr h ↦ inr (ap Some (omega arith)) ]

pub min_choice : IsChoice (either_by min)
min_choice = record { none = λ x. refl; joins = min_joins; swaps = min_swaps; picks = min_picks }
