-- A line's member is noted.
use Rattle.std.proofs.Common.{◌≡◌, ℕ, ◌==◌, ◌||◌, Bool, true, false, cond, List, [], ◌∷◌, ◌++◌, None, Some, refl, sym, ◌∙◌, ap, arith}
use Rattle.std.proofs.lemmas.Bool.Decides.{nat_tests}
use Rattle.std.specs.List.{list_any, find}
use Rattle.feeds_core.specs.FeedLines.{or_else}
use Rattle.feeds_core.specs.Naming.{Notes, has_name, first_shared, naming_of}
use Rattle.feeds_core.specs.declared.naming.Naming.{Naming}
use Rattle.feeds_core.proofs.LineFaults.{or_none}

or_false : (b : Bool) → (b || false) ≡ b
or_false true = refl
or_false false = refl

pub or_assoc : (a b c : Bool) → ((a || b) || c) ≡ (a || (b || c))
or_assoc true b c = refl
or_assoc false b c = refl

find_more : (p : Naming → Bool) (xs : List Naming) (one : Naming)
    → find p (xs ++ one ∷ []) ≡ or_else (find p xs) (cond (p one) (Some one) None)
find_more p [] one = refl
find_more p (x ∷ xs) one = here (p x) (find_more p xs one)
  where
    here : (b : Bool) → find p (xs ++ one ∷ []) ≡ or_else (find p xs) (cond (p one) (Some one) None)
        → cond b (Some x) (find p (xs ++ one ∷ [])) ≡ or_else (cond b (Some x) (find p xs)) (cond (p one) (Some one) None)
    here true e = refl
    here false e = e

any_more : (p : Naming → Bool) (xs : List Naming) (one : Naming) → list_any p (xs ++ one ∷ []) ≡ (list_any p xs || p one)
any_more p [] one = or_false (p one)
any_more p (x ∷ xs) one = ap (λ (b : Bool). p x || b) (any_more p xs one) ∙ sym (or_assoc (p x) (list_any p xs) (p one))

-- a member is named for the first time
pub notes_new : (member line : ℕ) (old new : List Naming) → new ≡ old ++ record { member = member; line = line } ∷ []
    → Notes (Some member) line old new
notes_new member line old new e =
    let one : Naming = record { member = member; line = line } in record {
      first = λ taken. ap (first_shared taken) e ∙ find_more (λ (x : Naming). taken x.member) old one;
      names = λ other. ap (λ (xs : List Naming). has_name xs other) e ∙ any_more (λ (x : Naming). x.member == other) old one;
    }

-- ---- he was named before

equal_of : (a b : ℕ) → (a == b) ≡ true → a ≡ b
equal_of a b e = grind (arith, nat_tests)

found_in : (taken : ℕ → Bool) (x : Naming) (xs : List Naming) (member : ℕ) (a b : Bool) → taken x.member ≡ a → (x.member == member) ≡ b
    → taken member ≡ true → (has_name xs member ≡ true → (one : Naming) × (first_shared taken xs ≡ Some one))
    → (b || has_name xs member) ≡ true → (one : Naming) × (cond a (Some x) (first_shared taken xs) ≡ Some one)
found_in taken x xs member true b h k t rest f = (x, refl)
found_in taken x xs member false true h k t rest f =
    let same : taken x.member ≡ taken member = ap taken (equal_of x.member member k) in
    let no : false ≡ true = sym h ∙ same ∙ t in absurd (cc)
found_in taken x xs member false false h k t rest f = rest f

found : (taken : ℕ → Bool) (named : List Naming) (member : ℕ) → has_name named member ≡ true → taken member ≡ true
    → (one : Naming) × (first_shared taken named ≡ Some one)
found taken [] member e t = absurd (cc)
found taken (x ∷ xs) member e t =
    found_in taken x xs member (taken x.member) (x.member == member) refl refl t (λ f. found taken xs member f t) e

pub notes_old : (member line : ℕ) (named : List Naming) → has_name named member ≡ true → Notes (Some member) line named named
notes_old member line named e = record {
  first = λ taken. first taken (taken member) refl;
  names = λ other. again other (member == other) refl;
}
  where
    first : (taken : ℕ → Bool) (b : Bool) → taken member ≡ b
        → first_shared taken named ≡ or_else (first_shared taken named) (naming_of (Some member) line b)
    first taken false h = sym (or_none (first_shared taken named))
    first taken true h = let one = found taken named member e h in rw one.1 refl

    again : (other : ℕ) (b : Bool) → (member == other) ≡ b → has_name named other ≡ (has_name named other || b)
    again other false h = sym (or_false (has_name named other))
    again other true h =
        let same : has_name named other ≡ true = ap (has_name named) (sym (equal_of member other h)) ∙ e in
        rw same refl
