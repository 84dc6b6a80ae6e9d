-- Where the group of a key stands.
use Rattle.std.proofs.Common.{◌≡◌, ℕ, zero, suc, ◌<◌, Bool, true, false, List, [], ◌∷◌, length, get_or, Option, Some, None, refl, ap, sym, ◌∙◌, arith, is_some, slice_get, cond, ◌++◌, inl, inr}
use Rattle.std.proofs.lemmas.Bool.{both_ways}
use Rattle.std.proofs.lemmas.Map.Entries.{lookup_head, lookup_tail}
use Rattle.std.proofs.lemmas.List.Quantifiers.{position-Some}
use Rattle.std.specs.Map.{lookup, keys_of, values_of}
use Rattle.std.specs.Option.{MatchOption}
use Rattle.indexmap.specs.IndexMap.{insert_entry}
use Rattle.peg_groups.proofs.GroupSteps.{has_found}
use Rattle.std.specs.List.{position}
use Rattle.venue_words.specs.declared.row.Key.{Key}
use Rattle.peg_groups.specs.Groups.{EachGroup, HasGroup, HasMoves}
use Rattle.peg_groups.specs.declared.group.Group.{Group}

-- no key passes a test that this key passes
pub none_there : (test : Key → Bool) (key : Key) → test key ≡ true → (entries : List (Key × Group)) → false ≡ is_some (lookup test entries) → EachGroup (λ k _. k ≡ key → ⊥) entries
none_there test key t [] h = tt
none_there test key t (e ∷ es) h =
    (elim (test e.0) as (λ v. test e.0 ≡ v → EachGroup (λ k _. k ≡ key → ⊥) (e ∷ es)) [
      | true ↦ λ p. absurd (both_ways _ (sym h) (ap is_some (lookup_head test e es p)))
      | false ↦ λ p. ((λ same. both_ways _ p (ap test same ∙ t)), none_there test key t es (h ∙ ap is_some (lookup_tail test e es p)))
    ] refl)

at_place : (key : Key) (entries : List (Key × Group)) (i : ℕ) → i < length (keys_of entries) → get_or (keys_of entries) i key ≡ key → (group : Group) × (slice_get entries i ≡ Some (key, group))
at_place key [] i h k = absurd (omega arith)
at_place key (e ∷ es) zero h k = (e.1, ap (λ (x : Key). Some (x, e.1)) k)
at_place key (e ∷ es) (suc i) h k = at_place key es i (omega arith) k

pub some_there : (eq : Key → Key → Bool) (key : Key) → ((a b : Key) → eq a b ≡ true → a ≡ b) → (entries : List (Key × Group)) (i : ℕ) → Some i ≡ position (eq key) (keys_of entries) → (group : Group) × (slice_get entries i ≡ Some (key, group))
some_there eq key sound entries i h =
    let p = position-Some (eq key) (keys_of entries) i key (sym h) in
    at_place key entries i p.0 (sym (sound key (get_or (keys_of entries) i key) p.1))

pub found_has : (key : Key) (entries : List (Key × Group)) (o : Option ℕ) → MatchOption o (EachGroup (λ k _. k ≡ key → ⊥) entries) (λ i. (group : Group) × (slice_get entries i ≡ Some (key, group))) → is_some o ≡ true → HasGroup key entries
found_has key entries None f h = cc
found_has key entries (Some i) f h = (f.0.moves, has_found key entries i f.0 f.1)

pub found_none : (key : Key) (entries : List (Key × Group)) (o : Option ℕ) → MatchOption o (EachGroup (λ k _. k ≡ key → ⊥) entries) (λ i. (group : Group) × (slice_get entries i ≡ Some (key, group))) → is_some o ≡ false → EachGroup (λ k _. k ≡ key → ⊥) entries
found_none key entries None f h = f
found_none key entries (Some i) f h = cc

-- a new key goes last
pub insert_new : (eq : Key → Key → Bool) (key : Key) (group : Group) → ((a b : Key) → eq a b ≡ true → a ≡ b) → (entries : List (Key × Group)) → EachGroup (λ k _. k ≡ key → ⊥) entries → insert_entry eq entries key group ≡ entries ++ (key, group) ∷ []
insert_new eq key group sound [] a = refl
insert_new eq key group sound (e ∷ es) a =
    elim (eq key e.0) as (λ v. eq key e.0 ≡ v → cond v ((e.0, group) ∷ es) (e ∷ insert_entry eq es key group) ≡ e ∷ (es ++ (key, group) ∷ [])) [
      | true ↦ λ p. absurd (a.0 (sym (sound key e.0 p)))
      | false ↦ λ p. ap (λ (others : List (Key × Group)). e ∷ others) (insert_new eq key group sound es a.1)
    ] refl

pub has_last : (key : Key) (group : Group) (entries : List (Key × Group)) → HasMoves key group.moves (entries ++ (key, group) ∷ [])
has_last key group [] = inl (refl, refl)
has_last key group (e ∷ es) = inr (has_last key group es)

pub of_values : (entries : List (Key × Group)) (i : ℕ) (group : Group) → slice_get (values_of entries) i ≡ Some group → (key : Key) × (slice_get entries i ≡ Some (key, group))
of_values [] i group h = cc
of_values (e ∷ es) zero group h = let s : e.1 ≡ group = cc in (e.0, ap (λ (g : Group). Some (e.0, g)) s)
of_values (e ∷ es) (suc i) group h = of_values es i group h
