-- Groups that are changed one after another.
use Rattle.std.proofs.Common.{◌≡◌, ℕ, zero, suc, List, [], ◌∷◌, length, Some, refl, ap, arith, slice_get}
use Rattle.indexmap.specs.IndexMap.{set_value_at}
use Rattle.venue_words.specs.declared.row.Key.{Key}
use Rattle.peg_groups.specs.Groups.{EachGroup, EachUpTo, PairedBy, PairedUpTo}
use Rattle.peg_groups.specs.declared.group.Group.{Group}
use Rattle.peg_groups.proofs.GroupSteps.{there}

pub paired_at : (R : Key → Group → Group → Type 0) (n : ℕ) (olds news : List (Key × Group)) → PairedUpTo R n olds news → slice_get news n ≡ slice_get olds n
paired_at R zero olds news p = ap (λ (es : List (Key × Group)). slice_get es zero) p
paired_at R (suc n) [] news p = ap (λ (es : List (Key × Group)). slice_get es (suc n)) p
paired_at R (suc n) (o ∷ os) [] p = absurd p
paired_at R (suc n) (o ∷ os) (e ∷ es) p = paired_at R n os es p.2

set_first : (R : Key → Group → Group → Type 0) (olds : List (Key × Group)) (key : Key) (old new : Group) → slice_get olds zero ≡ Some (key, old) → R key old new → PairedUpTo R (suc zero) olds (set_value_at olds zero new)
set_first R [] key old new h r = refl
set_first R (o ∷ os) key old new h r = let t = there o h in (refl, rw (t.key_is, t.group_is) r, refl)

pub paired_more : (R : Key → Group → Group → Type 0) (n : ℕ) (olds news : List (Key × Group)) (key : Key) (old new : Group) → PairedUpTo R n olds news → slice_get news n ≡ Some (key, old) → R key old new → PairedUpTo R (suc n) olds (set_value_at news n new)
paired_more R zero olds news key old new p h r = rw p (set_first R olds key old new (rw p at h) r)
paired_more R (suc n) [] news key old new p h r = rw p refl
paired_more R (suc n) (o ∷ os) [] key old new p h r = absurd p
paired_more R (suc n) (o ∷ os) (e ∷ es) key old new p h r = (p.0, p.1, paired_more R n os es key old new p.2 h r)

pub paired_len : (R : Key → Group → Group → Type 0) (n : ℕ) (olds news : List (Key × Group)) → PairedUpTo R n olds news → length news ≡ length olds
paired_len R zero olds news p = ap length p
paired_len R (suc n) [] news p = ap length p
paired_len R (suc n) (o ∷ os) [] p = absurd p
paired_len R (suc n) (o ∷ os) (e ∷ es) p = ap suc (paired_len R n os es p.2)

pub paired_same : (R : Key → Group → Group → Type 0) → ((key : Key) → (group : Group) → R key group group) → (es : List (Key × Group)) → PairedBy R es es
paired_same R same [] = tt
paired_same R same (e ∷ es) = (refl, same e.0 e.1, paired_same R same es)

pub paired_all : (R : Key → Group → Group → Type 0) → ((key : Key) → (group : Group) → R key group group) → (n : ℕ) (olds news : List (Key × Group)) → PairedUpTo R n olds news → PairedBy R olds news
paired_all R same zero olds news p = rw p (paired_same R same olds)
paired_all R same (suc n) [] news p = rw p tt
paired_all R same (suc n) (o ∷ os) [] p = absurd p
paired_all R same (suc n) (o ∷ os) (e ∷ es) p = (p.0, p.1, paired_all R same n os es p.2)

pub paired_end : (R : Key → Group → Group → Type 0) (n : ℕ) (olds news : List (Key × Group)) → n ≡ length olds → PairedUpTo R n olds news → PairedBy R olds news
paired_end R zero [] news e p = rw p tt
paired_end R zero (o ∷ os) news e p = absurd (omega arith)
paired_end R (suc n) [] news e p = rw p tt
paired_end R (suc n) (o ∷ os) [] e p = absurd p
paired_end R (suc n) (o ∷ os) (x ∷ xs) e p = (p.0, p.1, paired_end R n os xs (omega arith) p.2)

pub each_at : (P : Key → Group → Type 0) (es : List (Key × Group)) (i : ℕ) (key : Key) (group : Group) → EachGroup P es → slice_get es i ≡ Some (key, group) → P key group
each_at P [] i key group a h = cc
each_at P (e ∷ es) zero key group a h = let t = there e h in rw (← t.key_is, ← t.group_is) a.0
each_at P (e ∷ es) (suc i) key group a h = each_at P es i key group a.1 h

-- a change of the next group leaves the first ones
pub upto_set : (P : Key → Group → Type 0) (n : ℕ) (es : List (Key × Group)) (new : Group) → EachUpTo P n es → EachUpTo P n (set_value_at es n new)
upto_set P zero es new a = tt
upto_set P (suc n) [] new a = tt
upto_set P (suc n) (e ∷ es) new a = (a.0, upto_set P n es new a.1)

pub at_set : (es : List (Key × Group)) (i : ℕ) (key : Key) (old new : Group) → slice_get es i ≡ Some (key, old) → slice_get (set_value_at es i new) i ≡ Some (key, new)
at_set [] i key old new h = cc
at_set (e ∷ es) zero key old new h = ap (λ (k : Key). Some (k, new)) (there e h).key_is
at_set (e ∷ es) (suc i) key old new h = at_set es i key old new h
