-- Desks that are worked one after the other, beside what they stand for.
use Rattle.std.proofs.Common.{◌≡◌, ℕ, zero, suc, ◌+◌, ◌<◌, List, [], ◌∷◌, ◌++◌, length, map, take, drop, get_or, refl, sym, ◌∙◌, ap, subst, append-nil, append_assoc, add-one, arith, ◌≤◌, slice_get, unwrap_or}
use Rattle.std.proofs.lemmas.List.{take_all, drop_all}
use Rattle.std.proofs.Math.ListN.{set}
use Rattle.std.specs.List.{AllZip, flat_map, range_with_len}

-- the desk of a place was worked, and so was its member
pub zip_step : {D M : Type 0} (R : D → M → Type 0) (f : M → M) (ds : List D) (ms : List M) (i : ℕ) (d e : D)
    → i < length ds → d ≡ get_or ds i d → ((m : M) → R d m → R e (f m))
    → AllZip R ds (map f (take i ms) ++ drop i ms) → AllZip R (set ds i e) (map f (take (suc i) ms) ++ drop (suc i) ms)
zip_step R f [] ms i d e l at k h = absurd (omega arith)
zip_step R f (d0 ∷ ds) [] zero d e l at k h = absurd h
zip_step R f (d0 ∷ ds) (m ∷ ms) zero d e l at k h = (k m (subst (λ (x : _). R x m) (sym at) h.0), h.1)
zip_step R f (d0 ∷ ds) [] (suc i) d e l at k h = absurd h
zip_step R f (d0 ∷ ds) (m ∷ ms) (suc i) d e l at k h = (h.0, zip_step R f ds ms i d e (omega arith) at k h.1)

-- the texts of the members up to a place, and that of the next one
pub record Texts {D M : Type 0} (R : D → M → Type 0) (g : M → List ℕ) (d : D) (before after : List M) : Type 0 where
  pub member : M
  pub related : R d member
  pub text : flat_map g after ≡ flat_map g before ++ g member

texts_more : {D M : Type 0} (R : D → M → Type 0) (g : M → List ℕ) (d : D) (m : M) (before after : List M)
    → Texts R g d before after → Texts R g d (m ∷ before) (m ∷ after)
texts_more R g d m before after x = record {
  member = x.member;
  related = x.related;
  text = ap (λ (t : List ℕ). g m ++ t) x.text ∙ sym (append_assoc (g m) (flat_map g before) (g x.member));
}

pub text_step : {D M : Type 0} (R : D → M → Type 0) (f : M → M) (g : M → List ℕ) (ds : List D) (ms : List M) (i : ℕ) (d : D)
    → i < length ds → d ≡ get_or ds i d → AllZip R ds (map f (take i ms) ++ drop i ms) → Texts R g d (take i ms) (take (suc i) ms)
text_step R f g [] ms i d l at h = absurd (omega arith)
text_step R f g (d0 ∷ ds) [] zero d l at h = absurd h
text_step R f g (d0 ∷ ds) (m ∷ ms) zero d l at h = record {
  member = m;
  related = subst (λ (x : _). R x m) (sym at) h.0;
  text = append-nil (g m);
}
text_step R f g (d0 ∷ ds) [] (suc i) d l at h = absurd h
text_step R f g (d0 ∷ ds) (m ∷ ms) (suc i) d l at h =
    texts_more R g d m (take i ms) (take (suc i) ms) (text_step R f g ds ms i d (omega arith) at h.1)

-- what the work keeps of each desk
pub kept_step : {D A : Type 0} (n : D → A) (ds : List D) (i : ℕ) (d e : D) → d ≡ get_or ds i d → n e ≡ n d
    → map n (set ds i e) ≡ map n ds
kept_step n [] i d e at k = refl
kept_step n (d0 ∷ ds) zero d e at k = ap (λ (x : _). x ∷ map n ds) (k ∙ ap n at)
kept_step n (d0 ∷ ds) (suc i) d e at k = ap (λ (xs : _). n d0 ∷ xs) (kept_step n ds i d e at k)

number_from : {D : Type 0} (n : D → ℕ) (a count : ℕ) (ds : List D) (i : ℕ) (d : D) → map n ds ≡ range_with_len a count
    → i < length ds → d ≡ get_or ds i d → n d ≡ a + i
number_from n a count [] i d h l at = absurd (omega arith)
number_from n a zero (d0 ∷ ds) i d h l at = absurd (cc)
number_from n a (suc count) (d0 ∷ ds) zero d h l at =
    let first : n d0 ≡ a = cc in
    let here : n d ≡ n d0 = ap n at in
    omega arith
number_from n a (suc count) (d0 ∷ ds) (suc i) d h l at =
    let rest : map n ds ≡ range_with_len (a + 1) count = cc in
    let more = number_from n (a + 1) count ds i d rest (omega arith) at in
    omega arith

-- the desk of a place has its number
pub number_at : {D : Type 0} (n : D → ℕ) (count : ℕ) (ds : List D) (i : ℕ) (d : D) → map n ds ≡ range_with_len 0 count
    → i < length ds → d ≡ get_or ds i d → n d ≡ i
number_at n count ds i d h l at = let e = number_from n 0 count ds i d h l at in omega arith

pub all_desks : {D : Type 0} (n : D → ℕ) (a count : ℕ) (ds : List D) → map n ds ≡ range_with_len a count → length ds ≡ count
all_desks n a zero [] h = refl
all_desks n a zero (d ∷ ds) h = absurd (cc)
all_desks n a (suc count) [] h = absurd (cc)
all_desks n a (suc count) (d ∷ ds) h =
    let rest : map n ds ≡ range_with_len (a + 1) count = cc in ap suc (all_desks n (a + 1) count ds rest)

-- ---- one loop step, and its end

pub zip_more : {D M : Type 0} (R : D → M → Type 0) (f : M → M) (ds : List D) (ms : List M) (i : ℕ) (d e : D)
    → i < length ds → d ≡ get_or ds i d → ((m : M) → R d m → R e (f m))
    → AllZip R ds (map f (take i ms) ++ drop i ms) → AllZip R (set ds i e) (map f (take (i + 1) ms) ++ drop (i + 1) ms)
zip_more R f ds ms i d e l at k h = rw add-one (zip_step R f ds ms i d e l at k h)

pub text_more : {D M : Type 0} (R : D → M → Type 0) (f : M → M) (g : M → List ℕ) (ds : List D) (ms : List M) (i : ℕ) (d : D)
    (start old new : List ℕ) → i < length ds → d ≡ get_or ds i d → ((m : M) → R d m → new ≡ old ++ g m)
    → AllZip R ds (map f (take i ms) ++ drop i ms) → old ≡ start ++ flat_map g (take i ms)
    → new ≡ start ++ flat_map g (take (i + 1) ms)
text_more R f g ds ms i d start old new l at k h e =
    let t = text_step R f g ds ms i d l at h in
    rw add-one (k t.member t.related ∙ ap (λ (xs : List ℕ). xs ++ g t.member) e
    ∙ append_assoc start (flat_map g (take i ms)) (g t.member) ∙ ap (λ (xs : List ℕ). start ++ xs) (sym t.text))

pub zip_all : {D M : Type 0} (R : D → M → Type 0) (f : M → M) (ds : List D) (ms : List M) (n : ℕ) → length ms ≤ n
    → AllZip R ds (map f (take n ms) ++ drop n ms) → AllZip R ds (map f ms)
zip_all R f ds ms n l h = rw append-nil at (rw (take_all n ms l, drop_all n ms l) at h)

pub text_all : {M : Type 0} (g : M → List ℕ) (ms : List M) (n : ℕ) (start new : List ℕ) → length ms ≤ n
    → new ≡ start ++ flat_map g (take n ms) → new ≡ start ++ flat_map g ms
text_all g ms n start new l h = rw (take_all n ms l) at h

-- a desk read twice at its place
pub read_twice : {D : Type 0} (ds : List D) (i : ℕ) (d : D) → d ≡ get_or ds i d → get_or ds i d ≡ get_or ds i (get_or ds i d)
read_twice ds i d h = ap (λ (x : _). get_or ds i x) h

-- ---- one place of both lists

pub zip_set : {D M : Type 0} (R : D → M → Type 0) (ds : List D) (ms : List M) (i : ℕ) (e : D) (m : M) → R e m
    → AllZip R ds ms → AllZip R (set ds i e) (set ms i m)
zip_set R [] [] i e m r h = tt
zip_set R [] (m0 ∷ ms) i e m r h = absurd h
zip_set R (d0 ∷ ds) [] i e m r h = absurd h
zip_set R (d0 ∷ ds) (m0 ∷ ms) zero e m r h = (r, h.1)
zip_set R (d0 ∷ ds) (m0 ∷ ms) (suc i) e m r h = (h.0, zip_set R ds ms i e m r h.1)

pub zip_at : {D M : Type 0} (R : D → M → Type 0) (ds : List D) (ms : List M) (i : ℕ) (d : D) (m : M) → i < length ds
    → d ≡ get_or ds i d → AllZip R ds ms → R d (unwrap_or (slice_get ms i) m)
zip_at R [] ms i d m l at h = absurd (omega arith)
zip_at R (d0 ∷ ds) [] i d m l at h = absurd h
zip_at R (d0 ∷ ds) (m0 ∷ ms) zero d m l at h = subst (λ (x : _). R x m0) (sym at) h.0
zip_at R (d0 ∷ ds) (m0 ∷ ms) (suc i) d m l at h = zip_at R ds ms i d m (omega arith) at h.1
