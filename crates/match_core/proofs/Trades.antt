-- A row after a trade, and rows that come back.
use Rattle.std.proofs.Common.{◌≡◌, ℕ, ◌-◌, ◌<◌, nat_lt, Bool, true, false, ◌||◌, cond, List, [], ◌∷◌, ◌++◌, filter, reverse, refl, ap, sym, ◌∙◌, arith, append_assoc, append-nil}
use Rattle.std.proofs.lemmas.Bool.{lt-ltb, le-ltb}
use Rattle.std.proofs.lemmas.List.{reverse-append}
use Rattle.venue_words.specs.declared.row.Row.{Row}
use Rattle.venue_words.specs.declared.row.Priced.{Priced}
use Rattle.venue_words.specs.Price.{crosses}
use Rattle.eager_meaning.specs.declared.trade.Take.{Take}
use Rattle.eager_meaning.specs.declared.trade.Fill.{Fill}
use Rattle.eager_meaning.specs.Walk.{walk, taken_from}
use Rattle.eager_meaning.specs.Matching.{row_after, fills_of, fill_of}
use Rattle.peg_groups.specs.declared.side_book.Taken.{Taken}
use Rattle.venue_words.specs.Rows.{IsAbsent, insert_by_entry}
use Rattle.peg_groups.specs.Merge.{each_insert}
use Rattle.peg_groups.specs.Side.{standing_of}
use Rattle.match_core.specs.Aside.{AreOut, put_filled_one}

or_false : (b : Bool) → (b || false) ≡ b
or_false true = refl
or_false false = refl

or_true : (b : Bool) → (b || true) ≡ true
or_true true = refl
or_true false = refl

pub row_after_none : (n : ℕ) (x : Priced) → n ≡ 0 → x ≡ row_after n x
unfolding row_after
row_after_none n x e =
    let l : x.row.leaves ≡ x.row.leaves - n = omega arith in
    let f : nat_lt 0 n ≡ false = le-ltb 0 n (omega arith) in
    let t : x.row.traded ≡ (x.row.traded || nat_lt 0 n) = sym (ap (λ (b : Bool). x.row.traded || b) f ∙ or_false x.row.traded) in
    λ i. record { row = record { order = x.row.order; member = x.row.member; key = x.row.key; cap = x.row.cap; entry = x.row.entry; leaves = l i; minimum = x.row.minimum; method = x.row.method; traded = t i }; value = x.value; time = x.time }

pub row_after_some : (n : ℕ) (x : Priced) (was row : Row) → 0 < n → was ≡ x.row → row ≡ record { order = was.order; member = was.member; key = was.key; cap = was.cap; entry = was.entry; leaves = was.leaves - n; minimum = was.minimum; method = was.method; traded = true } → ◌≡◌ {A = Priced} (record { row = row; value = x.value; time = x.time }) (row_after n x)
unfolding row_after
row_after_some n x was row h same e =
    let f : nat_lt 0 n ≡ true = lt-ltb 0 n h in
    let t : true ≡ (x.row.traded || nat_lt 0 n) = sym (ap (λ (b : Bool). x.row.traded || b) f ∙ or_true x.row.traded) in
    let r : row ≡ record { order = x.row.order; member = x.row.member; key = x.row.key; cap = x.row.cap; entry = x.row.entry; leaves = x.row.leaves - n; minimum = x.row.minimum; method = x.row.method; traded = true } = rw same at e in
    ap (λ (y : Row). record { row = y; value = x.value; time = x.time }) r ∙ (λ i. record { row = record { order = x.row.order; member = x.row.member; key = x.row.key; cap = x.row.cap; entry = x.row.entry; leaves = x.row.leaves - n; minimum = x.row.minimum; method = x.row.method; traded = t i }; value = x.value; time = x.time })

pub fills_none : (t : Priced) → fills_of t [] ≡ []
unfolding fills_of
fills_none t = refl

pub fills_one : (t x : Priced) (n : ℕ) → fills_of t (record { contra = x; shares = n } ∷ []) ≡ fill_of t (record { contra = x; shares = n }) ∷ []
unfolding fills_of
fills_one t x n = refl

pub fills_append : (t : Priced) (xs ys : List Take) → fills_of t (xs ++ ys) ≡ fills_of t xs ++ fills_of t ys
unfolding fills_of
fills_append t [] ys = refl
fills_append t (x ∷ xs) ys = ap (λ (fs : List Fill). fill_of t x ∷ fs) (fills_append t xs ys)

pub traded : List Take → List Take
traded takes = filter (λ take. nat_lt 0 take.shares) takes

pub turned : (xs rest : List Taken) (x : Taken) → xs ≡ rest ++ x ∷ [] → reverse xs ≡ x ∷ reverse rest
turned xs rest x e = ap reverse e ∙ reverse-append rest (x ∷ [])

-- the next row comes back
pub out_back : (x y : Priced) (xs rows : List Priced) → y.row.entry ≡ x.row.entry → AreOut (x ∷ xs) rows → AreOut xs (put_filled_one y rows)
out_back x y xs rows same a = go xs a.1 a.2 where
  back : (e : ℕ) → (x.row.entry ≡ e → ⊥) → IsAbsent e rows → IsAbsent e (put_filled_one y rows)
  back e differs b = elim (nat_lt 0 y.row.leaves) as (λ v. IsAbsent e (cond v (insert_by_entry y rows) rows)) [ true ↦ each_insert (λ r. r.row.entry ≡ e → ⊥) y rows (λ k. differs (sym same ∙ k)) b | false ↦ b ]

  go : (zs : List Priced) → IsAbsent x.row.entry zs → AreOut zs rows → AreOut zs (put_filled_one y rows)
  go [] f b = tt
  go (z ∷ zs) f b = (back z.row.entry (λ k. f.0 (sym k)) b.0, b.1, go zs f.1 b.2)

pub row_after_entry : (n : ℕ) (x : Priced) → (row_after n x).row.entry ≡ x.row.entry
unfolding row_after
row_after_entry n x = refl

-- a walk from a contra that it goes through
pub walk_next : (t : Priced) (left : ℕ) (x : Priced) (xs : List Priced) → crosses t x ≡ true → 0 < left → walk t left (x ∷ xs) ≡ record { contra = x; shares = taken_from t.row left x.row } ∷ walk t (left - taken_from t.row left x.row) xs
unfolding walk
walk_next t left x xs h k = rw (h, lt-ltb 0 left k) refl

pub fills_next : (t : Priced) (x : Take) (xs : List Take) → fills_of t (filter (λ take. nat_lt 0 take.shares) (x ∷ xs)) ≡ fills_of t (filter (λ take. nat_lt 0 take.shares) (x ∷ [])) ++ fills_of t (filter (λ take. nat_lt 0 take.shares) xs)
fills_next t x xs =
    elim (nat_lt 0 x.shares) as (λ b. fills_of t (cond b (x ∷ filter (λ take. nat_lt 0 take.shares) xs) (filter (λ take. nat_lt 0 take.shares) xs)) ≡ fills_of t (cond b (x ∷ []) []) ++ fills_of t (filter (λ take. nat_lt 0 take.shares) xs)) [
      | true ↦ fills_append t (x ∷ []) (filter (λ take. nat_lt 0 take.shares) xs)
      | false ↦ ap (λ (fs : List Fill). fs ++ fills_of t (filter (λ take. nat_lt 0 take.shares) xs)) (sym (fills_none t))
    ]

pub row_after_standing : (n : ℕ) (x : Priced) → standing_of (row_after n x) ≡ standing_of x
unfolding row_after
row_after_standing n x = refl

pub filled_next : (t x : Priced) (left : ℕ) (rest : List Priced) (fills all : List Fill) → crosses t x ≡ true → 0 < left → fills ++ fills_of t (filter (λ take. nat_lt 0 take.shares) (walk t left (x ∷ rest))) ≡ all → (fills ++ fills_of t (filter (λ take. nat_lt 0 take.shares) (record { contra = x; shares = taken_from t.row left x.row } ∷ []))) ++ fills_of t (filter (λ take. nat_lt 0 take.shares) (walk t (left - taken_from t.row left x.row) rest)) ≡ all
filled_next t x left rest fills all h k e =
    append_assoc fills _ _
    ∙ ap (λ (fs : List Fill). fills ++ fs) (sym (ap (λ (takes : List Take). fills_of t (filter (λ take. nat_lt 0 take.shares) takes)) (walk_next t left x rest h k) ∙ fills_next t (record { contra = x; shares = taken_from t.row left x.row }) (walk t (left - taken_from t.row left x.row) rest)))
    ∙ e

pub filled_end : (t : Priced) (left : ℕ) (fills all : List Fill) → fills ++ fills_of t (filter (λ take. nat_lt 0 take.shares) (walk t left [])) ≡ all → fills ≡ all
unfolding walk
filled_end t left fills all e = sym (append-nil fills) ∙ ap (λ (fs : List Fill). fills ++ fs) (sym (fills_none t)) ∙ e
