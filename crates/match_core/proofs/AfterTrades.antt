-- The rows of a side after a taker's trades.
use Rattle.std.proofs.Common.{◌≡◌, ◌⊎◌, ℕ, zero, suc, ◌+◌, ◌-◌, ◌*◌, ◌<◌, ◌≤◌, min, nat_lt, nat_le, Bool, true, false, ◌&&◌, cond, List, [], ◌∷◌, map, filter, length, Some, None, refl, ap, sym, ◌∙◌, subst, arith, inl, inr}
use Rattle.std.proofs.lemmas.Bool.{lt-ltb, le-ltb, ne_eqb, eq-eqb}
use Rattle.std.proofs.Math.Nat.{mul-suc, mul-zero}
use Rattle.venue_words.specs.declared.row.Row.{Row}
use Rattle.venue_words.specs.declared.row.Priced.{Priced}
use Rattle.venue_words.specs.Price.{crosses}
use Rattle.eager_meaning.specs.declared.trade.Take.{Take}
use Rattle.eager_meaning.specs.Floor.{floor}
use Rattle.std.specs.Prelude.{unwrap_or}
use Rattle.eager_meaning.specs.Walk.{walk, taken_from, total_of, least_fill, may_fill}
use Rattle.eager_meaning.specs.Matching.{row_after, shares_of, rows_after, unfilled}
use Rattle.std.specs.List.{AllByRecursion}
use Rattle.venue_words.specs.Rows.{IsByEntry, IsAbsent, insert_by_entry}
use Rattle.venue_words.specs.ListLaws.{all_weaken}
use Rattle.peg_groups.specs.ByEntry.{insert_first}
use Rattle.peg_groups.specs.Merge.{below_or_not, insert_swap, each_insert, each_inserted, by_entry_insert, map-insert}
use Rattle.match_core.specs.Aside.{put_in, AreOut, PassesAll, Gathered, finals, put_filled, put_filled_one, HasLeaves}
use Rattle.match_core.proofs.Trades.{row_after_none, row_after_entry, walk_next}

pf_swap : (a b : Priced) (rows : List Priced) → (a.row.entry ≡ b.row.entry → ⊥) → put_filled_one a (put_filled_one b rows) ≡ put_filled_one b (put_filled_one a rows)
pf_swap a b rows differ = go (nat_lt 0 a.row.leaves) (nat_lt 0 b.row.leaves) where
  go : (x y : Bool) → cond x (insert_by_entry a (cond y (insert_by_entry b rows) rows)) (cond y (insert_by_entry b rows) rows) ≡ cond y (insert_by_entry b (cond x (insert_by_entry a rows) rows)) (cond x (insert_by_entry a rows) rows)
  go true true = insert_swap a b rows differ
  go true false = refl
  go false true = refl
  go false false = refl

pub pf_through : (a : Priced) (xs rows : List Priced) → AllByRecursion (λ r. r.row.entry ≡ a.row.entry → ⊥) xs → put_filled_one a (put_filled xs rows) ≡ put_filled xs (put_filled_one a rows)
pf_through a [] rows h = refl
pf_through a (x ∷ xs) rows h = pf_through a xs (put_filled_one x rows) h.1 ∙ ap (put_filled xs) (pf_swap a x rows (λ e. h.0 (sym e)))

each_filled : (P : Priced → Type 0) (rows : List Priced) → AllByRecursion P rows → AllByRecursion P (unfilled rows)
each_filled P [] a = tt
each_filled P (r ∷ rows) a = elim (nat_lt 0 r.row.leaves) as (λ b. AllByRecursion P (cond b (r ∷ unfilled rows) (unfilled rows))) [ true ↦ (a.0, each_filled P rows a.1) | false ↦ each_filled P rows a.1 ]

pub filled_insert : (y : Priced) (rows : List Priced) → IsByEntry rows → unfilled (insert_by_entry y rows) ≡ put_filled_one y (unfilled rows)
filled_insert y [] o = refl
filled_insert y (f ∷ rows) o =
    elim (below_or_not y.row.entry f.row.entry) [
      | inl less ↦
          let later : AllByRecursion (λ r. y.row.entry < r.row.entry) (f ∷ rows) = (less, all_weaken (λ r. f.row.entry < r.row.entry) (λ r. y.row.entry < r.row.entry) (λ r h. omega arith) rows o.0) in
          rw (lt-ltb y.row.entry f.row.entry less)
          (elim (nat_lt 0 y.row.leaves) as (λ b. cond b (y ∷ unfilled (f ∷ rows)) (unfilled (f ∷ rows)) ≡ cond b (insert_by_entry y (unfilled (f ∷ rows))) (unfilled (f ∷ rows))) [
            | true ↦ sym (insert_first y (unfilled (f ∷ rows)) (each_filled (λ r. y.row.entry < r.row.entry) (f ∷ rows) later))
            | false ↦ refl
          ])
      | inr later ↦
          rw (le-ltb y.row.entry f.row.entry later, filled_insert y rows o.1)
          (go (nat_lt 0 f.row.leaves) (nat_lt 0 y.row.leaves) later)
    ] where
      go : (x b : Bool) → f.row.entry ≤ y.row.entry → cond x (f ∷ cond b (insert_by_entry y (unfilled rows)) (unfilled rows)) (cond b (insert_by_entry y (unfilled rows)) (unfilled rows)) ≡ cond b (insert_by_entry y (cond x (f ∷ unfilled rows) (unfilled rows))) (cond x (f ∷ unfilled rows) (unfilled rows))
      go true true h = rw (le-ltb y.row.entry f.row.entry h) refl
      go true false h = refl
      go false true h = refl
      go false false h = refl

absent_put_in : (e : ℕ) (xs rows : List Priced) → IsAbsent e xs → IsAbsent e rows → IsAbsent e (put_in xs rows)
absent_put_in e [] rows a b = b
absent_put_in e (x ∷ xs) rows a b = each_insert (λ r. r.row.entry ≡ e → ⊥) x (put_in xs rows) a.0 (absent_put_in e xs rows a.1 b)

by_entry_put_in : (xs rows : List Priced) → AreOut xs rows → IsByEntry rows → IsByEntry (put_in xs rows)
by_entry_put_in [] rows a o = o
by_entry_put_in (x ∷ xs) rows a o = by_entry_insert x (put_in xs rows) (by_entry_put_in xs rows a.2 o) (absent_put_in x.row.entry xs rows a.1 a.0)

each_mapped : (f : Priced → Priced) → ((p : Priced) → (f p).row.entry ≡ p.row.entry) → (P : ℕ → Type 0) (rows : List Priced) → AllByRecursion (λ r. P r.row.entry) rows → AllByRecursion (λ r. P r.row.entry) (map f rows)
each_mapped f keeps P [] a = tt
each_mapped f keeps P (r ∷ rows) a = (subst P (sym (keeps r)) a.0, each_mapped f keeps P rows a.1)

pub by_entry_map : (f : Priced → Priced) → ((p : Priced) → (f p).row.entry ≡ p.row.entry) → (rows : List Priced) → IsByEntry rows → IsByEntry (map f rows)
by_entry_map f keeps [] o = tt
by_entry_map f keeps (r ∷ rows) o = (subst (λ (n : ℕ). AllByRecursion (λ later. n < later.row.entry) (map f rows)) (sym (keeps r)) (each_mapped f keeps (λ n. r.row.entry < n) rows o.0), by_entry_map f keeps rows o.1)

-- a change of each row, and only those with shares left
filled_put_in : (f : Priced → Priced) → ((p : Priced) → (f p).row.entry ≡ p.row.entry) → (xs rows : List Priced) → AreOut xs rows → IsByEntry rows → unfilled (map f (put_in xs rows)) ≡ put_filled (map f xs) (unfilled (map f rows))
filled_put_in f keeps [] rows a o = refl
filled_put_in f keeps (x ∷ xs) rows a o =
    ap unfilled (map-insert f keeps x (put_in xs rows))
    ∙ filled_insert (f x) (map f (put_in xs rows)) (by_entry_map f keeps (put_in xs rows) (by_entry_put_in xs rows a.2 o))
    ∙ ap (put_filled_one (f x)) (filled_put_in f keeps xs rows a.2 o)
    ∙ pf_through (f x) (map f xs) (unfilled (map f rows)) (subst (λ (n : ℕ). AllByRecursion (λ r. r.row.entry ≡ n → ⊥) (map f xs)) (sym (keeps x)) (each_mapped f keeps (λ n. n ≡ x.row.entry → ⊥) xs a.1))

map_same : (f h : Priced → Priced) (rows : List Priced) → AllByRecursion (λ r. f r ≡ h r) rows → map f rows ≡ map h rows
map_same f h [] a = refl
map_same f h (r ∷ rows) a = ap (λ (x : Priced). x ∷ map f rows) a.0 ∙ ap (λ (xs : List Priced). h r ∷ xs) (map_same f h rows a.1)

pub map_none : (f : Priced → Priced) (rows : List Priced) → AllByRecursion (λ r. f r ≡ r) rows → map f rows ≡ rows
map_none f [] a = refl
map_none f (r ∷ rows) a = ap (λ (x : Priced). x ∷ map f rows) a.0 ∙ ap (λ (xs : List Priced). r ∷ xs) (map_none f rows a.1)

pub filled_all : (rows : List Priced) → AllByRecursion HasLeaves rows → unfilled rows ≡ rows
filled_all [] a = refl
filled_all (r ∷ rows) a = rw (lt-ltb 0 r.row.leaves a.0) (ap (λ (xs : List Priced). r ∷ xs) (filled_all rows a.1))

abbrev traded : List Take → List Take
traded takes = filter (λ take. nat_lt 0 take.shares) takes

shares_empty : (y : Priced) → shares_of [] y ≡ 0
unfolding shares_of
shares_empty y = refl

shares_other : (take : Take) (takes : List Take) (y : Priced) → (take.contra.row.entry ≡ y.row.entry → ⊥) → shares_of (traded (take ∷ takes)) y ≡ shares_of (traded takes) y
unfolding shares_of
shares_other take takes y differ = elim (nat_lt 0 take.shares) as (λ b. shares_of (cond b (take ∷ traded takes) (traded takes)) y ≡ shares_of (traded takes) y) [
  | true ↦ rw (ne_eqb take.contra.row.entry y.row.entry differ) refl
  | false ↦ refl
]

shares_none : (t : Priced) (left : ℕ) (xs : List Priced) (y : Priced) → IsAbsent y.row.entry xs → shares_of (traded (walk t left xs)) y ≡ 0
unfolding walk
shares_none t left [] y a = shares_empty y
shares_none t left (x ∷ xs) y a =
    elim (crosses t x && nat_lt 0 left) as (λ b. shares_of (traded (cond b (record { contra = x; shares = taken_from t.row left x.row } ∷ walk t (left - taken_from t.row left x.row) xs) [])) y ≡ 0) [
      | true ↦ shares_other (record { contra = x; shares = taken_from t.row left x.row }) (walk t (left - taken_from t.row left x.row) xs) y a.0 ∙ shares_none t (left - taken_from t.row left x.row) xs y a.1
      | false ↦ shares_empty y
    ]

shares_first : (x : Priced) (n : ℕ) (takes : List Take) → shares_of (traded takes) x ≡ 0 → shares_of (traded (record { contra = x; shares = n } ∷ takes)) x ≡ n
unfolding shares_of
shares_first x n takes none =
    elim (below_or_not 0 n) [
      | inl some ↦ rw (lt-ltb 0 n some, eq-eqb x.row.entry x.row.entry refl) refl
      | inr no_more ↦ let z : 0 ≡ n = omega arith in rw (le-ltb 0 n no_more) (none ∙ z)
    ]

-- each of those set aside has what the walk leaves of it
finals_are : (t : Priced) (left rest : ℕ) (xs rows : List Priced) → PassesAll t left xs rest → AreOut xs rows → map (λ x. row_after (shares_of (traded (walk t left xs)) x) x) xs ≡ finals t left xs
finals_are t left rest [] rows p a = refl
finals_are t left rest (x ∷ xs) rows p a =
    let n = taken_from t.row left x.row in
    let w = walk t (left - n) xs in
    let next = walk_next t left x xs p.0 p.1 in
    let first : shares_of (traded (walk t left (x ∷ xs))) x ≡ n = ap (λ (takes : List Take). shares_of (traded takes) x) next ∙ shares_first x n w (shares_none t (left - n) xs x a.1) in
    ap (λ (m : ℕ). row_after m x ∷ map (λ y. row_after (shares_of (traded (walk t left (x ∷ xs))) y) y) xs) first
    ∙ ap (λ (ys : List Priced). row_after n x ∷ ys)
    (map_same (λ y. row_after (shares_of (traded (walk t left (x ∷ xs))) y) y) (λ y. row_after (shares_of (traded w) y) y) xs
    (all_weaken (λ y. y.row.entry ≡ x.row.entry → ⊥) (λ y. row_after (shares_of (traded (walk t left (x ∷ xs))) y) y ≡ row_after (shares_of (traded w) y) y)
    (λ y f. ap (λ (m : ℕ). row_after m y) (ap (λ (takes : List Take). shares_of (traded takes) y) next ∙ shares_other (record { contra = x; shares = n }) w y (λ e. f (sym e)))) xs a.1)
    ∙ finals_are t (left - n) rest xs rows p.2 a.2)

each_true : (P : Priced → Type 0) (f : (r : Priced) → P r) (rows : List Priced) → AllByRecursion P rows
each_true P f [] = tt
each_true P f (r ∷ rows) = (f r, each_true P f rows)

-- each row that stayed has an entry that none of those set aside has
others_absent : (xs rows : List Priced) → AreOut xs rows → AllByRecursion (λ r. IsAbsent r.row.entry xs) rows
others_absent [] rows a = each_true (λ r. IsAbsent r.row.entry []) (λ r. tt) rows
others_absent (x ∷ xs) rows a = both rows a.0 (others_absent xs rows a.2) where
  both : (zs : List Priced) → IsAbsent x.row.entry zs → AllByRecursion (λ r. IsAbsent r.row.entry xs) zs → AllByRecursion (λ r. IsAbsent r.row.entry (x ∷ xs)) zs
  both [] b d = tt
  both (z ∷ zs) b d = (((λ e. b.0 (sym e)), d.0), both zs b.1 d.1)

leaves_behind : (xs rows : List Priced) → AllByRecursion HasLeaves (put_in xs rows) → AllByRecursion HasLeaves rows
leaves_behind [] rows a = a
leaves_behind (x ∷ xs) rows a = leaves_behind xs rows (each_inserted HasLeaves x (put_in xs rows) a).1

-- where the walk stands
pub rows_settled : (t : Priced) (old new aside : List Priced) (left : ℕ) → Gathered t old new aside left → IsByEntry new → AllByRecursion HasLeaves old → put_filled (finals t t.row.leaves aside) new ≡ rows_after (filter (λ take. nat_lt 0 take.shares) (walk t t.row.leaves aside)) old
unfolding rows_after
rows_settled t old new aside left g o full =
    let f : Priced → Priced = λ x. row_after (shares_of (traded (walk t t.row.leaves aside)) x) x in
    let keeps : (p : Priced) → (f p).row.entry ≡ p.row.entry = λ p. row_after_entry (shares_of (traded (walk t t.row.leaves aside)) p) p in
    let same : map f new ≡ new = map_none f new (all_weaken (λ r. IsAbsent r.row.entry aside) (λ r. f r ≡ r) (λ r a. sym (row_after_none (shares_of (traded (walk t t.row.leaves aside)) r) r (shares_none t t.row.leaves aside r a))) new (others_absent aside new g.out)) in
    let filled : unfilled (map f new) ≡ new = ap unfilled same ∙ filled_all new (leaves_behind aside new (rw g.back full)) in
    sym (ap (λ (rows : List Priced). unfilled (map f rows)) (sym g.back)
    ∙ filled_put_in f keeps aside new g.out o
    ∙ ap (put_filled (map f aside)) filled
    ∙ ap (λ (xs : List Priced). put_filled xs new) (finals_are t t.row.leaves left aside new g.passes g.out))

-- where it doesn't
pub rows_given_back : (t : Priced) (old new aside : List Priced) (left : ℕ) → Gathered t old new aside left → IsByEntry new → AllByRecursion HasLeaves old → put_filled aside new ≡ rows_after [] old
unfolding rows_after
rows_given_back t old new aside left g o full =
    let f : Priced → Priced = λ x. row_after (shares_of [] x) x in
    let keeps : (p : Priced) → (f p).row.entry ≡ p.row.entry = λ p. row_after_entry (shares_of [] p) p in
    let each : (r : Priced) → f r ≡ r = λ r. sym (row_after_none (shares_of [] r) r (shares_empty r)) in
    let filled : unfilled (map f new) ≡ new = ap unfilled (map_none f new (each_true (λ r. f r ≡ r) each new)) ∙ filled_all new (leaves_behind aside new (rw g.back full)) in
    sym (ap (λ (rows : List Priced). unfilled (map f rows)) (sym g.back)
    ∙ filled_put_in f keeps aside new g.out o
    ∙ ap (put_filled (map f aside)) filled
    ∙ ap (λ (xs : List Priced). put_filled xs new) (map_none f aside (each_true (λ r. f r ≡ r) each aside)))

-- no trades leave rows that have shares left
pub rows_none : (rows : List Priced) → AllByRecursion HasLeaves rows → rows_after [] rows ≡ rows
unfolding rows_after
rows_none rows full = ap unfilled (map_none (λ x. row_after (shares_of [] x) x) rows (each_true (λ r. row_after (shares_of [] r) r ≡ r) (λ r. sym (row_after_none (shares_of [] r) r (shares_empty r))) rows)) ∙ filled_all rows full

-- the shares that are taken and left
-- none is taken, or all that there is of one of the two
pub all_or_none : (row contra : Row) (left : ℕ) → (taken_from row left contra ≡ 0) ⊎ (taken_from row left contra ≡ min left contra.leaves)
unfolding taken_from may_fill
all_or_none row contra left = elim (nat_le (floor contra) (min left contra.leaves) && nat_le (least_fill row left) (min left contra.leaves)) as (λ b. (unwrap_or (cond b (Some (min left contra.leaves)) None) 0 ≡ 0) ⊎ (unwrap_or (cond b (Some (min left contra.leaves)) None) 0 ≡ min left contra.leaves)) [ true ↦ inr refl | false ↦ inl refl ]

taken_within : (row contra : Row) (left : ℕ) → taken_from row left contra ≤ left
taken_within row contra left = elim (all_or_none row contra left) [ inl e ↦ omega (arith, e) | inr e ↦ omega (arith, e) ]

shares_fold : (n : ℕ) (takes : List Take) → Rattle.std.specs.List.fold (λ (a : ℕ) (x : Take). a + x.shares) n takes ≡ n + total_of takes
shares_fold n [] = omega arith
shares_fold n (take ∷ takes) = let h = shares_fold (n + take.shares) takes in let k = shares_fold (0 + take.shares) takes in omega (arith, h, k)

total_cons : (take : Take) (takes : List Take) → total_of (take ∷ takes) ≡ take.shares + total_of takes
total_cons take takes = let k = shares_fold (0 + take.shares) takes in omega (arith, k)

pub total_left : (t : Priced) (left rest : ℕ) (xs : List Priced) → PassesAll t left xs rest → total_of (walk t left xs) + rest ≡ left
total_left t left rest [] p = ap (λ (takes : List Take). total_of takes + rest) (Rattle.match_core.proofs.SetAside.walk_none t left) ∙ omega (arith, p)
total_left t left rest (x ∷ xs) p =
    let h : taken_from t.row left x.row ≤ left = taken_within t.row x.row left in
    let k : total_of (walk t (left - taken_from t.row left x.row) xs) + rest ≡ left - taken_from t.row left x.row = total_left t (left - taken_from t.row left x.row) rest xs p.2 in
    let e : total_of (walk t left (x ∷ xs)) ≡ taken_from t.row left x.row + total_of (walk t (left - taken_from t.row left x.row) xs) = ap total_of (walk_next t left x xs p.0 p.1) ∙ total_cons (record { contra = x; shares = taken_from t.row left x.row }) (walk t (left - taken_from t.row left x.row) xs) in
    omega (arith, h, k, e)

pub total_traded : (takes : List Take) → total_of (filter (λ take. nat_lt 0 take.shares) takes) ≡ total_of takes
total_traded [] = refl
total_traded (take ∷ takes) =
    let h : total_of (filter (λ x. nat_lt 0 x.shares) takes) ≡ total_of takes = total_traded takes in
    elim (below_or_not 0 take.shares) [
      | inl some ↦ rw (lt-ltb 0 take.shares some) (total_cons take (filter (λ x. nat_lt 0 x.shares) takes) ∙ ap (λ (n : ℕ). take.shares + n) h ∙ sym (total_cons take takes))
      | inr none ↦ let z : 0 + total_of takes ≡ take.shares + total_of takes = omega arith in rw (le-ltb 0 take.shares none) (h ∙ (omega arith) ∙ z ∙ sym (total_cons take takes))
    ]

pub walk_length : (t : Priced) (left rest : ℕ) (xs : List Priced) → PassesAll t left xs rest → length (walk t left xs) ≡ length xs
unfolding walk
walk_length t left rest [] p = refl
walk_length t left rest (x ∷ xs) p = rw (p.0, lt-ltb 0 left p.1) (ap suc (walk_length t (left - taken_from t.row left x.row) rest xs p.2))

pub length_put_in : (xs rows : List Priced) → length (put_in xs rows) ≡ length xs + length rows
length_put_in [] rows = omega arith
length_put_in (x ∷ xs) rows = let h = Rattle.match_core.proofs.SetAside.length_insert x (put_in xs rows) in let k = length_put_in xs rows in omega (arith, h, k)

less_each : (a b k : ℕ) → a + 512 ≤ b → a * k + 512 * k ≤ b * k
less_each a b zero h = omega (arith, mul-zero a, mul-zero b)
less_each a b (suc k) h = let i = less_each a b k h in omega (arith, i, mul-suc a k, mul-suc b k)

pub cost_of_walk : (a b k : ℕ) → a + 512 ≤ b → a * k + 512 * k + b ≤ b * (k + 1)
cost_of_walk a b k h = let i = less_each a b k h in let e : k + 1 ≡ suc k = omega arith in rw e (omega (arith, i, mul-suc b k))
