-- What the recheck needs: whether a taker crosses any row, and its own side after it traded.
use Rattle.std.proofs.Common.{◌≡◌, ℕ, ◌+◌, nat_lt, Bool, true, false, ◌||◌, cond, List, [], ◌∷◌, ◌++◌, length, inl, inr, map, refl, ap, sym, ◌∙◌, arith}
use Rattle.std.proofs.lemmas.Bool.{ne_eqb, eq-eqb, lt-ltb, le-ltb}
use Rattle.venue_words.specs.declared.row.Priced.{Priced}
use Rattle.venue_words.specs.Price.{crosses}
use Rattle.eager_meaning.specs.Recheck.{Sides, crosses_any, meet, sweep}
use Rattle.eager_meaning.specs.Matching.{row_after, shares_of, rows_after, unfilled, takes_of, fills_of}
use Rattle.eager_meaning.specs.Walk.{total_of}
use Rattle.eager_meaning.specs.declared.trade.Fill.{Fill}
use Rattle.std.specs.List.{AllByRecursion}
use Rattle.venue_words.specs.Rows.{IsByEntry, IsAbsent, insert_by_entry}
use Rattle.venue_words.specs.ListLaws.{all_weaken}
use Rattle.std.specs.Prelude.{not, ◌==◌}
use Rattle.std.specs.List.{list_any}
use Rattle.peg_groups.specs.declared.side_book.Taken.{Taken}
use Rattle.peg_groups.specs.Side.{taken_row}
use Rattle.match_core.specs.Aside.{Gathered, put_in, taken_rows, put_filled, put_filled_one, AreOut, HasLeaves}
use Rattle.match_core.proofs.Trades.{row_after_none, row_after_entry, out_back}
use Rattle.match_core.proofs.AfterTrades.{pf_through, filled_insert, by_entry_map, map_none, filled_all}
use Rattle.peg_groups.specs.Merge.{map-insert, below_or_not, each_insert, by_entry_insert}

pub none_crosses : (t : Priced) (rows : List Priced) → AllByRecursion (λ y. crosses t y ≡ false) rows → crosses_any t rows ≡ false
unfolding crosses_any
none_crosses t [] a = refl
none_crosses t (y ∷ rows) a = rw a.0 (none_crosses t rows a.1)

or_true : (b : Bool) → (b || true) ≡ true
or_true true = refl
or_true false = refl

any_inserted : (t x : Priced) (rows : List Priced) → crosses t x ≡ true → list_any (crosses t) (insert_by_entry x rows) ≡ true
any_inserted t x [] k = rw k refl
any_inserted t x (f ∷ rows) k =
    elim (nat_lt x.row.entry f.row.entry) as (λ b. list_any (crosses t) (cond b (x ∷ f ∷ rows) (f ∷ insert_by_entry x rows)) ≡ true) [
      | true ↦ rw k refl
      | false ↦ ap (λ (b : Bool). crosses t f || b) (any_inserted t x rows k) ∙ or_true (crosses t f)
    ]

-- a taker crosses some row where it goes through one
first_crosses : (t x : Priced) (old new xs : List Priced) (left : ℕ) → Gathered t old new (x ∷ xs) left → crosses_any t old ≡ true
unfolding crosses_any
first_crosses t x old new xs left g = ap (list_any (crosses t)) (sym g.back) ∙ any_inserted t x (put_in xs new) g.passes.0

pub crossed_is : (t : Priced) (old new : List Priced) (items : List Taken) (left n : ℕ) (b : Bool) → b ≡ (n == 0) → n ≡ length items → Gathered t old new (taken_rows items) left → (items ≡ [] → crosses_any t old ≡ false) → not b ≡ crosses_any t old
crossed_is t old new [] left n b e l g none = let z : n ≡ 0 = l in ap not (e ∙ eq-eqb n 0 z) ∙ sym (none refl)
crossed_is t old new (x ∷ items) left n b e l g none = ap not (e ∙ ne_eqb n 0 (λ z. omega (arith, z, l))) ∙ sym (first_crosses t (taken_row x) old new (taken_rows items) left g)

shares_one : (x y : Priced) (n : ℕ) → (y.row.entry ≡ x.row.entry → ⊥) → shares_of (record { contra = x; shares = n } ∷ []) y ≡ 0
unfolding shares_of
shares_one x y n f = rw (ne_eqb x.row.entry y.row.entry (λ e. f (sym e))) refl

shares_own : (x : Priced) (n : ℕ) → shares_of (record { contra = x; shares = n } ∷ []) x ≡ n
unfolding shares_of
shares_own x n = rw (eq-eqb x.row.entry x.row.entry refl) refl

-- a taker's own side after its trades
pub own_after : (x : Priced) (n : ℕ) (rows : List Priced) → IsByEntry rows → IsAbsent x.row.entry rows → AllByRecursion HasLeaves rows → rows_after (record { contra = x; shares = n } ∷ []) (insert_by_entry x rows) ≡ put_filled_one (row_after n x) rows
unfolding rows_after
own_after x n rows o a full =
    let f : Priced → Priced = λ y. row_after (shares_of (record { contra = x; shares = n } ∷ []) y) y in
    let keeps : (p : Priced) → (f p).row.entry ≡ p.row.entry = λ p. row_after_entry (shares_of (record { contra = x; shares = n } ∷ []) p) p in
    let same : map f rows ≡ rows = map_none f rows (all_weaken (λ y. y.row.entry ≡ x.row.entry → ⊥) (λ y. f y ≡ y) (λ y d. sym (row_after_none (shares_of (record { contra = x; shares = n } ∷ []) y) y (shares_one x y n d))) rows a) in
    ap unfilled (map-insert f keeps x rows)
    ∙ filled_insert (f x) (map f rows) (by_entry_map f keeps rows o)
    ∙ ap (λ (rs : List Priced). put_filled_one (f x) (unfilled rs)) same
    ∙ ap (put_filled_one (f x)) (filled_all rows full)
    ∙ ap (λ (m : ℕ). put_filled_one (row_after m x) rows) (shares_own x n)

pub filled_more : (xs : List Priced) (y : Priced) (rows : List Priced) → put_filled (xs ++ y ∷ []) rows ≡ put_filled_one y (put_filled xs rows)
filled_more [] y rows = refl
filled_more (x ∷ xs) y rows = filled_more xs y (put_filled_one x rows)

one_each : (P : Priced → Type 0) (y : Priced) (rows : List Priced) → (HasLeaves y → P y) → AllByRecursion P rows → AllByRecursion P (put_filled_one y rows)
one_each P y rows p a =
    elim (below_or_not 0 y.row.leaves) [
      | inl some ↦ rw (lt-ltb 0 y.row.leaves some) (each_insert P y rows (p some) a)
      | inr none ↦ rw (le-ltb 0 y.row.leaves none) a
    ]

filled_absent : (e : ℕ) (xs rows : List Priced) → IsAbsent e xs → IsAbsent e rows → IsAbsent e (put_filled xs rows)
filled_absent e [] rows a b = b
filled_absent e (x ∷ xs) rows a b = filled_absent e xs (put_filled_one x rows) a.1 (one_each (λ r. r.row.entry ≡ e → ⊥) x rows (λ h. a.0) b)

pub filled_full : (xs rows : List Priced) → AllByRecursion HasLeaves rows → AllByRecursion HasLeaves (put_filled xs rows)
filled_full [] rows a = a
filled_full (x ∷ xs) rows a = filled_full xs (put_filled_one x rows) (one_each HasLeaves x rows (λ h. h) a)

filled_sorted : (xs rows : List Priced) → AreOut xs rows → IsByEntry rows → IsByEntry (put_filled xs rows)
filled_sorted [] rows a o = o
filled_sorted (x ∷ xs) rows a o =
    filled_sorted xs (put_filled_one x rows) (out_back x x xs rows refl a)
    (elim (nat_lt 0 x.row.leaves) as (λ b. IsByEntry (cond b (insert_by_entry x rows) rows)) [ true ↦ by_entry_insert x rows o a.0 | false ↦ o ])

-- a row that is put in goes through those that come back
pub through : (x : Priced) (tried rows : List Priced) → HasLeaves x → IsAbsent x.row.entry tried → put_filled tried (insert_by_entry x rows) ≡ insert_by_entry x (put_filled tried rows)
through x tried rows has b =
    let one : insert_by_entry x rows ≡ put_filled_one x rows = rw (lt-ltb 0 x.row.leaves has) refl in
    ap (put_filled tried) one ∙ sym (pf_through x tried rows b) ∙ rw (lt-ltb 0 x.row.leaves has) refl

-- the same while earlier takers are set aside: one more is
pub own_after_tried : (x : Priced) (n : ℕ) (tried rows : List Priced) → HasLeaves x → IsByEntry rows → IsAbsent x.row.entry rows → IsAbsent x.row.entry tried → AreOut tried rows → AllByRecursion HasLeaves rows → rows_after (record { contra = x; shares = n } ∷ []) (put_filled tried (insert_by_entry x rows)) ≡ put_filled (tried ++ row_after n x ∷ []) rows
own_after_tried x n tried rows has o a b out full =
    ap (rows_after (record { contra = x; shares = n } ∷ [])) (through x tried rows has b)
    ∙ own_after x n (put_filled tried rows) (filled_sorted tried rows out o) (filled_absent x.row.entry tried rows b a) (filled_full tried rows full)
    ∙ sym (filled_more tried (row_after n x) rows)

-- a taker that walks, while earlier ones are set aside: it is set aside too
pub meet_is : (x : Priced) (tried own others : List Priced) (fills : List Fill) → HasLeaves x → IsByEntry own → IsAbsent x.row.entry own → IsAbsent x.row.entry tried → AreOut tried own → AllByRecursion HasLeaves own → meet x (record { own = put_filled tried (insert_by_entry x own); others = others; fills = fills }) ≡ record { own = put_filled (tried ++ row_after (total_of (takes_of x others)) x ∷ []) own; others = rows_after (takes_of x others) others; fills = fills ++ fills_of x (takes_of x others) }
unfolding meet
meet_is x tried own others fills has o a b out full =
    ap (λ (rows : List Priced). record { own = rows; others = rows_after (takes_of x others) others; fills = fills ++ fills_of x (takes_of x others) }) (own_after_tried x (total_of (takes_of x others)) tried own has o a b out full)

-- a taker that crosses walks, and the sweep goes on
pub sweep_on : (x : Priced) (xs : List Priced) (sides : Sides) → crosses_any x sides.others ≡ true → sweep (x ∷ xs) sides ≡ sweep xs (meet x sides)
unfolding sweep
sweep_on x xs sides does = rw does refl

-- a taker that crosses nothing ends the sweep
pub sweep_out : (x : Priced) (xs : List Priced) (sides : Sides) → crosses_any x sides.others ≡ false → sweep (x ∷ xs) sides ≡ sides
unfolding sweep
sweep_out x xs sides never = rw never refl

pub sweep_none : (sides : Sides) → sweep [] sides ≡ sides
unfolding sweep
sweep_none sides = refl
