-- A taker goes through the first active rows of a side.
use Rattle.std.proofs.Common.{◌≡◌, ℕ, suc, ◌-◌, ◌<◌, nat_lt, true, false, ◌&&◌, cond, List, [], ◌∷◌, ◌++◌, length, refl, ap, sym, ◌∙◌, subst, append_assoc, append-nil}
use Rattle.venue_words.specs.declared.row.Priced.{Priced}
use Rattle.venue_words.specs.Price.{crosses}
use Rattle.venue_words.specs.Priority.{in_priority}
use Rattle.eager_meaning.specs.Walk.{walk, taken_from}
use Rattle.venue_words.specs.FirstRow.{IsFirst}
use Rattle.venue_words.specs.Rows.{IsByEntry, IsAbsent, insert_by_entry, without_entry}
use Rattle.venue_words.specs.FirstRowLaws.{first_of_priority}
use Rattle.peg_groups.specs.ByEntry.{absent_without, insert-without}
use Rattle.peg_groups.specs.Merge.{each_inserted}
use Rattle.peg_groups.specs.declared.side_book.Taken.{Taken}
use Rattle.peg_groups.specs.Side.{taken_row}
use Rattle.match_core.specs.Aside.{taken_rows, put_in, AreOut, PassesAll, Gathered, IsNext}
use Rattle.std.specs.List.{AllByRecursion}

pub walk_none : (t : Priced) (left : ℕ) → walk t left [] ≡ []
unfolding walk
walk_none t left = refl

pub walk_blocked : (t : Priced) (left : ℕ) (x : Priced) (xs : List Priced) → crosses t x ≡ false → walk t left (x ∷ xs) ≡ []
unfolding walk
walk_blocked t left x xs h = rw h refl

walk_done : (t : Priced) (xs : List Priced) → walk t 0 xs ≡ []
unfolding walk
walk_done t [] = refl
walk_done t (x ∷ xs) = elim (crosses t x) as (λ b. cond (b && false) (record { contra = x; shares = taken_from t.row 0 x.row } ∷ walk t (0 - taken_from t.row 0 x.row) xs) [] ≡ []) [ true ↦ refl | false ↦ refl ]

by_entry_uninsert : (x : Priced) (rows : List Priced) → IsByEntry (insert_by_entry x rows) → IsByEntry rows
by_entry_uninsert x [] o = tt
by_entry_uninsert x (f ∷ rows) o =
    (elim (nat_lt x.row.entry f.row.entry) as (λ b. IsByEntry (cond b (x ∷ f ∷ rows) (f ∷ insert_by_entry x rows)) → IsByEntry (f ∷ rows)) [
      | true ↦ λ k. k.1
      | false ↦ λ k. ((each_inserted (λ r. f.row.entry < r.row.entry) x rows k.0).1, by_entry_uninsert x rows k.1)
    ]) o

-- the first row, taken out
pub record FirstOut (x : Priced) (old new : List Priced) : Type 0 where
  pub order : in_priority old ≡ x ∷ in_priority new
  pub back : insert_by_entry x new ≡ old
  pub absent : IsAbsent x.row.entry new
  pub sorted : IsByEntry new

pub first_out : (x : Priced) (old new : List Priced) → IsByEntry old → IsFirst old x → new ≡ without_entry x.row.entry old → FirstOut x old new
first_out x old new o b e =
    let back : insert_by_entry x new ≡ old = rw e (insert-without x.row.entry old x o b.held) in
    record {
      order = rw e (first_of_priority old x b);
      back = back;
      absent = rw e (absent_without x.row.entry old o);
      sorted = by_entry_uninsert x new (subst IsByEntry (sym back) o);
    }

pub is_next : (t x : Priced) (rows new : List Priced) → IsByEntry rows → IsFirst rows x → new ≡ without_entry x.row.entry rows → crosses t x ≡ true → IsNext t x rows new
is_next t x rows new o b e h =
    let f = first_out x rows new o b e in
    record { crosses_it = h; order = f.order; back = f.back; absent = f.absent; sorted = f.sorted }

passes_more : (t : Priced) (left rest : ℕ) (xs : List Priced) (x : Priced) → PassesAll t left xs rest → crosses t x ≡ true → 0 < rest → PassesAll t left (xs ++ x ∷ []) (rest - taken_from t.row rest x.row)
passes_more t left rest [] x p h k = rw p (h, k, refl)
passes_more t left rest (y ∷ xs) x p h k = (p.0, p.1, passes_more t (left - taken_from t.row left y.row) rest xs x p.2 h k)

put_in_more : (xs : List Priced) (x : Priced) (rows : List Priced) → put_in (xs ++ x ∷ []) rows ≡ put_in xs (insert_by_entry x rows)
put_in_more [] x rows = refl
put_in_more (y ∷ xs) x rows = ap (λ (all : List Priced). insert_by_entry y all) (put_in_more xs x rows)

each_more : (P : Priced → Type 0) (xs : List Priced) (x : Priced) → AllByRecursion P xs → P x → AllByRecursion P (xs ++ x ∷ [])
each_more P [] x a p = (p, tt)
each_more P (y ∷ xs) x a p = (a.0, each_more P xs x a.1 p)

pub out_more : (xs : List Priced) (x y : Priced) (rows : List Priced) → y.row.entry ≡ x.row.entry → AreOut xs (insert_by_entry x rows) → IsAbsent x.row.entry rows → AreOut (xs ++ y ∷ []) rows
out_more [] x y rows same a h = (subst (λ (n : ℕ). IsAbsent n rows) (sym same) h, tt, tt)
out_more (z ∷ xs) x y rows same a h =
    let b = each_inserted (λ r. r.row.entry ≡ z.row.entry → ⊥) x rows a.0 in
    (b.1, each_more (λ r. r.row.entry ≡ z.row.entry → ⊥) xs y a.1 (λ e. b.0 (sym same ∙ e)), out_more xs x y rows same a.2 h)

pub gathered_none : (t : Priced) (rows : List Priced) → Gathered t rows rows [] t.row.leaves
gathered_none t rows = record { passes = refl; order = refl; back = refl; out = tt }

pub gathered_more : (t x : Priced) (old rows new aside : List Priced) (left : ℕ) → Gathered t old rows aside left → IsNext t x rows new → 0 < left → Gathered t old new (aside ++ x ∷ []) (left - taken_from t.row left x.row)
gathered_more t x old rows new aside left g n h = record {
  passes = passes_more t t.row.leaves left aside x g.passes n.crosses_it h;
  order = g.order ∙ ap (λ (xs : List Priced). aside ++ xs) n.order ∙ sym (append_assoc aside (x ∷ []) (in_priority new));
  back = put_in_more aside x new ∙ ap (put_in aside) n.back ∙ g.back;
  out = out_more aside x x new refl (rw n.back g.out) n.absent;
}

-- the walk of all is that of those set aside, and of those behind them
walk_behind : (t : Priced) (left rest : ℕ) (xs ys : List Priced) → PassesAll t left xs rest → walk t left (xs ++ ys) ≡ walk t left xs ++ walk t rest ys
unfolding walk
walk_behind t left rest [] ys p = ap (λ (n : ℕ). walk t n ys) p
walk_behind t left rest (x ∷ xs) ys p =
    let more : nat_lt 0 left ≡ true = Rattle.std.proofs.lemmas.Bool.lt-ltb 0 left p.1 in
    rw (p.0, more) (ap (λ takes. record { contra = x; shares = taken_from t.row left x.row } ∷ takes) (walk_behind t (left - taken_from t.row left x.row) rest xs ys p.2))

pub walked : (t : Priced) (old new aside : List Priced) (left : ℕ) → Gathered t old new aside left → walk t left (in_priority new) ≡ [] → walk t t.row.leaves (in_priority old) ≡ walk t t.row.leaves aside
walked t old new aside left g none = ap (walk t t.row.leaves) g.order ∙ walk_behind t t.row.leaves left aside (in_priority new) g.passes ∙ ap (λ takes. walk t t.row.leaves aside ++ takes) none ∙ append-nil (walk t t.row.leaves aside)

pub walked_done : (t : Priced) (old new aside : List Priced) (left : ℕ) → Gathered t old new aside left → left ≡ 0 → walk t t.row.leaves (in_priority old) ≡ walk t t.row.leaves aside
walked_done t old new aside left g e = walked t old new aside left g (rw e (walk_done t (in_priority new)))

pub length_insert : (x : Priced) (rows : List Priced) → length (insert_by_entry x rows) ≡ suc (length rows)
length_insert x [] = refl
length_insert x (y ∷ rows) = elim (nat_lt x.row.entry y.row.entry) as (λ b. length (cond b (x ∷ y ∷ rows) (y ∷ insert_by_entry x rows)) ≡ suc (suc (length rows))) [ true ↦ refl | false ↦ ap suc (length_insert x rows) ]

pub taken_more : (P : Taken → Type 0) (xs : List Taken) (x : Taken) → AllByRecursion P xs → P x → AllByRecursion P (xs ++ x ∷ [])
taken_more P [] x a p = (p, tt)
taken_more P (y ∷ xs) x a p = (a.0, taken_more P xs x a.1 p)

pub taken_map : (P Q : Taken → Type 0) → ((x : Taken) → P x → Q x) → (xs : List Taken) → AllByRecursion P xs → AllByRecursion Q xs
taken_map P Q f [] a = tt
taken_map P Q f (x ∷ xs) a = (f x a.0, taken_map P Q f xs a.1)

pub rows_more : (xs : List Taken) (x : Taken) → taken_rows (xs ++ x ∷ []) ≡ taken_rows xs ++ taken_row x ∷ []
rows_more [] x = refl
rows_more (y ∷ xs) x = ap (λ (all : List Priced). taken_row y ∷ all) (rows_more xs x)

pub length_rows : (xs : List Taken) → length (taken_rows xs) ≡ length xs
length_rows [] = refl
length_rows (x ∷ xs) = ap suc (length_rows xs)

pub length_more : (xs : List Taken) (x : Taken) → length (xs ++ x ∷ []) ≡ suc (length xs)
length_more [] x = refl
length_more (y ∷ xs) x = ap suc (length_more xs x)
