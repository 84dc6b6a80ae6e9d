-- A listing is put part by part.
use Rattle.std.proofs.Common.{◌≡◌, ℕ, zero, suc, ◌+◌, ◌<◌, ◌≤◌, min, List, [], ◌∷◌, ◌++◌, length, take, drop, get_or, slice_get, Option, None, Some, refl, sym, ◌∙◌, ap, subst, append_assoc, add-one, arith, take-append-drop}
use Rattle.std.proofs.lemmas.List.{take-append-le}
use Rattle.std.proofs.Math.Seq.{take-append-add}
use Rattle.std.specs.Io.KnownBytes.{Appends}
use Rattle.io_edge.specs.Grows.{AppendsPrefix}
use Rattle.venue_words.specs.declared.config.Config.{Config}
use Rattle.symbol_book.specs.Book.{BookView}
use Rattle.symbol_book.specs.Setting.{book_setting, run_at}
use Rattle.venue_core.specs.Runs.{run_in}
use Rattle.feeds_core.specs.Books.{MakeRunsFrom}
use Rattle.feeds_core.specs.Putting.{PutsUpTo, book_text, parts_text}

appends_then : (a b c : Option (List ℕ)) (xs ys : List ℕ) → Appends a b xs → Appends b c ys → Appends a c (xs ++ ys)
appends_then None b c xs ys x y = tt
appends_then (Some us) None c xs ys x y = absurd x
appends_then (Some us) (Some vs) None xs ys x y = absurd y
appends_then (Some us) (Some vs) (Some ws) xs ys x y =
    y ∙ ap (λ (t : List ℕ). t ++ ys) x ∙ append_assoc us xs ys

-- a beginning of a text behind what was put is a beginning of both
prefix_then : (a b c : Option (List ℕ)) (xs ys : List ℕ) → Appends a b xs → AppendsPrefix b c ys → AppendsPrefix a c (xs ++ ys)
prefix_then a b c xs ys x y =
    (length xs + y.0, subst (Appends a c) (sym (take-append-add xs ys y.0)) (appends_then a b c xs (take y.0 ys) x y.1))

take_min : (n : ℕ) (xs : List ℕ) → take n xs ≡ take (min n (length xs)) xs
take_min n [] = nothing n (min n 0)
  where
    nothing : (a b : ℕ) → take a (let xs : List ℕ = [] in xs) ≡ take b []
    nothing zero zero = refl
    nothing zero (suc b) = refl
    nothing (suc a) zero = refl
    nothing (suc a) (suc b) = refl
take_min zero (x ∷ xs) = let e : min zero (length (x ∷ xs)) ≡ 0 = omega arith in rw e refl
take_min (suc n) (x ∷ xs) =
    let e : min (suc n) (length (x ∷ xs)) ≡ suc (min n (length xs)) = omega arith in
    rw e (ap (λ (t : List ℕ). x ∷ t) (take_min n xs))

prefix_front : (b c : Option (List ℕ)) (xs ys : List ℕ) → AppendsPrefix b c xs → AppendsPrefix b c (xs ++ ys)
prefix_front b c xs ys x =
    let k = min x.0 (length xs) in
    let within : k ≤ length xs = omega arith in
    (k, subst (Appends b c) (take_min x.0 xs ∙ sym (take-append-le k xs ys within)) x.1)

-- ---- a text that is put in parts

pub more_put : (whole here part left : List ℕ) (a b c : Option (List ℕ)) → PutsUpTo whole here a b → here ≡ part ++ left
    → Appends b c part → PutsUpTo whole left a c
more_put whole here part left a b c x begins grew = record {
  done = x.done ++ part;
  grew = appends_then a b c x.done part x.grew grew;
  same = x.same ∙ ap (λ (t : List ℕ). x.done ++ t) begins ∙ sym (append_assoc x.done part left);
}

pub put_stops : (whole here part left : List ℕ) (a b c : Option (List ℕ)) → PutsUpTo whole here a b → here ≡ part ++ left
    → AppendsPrefix b c part → AppendsPrefix a c whole
put_stops whole here part left a b c x begins grew =
    subst (AppendsPrefix a c) (sym (x.same ∙ ap (λ (t : List ℕ). x.done ++ t) begins))
    (prefix_then a b c x.done (part ++ left) x.grew (prefix_front b c part left grew))

-- ---- books

-- a book stands at each place
pub book_at : (books : List BookView) (place : ℕ) → place < length books → (book : BookView) × (book ≡ get_or books place book)
book_at [] place less = absurd (omega arith)
book_at (b ∷ bs) zero less = (b, refl)
book_at (b ∷ bs) (suc place) less = book_at bs place (omega arith)

drop_book : (xs : List BookView) (k : ℕ) (d : BookView) → k < length xs → d ≡ get_or xs k d → drop k xs ≡ d ∷ drop (suc k) xs
drop_book [] k d l e = absurd (omega arith)
drop_book (y ∷ ys) zero d l e = ap (λ (z : BookView). z ∷ ys) (sym e)
drop_book (y ∷ ys) (suc k) d l e = drop_book ys k d (omega arith) e

-- the parts from a place on begin with the part there
pub next_part : (config : Config) (first : ℕ) (books : List BookView) (place : ℕ) (book : BookView)
    → place < length books → book ≡ get_or books place book
    → parts_text config (first + place) (drop place books)
    ≡ book_text config (first + place) book ++ parts_text config (first + (place + 1)) (drop (place + 1) books)
next_part config first books place book l e =
    let here : drop place books ≡ book ∷ drop (place + 1) books = rw add-one (drop_book books place book l e) in
    let after : (first + place) + 1 ≡ first + (place + 1) = omega arith in
    ap (parts_text config (first + place)) here
    ∙ ap (λ (n : ℕ). book_text config (first + place) book ++ parts_text config n (drop (place + 1) books)) after

-- the parts of books are those of the front and those behind it
pub parts_of_both : (config : Config) (first : ℕ) (front later : List BookView)
    → parts_text config first (front ++ later) ≡ parts_text config first front ++ parts_text config (first + length front) later
parts_of_both config first [] later =
    let none : first ≡ first + 0 = omega arith in ap (λ (n : ℕ). parts_text config n later) none
parts_of_both config first (b ∷ bs) later =
    let count : (first + 1) + length bs ≡ first + length (b ∷ bs) = omega arith in
    ap (λ (t : List ℕ). book_text config first b ++ t)
    (parts_of_both config (first + 1) bs later
    ∙ ap (λ (n : ℕ). parts_text config (first + 1) bs ++ parts_text config n later) count)
    ∙ sym (append_assoc (book_text config first b) (parts_text config (first + 1) bs) (parts_text config (first + length (b ∷ bs)) later))

get_later : (front later : List BookView) (k : ℕ) (book : BookView) → slice_get later k ≡ Some book
    → slice_get (front ++ later) (length front + k) ≡ Some book
get_later [] later k book e =
    let none : k ≡ 0 + k = omega arith in subst (λ (n : ℕ). slice_get later n ≡ Some book) none e
get_later (y ∷ ys) later k book e =
    let next : suc (length ys + k) ≡ length (y ∷ ys) + k = omega arith in
    subst (λ (n : ℕ). slice_get (y ∷ (ys ++ later)) n ≡ Some book) next (get_later ys later k book e)

-- books that are cut in two
pub cut_books : (n : ℕ) (books front later : List BookView) → front ≡ take n books → later ≡ drop n books → books ≡ front ++ later
cut_books n books front later e f =
    sym (ap (λ (l : List BookView). l ++ later) e ∙ ap (λ (l : List BookView). take n books ++ l) f ∙ take-append-drop n books)

-- ---- what books make

pub later_runs : (config : Config) (first : ℕ) (front later : List BookView) → MakeRunsFrom config first (front ++ later)
    → MakeRunsFrom config (first + length front) later
later_runs config first front later runs place book at =
    let sum : first + (length front + place) ≡ (first + length front) + place = omega arith in
    subst (λ (n : ℕ). run_at (book_setting book) book.journal ≡ run_in config n book.journal) sum
    (runs (length front + place) book (get_later front later place book at))
