-- Rows that are gathered one by one.
use Rattle.std.proofs.Common.{◌≡◌, ◌<◌, ℕ, zero, suc, ◌+◌, Option, Some, None, List, [], ◌∷◌, ◌++◌, length, get_or, take, refl, sym, ◌∙◌, ap, add-one, arith}
use Rattle.std.proofs.Math.Seq.{take-suc}
use Rattle.std.proofs.lemmas.List.Elements.{filter_map-append}
use Rattle.std.specs.Prelude.{filter_map, option_to_list}
use Rattle.std.specs.List.{cons_option, range_with_len}
use Rattle.audit_html.specs.Chunks.{Adds, Box}
use Rattle.audit_html.specs.declared.chunks.Chunks.{Chunks}
use Rattle.audit_html.proofs.Boxing.{added_then}

one_more : {Y : Type 0} (o : Option Y) → cons_option o [] ≡ option_to_list o
one_more None = refl
one_more (Some y) = refl

-- what is gathered from one more element
pub filter_map_next : {X Y : Type 0} (h : X → Option Y) (xs : List X) (k : ℕ) (x : X) → k < length xs → x ≡ get_or xs k x
    → filter_map h (take (k + 1) xs) ≡ filter_map h (take k xs) ++ option_to_list (h x)
filter_map_next {X} h xs k x inside is =
    ap (λ (n : ℕ). filter_map h (take n xs)) (add-one k)
    ∙ (ap (filter_map h) (take-suc xs k x inside)
    ∙ (filter_map-append h (take k xs) (get_or xs k x ∷ [])
    ∙ ap (λ (ys : List _). filter_map h (take k xs) ++ ys) (ap (λ (y : X). filter_map h (y ∷ [])) (sym is) ∙ one_more (h x))))

-- one more number
pub range_next : (first count : ℕ) → range_with_len first (count + 1) ≡ range_with_len first count ++ (first + count) ∷ []
range_next first zero = let e : first ≡ first + 0 = omega arith in ap (λ (n : ℕ). n ∷ []) e
range_next first (suc count) =
    let e : (first + 1) + count ≡ first + suc count = omega arith in
    let more : suc count + 1 ≡ suc (count + 1) = omega arith in
    ap (range_with_len first) more
    ∙ ap (λ (l : List ℕ). first ∷ l) (range_next (first + 1) count ∙ ap (λ (n : ℕ). range_with_len (first + 1) count ++ n ∷ []) e)

-- what is gathered from one more number
pub numbers_next : {Y : Type 0} (h : ℕ → Option Y) (count : ℕ)
    → filter_map h (range_with_len 0 (count + 1)) ≡ filter_map h (range_with_len 0 count) ++ option_to_list (h count)
numbers_next h count =
    let e : 0 + count ≡ count = omega arith in
    ap (filter_map h) (range_next 0 count)
    ∙ filter_map-append h (range_with_len 0 count) ((0 + count) ∷ [])
    ∙ ap (λ (n : ℕ). filter_map h (range_with_len 0 count) ++ filter_map h (n ∷ [])) e
    ∙ ap (λ (ys : List _). filter_map h (range_with_len 0 count) ++ ys) (one_more (h count))

-- the rows of one more element are added
pub next_added : {X : Type 0} (box : Box) (h : X → Option (List ℕ)) (xs : List X) (k : ℕ) (x : X) (old now new : Chunks) → k < length xs → x ≡ get_or xs k x
    → Adds box (filter_map h (take k xs)) old now → Adds box (option_to_list (h x)) now new → Adds box (filter_map h (take (k + 1) xs)) old new
next_added box h xs k x old now new inside is so_far more =
    added_then box (filter_map h (take k xs)) (option_to_list (h x)) (filter_map h (take (k + 1) xs)) old now new so_far more (filter_map_next h xs k x inside is)

-- the row of one more number is added
pub number_added : (box : Box) (h : ℕ → Option (List ℕ)) (count : ℕ) (old now new : Chunks)
    → Adds box (filter_map h (range_with_len 0 count)) old now → Adds box (option_to_list (h count)) now new
    → Adds box (filter_map h (range_with_len 0 (count + 1))) old new
number_added box h count old now new so_far more =
    added_then box (filter_map h (range_with_len 0 count)) (option_to_list (h count)) (filter_map h (range_with_len 0 (count + 1))) old now new so_far more (numbers_next h count)
