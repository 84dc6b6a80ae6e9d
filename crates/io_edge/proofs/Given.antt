-- What a link in memory gives.
use Rattle.std.proofs.Common.{◌≡◌, ◌<◌, ◌+◌, ◌-◌, ◌++◌, ℕ, List, [], ◌∷◌, Some, Vec, drop, take, map, length, refl, sym, ◌∙◌, slice_get, arith, add-one, length-drop, drop-cons, get_or, append-nil}
use Rattle.std.proofs.lemmas.Option.{slice_get_within, get_or_from_slice_get}
use Rattle.std.proofs.lemmas.List.{take-append-drop, drop-drop}
use Rattle.std.proofs.lemmas.Grind.{common_steps}
use Rattle.std.specs.declared.alloc.Global.{Global}
use Rattle.io_edge.specs.declared.mem_link.LinkItem.{LinkItem}
use Rattle.io_edge.specs.declared.mem_link.LinkItem.TheVariants.{Piece, End}
use Rattle.io_edge.specs.Links.{Answer, Gives, before_rest}
use Rattle.io_edge.specs.Links.Answer.{piece, ended}
use Rattle.io_edge.specs.MemLinks.{heard, answer_in, items_from}

-- the items from a place on begin with the one there
items_at : (items : List LinkItem) (k : ℕ) (item : LinkItem) → slice_get items k ≡ Some item
    → drop k items ≡ item ∷ drop (k + 1) items
items_at items k item at =
    let here : get_or items k item ≡ item = get_or_from_slice_get items k item item at in
    let same : drop k items ≡ get_or items k item ∷ drop (k + 1) items
    = rw (add-one k) (drop-cons items k item (slice_get_within items k item at)) in
    same ∙ rw here refl

-- all of an item
items_whole : (items : List LinkItem) → items_from 0 items ≡ map answer_in items
items_whole [] = refl
items_whole (x ∷ items) = refl

heard_bytes : (bytes : List ℕ) → 0 < length bytes → heard bytes ≡ piece bytes
heard_bytes [] some = absurd (omega arith)
heard_bytes (x ∷ bytes) some = refl

before_bytes : (bytes : List ℕ) (rest : List Answer) → 0 < length bytes → before_rest bytes rest ≡ piece bytes ∷ rest
before_bytes [] rest some = absurd (omega arith)
before_bytes (x ∷ bytes) rest some = refl

pub gives_end : (items : List LinkItem) (k at : ℕ) → slice_get items k ≡ Some End
    → Gives (items_from at (drop k items)) ended (items_from at (drop k items))
gives_end items k at here = rw (items_at items k End here) (tt, refl)

-- a slice from a place on
pub tail_of : (xs ys : List ℕ) (at : ℕ) → xs ≡ ys → take (length xs - at) (drop at xs) ≡ drop at ys
tail_of xs ys at same = rw (← same) (grind (arith, common_steps, length-drop at xs))

-- a part of a piece
pub gives_part : (items : List LinkItem) (k at n : ℕ) (bytes : Vec ℕ Global) (rest front : List ℕ)
    → slice_get items k ≡ Some (Piece bytes) → rest ≡ drop at bytes.items → front ≡ take n rest → n < length rest
    → Gives (items_from at (drop k items)) (piece front) (items_from (at + n) (drop k items))
gives_part items k at n bytes rest front here is taken short =
    let items_left = map answer_in (drop (k + 1) items) in
    let more = drop n rest in
    let cut : drop (at + n) bytes.items ≡ more = sym (drop-drop n at bytes.items) ∙ rw is refl in
    let some : 0 < length rest = omega arith in
    let left : 0 < length more = rw (length-drop n rest) (omega arith) in
    let whole : front ++ more ≡ rest = rw taken (take-append-drop n rest) in
    let old : items_from at (drop k items) ≡ piece rest ∷ items_left
    = rw (items_at items k (Piece bytes) here, ← is, heard_bytes rest some) refl in
    let new : items_from (at + n) (drop k items) ≡ piece more ∷ items_left
    = rw (items_at items k (Piece bytes) here, cut, heard_bytes more left) refl in
    (more, items_left, old ∙ rw whole refl, new ∙ sym (before_bytes more items_left left))

-- the rest of a piece
pub gives_rest : (items : List LinkItem) (k at n : ℕ) (bytes : Vec ℕ Global) (rest front : List ℕ)
    → slice_get items k ≡ Some (Piece bytes) → rest ≡ drop at bytes.items → front ≡ take n rest → n ≡ length rest
    → 0 < n → Gives (items_from at (drop k items)) (piece front) (items_from 0 (drop (k + 1) items))
gives_rest items k at n bytes rest front here is taken all some =
    let items_left = map answer_in (drop (k + 1) items) in
    let whole : front ++ [] ≡ rest = rw (taken, append-nil (take n rest)) (grind (arith, common_steps)) in
    let many : 0 < length rest = omega arith in
    let old : items_from at (drop k items) ≡ piece rest ∷ items_left
    = rw (items_at items k (Piece bytes) here, ← is, heard_bytes rest many) refl in
    ([], items_left, old ∙ rw whole refl, items_whole (drop (k + 1) items))
