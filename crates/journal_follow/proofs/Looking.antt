-- What is told of a file, as it was and as it is.
use Rattle.std.proofs.Common.{◌≡◌, ℕ, ◌+◌, ◌<◌, ◌≤◌, inl, inr, List, ◌++◌, Option, None, Some, IfSome, length, take, drop, sym, ◌∙◌, ap, arith, length-drop, length-take}
use Rattle.std.proofs.lemmas.Bool.{cases_lt}
use Rattle.std.proofs.lemmas.List.{take_all, length-take-le}
use Rattle.day_journal.specs.Log.{size_of}
use Rattle.journal_follow.specs.Files.{BeginsWith, GoesOn, IsPiece, IsFoundIn, IsLongOrAll}
use Rattle.journal_follow.specs.Following.{HasFollowed, IsFound}
use Rattle.journal_follow.specs.declared.piece.Stop.{Stop}
use Rattle.journal_follow.proofs.Finding.{found, size_of-append}

pub if_both : (o : Option (List ℕ)) (P Q R : List ℕ → Type 0) → ((f : List ℕ) → P f → Q f → R f) → IfSome o P → IfSome o Q → IfSome o R
if_both (Some f) P Q R make p q = make f p q
if_both None P Q R make p q = q

pub if_then : (o : Option (List ℕ)) (P Q : List ℕ → Type 0) → ((f : List ℕ) → P f → Q f) → IfSome o P → IfSome o Q
if_then (Some f) P Q make p = make f p
if_then None P Q make p = p

pub begins_later : (old new : Option (List ℕ)) (past : List (List ℕ)) → GoesOn old new → IfSome old (BeginsWith past) → IfSome new (BeginsWith past)
begins_later (Some old) (Some new) past on begins = on past begins
begins_later None None past on begins = begins
begins_later (Some old) None past on begins = absurd on
begins_later None (Some new) past on begins = absurd on

-- where at most one byte was read, that is all that stands there
pub rest_is : (room file : List ℕ) (count place : ℕ) → length room ≡ 65536 → count ≤ 1 → IsPiece room count place file → drop place file ≡ take count room
rest_is room file count place size few piece =
    let all : length (drop place file) ≡ count = piece.end (omega (arith, size, few)) in
    sym (take_all count (drop place file) (omega (arith, all))) ∙ sym piece.bytes

-- what is found in a piece that was read is found in the file
pub read_found : (room file : List ℕ) (count : ℕ) (past lines : List (List ℕ)) (stop : Stop) → length room ≡ 65536 → 1 < count → count ≤ length room
    → IsPiece room count (size_of past) file → BeginsWith past file
    → ((rest : List ℕ) → take (length (take count room)) rest ≡ take count room → IsFoundIn (take count room) rest lines stop) → IsFound past lines stop file
read_found room file count past lines stop size some fits piece begins is =
    let rest = drop (size_of past) file in
    let length_is : length (take count room) ≡ count = length-take-le count room fits in
    let begins_there : take (length (take count room)) rest ≡ take count room = ap (λ (n : ℕ). take n rest) length_is ∙ sym piece.bytes in
    let longer : count ≤ length rest = omega (arith, length-take count rest, ap length piece.bytes, length_is) in
    let all : IsLongOrAll (take count room) rest = elim (cases_lt count (length room)) [
      | inl short ↦ inr (omega (arith, piece.end short, length_is))
      | inr full ↦ inl (omega (arith, full, size, length_is))
    ] in
    found file (take count room) past lines stop begins (omega (arith, longer, some, length-drop (size_of past) file)) all (is rest begins_there)

-- the lines that were found were worked
pub followed : (has_taken : List (List ℕ) → Type 0) (told : Option (List ℕ)) (place size : ℕ) (past lines : List (List ℕ)) (stop : Stop) → place ≡ size_of past
    → size ≡ size_of lines → has_taken (past ++ lines) → IfSome told (IsFound past lines stop) → HasFollowed has_taken told (place + size) (past ++ lines)
followed has_taken told place size past lines stop at is taken found =
    record {
      taken = taken;
      size = omega (arith, at, is, size_of-append past lines);
      front = if_then told (IsFound past lines stop) (BeginsWith (past ++ lines)) (λ f (there : IsFound past lines stop f). there.front) found;
    }
