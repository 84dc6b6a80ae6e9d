-- What a piece of a file says of what stands from its place on.
use Rattle.std.proofs.Common.{◌≡◌, ◌≢◌, ℕ, ◌+◌, ◌<◌, ◌≤◌, ◌⊎◌, inl, inr, ⊎_elim, true, false, List, [], ◌∷◌, ◌++◌, length, take, drop, get_or, refl, sym, ◌∙◌, ap, subst, arith, length-take, length-append}
use Rattle.std.proofs.lemmas.List.{append-nil, take_all, take-take, take-append-le, get_or-drop}
use Rattle.day_journal.specs.Log.{Reading, intact, with_lines, read_all, reading, size_of, length_in}
use Rattle.day_journal.specs.LogLaws.{way, shut, bad, whole, read_closed, read_open, read_broken, read_prefix, ends_inside, ends_shut, same_byte, same_length}
use Rattle.day_journal.proofs.Opening.{long_reading}
use Rattle.venue_words.specs.declared.limits.TheConstants.{MAX_LINE_BYTES}
use Rattle.journal_follow.specs.Files.{BeginsWith, IsFoundIn, IsLongOrAll}
use Rattle.journal_follow.specs.declared.piece.Stop.TheVariants.{Closed, Damaged, Cut}

pub no_shorter : (rest piece : List ℕ) → take (length piece) rest ≡ piece → length piece ≤ length rest
no_shorter rest piece begins = omega (arith, length-take (length piece) rest, ap length begins)

same : (rest piece : List ℕ) → take (length piece) rest ≡ piece → take (length piece) rest ≡ take (length piece) piece
same rest piece begins = begins ∙ sym (take_all (length piece) piece (omega arith))

same_front : (rest piece : List ℕ) (n : ℕ) → n ≤ length piece → take (length piece) rest ≡ piece → take n rest ≡ take n piece
same_front rest piece n le begins = sym (take-take n (length piece) rest le) ∙ ap (λ (l : List ℕ). take n l) begins

-- the lines of a part that reads as no damage are those that the whole begins with
begins_as : (rest part : List ℕ) (lines : List (List ℕ)) → read_all part ≡ intact lines → take (size_of lines) rest ≡ take (size_of lines) part
    → size_of lines < length rest → BeginsWith lines rest
begins_as rest part lines is = subst (λ (ls : List (List ℕ)). take (size_of ls) rest ≡ take (size_of ls) part → size_of ls < length rest → BeginsWith ls rest)
    (ap (λ (r : Reading). r.lines) is) (λ same inside. read_prefix part rest (ap (λ (r : Reading). r.damaged) is) same inside)

inside : (part : List ℕ) (lines : List (List ℕ)) → 0 < length part → read_all part ≡ intact lines → size_of lines < length part
inside part lines some is = subst (λ (ls : List (List ℕ)). size_of ls < length part) (ap (λ (r : Reading). r.lines) is) (ends_inside part some (ap (λ (r : Reading). r.damaged) is))

gate_after : (part : List ℕ) (lines : List (List ℕ)) → 0 < length part → read_all part ≡ intact lines → get_or part (size_of lines) 0 ≢ 1
gate_after part lines some is = subst (λ (ls : List (List ℕ)). get_or part (size_of ls) 0 ≢ 1) (ap (λ (r : Reading). r.lines) is) (ends_shut part some (ap (λ (r : Reading). r.damaged) is))

pub whole_inside : (piece : List ℕ) (lines : List (List ℕ)) → 1 < length piece → reading piece ≡ intact lines → size_of lines ≤ length piece
whole_inside piece lines long is = let in_piece = inside piece lines (omega (arith, long)) (sym (long_reading piece long) ∙ is) in omega (arith, in_piece)

-- a piece that ends after a closed gate
pub whole_found : (piece rest : List ℕ) (lines : List (List ℕ)) → 1 < length piece → reading piece ≡ intact lines → take (length piece) rest ≡ piece
    → IsFoundIn piece rest lines Closed
whole_found piece rest lines long is begins =
    let read : read_all piece ≡ intact lines = sym (long_reading piece long) ∙ is in
    let some : 0 < length piece = omega (arith, long) in
    let n = size_of lines in
    let in_piece : n < length piece = inside piece lines some read in
    let front = begins_as rest piece lines read (same_front rest piece n (omega (arith, in_piece)) begins) (omega (arith, in_piece, no_shorter rest piece begins)) in
    let byte : get_or rest n 0 ≡ get_or piece n 0 = same_byte (length piece) n piece rest in_piece (same rest piece begins) in
    let closed : get_or (drop n rest) 0 0 ≢ 1 = λ one. gate_after piece lines some read (sym byte ∙ ap (λ (k : ℕ). get_or rest k 0) (omega arith) ∙ sym (get_or-drop n rest 0 0) ∙ one) in
    record {
      front = front;
      closed = λ c. front ∙ ap (λ (r : Reading). with_lines lines r) (read_closed (drop n rest) closed) ∙ ap intact (append-nil lines);
      damaged = λ d. absurd (cc);
    }

-- the front of a piece, with a closed gate after it
front_length : (front : List ℕ) → length (front ++ 0 ∷ []) ≡ length front + 1
front_length front = length-append front (0 ∷ [])

pub front_inside : (front : List ℕ) (lines : List (List ℕ)) → 0 < length front → reading (front ++ 0 ∷ []) ≡ intact lines → size_of lines ≤ length front
front_inside front lines some is =
    let long : 1 < length (front ++ 0 ∷ []) = omega (arith, front_length front, some) in
    let in_part = inside (front ++ 0 ∷ []) lines (omega (arith, long)) (sym (long_reading (front ++ 0 ∷ []) long) ∙ is) in
    omega (arith, in_part, front_length front)

pub front_found : (front piece rest : List ℕ) (lines : List (List ℕ)) → 0 < length front → reading (front ++ 0 ∷ []) ≡ intact lines
    → length front < length rest → take (length front) rest ≡ front → IsFoundIn piece rest lines Cut
front_found front piece rest lines some is longer begins =
    let part = front ++ 0 ∷ [] in
    let long : 1 < length part = omega (arith, front_length front, some) in
    let n = size_of lines in
    let le : n ≤ length front = front_inside front lines some is in
    let same_part : take n rest ≡ take n part = same_front rest front n le begins ∙ sym (take-append-le n front (0 ∷ []) le) in
    record {
      front = begins_as rest part lines (sym (long_reading part long) ∙ is) same_part (omega (arith, le, longer));
      closed = λ c. absurd (cc);
      damaged = λ d. absurd (cc);
    }

pub none_found : (piece rest : List ℕ) → IsFoundIn piece rest [] Cut
none_found piece rest = record { front = refl; closed = λ c. absurd (cc); damaged = λ d. absurd (cc) }

-- a piece whose first line is not whole
broken_rest : (piece rest : List ℕ) → 1 < length piece → take (length piece) rest ≡ piece → IsLongOrAll piece rest → get_or piece 0 0 ≡ 1
    → (MAX_LINE_BYTES < length_in piece) ⊎ (length piece ≤ 5 + length_in piece) → read_all rest ≡ record { lines = []; damaged = true }
broken_rest piece rest long begins (inr all) is_open why =
    let is : rest ≡ piece = sym (take_all (length piece) rest all) ∙ begins in
    ap read_all is ∙ read_broken piece is_open why
broken_rest piece rest long begins (inl much) is_open why =
    let open_there : get_or rest 0 0 ≡ 1 = same_byte (length piece) 0 piece rest (omega (arith, long)) (same rest piece begins) ∙ is_open in
    let length_there : length_in rest ≡ length_in piece = same_length (length piece) piece rest (omega (arith, much)) (same rest piece begins) in
    let too_long : MAX_LINE_BYTES < length_in piece = ⊎_elim (λ far. far) (λ short. omega (arith, short, much)) why in
    read_broken rest open_there (inl (omega (arith, length_there, too_long)))

pub damaged_found : (piece rest : List ℕ) → 1 < length piece → (reading piece).damaged ≡ true → size_of (reading piece).lines ≡ 0 → take (length piece) rest ≡ piece
    → IsFoundIn piece rest [] Damaged
damaged_found piece rest long damaged none begins =
    let is : reading piece ≡ read_all piece = long_reading piece long in
    record {
      front = refl;
      closed = λ c. absurd (cc);
      damaged = λ d. (
        refl,
        λ all. elim (way piece) [
          | shut closed ↦ absurd (let fine : false ≡ true = sym (ap (λ (r : Reading). r.damaged) (is ∙ read_closed piece closed)) ∙ damaged in cc)
          | bad is_open why ↦ broken_rest piece rest long begins all is_open why
          | whole is_open fits in_piece ↦ absurd (let size = ap (λ (r : Reading). size_of r.lines) (is ∙ read_open piece is_open fits in_piece) in omega (arith, size, none))
        ],
      );
    }
