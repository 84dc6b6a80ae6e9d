-- From the lines that a file begins with to those that are found next.
use Rattle.std.proofs.Common.{◌≡◌, ◌≢◌, true, ℕ, ◌+◌, ◌-◌, ◌<◌, ◌≤◌, List, [], ◌∷◌, ◌++◌, length, drop, get_or, inl, inr, refl, sym, ◌∙◌, ap, subst, append_assoc, arith, length-drop}
use Rattle.std.proofs.lemmas.Bool.{cases_lt}
use Rattle.std.proofs.lemmas.List.{append-nil, drop-drop}
use Rattle.day_journal.specs.Log.{Reading, intact, with_lines, read_all, reading, size_of}
use Rattle.day_journal.specs.LogLaws.{way, shut, bad, whole, read_closed, read_broken, reading_short}
use Rattle.day_journal.proofs.Opening.{long_reading}
use Rattle.journal_follow.specs.Files.{BeginsWith, IsFoundIn, IsLongOrAll}
use Rattle.journal_follow.specs.Following.{IsFound}
use Rattle.journal_follow.specs.declared.piece.Stop.{Stop}
use Rattle.journal_follow.specs.declared.piece.Stop.TheVariants.{Closed, Damaged}

pub size_of-append : (a b : List (List ℕ)) → size_of (a ++ b) ≡ size_of a + size_of b
size_of-append [] b = omega arith
size_of-append (line ∷ a) b = omega (arith, size_of-append a b)

pub after : (past lines : List (List ℕ)) (rest : Reading) → with_lines past (with_lines lines rest) ≡ with_lines (past ++ lines) rest
after past lines rest = ap (λ (ls : List (List ℕ)). let r : Reading = record { lines = ls; damaged = rest.damaged } in r) (sym (append_assoc past lines rest.lines))

-- the file begins with lines, and what stands after them with more
front_on : (file : List ℕ) (past lines : List (List ℕ)) → BeginsWith past file → BeginsWith lines (drop (size_of past) file) → BeginsWith (past ++ lines) file
front_on file past lines begins more =
    let rest = drop (size_of past) file in
    begins ∙ ap (λ (r : Reading). with_lines past r) more ∙ after past lines (read_all (drop (size_of lines) rest))
    ∙ ap (λ (b : List ℕ). with_lines (past ++ lines) (read_all b))
    (drop-drop (size_of lines) (size_of past) file ∙ ap (λ (n : ℕ). drop n file) (sym (size_of-append past lines)))

-- a file of at most one byte has no lines
short_none : (file : List ℕ) → length file ≤ 1 → (read_all file).lines ≡ []
short_none file short = elim (way file) [
  | shut closed ↦ ap (λ (r : Reading). r.lines) (read_closed file closed)
  | bad is_open why ↦ ap (λ (r : Reading). r.lines) (read_broken file is_open why)
  | whole is_open fits inside ↦ absurd (omega (arith, inside, short))
]

-- what is read of a file of which nothing but these lines is read
pub all_read : (file : List ℕ) (lines : List (List ℕ)) → read_all file ≡ intact lines → reading file ≡ intact lines
all_read file lines is = elim (cases_lt 1 (length file)) [
  | inl long ↦ long_reading file long ∙ is
  | inr short ↦
      let none : lines ≡ [] = sym (ap (λ (r : Reading). r.lines) is) ∙ short_none file (omega (arith, short)) in
      reading_short file (omega (arith, short)) ∙ ap intact (sym none)
]

-- what is found in a piece is found in the file
pub found : (file piece : List ℕ) (past lines : List (List ℕ)) (stop : Stop) → BeginsWith past file → 1 < length file
    → IsLongOrAll piece (drop (size_of past) file) → IsFoundIn piece (drop (size_of past) file) lines stop → IsFound past lines stop file
found file piece past lines stop begins long all is =
    record {
      front = front_on file past lines begins is.front;
      closed = λ c. all_read file (past ++ lines) (begins ∙ ap (λ (r : Reading). with_lines past r) (is.closed c));
      damaged = λ d.
          let none : lines ≡ [] = (is.damaged d).0 in
          long_reading file long ∙ begins ∙ ap (λ (r : Reading). with_lines past r) ((is.damaged d).1 all)
          ∙ ap (λ (ls : List (List ℕ)). let r : Reading = record { lines = past ++ ls; damaged = true } in r) (sym none);
    }

nothing_after : (n : ℕ) (file : List ℕ) → length (drop n file) ≡ 0 → drop n file ≡ []
nothing_after n file none = (elim (drop n file) as (λ (l : List ℕ). length l ≡ 0 → l ≡ []) [
  | [] ↦ λ is. refl
  | b ∷ bs ↦ λ is. absurd (omega (arith, is))
]) none

-- a closed gate stands after the lines that were worked, or nothing
pub found_shut : (file : List ℕ) (past : List (List ℕ)) → BeginsWith past file → get_or (drop (size_of past) file) 0 0 ≢ 1 → IsFound past [] Closed file
found_shut file past begins closed =
    let same : past ++ [] ≡ past = append-nil past in
    let rest : read_all (drop (size_of past) file) ≡ intact [] = read_closed (drop (size_of past) file) closed in
    record {
      front = subst (λ (l : List (List ℕ)). BeginsWith l file) (sym same) begins;
      closed = λ is. all_read file (past ++ []) (begins ∙ ap (λ (r : Reading). with_lines past r) rest);
      damaged = λ is. absurd (cc);
    }

none_past : (past : List (List ℕ)) → size_of past ≡ 0 → past ≡ []
none_past [] is = refl
none_past (line ∷ past) is = absurd (omega (arith, is))

-- the file has one byte
pub found_byte : (file : List ℕ) (past : List (List ℕ)) → BeginsWith past file → size_of past ≡ 0 → length file ≤ 1 → IsFound past [] Closed file
found_byte file past begins none short =
    let same : past ++ [] ≡ past = append-nil past in
    record {
      front = subst (λ (l : List (List ℕ)). BeginsWith l file) (sym same) begins;
      closed = λ is. reading_short file short ∙ ap intact (sym (same ∙ none_past past none));
      damaged = λ is. absurd (cc);
    }

-- an open gate is the last byte
pub found_open : (file : List ℕ) (past : List (List ℕ)) → BeginsWith past file → 1 < length file → get_or (drop (size_of past) file) 0 0 ≡ 1
    → length (drop (size_of past) file) ≤ 1 → IsFound past [] Damaged file
found_open file past begins long is_open last =
    let same : past ++ [] ≡ past = append-nil past in
    let rest : read_all (drop (size_of past) file) ≡ record { lines = []; damaged = true } =
    read_broken (drop (size_of past) file) is_open (inr (omega (arith, last))) in
    record {
      front = subst (λ (l : List (List ℕ)). BeginsWith l file) (sym same) begins;
      closed = λ is. absurd (cc);
      damaged = λ is. long_reading file long ∙ begins ∙ ap (λ (r : Reading). with_lines past r) rest;
    }

-- one byte or none that is no open gate
not_open : (bytes : List ℕ) → length bytes ≤ 1 → (bytes ≡ 1 ∷ [] → ⊥) → get_or bytes 0 0 ≢ 1
not_open [] short not one = absurd (omega (arith, one))
not_open (b ∷ []) short not one = not (ap (λ (x : ℕ). x ∷ []) one)
not_open (a ∷ b ∷ bytes) short not one = absurd (omega (arith, short))

-- what one byte or none says that stands after the lines, at the file's end
pub end_shut : (file bytes : List ℕ) (past : List (List ℕ)) → BeginsWith past file → drop (size_of past) file ≡ bytes → length bytes ≤ 1
    → (bytes ≡ 1 ∷ [] → ⊥) → IsFound past [] Closed file
end_shut file bytes past begins is short not =
    found_shut file past begins (λ one. not_open bytes short not (ap (λ (l : List ℕ). get_or l 0 0) (sym is) ∙ one))

pub end_first : (file bytes : List ℕ) (past : List (List ℕ)) → BeginsWith past file → drop (size_of past) file ≡ bytes → length bytes ≤ 1
    → size_of past ≡ 0 → IsFound past [] Closed file
end_first file bytes past begins is short none =
    let all : file ≡ bytes = ap (λ (n : ℕ). drop n file) (sym none) ∙ is in
    found_byte file past begins none (omega (arith, ap length all, short))

pub end_open : (file bytes : List ℕ) (past : List (List ℕ)) → BeginsWith past file → drop (size_of past) file ≡ bytes → bytes ≡ 1 ∷ []
    → 0 < size_of past → IsFound past [] Damaged file
end_open file bytes past begins is one some =
    let rest : drop (size_of past) file ≡ 1 ∷ [] = is ∙ one in
    let size : length file - size_of past ≡ 1 = sym (length-drop (size_of past) file) ∙ ap length rest in
    found_open file past begins (omega (arith, size, some)) (ap (λ (l : List ℕ). get_or l 0 0) rest) (omega (arith, ap length rest))
