-- The lines of a file that reads without damage.
use Rattle.std.proofs.Common.{◌≡◌, ℕ, zero, suc, ◌+◌, ◌≤◌, List, [], ◌∷◌, length, take, drop, get_or, Some, slice_get, sym, ap, subst, arith, length-drop, inl, inr}
use Rattle.std.proofs.lemmas.Bool.{cases_lt}
use Rattle.std.proofs.lemmas.List.{get_or_past, length-take}
use Rattle.std.proofs.lemmas.Option.{get_or_from_slice_get}
use Rattle.venue_words.specs.declared.limits.TheConstants.{MAX_LINE_BYTES}
use Rattle.day_journal.specs.Log.{Reading, intact, length_in, read_all, reading}
use Rattle.day_journal.specs.LogLaws.{way, shut, whole, bad, read_closed, read_open, read_broken, reading_is, reading_short}

-- each of these lines may stand in a script
abbrev AreShort : List (List ℕ) → Type 0
AreShort [] = Unit {0}
AreShort (line ∷ lines) = (length line ≤ MAX_LINE_BYTES) × AreShort lines

short_or : (lines : List (List ℕ)) (k : ℕ) → AreShort lines → length (get_or lines k []) ≤ MAX_LINE_BYTES
short_or [] k x = omega (arith, ap (λ (l : List ℕ). length l) (get_or_past [] k [] (omega arith)))
short_or (line ∷ lines) zero x = x.0
short_or (line ∷ lines) (suc k) x = short_or lines k x.1

short_in : (bytes : List ℕ) (n : ℕ) → n ≤ MAX_LINE_BYTES → length (take n bytes) ≤ MAX_LINE_BYTES
short_in bytes n le = omega (arith, length-take n bytes, le)

none_open : (bytes : List ℕ) → length bytes ≤ 0 → get_or bytes 0 0 ≡ 1 → ⊥
none_open bytes none is = let past : get_or bytes 0 0 ≡ 0 = get_or_past bytes 0 0 none in absurd (omega (arith, past, is))

short_from : (turns : ℕ) (bytes : List ℕ) → length bytes ≤ turns → AreShort (read_all bytes).lines
short_from zero bytes le = subst (λ (r : Reading). AreShort r.lines) (sym (read_closed bytes (none_open bytes le))) tt
short_from (suc turns) bytes le = elim (way bytes) [
  | shut closed ↦ subst (λ (r : Reading). AreShort r.lines) (sym (read_closed bytes closed)) tt
  | bad is_open why ↦ subst (λ (r : Reading). AreShort r.lines) (sym (read_broken bytes is_open why)) tt
  | whole is_open fits inside ↦
      subst (λ (r : Reading). AreShort r.lines) (sym (read_open bytes is_open fits inside)) (
        short_in (drop 5 bytes) (length_in bytes) fits,
        short_from turns (drop (5 + length_in bytes) bytes) (omega (arith, length-drop (5 + length_in bytes) bytes, le, inside)),
      )
]

short_file : (file : List ℕ) → AreShort (reading file).lines
short_file file = elim (cases_lt 1 (length file)) [
  | inl long ↦ subst (λ (r : Reading). AreShort r.lines) (sym (reading_is file (λ short. absurd (omega (arith, long, short))))) (short_from (length file) file (omega arith))
  | inr short ↦ subst (λ (r : Reading). AreShort r.lines) (sym (reading_short file short)) tt
]

-- a line of a journal may stand in a script
pub short_line : (file : List ℕ) (lines : List (List ℕ)) (k : ℕ) (line : List ℕ) → reading file ≡ intact lines
    → slice_get lines k ≡ Some line → length line ≤ MAX_LINE_BYTES
short_line file lines k line e at =
    let short = short_or lines k (subst (λ (r : Reading). AreShort r.lines) e (short_file file)) in
    omega (arith, short, ap (λ (l : List ℕ). length l) (get_or_from_slice_get lines k line [] at))
