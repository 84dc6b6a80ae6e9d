-- The held bytes before and after one more read.
use Rattle.std.proofs.Common.{◌≡◌, ℕ, ◌+◌, ◌-◌, ◌<◌, ◌≤◌, ◌||◌, ◌==◌, Bool, true, List, [], ◌∷◌, zero, suc, Option, Ok, false, length, take, drop, slice_range, ◌++◌, arith, length-take, length-drop, length-append, refl, ap}
use Rattle.std.proofs.Math.Seq.{take-add, take-append_seam}
use Rattle.std.proofs.lemmas.List.{take-append-drop, take-take, take_all}
use Rattle.std.specs.Io.KnownBytes.{Consumes, IsAtEnd}
use Rattle.venue_words.specs.declared.limits.TheConstants.{MAX_LINE_BYTES}
use Rattle.io_edge.specs.declared.edge.Failed.{Failed}
use Rattle.script_text.specs.Lines.{has_end}
use Rattle.script_text.specs.LinesLaws.{clear_append}
use Rattle.line_reader.specs.Reading.{BeginsTooLong}
use Rattle.line_reader.specs.Seeking.{Refills}

tail : (k : ℕ) (xs : List ℕ) → take (length xs - k) (drop k xs) ≡ drop k xs
tail k xs = take_all (length xs - k) (drop k xs) (omega (arith, length-drop k xs))

pub clear_take : (k at : ℕ) (xs : List ℕ) → has_end (take k xs) ≡ false → has_end (take at (take (length xs - k) (drop k xs))) ≡ false
    → has_end (take (k + at) xs) ≡ false
clear_take k at xs e h = rw (take-add k at xs) (clear_append (take k xs) (take at (drop k xs)) e (rw tail at h))

pub clear_all : (k : ℕ) (xs : List ℕ) → has_end (take k xs) ≡ false → has_end (take (length xs - k) (drop k xs)) ≡ false
    → has_end xs ≡ false
clear_all k xs e h = rw (← take-append-drop k xs) (clear_append (take k xs) (drop k xs) e (rw tail at h))

either_false : (a b : Bool) → (a || b) ≡ false → (a ≡ false) × (b ≡ false)
either_false true b e = cc
either_false false b e = (refl, e)

-- no line ends in the front of bytes in which none ends
clear_front : (k : ℕ) (xs : List ℕ) → has_end xs ≡ false → has_end (take k xs) ≡ false
clear_front zero xs e = refl
clear_front (suc k) [] e = refl
clear_front (suc k) (x ∷ xs) e =
    let parts = either_false (x == 10) (has_end xs) e in
    rw parts.0 (clear_front k xs parts.1)

-- a line that ends behind the most bytes of one
pub too_long : (len : ℕ) (held : List ℕ) → MAX_LINE_BYTES < len → len ≤ length held → has_end (take len held) ≡ false → BeginsTooLong held
too_long len held long inside clear = record {
  long = omega arith;
  clear = rw (take-take (MAX_LINE_BYTES + 1) len held (omega arith)) at (clear_front (MAX_LINE_BYTES + 1) (take len held) clear);
}

-- the bytes go on without an end
pub too_long_yet : (held : List ℕ) → MAX_LINE_BYTES < length held → has_end held ≡ false → BeginsTooLong held
too_long_yet held long clear = record { long = long; clear = clear_front (MAX_LINE_BYTES + 1) held clear }

pub front : (n : ℕ) (xs rest : List ℕ) → n ≡ length xs → take n (xs ++ rest) ≡ xs
front n xs rest e = rw e (take-append_seam xs rest)

pub refilled : (items new : List ℕ) (start end n : ℕ) (before left : Option (List ℕ))
    → end - start + 65536 ≤ length new → n ≤ 65536 → take (end - start) new ≡ slice_range items start end
    → Consumes before left (take n (drop (end - start) new)) → (n ≡ 0 → 0 < length (drop (end - start) new) → IsAtEnd left)
    → Refills {E = Failed} before left (slice_range items start end) (slice_range new 0 (end - start + n)) (Ok n)
refilled items new start end n before left room most kept taken ended =
    let all : end - start + n - 0 ≡ end - start + n = omega arith in
    let whole : slice_range items start end ++ take n (drop (end - start) new) ≡ slice_range new 0 (end - start + n) =
    rw (all, take-add (end - start) n new, kept) refl in
    let more : length (take n (drop (end - start) new)) ≡ n = omega (arith, length-take n (drop (end - start) new), length-drop (end - start) new) in (
      record { given = take n (drop (end - start) new); taken = taken; whole = whole },
      omega (arith, more, simp length-append at (ap length whole)),
      λ none. ended none (omega (arith, length-drop (end - start) new)),
    )
