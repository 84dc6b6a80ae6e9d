-- What is known of the held bytes once the next line was sought.
use Rattle.std.specs.Prelude.{◌≡◌, ◌≤◌, ◌<◌, ◌+◌, ◌++◌, ◌∷◌, ℕ, List, Option, Result, Ok, Err, false, length, take, drop}
use Rattle.std.specs.Io.KnownBytes.{IsAtEnd}
use Rattle.venue_words.specs.declared.limits.TheConstants.{MAX_LINE_BYTES}
use Rattle.script_text.specs.Lines.{has_end}
use Rattle.line_reader.specs.Reading.{Reads, BeginsTooLong}
use Rattle.line_reader.specs.declared.reader.Sought.{Sought}
use Rattle.line_reader.specs.declared.reader.Sought.TheVariants.{Line, End, TooLong, ReadFault}

-- a line of this length is held
pub record HoldsLine (held : List ℕ) (len : ℕ) : Type 0 where
  pub inside : len < length held
  pub short : len ≤ MAX_LINE_BYTES
  pub clear : has_end (take len held) ≡ false
  pub whole : held ≡ take len held ++ 10 ∷ drop (len + 1) held

-- no line ends in what is held, and it is not too long
pub record HoldsPart (held : List ℕ) : Type 0 where
  pub clear : has_end held ≡ false
  pub short : length held ≤ MAX_LINE_BYTES

abbrev pub Finds : List ℕ → Option (List ℕ) → Sought → Type 0
Finds held left (Line len) = HoldsLine held len
Finds held left End = HoldsPart held × IsAtEnd left
Finds held left TooLong = BeginsTooLong held
Finds held left ReadFault = HoldsPart held

-- one more read: so many bytes, none only at the end, or a failure
abbrev pub Refills : {E : Type 0} → Option (List ℕ) → Option (List ℕ) → List ℕ → List ℕ → Result ℕ E → Type 0
Refills before left held all (Ok n) = Reads before left held all × (length all ≡ length held + n) × (n ≡ 0 → IsAtEnd left)
Refills before left held all (Err fault) = Reads before left held all × (all ≡ held)
