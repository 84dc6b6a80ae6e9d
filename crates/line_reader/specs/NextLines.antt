-- What the next line of a file is, or why there is none.
use Rattle.std.specs.Prelude.{◌≡◌, ◌≤◌, ◌+◌, ◌++◌, ◌∷◌, ℕ, Bool, List, Option, false, length, nat_lt, ⊤}
use Rattle.std.specs.Io.KnownBytes.{IsAtEnd}
use Rattle.std.specs.Borrow.{follows_so, Fml, RattleType, MutBor}
use mathlib.Core.Option.{none}
use Rattle.venue_words.specs.declared.limits.TheConstants.{MAX_LINE_BYTES}
use Rattle.script_text.specs.Lines.{has_end}
use Rattle.line_reader.specs.Reading.{Reading, Reads, BeginsTooLong, holds}
use Rattle.line_reader.specs.declared.reader.NextLine.{NextLine}
use Rattle.line_reader.specs.declared.reader.NextLine.TheVariants.{Line, End, TooLong, ReadFault}

-- behind a line
abbrev pub behind : Reading → List ℕ → List ℕ → Reading
behind reading text held =
    record reading { lines = reading.lines + 1; bytes = reading.bytes + length text + 1; held = held }

-- the line stood at the front of what was held and what was read, and the rest is held
pub record HandsOut (old new : Reading) (before left : Option (List ℕ)) (text : List ℕ) (is_over : Bool) : Type 0 where
  pub clear : has_end text ≡ false
  pub short : length text ≤ MAX_LINE_BYTES
  pub reads : Reads before left old.held (text ++ 10 ∷ new.held)
  pub next : new ≡ behind old text new.held
  pub over : is_over ≡ nat_lt old.most new.bytes

-- all was read, and no line ends in the rest
pub record IsAllRead (old new : Reading) (before left : Option (List ℕ)) (rest : List ℕ) : Type 0 where
  pub clear : has_end rest ≡ false
  pub short : length rest ≤ MAX_LINE_BYTES
  pub reads : Reads before left old.held rest
  pub ended : IsAtEnd left
  pub same : new ≡ holds old rest

-- the next line is too long
pub record IsTooLong (old new : Reading) (before left : Option (List ℕ)) : Type 0 where
  pub long : BeginsTooLong new.held
  pub reads : Reads before left old.held new.held
  pub same : new ≡ holds old new.held

-- a read failed: what was given is held, and no line ends in it
pub record IsCutOff (old new : Reading) (before left : Option (List ℕ)) : Type 0 where
  pub clear : has_end new.held ≡ false
  pub short : length new.held ≤ MAX_LINE_BYTES
  pub reads : Reads before left old.held new.held
  pub same : new ≡ holds old new.held

-- a call of `next`: the reader and what the shelf has left, before and after it
abbrev pub Gives : Reading → Option (List ℕ) → Reading → Option (List ℕ) → NextLine → Type 0
Gives old before new left (Line text is_over) = HandsOut old new before left text.now is_over
Gives old before new left (End rest) = IsAllRead old new before left rest.now
Gives old before new left TooLong = IsTooLong old new before left
Gives old before new left ReadFault = IsCutOff old new before left

-- the fact holds of the value behind the reference once the result's borrow of it is over
abbrev pub Rests : (R : RattleType) → MutBor R.Denot → (R.Denot → Type 0) → Fml
Rests R s P = follows_so R R s.ghost_name none (λ _ _. ⊤) P
