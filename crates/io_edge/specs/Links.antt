-- What a link has still to give, what its pulls answered and what was put to it.
use Rattle.std.specs.Prelude.{◌≡◌, ◌<◌, ◌≤◌, ◌++◌, ◌∷◌, [], ℕ, List, Option, Some, None, Result, Ok, Err, take, length, MatchResult}
use Rattle.venue_words.specs.Causes.{Rose}
use Rattle.io_edge.specs.declared.edge.Failed.{Failed}
use Rattle.io_edge.specs.declared.link.Pulled.{Pulled}
use Rattle.io_edge.specs.declared.link.Pulled.TheVariants.{Bytes, Quiet, End}

-- what a pull answers, with its bytes
pub data Answer : Type 0 where
  piece : List ℕ → Answer
  quiet : Answer
  ended : Answer

-- what a link tells; of what is left, a piece may be pulled in parts
pub record Told : Type 0 where
  pub left : List Answer
  pub answers : List Answer
  pub put : List ℕ

-- the answer that is in a buffer
abbrev pub answer_of : Pulled → List ℕ → Answer
answer_of (Bytes n) buffer = piece (take n buffer)
answer_of Quiet buffer = quiet
answer_of End buffer = ended

-- the bytes that are there are some, and in the buffer
abbrev pub IsInside : Pulled → List ℕ → Type 0
IsInside (Bytes n) buffer = (0 < n) × (n ≤ length buffer)
IsInside Quiet buffer = Unit {0}
IsInside End buffer = Unit {0}

-- a piece, where it has bytes, and the rest
abbrev pub before_rest : List ℕ → List Answer → List Answer
before_rest [] rest = rest
before_rest (x ∷ xs) rest = piece (x ∷ xs) ∷ rest

-- nothing more is given
abbrev pub IsOver : List Answer → Type 0
IsOver [] = Unit {0}
IsOver (ended ∷ rest) = Unit {0}
IsOver (piece bytes ∷ rest) = ⊥
IsOver (quiet ∷ rest) = ⊥

-- this answer is the next one, and this is left behind it; the end stays
abbrev pub Gives : List Answer → Answer → List Answer → Type 0
Gives old (piece bytes) new = (more : List ℕ) × (rest : List Answer)
    × (old ≡ piece (bytes ++ more) ∷ rest) × (new ≡ before_rest more rest)
Gives old quiet new = old ≡ quiet ∷ new
Gives old ended new = IsOver old × (new ≡ old)

-- a link gave this answer
pub record Gave (answer : Answer) (old new : Told) : Type 0 where
  pub left : Gives old.left answer new.left
  pub answers : new.answers ≡ old.answers ++ answer ∷ []
  pub put : new.put ≡ old.put

-- a link that tells goes on telling, and did this
abbrev pub Tells : (Told → Told → Type 0) → Option Told → Option Told → Type 0
Tells did None new = Unit {0}
Tells did (Some old) None = ⊥
Tells did (Some old) (Some new) = did old new

-- a pull gives the next answer; a failed one leaves all as it was
abbrev pub Pulls : Option Told → Option Told → Result Pulled Failed → List ℕ → Type 0
Pulls old new result buffer =
    MatchResult result (λ pulled. Tells (Gave (answer_of pulled buffer)) old new) (λ _. new ≡ old)

-- these bytes were put, and nothing else changed
abbrev pub WasPut : List ℕ → Told → Told → Type 0
WasPut bytes old new = new ≡ record old { put = old.put ++ bytes }

-- the piece was put at `Ok`, and a prefix of it at `Err`
abbrev pub PutsPiece : {T E : Type 0} → Option Told → Option Told → Result T E → List ℕ → Type 0
PutsPiece old new result bytes = MatchResult result (λ _. Tells (WasPut bytes) old new)
    (λ _. (k : ℕ) × Tells (WasPut (take k bytes)) old new)

-- a count of ends rises exactly where `End` is answered
abbrev pub CountsEnds : ℕ → ℕ → Result Pulled Failed → Type 0
CountsEnds before now (Ok End) = Rose before now × (before ≤ now)
CountsEnds before now (Ok (Bytes n)) = now ≡ before
CountsEnds before now (Ok Quiet) = now ≡ before
CountsEnds before now (Err e) = now ≡ before
