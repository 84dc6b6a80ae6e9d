-- Turns over a link: what it answers at which moments, and what is put.
use Rattle.std.specs.Prelude.{◌≡◌, ◌++◌, ◌∷◌, [], ℕ, ℤ, List, Option, Some, None, Result, Ok, Err, map, MatchResult}
use Rattle.std.specs.List.{flat_map}
use Rattle.io_edge.specs.declared.edge.Failed.{Failed}
use Rattle.io_edge.specs.Links.{Answer, Told, Tells, CountsEnds, answer_of}
use Rattle.link_work.specs.declared.asking.Asked.{Asked}

-- the bytes of frames, one behind the other
abbrev pub joined : List (List ℕ) → List ℕ
joined frames = flat_map (λ frame. frame) frames

-- what a turn begins with: what the link answered, and the clock's moment
pub record LinkTurn : Type 0 where
  pub answer : Answer
  pub moment : ℤ

-- the turn that began so
abbrev pub turn_of : Asked → List ℕ → LinkTurn
turn_of asked buffer = record { answer = answer_of asked.pulled buffer; moment = asked.moment }

-- the link answered these turns, and these bytes were put
pub record Answered (turns : List LinkTurn) (put : List ℕ) (old new : Told) : Type 0 where
  pub answers : new.answers ≡ old.answers ++ map (λ turn. turn.answer) turns
  pub put_is : new.put ≡ old.put ++ put

-- a clock that tells now has told before, and gave these moments
abbrev pub GaveMoments : List ℤ → Option (List ℤ) → Option (List ℤ) → Type 0
GaveMoments moments old None = Unit {0}
GaveMoments moments None (Some new) = ⊥
GaveMoments moments (Some old) (Some new) = new ≡ old ++ moments

-- over a link and a clock, where they tell, these turns were taken and these bytes were put
pub record TurnsWere (turns : List LinkTurn) (put : List ℕ) (link : Option Told) (clock : Option (List ℤ)) (link' : Option Told) (clock' : Option (List ℤ)) : Type 0 where
  pub link_told : Tells (Answered turns put) link link'
  pub clock_told : GaveMoments (map (λ turn. turn.moment) turns) clock clock'

-- a turn began, or the pull failed and none did
abbrev pub Asks : Option Told → Option (List ℤ) → Option Told → Option (List ℤ) → Result Asked Failed → List ℕ → Type 0
Asks link clock link' clock' result buffer =
    MatchResult result (λ asked. TurnsWere (turn_of asked buffer ∷ []) [] link clock link' clock')
    (λ _. (link' ≡ link) × (clock' ≡ clock))

-- a count of ends rises exactly where the peer gives no more
abbrev pub EndsOnlyAt : ℕ → ℕ → Result Asked Failed → Type 0
EndsOnlyAt before now (Ok asked) = CountsEnds before now (Ok asked.pulled)
EndsOnlyAt before now (Err e) = now ≡ before
