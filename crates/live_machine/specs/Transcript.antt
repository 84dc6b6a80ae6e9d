-- What `pegreplay` prints of the lines of a day.
use Rattle.std.specs.Prelude.{◌≡◌, ℕ, List, [], ◌∷◌, ◌++◌, None, Some}
use Rattle.replay_core.specs.Play.{Place, Played, Body, script}
use Rattle.replay_core.specs.Playing.{Playing}
use Rattle.live_core.specs.Lines.{kept, output}
use Rattle.live_machine.specs.Taking.{place_after, yields}

-- each of some lines is taken after those before it
abbrev pub AreTaken : List (List ℕ) → Type 0
AreTaken lines = kept yields [] lines ≡ lines

-- the header among some lines is whole
abbrev pub HasWholeHeader : List (List ℕ) → Type 0
HasWholeHeader lines = (place : Place) × (playing : Playing) × (place_after lines ≡ Some place) × (place.stage ≡ Body playing)

-- lines as the text of a script, each with its LF
abbrev pub script_of : List (List ℕ) → List ℕ
script_of [] = []
script_of (line ∷ lines) = line ++ 10 ∷ script_of lines

-- what `pegreplay` makes of lines as a script
abbrev pub replayed : List (List ℕ) → Played
replayed lines = script (script_of lines)

-- All that the lines of a journal yield is the text that `pegreplay` prints of them.
abbrev pub OutputIsTranscript : Type 0
OutputIsTranscript = (lines : List (List ℕ)) → AreTaken lines → output yields [] lines ≡ (replayed lines).text

-- `pegreplay` refuses nothing of a journal that has a whole header.
abbrev pub JournalIsScript : Type 0
JournalIsScript = (lines : List (List ℕ)) → AreTaken lines → HasWholeHeader lines → (replayed lines).fault ≡ None

-- What more lines yield after a journal is what `pegreplay` prints of the journal with those that are taken, after what it prints of
-- the journal alone.
abbrev pub OutputGoesOn : Type 0
OutputGoesOn = (past more : List (List ℕ)) → AreTaken past
    → (replayed (past ++ kept yields past more)).text ≡ (replayed past).text ++ output yields past more

-- A journal with more lines that are taken is a journal.
abbrev pub JournalGoesOn : Type 0
JournalGoesOn = (past more : List (List ℕ)) → AreTaken past → AreTaken (past ++ kept yields past more)
