-- Lists of calls of a framer, each with its answer.
use Rattle.std.specs.Prelude.{◌≡◌, ℕ, List, [], ◌∷◌, ◌++◌}
use Rattle.fix_frames.specs.Streams.{Stream, HasGiven, HasWaited, HasExceeded}

-- a call and its answer: a piece that was fed, or what came next
pub data Call : Type 0 where
  feeds : List ℕ → Call
  gave : List ℕ → Call
  waited : Call
  exceeded : Call

-- the calls lead from one stream to another: a piece is appended, and each answer of `next` is as its contract says
abbrev pub Leads : Stream → List Call → Stream → Type 0
Leads old [] new = old ≡ new
Leads old (feeds piece ∷ calls) new = (held : ℕ) × Leads (record { passed = old.passed; kept = old.kept ++ piece; held = held }) calls new
Leads old (gave frame ∷ calls) new = (next : Stream) × HasGiven old next frame × Leads next calls new
Leads old (waited ∷ calls) new = (next : Stream) × HasWaited old next × Leads next calls new
Leads old (exceeded ∷ calls) new = (next : Stream) × HasExceeded old next × Leads next calls new

-- the bytes that were fed
abbrev pub bytes_fed : List Call → List ℕ
bytes_fed [] = []
bytes_fed (feeds piece ∷ calls) = piece ++ bytes_fed calls
bytes_fed (gave frame ∷ calls) = bytes_fed calls
bytes_fed (waited ∷ calls) = bytes_fed calls
bytes_fed (exceeded ∷ calls) = bytes_fed calls

-- the frames that were given
abbrev pub frames_given : List Call → List (List ℕ)
frames_given [] = []
frames_given (feeds piece ∷ calls) = frames_given calls
frames_given (gave frame ∷ calls) = frame ∷ frames_given calls
frames_given (waited ∷ calls) = frames_given calls
frames_given (exceeded ∷ calls) = frames_given calls
