-- What taking frames says of the stream.
use Rattle.std.specs.Prelude.{◌≡◌, ℕ, ◌<◌, Bool, List, [], ◌∷◌, ◌++◌, length, MatchBool}
use Rattle.message_laws.specs.declared.reading.Taken.{Taken}
use Rattle.message_laws.specs.declared.reading.Taken.TheVariants.{Frame, Wait, TooLong}
use Rattle.fix_frames.specs.Streams.{Stream}
use Rattle.fix_frames.specs.Reading.{none_yet, only_too_long, with_frames, reading_of}

-- the stream from the bytes kept on has these frames and then those of the new one, whatever follows
abbrev pub Continues : List (List ℕ) → Stream → List (List ℕ) → Stream → Type 0
Continues before old after new =
    (more : List ℕ) → with_frames before (reading_of (old.kept ++ more)) ≡ with_frames after (reading_of (new.kept ++ more))

-- the next frame is too long, whatever follows
abbrev pub IsOverLimit : Stream → Type 0
IsOverLimit stream = (more : List ℕ) → reading_of (stream.kept ++ more) ≡ only_too_long

-- the next frame is taken from the front
abbrev pub Takes : Stream → Taken → Stream → Type 0
Takes old (Frame frame) new = Continues [] old (frame ∷ []) new × (length new.kept < length old.kept)
Takes old Wait new = Continues [] old [] new × (reading_of new.kept ≡ none_yet)
Takes old TooLong new = Continues [] old [] new × IsOverLimit new

-- all frames are taken, and stand behind those that were there
pub record TakesAll (old : Stream) (before : List (List ℕ)) (too_long : Bool) (new : Stream) (after : List (List ℕ)) : Type 0 where
  pub frames : Continues before old after new
  pub rest : MatchBool too_long (IsOverLimit new) (reading_of new.kept ≡ none_yet)
