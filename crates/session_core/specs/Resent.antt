-- The frames of messages that are sent again.
use Rattle.std.specs.Prelude.{ℕ, ◌+◌, ◌-◌, List, [], ◌∷◌, ◌++◌, take, drop, map, Option, Some, None, unwrap_or, ℤ}
use Rattle.venue_words.specs.Limits.{venue}
use Rattle.fix_write.specs.declared.message_type.MessageType.TheVariants.{SequenceReset}
use Rattle.fix_write.specs.Framing.{frame_of}
use Rattle.fix_write.specs.MessageTypes.{byte_of}
use Rattle.session_core.specs.declared.message.Kept.{Kept}
use Rattle.session_core.specs.declared.plan.Span.{Span}
use Rattle.session_core.specs.Bodies.{gap_body}

-- ---- what is sent again

-- an application message under its own number, or a run of messages of the session, up to before the next number
pub data Resent : Type 0 where
  Again : (number : ℕ) (kept : Kept) → Resent
  Gap : (first next : ℕ) → Resent

-- a run before what is sent again behind it; it is one with a run that stands there
abbrev pub with_run : ℕ → ℕ → List Resent → List Resent
with_run first next [] = Gap first next ∷ []
with_run first next (Gap behind end ∷ others) = Gap first end ∷ others
with_run first next (Again number kept ∷ others) = Gap first next ∷ Again number kept ∷ others

-- what is sent again of these, the first of which has this number
abbrev pub resent : ℕ → List (Option Kept) → List Resent
resent number [] = []
resent number (Some kept ∷ entries) = Again number kept ∷ resent (number + 1) entries
resent number (None ∷ entries) = with_run number (number + 1) (resent (number + 1) entries)

-- ---- its frames

-- an application message, with its own number and the moment at which it was first sent
unfoldable pub old_frame : List ℕ → ℤ → ℕ → Kept → List ℕ
old_frame member moment number kept =
    frame_of (byte_of kept.message.kind) venue member number moment (Some kept.moment) kept.message.body

-- the SequenceReset that stands for a run of messages of the session, up to before a number
unfoldable pub gap_frame : List ℕ → ℤ → ℕ → ℕ → List ℕ
gap_frame member moment first next =
    frame_of (byte_of SequenceReset) venue member first moment (Some moment) (gap_body next)

abbrev pub resent_frame : List ℕ → ℤ → Resent → List ℕ
resent_frame member moment (Again number kept) = old_frame member moment number kept
resent_frame member moment (Gap first next) = gap_frame member moment first next

-- what was sent from the first number to the last
abbrev pub part_of : List (Option Kept) → Span → List (Option Kept)
part_of sent span = drop (span.first - 1) (take span.last sent)

abbrev pub frames_of_span : List ℕ → ℤ → List (Option Kept) → Option Span → List (List ℕ)
frames_of_span member moment sent None = []
frames_of_span member moment sent (Some span) =
    map (resent_frame member moment) (resent span.first (part_of sent span))

-- ---- one number after the other, while a run may have begun

-- the run that ends before a number, where one has begun
abbrev pub gap_before : List ℕ → ℤ → Option ℕ → ℕ → List (List ℕ)
gap_before member moment None next = []
gap_before member moment (Some first) next = gap_frame member moment first next ∷ []

-- what is sent at a number: nothing yet for a message of the session, and else the run before it and the message
abbrev pub frames_at : List ℕ → ℤ → Option ℕ → ℕ → Option Kept → List (List ℕ)
frames_at member moment run number None = []
frames_at member moment run number (Some kept) =
    gap_before member moment run number ++ (old_frame member moment number kept ∷ [])

-- the first number of the run that has begun behind a number, where one has
abbrev pub run_behind : Option ℕ → ℕ → Option Kept → Option ℕ
run_behind run number None = Some (unwrap_or run number)
run_behind run number (Some kept) = None

-- the frames of these, the first of which has this number, while a run may have begun
unfoldable pub frames_from : List ℕ → ℤ → Option ℕ → ℕ → List (Option Kept) → List (List ℕ)
frames_from member moment run number [] = gap_before member moment run number
frames_from member moment run number (entry ∷ entries) =
    frames_at member moment run number entry
    ++ frames_from member moment (run_behind run number entry) (number + 1) entries
