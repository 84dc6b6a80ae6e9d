-- The frames of messages with new numbers, and what is kept of these.
use Rattle.std.specs.Prelude.{ℕ, ◌+◌, List, [], ◌∷◌, length, map, replicate, Option, Some, None, ℤ}
use Rattle.venue_words.specs.Limits.{venue}
use Rattle.fix_write.specs.Framing.{frame_of}
use Rattle.fix_write.specs.MessageTypes.{byte_of}
use Rattle.session_core.specs.declared.message.Kept.{Kept}
use Rattle.session_core.specs.declared.message.Message.{Message}

-- the frame of a message to a member
unfoldable pub new_frame : List ℕ → ℤ → ℕ → Message → List ℕ
new_frame member moment number message =
    frame_of (byte_of message.kind) venue member number moment None message.body

-- the frames of messages, numbered from this number on
unfoldable pub new_frames : List ℕ → ℤ → ℕ → List Message → List (List ℕ)
new_frames member moment number [] = []
new_frames member moment number (message ∷ messages) =
    new_frame member moment number message ∷ new_frames member moment (number + 1) messages

-- an application message is kept whole
abbrev pub kept : ℤ → Message → Option Kept
kept moment message = Some (record { message = message; moment = moment })

abbrev pub all_kept : ℤ → List Message → List (Option Kept)
all_kept moment messages = map (kept moment) messages

-- of a message of the session only its number is
abbrev pub numbers : ℕ → List (Option Kept)
numbers count = replicate count None

abbrev pub numbers_of : List Message → List (Option Kept)
numbers_of messages = numbers (length messages)
