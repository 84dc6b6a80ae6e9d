-- A list of messages whose bodies stand one behind the other in one list of bytes.
use Rattle.std.specs.Prelude.{ℕ, ◌+◌, ◌≤◌, List, length, map, slice_range}
use Rattle.fix_write.specs.declared.message_type.MessageType.{MessageType}
use Rattle.session_core.specs.declared.message.Message.{Message}
use Rattle.session_core.specs.declared.message_list.Part.{Part}

-- a body that stands within so many bytes
abbrev pub IsWithin : ℕ → Part → Type 0
IsWithin count part = (part.start ≤ part.end) × (part.end ≤ count)

-- a message, with its body out of the list
abbrev pub message_in : List ℕ → Part → Message
message_in bodies part = record { kind = part.kind; body = slice_range bodies part.start part.end }

abbrev pub messages_in : List ℕ → List Part → List Message
messages_in bodies parts = map (message_in bodies) parts

-- the part of a body that is added behind the others
abbrev pub part_behind : List ℕ → MessageType → List ℕ → Part
part_behind bodies kind body =
    record { kind = kind; start = length bodies; end = length bodies + length body }

-- a part, where so many bytes stand in front of its bodies
abbrev pub moved : ℕ → Part → Part
moved count part = record { kind = part.kind; start = count + part.start; end = count + part.end }
