-- What a message of the source asks, by its number and its type.
use Rattle.std.specs.Prelude.{ℕ, ◌+◌, ◌==◌, Bool, true, false, ◌&&◌, nat_lt, if◌then◌else◌, List, Option, Some, None, codes}
use Rattle.fix_fields.specs.declared.field.Field.{Field}
use Rattle.fix_write.specs.declared.message_type.MessageType.{MessageType}
use Rattle.fix_write.specs.declared.message_type.MessageType.TheVariants as kind
use Rattle.fix_write.specs.declared.tags.TheConstants.{POSS_DUP_FLAG, SENDER_COMP_ID, TARGET_COMP_ID}
use Rattle.session_core.specs.Lookup.{is_value, kind_of, message_number}
use Rattle.source_session.specs.declared.message.Asks.{Asks}
use Rattle.source_session.specs.declared.message.Asks.TheVariants.{Nothing, Begin, Heartbeat, Fill, Quotes, Logout}
use Rattle.source_session.specs.declared.message.Outcome.{Outcome}
use Rattle.source_session.specs.declared.names.Names.{Names}
use Rattle.source_session.specs.declared.state.SourceEnd.{SourceEnd}
use Rattle.source_session.specs.declared.state.SourceEnd.TheVariants as end
use Rattle.source_session.specs.declared.state.SourcePhase.{SourcePhase}
use Rattle.source_session.specs.declared.state.SourcePhase.TheVariants.{Asked, Up, Ended}
use Rattle.source_session.specs.declared.state.SourceState.{SourceState}

-- a connection on which nothing came yet
abbrev pub first : SourceState
first = record { phase = Asked; next = 1 }

-- whether the connection has ended
abbrev pub is_over : SourcePhase → Bool
is_over Asked = false
is_over Up = false
is_over (Ended end) = true

-- nothing happens
abbrev pub rests : SourceState → Outcome
rests state = record { state = state; asks = Nothing }

-- the connection ends
abbrev pub ends : SourceEnd → SourceState → Asks → Outcome
ends end state asks = record { state = record { phase = Ended end; next = state.next }; asks = asks }

-- the source is there, and its next message is to have number 2
abbrev pub goes_up : Outcome
goes_up = record { state = record { phase = Up; next = 2 }; asks = Begin }

-- the first message: the answer to our Logon, which begins at number 1 again
abbrev pub on_first : MessageType → SourceState → ℕ → Outcome
on_first kind.Logon state number = if number == 1 then goes_up else ends end.BadLogon state Nothing
on_first kind.Logout state number = ends end.Refused state Nothing
on_first _ state number = ends end.NotLogon state Nothing

-- a message whose turn it is; where the source passes over numbers something was left out
abbrev pub in_turn : MessageType → SourceState → Outcome
in_turn kind.Logout state = ends end.Logout state Logout
in_turn kind.SequenceReset state = ends end.Gap state Nothing
in_turn kind.TestRequest state = record { state = state; asks = Heartbeat }
in_turn kind.ResendRequest state = record { state = state; asks = Fill }
in_turn kind.MarketDataSnapshot state = record { state = state; asks = Quotes }
in_turn _ state = record { state = state; asks = Nothing }

-- a number that came before: only what is sent again may have it
abbrev pub too_low : SourceState → List Field → Outcome
too_low state fields = if is_value POSS_DUP_FLAG (codes "Y") fields then rests state else ends end.TooLow state Nothing

-- a message of a session that is up, by its number
unfoldable pub by_number : SourceState → ℕ → List Field → Outcome
by_number state number fields =
    if nat_lt number state.next then too_low state fields
    else (if nat_lt state.next number then ends end.Gap state Nothing
    else in_turn (kind_of fields) (record { phase = state.phase; next = number + 1 }))

abbrev pub by_phase : SourcePhase → SourceState → ℕ → List Field → Outcome
by_phase Asked state number fields = on_first (kind_of fields) state number
by_phase Up state number fields = by_number state number fields
by_phase (Ended end) state number fields = rests state

-- whether a message is of the source and to us
abbrev pub is_between : Names → List Field → Bool
is_between names fields = is_value SENDER_COMP_ID names.source fields && is_value TARGET_COMP_ID names.own fields

-- a message of a number
unfoldable pub on_numbered : Names → SourceState → ℕ → List Field → Outcome
on_numbered names state number fields =
    if is_between names fields then by_phase state.phase state number fields else ends end.WrongName state Nothing

abbrev pub if_numbered : Names → SourceState → Option ℕ → List Field → Outcome
if_numbered names state None fields = ends end.NoNumber state Nothing
if_numbered names state (Some number) fields = on_numbered names state number fields

-- the fields of a message
unfoldable pub on_fields : Names → SourceState → List Field → Outcome
on_fields names state fields = if_numbered names state (message_number fields) fields
