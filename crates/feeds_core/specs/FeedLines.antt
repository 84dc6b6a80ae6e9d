-- Which line of a feed is refused. The members that earlier feeds name are taken.
use Rattle.std.specs.Prelude.{ℕ, ◌+◌, ◌==◌, Bool, false, List, [], ◌∷◌, length, Option, Some, None, option_map, Result, Ok, Err, if◌then◌else◌}
use Rattle.std.specs.List.{list_any}
use Rattle.venue_words.specs.declared.limits.TheConstants.{MAX_CONFIG_BYTES}
use Rattle.venue_words.specs.declared.config.Config.{Config}
use Rattle.script_text.specs.Body.{read_of}
use Rattle.script_text.specs.Config.{unended}
use Rattle.script_text.specs.Lines.{cut}
use Rattle.script_text.specs.declared.body.Line.{Line}
use Rattle.script_text.specs.declared.body.Line.TheVariants.{Moment, Quote, Piece, Open}
use Rattle.script_text.specs.declared.fault.LineFault.{LineFault}
use Rattle.script_text.specs.declared.fault.LineFault.TheVariants.{Bad}
use Rattle.script_text.specs.declared.fault.LineCause.TheVariants.{SharedMember}
use Rattle.line_reader.specs.Over.{weighed}
use Rattle.line_work.specs.Refusing.{fault_at}

-- ---- who is named

-- the member that a line names
abbrev pub named_by : Line → Option ℕ
named_by (Moment moment) = None
named_by (Quote symbol command) = None
named_by (Piece member bytes) = Some member
named_by (Open member) = Some member

abbrev pub named_in : Result Line LineFault → Option ℕ
named_in (Ok line) = named_by line
named_in (Err fault) = None

abbrev pub is_member : ℕ → Option ℕ → Bool
is_member member None = false
is_member member (Some named) = named == member

-- whether a feed with this text names the member
unfoldable pub names : Config → List ℕ → ℕ → Bool
names config text member = list_any (λ line. is_member member (named_in (read_of config line))) (cut text).lines

-- whether one of these feeds names the member
abbrev pub name_one : Config → List (List ℕ) → ℕ → Bool
name_one config texts member = list_any (λ text. names config text member) texts

-- ---- a line

abbrev pub is_taken : (ℕ → Bool) → Option ℕ → Bool
is_taken taken None = false
is_taken taken (Some member) = taken member

-- what a line says, unless it names a member that is taken
abbrev pub unshared : (ℕ → Bool) → Result Line LineFault → Result Line LineFault
unshared taken (Ok line) = if is_taken taken (named_by line) then Err (Bad 1 SharedMember) else Ok line
unshared taken (Err fault) = Err fault

abbrev pub fault_in : {T : Type 0} → Result T LineFault → Option LineFault
fault_in (Ok x) = None
fault_in (Err fault) = Some fault

-- why the n-th line of a feed is refused that reads so and ends at this number of bytes: its own causes come first, then that
-- its member is taken, and then the limit on bytes
abbrev pub fault_of : (ℕ → Bool) → ℕ → ℕ → Result Line LineFault → Option LineFault
fault_of taken n bytes read = option_map (fault_at n) (fault_in (weighed MAX_CONFIG_BYTES 1 bytes (unshared taken read)))

-- ---- a feed

abbrev pub or_else : {T : Type 0} → Option T → Option T → Option T
or_else None next = next
or_else (Some x) next = Some x

-- the first refused line behind n lines that end at this number of bytes; behind the last of them stands an end
unfoldable pub lines_fault : Config → (ℕ → Bool) → ℕ → ℕ → List (List ℕ) → (ℕ → Option LineFault) → Option LineFault
lines_fault config taken n bytes [] end = end n
lines_fault config taken n bytes (line ∷ lines) end =
    or_else (fault_of taken (n + 1) (bytes + length line + 1) (read_of config line))
    (lines_fault config taken (n + 1) (bytes + length line + 1) lines end)

-- bytes without an end behind n lines
abbrev pub rest_fault : List ℕ → ℕ → Option LineFault
rest_fault [] n = None
rest_fault (b ∷ rest) n = Some (unended (n + 1) (b ∷ rest))

-- the first refused line of a feed with this text, where these members are taken and so many bytes stand before it
unfoldable pub feed_fault : Config → (ℕ → Bool) → ℕ → List ℕ → Option LineFault
feed_fault config taken bytes text = lines_fault config taken 0 bytes (cut text).lines (rest_fault (cut text).rest)
