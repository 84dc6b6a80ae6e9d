-- What a script makes, line by line.
use Rattle.std.specs.Prelude.{ℕ, ◌+◌, Bool, List, [], ◌∷◌, ◌++◌, length, Option, Some, None, Result, Ok, Err, nat_lt, if◌then◌else◌}
use Rattle.venue_words.specs.declared.limits.TheConstants.{MAX_LINE_BYTES, MAX_SCRIPT_BYTES}
use Rattle.script_text.specs.Header.{header_line, blank}
use Rattle.script_text.specs.Lines.{cut}
use Rattle.script_text.specs.declared.header.Header.{Header}
use Rattle.script_text.specs.declared.fault.LineFault.{LineFault}
use Rattle.script_text.specs.declared.fault.LineFault.TheVariants.{Bad, Limit}
use Rattle.script_text.specs.declared.fault.LineCause.TheVariants.{NoEnd}
use Rattle.script_text.specs.declared.fault.LimitCause.TheVariants.{Line}
use Rattle.line_reader.specs.Over.{weighed}
use Rattle.replay_core.specs.Playing.{Playing, before_body}
use Rattle.replay_core.specs.PlayLine.{Answer, play_line}

-- in the header, or behind it
pub data Stage : Type 0 where
  Head : Header → Stage
  Body : Playing → Stage

-- a place between two lines: the lines and the bytes before it
pub record Place : Type 0 where
  pub stage : Stage
  pub lines : ℕ
  pub bytes : ℕ

-- what a script makes: its output, why it ends before the script does, the most steps that its events may take, and the
-- player at its end, where it has one
pub record Played : Type 0 where
  pub text : List ℕ
  pub fault : Option LineFault
  pub steps : ℕ
  pub last : Option Playing

abbrev pub stopped : LineFault → Played
stopped fault = record { text = []; fault = Some fault; steps = 0; last = None }

abbrev pub finished : Playing → Played
finished playing = record { text = []; fault = None; steps = 0; last = Some playing }

-- this output and these steps, and then the rest
abbrev pub onto : List ℕ → ℕ → Played → Played
onto text steps played = record played { text = text ++ played.text; steps = steps + played.steps }

-- what a line comes to: the next stage with the line's output, or why it is refused; and the most steps of its events
pub record Turned : Type 0 where
  pub result : Result (Stage × List ℕ) LineFault
  pub steps : ℕ

abbrev pub after_header : Result (Bool × Header) LineFault → Result (Stage × List ℕ) LineFault
after_header (Ok x) = Ok (if x.0 then Body (before_body x.1.config) else Head x.1, [])
after_header (Err fault) = Err fault

abbrev pub after_body : Result (Playing × List ℕ) LineFault → Result (Stage × List ℕ) LineFault
after_body (Ok x) = Ok (Body x.0, x.1)
after_body (Err fault) = Err fault

abbrev pub turned_body : Answer → Turned
turned_body answer = record { result = after_body answer.result; steps = answer.steps }

-- the n-th line at a stage
unfoldable pub turned : ℕ → Stage → List ℕ → Turned
turned n (Head header) text = record { result = after_header (header_line n header text); steps = 0 }
turned n (Body playing) text = turned_body (play_line n playing text)

-- the place behind a line, with the line's output; or why the line is refused
pub record Stepped : Type 0 where
  pub result : Result (Place × List ℕ) LineFault
  pub steps : ℕ

abbrev pub next_place : Place → List ℕ → Stage → Place
next_place place text stage =
    record { stage = stage; lines = place.lines + 1; bytes = place.bytes + length text + 1 }

abbrev pub placed : Place → List ℕ → Result (Stage × List ℕ) LineFault → Result (Place × List ℕ) LineFault
placed place text (Ok x) = Ok (next_place place text x.0, x.1)
placed place text (Err fault) = Err fault

-- a line that is short enough, under the limit on the script's bytes
abbrev pub stepped : Place → List ℕ → Turned → Stepped
stepped place text turned =
    record {
      result = weighed MAX_SCRIPT_BYTES (place.lines + 1) (place.bytes + length text + 1) (placed place text turned.result);
      steps = turned.steps;
    }

abbrev pub refused_at : Place → LineFault → Stepped
refused_at place fault = record { result = Err fault; steps = 0 }

-- the line behind a place
unfoldable pub step_at : Place → List ℕ → Stepped
step_at place text =
    if nat_lt MAX_LINE_BYTES (length text)
    then refused_at place (Limit (place.lines + 1) Line)
    else stepped place text (turned (place.lines + 1) place.stage text)

-- what stands behind the last line: a script is at its end where it has a whole header and no further byte
abbrev pub end_of : ℕ → Stage → List ℕ → Played
end_of n (Body playing) [] = finished playing
end_of n _ _ = stopped (Bad n NoEnd)

unfoldable pub end_at : Place → List ℕ → Played
end_at place rest =
    if nat_lt MAX_LINE_BYTES (length rest)
    then stopped (Limit (place.lines + 1) Line)
    else end_of (place.lines + 1) place.stage rest

abbrev pub after_result : ℕ → Result (Place × List ℕ) LineFault → (Place → Played) → Played
after_result steps (Ok x) next = onto x.1 steps (next x.0)
after_result steps (Err fault) next = onto [] steps (stopped fault)

abbrev pub after_line : Stepped → (Place → Played) → Played
after_line stepped next = after_result stepped.steps stepped.result next

-- the lines from a place on, and what stands behind them
unfoldable pub play : Place → List (List ℕ) → List ℕ → Played
play place [] rest = end_at place rest
play place (line ∷ lines) rest = after_line (step_at place line) (λ next. play next lines rest)

-- the text from a place on
unfoldable pub played : Place → List ℕ → Played
played place text = play place (cut text).lines (cut text).rest

-- the place before a script
abbrev pub start : Place
start = record { stage = Head blank; lines = 0; bytes = 0 }

-- a whole script
abbrev pub script : List ℕ → Played
script text = played start text
