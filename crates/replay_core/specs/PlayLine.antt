-- A line of a body: what it does, what goes out behind it, and why it is refused.
use Rattle.std.specs.Prelude.{ℕ, List, ◌++◌, Result, Ok, Err, if◌then◌else◌}
use Rattle.script_text.specs.declared.body.Line.{Line}
use Rattle.script_text.specs.declared.fault.LineFault.{LineFault}
use Rattle.script_text.specs.declared.fault.LineFault.TheVariants.{Limit}
use Rattle.script_text.specs.declared.fault.LimitCause.TheVariants.{Events}
use Rattle.line_work.specs.LineWork.{LineWork, work_of_line, work_of_text}
use Rattle.line_work.specs.Refusing.{fault_at}
use Rattle.replay_core.specs.Playing.{Playing}
use Rattle.replay_core.specs.Pulling.{after_pulls, lines_of_pulls}
use Rattle.replay_core.specs.Recording.{Recorded, recorded}

-- what a line comes to: a player with its output, or why the line is refused; and the most steps that the events may
-- take which it recorded, those of a refused line among them
pub record Answer : Type 0 where
  pub result : Result (Playing × List ℕ) LineFault
  pub steps : ℕ

abbrev pub refused : LineFault → Answer
refused fault = record { result = Err fault; steps = 0 }

-- the commands of a line, recorded
abbrev pub recorded_by : Playing → LineWork → Recorded
recorded_by playing work = recorded work.state.config work.state.moment work.submissions playing.journals

-- the player behind a line's own work
abbrev pub behind_work : Playing → LineWork → Recorded → Playing
behind_work playing work recorded = record playing { feed = work.state; journals = recorded.journals }

-- the reports of the line's events, and those that waited, go out behind the line's own replies
abbrev pub with_pulls : Playing → List ℕ → Playing × List ℕ
with_pulls playing text = (after_pulls playing, text ++ lines_of_pulls playing)

-- a line whose commands were recorded, if they found room
abbrev pub answer_to : ℕ → Playing → LineWork → Recorded → Answer
answer_to n playing work recorded =
    record {
      result =
          if recorded.is_full
          then Err (Limit n Events)
          else Ok (with_pulls (behind_work playing work recorded) work.text);
      steps = recorded.steps;
    }

-- the n-th line of a script, in its body, where this is what it says
abbrev pub play_read : ℕ → Playing → Line → Answer
play_read n playing line =
    answer_to n playing (work_of_line playing.feed line) (recorded_by playing (work_of_line playing.feed line))

abbrev pub answer_to_work : ℕ → Playing → Result LineWork LineFault → Answer
answer_to_work n playing (Ok work) = answer_to n playing work (recorded_by playing work)
answer_to_work n playing (Err fault) = refused (fault_at n fault)

-- the n-th line of a script, in its body
unfoldable pub play_line : ℕ → Playing → List ℕ → Answer
play_line n playing text = answer_to_work n playing (work_of_text playing.feed text)
