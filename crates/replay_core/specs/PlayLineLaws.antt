-- What the text of a line comes to, by what it says.
use Rattle.std.proofs.Common.{◌≡◌, ◌⊎◌, ℕ, List, Result, Ok, Err, sym, ◌∙◌, ap, inl, inr}
use Rattle.venue_words.specs.declared.config.Config.{Config}
use Rattle.script_text.specs.Body.{read_of}
use Rattle.script_text.specs.declared.body.Line.{Line}
use Rattle.script_text.specs.declared.fault.LineFault.{LineFault}
use Rattle.script_text.specs.declared.fault.LineFault.TheVariants.{NoMemory}
use Rattle.line_work.specs.LineWork.{work_of_read, work_of_text}
use Rattle.line_work.specs.Refusing.{fault_at}
use Rattle.replay_core.specs.Playing.{Playing}
use Rattle.replay_core.specs.PlayLine.{Answer, play_line, play_read, answer_to_work}

play_as : (n : ℕ) (playing : Playing) (config : Config) (text : List ℕ) (read : Result Line LineFault) → config ≡ playing.feed.config
    → read_of config text ≡ read → play_line n playing text ≡ answer_to_work n playing (work_of_read playing.feed read)
unfolding play_line work_of_text
play_as n playing config text read same e =
    ap (λ (r : Result Line LineFault). answer_to_work n playing (work_of_read playing.feed r))
    (ap (λ (k : Config). read_of k text) (sym same) ∙ e)

-- a line that can be read does what it says
pub line_read : (n : ℕ) (playing : Playing) (config : Config) (text : List ℕ) (line : Line) → config ≡ playing.feed.config
    → read_of config text ≡ Ok line → play_line n playing text ≡ play_read n playing line
line_read n playing config text line same e = play_as n playing config text (Ok line) same e

-- a line that can't be read is refused by the same cause, and does nothing
pub line_unread : (n : ℕ) (playing : Playing) (config : Config) (text : List ℕ) (fault : LineFault) → config ≡ playing.feed.config
    → read_of config text ≡ Err fault → (play_line n playing text).result ≡ Err (fault_at n fault)
line_unread n playing config text fault same e =
    ap (λ (a : Answer). a.result) (play_as n playing config text (Err fault) same e)
