-- No line changes the config, or how many members there are.
use Rattle.std.proofs.Common.{◌≡◌, List, [], ◌∷◌, length, map, slice_set, ℕ, zero, suc, ℤ, Result, Ok, Err, refl, sym, ◌∙◌, ap}
use Rattle.script_text.specs.declared.body.Line.{Line}
use Rattle.script_text.specs.declared.body.Line.TheVariants.{Moment, Quote, Piece, Open}
use Rattle.script_text.specs.declared.fault.LineFault.{LineFault}
use Rattle.script_text.specs.Body.{read_of}
use Rattle.line_work.specs.FeedState.{FeedState, Connection}
use Rattle.line_work.specs.LineWork.{LineWork, ticked, work_of_line, work_of_read, work_of_text}

line_keeps_config : (state : FeedState) (line : Line) → (work_of_line state line).state.config ≡ state.config
line_keeps_config state (Moment moment) = refl
line_keeps_config state (Quote symbol command) = refl
line_keeps_config state (Piece number bytes) = refl
line_keeps_config state (Open number) = refl

read_keeps_config : (state : FeedState) (read : Result Line LineFault) (work : LineWork) → work_of_read state read ≡ Ok work
    → work.state.config ≡ state.config
read_keeps_config state (Ok line) work e =
    let same : work_of_line state line ≡ work = cc in
    ap (λ (w : LineWork). w.state.config) (sym same) ∙ line_keeps_config state line
read_keeps_config state (Err fault) work e = absurd (cc)

pub text_keeps_config : (state : FeedState) (text : List ℕ) (work : LineWork) → work_of_text state text ≡ Ok work
    → work.state.config ≡ state.config
unfolding work_of_text
text_keeps_config state text work e = read_keeps_config state (read_of state.config text) work e

count_set : (connections : List Connection) (number : ℕ) (connection : Connection)
    → length (slice_set connections number connection) ≡ length connections
count_set [] number connection = refl
count_set (c ∷ cs) zero connection = refl
count_set (c ∷ cs) (suc number) connection = ap suc (count_set cs number connection)

count_ticked : (moment : ℤ) (connections : List Connection) → length (map (ticked moment) connections) ≡ length connections
count_ticked moment [] = refl
count_ticked moment (c ∷ cs) = ap suc (count_ticked moment cs)

line_keeps_count : (state : FeedState) (line : Line) → length (work_of_line state line).state.connections ≡ length state.connections
line_keeps_count state (Moment moment) = count_ticked moment state.connections
line_keeps_count state (Quote symbol command) = refl
line_keeps_count state (Piece number bytes) = count_set state.connections number _
line_keeps_count state (Open number) = count_set state.connections number _

read_keeps_count : (state : FeedState) (read : Result Line LineFault) (work : LineWork) → work_of_read state read ≡ Ok work
    → length work.state.connections ≡ length state.connections
read_keeps_count state (Ok line) work e =
    let same : work_of_line state line ≡ work = cc in
    ap (λ (w : LineWork). length w.state.connections) (sym same) ∙ line_keeps_count state line
read_keeps_count state (Err fault) work e = absurd (cc)

pub text_keeps_count : (state : FeedState) (text : List ℕ) (work : LineWork) → work_of_text state text ≡ Ok work
    → length work.state.connections ≡ length state.connections
unfolding work_of_text
text_keeps_count state text work e = read_keeps_count state (read_of state.config text) work e
