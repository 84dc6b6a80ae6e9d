-- To a session that is over no frame does anything.
use Rattle.std.proofs.Common.{◌≡◌, ℕ, ℤ, true, false, cond, List, [], ◌∷◌, ◌++◌, length, refl, ap, ◌∙◌}
use Rattle.std.specs.Prelude.{◌==◌, codes}
use Rattle.fix_frames.specs.declared.reading.Reading.{Reading}
use Rattle.fix_frames.specs.Reading.{reading_of}
use Rattle.venue_words.specs.declared.config.Config.{Config}
use Rattle.session_core.specs.declared.state.EndCause.TheVariants.{TooLong}
use Rattle.session_core.specs.Answers.{drops, logs_out}
use Rattle.session_core.specs.Cases.{on_too_long}
use Rattle.session_core.specs.Machine.{Machine, Outcome, IsOver, carried_out, ends_too_long, replies_of, rests, sent_now, on_frame, on_overlong}
use Rattle.session_core.specs.Plan.{stays}
use Rattle.session_core.specs.State.{ended, is_over, is_up}
use Rattle.session_core.specs.declared.state.State.{State}
use Rattle.member_gate.specs.Answering.{Work, idle, turned}
use Rattle.member_gate.specs.Desks.{DeskView, work_of_piece}
use Rattle.member_gate.specs.Working.{then_work, handed_out, work_of_frame, work_of_frames, work_at_limit, work_of_reading}

frame_rests : (session : Machine) (frame : List ℕ) (moment : ℤ) → IsOver session → on_frame session frame moment ≡ rests session
unfolding on_frame
frame_rests session frame moment over = rw over refl

limit_rests : (session : Machine) (moment : ℤ) → IsOver session → on_overlong session moment ≡ rests session
unfolding on_overlong
limit_rests session moment over = rw over refl

-- behind a frame that is too long every session is over
sent_phase : (moment : ℤ) (replies : List (List ℕ)) (state : State) → (sent_now moment replies state).phase ≡ state.phase
sent_phase moment replies state =
    elim (length replies == 0) as (λ b. (cond b state (record state { sent_at = moment })).phase ≡ state.phase) [ true ↦ refl | false ↦ refl ]

plan_ends : (state : State) → is_over (on_too_long state).state.phase ≡ true
unfolding on_too_long drops logs_out
plan_ends state =
    elim (is_up state) as (λ b. is_over (cond b (logs_out state TooLong (codes "TOO LONG")) (stays (ended TooLong state))).state.phase ≡ true) [ true ↦ refl | false ↦ refl ]

limit_ends : (session : Machine) (moment : ℤ) → is_over (ends_too_long session moment).machine.state.phase ≡ true
unfolding carried_out
limit_ends session moment =
    let plan = on_too_long session.state in
    ap is_over (sent_phase moment (replies_of session moment plan) plan.state) ∙ plan_ends session.state

pub over_at_limit : (session : Machine) (moment : ℤ) → IsOver (work_at_limit moment session).session
unfolding on_overlong
over_at_limit session moment =
    (elim (is_over session.state.phase) as (λ b. is_over session.state.phase ≡ b → is_over (cond b (rests session) (ends_too_long session moment)).machine.state.phase ≡ true) [
      | true ↦ λ e. e
      | false ↦ λ e. limit_ends session moment
    ]) refl

over_frame : (config : Config) (member : ℕ) (moment : ℤ) (session : Machine) (frame : List ℕ) → IsOver session → work_of_frame config member moment session frame ≡ idle session
unfolding work_of_frame
over_frame config member moment session frame over =
    ap (λ (o : Outcome). then_work (turned o) (handed_out config member moment o.machine o.turn.request)) (frame_rests session frame moment over)

over_frames : (config : Config) (member : ℕ) (moment : ℤ) (session : Machine) (frames : List (List ℕ)) → IsOver session → work_of_frames config member moment session frames ≡ idle session
over_frames config member moment session [] over = refl
over_frames config member moment session (frame ∷ frames) over =
    ap (λ (w : Work). then_work w (work_of_frames config member moment w.session frames)) (over_frame config member moment session frame over)
    ∙ ap (then_work (idle session)) (over_frames config member moment session frames over)

pub over_reading : (config : Config) (member : ℕ) (moment : ℤ) (session : Machine) (reading : Reading) → IsOver session → work_of_reading config member moment session reading ≡ idle session
unfolding work_of_reading
over_reading config member moment session reading over =
    let at_limit : work_at_limit moment session ≡ idle session = ap turned (limit_rests session moment over) in
    ap (λ (w : Work). cond reading.too_long (then_work w (work_at_limit moment w.session)) w) (over_frames config member moment session reading.frames over)
    ∙ ap (λ (w : Work). cond reading.too_long (then_work (idle session) w) (idle session)) at_limit
    ∙ (elim reading.too_long as (λ b. cond b (idle session) (idle session) ≡ idle session) [ true ↦ refl | false ↦ refl ])

-- so no piece does
pub over_piece : (config : Config) (moment : ℤ) (desk : DeskView) (piece : List ℕ) → IsOver desk.session → work_of_piece config moment desk piece ≡ idle desk.session
over_piece config moment desk piece over = over_reading config desk.member moment desk.session (reading_of (desk.unread ++ piece)) over
