-- What a session that is over takes changes nothing.
use Rattle.std.proofs.Common.{◌≡◌, ℕ, ℤ, true, false, cond, List, [], ◌∷◌, refl, ap, ◌∙◌}
use Rattle.fix_frames.specs.declared.reading.Reading.{Reading}
use Rattle.venue_words.specs.declared.config.Config.{Config}
use Rattle.session_core.specs.declared.message.Message.{Message}
use Rattle.session_core.specs.declared.state.Phase.{Phase}
use Rattle.session_core.specs.declared.state.Phase.TheVariants.{New, Up, Ended}
use Rattle.session_core.specs.State.{is_up_phase, is_over}
use Rattle.session_core.specs.Machine.{Machine, Outcome, IsOver, rests, on_frame, on_overlong, on_clock}
use Rattle.session_core.specs.Runs.{send_if_up}
use Rattle.member_gate.specs.Answering.{Work, idle, turned}
use Rattle.member_gate.specs.Working.{then_work, handed_out, work_of_frame, work_of_frames, work_at_limit, work_of_reading}

frame_rests : (session : Machine) (frame : List ℕ) (moment : ℤ) → IsOver session → on_frame session frame moment ≡ rests session
unfolding on_frame
frame_rests session frame moment over = rw over refl

limit_rests : (session : Machine) (moment : ℤ) → IsOver session → on_overlong session moment ≡ rests session
unfolding on_overlong
limit_rests session moment over = rw over refl

over_down : (phase : Phase) → is_over phase ≡ true → is_up_phase phase ≡ false
over_down New e = absurd (cc)
over_down Up e = absurd (cc)
over_down (Ended cause) e = refl

pub clock_over : (session : Machine) (moment : ℤ) → IsOver session → on_clock session moment ≡ rests session
unfolding on_clock
clock_over session moment over = let e = over_down session.state.phase over in rw e refl

pub send_over : (session : Machine) (messages : List Message) (moment : ℤ) → IsOver session
    → send_if_up session messages moment ≡ rests session
send_over session messages moment over = let e = over_down session.state.phase over in rw e refl

over_frame : (config : Config) (member : ℕ) (moment : ℤ) (session : Machine) (frame : List ℕ) → IsOver session
    → work_of_frame config member moment session frame ≡ idle session
unfolding work_of_frame
over_frame config member moment session frame over =
    ap (λ (o : Outcome). then_work (turned o) (handed_out config member moment o.machine o.turn.request))
    (frame_rests session frame moment over)

over_frames : (config : Config) (member : ℕ) (moment : ℤ) (session : Machine) (frames : List (List ℕ)) → IsOver session
    → work_of_frames config member moment session frames ≡ idle session
over_frames config member moment session [] over = refl
over_frames config member moment session (frame ∷ frames) over =
    ap (λ (w : Work). then_work w (work_of_frames config member moment w.session frames))
    (over_frame config member moment session frame over)
    ∙ ap (then_work (idle session)) (over_frames config member moment session frames over)

pub over_reading : (config : Config) (member : ℕ) (moment : ℤ) (session : Machine) (reading : Reading) → IsOver session
    → work_of_reading config member moment session reading ≡ idle session
unfolding work_of_reading
over_reading config member moment session reading over =
    let at_limit : work_at_limit moment session ≡ idle session = ap turned (limit_rests session moment over) in
    ap (λ (w : Work). cond reading.too_long (then_work w (work_at_limit moment w.session)) w)
    (over_frames config member moment session reading.frames over)
    ∙ ap (λ (w : Work). cond reading.too_long (then_work (idle session) w) (idle session)) at_limit
    ∙ (elim reading.too_long as (λ b. cond b (idle session) (idle session) ≡ idle session) [ true ↦ refl | false ↦ refl ])
