-- A session that is over stays as it is.
use Rattle.std.proofs.Common.{◌≡◌, Ok, Err, [], ◌∷◌, true, false, refl, ap, subst, ◌∙◌}
use Rattle.session_core.specs.declared.runs.Input.{Input}
use Rattle.session_core.specs.declared.runs.Input.TheVariants.{Connection, Frame, TooLong, Tick, Send, Reject}
use Rattle.session_core.specs.declared.state.Phase.{Phase}
use Rattle.session_core.specs.declared.state.Phase.TheVariants.{New, Up, Ended}
use Rattle.session_core.specs.State.{is_up_phase, is_over}
use Rattle.session_core.specs.Machine.{Machine, Outcome, rests, on_frame, on_clock, on_overlong}
use Rattle.session_core.specs.Runs.{outcome_of, Follows, MayWantMemory}
use Rattle.message_laws.specs.Stays.{is_connection, EndedStays}

-- what is over is not up
over_not_up : (phase : Phase) → is_over phase ≡ true → is_up_phase phase ≡ false
over_not_up New h = cc
over_not_up Up h = cc
over_not_up (Ended cause) h = refl

-- every input but a new connection is passed over
outcome_over : (machine : Machine) (input : Input) → is_over machine.state.phase ≡ true → is_connection input ≡ false →
    outcome_of machine input ≡ rests machine
unfolding on_frame on_clock on_overlong
outcome_over machine Connection over none = cc
outcome_over machine (Frame frame moment) over none = rw over refl
outcome_over machine (TooLong moment) over none = rw over refl
outcome_over machine (Tick moment) over none = rw (over_not_up machine.state.phase over) refl
outcome_over machine (Send messages moment) over none = rw (over_not_up machine.state.phase over) refl
outcome_over machine (Reject number kind tag reason moment) over none = rw (over_not_up machine.state.phase over) refl

-- and for it no memory is wanted
wants_nothing : (machine : Machine) (input : Input) → is_over machine.state.phase ≡ true → is_connection input ≡ false →
    MayWantMemory machine input → ⊥
wants_nothing machine Connection over none wanted = wanted
wants_nothing machine (Frame frame moment) over none wanted = let impossible : false ≡ true = rw over at wanted in cc
wants_nothing machine (TooLong moment) over none wanted = let impossible : false ≡ true = rw over at wanted in cc
wants_nothing machine (Tick moment) over none wanted = let impossible : false ≡ true = rw (over_not_up machine.state.phase over) at wanted in cc
wants_nothing machine (Send messages moment) over none wanted = let impossible : false ≡ true = rw (over_not_up machine.state.phase over) at wanted in cc
wants_nothing machine (Reject number kind tag reason moment) over none wanted = let impossible : false ≡ true = rw (over_not_up machine.state.phase over) at wanted in cc

pub ended_stays : EndedStays
ended_stays machine [] [] last over none follows = (follows, tt)
ended_stays machine [] (answer ∷ answers) last over none follows = absurd follows
ended_stays machine (input ∷ inputs) [] last over none follows = absurd follows
ended_stays machine (input ∷ inputs) (Ok turn ∷ answers) last over none follows =
    let passed : outcome_of machine input ≡ rests machine = outcome_over machine input over none.0 in
    let behind : Follows machine inputs answers last =
    subst (λ (outcome : Outcome). Follows outcome.machine inputs answers last) passed follows.1 in
    let others = ended_stays machine inputs answers last over none.1 behind in
    let same : turn ≡ (rests machine).turn = follows.0 ∙ ap (λ (outcome : Outcome). outcome.turn) passed in
    (others.0, (ap Ok same, others.1))
ended_stays machine (input ∷ inputs) (Err no_memory ∷ answers) last over none follows =
    absurd (wants_nothing machine input over none.0 follows.0)
