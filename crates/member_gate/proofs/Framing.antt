-- What is done with a message that a frame hands out.
use Rattle.std.proofs.Common.{◌≡◌, ℕ, ℤ, List, [], ◌∷◌, inr, Some, sym, ◌∙◌, ap}
use Rattle.venue_words.specs.declared.config.Config.{Config}
use Rattle.session_core.specs.declared.message.Request.{Request}
use Rattle.session_core.specs.declared.turn.Turn.{Turn}
use Rattle.session_core.specs.Machine.{Machine, Outcome, on_frame, given_up}
use Rattle.member_gate.specs.Answering.{Work, answer}
use Rattle.member_gate.specs.Working.{handed_out, work_of_frame, GaveUp}

handed : (config : Config) (member : ℕ) (moment read : ℤ) (session next : Machine) (frame : List ℕ) (turn : Turn) (request : Request)
    → read ≡ moment → turn ≡ (on_frame session frame read).turn → next ≡ (on_frame session frame read).machine → turn.request ≡ Some request
    → handed_out config member moment (on_frame session frame moment).machine (on_frame session frame moment).turn.request ≡ answer config member moment next request
handed config member moment read session next frame turn request e t m asked =
    let now : on_frame session frame read ≡ on_frame session frame moment = ap (on_frame session frame) e in
    let asked_is : (on_frame session frame moment).turn.request ≡ Some request = ap (λ (x : Turn). x.request) (sym (t ∙ ap (λ (x : Outcome). x.turn) now)) ∙ asked in
    ap (handed_out config member moment (on_frame session frame moment).machine) asked_is
    ∙ ap (λ (x : Machine). answer config member moment x request) (sym (m ∙ ap (λ (x : Outcome). x.machine) now))

pub frame_session : (config : Config) (member : ℕ) (moment read : ℤ) (session next : Machine) (frame : List ℕ) (turn : Turn) (request : Request)
    → read ≡ moment → turn ≡ (on_frame session frame read).turn → next ≡ (on_frame session frame read).machine → turn.request ≡ Some request
    → (work_of_frame config member moment session frame).session ≡ (answer config member moment next request).session
unfolding work_of_frame
frame_session config member moment read session next frame turn request e t m asked =
    ap (λ (w : Work). w.session) (handed config member moment read session next frame turn request e t m asked)

pub frame_submits : (config : Config) (member : ℕ) (moment read : ℤ) (session next : Machine) (frame : List ℕ) (turn : Turn) (request : Request)
    → read ≡ moment → turn ≡ (on_frame session frame read).turn → next ≡ (on_frame session frame read).machine → turn.request ≡ Some request
    → (work_of_frame config member moment session frame).submissions ≡ (answer config member moment next request).submissions
unfolding work_of_frame
frame_submits config member moment read session next frame turn request e t m asked =
    ap (λ (w : Work). w.submissions) (handed config member moment read session next frame turn request e t m asked)

-- a session that took a frame gave up behind it
pub gave_up_behind : (moment read : ℤ) (session next : Machine) (frame : List ℕ) → read ≡ moment → next ≡ (on_frame session frame read).machine
    → GaveUp moment session (frame ∷ []) (given_up next)
gave_up_behind moment read session next frame e m = inr (ap given_up m ∙ ap (λ (r : ℤ). given_up (on_frame session frame r).machine) e)
