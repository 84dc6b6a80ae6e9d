-- The commands that a member's bytes make don't depend on what he was sent.
use Rattle.std.proofs.Common.{ℕ, ℤ, Bool, true, false, cond, List, [], ◌∷◌, ◌++◌, Option, None, Some, Result, Ok, Err, refl, subst}
use Rattle.fix_frames.specs.declared.reading.Reading.{Reading}
use Rattle.venue_words.specs.declared.config.Config.{Config}
use Rattle.session_core.specs.declared.message.Request.{Request}
use Rattle.session_core.specs.Machine.{Machine, Outcome, on_frame, on_overlong}
use Rattle.session_core.specs.Alike.{AreAlike, GiveAlike}
use Rattle.session_core.specs.AlikeLaws.{frame-alike, overlong-alike, sends-alike, rejects-alike, alike-sym, alike-trans}
use Rattle.order_fields.specs.declared.order.Decoded.{Decoded}
use Rattle.order_fields.specs.declared.order.Decoded.TheVariants.{Book, Stray}
use Rattle.order_fields.specs.declared.order.Refusal.{Refusal}
use Rattle.order_fields.specs.declared.order.Refusal.TheVariants.{Reject, Business, NoMemory}
use Rattle.order_fields.specs.Order.{order}
use Rattle.member_gate.specs.Answering.{Work, turned, name_at, answer_to, answer}
use Rattle.member_gate.specs.Working.{then_work, handed_out, work_of_frame, work_of_frames, work_at_limit, work_of_reading}
use Rattle.script_laws.specs.Alike.{SubmitAlike}

-- both sent something
both : (a b c d : Machine) → AreAlike a b → AreAlike c a → AreAlike d b → AreAlike c d
both a b c d ab ca db = alike-trans c b d (alike-trans c a b ca ab) (alike-sym d b db)

self : (a : Machine) → AreAlike a a
self a = record { member = refl; state = refl }

-- what answers a message changes nothing of what is received later
answered-alike : (name : List ℕ) (moment : ℤ) (a b : Machine) (request : Request) (meant : Result Decoded Refusal) → AreAlike a b
    → SubmitAlike (answer_to name moment a request meant) (answer_to name moment b request meant)
answered-alike name moment a b request (Ok (Book symbol command)) alike = record { sessions = alike; submissions = refl }
answered-alike name moment a b request (Ok (Stray report)) alike = record {
  sessions = both a b _ _ alike (sends-alike a a _ moment (self a)) (sends-alike b b _ moment (self b));
  submissions = refl;
}
answered-alike name moment a b request (Err (Reject reason tag)) alike = record {
  sessions = both a b _ _ alike (rejects-alike a a request.number request.kind tag reason moment (self a)) (rejects-alike b b request.number request.kind tag reason moment (self b));
  submissions = refl;
}
answered-alike name moment a b request (Err Business) alike = record {
  sessions = both a b _ _ alike (sends-alike a a _ moment (self a)) (sends-alike b b _ moment (self b));
  submissions = refl;
}
answered-alike name moment a b request (Err NoMemory) alike = record { sessions = alike; submissions = refl }

handed-alike : (config : Config) (member : ℕ) (moment : ℤ) (a b : Machine) (request : Option Request) → AreAlike a b
    → SubmitAlike (handed_out config member moment a request) (handed_out config member moment b request)
unfolding answer
handed-alike config member moment a b None alike = record { sessions = alike; submissions = refl }
handed-alike config member moment a b (Some request) alike =
    answered-alike (name_at config.members member) moment a b request (order request member config moment) alike

then-alike : (a b c d : Work) → SubmitAlike a b → SubmitAlike c d → SubmitAlike (then_work a c) (then_work b d)
then-alike a b c d first second = record {
  sessions = second.sessions;
  submissions = λ k. first.submissions k ++ second.submissions k;
}

turned-alike : (a b : Outcome) → GiveAlike a b → SubmitAlike (turned a) (turned b)
turned-alike a b alike = record { sessions = alike.machines; submissions = refl }

-- a frame
pub frame_submits-alike : (config : Config) (member : ℕ) (moment : ℤ) (a b : Machine) (frame : List ℕ) → AreAlike a b
    → SubmitAlike (work_of_frame config member moment a frame) (work_of_frame config member moment b frame)
unfolding work_of_frame
frame_submits-alike config member moment a b frame alike =
    let p : Outcome = on_frame a frame moment in
    let q : Outcome = on_frame b frame moment in
    let given : GiveAlike p q = frame-alike a b frame moment alike in
    then-alike (turned p) (turned q) (handed_out config member moment p.machine p.turn.request) (handed_out config member moment q.machine q.turn.request)
    (turned-alike p q given)
    (subst (λ (r : Option Request). SubmitAlike (handed_out config member moment p.machine p.turn.request) (handed_out config member moment q.machine r)) given.request
    (handed-alike config member moment p.machine q.machine p.turn.request given.machines))

-- frames
pub frames_submit-alike : (config : Config) (member : ℕ) (moment : ℤ) (a b : Machine) (frames : List (List ℕ)) → AreAlike a b
    → SubmitAlike (work_of_frames config member moment a frames) (work_of_frames config member moment b frames)
frames_submit-alike config member moment a b [] alike = record { sessions = alike; submissions = refl }
frames_submit-alike config member moment a b (frame ∷ frames) alike =
    let first = work_of_frame config member moment a frame in
    let second = work_of_frame config member moment b frame in
    let one : SubmitAlike first second = frame_submits-alike config member moment a b frame alike in
    then-alike first second (work_of_frames config member moment first.session frames) (work_of_frames config member moment second.session frames)
    one (frames_submit-alike config member moment first.session second.session frames one.sessions)

cond-alike : (test : Bool) (a b c d : Work) → SubmitAlike a b → SubmitAlike c d → SubmitAlike (cond test a c) (cond test b d)
cond-alike true a b c d h k = h
cond-alike false a b c d h k = k

-- a reading
pub reading_submits-alike : (config : Config) (member : ℕ) (moment : ℤ) (a b : Machine) (reading : Reading) → AreAlike a b
    → SubmitAlike (work_of_reading config member moment a reading) (work_of_reading config member moment b reading)
unfolding work_of_reading
reading_submits-alike config member moment a b reading alike =
    let first = work_of_frames config member moment a reading.frames in
    let second = work_of_frames config member moment b reading.frames in
    let frames : SubmitAlike first second = frames_submit-alike config member moment a b reading.frames alike in
    cond-alike reading.too_long (then_work first (work_at_limit moment first.session)) (then_work second (work_at_limit moment second.session)) first second
    (then-alike first second (work_at_limit moment first.session) (work_at_limit moment second.session) frames
    (turned-alike (on_overlong first.session moment) (on_overlong second.session moment) (overlong-alike first.session second.session moment frames.sessions)))
    frames
