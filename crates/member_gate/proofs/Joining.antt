-- How the work of one frame after the other is joined.
use Rattle.std.proofs.Common.{◌≡◌, ℕ, ℤ, true, false, cond, List, [], ◌∷◌, ◌++◌, refl, sym, ◌∙◌, ap, append_assoc}
use Rattle.std.proofs.lemmas.List.{append-nil}
use Rattle.fix_frames.specs.declared.reading.Reading.{Reading}
use Rattle.fix_frames.specs.Reading.{with_frames, reading_of}
use Rattle.venue_words.specs.declared.config.Config.{Config}
use Rattle.session_core.specs.Machine.{Machine}
use Rattle.member_gate.specs.Answering.{Submission, Work, idle}
use Rattle.member_gate.specs.Working.{then_work, work_of_frame, work_of_frames, work_at_limit, work_of_reading, AreUnread}

abbrev joined_work : Machine → List (List ℕ) × List Submission → Work
joined_work session parts = record { session = session; replies = parts.0; submissions = parts.1 }

then_nil : (w : Work) → then_work w (idle w.session) ≡ w
then_nil w = λ k. joined_work w.session (append-nil w.replies k, append-nil w.submissions k)

then_assoc : (a b c : Work) → then_work (then_work a b) c ≡ then_work a (then_work b c)
then_assoc a b c = λ k. joined_work c.session (append_assoc a.replies b.replies c.replies k, append_assoc a.submissions b.submissions c.submissions k)

-- the work of more frames
frames_append : (config : Config) (member : ℕ) (moment : ℤ) (session : Machine) (first second : List (List ℕ)) → work_of_frames config member moment session (first ++ second)
    ≡ then_work (work_of_frames config member moment session first) (work_of_frames config member moment (work_of_frames config member moment session first).session second)
frames_append config member moment session [] second = refl
frames_append config member moment session (frame ∷ first) second =
    let one = work_of_frame config member moment session frame in
    let more = work_of_frames config member moment one.session first in
    ap (then_work one) (frames_append config member moment one.session first second)
    ∙ sym (then_assoc one more (work_of_frames config member moment more.session second))

-- one more frame
pub frames_snoc : (config : Config) (member : ℕ) (moment : ℤ) (session : Machine) (frames : List (List ℕ)) (frame : List ℕ) → work_of_frames config member moment session (frames ++ frame ∷ [])
    ≡ then_work (work_of_frames config member moment session frames) (work_of_frame config member moment (work_of_frames config member moment session frames).session frame)
frames_snoc config member moment session frames frame =
    let done = work_of_frames config member moment session frames in
    frames_append config member moment session frames (frame ∷ [])
    ∙ ap (then_work done) (then_nil (work_of_frame config member moment done.session frame))

-- the work of a reading behind further frames
reading_behind : (config : Config) (member : ℕ) (moment : ℤ) (session : Machine) (frames : List (List ℕ)) (reading : Reading) → work_of_reading config member moment session (with_frames frames reading)
    ≡ then_work (work_of_frames config member moment session frames) (work_of_reading config member moment (work_of_frames config member moment session frames).session reading)
unfolding work_of_reading
reading_behind config member moment session frames reading =
    let first = work_of_frames config member moment session frames in
    let second = work_of_frames config member moment first.session reading.frames in
    ap (λ (w : Work). cond reading.too_long (then_work w (work_at_limit moment w.session)) w) (frames_append config member moment session frames reading.frames)
    ∙ (elim reading.too_long as (λ b. cond b (then_work (then_work first second) (work_at_limit moment second.session)) (then_work first second) ≡ then_work first (cond b (then_work second (work_at_limit moment second.session)) second)) [
      | true ↦ then_assoc first second (work_at_limit moment second.session)
      | false ↦ refl
    ])

-- where no frame is too long, the work is that of the frames
reading_whole : (config : Config) (member : ℕ) (moment : ℤ) (session : Machine) (reading : Reading) → reading.too_long ≡ false → work_of_reading config member moment session reading ≡ work_of_frames config member moment session reading.frames
unfolding work_of_reading
reading_whole config member moment session reading e =
    let frames = work_of_frames config member moment session reading.frames in
    ap (λ b. cond b (then_work frames (work_at_limit moment frames.session)) frames) e

-- however a stream is cut, its work is that of the parts
pub cut_anywhere : (config : Config) (member : ℕ) (moment : ℤ) (session : Machine) (bytes unread more : List ℕ) → AreUnread bytes unread → (reading_of bytes).too_long ≡ false
    → work_of_reading config member moment session (reading_of (bytes ++ more))
    ≡ then_work (work_of_reading config member moment session (reading_of bytes))
    (work_of_reading config member moment (work_of_reading config member moment session (reading_of bytes)).session (reading_of (unread ++ more)))
cut_anywhere config member moment session bytes unread more are_unread e =
    ap (work_of_reading config member moment session) (are_unread more)
    ∙ reading_behind config member moment session (reading_of bytes).frames (reading_of (unread ++ more))
    ∙ ap (λ (w : Work). then_work w (work_of_reading config member moment w.session (reading_of (unread ++ more)))) (sym (reading_whole config member moment session (reading_of bytes) e))
