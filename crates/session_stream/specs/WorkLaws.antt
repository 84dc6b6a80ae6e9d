-- How the work on a stream goes on, frame by frame, and how it ends.
use Rattle.std.proofs.Common.{◌≡◌, ℕ, ◌+◌, ◌==◌, length, ℤ, Bool, true, false, cond, List, [], ◌∷◌, ◌++◌, Option, None, Some, Result, Ok, Err, refl, sym, ◌∙◌, ap, subst, append_assoc}
use Rattle.std.proofs.lemmas.List.{append-nil}
use Rattle.fix_frames.specs.declared.reading.Reading.{Reading}
use Rattle.fix_frames.specs.Reading.{none_yet, only_too_long, with_frames, reading_of}
use Rattle.fix_fields.specs.declared.field.Field.{Field}
use Rattle.fix_fields.specs.declared.field.FieldFault.{FieldFault}
use Rattle.fix_fields.specs.Fields.{split}
use Rattle.session_core.specs.declared.plan.Plan.{Plan}
use Rattle.session_core.specs.declared.state.State.{State}
use Rattle.session_core.specs.Cases.{on_too_long}
use Rattle.fix_fields.specs.Content.{content_of}
use Rattle.session_core.specs.Lookup.{message_number}
use Rattle.session_core.specs.State.{cause_of, heard, is_over}
use Rattle.session_core.specs.declared.message.Request.{Request}
use Rattle.session_core.specs.declared.turn.Turn.{Turn}
use Rattle.session_core.specs.Alike.{AreAlike, GiveAlike}
use Rattle.session_core.specs.AlikeLaws.{frame-alike, overlong-alike, alike-sym, alike-trans}
use Rattle.session_core.specs.Machine.{Machine, Outcome, IsOver, rests, sent_now, replies_of, plan_for, carried_out, on_fields, on_frame, ends_too_long, on_overlong}
use Rattle.session_stream.specs.Hearing.{Reads, TakesFrame, Exceeds, Waits, IsUnderway}
use Rattle.session_stream.specs.Laws.{OnlySends, HandOutAlike}
use Rattle.session_stream.specs.Work.{Answerer, Work, idle, turned, then_work, answered, work_of_frame, work_of_frames, work_at_limit, work_of_reading}

abbrev joined_work : Machine → List (List ℕ) × List Request → Work
joined_work session parts = record { session = session; replies = parts.0; requests = parts.1 }

then_nil : (w : Work) → then_work w (idle w.session) ≡ w
then_nil w = λ k. joined_work w.session (append-nil w.replies k, append-nil w.requests k)

then_assoc : (a b c : Work) → then_work (then_work a b) c ≡ then_work a (then_work b c)
then_assoc a b c = λ k. joined_work c.session (append_assoc a.replies b.replies c.replies k, append_assoc a.requests b.requests c.requests k)

module _ (answerer : Answerer) (moment : ℤ) where
  -- the work of more frames
  pub frames_append : (session : Machine) (first second : List (List ℕ)) → work_of_frames answerer moment session (first ++ second)
      ≡ then_work (work_of_frames answerer moment session first) (work_of_frames answerer moment (work_of_frames answerer moment session first).session second)
  frames_append session [] second = refl
  frames_append session (frame ∷ first) second =
      let one = work_of_frame answerer moment session frame in
      let more = work_of_frames answerer moment one.session first in
      ap (then_work one) (frames_append one.session first second)
      ∙ sym (then_assoc one more (work_of_frames answerer moment more.session second))

  -- one more frame
  pub frames_snoc : (session : Machine) (frames : List (List ℕ)) (frame : List ℕ) → work_of_frames answerer moment session (frames ++ frame ∷ [])
      ≡ then_work (work_of_frames answerer moment session frames) (work_of_frame answerer moment (work_of_frames answerer moment session frames).session frame)
  frames_snoc session frames frame =
      let done = work_of_frames answerer moment session frames in
      frames_append session frames (frame ∷ [])
      ∙ ap (then_work done) (then_nil (work_of_frame answerer moment done.session frame))

  -- the work of a reading behind further frames
  pub reading_behind : (session : Machine) (frames : List (List ℕ)) (reading : Reading) → work_of_reading answerer moment session (with_frames frames reading)
      ≡ then_work (work_of_frames answerer moment session frames) (work_of_reading answerer moment (work_of_frames answerer moment session frames).session reading)
  unfolding work_of_reading
  reading_behind session frames reading =
      let first = work_of_frames answerer moment session frames in
      let second = work_of_frames answerer moment first.session reading.frames in
      ap (λ (w : Work). cond reading.too_long (then_work w (work_at_limit moment w.session)) w) (frames_append session frames reading.frames)
      ∙ (elim reading.too_long as (λ b. cond b (then_work (then_work first second) (work_at_limit moment second.session)) (then_work first second) ≡ then_work first (cond b (then_work second (work_at_limit moment second.session)) second)) [
        | true ↦ then_assoc first second (work_at_limit moment second.session)
        | false ↦ refl
      ])

  -- where no frame is too long, the work is that of the frames
  pub reading_whole : (session : Machine) (reading : Reading) → reading.too_long ≡ false → work_of_reading answerer moment session reading ≡ work_of_frames answerer moment session reading.frames
  unfolding work_of_reading
  reading_whole session reading e =
      let frames = work_of_frames answerer moment session reading.frames in
      ap (λ b. cond b (then_work frames (work_at_limit moment frames.session)) frames) e

  -- where one is too long behind no frame, the work is that at the limit
  pub reading_long : (session : Machine) → work_of_reading answerer moment session only_too_long ≡ work_at_limit moment session
  unfolding work_of_reading
  reading_long session = refl

  -- however a stream is cut, its work is that of the parts
  pub cut_anywhere : (session : Machine) (bytes unread more : List ℕ) → Reads bytes (reading_of bytes).frames unread → (reading_of bytes).too_long ≡ false
      → work_of_reading answerer moment session (reading_of (bytes ++ more))
      ≡ then_work (work_of_reading answerer moment session (reading_of bytes))
      (work_of_reading answerer moment (work_of_reading answerer moment session (reading_of bytes)).session (reading_of (unread ++ more)))
  cut_anywhere session bytes unread more reads e =
      ap (work_of_reading answerer moment session) (reads more)
      ∙ reading_behind session (reading_of bytes).frames (reading_of (unread ++ more))
      ∙ ap (λ (w : Work). then_work w (work_of_reading answerer moment w.session (reading_of (unread ++ more)))) (sym (reading_whole session (reading_of bytes) e))

  -- ---- to a session that is over no frame does anything

  frame_rests : (session : Machine) (frame : List ℕ) → IsOver session → on_frame session frame moment ≡ rests session
  unfolding on_frame
  frame_rests session frame over = rw over refl

  limit_rests : (session : Machine) → IsOver session → on_overlong session moment ≡ rests session
  unfolding on_overlong
  limit_rests session over = rw over refl

  over_frame : (session : Machine) (frame : List ℕ) → IsOver session → work_of_frame answerer moment session frame ≡ idle session
  unfolding work_of_frame
  over_frame session frame over =
      ap (λ (o : Outcome). then_work (turned o) (answered answerer o.machine o.turn.request)) (frame_rests session frame over)

  over_frames : (session : Machine) (frames : List (List ℕ)) → IsOver session → work_of_frames answerer moment session frames ≡ idle session
  over_frames session [] over = refl
  over_frames session (frame ∷ frames) over =
      ap (λ (w : Work). then_work w (work_of_frames answerer moment w.session frames)) (over_frame session frame over)
      ∙ ap (then_work (idle session)) (over_frames session frames over)

  pub over_reading : (session : Machine) (reading : Reading) → IsOver session → work_of_reading answerer moment session reading ≡ idle session
  unfolding work_of_reading
  over_reading session reading over =
      let at_limit : work_at_limit moment session ≡ idle session = ap turned (limit_rests session over) in
      ap (λ (w : Work). cond reading.too_long (then_work w (work_at_limit moment w.session)) w) (over_frames session reading.frames over)
      ∙ ap (λ (w : Work). cond reading.too_long (then_work (idle session) w) (idle session)) at_limit
      ∙ (elim reading.too_long as (λ b. cond b (idle session) (idle session) ≡ idle session) [ true ↦ refl | false ↦ refl ])

  -- ---- a stream under way

  -- no frame was taken yet
  pub underway_none : (first : Machine) (bytes : List ℕ) → IsUnderway answerer moment first bytes (idle first) bytes
  underway_none first bytes = record { frames = []; reads = λ more. refl; work_is = refl }

  -- some bytes more come
  pub underway_fed : (first : Machine) (bytes piece : List ℕ) (work : Work) (unread : List ℕ) → IsUnderway answerer moment first bytes work unread
      → IsUnderway answerer moment first (bytes ++ piece) work (unread ++ piece)
  underway_fed first bytes piece work unread u = record {
    frames = u.frames;
    reads = λ more. ap reading_of (append_assoc bytes piece more) ∙ u.reads (piece ++ more) ∙ ap (λ (r : List ℕ). with_frames u.frames (reading_of r)) (sym (append_assoc unread piece more));
    work_is = u.work_is;
  }

  -- what a turn and its answer make
  abbrev pub work_of_turn : Machine → Turn → Work
  work_of_turn session turn =
      then_work (record { session = session; replies = turn.replies; requests = [] }) (answered answerer session turn.request)

  turn_works : (old new : Machine) (bytes unread : List ℕ) (turn : Turn) (t : TakesFrame moment old bytes turn new unread) → work_of_frame answerer moment old t.frame ≡ work_of_turn new turn
  unfolding work_of_frame
  turn_works old new bytes unread turn t =
      ap (λ (s : Machine). then_work (record { session = s; replies = (on_frame old t.frame moment).turn.replies; requests = [] }) (answered answerer s (on_frame old t.frame moment).turn.request)) (sym t.machine)
      ∙ ap (λ (u : Turn). work_of_turn new u) (sym t.turn_is)

  with_more : (worked more : List (List ℕ)) (reading : Reading) → with_frames worked (with_frames more reading) ≡ with_frames (worked ++ more) reading
  with_more worked more reading = ap (λ (fs : List (List ℕ)). let r : Reading = record { frames = fs; too_long = reading.too_long } in r) (sym (append_assoc worked more reading.frames))

  -- one more frame
  pub underway_more : (first : Machine) (bytes : List ℕ) (work : Work) (old new : Machine) (unread next : List ℕ) (turn : Turn)
      → IsUnderway answerer moment first bytes work unread → work.session ≡ old → TakesFrame moment old unread turn new next
      → IsUnderway answerer moment first bytes (then_work work (work_of_turn new turn)) next
  underway_more first bytes work old new unread next turn u e t = record {
    frames = u.frames ++ t.frame ∷ [];
    reads = λ more. u.reads more ∙ ap (with_frames u.frames) (t.reads more) ∙ with_more u.frames (t.frame ∷ []) (reading_of (next ++ more));
    work_is =
        ap (then_work work) (sym (turn_works old new unread next turn t))
        ∙ ap (λ (s : Machine). then_work work (work_of_frame answerer moment s t.frame)) (sym e)
        ∙ ap (λ (w : Work). then_work w (work_of_frame answerer moment w.session t.frame)) u.work_is
        ∙ sym (frames_snoc first u.frames t.frame);
  }

  -- the bytes that were taken so far, whatever follows
  pub underway_reads : (first : Machine) (bytes more : List ℕ) (work : Work) (unread : List ℕ) → IsUnderway answerer moment first bytes work unread
      → work_of_reading answerer moment first (reading_of (bytes ++ more)) ≡ then_work work (work_of_reading answerer moment work.session (reading_of (unread ++ more)))
  underway_reads first bytes more work unread u =
      ap (work_of_reading answerer moment first) (u.reads more) ∙ reading_behind first u.frames (reading_of (unread ++ more))
      ∙ ap (λ (w : Work). then_work w (work_of_reading answerer moment w.session (reading_of (unread ++ more)))) (sym u.work_is)

  pub underway_reads_all : (first : Machine) (bytes : List ℕ) (work : Work) (unread : List ℕ) → IsUnderway answerer moment first bytes work unread
      → work_of_reading answerer moment first (reading_of bytes) ≡ then_work work (work_of_reading answerer moment work.session (reading_of unread))
  underway_reads_all first bytes work unread u =
      ap (λ (b : List ℕ). work_of_reading answerer moment first (reading_of b)) (sym (append-nil bytes)) ∙ underway_reads first bytes [] work unread u
      ∙ ap (λ (b : List ℕ). then_work work (work_of_reading answerer moment work.session (reading_of b))) (append-nil unread)

  -- the session is over: no further frame does anything, whatever follows
  pub underway_over : (first : Machine) (bytes : List ℕ) (work : Work) (unread : List ℕ) → IsUnderway answerer moment first bytes work unread → IsOver work.session
      → work_of_reading answerer moment first (reading_of bytes) ≡ work
  underway_over first bytes work unread u over =
      underway_reads_all first bytes work unread u ∙ ap (then_work work) (over_reading work.session (reading_of unread) over) ∙ then_nil work

  pub underway_over_more : (first : Machine) (bytes more : List ℕ) (work : Work) (unread : List ℕ) → IsUnderway answerer moment first bytes work unread → IsOver work.session
      → work_of_reading answerer moment first (reading_of (bytes ++ more)) ≡ work
  underway_over_more first bytes more work unread u over =
      underway_reads first bytes more work unread u ∙ ap (then_work work) (over_reading work.session (reading_of (unread ++ more)) over) ∙ then_nil work

  -- all frames were taken
  pub underway_settled : (first : Machine) (bytes : List ℕ) (work : Work) (unread : List ℕ) → IsUnderway answerer moment first bytes work unread → reading_of unread ≡ none_yet
      → work_of_reading answerer moment first (reading_of bytes) ≡ work
  unfolding work_of_reading
  underway_settled first bytes work unread u none =
      underway_reads_all first bytes work unread u
      ∙ ap (λ (r : Reading). then_work work (work_of_reading answerer moment work.session r)) none ∙ then_nil work

  -- there is no further frame yet
  pub underway_waits : (first : Machine) (bytes : List ℕ) (work : Work) (old new : Machine) (unread next : List ℕ)
      → IsUnderway answerer moment first bytes work unread → Waits old unread new next → IsUnderway answerer moment first bytes work next
  underway_waits first bytes work old new unread next u w = record {
    frames = u.frames;
    reads = λ more. u.reads more ∙ ap (with_frames u.frames) (w.reads more);
    work_is = u.work_is;
  }

  pub underway_whole : (first : Machine) (bytes : List ℕ) (work : Work) (old new : Machine) (unread next : List ℕ)
      → IsUnderway answerer moment first bytes work unread → Waits old unread new next
      → work_of_reading answerer moment first (reading_of bytes) ≡ work
  underway_whole first bytes work old new unread next u w =
      underway_settled first bytes work next (underway_waits first bytes work old new unread next u w) w.none

  -- the next frame is too long
  pub underway_long : (first : Machine) (bytes : List ℕ) (work : Work) (old new : Machine) (unread : List ℕ) (turn : Turn)
      → IsUnderway answerer moment first bytes work unread → work.session ≡ old → Exceeds moment old unread turn new
      → work_of_reading answerer moment first (reading_of bytes) ≡ then_work work (record { session = new; replies = turn.replies; requests = [] })
  underway_long first bytes work old new unread turn u e x =
      let here : reading_of unread ≡ only_too_long = ap reading_of (sym (append-nil unread)) ∙ x.exceeds [] in
      underway_reads_all first bytes work unread u
      ∙ ap (λ (r : Reading). then_work work (work_of_reading answerer moment work.session r)) here
      ∙ ap (then_work work) (reading_long work.session)
      ∙ ap (λ (s : Machine). then_work work (work_at_limit moment s)) e
      ∙ ap (λ (s : Machine). then_work work (record { session = s; replies = (on_overlong old moment).turn.replies; requests = [] })) (sym x.machine)
      ∙ ap (λ (t : Turn). then_work work (record { session = new; replies = t.replies; requests = [] })) (sym x.turn_is)

  -- whatever follows
  pub underway_long_more : (first : Machine) (bytes more : List ℕ) (work : Work) (old new : Machine) (unread : List ℕ) (turn : Turn)
      → IsUnderway answerer moment first bytes work unread → work.session ≡ old → Exceeds moment old unread turn new
      → work_of_reading answerer moment first (reading_of (bytes ++ more)) ≡ work_of_reading answerer moment first (reading_of bytes)
  underway_long_more first bytes more work old new unread turn u e x =
      let here : reading_of unread ≡ only_too_long = ap reading_of (sym (append-nil unread)) ∙ x.exceeds [] in
      underway_reads first bytes more work unread u
      ∙ ap (λ (r : Reading). then_work work (work_of_reading answerer moment work.session r)) (x.exceeds more ∙ sym here)
      ∙ sym (underway_reads_all first bytes work unread u)

-- ---- a turn tells why the session ended behind it

module _ (moment : ℤ) where
  sent_cause : (replies : List (List ℕ)) (state : State) → cause_of (sent_now moment replies state).phase ≡ cause_of state.phase
  sent_cause replies state =
      elim (length replies == 0) as (λ b. cause_of (cond b state (record state { sent_at = moment })).phase ≡ cause_of state.phase) [ true ↦ refl | false ↦ refl ]

  carried_cause : (session : Machine) (fields : List Field) (plan : Plan) → (carried_out session moment fields plan).turn.ended ≡ cause_of (carried_out session moment fields plan).machine.state.phase
  unfolding carried_out
  carried_cause session fields plan = sym (sent_cause (replies_of session moment plan) plan.state)

  fields_cause : (session : Machine) (found : Result (List Field) FieldFault) → (on_fields session moment found).turn.ended ≡ cause_of (on_fields session moment found).machine.state.phase
  fields_cause session (Err fault) = refl
  fields_cause session (Ok fields) = carried_cause session fields (plan_for session (heard moment session.state) fields (message_number fields))

  cond_cause : (test : Bool) (a b : Outcome) → a.turn.ended ≡ cause_of a.machine.state.phase → b.turn.ended ≡ cause_of b.machine.state.phase
      → (cond test a b).turn.ended ≡ cause_of (cond test a b).machine.state.phase
  cond_cause true a b h k = h
  cond_cause false a b h k = k

  pub frame_cause : (session : Machine) (frame : List ℕ) → (on_frame session frame moment).turn.ended ≡ cause_of (on_frame session frame moment).machine.state.phase
  unfolding on_frame
  frame_cause session frame =
      cond_cause (is_over session.state.phase) (rests session) (on_fields session moment (split (content_of frame))) refl (fields_cause session (split (content_of frame)))

  pub overlong_cause : (session : Machine) → (on_overlong session moment).turn.ended ≡ cause_of (on_overlong session moment).machine.state.phase
  unfolding on_overlong
  overlong_cause session =
      cond_cause (is_over session.state.phase) (rests session) (ends_too_long session moment) refl (carried_cause session [] (on_too_long session.state))

-- ---- what is answered changes nothing of what is handed out

module _ (first second : Answerer) (moment : ℤ) (one : OnlySends first) (two : OnlySends second) where
  both : (a b c d : Machine) → AreAlike a b → AreAlike c a → AreAlike d b → AreAlike c d
  both a b c d ab ca db = alike-trans c b d (alike-trans c a b ca ab) (alike-sym d b db)

  answered-alike : (a b : Machine) (request : Option Request) → AreAlike a b → HandOutAlike (answered first a request) (answered second b request)
  answered-alike a b None alike = record { sessions = alike; requests = refl }
  answered-alike a b (Some request) alike = record {
    sessions = both a b (first a request).machine (second b request).machine alike (one a request) (two b request);
    requests = refl;
  }

  then-alike : (a b c d : Work) → HandOutAlike a b → HandOutAlike c d → HandOutAlike (then_work a c) (then_work b d)
  then-alike a b c d h k = record { sessions = k.sessions; requests = λ i. h.requests i ++ k.requests i }

  turned-alike : (a b : Outcome) → GiveAlike a b → HandOutAlike (turned a) (turned b)
  turned-alike a b alike = record { sessions = alike.machines; requests = refl }

  frame_work-alike : (a b : Machine) (frame : List ℕ) → AreAlike a b → HandOutAlike (work_of_frame first moment a frame) (work_of_frame second moment b frame)
  unfolding work_of_frame
  frame_work-alike a b frame alike =
      let p : Outcome = on_frame a frame moment in
      let q : Outcome = on_frame b frame moment in
      let given : GiveAlike p q = frame-alike a b frame moment alike in
      then-alike (turned p) (turned q) (answered first p.machine p.turn.request) (answered second q.machine q.turn.request)
      (turned-alike p q given)
      (subst (λ (r : Option Request). HandOutAlike (answered first p.machine p.turn.request) (answered second q.machine r)) given.request
      (answered-alike p.machine q.machine p.turn.request given.machines))

  frames_work-alike : (a b : Machine) (frames : List (List ℕ)) → AreAlike a b → HandOutAlike (work_of_frames first moment a frames) (work_of_frames second moment b frames)
  frames_work-alike a b [] alike = record { sessions = alike; requests = refl }
  frames_work-alike a b (frame ∷ frames) alike =
      let p = work_of_frame first moment a frame in
      let q = work_of_frame second moment b frame in
      let here : HandOutAlike p q = frame_work-alike a b frame alike in
      then-alike p q (work_of_frames first moment p.session frames) (work_of_frames second moment q.session frames)
      here (frames_work-alike p.session q.session frames here.sessions)

  cond-alike : (test : Bool) (a b c d : Work) → HandOutAlike a b → HandOutAlike c d → HandOutAlike (cond test a c) (cond test b d)
  cond-alike true a b c d h k = h
  cond-alike false a b c d h k = k

  pub reading_work-alike : (a b : Machine) (reading : Reading) → AreAlike a b → HandOutAlike (work_of_reading first moment a reading) (work_of_reading second moment b reading)
  unfolding work_of_reading
  reading_work-alike a b reading alike =
      let p = work_of_frames first moment a reading.frames in
      let q = work_of_frames second moment b reading.frames in
      let frames : HandOutAlike p q = frames_work-alike a b reading.frames alike in
      cond-alike reading.too_long (then_work p (work_at_limit moment p.session)) (then_work q (work_at_limit moment q.session)) p q
      (then-alike p q (work_at_limit moment p.session) (work_at_limit moment q.session) frames
      (turned-alike (on_overlong p.session moment) (on_overlong q.session moment) (overlong-alike p.session q.session moment frames.sessions)))
      frames
