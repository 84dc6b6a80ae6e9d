-- Frame by frame the work on a stream goes on.
use Rattle.std.proofs.Common.{◌≡◌, ◌⊎◌, ◌<◌, ◌==◌, inl, inr, length, ℕ, ℤ, true, false, cond, List, [], ◌∷◌, ◌++◌, Result, Ok, Err, OnErr, refl, sym, ◌∙◌, ap, subst, append-nil, append_assoc}
use Rattle.std.specs.Prelude.{codes}
use Rattle.fix_frames.specs.declared.reading.Reading.{Reading}
use Rattle.fix_frames.specs.Reading.{none_yet, only_too_long, with_frames, reading_of}
use Rattle.fix_frames.specs.ReadingLaws.{reading-given, reading-exceeded}
use Rattle.fix_frames.specs.Streams.{Stream, HasGiven, HasWaited, HasExceeded}
use Rattle.venue_words.specs.declared.limits.TheConstants.{MAX_FRAME_BYTES}
use Rattle.session_core.specs.declared.turn.Turn.{Turn}
use Rattle.session_core.specs.Answers.{drops, logs_out}
use Rattle.session_core.specs.Cases.{on_too_long}
use Rattle.session_core.specs.Machine.{Machine, IsOver, given_up, rests, sent_now, replies_of, carried_out, ends_too_long, on_frame, on_overlong}
use Rattle.session_core.specs.declared.state.EndCause.TheVariants.{TooLong}
use Rattle.session_core.specs.declared.state.State.{State}
use Rattle.session_core.specs.Plan.{stays}
use Rattle.session_core.specs.State.{ended, is_over, is_up}
use Rattle.session_stream.specs.Hearing.{TakesFrame, Exceeds, Waits, IsUnderway, Reads}
use Rattle.session_stream.specs.AnsweringLaws.{takes_frame, waits, exceeds}
use Rattle.session_stream.specs.Work.{Work, idle, then_work, answered, work_of_frame, work_of_frames, work_at_limit, work_of_reading}
use Rattle.session_stream.specs.WorkLaws.{work_of_turn, underway_none, underway_more, underway_waits, underway_whole, underway_long}
use Rattle.member_gate.specs.Working.{GaveUp}
use Rattle.member_gate.proofs.Framing.{gave_up_behind}
use Rattle.drop_copy.specs.Answering.{refuses}
use Rattle.drop_copy.specs.Desks.{AreUnread, GaveUpOver}

-- ---- a frame that is too long ends the connection

sent_over : (replies : List (List ℕ)) (moment : ℤ) (state : State) → is_over (sent_now moment replies state).phase ≡ is_over state.phase
sent_over replies moment state =
    elim (length replies == 0) as (λ b. is_over (cond b state (record state { sent_at = moment })).phase ≡ is_over state.phase) [ true ↦ refl | false ↦ refl ]

dropped_over : (state : State) → is_over (on_too_long state).state.phase ≡ true
unfolding on_too_long drops logs_out
dropped_over state =
    elim (is_up state) as (λ b. is_over (cond b (logs_out state TooLong (codes "TOO LONG")) (stays (ended TooLong state))).state.phase ≡ true) [ true ↦ refl | false ↦ refl ]

pub long_over : (session : Machine) (moment : ℤ) → IsOver (on_overlong session moment).machine
unfolding on_overlong carried_out
long_over session moment =
    elim (is_over session.state.phase) as (λ b. is_over session.state.phase ≡ b → is_over (cond b (rests session) (ends_too_long session moment)).machine.state.phase ≡ true) [
      | true ↦ λ e. e
      | false ↦ λ e. sent_over (replies_of session moment (on_too_long session.state)) moment (on_too_long session.state).state ∙ dropped_over session.state
    ] refl

-- ---- the work so far

-- some frames of the bytes were worked: what is sent so far, and the session
pub record Going (moment : ℤ) (first : Machine) (bytes : List ℕ) (replies : List (List ℕ)) (session : Machine) (unread : List ℕ) (now : List (List ℕ)) : Type 0 where
  pub work : Work
  pub underway : IsUnderway (refuses moment) moment first bytes work unread
  pub session_is : work.session ≡ session
  pub replies_are : now ≡ replies ++ work.replies

pub going_none : (moment : ℤ) (first : Machine) (bytes : List ℕ) (replies : List (List ℕ)) → Going moment first bytes replies first bytes replies
going_none moment first bytes replies = record {
  work = idle first;
  underway = underway_none (refuses moment) moment first bytes;
  session_is = refl;
  replies_are = sym (append-nil replies);
}

pub going_more : (moment : ℤ) (first : Machine) (bytes : List ℕ) (replies now later : List (List ℕ)) (old mid new : Machine) (unread next : List ℕ) (turn : Turn)
    → Going moment first bytes replies old unread now → TakesFrame moment old unread turn mid next
    → new ≡ (answered (refuses moment) mid turn.request).session
    → later ≡ now ++ (turn.replies ++ (answered (refuses moment) mid turn.request).replies)
    → Going moment first bytes replies new next later
going_more moment first bytes replies now later old mid new unread next turn g t s r =
    let added = work_of_turn (refuses moment) moment mid turn in record {
      work = then_work g.work added;
      underway = underway_more (refuses moment) moment first bytes g.work old mid unread next turn g.underway g.session_is t;
      session_is = sym s;
      replies_are = r ∙ ap (λ (rs : List (List ℕ)). rs ++ added.replies) g.replies_are ∙ append_assoc replies g.work.replies added.replies;
    }

-- what the whole of the bytes makes
pub record Gone (moment : ℤ) (first : Machine) (bytes : List ℕ) (replies : List (List ℕ)) (session : Machine) (unread : List ℕ) (now : List (List ℕ)) : Type 0 where
  pub session_is : session ≡ (work_of_reading (refuses moment) moment first (reading_of bytes)).session
  pub replies_are : now ≡ replies ++ (work_of_reading (refuses moment) moment first (reading_of bytes)).replies
  pub unread_is : IsOver session ⊎ AreUnread bytes unread
  pub few : IsOver session ⊎ (length unread < MAX_FRAME_BYTES)

frames_are : (bytes : List ℕ) (frames : List (List ℕ)) (unread : List ℕ) → Reads bytes frames unread → reading_of unread ≡ none_yet
    → Reads bytes (reading_of bytes).frames unread
frames_are bytes frames unread reads none =
    let all : reading_of bytes ≡ with_frames frames none_yet
    = ap reading_of (sym (append-nil bytes)) ∙ reads [] ∙ ap (λ (u : List ℕ). with_frames frames (reading_of u)) (append-nil unread)
    ∙ ap (with_frames frames) none in
    let same : (reading_of bytes).frames ≡ frames = ap (λ (r : Reading). r.frames) all ∙ append-nil frames in
    subst (λ (fs : List (List ℕ)). Reads bytes fs unread) (sym same) reads

pub gone_whole : (moment : ℤ) (first : Machine) (bytes : List ℕ) (replies now : List (List ℕ)) (old new : Machine) (unread next : List ℕ)
    → Going moment first bytes replies old unread now → Waits old unread new next → Gone moment first bytes replies new next now
gone_whole moment first bytes replies now old new unread next g w =
    let whole = underway_whole (refuses moment) moment first bytes g.work old new unread next g.underway w in
    let on = underway_waits (refuses moment) moment first bytes g.work old new unread next g.underway w in record {
      session_is = w.machine ∙ sym g.session_is ∙ ap (λ (k : Work). k.session) (sym whole);
      replies_are = g.replies_are ∙ ap (λ (k : Work). replies ++ k.replies) (sym whole);
      unread_is = inr (frames_are bytes on.frames next on.reads w.none);
      few = inr w.few;
    }

pub gone_long : (moment : ℤ) (first : Machine) (bytes : List ℕ) (replies now later : List (List ℕ)) (old new : Machine) (unread next : List ℕ) (turn : Turn)
    → Going moment first bytes replies old unread now → Exceeds moment old unread turn new → later ≡ now ++ turn.replies
    → Gone moment first bytes replies new next later
gone_long moment first bytes replies now later old new unread next turn g x r =
    let long = underway_long (refuses moment) moment first bytes g.work old new unread turn g.underway g.session_is x in
    let over : IsOver new = subst (λ (m : Machine). IsOver m) (sym x.machine) (long_over old moment) in record {
      session_is = ap (λ (k : Work). k.session) (sym long);
      replies_are = r ∙ ap (λ (rs : List (List ℕ)). rs ++ turn.replies) g.replies_are ∙ append_assoc replies g.work.replies turn.replies
          ∙ ap (λ (k : Work). replies ++ k.replies) (sym long);
      unread_is = inl over;
      few = inl over;
    }

-- ---- by what the framer answers

-- a frame was given, and worked
pub going_frame : (moment : ℤ) (first : Machine) (bytes : List ℕ) (replies now later : List (List ℕ)) (old new : Machine) (stream rest : Stream) (frame : List ℕ)
    → Going moment first bytes replies old stream.kept now → HasGiven stream rest frame
    → new ≡ (work_of_frame (refuses moment) moment old frame).session
    → later ≡ now ++ (work_of_frame (refuses moment) moment old frame).replies
    → Going moment first bytes replies new rest.kept later
unfolding work_of_frame
going_frame moment first bytes replies now later old new stream rest frame g given s r =
    let outcome = on_frame old frame moment in
    going_more moment first bytes replies now later old outcome.machine new stream.kept rest.kept outcome.turn g
    (takes_frame moment moment old outcome.machine stream rest frame outcome.turn refl given refl refl) s r

-- there is no further frame yet
pub gone_waited : (moment : ℤ) (first : Machine) (bytes : List ℕ) (replies now : List (List ℕ)) (old : Machine) (stream rest : Stream)
    → Going moment first bytes replies old stream.kept now → HasWaited stream rest → Gone moment first bytes replies old rest.kept now
gone_waited moment first bytes replies now old stream rest g waited =
    gone_whole moment first bytes replies now old old stream.kept rest.kept g (waits old stream rest waited)

-- the next frame is too long
pub gone_exceeded : (moment : ℤ) (first : Machine) (bytes : List ℕ) (replies now later : List (List ℕ)) (old new : Machine) (stream rest : Stream)
    → Going moment first bytes replies old stream.kept now → HasExceeded stream rest
    → new ≡ (work_at_limit moment old).session → later ≡ now ++ (work_at_limit moment old).replies
    → Gone moment first bytes replies new rest.kept later
gone_exceeded moment first bytes replies now later old new stream rest g exceeded s r =
    let turn = (on_overlong old moment).turn in
    gone_long moment first bytes replies now later old new stream.kept rest.kept turn g
    (exceeds moment moment old new stream rest turn refl exceeded s refl) r

-- ---- memory was wanted

-- what followed a frame left the session behind it as it was
pub gave_up_after : {T E : Type 0} (result : Result T E) (moment read : ℤ) (session mid next : Machine) (frame : List ℕ) → read ≡ moment
    → mid ≡ (on_frame session frame read).machine → OnErr result (next ≡ mid)
    → OnErr result (GaveUp moment session (frame ∷ []) (given_up next))
gave_up_after (Ok x) moment read session mid next frame e m same = tt
gave_up_after (Err x) moment read session mid next frame e m same = gave_up_behind moment read session next frame e (same ∙ m)

-- before the first frame
pub stopped_at_once : (moment : ℤ) (session : Machine) (frames : List (List ℕ)) → GaveUpOver moment session frames (given_up session)
stopped_at_once moment session [] = record { worked = []; left = []; frames_are = refl; gave_up = inl refl }
stopped_at_once moment session (frame ∷ frames) = record { worked = []; left = frame ∷ frames; frames_are = refl; gave_up = inl refl }

-- the session behind the frames so far
session_so_far : (moment : ℤ) (first : Machine) (bytes : List ℕ) (replies now : List (List ℕ)) (session : Machine) (unread : List ℕ)
    (g : Going moment first bytes replies session unread now) → session ≡ (work_of_frames (refuses moment) moment first g.underway.frames).session
session_so_far moment first bytes replies now session unread g = sym g.session_is ∙ ap (λ (w : Work). w.session) g.underway.work_is

-- over the next frame
pub stopped_at_frame : (moment : ℤ) (first : Machine) (bytes : List ℕ) (replies now : List (List ℕ)) (session last : Machine) (stream rest : Stream) (frame : List ℕ)
    → Going moment first bytes replies session stream.kept now → HasGiven stream rest frame → GaveUp moment session (frame ∷ []) last
    → GaveUpOver moment first (reading_of bytes).frames last
stopped_at_frame moment first bytes replies now session last stream rest frame g given gave =
    let u = g.underway in
    let left = frame ∷ (reading_of (rest.kept ++ [])).frames in
    let reads : reading_of bytes ≡ with_frames u.frames (with_frames (frame ∷ []) (reading_of (rest.kept ++ [])))
    = ap reading_of (sym (append-nil bytes)) ∙ u.reads [] ∙ ap (with_frames u.frames) (reading-given stream rest frame [] given) in record {
      worked = u.frames;
      left = left;
      frames_are = ap (λ (r : Reading). r.frames) reads;
      gave_up = subst (λ (m : Machine). GaveUp moment m left last) (session_so_far moment first bytes replies now session stream.kept g) gave;
    }

-- behind all frames
pub stopped_at_limit : (moment : ℤ) (first : Machine) (bytes : List ℕ) (replies now : List (List ℕ)) (session last : Machine) (stream rest : Stream)
    → Going moment first bytes replies session stream.kept now → HasExceeded stream rest → GaveUp moment session [] last
    → GaveUpOver moment first (reading_of bytes).frames last
stopped_at_limit moment first bytes replies now session last stream rest g exceeded gave =
    let u = g.underway in
    let reads : reading_of bytes ≡ with_frames u.frames only_too_long
    = ap reading_of (sym (append-nil bytes)) ∙ u.reads [] ∙ ap (with_frames u.frames) (reading-exceeded stream rest [] exceeded) in record {
      worked = u.frames;
      left = [];
      frames_are = ap (λ (r : Reading). r.frames) reads;
      gave_up = subst (λ (m : Machine). GaveUp moment m [] last) (session_so_far moment first bytes replies now session stream.kept g) gave;
    }
