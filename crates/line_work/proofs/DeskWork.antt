-- What each input makes of a desk and of its connection alike.
use Rattle.std.proofs.Common.{◌≡◌, ◌⊎◌, ℕ, ℤ, Bool, true, false, cond, List, [], ◌∷◌, ◌++◌, Result, Ok, Err, OnOk, refl, sym, ◌∙◌, ap, subst, append_assoc, append-nil, inl, inr, Option}
use Rattle.std.proofs.Math.Seq.{drop-append_seam}
use Rattle.fix_frames.specs.declared.reading.Reading.{Reading}
use Rattle.fix_frames.specs.Reading.{reading_of, with_frames}
use Rattle.venue_words.specs.declared.command.Event.{Event}
use Rattle.venue_words.specs.declared.config.Config.{Config}
use Rattle.venue_words.specs.Floors.{FloorMark, SymbolView}
use Rattle.session_core.specs.Machine.{Machine, IsOver, on_clock, connected}
use Rattle.member_gate.specs.declared.refusal.DeskRefusal.{DeskRefusal}
use Rattle.member_gate.specs.Answering.{Submission, Work}
use Rattle.member_gate.specs.Desks.{DeskView, connected_desk}
use Rattle.member_gate.specs.Desks as desks
use Rattle.member_gate.specs.Submitting.{Stopped, TookAll}
use Rattle.member_gate.specs.Working.{work_of_frame, work_of_frames, work_at_limit, work_of_reading, then_work, AreUnread}
use Rattle.line_work.specs.FeedState.{Connection}
use Rattle.line_work.specs.LineWork.{ticked, reading_behind, work_of_bytes, fed, reconnected}
use Rattle.line_work.specs.Refusing.{TookPart}
use Rattle.line_work.specs.Standing.{IsDeskOf}
use Rattle.line_work.specs.OverLaws.{clock_over, over_reading}

pub always : {T E : Type 0} (r : Result T E) (P : Type 0) → P → OnOk r P
always (Ok x) P p = p
always (Err e) P p = tt

-- ---- the clock

over_ticked : (session : Machine) (moment : ℤ) → IsOver session → IsOver (on_clock session moment).machine
over_ticked session moment over = rw (clock_over session moment over) over

pub desk_ticked : (desk : DeskView) (connection : Connection) (moment : ℤ) → IsDeskOf desk connection
    → IsDeskOf (record desk { session = (on_clock desk.session moment).machine }) (ticked moment connection)
desk_ticked desk connection moment x = record {
  number = x.number;
  session = ap (λ (s : Machine). (on_clock s moment).machine) x.session;
  stream = elim x.stream [ inl over ↦ inl (over_ticked connection.session moment over) | inr unread ↦ inr unread ];
}

-- ---- a new connection

pub nothing_read : AreUnread [] []
unfolding reading_of
nothing_read more = refl

pub desk_connected : (desk : DeskView) (connection : Connection) → IsDeskOf desk connection
    → IsDeskOf (connected_desk desk) (reconnected connection)
desk_connected desk connection x = record {
  number = x.number;
  session = ap connected x.session;
  stream = inr nothing_read;
}

-- ---- a piece of a stream

-- what is unread goes on from a stream, so a piece completes the same frames behind both
reads_same : (stream unread piece : List ℕ) → AreUnread stream unread → reading_behind stream piece ≡ reading_of (unread ++ piece)
unfolding reading_behind
reads_same stream unread piece h =
    rw (h piece, drop-append_seam (reading_of stream).frames (reading_of (unread ++ piece)).frames) refl

pub piece_same : (config : Config) (moment : ℤ) (desk : DeskView) (connection : Connection) (piece : List ℕ)
    → IsDeskOf desk connection → desks.work_of_piece config moment desk piece ≡ work_of_bytes config moment connection piece
piece_same config moment desk connection piece x = rw (x.number, x.session) (elim x.stream [
  | inl over ↦ over_reading config connection.number moment connection.session (reading_of (desk.unread ++ piece)) over
      ∙ sym (over_reading config connection.number moment connection.session (reading_behind connection.stream piece) over)
  | inr unread ↦ ap (work_of_reading config connection.number moment connection.session)
      (sym (reads_same connection.stream desk.unread piece unread))
])

with_frames_twice : (xs ys : List (List ℕ)) (r : Reading) → with_frames xs (with_frames ys r) ≡ with_frames (xs ++ ys) r
with_frames_twice xs ys r =
    ap (λ (fs : List (List ℕ)). record { frames = fs; too_long = r.too_long }) (sym (append_assoc xs ys r.frames))

unread_more : (stream unread piece rest : List ℕ) → AreUnread stream unread → AreUnread (unread ++ piece) rest
    → AreUnread (stream ++ piece) rest
unread_more stream unread piece rest h k more =
    let here : reading_of (stream ++ piece) ≡ with_frames (reading_of stream).frames (reading_of (unread ++ piece)) = h piece in
    let there : reading_of (stream ++ (piece ++ more))
    ≡ with_frames (reading_of stream).frames (reading_of (unread ++ (piece ++ more))) = h (piece ++ more) in
    let next : reading_of ((unread ++ piece) ++ more)
    ≡ with_frames (reading_of (unread ++ piece)).frames (reading_of (rest ++ more)) = k more in
    ap reading_of (append_assoc stream piece more) ∙ there
    ∙ ap (λ (bytes : List ℕ). with_frames (reading_of stream).frames (reading_of bytes)) (sym (append_assoc unread piece more))
    ∙ ap (with_frames (reading_of stream).frames) next
    ∙ with_frames_twice (reading_of stream).frames (reading_of (unread ++ piece)).frames (reading_of (rest ++ more))
    ∙ ap (λ (r : Reading). with_frames r.frames (reading_of (rest ++ more))) (sym here)

over_fed : (config : Config) (moment : ℤ) (connection : Connection) (piece : List ℕ) → IsOver connection.session
    → IsOver (work_of_bytes config moment connection piece).session
over_fed config moment connection piece over =
    let e : (work_of_bytes config moment connection piece).session ≡ connection.session = ap (λ (w : Work). w.session)
    (over_reading config connection.number moment connection.session (reading_behind connection.stream piece) over) in
    subst (λ (s : Machine). IsOver s) (sym e) over

stream_fed : (config : Config) (moment : ℤ) (connection : Connection) (unread piece rest : List ℕ)
    → IsOver connection.session ⊎ AreUnread connection.stream unread → IsOver connection.session ⊎ AreUnread (unread ++ piece) rest
    → IsOver (work_of_bytes config moment connection piece).session ⊎ AreUnread (connection.stream ++ piece) rest
stream_fed config moment connection unread piece rest (inl over) k = inl (over_fed config moment connection piece over)
stream_fed config moment connection unread piece rest (inr h) (inl over) = inl (over_fed config moment connection piece over)
stream_fed config moment connection unread piece rest (inr h) (inr k) = inr (unread_more connection.stream unread piece rest h k)

pub desk_fed : (config : Config) (moment : ℤ) (desk next : DeskView) (connection : Connection) (piece : List ℕ)
    → IsDeskOf desk connection → next.member ≡ desk.member
    → next.session ≡ (desks.work_of_piece config moment desk piece).session
    → IsOver desk.session ⊎ AreUnread (desk.unread ++ piece) next.unread
    → IsDeskOf next (fed config moment connection piece)
desk_fed config moment desk next connection piece x number session stream = record {
  number = number ∙ x.number;
  session = session ∙ ap (λ (w : Work). w.session) (piece_same config moment desk connection piece x);
  stream = stream_fed config moment connection desk.unread piece next.unread x.stream
      (subst (λ (s : Machine). IsOver s ⊎ AreUnread (desk.unread ++ piece) next.unread) x.session stream);
}

-- the floor took the commands of the piece; its moment may be read in another spelling
pub piece_took : {F : Type 0} (at : F → ℕ → SymbolView) (limit : FloorMark → ℕ → List Event → Event → Option ℕ) (mark : FloorMark) (config : Config) (feed : ℕ) (moment now : ℤ) (desk : DeskView) (connection : Connection) (piece : List ℕ) (before after : F × ℕ)
    → now ≡ moment → IsDeskOf desk connection
    → TookAll at limit mark feed now (desks.work_of_piece config now desk piece).submissions before after
    → TookAll at limit mark feed moment (work_of_bytes config moment connection piece).submissions before after
piece_took at limit mark config feed moment now desk connection piece before after e x took =
    subst (λ (w : Work). TookAll at limit mark feed moment w.submissions before after)
    (piece_same config moment desk connection piece x)
    (subst (λ (m : ℤ). TookAll at limit mark feed m (desks.work_of_piece config m desk piece).submissions before after) e took)

-- ---- a piece that was stopped

frames_append : (config : Config) (member : ℕ) (moment : ℤ) (session : Machine) (xs ys : List (List ℕ))
    → (work_of_frames config member moment session (xs ++ ys)).submissions
    ≡ (work_of_frames config member moment session xs).submissions
    ++ (work_of_frames config member moment (work_of_frames config member moment session xs).session ys).submissions
frames_append config member moment session [] ys = refl
frames_append config member moment session (x ∷ xs) ys =
    let first = work_of_frame config member moment session x in
    ap (λ (s : List Submission). first.submissions ++ s) (frames_append config member moment first.session xs ys)
    ∙ sym (append_assoc first.submissions (work_of_frames config member moment first.session xs).submissions
    (work_of_frames config member moment (work_of_frames config member moment first.session xs).session ys).submissions)

limit_adds_none : (frames : Work) (moment : ℤ) (b : Bool)
    → (cond b (then_work frames (work_at_limit moment frames.session)) frames).submissions ≡ frames.submissions
limit_adds_none frames moment true = append-nil frames.submissions
limit_adds_none frames moment false = refl

-- a frame that is too long makes no command
reading_commands : (config : Config) (member : ℕ) (moment : ℤ) (session : Machine) (reading : Reading)
    → (work_of_reading config member moment session reading).submissions
    ≡ (work_of_frames config member moment session reading.frames).submissions
unfolding work_of_reading
reading_commands config member moment session reading =
    limit_adds_none (work_of_frames config member moment session reading.frames) moment reading.too_long

-- the floor took the commands of some first frames of the piece, which are the first of all its commands
pub piece_stopped : {F : Type 0} (at : F → ℕ → SymbolView) (limit : FloorMark → ℕ → List Event → Event → Option ℕ) (mark : FloorMark) (config : Config) (feed : ℕ) (moment : ℤ) (desk : DeskView) (last : Machine) (connection : Connection) (piece : List ℕ) (refusal : DeskRefusal) (submitted : ℕ) (before after : F × ℕ)
    → IsDeskOf desk connection
    → Stopped at limit mark config desk.member feed moment desk.session (reading_of (desk.unread ++ piece)).frames refusal last submitted before after
    → TookPart at limit mark feed moment refusal (work_of_bytes config moment connection piece).submissions before after
piece_stopped at limit mark config feed moment desk last connection piece refusal submitted before after x stopped = record {
  taken = (work_of_frames config desk.member moment desk.session stopped.worked).submissions;
  left = (work_of_frames config desk.member moment (work_of_frames config desk.member moment desk.session stopped.worked).session stopped.left).submissions;
  parts = ap (λ (w : Work). w.submissions) (sym (piece_same config moment desk connection piece x))
      ∙ reading_commands config desk.member moment desk.session (reading_of (desk.unread ++ piece))
      ∙ ap (λ (fs : List (List ℕ)). (work_of_frames config desk.member moment desk.session fs).submissions) stopped.frames_are
      ∙ frames_append config desk.member moment desk.session stopped.worked stopped.left;
  between = stopped.between;
  took = stopped.took;
  rest = stopped.rest;
}
