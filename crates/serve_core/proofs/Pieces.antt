-- A piece that was refused.
use Rattle.std.proofs.Common.{◌≡◌, ℕ, ℤ, Bool, true, false, cond, List, [], ◌∷◌, ◌++◌, Option, refl, sym, ◌∙◌, ap, subst, append-nil, append_assoc, inl, inr}
use Rattle.std.proofs.Math.Seq.{drop-append_seam}
use Rattle.fix_frames.specs.declared.reading.Reading.{Reading}
use Rattle.fix_frames.specs.Reading.{reading_of}
use Rattle.venue_words.specs.declared.command.Command.{Command}
use Rattle.venue_words.specs.declared.command.Event.{Event}
use Rattle.venue_words.specs.declared.config.Config.{Config}
use Rattle.venue_words.specs.Floors.{FloorMark, SymbolView}
use Rattle.session_core.specs.Machine.{Machine, IsOver}
use Rattle.member_gate.specs.Answering.{Submission, Work}
use Rattle.member_gate.specs.Desks.{DeskView}
use Rattle.member_gate.specs.Submitting.{Stopped}
use Rattle.member_gate.specs.Working.{AreUnread, then_work, work_at_limit, work_of_frame, work_of_frames, work_of_reading}
use Rattle.member_gate.specs.declared.refusal.DeskRefusal.{DeskRefusal}
use Rattle.line_work.specs.Commands.{at_moment, commands_for}
use Rattle.line_work.specs.FeedState.{Connection}
use Rattle.line_work.specs.LineWork.{reading_behind}
use Rattle.line_work.specs.Standing.{IsDeskOf}
use Rattle.serve_core.specs.Growing.{Grew}
use Rattle.serve_core.specs.Turning.{RefusedPiece}
use Rattle.serve_core.proofs.Grows.{grew_all, grew_left, grew_then}

-- a piece completes the same frames behind what is unread and behind the stream
same_frames : (stream unread bytes : List ℕ) → AreUnread stream unread
    → (reading_of (unread ++ bytes)).frames ≡ (reading_behind stream bytes).frames
unfolding reading_behind
same_frames stream unread bytes h =
    rw (h bytes, drop-append_seam (reading_of stream).frames (reading_of (unread ++ bytes)).frames) refl

-- the commands of some frames, and then those of the others
commands_then : (config : Config) (member : ℕ) (moment : ℤ) (session : Machine) (worked left : List (List ℕ))
    → (work_of_frames config member moment session (worked ++ left)).submissions
    ≡ (work_of_frames config member moment session worked).submissions
    ++ (work_of_frames config member moment (work_of_frames config member moment session worked).session left).submissions
commands_then config member moment session [] left = refl
commands_then config member moment session (frame ∷ worked) left =
    let first = work_of_frame config member moment session frame in
    let more = work_of_frames config member moment first.session worked in
    ap (λ (s : List Submission). first.submissions ++ s) (commands_then config member moment first.session worked left)
    ∙ sym (append_assoc first.submissions more.submissions (work_of_frames config member moment more.session left).submissions)

limit_adds_none : (frames : Work) (moment : ℤ) (b : Bool)
    → (cond b (then_work frames (work_at_limit moment frames.session)) frames).submissions ≡ frames.submissions
limit_adds_none frames moment true = append-nil frames.submissions
limit_adds_none frames moment false = refl

-- a frame that is too long makes no command
commands_of : (config : Config) (member : ℕ) (moment : ℤ) (session : Machine) (reading : Reading)
    → (work_of_reading config member moment session reading).submissions
    ≡ (work_of_frames config member moment session reading.frames).submissions
unfolding work_of_reading
commands_of config member moment session reading =
    limit_adds_none (work_of_frames config member moment session reading.frames) moment reading.too_long

module _ {F : Type 0} (at : F → ℕ → SymbolView) (limit : FloorMark → ℕ → List Event → Event → Option ℕ) (mark : FloorMark) (config : Config) (feed : ℕ) (moment : ℤ) (refusal : DeskRefusal) (last : Machine) (submitted : ℕ) (before after : F × ℕ) where
  frames_refused : (connection : Connection) (bytes : List ℕ)
      → Stopped at limit mark config connection.number feed moment connection.session (reading_behind connection.stream bytes).frames refusal last submitted before after
      → RefusedPiece at mark config feed moment connection bytes refusal last before.0 after.0
  frames_refused connection bytes stopped =
      let worked = work_of_frames config connection.number moment connection.session stopped.worked in
      let left = work_of_frames config connection.number moment worked.session stopped.left in record {
        taken = worked.submissions;
        left = left.submissions;
        parts = commands_of config connection.number moment connection.session (reading_behind connection.stream bytes)
            ∙ ap (λ (fs : List (List ℕ)). (work_of_frames config connection.number moment connection.session fs).submissions) stopped.frames_are
            ∙ commands_then config connection.number moment connection.session stopped.worked stopped.left;
        grew = λ symbol.
            let mine = commands_for symbol (at_moment moment worked.submissions) in
            subst (λ (cs : List (ℤ × Command)). Grew feed cs (at before.0 symbol) (at after.0 symbol)) (append-nil mine)
            (grew_then feed mine [] (at before.0 symbol) (at stopped.between.0 symbol) (at after.0 symbol)
            (grew_all at limit mark feed moment worked.submissions before stopped.between stopped.took symbol)
            (grew_left at limit mark feed moment refusal left.submissions stopped.between after stopped.rest symbol));
        full = stopped.rest.full;
        session = record {
          worked = stopped.worked;
          left = stopped.left;
          frames_are = stopped.frames_are;
          commands = refl;
          gave_up = stopped.gave_up;
        };
      }

  -- a desk stopped over a piece of its connection, which had not ended
  pub piece_refused : (desk : DeskView) (connection : Connection) (bytes : List ℕ) → IsDeskOf desk connection → (IsOver desk.session → ⊥)
      → Stopped at limit mark config desk.member feed moment desk.session (reading_of (desk.unread ++ bytes)).frames refusal last submitted before after
      → RefusedPiece at mark config feed moment connection bytes refusal last before.0 after.0
  piece_refused desk connection bytes x on stopped =
      let unread : AreUnread connection.stream desk.unread = elim x.stream [
        | inl over ↦ absurd (on (subst (λ (m : Machine). IsOver m) (sym x.session) over))
        | inr unread ↦ unread
      ] in
      frames_refused connection bytes
      (subst (λ (n : ℕ). Stopped at limit mark config n feed moment connection.session (reading_behind connection.stream bytes).frames refusal last submitted before after) x.number
      (subst (λ (m : Machine). Stopped at limit mark config desk.member feed moment m (reading_behind connection.stream bytes).frames refusal last submitted before after) x.session
      (subst (λ (fs : List (List ℕ)). Stopped at limit mark config desk.member feed moment desk.session fs refusal last submitted before after)
      (same_frames connection.stream desk.unread bytes unread) stopped)))
