-- How the work on a stream goes on, frame by frame, and how it ends.
use Rattle.std.proofs.Common.{◌≡◌, ◌⊎◌, inl, ℕ, ℤ, Bool, true, false, List, [], ◌∷◌, ◌++◌, ◌+◌, length, Option, refl, sym, ◌∙◌, ap, subst, append_assoc, length-append}
use Rattle.std.proofs.lemmas.List.{append-nil}
use Rattle.fix_frames.specs.declared.reading.Reading.{Reading}
use Rattle.fix_frames.specs.Reading.{with_frames, reading_of}
use Rattle.fix_frames.specs.ReadingLaws.{reading-given, reading-waited, reading-none, reading-exceeded, reading-exceeded_on}
use Rattle.fix_frames.specs.Streams.{Stream, HasGiven, HasWaited, HasExceeded}
use Rattle.venue_words.specs.declared.command.Event.{Event}
use Rattle.venue_words.specs.declared.config.Config.{Config}
use Rattle.venue_words.specs.Floors.{FloorMark, SymbolView}
use Rattle.session_core.specs.Machine.{Machine, given_up}
use Rattle.member_gate.specs.declared.refusal.DeskRefusal.{DeskRefusal}
use Rattle.member_gate.specs.declared.refusal.DeskRefusal.TheVariants.{NoMemory}
use Rattle.member_gate.specs.Answering.{Submission, Work}
use Rattle.member_gate.specs.Submitting.{TookAll, TookNone, Stopped}
use Rattle.member_gate.specs.Working.{then_work, work_of_frame, work_of_frames, work_at_limit, work_of_reading, AreUnread, GaveUp}
use Rattle.member_gate.proofs.Joining.{frames_snoc}
use Rattle.member_gate.proofs.Taking.{took_append, none_of_more, none_of_any}

pub gave_up_first : (moment : ℤ) (session : Machine) (frames : List (List ℕ)) → GaveUp moment session frames (given_up session)
gave_up_first moment session [] = inl refl
gave_up_first moment session (frame ∷ frames) = inl refl

-- ---- the frames of a reading

abbrev read_so : List (List ℕ) → Bool → Reading
read_so frames too_long = record { frames = frames; too_long = too_long }

whole : (config : Config) (member : ℕ) (moment : ℤ) (session : Machine) (frames : List (List ℕ)) → work_of_reading config member moment session (read_so frames false) ≡ work_of_frames config member moment session frames
unfolding work_of_reading
whole config member moment session frames = refl

cut_off : (config : Config) (member : ℕ) (moment : ℤ) (session : Machine) (frames : List (List ℕ)) → work_of_reading config member moment session (read_so frames true)
    ≡ then_work (work_of_frames config member moment session frames) (work_at_limit moment (work_of_frames config member moment session frames).session)
unfolding work_of_reading
cut_off config member moment session frames = refl

module _ {F : Type 0} (at : F → ℕ → SymbolView) (step_limit : FloorMark → ℕ → List Event → Event → Option ℕ) (mark : FloorMark) (config : Config) (member feed : ℕ) (moment : ℤ) where
  -- some frames of the stream were worked
  pub record Underway (first : Machine) (bytes : List ℕ) (sent : List (List ℕ)) (before : F × ℕ) (session : Machine) (kept : List ℕ) (replies : List (List ℕ)) (count : ℕ) (now : F × ℕ) : Type 0 where
    pub worked : List (List ℕ)
    pub reads : (more : List ℕ) → reading_of (bytes ++ more) ≡ with_frames worked (reading_of (kept ++ more))
    pub session_is : session ≡ (work_of_frames config member moment first worked).session
    pub replies_are : replies ≡ sent ++ (work_of_frames config member moment first worked).replies
    pub count_is : count ≡ length (work_of_frames config member moment first worked).submissions
    pub took : TookAll at step_limit mark feed moment (work_of_frames config member moment first worked).submissions before now

  pub underway_none : (first : Machine) (bytes : List ℕ) (sent : List (List ℕ)) (before : F × ℕ) → Underway first bytes sent before first bytes sent 0 before
  underway_none first bytes sent before = record { worked = []; reads = λ more. refl; session_is = refl; replies_are = sym (append-nil sent); count_is = refl; took = refl }

  -- one more frame
  pub underway_more : (first : Machine) (bytes : List ℕ) (sent : List (List ℕ)) (before : F × ℕ) (session next : Machine) (old new : Stream) (frame : List ℕ) (replies more : List (List ℕ)) (count further : ℕ) (now then : F × ℕ)
      → Underway first bytes sent before session old.kept replies count now → HasGiven old new frame
      → next ≡ (work_of_frame config member moment session frame).session → more ≡ replies ++ (work_of_frame config member moment session frame).replies
      → further ≡ count + length (work_of_frame config member moment session frame).submissions
      → TookAll at step_limit mark feed moment (work_of_frame config member moment session frame).submissions now then
      → Underway first bytes sent before next new.kept more further then
  underway_more first bytes sent before session next old new frame replies more count further now then u given s r n t =
      let done = work_of_frames config member moment first u.worked in
      let one = work_of_frame config member moment done.session frame in
      let all = frames_snoc config member moment first u.worked frame in
      let here : work_of_frame config member moment session frame ≡ one = ap (λ (m : Machine). work_of_frame config member moment m frame) u.session_is in record {
        worked = u.worked ++ frame ∷ [];
        reads = λ rest. u.reads rest ∙ ap (with_frames u.worked) (reading-given old new frame rest given) ∙ ap (λ (fs : List (List ℕ)). read_so fs (reading_of (new.kept ++ rest)).too_long) (sym (append_assoc u.worked (frame ∷ []) (reading_of (new.kept ++ rest)).frames));
        session_is = s ∙ ap (λ (w : Work). w.session) here ∙ sym (ap (λ (w : Work). w.session) all);
        replies_are = r ∙ ap (λ (x : List (List ℕ)). x ++ (work_of_frame config member moment session frame).replies) u.replies_are ∙ append_assoc sent done.replies _ ∙ ap (λ (w : Work). sent ++ (done.replies ++ w.replies)) here ∙ sym (ap (λ (w : Work). sent ++ w.replies) all);
        count_is =
            n ∙ ap (λ (k : ℕ). k + length (work_of_frame config member moment session frame).submissions) u.count_is
            ∙ ap (λ (w : Work). length done.submissions + length w.submissions) here
            ∙ sym (length-append done.submissions one.submissions) ∙ sym (ap (λ (w : Work). length w.submissions) all);
        took =
            subst (λ (w : Work). TookAll at step_limit mark feed moment w.submissions before then) (sym all)
            (took_append at step_limit mark feed moment done.submissions one.submissions before now then u.took
            (subst (λ (w : Work). TookAll at step_limit mark feed moment w.submissions now then) here t));
      }

  -- what is promised of a stream that was worked as far as it goes
  pub record Worked (first : Machine) (bytes : List ℕ) (sent : List (List ℕ)) (before : F × ℕ) (session : Machine) (kept : List ℕ) (replies : List (List ℕ)) (count : ℕ) (now : F × ℕ) : Type 0 where
    pub session_is : session ≡ (work_of_reading config member moment first (reading_of bytes)).session
    pub replies_are : replies ≡ sent ++ (work_of_reading config member moment first (reading_of bytes)).replies
    pub unread : AreUnread bytes kept
    pub count_is : count ≡ length (work_of_reading config member moment first (reading_of bytes)).submissions
    pub took : TookAll at step_limit mark feed moment (work_of_reading config member moment first (reading_of bytes)).submissions before now

  read_to : (bytes kept : List ℕ) (worked : List (List ℕ)) (too_long : Bool) → ((more : List ℕ) → reading_of (bytes ++ more) ≡ with_frames worked (reading_of (kept ++ more))) → reading_of kept ≡ read_so [] too_long → reading_of bytes ≡ read_so worked too_long
  read_to bytes kept worked too_long reads e =
      ap reading_of (sym (append-nil bytes)) ∙ reads [] ∙ ap (λ (k : List ℕ). with_frames worked (reading_of k)) (append-nil kept) ∙ ap (with_frames worked) e
      ∙ ap (λ (fs : List (List ℕ)). read_so fs too_long) (append-nil worked)

  unread_from : (bytes kept next : List ℕ) (worked : List (List ℕ)) (too_long : Bool) → ((more : List ℕ) → reading_of (bytes ++ more) ≡ with_frames worked (reading_of (kept ++ more))) → reading_of bytes ≡ read_so worked too_long
      → ((more : List ℕ) → reading_of (kept ++ more) ≡ reading_of (next ++ more)) → AreUnread bytes next
  unread_from bytes kept next worked too_long reads e same more =
      reads more ∙ ap (with_frames worked) (same more) ∙ ap (λ (r : Reading). with_frames r.frames (reading_of (next ++ more))) (sym e)

  -- the stream has no further frame yet
  pub worked_whole : (first : Machine) (bytes : List ℕ) (sent : List (List ℕ)) (before : F × ℕ) (session : Machine) (old new : Stream) (replies : List (List ℕ)) (count : ℕ) (now : F × ℕ)
      → Underway first bytes sent before session old.kept replies count now → HasWaited old new → Worked first bytes sent before session new.kept replies count now
  worked_whole first bytes sent before session old new replies count now u waited =
      let none : reading_of old.kept ≡ read_so [] false = reading-none old new waited in
      let e = read_to bytes old.kept u.worked false u.reads none in
      let all : work_of_frames config member moment first u.worked ≡ work_of_reading config member moment first (reading_of bytes) =
      sym (ap (work_of_reading config member moment first) e ∙ whole config member moment first u.worked) in record {
        session_is = u.session_is ∙ ap (λ (w : Work). w.session) all;
        replies_are = u.replies_are ∙ ap (λ (w : Work). sent ++ w.replies) all;
        unread = unread_from bytes old.kept new.kept u.worked false u.reads e (λ more. reading-waited old new more waited);
        count_is = u.count_is ∙ ap (λ (w : Work). length w.submissions) all;
        took = subst (λ (w : Work). TookAll at step_limit mark feed moment w.submissions before now) all u.took;
      }

  -- the next frame is too long
  pub worked_to_limit : (first : Machine) (bytes : List ℕ) (sent : List (List ℕ)) (before : F × ℕ) (session next : Machine) (old new : Stream) (replies more : List (List ℕ)) (count : ℕ) (now : F × ℕ)
      → Underway first bytes sent before session old.kept replies count now → HasExceeded old new → next ≡ (work_at_limit moment session).session → more ≡ replies ++ (work_at_limit moment session).replies
      → Worked first bytes sent before next new.kept more count now
  worked_to_limit first bytes sent before session next old new replies more count now u exceeded s r =
      let over : reading_of old.kept ≡ read_so [] true = ap reading_of (sym (append-nil old.kept)) ∙ reading-exceeded old new [] exceeded in
      let e = read_to bytes old.kept u.worked true u.reads over in
      let done = work_of_frames config member moment first u.worked in
      let limit = work_at_limit moment done.session in
      let here : work_at_limit moment session ≡ limit = ap (work_at_limit moment) u.session_is in
      let all : then_work done limit ≡ work_of_reading config member moment first (reading_of bytes) =
      sym (ap (work_of_reading config member moment first) e ∙ cut_off config member moment first u.worked) in record {
        session_is = s ∙ ap (λ (w : Work). w.session) here ∙ ap (λ (w : Work). w.session) all;
        replies_are = r ∙ ap (λ (x : List (List ℕ)). x ++ (work_at_limit moment session).replies) u.replies_are ∙ append_assoc sent done.replies _ ∙ ap (λ (w : Work). sent ++ (done.replies ++ w.replies)) here ∙ ap (λ (w : Work). sent ++ w.replies) all;
        unread = unread_from bytes old.kept new.kept u.worked true u.reads e (λ rest. reading-exceeded old new rest exceeded ∙ sym (reading-exceeded_on old new rest exceeded));
        count_is = u.count_is ∙ ap length (sym (append-nil done.submissions)) ∙ ap (λ (w : Work). length w.submissions) all;
        took =
            subst (λ (w : Work). TookAll at step_limit mark feed moment w.submissions before now) all
            (subst (λ (x : List Submission). TookAll at step_limit mark feed moment x before now) (sym (append-nil done.submissions)) u.took);
      }

  -- the work stops over a frame
  pub stopped_at_frame : (first : Machine) (bytes : List ℕ) (sent : List (List ℕ)) (before : F × ℕ) (session last : Machine) (old new : Stream) (frame : List ℕ) (replies : List (List ℕ)) (count : ℕ) (refusal : DeskRefusal) (now then : F × ℕ)
      → Underway first bytes sent before session old.kept replies count now → HasGiven old new frame → GaveUp moment session (frame ∷ []) last
      → TookNone at step_limit mark feed moment refusal (work_of_frame config member moment session frame).submissions now then
      → Stopped at step_limit mark config member feed moment first (reading_of bytes).frames refusal last count before then
  stopped_at_frame first bytes sent before session last old new frame replies count refusal now then u given g n =
      let done = work_of_frames config member moment first u.worked in
      let left = frame ∷ (reading_of (new.kept ++ [])).frames in
      let one = work_of_frame config member moment done.session frame in
      let rest = work_of_frames config member moment one.session (reading_of (new.kept ++ [])).frames in
      let reads : reading_of bytes ≡ with_frames u.worked (with_frames (frame ∷ []) (reading_of (new.kept ++ []))) =
      ap reading_of (sym (append-nil bytes)) ∙ u.reads [] ∙ ap (with_frames u.worked) (reading-given old new frame [] given) in record {
        worked = u.worked;
        left = left;
        frames_are = ap (λ (r : Reading). r.frames) reads;
        between = now;
        took = u.took;
        count = u.count_is;
        gave_up = subst (λ (m : Machine). GaveUp moment m left last) u.session_is g;
        rest =
            none_of_more at step_limit mark feed moment refusal one.submissions rest.submissions now then
            (subst (λ (m : Machine). TookNone at step_limit mark feed moment refusal (work_of_frame config member moment m frame).submissions now then) u.session_is n);
      }

  -- the work stops behind all frames
  pub stopped_at_limit : (first : Machine) (bytes : List ℕ) (sent : List (List ℕ)) (before : F × ℕ) (session last : Machine) (old new : Stream) (replies : List (List ℕ)) (count : ℕ) (refusal : DeskRefusal) (now : F × ℕ)
      → Underway first bytes sent before session old.kept replies count now → HasExceeded old new → refusal ≡ NoMemory
      → (last ≡ given_up session) ⊎ (last ≡ given_up (work_at_limit moment session).session)
      → Stopped at step_limit mark config member feed moment first (reading_of bytes).frames refusal last count before now
  stopped_at_limit first bytes sent before session last old new replies count refusal now u exceeded none g =
      let over : reading_of old.kept ≡ read_so [] true = ap reading_of (sym (append-nil old.kept)) ∙ reading-exceeded old new [] exceeded in
      let e = read_to bytes old.kept u.worked true u.reads over in record {
        worked = u.worked;
        left = [];
        frames_are = ap (λ (r : Reading). r.frames) e ∙ sym (append-nil u.worked);
        between = now;
        took = u.took;
        count = u.count_is;
        gave_up = subst (λ (m : Machine). GaveUp moment m [] last) u.session_is g;
        rest = subst (λ (r : DeskRefusal). TookNone at step_limit mark feed moment r [] now now) (sym none) (none_of_any at step_limit mark feed moment [] now);
      }

  -- the work stops before the first frame
  pub stopped_at_once : (first : Machine) (frames : List (List ℕ)) (now : F × ℕ) → Stopped at step_limit mark config member feed moment first frames NoMemory (given_up first) 0 now now
  stopped_at_once first frames now = record {
    worked = [];
    left = frames;
    frames_are = refl;
    between = now;
    took = refl;
    count = refl;
    gave_up = gave_up_first moment first frames;
    rest = none_of_any at step_limit mark feed moment (work_of_frames config member moment first frames).submissions now;
  }
