-- Each frame goes on; the work ends where there is no further frame, or where the next one is too long.
use Rattle.std.proofs.Common.{◌≡◌, ◌++◌, ℤ, subst, w64, to_z, of_z, rules}
use Rattle.std.proofs.lemmas.Result.{err_from_is_err_and}
use Rattle.fix_frames.specs.declared.framer.Next.{Next}
use Rattle.fix_frames.specs.Reading.{reading_of}
use Rattle.fix_frames.specs.Streams.{IsNext}
use Rattle.fix_frames.specs.ReadingLaws.{given_shorter}
use Rattle.session_stream.specs.Work.{work_of_reading}
use Rattle.session_core.specs.Machine.{given_up}
use Rattle.drop_copy.specs.Answering.{refuses}
use Rattle.drop_copy.specs.Desks.{GaveUpOver}
use Rattle.drop_copy.proofs.Frames.{going_none, going_frame, gone_waited, gone_exceeded, stopped_at_frame, stopped_at_limit}
use Rattle.drop_copy.proofs.answering.work_frames.Goals as goal

pub frames-init : goal.frames-init
frames-init c = going_none _ c.args.session.now c.args.framer.now.kept c.args.replies.now.items

pub frames-smaller : goal.frames-smaller
frames-smaller c =
    let old = c.frames.framer in
    let new = c.next.follows.lender-at-none in
    given_shorter old new c.in-Frame.frame.bytes.now (subst (λ (r : Next). IsNext old r new) c.in-Frame.is c.next.follows.holds-at-none)

pub frames-preserved : goal.frames-preserved
frames-preserved c =
    let m = to_z w64 (of_z w64 c.args.moment) in
    let old = c.frames.framer in
    let new = c.next.follows.lender-at-none in
    let done = c.in_ok-work_frame-in-Frame.ensures in
    going_frame m c.args.session.now c.args.framer.now.kept c.args.replies.now.items c.frames.replies.items c.work_frame.new.replies.items
    c.frames.session c.work_frame.new.session old new c.in-Frame.frame.bytes.now c.frames.invariant
    (subst (λ (r : Next). IsNext old r new) c.in-Frame.is c.next.follows.holds-at-none) done.session done.replies

pub returns-in-Wait-clause-session : goal.returns-in-Wait-clause-session
returns-in-Wait-clause-session c =
    let m = to_z w64 (of_z w64 c.args.moment) in
    let e : m ≡ c.args.moment = search rules in
    let old = c.frames.framer in
    let new = c.next.follows.lender-at-none in
    let gone =
    gone_waited m c.args.session.now c.args.framer.now.kept c.args.replies.now.items c.frames.replies.items c.frames.session old new c.frames.invariant
    (subst (λ (r : Next). IsNext old r new) c.in-Wait.is c.next.follows.holds-at-none) in
    subst (λ (k : ℤ). c.frames.session ≡ (work_of_reading (refuses k) k c.args.session.now (reading_of c.args.framer.now.kept)).session) e gone.session_is

pub returns-in-Wait-clause-replies : goal.returns-in-Wait-clause-replies
returns-in-Wait-clause-replies c =
    let m = to_z w64 (of_z w64 c.args.moment) in
    let e : m ≡ c.args.moment = search rules in
    let old = c.frames.framer in
    let new = c.next.follows.lender-at-none in
    let gone =
    gone_waited m c.args.session.now c.args.framer.now.kept c.args.replies.now.items c.frames.replies.items c.frames.session old new c.frames.invariant
    (subst (λ (r : Next). IsNext old r new) c.in-Wait.is c.next.follows.holds-at-none) in
    subst (λ (k : ℤ). c.frames.replies.items ≡ c.args.replies.now.items ++ (work_of_reading (refuses k) k c.args.session.now (reading_of c.args.framer.now.kept)).replies) e gone.replies_are

pub returns-in-Wait-clause-unread : goal.returns-in-Wait-clause-unread
returns-in-Wait-clause-unread c =
    let m = to_z w64 (of_z w64 c.args.moment) in
    let old = c.frames.framer in
    let new = c.next.follows.lender-at-none in
    let gone =
    gone_waited m c.args.session.now c.args.framer.now.kept c.args.replies.now.items c.frames.replies.items c.frames.session old new c.frames.invariant
    (subst (λ (r : Next). IsNext old r new) c.in-Wait.is c.next.follows.holds-at-none) in
    gone.unread_is

pub returns-in-TooLong-clause-session : goal.returns-in-TooLong-clause-session
returns-in-TooLong-clause-session c =
    let m = to_z w64 (of_z w64 c.args.moment) in
    let e : m ≡ c.args.moment = search rules in
    let old = c.frames.framer in
    let new = c.next.follows.lender-at-none in
    let done = c.in_ok-end_too_long-in-TooLong.ensures in
    let gone =
    gone_exceeded m c.args.session.now c.args.framer.now.kept c.args.replies.now.items c.frames.replies.items c.end_too_long.new.replies.items
    c.frames.session c.end_too_long.new.session old new c.frames.invariant
    (subst (λ (r : Next). IsNext old r new) c.in-TooLong.is c.next.follows.holds-at-none) done.session done.replies in
    subst (λ (k : ℤ). c.end_too_long.new.session ≡ (work_of_reading (refuses k) k c.args.session.now (reading_of c.args.framer.now.kept)).session) e gone.session_is

pub returns-in-TooLong-clause-replies : goal.returns-in-TooLong-clause-replies
returns-in-TooLong-clause-replies c =
    let m = to_z w64 (of_z w64 c.args.moment) in
    let e : m ≡ c.args.moment = search rules in
    let old = c.frames.framer in
    let new = c.next.follows.lender-at-none in
    let done = c.in_ok-end_too_long-in-TooLong.ensures in
    let gone =
    gone_exceeded m c.args.session.now c.args.framer.now.kept c.args.replies.now.items c.frames.replies.items c.end_too_long.new.replies.items
    c.frames.session c.end_too_long.new.session old new c.frames.invariant
    (subst (λ (r : Next). IsNext old r new) c.in-TooLong.is c.next.follows.holds-at-none) done.session done.replies in
    subst (λ (k : ℤ). c.end_too_long.new.replies.items ≡ c.args.replies.now.items ++ (work_of_reading (refuses k) k c.args.session.now (reading_of c.args.framer.now.kept)).replies) e gone.replies_are

pub returns-in-TooLong-clause-unread : goal.returns-in-TooLong-clause-unread
returns-in-TooLong-clause-unread c =
    let m = to_z w64 (of_z w64 c.args.moment) in
    let old = c.frames.framer in
    let new = c.next.follows.lender-at-none in
    let done = c.in_ok-end_too_long-in-TooLong.ensures in
    let gone =
    gone_exceeded m c.args.session.now c.args.framer.now.kept c.args.replies.now.items c.frames.replies.items c.end_too_long.new.replies.items
    c.frames.session c.end_too_long.new.session old new c.frames.invariant
    (subst (λ (r : Next). IsNext old r new) c.in-TooLong.is c.next.follows.holds-at-none) done.session done.replies in
    gone.unread_is

pub returns-in-Wait-clause-few : goal.returns-in-Wait-clause-few
returns-in-Wait-clause-few c =
    let m = to_z w64 (of_z w64 c.args.moment) in
    let old = c.frames.framer in
    let new = c.next.follows.lender-at-none in
    let gone =
    gone_waited m c.args.session.now c.args.framer.now.kept c.args.replies.now.items c.frames.replies.items c.frames.session old new c.frames.invariant
    (subst (λ (r : Next). IsNext old r new) c.in-Wait.is c.next.follows.holds-at-none) in
    gone.few

pub returns-in-TooLong-clause-few : goal.returns-in-TooLong-clause-few
returns-in-TooLong-clause-few c =
    let m = to_z w64 (of_z w64 c.args.moment) in
    let old = c.frames.framer in
    let new = c.next.follows.lender-at-none in
    let done = c.in_ok-end_too_long-in-TooLong.ensures in
    let gone =
    gone_exceeded m c.args.session.now c.args.framer.now.kept c.args.replies.now.items c.frames.replies.items c.end_too_long.new.replies.items
    c.frames.session c.end_too_long.new.session old new c.frames.invariant
    (subst (λ (r : Next). IsNext old r new) c.in-TooLong.is c.next.follows.holds-at-none) done.session done.replies in
    gone.few

pub returns-in_err-work_frame-in-Frame-clause-gave_up : goal.returns-in_err-work_frame-in-Frame-clause-gave_up
returns-in_err-work_frame-in-Frame-clause-gave_up c =
    let m = to_z w64 (of_z w64 c.args.moment) in
    let e : m ≡ c.args.moment = search rules in
    let old = c.frames.framer in
    let new = c.next.follows.lender-at-none in
    let stopped =
    stopped_at_frame m c.args.session.now c.args.framer.now.kept c.args.replies.now.items c.frames.replies.items c.frames.session _ old new
    c.in-Frame.frame.bytes.now c.frames.invariant
    (subst (λ (r : Next). IsNext old r new) c.in-Frame.is c.next.follows.holds-at-none) c.in_err-work_frame-in-Frame.ensures.gave_up in
    let p = err_from_is_err_and c.from_residual.result c.from_residual.ensures.1 in
    rw p.1 (subst (λ (k : ℤ). GaveUpOver k c.args.session.now (reading_of c.args.framer.now.kept).frames (given_up c.work_frame.new.session)) e stopped)

pub returns-in_err-end_too_long-in-TooLong-clause-gave_up : goal.returns-in_err-end_too_long-in-TooLong-clause-gave_up
returns-in_err-end_too_long-in-TooLong-clause-gave_up c =
    let m = to_z w64 (of_z w64 c.args.moment) in
    let e : m ≡ c.args.moment = search rules in
    let old = c.frames.framer in
    let new = c.next.follows.lender-at-none in
    let stopped =
    stopped_at_limit m c.args.session.now c.args.framer.now.kept c.args.replies.now.items c.frames.replies.items c.frames.session _ old new
    c.frames.invariant (subst (λ (r : Next). IsNext old r new) c.in-TooLong.is c.next.follows.holds-at-none)
    c.in_err-end_too_long-in-TooLong.ensures.gave_up in
    let p = err_from_is_err_and c.from_residual-in_err-end_too_long-in-TooLong.result c.from_residual-in_err-end_too_long-in-TooLong.ensures.1 in
    rw p.1 (subst (λ (k : ℤ). GaveUpOver k c.args.session.now (reading_of c.args.framer.now.kept).frames (given_up c.end_too_long.new.session)) e stopped)
