-- Frame by frame the work goes on; it ends where the framer has no further frame, at one that is too long, or at a refusal.
use Rattle.std.proofs.Common.{◌∙◌, inl, inr, subst, sym}
use Rattle.std.proofs.lemmas.Result.{err_from_is_err_and}
use Rattle.fix_frames.specs.declared.framer.Next.{Next}
use Rattle.fix_frames.specs.Streams.{IsNext}
use Rattle.venue_words.specs.Floors.{FloorMark}
use Rattle.member_gate.specs.Submitting.{TookAll, TookNone}
use Rattle.member_gate.specs.Working.{work_of_frame}
use Rattle.session_core.specs.Machine.{IsOver, Machine}
use Rattle.fix_frames.specs.ReadingLaws.{given_shorter}
use Rattle.member_gate.proofs.Over.{over_at_limit}
use Rattle.member_gate.proofs.Underway.{underway_more, worked_whole, worked_to_limit, stopped_at_frame, stopped_at_limit}
use Rattle.member_gate.proofs.working.work_frames.Goals as goal

pub frames-smaller : goal.frames-smaller
frames-smaller g c =
    let old = c.frames.framer in
    let new = c.next.follows.lender-at-none in
    given_shorter old new c.in-Frame.frame.bytes.now (subst (λ (r : Next). IsNext old r new) c.in-Frame.is c.next.follows.holds-at-none)

pub frames-preserved : goal.frames-preserved
frames-preserved g c =
    let at = g.F.Floor.at in
    let limit = g.F.Floor.step_limit in
    let origin = c.args.origin in
    let old = c.frames.framer in
    let new = c.next.follows.lender-at-none in
    let frame = c.in-Frame.frame.bytes.now in
    let inv = c.frames.invariant in
    let done = c.in_ok-work_frame-in-Frame.ensures in
    let given = subst (λ (r : Next). IsNext old r new) c.in-Frame.is c.next.follows.holds-at-none in
    let one = work_of_frame origin.config.now origin.member origin.moment c.frames.session frame in
    let took = subst (λ (m : FloorMark). TookAll at limit m origin.feed origin.moment one.submissions (c.frames.floor, c.frames.steps) (c.work_frame.new.floor, c.work_frame.new.steps)) inv.mark done.took in record {
      mark = c.work_frame.ensures.mark ∙ inv.mark;
      underway =
          underway_more at limit (g.F.Floor.mark c.args.floor.now) origin.config.now origin.member origin.feed origin.moment
          c.args.session.now c.args.framer.now.kept c.args.worked.now.replies.items (c.args.floor.now, c.args.steps.now)
          c.frames.session c.work_frame.new.session old new frame c.frames.worked.replies.items c.work_frame.new.worked.replies.items c.frames.worked.submitted c.work_frame.new.worked.submitted (c.frames.floor, c.frames.steps) (c.work_frame.new.floor, c.work_frame.new.steps)
          inv.underway given done.session done.replies done.count took;
    }

pub returns-in_err-work_frame-in-Frame-clause-stopped : goal.returns-in_err-work_frame-in-Frame-clause-stopped
returns-in_err-work_frame-in-Frame-clause-stopped g c =
    let at = g.F.Floor.at in
    let limit = g.F.Floor.step_limit in
    let origin = c.args.origin in
    let old = c.frames.framer in
    let new = c.next.follows.lender-at-none in
    let frame = c.in-Frame.frame.bytes.now in
    let inv = c.frames.invariant in
    let refusal = c.in_err-work_frame-in-Frame.field-0.0 in
    let left = c.in_err-work_frame-in-Frame.ensures in
    let given = subst (λ (r : Next). IsNext old r new) c.in-Frame.is c.next.follows.holds-at-none in
    let one = work_of_frame origin.config.now origin.member origin.moment c.frames.session frame in
    let none = subst (λ (m : FloorMark). TookNone at limit m origin.feed origin.moment refusal one.submissions (c.frames.floor, c.frames.steps) (c.work_frame.new.floor, c.work_frame.new.steps)) inv.mark left.none in
    let p = err_from_is_err_and c.from_residual.result c.from_residual.ensures.1 in
    rw (p.1, p.2, left.uncounted)
    (stopped_at_frame at limit (g.F.Floor.mark c.args.floor.now) origin.config.now origin.member origin.feed origin.moment
    c.args.session.now c.args.framer.now.kept c.args.worked.now.replies.items (c.args.floor.now, c.args.steps.now)
    c.frames.session _ old new frame c.frames.worked.replies.items c.frames.worked.submitted refusal (c.frames.floor, c.frames.steps) (c.work_frame.new.floor, c.work_frame.new.steps) inv.underway given left.gave_up none)

pub returns-in-Wait-clause-session : goal.returns-in-Wait-clause-session
returns-in-Wait-clause-session g c =
    let origin = c.args.origin in
    let old = c.frames.framer in
    let new = c.next.follows.lender-at-none in
    (worked_whole g.F.Floor.at g.F.Floor.step_limit (g.F.Floor.mark c.args.floor.now) origin.config.now origin.member origin.feed origin.moment
    c.args.session.now c.args.framer.now.kept c.args.worked.now.replies.items (c.args.floor.now, c.args.steps.now)
    c.frames.session old new c.frames.worked.replies.items c.frames.worked.submitted (c.frames.floor, c.frames.steps) c.frames.invariant.underway
    (subst (λ (r : Next). IsNext old r new) c.in-Wait.is c.next.follows.holds-at-none)).session_is

pub returns-in-Wait-clause-replies : goal.returns-in-Wait-clause-replies
returns-in-Wait-clause-replies g c =
    let origin = c.args.origin in
    let old = c.frames.framer in
    let new = c.next.follows.lender-at-none in
    (worked_whole g.F.Floor.at g.F.Floor.step_limit (g.F.Floor.mark c.args.floor.now) origin.config.now origin.member origin.feed origin.moment
    c.args.session.now c.args.framer.now.kept c.args.worked.now.replies.items (c.args.floor.now, c.args.steps.now)
    c.frames.session old new c.frames.worked.replies.items c.frames.worked.submitted (c.frames.floor, c.frames.steps) c.frames.invariant.underway
    (subst (λ (r : Next). IsNext old r new) c.in-Wait.is c.next.follows.holds-at-none)).replies_are

pub returns-in-Wait-clause-few : goal.returns-in-Wait-clause-few
returns-in-Wait-clause-few g c =
    let old = c.frames.framer in
    let new = c.next.follows.lender-at-none in
    let waited = subst (λ (r : Next). IsNext old r new) c.in-Wait.is c.next.follows.holds-at-none in
    inr waited.4

pub returns-in-TooLong-clause-few : goal.returns-in-TooLong-clause-few
returns-in-TooLong-clause-few g c =
    let done = c.in_ok-end_too_long-in-TooLong.ensures in
    inl (subst (λ (m : Machine). IsOver m) (sym done.session) (over_at_limit c.frames.session c.args.origin.moment))

pub returns-in-Wait-clause-unread : goal.returns-in-Wait-clause-unread
returns-in-Wait-clause-unread g c =
    let origin = c.args.origin in
    let old = c.frames.framer in
    let new = c.next.follows.lender-at-none in
    (worked_whole g.F.Floor.at g.F.Floor.step_limit (g.F.Floor.mark c.args.floor.now) origin.config.now origin.member origin.feed origin.moment
    c.args.session.now c.args.framer.now.kept c.args.worked.now.replies.items (c.args.floor.now, c.args.steps.now)
    c.frames.session old new c.frames.worked.replies.items c.frames.worked.submitted (c.frames.floor, c.frames.steps) c.frames.invariant.underway
    (subst (λ (r : Next). IsNext old r new) c.in-Wait.is c.next.follows.holds-at-none)).unread

pub returns-in-Wait-clause-count : goal.returns-in-Wait-clause-count
returns-in-Wait-clause-count g c =
    let origin = c.args.origin in
    let old = c.frames.framer in
    let new = c.next.follows.lender-at-none in
    (worked_whole g.F.Floor.at g.F.Floor.step_limit (g.F.Floor.mark c.args.floor.now) origin.config.now origin.member origin.feed origin.moment
    c.args.session.now c.args.framer.now.kept c.args.worked.now.replies.items (c.args.floor.now, c.args.steps.now)
    c.frames.session old new c.frames.worked.replies.items c.frames.worked.submitted (c.frames.floor, c.frames.steps) c.frames.invariant.underway
    (subst (λ (r : Next). IsNext old r new) c.in-Wait.is c.next.follows.holds-at-none)).count_is

pub returns-in-Wait-clause-took : goal.returns-in-Wait-clause-took
returns-in-Wait-clause-took g c =
    let origin = c.args.origin in
    let old = c.frames.framer in
    let new = c.next.follows.lender-at-none in
    (worked_whole g.F.Floor.at g.F.Floor.step_limit (g.F.Floor.mark c.args.floor.now) origin.config.now origin.member origin.feed origin.moment
    c.args.session.now c.args.framer.now.kept c.args.worked.now.replies.items (c.args.floor.now, c.args.steps.now)
    c.frames.session old new c.frames.worked.replies.items c.frames.worked.submitted (c.frames.floor, c.frames.steps) c.frames.invariant.underway
    (subst (λ (r : Next). IsNext old r new) c.in-Wait.is c.next.follows.holds-at-none)).took

pub returns-in-TooLong-clause-session : goal.returns-in-TooLong-clause-session
returns-in-TooLong-clause-session g c =
    let origin = c.args.origin in
    let old = c.frames.framer in
    let new = c.next.follows.lender-at-none in
    let done = c.in_ok-end_too_long-in-TooLong.ensures in
    (worked_to_limit g.F.Floor.at g.F.Floor.step_limit (g.F.Floor.mark c.args.floor.now) origin.config.now origin.member origin.feed origin.moment
    c.args.session.now c.args.framer.now.kept c.args.worked.now.replies.items (c.args.floor.now, c.args.steps.now)
    c.frames.session c.end_too_long.new.session old new c.frames.worked.replies.items c.end_too_long.new.replies.items c.frames.worked.submitted (c.frames.floor, c.frames.steps) c.frames.invariant.underway
    (subst (λ (r : Next). IsNext old r new) c.in-TooLong.is c.next.follows.holds-at-none) done.session done.replies).session_is

pub returns-in-TooLong-clause-replies : goal.returns-in-TooLong-clause-replies
returns-in-TooLong-clause-replies g c =
    let origin = c.args.origin in
    let old = c.frames.framer in
    let new = c.next.follows.lender-at-none in
    let done = c.in_ok-end_too_long-in-TooLong.ensures in
    (worked_to_limit g.F.Floor.at g.F.Floor.step_limit (g.F.Floor.mark c.args.floor.now) origin.config.now origin.member origin.feed origin.moment
    c.args.session.now c.args.framer.now.kept c.args.worked.now.replies.items (c.args.floor.now, c.args.steps.now)
    c.frames.session c.end_too_long.new.session old new c.frames.worked.replies.items c.end_too_long.new.replies.items c.frames.worked.submitted (c.frames.floor, c.frames.steps) c.frames.invariant.underway
    (subst (λ (r : Next). IsNext old r new) c.in-TooLong.is c.next.follows.holds-at-none) done.session done.replies).replies_are

pub returns-in-TooLong-clause-unread : goal.returns-in-TooLong-clause-unread
returns-in-TooLong-clause-unread g c =
    let origin = c.args.origin in
    let old = c.frames.framer in
    let new = c.next.follows.lender-at-none in
    let done = c.in_ok-end_too_long-in-TooLong.ensures in
    (worked_to_limit g.F.Floor.at g.F.Floor.step_limit (g.F.Floor.mark c.args.floor.now) origin.config.now origin.member origin.feed origin.moment
    c.args.session.now c.args.framer.now.kept c.args.worked.now.replies.items (c.args.floor.now, c.args.steps.now)
    c.frames.session c.end_too_long.new.session old new c.frames.worked.replies.items c.end_too_long.new.replies.items c.frames.worked.submitted (c.frames.floor, c.frames.steps) c.frames.invariant.underway
    (subst (λ (r : Next). IsNext old r new) c.in-TooLong.is c.next.follows.holds-at-none) done.session done.replies).unread

pub returns-in-TooLong-clause-count : goal.returns-in-TooLong-clause-count
returns-in-TooLong-clause-count g c =
    let origin = c.args.origin in
    let old = c.frames.framer in
    let new = c.next.follows.lender-at-none in
    let done = c.in_ok-end_too_long-in-TooLong.ensures in
    (worked_to_limit g.F.Floor.at g.F.Floor.step_limit (g.F.Floor.mark c.args.floor.now) origin.config.now origin.member origin.feed origin.moment
    c.args.session.now c.args.framer.now.kept c.args.worked.now.replies.items (c.args.floor.now, c.args.steps.now)
    c.frames.session c.end_too_long.new.session old new c.frames.worked.replies.items c.end_too_long.new.replies.items c.frames.worked.submitted (c.frames.floor, c.frames.steps) c.frames.invariant.underway
    (subst (λ (r : Next). IsNext old r new) c.in-TooLong.is c.next.follows.holds-at-none) done.session done.replies).count_is

pub returns-in-TooLong-clause-took : goal.returns-in-TooLong-clause-took
returns-in-TooLong-clause-took g c =
    let origin = c.args.origin in
    let old = c.frames.framer in
    let new = c.next.follows.lender-at-none in
    let done = c.in_ok-end_too_long-in-TooLong.ensures in
    (worked_to_limit g.F.Floor.at g.F.Floor.step_limit (g.F.Floor.mark c.args.floor.now) origin.config.now origin.member origin.feed origin.moment
    c.args.session.now c.args.framer.now.kept c.args.worked.now.replies.items (c.args.floor.now, c.args.steps.now)
    c.frames.session c.end_too_long.new.session old new c.frames.worked.replies.items c.end_too_long.new.replies.items c.frames.worked.submitted (c.frames.floor, c.frames.steps) c.frames.invariant.underway
    (subst (λ (r : Next). IsNext old r new) c.in-TooLong.is c.next.follows.holds-at-none) done.session done.replies).took

pub returns-in_err-end_too_long-in-TooLong-clause-stopped : goal.returns-in_err-end_too_long-in-TooLong-clause-stopped
returns-in_err-end_too_long-in-TooLong-clause-stopped g c =
    let origin = c.args.origin in
    let old = c.frames.framer in
    let new = c.next.follows.lender-at-none in
    let left = c.in_err-end_too_long-in-TooLong.ensures in
    let p = err_from_is_err_and c.from_residual-in_err-end_too_long-in-TooLong.result c.from_residual-in_err-end_too_long-in-TooLong.ensures.1 in
    rw (p.1, p.2)
    (stopped_at_limit g.F.Floor.at g.F.Floor.step_limit (g.F.Floor.mark c.args.floor.now) origin.config.now origin.member origin.feed origin.moment
    c.args.session.now c.args.framer.now.kept c.args.worked.now.replies.items (c.args.floor.now, c.args.steps.now)
    c.frames.session _ old new c.frames.worked.replies.items c.frames.worked.submitted c.in_err-end_too_long-in-TooLong.field-0.0 (c.frames.floor, c.frames.steps) c.frames.invariant.underway
    (subst (λ (r : Next). IsNext old r new) c.in-TooLong.is c.next.follows.holds-at-none) left.no_memory left.gave_up)
