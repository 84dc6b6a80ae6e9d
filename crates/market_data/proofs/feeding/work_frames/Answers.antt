-- Each frame goes on, and the last answer says how the piece ends.
use Rattle.std.proofs.Common.{◌∙◌, subst}
use Rattle.fix_frames.specs.declared.framer.Next.{Next}
use Rattle.fix_frames.specs.Streams.{IsNext}
use Rattle.fix_frames.specs.ReadingLaws.{given_shorter}
use Rattle.market_data.specs.Feeding.{feeding_of}
use Rattle.market_data.proofs.FeedingSteps.{going_none, going_frame, frame_end, adds_ended, adds_waited, adds_exceeded, map_if_ok}
use Rattle.market_data.proofs.feeding.work_frames.Goals as goal

pub frames-init : goal.frames-init
frames-init c source bytes piece fed =
    (going_none c.args.config.now source bytes piece c.args.text.now.items _ fed, fed.unended)

pub frames-smaller : goal.frames-smaller
frames-smaller c =
    let old = c.frames.framer in
    let new = c.next.follows.lender-at-none in
    given_shorter old new c.in-Frame.frame.bytes.now (subst (λ (r : Next). IsNext old r new) c.in-Frame.is c.next.follows.holds-at-none)

pub frames-preserved : goal.frames-preserved
frames-preserved c source bytes piece fed =
    let i = c.frames.invariant source bytes piece fed in
    let old = c.frames.framer in
    let new = c.next.follows.lender-at-none in
    let done = c.in_ok-cause-in-Frame.ensures in (
      going_frame c.args.config.now source bytes piece c.args.text.now.items c.frames.text.items c.work_frame.new.text.items
          c.frames.session c.work_frame.new.session old new c.frames.last c.work_frame.new.last c.in-Frame.frame.bytes.now i.0
          (subst (λ (r : Next). IsNext old r new) c.in-Frame.is c.next.follows.holds-at-none) done.session done.lines done.last,
      frame_end c.args.config.now source c.frames.session c.work_frame.new.session c.in-Frame.frame.bytes.now _ done.session done.ended ∙ c.in-None.is,
    )

pub returns-in-Some : goal.returns-in-Some
returns-in-Some c = record {
  adds = λ source bytes piece fed.
      let i = c.frames.invariant source bytes piece fed in
      let old = c.frames.framer in
      let new = c.next.follows.lender-at-none in
      let done = c.in_ok-cause-in-Frame.ensures in
      let going =
      going_frame c.args.config.now source bytes piece c.args.text.now.items c.frames.text.items c.work_frame.new.text.items
      c.frames.session c.work_frame.new.session old new c.frames.last c.work_frame.new.last c.in-Frame.frame.bytes.now i.0
      (subst (λ (r : Next). IsNext old r new) c.in-Frame.is c.next.follows.holds-at-none) done.session done.lines done.last in
      let cause = frame_end c.args.config.now source c.frames.session c.work_frame.new.session c.in-Frame.frame.bytes.now _ done.session done.ended ∙ c.in-Some.is in
      let there = feeding_of c.work_frame.new.session new.kept c.work_frame.new.last in
      (going.added, going.text_is, adds_ended c.args.config.now source bytes piece c.args.text.now.items c.work_frame.new.text.items there there c.in-Some.cause going cause);
}

pub returns-in-Wait : goal.returns-in-Wait
returns-in-Wait c = record {
  adds = λ source bytes piece fed.
      let i = c.frames.invariant source bytes piece fed in
      let old = c.frames.framer in
      let new = c.next.follows.lender-at-none in (
        i.0.added,
        i.0.text_is,
        adds_waited c.args.config.now source bytes piece c.args.text.now.items c.frames.text.items c.frames.session old new c.frames.last i.0 i.1
            (subst (λ (r : Next). IsNext old r new) c.in-Wait.is c.next.follows.holds-at-none),
      );
}

pub returns-in-TooLong : goal.returns-in-TooLong
returns-in-TooLong c = record {
  adds = map_if_ok c.end_too_long.result (λ ended end source bytes piece fed.
      let i = c.frames.invariant source bytes piece fed in
      let old = c.frames.framer in
      let new = c.next.follows.lender-at-none in (
        i.0.added,
        i.0.text_is,
        adds_exceeded c.args.config.now source bytes piece c.args.text.now.items c.frames.text.items c.frames.session c.end_too_long.new.session old new c.frames.last ended i.0
            (subst (λ (r : Next). IsNext old r new) c.in-TooLong.is c.next.follows.holds-at-none) end.0 end.1 end.2,
      )) c.end_too_long.ensures;
}
