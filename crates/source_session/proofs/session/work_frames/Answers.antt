-- Each frame goes on, and the last answer says how the piece ends.
use Rattle.std.proofs.Common.{◌++◌, ◌∙◌, refl, sym, ap, subst}
use Rattle.fix_frames.specs.declared.framer.Next.{Next}
use Rattle.fix_frames.specs.Streams.{IsNext}
use Rattle.fix_frames.specs.ReadingLaws.{given_shorter}
use Rattle.source_session.specs.declared.names.Names.{Names}
use Rattle.source_session.specs.Hearing.{hearing_of, Adds}
use Rattle.source_session.specs.Quotes.{hears_frame}
use Rattle.source_session.proofs.Steps.{going_none, going_frame, adds_waited, adds_exceeded}
use Rattle.source_session.proofs.session.work_frames.Goals as goal

pub frames-init : goal.frames-init
frames-init c = record {
  names = refl;
  going = λ bytes piece fed. going_none c.args.config.now c.args.listener.now.names bytes piece c.args.said.now.quotes.items _ _ fed;
}

pub frames-smaller : goal.frames-smaller
frames-smaller c =
    let old = c.frames.framer in
    let new = c.next.follows.lender-at-none in
    given_shorter old new c.in-Frame.frame.bytes.now (subst (λ (r : Next). IsNext old r new) c.in-Frame.is c.next.follows.holds-at-none)

pub frames-preserved : goal.frames-preserved
frames-preserved c =
    let named = c.frames.invariant.names in
    let old = c.frames.framer in
    let new = c.next.follows.lender-at-none in
    let config = c.args.config.now in
    let frame = c.in-Frame.frame.bytes.now in
    let state = c.frames.listener.state in
    let done = c.in_ok-take-in-Frame.ensures in record {
      names = done.names ∙ named;
      going = λ bytes piece fed.
          going_frame config c.args.listener.now.names bytes piece c.args.said.now.quotes.items c.frames.said.quotes.items c.take.new.said.quotes.items
          state c.take.new.self.state old new frame (c.frames.invariant.going bytes piece fed)
          (subst (λ (r : Next). IsNext old r new) c.in-Frame.is c.next.follows.holds-at-none)
          (done.state ∙ ap (λ (n : Names). (hears_frame config n state frame).state) named)
          (done.quotes ∙ ap (λ (n : Names). c.frames.said.quotes.items ++ (hears_frame config n state frame).quotes) named);
    }

pub returns-in-Wait : goal.returns-in-Wait
returns-in-Wait c =
    let named = c.frames.invariant.names in
    let old = c.frames.framer in
    let new = c.next.follows.lender-at-none in record {
      names = named;
      adds = λ bytes piece fed.
          let g = c.frames.invariant.going bytes piece fed in (
            g.added,
            g.list,
            subst (λ (n : Names). Adds c.args.config.now bytes piece g.added (hearing_of n c.frames.listener.state new.kept)) (sym named)
                (adds_waited c.args.config.now c.args.listener.now.names bytes piece c.args.said.now.quotes.items c.frames.said.quotes.items c.frames.listener.state old new g
                (subst (λ (r : Next). IsNext old r new) c.in-Wait.is c.next.follows.holds-at-none)),
          );
    }

pub returns-in-TooLong : goal.returns-in-TooLong
returns-in-TooLong c =
    let named = c.frames.invariant.names in
    let old = c.frames.framer in
    let new = c.next.follows.lender-at-none in
    let next = c.end.new.self in record {
      names = c.end.ensures.names ∙ named;
      adds = λ bytes piece fed.
          let g = c.frames.invariant.going bytes piece fed in (
            g.added,
            g.list,
            subst (λ (n : Names). Adds c.args.config.now bytes piece g.added (hearing_of n next.state new.kept)) (sym (c.end.ensures.names ∙ named))
                (adds_exceeded c.args.config.now c.args.listener.now.names bytes piece c.args.said.now.quotes.items c.frames.said.quotes.items c.frames.listener.state next.state old new g
                (subst (λ (r : Next). IsNext old r new) c.in-TooLong.is c.next.follows.holds-at-none) c.end.ensures.over),
          );
    }
