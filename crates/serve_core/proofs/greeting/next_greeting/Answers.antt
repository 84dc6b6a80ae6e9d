-- The first frame that splits says it, or one that is too long ends the connection, or there is none yet.
use Rattle.std.proofs.Common.{◌≡◌, Some, sym, ◌∙◌, ap, subst}
use Rattle.fix_frames.specs.declared.framer.Next.{Next}
use Rattle.fix_frames.specs.ReadingLaws.{given_shorter}
use Rattle.fix_frames.specs.Streams.{IsNext}
use Rattle.serve_core.specs.Greeting.{IsSaidBy}
use Rattle.serve_core.specs.declared.greeting.Greeting.TheVariants.{Unnamed}
use Rattle.serve_core.proofs.Greetings.{passed_frame, said_by_frame, waited_on, none_said, too_long_said, same_then, same_here}
use Rattle.serve_core.proofs.greeting.next_greeting.Goals as goal

pub frames-smaller : goal.frames-smaller
frames-smaller c =
    let old = c.frames.framer in
    let new = c.next.follows.lender-at-none in
    given_shorter old new c.in-Frame.frame.bytes.now (subst (λ (r : Next). IsNext old r new) c.in-Frame.is c.next.follows.holds-at-none)

pub frames-preserved : goal.frames-preserved
frames-preserved c =
    let config = c.args.config.now in
    let old = c.frames.framer in
    let new = c.next.follows.lender-at-none in
    let frame = c.in-Frame.frame.bytes.now in
    let given = subst (λ (r : Next). IsNext old r new) c.in-Frame.is c.next.follows.holds-at-none in
    same_then config c.args.framer.now.kept old.kept new.kept c.frames.invariant
    (passed_frame config old new frame given (subst (IsSaidBy config frame) c.in-None.is c.in_ok-said-in-Frame.ensures.said))

pub returns-in-Some-clause-said : goal.returns-in-Some-clause-said
returns-in-Some-clause-said c =
    let config = c.args.config.now in
    let old = c.frames.framer in
    let new = c.next.follows.lender-at-none in
    let frame = c.in-Frame.frame.bytes.now in
    let given = subst (λ (r : Next). IsNext old r new) c.in-Frame.is c.next.follows.holds-at-none in
    said_by_frame config old new frame c.in-Some.greeting given (subst (IsSaidBy config frame) c.in-Some.is c.in_ok-said-in-Frame.ensures.said)
    ∙ sym (same_here config c.args.framer.now.kept old.kept c.frames.invariant)

pub returns-in-Some-clause-on : goal.returns-in-Some-clause-on
returns-in-Some-clause-on c e =
    let is : c.in-Some.greeting ≡ Unnamed = cc in
    absurd (c.in_ok-said-in-Frame.ensures.some (c.in-Some.is ∙ ap Some is))

pub returns-in-Wait-clause-said : goal.returns-in-Wait-clause-said
returns-in-Wait-clause-said c =
    let config = c.args.config.now in
    let old = c.frames.framer in
    let new = c.next.follows.lender-at-none in
    none_said config old new (subst (λ (r : Next). IsNext old r new) c.in-Wait.is c.next.follows.holds-at-none)
    ∙ sym (same_here config c.args.framer.now.kept old.kept c.frames.invariant)

pub returns-in-Wait-clause-on : goal.returns-in-Wait-clause-on
returns-in-Wait-clause-on c e =
    let config = c.args.config.now in
    let old = c.frames.framer in
    let new = c.next.follows.lender-at-none in
    same_then config c.args.framer.now.kept old.kept new.kept c.frames.invariant
    (waited_on config old new (subst (λ (r : Next). IsNext old r new) c.in-Wait.is c.next.follows.holds-at-none))

pub returns-in-TooLong-clause-said : goal.returns-in-TooLong-clause-said
returns-in-TooLong-clause-said c =
    let config = c.args.config.now in
    let old = c.frames.framer in
    let new = c.next.follows.lender-at-none in
    too_long_said config old new (subst (λ (r : Next). IsNext old r new) c.in-TooLong.is c.next.follows.holds-at-none)
    ∙ sym (same_here config c.args.framer.now.kept old.kept c.frames.invariant)
