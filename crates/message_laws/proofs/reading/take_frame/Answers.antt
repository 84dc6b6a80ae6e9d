-- The new stream is what the borrow of the framer ends with.
use Rattle.std.proofs.Common.{ℕ, List, sym, ◌∙◌, subst}
use Rattle.fix_frames.specs.declared.framer.Next.{Next}
use Rattle.message_laws.specs.declared.reading.Taken.TheVariants.{Frame}
use Rattle.fix_frames.specs.Streams.{IsNext}
use Rattle.message_laws.specs.Taking.{Takes}
use Rattle.message_laws.proofs.TakingSteps.{takes_frame, takes_none, takes_too_long}
use Rattle.message_laws.proofs.reading.take_frame.Goals as goal

pub returns-in_ok-frame-in-Frame : goal.returns-in_ok-frame-in-Frame
returns-in_ok-frame-in-Frame c =
    let old = c.args.framer.now in
    let new = c.next.follows.lender-at-none in
    let h = subst (λ (r : Next). IsNext old r new) c.in-Frame.is c.next.follows.holds-at-none in
    subst (λ (frame : List ℕ). Takes old (Frame frame) new) (sym (c.in_ok-frame-in-Frame.ensures ∙ c.as_slice.ensures)) (takes_frame old new _ h)

pub returns-in-Wait : goal.returns-in-Wait
returns-in-Wait c =
    let old = c.args.framer.now in
    let new = c.next.follows.lender-at-none in
    takes_none old new (subst (λ (r : Next). IsNext old r new) c.in-Wait.is c.next.follows.holds-at-none)

pub returns-in-TooLong : goal.returns-in-TooLong
returns-in-TooLong c =
    let old = c.args.framer.now in
    let new = c.next.follows.lender-at-none in
    takes_too_long old new (subst (λ (r : Next). IsNext old r new) c.in-TooLong.is c.next.follows.holds-at-none)
