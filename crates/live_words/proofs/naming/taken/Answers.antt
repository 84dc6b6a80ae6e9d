use Rattle.std.proofs.Common.{refl, ◌∙◌, subst}
use Rattle.fix_frames.specs.declared.framer.Next.{Next}
use Rattle.fix_frames.specs.Streams.{IsNext}
use Rattle.live_words.proofs.FirstFrames.{first_given}
use Rattle.live_words.proofs.naming.taken.Goals as goal

pub returns-in_ok-frame-in-Frame : goal.returns-in_ok-frame-in-Frame
returns-in_ok-frame-in-Frame c =
    let old = c.args.framer.now in
    let new = c.next.follows.lender-at-none in
    first_given old.kept old new _ _ refl (c.in_ok-frame-in-Frame.ensures ∙ c.as_slice.ensures)
    (subst (λ (r : Next). IsNext old r new) c.in-Frame.is c.next.follows.holds-at-none)
