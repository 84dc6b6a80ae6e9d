use Rattle.std.proofs.Common.{◌≡◌, length, take, subst, arith}
use Rattle.std.proofs.lemmas.Grind.{common_steps}
use Rattle.live_words.specs.Naming.{IsFirst, IsGiven}
use Rattle.live_words.proofs.FirstFrames.{first_whole}
use Rattle.live_words.proofs.naming.whole_frame.Goals as goal

pub returns-in-Frame : goal.returns-in-Frame
returns-in-Frame c =
    let given : IsGiven (take c.args.size c.args.early.now) c.in-Frame.frame = subst (IsFirst (take c.args.size c.args.early.now)) c.in-Frame.is c.in_ok-frame.ensures in
    let same : length c.in-Frame.frame ≡ c.args.size = grind (arith, common_steps, c.as_slice.ensures, c.if-as_slice-size.true) in
    first_whole c.args.early.now c.in-Frame.frame c.args.size c.requires given same
