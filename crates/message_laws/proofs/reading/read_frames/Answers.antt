-- Piece by piece the frames taken and those that are left stay the frames of all pieces.
use Rattle.std.proofs.Common.{◌≡◌, Bool, refl, ap, subst}
use Rattle.std.specs.Prelude.{MatchBool}
use Rattle.fix_frames.specs.Streams.{Stream}
use Rattle.fix_frames.specs.Reading.{none_yet, reading_of}
use Rattle.message_laws.specs.Taking.{IsOverLimit}
use Rattle.message_laws.proofs.TakingSteps.{reading_of-nil, fed_one, all_taken}
use Rattle.message_laws.proofs.reading.read_frames.Goals as goal

pub loop-piece-init : goal.loop-piece-init
loop-piece-init c =
    let none = ap (λ (s : Stream). s.kept) c.new-framer.ensures in
    rw (c.new-frames.ensures, none) (record { whole = refl; none = reading_of-nil })

pub returns-then-branch : goal.returns-then-branch
returns-then-branch c =
    let new = c.take_frames.new.framer in
    let taken = c.in_ok-take_frames.ensures in
    let over : IsOverLimit new = subst (λ (b : Bool). MatchBool b (IsOverLimit new) (reading_of new.kept ≡ none_yet)) c.if-branch.true taken.rest in
    let left = fed_one (λ piece. piece.now) c.args.pieces.now _ c.loop-piece.piece-index _ _ _ c.loop-piece.framer c.feed.new.self new _ c.loop-piece-test.true c.loop-piece.invariant.whole c.in_ok-feed.ensures.kept taken in
    all_taken _ _ new _ left over

pub loop-piece-preserved : goal.loop-piece-preserved
loop-piece-preserved c =
    let new = c.take_frames.new.framer in
    let taken = c.in_ok-take_frames.ensures in
    let rest : reading_of new.kept ≡ none_yet = subst (λ (b : Bool). MatchBool b (IsOverLimit new) (reading_of new.kept ≡ none_yet)) c.if-branch.false taken.rest in
    record {
      whole = fed_one (λ piece. piece.now) c.args.pieces.now _ c.loop-piece.piece-index _ _ _ c.loop-piece.framer c.feed.new.self new _ c.loop-piece-test.true c.loop-piece.invariant.whole c.in_ok-feed.ensures.kept taken;
      none = rest;
    }
