use Rattle.std.proofs.Common.{◌≡◌, refl, sym, subst}
use Rattle.live_edge.specs.Stories.{Story}
use Rattle.live_edge.specs.Joins.{all_put}
use Rattle.live_words.specs.Frames.{frames_of}
use Rattle.live_edge.proofs.edge.LiveEdge.new.Goals as goal

pub invariant_of-result : goal.invariant_of-result
invariant_of-result g c = record {
  joined = c.in_ok-connections.ensures.joined;
  put = λ m. subst (λ (s : Story). all_put s.past m ≡ frames_of c.new-2.result.members m s.told) (sym c.in_ok-connections.ensures.story) refl;
}
