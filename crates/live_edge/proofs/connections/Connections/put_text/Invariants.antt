use Rattle.std.proofs.Common.{◌≡◌, ◌≤◌, ◌+◌, ◌++◌, List, ℕ, length}
use Rattle.live_edge.specs.Joins.{Joined, all_put}
use Rattle.live_words.specs.Frames.{frames_of}
use Rattle.live_words.specs.Lines.{text_of_lines}
use Rattle.live_edge.proofs.connections.Connections.put_text.Given as goal

abbrev pub invariant-loop-line : goal.invariant-loop-line
invariant-loop-line g l = record {
  part : (part : List ℕ) × (text_of_lines l.self.story.tale.told ≡ text_of_lines l.initial.self.story.tale.told ++ part) × (part ++ l.rest ≡ l.text);
  brought : l.self.story.tale.brought ≡ l.initial.self.story.tale.brought;
  joined : Joined l.initial.self.story.tale.past l.initial.self.table (g.O.Ports.came l.initial.self.outside) (g.O.Ports.went l.initial.self.outside) → Joined l.self.story.tale.past l.self.table (g.O.Ports.came l.self.outside) (g.O.Ports.went l.self.outside);
  frames : ((m : ℕ) → all_put l.initial.self.story.tale.past m ≡ frames_of l.setup.members m l.initial.self.story.tale.told) → (m : ℕ) → all_put l.self.story.tale.past m ≡ frames_of l.setup.members m l.self.story.tale.told;
  later : g.O.Ports.faults l.initial.self.outside + l.initial.self.faults ≤ g.O.Ports.faults l.self.outside + l.self.faults;
}

abbrev pub decreases-loop-line : goal.decreases-loop-line
decreases-loop-line g l = length l.rest
