-- How a story goes on.
use Rattle.std.specs.Prelude.{ℕ, List, [], ◌∷◌, ◌++◌}
use Rattle.ports.specs.History as history
use Rattle.ports.specs.History.{Event}
use Rattle.ports.specs.Results as ports
use Rattle.ports.specs.declared.answers.Putting.{Putting}
use Rattle.ports.specs.declared.answers.Putting.TheVariants as putting
use Rattle.live_edge.specs.Stories.{Story}
use Rattle.live_edge.specs.declared.story.Step.{Step}
use Rattle.live_edge.specs.declared.story.Step.TheVariants.{Brought, Told, Opened, Read, Named, Put, Ended}

-- Bytes were put to a member. Where they are more than may wait his connection ended, and they were put to nobody.
abbrev pub put_or_ended : ℕ → List ℕ → Putting → List Event → List Event
put_or_ended member bytes putting.Waits past = history.Put member bytes ∷ past
put_or_ended member bytes putting.Nobody past = history.Put member bytes ∷ past
put_or_ended member bytes (putting.Over port) past = history.Put member bytes ∷ history.Ended port ∷ past

-- a story with one thing more
abbrev pub went_on : Story → Step → Story
went_on s (Brought lines) = record s { brought = s.brought ++ lines.now }
went_on s (Told line) = record s { told = s.told ++ line.now ∷ [] }
went_on s (Opened opening) = record s { past = ports.opened opening.now s.past }
went_on s (Read port heard) = record s { past = ports.read port heard.now s.past }
went_on s (Named port member naming) = record s { past = ports.named port member naming.now s.past }
went_on s (Put member bytes answer) = record s { past = put_or_ended member bytes.now answer s.past }
went_on s (Ended port) = record s { past = history.Ended port ∷ s.past }
