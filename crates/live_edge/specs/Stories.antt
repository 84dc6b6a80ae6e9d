-- What happened at an edge.
use Rattle.std.specs.Prelude.{◌≡◌, ℕ, ◌==◌, cond, List, [], refl}
use Rattle.std.specs.Coded.{Coded, code_by, coded×, coded_ℕ, coded_list}
use Rattle.ports.specs.History.{Event, Opened, Named, Handed, Put, Ended}

-- the lines that were brought, the lines of transcripts that were put, and what befell the connections, the last first
pub record Story : Type 0 where
  pub brought : List (List ℕ)
  pub told : List (List ℕ)
  pub past : List Event

-- nothing happened yet
abbrev pub beginning : Story
beginning = record { brought = []; told = []; past = [] }

abbrev Parts : Type 0
Parts = ℕ × (ℕ × (ℕ × List ℕ))

abbrev to_parts : Event → Parts
to_parts (Opened port) = (0, (port, (0, [])))
to_parts (Named port member) = (1, (port, (member, [])))
to_parts (Handed port bytes) = (2, (port, (0, bytes)))
to_parts (Put member bytes) = (3, (member, (0, bytes)))
to_parts (Ended port) = (4, (port, (0, [])))

abbrev from_parts : Parts → Event
from_parts p =
    cond (p.0 == 0) (Opened p.1.0) (cond (p.0 == 1) (Named p.1.0 p.1.1.0) (cond (p.0 == 2) (Handed p.1.0 p.1.1.1)
    (cond (p.0 == 3) (Put p.1.0 p.1.1.1) (Ended p.1.0))))

pub from_parts-to_parts : (e : Event) → from_parts (to_parts e) ≡ e
from_parts-to_parts (Opened port) = refl
from_parts-to_parts (Named port member) = refl
from_parts-to_parts (Handed port bytes) = refl
from_parts-to_parts (Put member bytes) = refl
from_parts-to_parts (Ended port) = refl

abbrev pub event_code : Coded Event
event_code = code_by Parts (coded× coded_ℕ (coded× coded_ℕ (coded× coded_ℕ (coded_list coded_ℕ)))) to_parts from_parts from_parts-to_parts

-- a story is stored as its three lists
abbrev pub tale_code : Coded Story
tale_code =
    code_by (List (List ℕ) × (List (List ℕ) × List Event)) (coded× (coded_list (coded_list coded_ℕ)) (coded× (coded_list (coded_list coded_ℕ)) (coded_list event_code)))
    (λ s. (s.brought, (s.told, s.past))) (λ p. record { brought = p.0; told = p.1.0; past = p.1.1 }) (λ _. refl)
