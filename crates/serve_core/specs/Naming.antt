-- How a connection's member becomes known, turn by turn.
use Rattle.std.specs.Prelude.{◌≡◌, ◌⊎◌, ◌++◌, ◌∷◌, [], ℕ, ℤ, List, Option}
use Rattle.std.specs.List.{flat_map}
use Rattle.venue_words.specs.declared.config.Config.{Config}
use Rattle.io_edge.specs.Links.{Answer, Told}
use Rattle.io_edge.specs.Links.Answer.{piece, quiet, ended}
use Rattle.session_core.specs.declared.state.EndCause.{EndCause}
use Rattle.link_work.specs.declared.ends.LinkEnd.{LinkEnd}
use Rattle.link_work.specs.declared.ends.LinkEnd.TheVariants.{PeerEnd, LinkFault, NoMemory}
use Rattle.link_work.specs.Ends.{end_of}
use Rattle.link_work.specs.Turns.{LinkTurn, TurnsWere}
use Rattle.serve_core.specs.declared.greeting.Greeting.TheVariants as greeting
use Rattle.serve_core.specs.Greeting.{greeting_of}

-- what a link and a clock tell
pub record Edge : Type 0 where
  pub link : Option Told
  pub clock : Option (List ℤ)

abbrev pub edge : Option Told → Option (List ℤ) → Edge
edge link clock = record { link = link; clock = clock }

-- the bytes of an answer
abbrev pub bytes_in : Answer → List ℕ
bytes_in (piece bytes) = bytes
bytes_in quiet = []
bytes_in ended = []

-- these bytes came, in turns in which nothing was put, and they name no member
pub record Unnamed (config : Config) (bytes : List ℕ) (before after : Edge) : Type 0 where
  pub turns : List LinkTurn
  pub bytes_are : bytes ≡ flat_map (λ turn. bytes_in turn.answer) turns
  pub unnamed : greeting_of config bytes ≡ greeting.Unnamed
  pub told : TurnsWere turns [] before.link before.clock after.link after.clock

-- one more turn began, behind turns that named no member
pub record NextUnnamed (config : Config) (earlier : List ℕ) (turn : LinkTurn) (before after : Edge) : Type 0 where
  pub middle : Edge
  pub unnamed : Unnamed config earlier before middle
  pub told : TurnsWere (turn ∷ []) [] middle.link middle.clock after.link after.clock

-- a turn at this moment brought the frame that names the member, and all bytes by then are these
pub record Named (config : Config) (member : ℕ) (moment : ℤ) (bytes : List ℕ) (before after : Edge) : Type 0 where
  pub earlier : List ℕ
  pub turn : LinkTurn
  pub next : NextUnnamed config earlier turn before after
  pub moment_is : moment ≡ turn.moment
  pub bytes_are : bytes ≡ earlier ++ bytes_in turn.answer
  pub named : greeting_of config bytes ≡ greeting.Member member

-- why a turn ended a connection whose member is not known, where all bytes by then are these
abbrev pub EndsUnnamed : Config → List ℕ → Answer → LinkEnd → Type 0
EndsUnnamed config bytes answer PeerEnd = answer ≡ ended
EndsUnnamed config bytes answer NoMemory = Unit {0}
EndsUnnamed config bytes answer end = (cause : EndCause) × (greeting_of config bytes ≡ greeting.Refused cause) × (end ≡ end_of cause)

-- the turn that ended it
pub record LastUnnamed (config : Config) (end : LinkEnd) (before after : Edge) : Type 0 where
  pub earlier : List ℕ
  pub turn : LinkTurn
  pub next : NextUnnamed config earlier turn before after
  pub ends : EndsUnnamed config (earlier ++ bytes_in turn.answer) turn.answer end

-- a connection ended before its member was known: a pull failed, or a turn ended it
abbrev pub Stranger : Config → LinkEnd → Edge → Edge → Type 0
Stranger config end before after =
    ((end ≡ LinkFault) × (bytes : List ℕ) × Unnamed config bytes before after) ⊎ LastUnnamed config end before after
