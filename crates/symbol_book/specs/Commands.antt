-- The commands that a book takes, and the steps that they may take.
use Rattle.std.specs.Prelude.{◌≡◌, ℕ, ◌+◌, ◌≤◌, Bool, true, ◌&&◌, nat_lt, length, Option, Some, None}
use Rattle.venue_words.specs.declared.command.Command.{Command}
use Rattle.venue_words.specs.declared.command.Command.TheVariants.{Quote, New, Cancel, Replace, Status}
use Rattle.venue_words.specs.declared.row.Key.{Key}
use Rattle.venue_words.specs.Conditions.{fits_limits}
use Rattle.eager_meaning.specs.Terms.{key_of}

-- whether a command is no quote of a market that isn't there
abbrev pub has_market : ℕ → Command → Bool
has_market markets (Quote market bid offer) = nat_lt market markets
has_market markets (New member id terms) = true
has_market markets (Cancel member id orig) = true
has_market markets (Replace member id orig terms) = true
has_market markets (Status member id side) = true

-- whether a book of so many markets takes the command
abbrev pub takes_command : ℕ → Command → Bool
takes_command markets command = fits_limits command && has_market markets command

-- the key of the row that a command may enter
abbrev pub key_for : ℕ → Command → Option Key
key_for tick (Quote market bid offer) = None
key_for tick (New member id terms) = Some (key_of tick terms)
key_for tick (Cancel member id orig) = None
key_for tick (Replace member id orig terms) = Some (key_of tick terms)
key_for tick (Status member id side) = None

-- a command of a member: no quote
abbrev pub IsRequest : Command → Type 0
IsRequest (Quote market bid offer) = ⊥
IsRequest (New member id terms) = Unit {0}
IsRequest (Cancel member id orig) = Unit {0}
IsRequest (Replace member id orig terms) = Unit {0}
IsRequest (Status member id side) = Unit {0}

-- the bytes of the id that an order may get
abbrev pub id_bytes : Command → ℕ
id_bytes (Quote market bid offer) = 0
id_bytes (New member id terms) = length id
id_bytes (Cancel member id orig) = 0
id_bytes (Replace member id orig terms) = length id
id_bytes (Status member id side) = 0

-- the sides are no wider than the groups of their rows, and one more where a key was given
pub record IsNarrow (key : Option Key) (width groups : ℕ) : Type 0 where
  pub wide : width ≤ groups + 1
  pub narrow : key ≡ None → width ≤ groups
