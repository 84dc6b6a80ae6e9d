-- Who may log on from where.
use Rattle.std.specs.Prelude.{◌≡◌, ◌==◌, ◌&&◌, ⊤, ℕ, Bool, true, bit_and}
use Rattle.std.specs.List.{list_any}
use Rattle.live_words.specs.declared.access.Origin.{Origin}
use Rattle.live_words.specs.declared.access.Network.{Network}
use Rattle.live_words.specs.declared.access.Rule.{Rule}
use Rattle.live_words.specs.declared.access.Rule.TheVariants.{From, At}
use Rattle.live_words.specs.declared.access.Access.{Access}
use Rattle.live_words.specs.declared.access.Access.TheVariants.{Anywhere, Listed}

-- an address is one of a network's: it shares the bits of the mask with the first
abbrev pub is_in : Network → ℕ → Bool
is_in network address = bit_and address network.mask == bit_and network.first network.mask

-- a rule lets a connection from there be this member's: from its network at the door of all members, or at his own door
abbrev pub lets : Rule → ℕ → Origin → Bool
lets (From whose network) member origin = (whose == member && origin.door == 0) && is_in network origin.address
lets (At whose door) member origin = whose == member && origin.door == door

-- a connection from there may be this member's
abbrev pub IsAllowed : Access → ℕ → Origin → Type 0
IsAllowed Anywhere member origin = ⊤
IsAllowed (Listed rules) member origin = list_any (λ rule. lets rule member origin) rules.items ≡ true
