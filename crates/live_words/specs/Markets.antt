-- Which quotes of a market stand, and when it is quiet.
use Rattle.std.specs.Prelude.{ℕ, ◌-◌, ◌&&◌, Bool, false, List, nat_lt, slice_get, unwrap_or}

-- whether a market's quote of a symbol has a price
abbrev pub stands : List Bool → ℕ → Bool
stands rows symbol = unwrap_or (slice_get rows symbol) false

-- whether nothing came from a market for longer than the limit, where there is one
abbrev pub is_quiet : ℕ → ℕ → ℕ → Bool
is_quiet heard now limit = nat_lt 0 limit && nat_lt limit (now - heard)
