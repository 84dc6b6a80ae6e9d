-- What the rows of a page say beyond their numbers.
use Rattle.std.specs.Prelude.{ℕ, ◌-◌, ◌*◌, Bool, false, Option, None, Some, nat_le, nat_lt, if◌then◌else◌, ◌⊎◌, ◌≡◌, List, codes}
use Rattle.watch_page.specs.declared.rows.Level.{Level}
use Rattle.watch_page.specs.declared.rows.Level.TheVariants.{Fine, Near, Almost}

-- how near events are to their limit: it warns at 80 and at 95 of a hundred
unfoldable pub level_of : ℕ → ℕ → Level
level_of events limit =
    if nat_le (limit * 95) (events * 100) then Almost
    else if nat_le (limit * 80) (events * 100) then Near
    else Fine

-- a quote that nothing confirmed for longer than this many milliseconds is stale; where there never was one, there is none to be stale
abbrev pub is_stale : Option ℕ → ℕ → ℕ → Bool
is_stale None now most = false
is_stale (Some since) now most = nat_lt most (now - since)

-- a label is the name that it was made of, or says that this is none
abbrev pub IsLabelOf : List ℕ → List ℕ → Type 0
IsLabelOf name label = (label ≡ name) ⊎ (label ≡ codes "unnamed")
