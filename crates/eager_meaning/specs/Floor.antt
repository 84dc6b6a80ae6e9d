-- The least number of shares that an order trades at once.
use Rattle.std.specs.Prelude.{ℕ, min, Bool, true, false, not, ◌&&◌, if◌then◌else◌}
use Rattle.venue_words.specs.declared.row.Row.{Row}
use Rattle.venue_words.specs.declared.row.Method.{Method}
use Rattle.venue_words.specs.declared.row.Method.TheVariants.{Once, Multiple}

-- whether a minimum has to be met but once
abbrev pub is_once : Method → Bool
is_once Once = true
is_once Multiple = false

-- whether two orders meet their minimums in the same way
abbrev pub same_method : Method → Method → Bool
same_method Once other = is_once other
same_method Multiple other = not (is_once other)

-- the lesser of minimum and leaves; 0 with no minimum, or where it had to be met once and the order has traded
unfoldable pub floor : Row → ℕ
floor row = if is_once row.method && row.traded then 0 else min row.minimum row.leaves
