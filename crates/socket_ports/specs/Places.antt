-- What the ports of a row have given and taken.
use Rattle.std.specs.Prelude.{ℕ, Bool, true, false, Option, None, Some, List, [], is_some, slice_get}
use Rattle.socket_ports.specs.declared.place.Place.{Place}
use Rattle.live_words.specs.declared.access.Origin.{Origin}

abbrev pub given : Option Place → List ℕ
given None = []
given (Some place) = place.flow.moved.came

abbrev pub taken : Option Place → List ℕ
taken None = []
taken (Some place) = place.flow.moved.went

abbrev pub is_up : Option Place → Bool
is_up None = false
is_up (Some place) = is_some place.connection

abbrev pub is_over : Option Place → Bool
is_over None = false
is_over (Some place) = place.over

abbrev pub is_idle : Option Place → Bool
is_idle None = true
is_idle (Some place) = place.idle

abbrev pub origin_of : Option Place → Origin
origin_of None = record { door = 0; address = 0 }
origin_of (Some place) = place.origin

abbrev pub origin_in : List Place → ℕ → Origin
origin_in places port = origin_of (slice_get places port)

abbrev pub came_in : List Place → ℕ → List ℕ
came_in places port = given (slice_get places port)

abbrev pub went_in : List Place → ℕ → List ℕ
went_in places port = taken (slice_get places port)

abbrev pub up_in : List Place → ℕ → Bool
up_in places port = is_up (slice_get places port)

abbrev pub over_in : List Place → ℕ → Bool
over_in places port = is_over (slice_get places port)

abbrev pub idle_in : List Place → ℕ → Bool
idle_in places port = is_idle (slice_get places port)
