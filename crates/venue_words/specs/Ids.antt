-- What lies under an id.
use Rattle.std.specs.Prelude.{ℕ, ◌≤◌, List, take, ⊤}
use Rattle.venue_words.specs.declared.id.TheConstants.{SHORT_ID_BYTES}
use Rattle.venue_words.specs.declared.id.Kept.{Kept}
use Rattle.venue_words.specs.declared.id.Kept.TheVariants.{Short, Long}

-- the bytes of an id
abbrev pub bytes_kept : Kept → List ℕ
bytes_kept (Short bytes len) = take len bytes
bytes_kept (Long bytes) = bytes.value.items

-- those that lie in the value are few
abbrev pub IsKept : Kept → Type 0
IsKept (Short bytes len) = len ≤ SHORT_ID_BYTES
IsKept (Long bytes) = ⊤
