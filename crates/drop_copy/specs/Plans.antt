-- The listed members, by their names.
use Rattle.std.specs.Prelude.{ℕ, Bool, true, ◌&&◌, not, if◌then◌else◌, List, [], ◌∷◌, length, filter, Option, Some, None}
use Rattle.std.specs.List.{list_all, list_any, range_with_len}
use Rattle.std.specs.Str.{bytes_eq}
use Rattle.member_gate.specs.Answering.{name_at}
use Rattle.script_text.specs.Words.{is_name}

-- whether a name is among these
abbrev pub is_among : List (List ℕ) → List ℕ → Bool
is_among names name = list_any (λ other. bytes_eq other name) names

-- whether every word is one of these names
abbrev pub are_members : List (List ℕ) → List (List ℕ) → Bool
are_members names words = list_all (is_among names) words

-- whether no word stands twice
abbrev pub are_distinct : List (List ℕ) → Bool
are_distinct [] = true
are_distinct (word ∷ words) = not (is_among words word) && are_distinct words

-- whether copies may go under a name to a session that lists these members: it has the form of a name and is no member's, and
-- the words are members' names, none of which stands twice
unfoldable pub is_lawful : List (List ℕ) → List ℕ → List (List ℕ) → Bool
is_lawful names name words =
    (is_name name && not (is_among names name)) && (are_members names words && are_distinct words)

-- the numbers of the members whose names are among the words, in rising order
abbrev pub listed_members : List (List ℕ) → List (List ℕ) → List ℕ
listed_members names words =
    filter (λ number. is_among words (name_at names number)) (range_with_len 0 (length names))

-- the numbers where the plan is lawful
abbrev pub members_of : List (List ℕ) → List ℕ → List (List ℕ) → Option (List ℕ)
members_of names name words = if is_lawful names name words then Some (listed_members names words) else None
