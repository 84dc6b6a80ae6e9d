-- Lists of numbers of events.
use Rattle.std.specs.Prelude.{ℕ, ◌<◌, ◌≤◌, ◌==◌, nat_lt, if◌then◌else◌, List, [], ◌∷◌, count_by}

-- each number is above the one before it, the first is above `low`, and none is above `most`
abbrev pub IncreasesWithin : ℕ → ℕ → List ℕ → Type 0
IncreasesWithin low most [] = low ≤ most
IncreasesWithin low most (n ∷ ns) = (low < n) × IncreasesWithin n most ns

-- how often a number stands in a list
abbrev pub times : ℕ → List ℕ → ℕ
times n ns = count_by (λ m. n == m) ns

-- an increasing list with one more number, at its place
abbrev pub with_number : ℕ → List ℕ → List ℕ
with_number n [] = n ∷ []
with_number n (m ∷ ms) = if nat_lt n m then (n ∷ m ∷ ms) else (m ∷ with_number n ms)

-- the numbers of two increasing lists in one
abbrev pub merge_of : List ℕ → List ℕ → List ℕ
merge_of [] ms = ms
merge_of (n ∷ ns) ms = with_number n (merge_of ns ms)
