-- The national quote: the greatest bid and the least offer of all markets.
use Rattle.std.specs.Prelude.{◌≡◌, ℕ, ◌≤◌, min, max, Bool, false, nat_lt, ◌==◌, List, map, Option, Some, None, IfSome, Contains, All, fold}
use Rattle.venue_words.specs.declared.price.Best.{Best}

-- none where there are only nones, else one of those that are there, at least as great as each
abbrev pub IsGreatest : List (Option ℕ) → Option ℕ → Type 0
IsGreatest xs None = All (λ x. x ≡ None) xs
IsGreatest xs (Some m) = Contains xs (Some m) × All (λ x. IfSome x (λ n. n ≤ m)) xs

-- the same, at most as great as each
abbrev pub IsLeast : List (Option ℕ) → Option ℕ → Type 0
IsLeast xs None = All (λ x. x ≡ None) xs
IsLeast xs (Some m) = Contains xs (Some m) × All (λ x. IfSome x (λ n. m ≤ n)) xs

-- the national quote of the markets' rows
pub record IsNationalBest (rows : List Best) (best : Best) : Type 0 where
  pub bid : IsGreatest (map (λ row. row.bid) rows) best.bid
  pub offer : IsLeast (map (λ row. row.offer) rows) best.offer

-- the one of two that a choice takes, where both are there
abbrev pub either_by : (ℕ → ℕ → ℕ) → Option ℕ → Option ℕ → Option ℕ
either_by f None y = y
either_by f (Some x) None = Some x
either_by f (Some x) (Some y) = Some (f x y)

-- the greatest and the least that is there
abbrev pub greatest : List (Option ℕ) → Option ℕ
greatest xs = fold (either_by max) None xs

abbrev pub least : List (Option ℕ) → Option ℕ
least xs = fold (either_by min) None xs

-- the national quote, computed
unfoldable pub best_of : List Best → Best
best_of rows = record { bid = greatest (map (λ row. row.bid) rows); offer = least (map (λ row. row.offer) rows) }

-- whether two prices are there and pass a test
abbrev pub both_pass : (ℕ → ℕ → Bool) → Option ℕ → Option ℕ → Bool
both_pass test None y = false
both_pass test (Some x) None = false
both_pass test (Some x) (Some y) = test x y

-- both are there, and the bid is below the offer
abbrev pub is_regular : Best → Bool
is_regular best = both_pass nat_lt best.bid best.offer

-- both are there, and equal
abbrev pub is_locked : Best → Bool
is_locked best = both_pass (λ bid offer. bid == offer) best.bid best.offer
