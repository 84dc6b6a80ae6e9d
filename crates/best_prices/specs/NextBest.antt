-- The national prices after one market's quote has changed.
use Rattle.std.specs.Prelude.{ℕ, nat_le, nat_eq, Bool, true, false, if◌then◌else◌, List, Option, Some, None}
use Rattle.std.specs.Option.{option_eq}
use Rattle.venue_words.specs.Best.{greatest, least}

-- whether a bid is as good as the best one; each is where there is none
abbrev pub is_at_least : Option ℕ → Option ℕ → Bool
is_at_least bid None = true
is_at_least None (Some best) = false
is_at_least (Some bid) (Some best) = nat_le best bid

-- the same of an offer
abbrev pub is_at_most : Option ℕ → Option ℕ → Bool
is_at_most offer None = true
is_at_most None (Some best) = false
is_at_most (Some offer) (Some best) = nat_le offer best

-- the greatest of all bids, of which one is `now` and was `was` when `best` was the greatest
abbrev pub next_greatest : Option ℕ → Option ℕ → Option ℕ → List (Option ℕ) → Option ℕ
next_greatest best was now all =
    if is_at_least now best then now else (if option_eq nat_eq was best then greatest all else best)

-- the same of the least of all offers
abbrev pub next_least : Option ℕ → Option ℕ → Option ℕ → List (Option ℕ) → Option ℕ
next_least best was now all =
    if is_at_most now best then now else (if option_eq nat_eq was best then least all else best)
