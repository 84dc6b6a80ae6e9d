-- How the quotes of a quiet market are taken away.
use Rattle.std.specs.Prelude.{◌≡◌, ℕ, Bool, true, List, Some, slice_get, Contains}
use Rattle.venue_words.specs.declared.config.Config.{Config}
use Rattle.live_words.specs.declared.markets.Market.{Market}
use Rattle.live_words.specs.Lines.{empty_line}
use Rattle.live_words.specs.Markets.{stands, is_quiet}

-- one of these lines leaves a market's quote of a symbol without prices
abbrev pub IsEmptied : Config → ℕ → ℕ → List (List ℕ) → Type 0
IsEmptied config market symbol lines =
    (m s : List ℕ) → slice_get config.markets market ≡ Some m → slice_get config.symbols symbol ≡ Some s → Contains lines (empty_line s m)

-- each quote of a market that stands is left without prices by one of these lines
abbrev pub AreRowsEmptied : Config → ℕ → List Bool → List (List ℕ) → Type 0
AreRowsEmptied config market rows lines = (symbol : ℕ) → stands rows symbol ≡ true → IsEmptied config market symbol lines

-- each quote that stands of a market that is quiet is left without prices by one of these lines
abbrev pub AreStaleEmptied : Config → List Market → ℕ → ℕ → List (List ℕ) → Type 0
AreStaleEmptied config markets now limit lines =
    (market : ℕ) (m : Market) → slice_get markets market ≡ Some m → is_quiet m.heard now limit ≡ true → AreRowsEmptied config market m.rows.items lines

-- the lines that were there are there still
abbrev pub AreKept : List (List ℕ) → List (List ℕ) → Type 0
AreKept old new = (line : List ℕ) → Contains old line → Contains new line
