-- Names are short.
use Rattle.std.proofs.Common.{◌≡◌, ◌≤◌, ℕ, zero, suc, List, [], ◌∷◌, length, subst}
use Rattle.std.specs.Prelude.{Some, slice_get}
use Rattle.std.specs.List.{AllByRecursion}
use Rattle.std.proofs.Common.{All}
use Rattle.std.proofs.lemmas.List.Elements.{All-nil, All-cons}
use Rattle.venue_words.specs.declared.config.Config.{Config}
use Rattle.venue_words.specs.Conditions.{IsConfig}

at_name : (names : List (List ℕ)) (member : ℕ) (name : List ℕ) → AllByRecursion (λ (n : List ℕ). (1 ≤ length n) × (length n ≤ 16)) names
    → slice_get names member ≡ Some name → length name ≤ 16
at_name [] member name all is = absurd (cc)
at_name (n ∷ names) zero name all is = let e : n ≡ name = cc in subst (λ (x : List ℕ). length x ≤ 16) e all.0.1
at_name (n ∷ names) (suc member) name all is = at_name names member name all.1 is

pub name_short : (config : Config) (member : ℕ) (name : List ℕ) → IsConfig config → slice_get config.members member ≡ Some name → length name ≤ 16
name_short config member name is at = at_name config.members member name is.members.lengths at

pub symbol_short : (config : Config) (symbol : ℕ) (name : List ℕ) → IsConfig config → slice_get config.symbols symbol ≡ Some name → length name ≤ 16
symbol_short config symbol name is at = at_name config.symbols symbol name is.symbols.lengths at

pub market_short : (config : Config) (market : ℕ) (name : List ℕ) → IsConfig config → slice_get config.markets market ≡ Some name → length name ≤ 16
market_short config market name is at = at_name config.markets market name is.markets.lengths at

all_short : (names : List (List ℕ)) → AllByRecursion (λ (n : List ℕ). (1 ≤ length n) × (length n ≤ 16)) names → All (λ (n : List ℕ). length n ≤ 16) names
all_short [] all = All-nil (λ (n : List ℕ). length n ≤ 16)
all_short (n ∷ names) all = All-cons (λ (n : List ℕ). length n ≤ 16) n names all.0.1 (all_short names all.1)

pub markets_short : (config : Config) → IsConfig config → All (λ (n : List ℕ). length n ≤ 16) config.markets
markets_short config is = all_short config.markets is.markets.lengths
