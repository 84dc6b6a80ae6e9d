-- The spelling of a field.
use Rattle.std.specs.Prelude.{ℕ, List, [], ◌∷◌, ◌++◌, codes, decimal}
use Rattle.venue_words.specs.declared.limits.TheConstants.{SOH}

-- the tag, `=`, the value and SOH
unfoldable pub field : ℕ → List ℕ → List ℕ
field tag value = decimal tag ++ codes "=" ++ value ++ SOH ∷ []
