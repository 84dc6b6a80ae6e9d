-- Text on its way to a sink: what is held, and what was told.
use Rattle.std.specs.Prelude.{◌≡◌, ℕ, List, ◌++◌, Option, Result, MatchResult}
use Rattle.std.specs.Io.KnownBytes.{Appends}
use Rattle.io_edge.specs.Grows.{AppendsPrefix}

-- the sink was told the front of what was held and of this text, and the rest of it is held
pub record Hands (told_old told_new : Option (List ℕ)) (held_old held_new text : List ℕ) : Type 0 where
  pub done : List ℕ
  pub grew : Appends told_old told_new done
  pub rest : done ++ held_new ≡ held_old ++ text

-- at `Err` it was told a part of these
abbrev pub HandsOn : {T E : Type 0} → Option (List ℕ) → Option (List ℕ) → List ℕ → List ℕ → List ℕ → Result T E → Type 0
HandsOn told_old told_new held_old held_new text result =
    MatchResult result (λ _. Hands told_old told_new held_old held_new text)
    (λ _. AppendsPrefix told_old told_new (held_old ++ text))
