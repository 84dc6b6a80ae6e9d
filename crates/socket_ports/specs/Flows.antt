-- What a port gave and took.
use Rattle.std.specs.Prelude.{ℕ, List, [], refl}
use Rattle.std.specs.Coded.{Coded, code_by, coded×, coded_ℕ, coded_list}

-- all bytes that a connection has given, and all that it has taken
pub record Moved : Type 0 where
  pub came : List ℕ
  pub went : List ℕ

-- none yet
abbrev pub unused : Moved
unused = record { came = []; went = [] }

-- both lists, as the logic stores them
abbrev pub moved_code : Coded Moved
moved_code =
    code_by (List ℕ × List ℕ) (coded× (coded_list coded_ℕ) (coded_list coded_ℕ))
    (λ m. (m.came, m.went)) (λ p. record { came = p.0; went = p.1 }) (λ _. refl)
