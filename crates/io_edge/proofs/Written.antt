-- What a writer was given of a piece, part behind part.
use Rattle.std.proofs.Common.{◌+◌, ◌-◌, ◌++◌, ℕ, List, Option, length, take, drop, sym, ap, subst, ◌∙◌, take-add}
use Rattle.std.proofs.lemmas.List.{take_rest}
use Rattle.std.specs.Io.KnownBytes.{Appends}
use Rattle.std.proofs.KnownBytes.{Appends-trans}
use Rattle.io_edge.specs.Grows.{AppendsPrefix}

-- the front of a piece, and then some of its rest
pub front_longer : (old mid new : Option (List ℕ)) (piece : List ℕ) (done n : ℕ) → Appends old mid (take done piece)
    → Appends mid new (take n (take (length piece - done) (drop done piece))) → Appends old new (take (done + n) piece)
front_longer old mid new piece done n before more =
    let joined = ap (λ (rest : List ℕ). take done piece ++ take n rest) (take_rest piece done) ∙ sym (take-add done n piece) in
    subst (Appends old new) joined (Appends-trans old mid new _ _ before more)

-- the front of a piece, and then a prefix of its rest
pub front_prefix : (old mid new : Option (List ℕ)) (piece : List ℕ) (done : ℕ) → Appends old mid (take done piece)
    → AppendsPrefix mid new (take (length piece - done) (drop done piece)) → AppendsPrefix old new piece
front_prefix old mid new piece done before more = (done + more.0, front_longer old mid new piece done more.0 before more.1)
