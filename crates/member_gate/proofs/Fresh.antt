-- The desks of all members, before any connection.
use Rattle.std.proofs.Common.{◌≡◌, ℕ, zero, suc, ◌+◌, List, [], ◌∷◌, ◌++◌, length, map, refl, ap, sym, ◌∙◌, arith}
use Rattle.std.proofs.lemmas.List.FromFn.{map-range_with_len_more}
use Rattle.std.specs.List.{range_with_len}
use Rattle.venue_words.specs.declared.config.Config.{Config}
use Rattle.member_gate.specs.Desks.{DeskView, fresh_desk, fresh_desks, AreInOrder}

-- the desks of one member more
pub fresh_more : (config : Config) (n : ℕ) → map (fresh_desk config) (range_with_len 0 (n + 1)) ≡ map (fresh_desk config) (range_with_len 0 n) ++ fresh_desk config n ∷ []
fresh_more config n = map-range_with_len_more (fresh_desk config) 0 n n (omega arith)

numbers_from : (config : Config) (a n : ℕ) → map (λ (d : DeskView). d.member) (map (fresh_desk config) (range_with_len a n)) ≡ range_with_len a n
numbers_from config a zero = refl
numbers_from config a (suc n) = ap (λ (xs : List ℕ). a ∷ xs) (numbers_from config (a + 1) n)

many_from : (config : Config) (a n : ℕ) → length (map (fresh_desk config) (range_with_len a n)) ≡ n
many_from config a zero = refl
many_from config a (suc n) = ap suc (many_from config (a + 1) n)

pub fresh_many : (config : Config) → length (fresh_desks config) ≡ length config.members
fresh_many config = many_from config 0 (length config.members)

pub fresh_in_order : (config : Config) → AreInOrder (fresh_desks config)
fresh_in_order config = numbers_from config 0 (length config.members) ∙ ap (range_with_len 0) (sym (fresh_many config))
