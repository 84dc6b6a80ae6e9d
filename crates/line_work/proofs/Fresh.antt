-- The desks and connections before any connection.
use Rattle.std.proofs.Common.{◌≡◌, ℕ, zero, suc, ◌+◌, List, ◌∷◌, length, map, refl, ap, inr}
use Rattle.std.specs.List.{AllZip, range_with_len}
use Rattle.venue_words.specs.declared.config.Config.{Config}
use Rattle.member_gate.specs.Desks.{DeskView, fresh_desk, fresh_desks}
use Rattle.line_work.specs.FeedState.{new_connection, before_lines}
use Rattle.line_work.specs.Standing.{AreDesks, IsDeskOf, StandsFor, fresh_worker}
use Rattle.line_work.proofs.DeskWork.{nothing_read}

numbers_from : (config : Config) (a n : ℕ)
    → map (λ (d : DeskView). d.member) (map (fresh_desk config) (range_with_len a n)) ≡ range_with_len a n
numbers_from config a zero = refl
numbers_from config a (suc n) = ap (λ (xs : List ℕ). a ∷ xs) (numbers_from config (a + 1) n)

pub fresh_numbers : (config : Config) → AreDesks config (fresh_desks config)
fresh_numbers config = numbers_from config 0 (length config.members)

zip_from : (config : Config) (a n : ℕ)
    → AllZip IsDeskOf (map (fresh_desk config) (range_with_len a n)) (map (new_connection config) (range_with_len a n))
zip_from config a zero = tt
zip_from config a (suc n) = (record { number = refl; session = refl; stream = inr nothing_read }, zip_from config (a + 1) n)

pub stands_first : (config : Config) → StandsFor (fresh_worker config) (before_lines config)
stands_first config = record { config = refl; moment = refl; desks = zip_from config 0 (length config.members) }
