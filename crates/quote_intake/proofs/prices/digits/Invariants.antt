use Rattle.std.proofs.Common.{◌≡◌, ◌<◌, ◌^◌, take, true}
use Rattle.std.specs.List.{list_all}
use Rattle.quote_intake.specs.Price.{is_digit, number_of}
use Rattle.quote_intake.proofs.prices.digits.Given as goal

-- the digits so far, and their number
abbrev pub invariant-loop-byte : goal.invariant-loop-byte
invariant-loop-byte l = (l.value ≡ number_of (take l.byte-index l.text))
    × (list_all is_digit (take l.byte-index l.text) ≡ true) × (l.value < 10 ^ l.byte-index)
