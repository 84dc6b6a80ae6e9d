-- What lies under the terms of an order.
use Rattle.std.specs.Prelude.{ℤ, Bool, Option, Some, None, if◌then◌else◌}
use Rattle.venue_words.specs.declared.terms.Packed.{Packed}
use Rattle.venue_words.specs.declared.terms.Packed.TheVariants.{Usual, Wide}
use Rattle.venue_words.specs.declared.terms.Terms.{Terms}

-- an amount where it is there
abbrev pub amount_if : Bool → ℤ → Option ℤ
amount_if there amount = if there then Some amount else None

-- the terms that are kept
abbrev pub unpacked : Packed → Terms
unpacked (Usual side kind force has_price has_minimum has_offset quantity price minimum offset method peg offset_kind moves round) =
    record {
      side = side;
      quantity = quantity;
      kind = kind;
      price = amount_if has_price price;
      force = force;
      minimum = amount_if has_minimum minimum;
      method = method;
      peg = peg;
      offset = amount_if has_offset offset;
      offset_kind = offset_kind;
      moves = moves;
      round = round;
    }
unpacked (Wide terms) = terms.value
