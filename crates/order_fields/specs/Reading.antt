-- What the fields of an order say.
use Rattle.std.specs.Prelude.{ℕ, List, Option, option_map, option_and_then, unwrap_or, ℤ, pos}
use Rattle.fix_fields.specs.declared.field.Field.{Field}
use Rattle.fix_fields.specs.Forms.{amount_of}
use Rattle.venue_words.specs.declared.terms.Terms.{Terms}
use Rattle.session_core.specs.Lookup.{value_of, number_in, single_byte}
use Rattle.order_fields.specs.declared.tags.TheConstants.{SIDE, ORDER_QTY, ORD_TYPE, PRICE, TIME_IN_FORCE, MIN_QTY, MIN_QTY_METHOD, PEG_PRICE_TYPE, PEG_OFFSET_VALUE, PEG_OFFSET_TYPE, PEG_MOVE_TYPE, PEG_ROUND_DIRECTION}

-- the code of a tag, which is one byte
unfoldable pub code_in : ℕ → List Field → Option ℕ
code_in tag fields = option_map single_byte (value_of tag fields)

-- the code of a tag that was checked to be there
abbrev pub code_or_zero : ℕ → List Field → ℕ
code_or_zero tag fields = unwrap_or (code_in tag fields) 0

-- the amount of a tag
unfoldable pub amount_in : ℕ → List Field → Option ℤ
amount_in tag fields = option_and_then amount_of (value_of tag fields)

-- the amount of a tag that was checked to be there
abbrev pub amount_or_zero : ℕ → List Field → ℤ
amount_or_zero tag fields = unwrap_or (amount_in tag fields) (pos 0)

-- the terms of an order
unfoldable pub terms_of : List Field → Terms
terms_of fields =
    record {
      side = code_or_zero SIDE fields;
      quantity = amount_or_zero ORDER_QTY fields;
      kind = code_or_zero ORD_TYPE fields;
      price = amount_in PRICE fields;
      force = code_in TIME_IN_FORCE fields;
      minimum = amount_in MIN_QTY fields;
      method = number_in MIN_QTY_METHOD fields;
      peg = number_in PEG_PRICE_TYPE fields;
      offset = amount_in PEG_OFFSET_VALUE fields;
      offset_kind = number_in PEG_OFFSET_TYPE fields;
      moves = number_in PEG_MOVE_TYPE fields;
      round = number_in PEG_ROUND_DIRECTION fields;
    }
