-- What lies under the row with which an order entered.
use Rattle.std.specs.Prelude.{Option, Some, None}
use Rattle.venue_words.specs.declared.row.Row.{Row}
use Rattle.symbol_book.specs.declared.entered_row.Packed.{Packed}
use Rattle.symbol_book.specs.declared.entered_row.Packed.TheVariants.{Gone, Entered}

-- the row that is kept, if there is one
abbrev pub unpacked : Packed → Option Row
unpacked Gone = None
unpacked (Entered side reference rounding method traded grid offset order member cap entry leaves minimum) =
    Some (record {
      order = order;
      member = member;
      key = record { offset = offset; grid = grid; side = side; reference = reference; rounding = rounding };
      cap = cap;
      entry = entry;
      leaves = leaves;
      minimum = minimum;
      method = method;
      traded = traded;
    })
