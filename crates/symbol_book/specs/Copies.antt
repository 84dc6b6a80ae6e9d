-- The ids that a command takes with it.
use Rattle.std.specs.Prelude.{Option, Some, None, []}
use Rattle.std.specs.Global.{Box}
use Rattle.symbol_book.specs.declared.room.CommandIds.{CommandIds}

-- those of a quote are empty
abbrev pub ids_in : Option (Box CommandIds) → CommandIds
ids_in None =
    record {
      own = record { member = 0; id = [] };
      copies = record { member = 0; order = []; shown = []; orig = record { member = 0; id = [] } };
    }
ids_in (Some ids) = ids.value
