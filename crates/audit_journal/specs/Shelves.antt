-- What a shelf says of itself, wherever its files are.
use Rattle.io_edge.specs.declared.memory.MemShelf.{MemShelf}
use Rattle.audit_journal.specs.declared.shelf.DayShelf.{DayShelf}
use Rattle.audit_journal.specs.declared.shelf.DayShelf.TheVariants.{Files, Day}

abbrev pub in_shelf : {H X : Type 0} → (H → X) → (MemShelf → X) → DayShelf H → X
in_shelf of_files of_day (Files shelf) = of_files shelf
in_shelf of_files of_day (Day shelf) = of_day shelf
