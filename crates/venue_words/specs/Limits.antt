-- The venue's CompID as a list of bytes.
use Rattle.std.specs.Prelude.{ℕ, List, codes}

abbrev pub venue : List ℕ
venue = codes "PEGV"
