-- The text of a refusal.
use Rattle.std.specs.Prelude.{ℕ, List, ◌++◌, codes, decimal}
use Rattle.member_gate.specs.declared.refusal.DeskRefusal.{DeskRefusal}
use Rattle.member_gate.specs.declared.refusal.DeskRefusal.TheVariants.{Full, NoMemory}

-- why a piece was not worked to its end
abbrev pub refusal_text : DeskRefusal → List ℕ
refusal_text (Full symbol found) =
    codes "symbol " ++ (decimal symbol ++ (codes " is full at " ++ (decimal found ++ codes " events")))
refusal_text NoMemory = codes "out of memory"
