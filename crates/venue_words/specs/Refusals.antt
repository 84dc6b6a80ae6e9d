-- The texts of refusals.
use Rattle.std.specs.Prelude.{ℕ, List, ◌++◌, codes, decimal}
use Rattle.venue_words.specs.declared.refusal.FloorRefusal.{FloorRefusal}
use Rattle.venue_words.specs.declared.refusal.FloorRefusal.TheVariants.{Full, NoMemory}

-- why a command was not recorded
abbrev pub refusal_text : FloorRefusal → List ℕ
refusal_text (Full found) = codes "full at " ++ decimal found ++ codes " events"
refusal_text NoMemory = codes "out of memory"
