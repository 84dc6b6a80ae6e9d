-- A text whose first line is too long.
use Rattle.std.proofs.Common.{◌≡◌, ℕ, List, ◌∙◌, ap}
use Rattle.script_text.specs.Lines.{cut}
use Rattle.script_text.specs.LinesLaws.{cut_joined, joined}
use Rattle.line_reader.specs.NextLaws.{LongFront}

pub cut_long : (text : List ℕ) (x : LongFront text) → cut text ≡ joined x.front (cut x.behind).lines (cut x.behind).rest
cut_long text x = ap cut x.whole ∙ cut_joined x.front x.behind x.clear
