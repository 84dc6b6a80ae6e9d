-- Of which files a picture is made.
use Rattle.std.specs.Prelude.{◌≡◌, ℕ, List, Some, ⊤}
use Rattle.io_edge.specs.Files.{Files, file_named}
use Rattle.venue_words.specs.declared.config.Config.{Config}
use Rattle.audit_core.specs.Audited.{IsListing}
use Rattle.audit_chart.specs.declared.drawing.Drawn.{Drawn}
use Rattle.audit_chart.specs.declared.drawing.Drawn.TheVariants.{Picture, Differs, NoSuchSymbol}

-- what holds where a picture was made
abbrev pub IfPicture : Drawn → Type 0 → Type 0
IfPicture (Picture picture) P = P
IfPicture (Differs line expected) P = ⊤
IfPicture NoSuchSymbol P = ⊤

-- a file is a listing of a config
pub record IsListed (files : Files) (name : List ℕ) (config : Config) : Type 0 where
  pub text : List ℕ
  pub found : file_named files name ≡ Some text
  pub lists : IsListing config text
