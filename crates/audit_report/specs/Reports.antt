-- A day whose listing was verified, as a page.
use Rattle.std.specs.Prelude.{◌≡◌, List, ℕ, Some}
use Rattle.io_edge.specs.Files.{Files, file_named}
use Rattle.venue_words.specs.declared.config.Config.{Config}
use Rattle.audit_core.specs.Audited.{HasConfig}
use Rattle.audit_core.specs.Telling.{Lists}
use Rattle.audit_report.specs.Sections.{report_telling}
use Rattle.audit_report.specs.Weaving.{IsWoven}

-- one file says a config, and another lists journals of it, of which the page tells
pub record IsReport (files : Files) (config listing page : List ℕ) : Type 0 where
  pub of : Config
  pub says : HasConfig files config of
  pub text : List ℕ
  pub found : file_named files listing ≡ Some text
  pub told : List ℕ
  pub lists : Lists report_telling of text told
  pub woven : IsWoven told page
