-- How far a member's cursors have gone on over a connection.
use Rattle.std.specs.Prelude.{◌≡◌, ◌≤◌, ◌<◌, ℕ, List, length, max}
use Rattle.venue_words.specs.declared.config.Config.{Config}
use Rattle.venue_words.specs.declared.report.Report.{Report}
use Rattle.session_core.specs.Machine.{IsUp}
use Rattle.member_gate.specs.Reporting.{cursor_at, MovedOn}
use Rattle.serve_core.specs.Rounds.{Served}

-- the cursors have gone on from these, and none beyond the end of its symbol's reports; those of a session that is up have gone on
-- to the end
pub record HasCaught (config : Config) (reports : ℕ → List Report) (entry : List ℕ) (served : Served) : Type 0 where
  pub least : (symbol : ℕ) → symbol < length config.symbols → cursor_at entry symbol ≤ cursor_at served.cursors symbol
  pub most : (symbol : ℕ) → symbol < length config.symbols
      → cursor_at served.cursors symbol ≤ max (cursor_at entry symbol) (length (reports symbol))
  pub rest : (symbol : ℕ) → length config.symbols ≤ symbol → cursor_at served.cursors symbol ≡ cursor_at entry symbol
  pub up : IsUp served.connection.session → MovedOn (length config.symbols) reports entry served.cursors
