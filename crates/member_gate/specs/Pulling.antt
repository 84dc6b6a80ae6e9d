-- What a pull of a member's reports makes of his desk and of the floor.
use Rattle.std.specs.Prelude.{◌≡◌, ◌≤◌, ℕ, ℤ, List, length, Result, OnOk, OnErr, IsOk}
use Rattle.venue_words.specs.declared.config.Config.{Config}
use Rattle.venue_words.specs.declared.refusal.NoMemory.{NoMemory}
use Rattle.venue_words.specs.declared.report.Report.{Report}
use Rattle.venue_words.specs.Floors.{FloorMark, SymbolView}
use Rattle.session_core.specs.Machine.{Outcome, IsUp}
use Rattle.session_core.specs.Runs.{send_if_up}
use Rattle.member_gate.specs.Desks.{DeskView}
use Rattle.member_gate.specs.Reporting.{messages_past, MovedOn}
use Rattle.member_gate.specs.Submitting.{Waited}

-- what the desk's session sends of these reports of each symbol: those past the cursors, where it is up
abbrev pub reports_sent : Config → ℤ → (ℕ → List Report) → DeskView → Outcome
reports_sent config moment reports desk =
    send_if_up desk.session (messages_past config desk.member desk.cursors reports) moment

-- a pull that reads these reports of each symbol, from the desk `old` and the floor `before` on
pub record IsPull {F A : Type 0} (at : F → ℕ → SymbolView) (mark_of : F → FloorMark) (config : Config) (moment : ℤ) (reports : ℕ → List Report) (result : Result A NoMemory) (old new : DeskView) (before after : F) : Type 0 where
  -- the session sent the reports, and each cursor went on to the end of its symbol's
  pub session : OnOk result (new.session ≡ (reports_sent config moment reports old).machine)
  pub cursors : OnOk result (IsUp old.session → MovedOn (length config.symbols) (λ symbol. (at after symbol).reports) old.cursors new.cursors)
  -- where the session is not up nothing happens
  pub down : (IsUp old.session → ⊥) → IsOk result × (new ≡ old) × (after ≡ before)
  -- the floor took no command, and was asked for the config's symbols alone
  pub mark : mark_of after ≡ mark_of before
  pub waited : (symbol : ℕ) → Waited (at before symbol) (at after symbol)
  pub others : (symbol : ℕ) → length config.symbols ≤ symbol → at after symbol ≡ at before symbol
  -- the rest of the desk stays, and after a refusal all of it
  pub member : new.member ≡ old.member
  pub unread : new.unread ≡ old.unread
  pub submitted : new.submitted ≡ old.submitted
  pub err : OnErr result (new ≡ old)
