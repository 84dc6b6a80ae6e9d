-- A desk's member is sent his reports past the cursors.
use Rattle.std.specs.Prelude.{◌≡◌, ℕ, ℤ, ◌++◌, Bool, List, length, Some, slice_get, slice_set}
use Rattle.venue_words.specs.declared.config.Config.{Config}
use Rattle.venue_words.specs.declared.report.Report.{Report}
use Rattle.session_core.specs.Machine.{IsUp}
use Rattle.member_gate.specs.Answering.{name_at}
use Rattle.member_gate.specs.Desks.{DeskView}
use Rattle.member_gate.specs.Pulling.{reports_sent}
use Rattle.member_gate.specs.Reporting.{asked_reports, MovedOn}
use Rattle.line_work.specs.Output.{frame_lines}

-- the desk behind that, where these symbols were asked: all cursors go on
pub record IsPulled (config : Config) (moment : ℤ) (asked : List Bool) (reports : ℕ → List Report) (before after : DeskView) : Type 0 where
  pub member : after.member ≡ before.member
  pub session : after.session ≡ (reports_sent config moment (asked_reports asked reports) before).machine
  pub unread : after.unread ≡ before.unread
  pub cursors : IsUp before.session → MovedOn (length config.symbols) reports before.cursors after.cursors
  pub down : (IsUp before.session → ⊥) → after ≡ before

-- of these desks the one of this number was pulled, and what its member was sent was appended
pub record PulledOne (config : Config) (moment : ℤ) (asked : List Bool) (reports : ℕ → List Report) (number : ℕ) (before after : List DeskView) (old new : List ℕ) : Type 0 where
  pub desk : DeskView
  pub next : DeskView
  pub found : slice_get before number ≡ Some desk
  pub own : desk.member ≡ number
  pub others : after ≡ slice_set before number next
  pub pulled : IsPulled config moment asked reports desk next
  pub text : new ≡ old ++ frame_lines (name_at config.members number) (reports_sent config moment (asked_reports asked reports) desk).turn.replies
