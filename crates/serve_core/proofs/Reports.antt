-- What a desk sends of the member's reports, as that of the member whom it serves.
use Rattle.std.proofs.Common.{◌≡◌, ℕ, ℤ, List, length, refl, sym, ◌∙◌, ap, subst, inl, inr}
use Rattle.venue_words.specs.declared.config.Config.{Config}
use Rattle.venue_words.specs.declared.report.Report.{Report}
use Rattle.session_core.specs.Machine.{Machine, Outcome, IsUp, IsOver}
use Rattle.session_core.specs.Runs.{send_if_up}
use Rattle.member_gate.specs.Desks.{DeskView}
use Rattle.member_gate.specs.Reporting.{messages_past, MovedOn}
use Rattle.member_gate.specs.Working.{AreUnread}
use Rattle.line_work.specs.OverLaws.{send_over}
use Rattle.serve_core.specs.Rounds.{Served, Serves, IsSent, sent_to}

pub same_sent : (config : Config) (moment : ℤ) (looked : ℕ → List Report) (desk : DeskView) (before : Served) → Serves desk before
    → send_if_up desk.session (messages_past config desk.member desk.cursors looked) moment ≡ sent_to config moment before looked
same_sent config moment looked desk before x = rw (x.desk_is.session, x.desk_is.number, x.cursors_are) refl

-- a session that is over stays so
stays_over : (config : Config) (moment : ℤ) (looked : ℕ → List Report) (before : Served) → IsOver before.connection.session
    → IsOver (sent_to config moment before looked).machine
stays_over config moment looked before over =
    subst (λ (o : Outcome). IsOver o.machine) (sym (send_over before.connection.session
    (messages_past config before.connection.number before.cursors looked) moment over)) over

-- the desk behind a pull
pub record Pulled (config : Config) (looked : ℕ → List Report) (desk desk' : DeskView) (outcome : Outcome) : Type 0 where
  pub session : desk'.session ≡ outcome.machine
  pub cursors : IsUp desk.session → MovedOn (length config.symbols) looked desk.cursors desk'.cursors
  pub down : (IsUp desk.session → ⊥) → desk' ≡ desk
  pub member : desk'.member ≡ desk.member
  pub unread : desk'.unread ≡ desk.unread

abbrev pub behind : Served → DeskView → Served
behind before desk' = record {
  connection = record before.connection { session = desk'.session };
  cursors = desk'.cursors;
}

pub is_sent : (config : Config) (moment : ℤ) (looked : ℕ → List Report) (desk desk' : DeskView) (before : Served) → Serves desk before
    → Pulled config looked desk desk' (sent_to config moment before looked) → IsSent config moment looked before (behind before desk')
is_sent config moment looked desk desk' before x p = record {
  connection = ap (λ (s : Machine). record before.connection { session = s }) p.session;
  cursors = λ up. subst (λ (cs : List ℕ). MovedOn (length config.symbols) looked cs desk'.cursors) x.cursors_are
      (p.cursors (subst (λ (s : Machine). IsUp s) (sym x.desk_is.session) up));
  still = λ down. ap (λ (d : DeskView). d.cursors) (p.down (λ up. down (subst (λ (s : Machine). IsUp s) x.desk_is.session up)))
      ∙ x.cursors_are;
}

pub serves_on : (config : Config) (moment : ℤ) (looked : ℕ → List Report) (desk desk' : DeskView) (before : Served) → Serves desk before
    → Pulled config looked desk desk' (sent_to config moment before looked) → Serves desk' (behind before desk')
serves_on config moment looked desk desk' before x p = record {
  desk_is = record {
    number = p.member ∙ x.desk_is.number;
    session = refl;
    stream = elim x.desk_is.stream [
      | inl over ↦ inl (subst (λ (s : Machine). IsOver s) (sym p.session) (stays_over config moment looked before over))
      | inr unread ↦ inr (subst (λ (u : List ℕ). AreUnread before.connection.stream u) (sym p.unread) unread)
    ];
  };
  cursors_are = refl;
}
