use Rattle.std.proofs.Common.{◌≡◌, ℕ, ℤ, List, take, refl, sym, ◌∙◌, ap, subst, w64, to_z, of_z, rules}
use Rattle.venue_words.specs.declared.report.Report.{Report}
use Rattle.io_edge.specs.Links.{Tells, WasPut}
use Rattle.session_core.specs.Machine.{Outcome}
use Rattle.session_core.specs.Runs.{send_if_up}
use Rattle.member_gate.specs.Desks.{DeskView}
use Rattle.member_gate.specs.Reporting.{messages_past}
use Rattle.link_work.specs.Turns.{joined}
use Rattle.serve_core.specs.Rounds.{Serves, sent_to}
use Rattle.serve_core.proofs.Reports.{Pulled, behind, same_sent, is_sent, serves_on}
use Rattle.serve_core.proofs.turns.put_reports.Goals as goal

pub returns-in-Ok-put_all-clause-reports : goal.returns-in-Ok-put_all-clause-reports
returns-in-Ok-put_all-clause-reports g c before x =
    let e : to_z w64 (of_z w64 c.args.source.moment) ≡ c.args.source.moment = search rules in
    let config = c.args.source.config.now in
    let moment = c.args.source.moment in
    let looked : ℕ → List Report = λ symbol. (g.F.Floor.at c.pull.new.floor symbol).reports in
    let desk = c.args.desk.now in
    let sent : ℤ → Outcome = λ m. send_if_up desk.session (messages_past config desk.member desk.cursors looked) m in
    let same : sent moment ≡ sent_to config moment before looked = same_sent config moment looked desk before x in
    let pulled : Pulled config looked desk c.pull.new.self (sent_to config moment before looked) = record {
      session = c.in-Ok.ensures.pulled.session ∙ ap (λ (m : ℤ). (sent m).machine) e ∙ ap (λ (o : Outcome). o.machine) same;
      cursors = c.in-Ok.ensures.pulled.cursors;
      down = λ d. (c.in-Ok.ensures.pulled.down d).1;
      member = c.in-Ok.ensures.pulled.member;
      unread = c.in-Ok.ensures.pulled.unread;
    } in
    let frames = c.as_slice.ensures.value ∙ c.in-Ok.ensures.frames ∙ ap (λ (m : ℤ). (sent m).turn.replies) e
    ∙ ap (λ (o : Outcome). o.turn.replies) same in record {
      after = behind before c.pull.new.self;
      sent = is_sent config moment looked desk c.pull.new.self before x pulled;
      serves = serves_on config moment looked desk c.pull.new.self before x pulled;
      put =
          subst (λ (f : List (List ℕ)). Tells (WasPut (joined f)) (g.K.Link.told c.args.link.now) (g.K.Link.told c.put_all.new.link))
          frames c.in-Ok-put_all.ensures.bytes;
    }

pub returns-in-Err-clause-reports : goal.returns-in-Err-clause-reports
returns-in-Err-clause-reports g c before x =
    (subst (λ (d : DeskView). Serves d before) (sym c.in-Err.ensures.pulled.err) x, refl)

pub returns-clause-reports : goal.returns-clause-reports
returns-clause-reports g c before x =
    let e : to_z w64 (of_z w64 c.args.source.moment) ≡ c.args.source.moment = search rules in
    let config = c.args.source.config.now in
    let moment = c.args.source.moment in
    let looked : ℕ → List Report = λ symbol. (g.F.Floor.at c.pull.new.floor symbol).reports in
    let desk = c.args.desk.now in
    let sent : ℤ → Outcome = λ m. send_if_up desk.session (messages_past config desk.member desk.cursors looked) m in
    let same : sent moment ≡ sent_to config moment before looked = same_sent config moment looked desk before x in
    let pulled : Pulled config looked desk c.pull.new.self (sent_to config moment before looked) = record {
      session = c.in-Ok.ensures.pulled.session ∙ ap (λ (m : ℤ). (sent m).machine) e ∙ ap (λ (o : Outcome). o.machine) same;
      cursors = c.in-Ok.ensures.pulled.cursors;
      down = λ d. (c.in-Ok.ensures.pulled.down d).1;
      member = c.in-Ok.ensures.pulled.member;
      unread = c.in-Ok.ensures.pulled.unread;
    } in
    let frames = c.as_slice.ensures.value ∙ c.in-Ok.ensures.frames ∙ ap (λ (m : ℤ). (sent m).turn.replies) e
    ∙ ap (λ (o : Outcome). o.turn.replies) same in
    let part = c.in-Err-put_all.ensures.bytes in record {
      after = behind before c.pull.new.self;
      sent = is_sent config moment looked desk c.pull.new.self before x pulled;
      serves = serves_on config moment looked desk c.pull.new.self before x pulled;
      size = part.0;
      put =
          subst (λ (f : List (List ℕ)). Tells (WasPut (take part.0 (joined f))) (g.K.Link.told c.args.link.now) (g.K.Link.told c.put_all.new.link))
          frames part.1;
    }
