use Rattle.std.proofs.Common.{◌≡◌, ℕ, ℤ, List, sym, ◌∙◌, ap, subst, refl, w64, to_z, of_z, rules}
use Rattle.venue_words.specs.declared.report.Report.{Report}
use Rattle.io_edge.specs.Links.Answer.{quiet}
use Rattle.session_core.specs.declared.turn.Turn.{Turn}
use Rattle.session_core.specs.Machine.{Machine, IsUp, on_clock}
use Rattle.member_gate.specs.Desks.{DeskView}
use Rattle.line_work.proofs.DeskWork.{desk_ticked}
use Rattle.link_work.specs.Turns.{LinkTurn}
use Rattle.serve_core.specs.Rounds.{Serves, heard}
use Rattle.serve_core.proofs.Grows.{grew_same}
use Rattle.serve_core.proofs.WholeTurns.{took_turn, stopped_behind, tick_cut}
use Rattle.serve_core.proofs.turns.on_quiet.Goals as goal

pub returns-in-Ok-put_turn-clause-took : goal.returns-in-Ok-put_turn-clause-took
returns-in-Ok-put_turn-clause-took g c before x =
    let e : to_z w64 (of_z w64 c.args.source.moment) ≡ c.args.source.moment = search rules in
    let moment = c.args.source.moment in
    let turn : LinkTurn = record { answer = quiet; moment = moment } in
    let config = c.args.source.config.now in
    let desk = c.args.desk.now in
    let is : c.tick.new.self ≡ record desk { session = (on_clock desk.session moment).machine }
    = c.in-Ok.ensures.session ∙ ap (λ (m : ℤ). record desk { session = (on_clock desk.session m).machine }) e in
    let ticked : Serves (record desk { session = (on_clock desk.session moment).machine }) (heard config turn before)
    = record { desk_is = desk_ticked desk before.connection moment x.desk_is; cursors_are = x.cursors_are } in
    let serves = subst (λ (d : DeskView). Serves d (heard config turn before)) (sym is) ticked in
    let replies : c.in-Ok.turn.replies ≡ (on_clock before.connection.session moment).turn.replies
    = ap (λ (t : Turn). t.replies) c.in-Ok.ensures.turn ∙ ap (λ (m : ℤ). (on_clock desk.session m).turn.replies) e
    ∙ ap (λ (s : Machine). (on_clock s moment).turn.replies) x.desk_is.session in
    let looked : ℕ → List Report = λ symbol. (g.F.Floor.at c.put_turn.new.floor symbol).reports in
    took_turn g.F.Floor.at config c.args.source.feed turn before c.put_turn.new.desk c.args.floor.now c.args.floor.now
    c.put_turn.new.floor (g.K.Link.told c.args.link.now) (g.K.Link.told c.put_turn.new.link) c.in-Ok.turn.replies replies
    (λ symbol. grew_same c.args.source.feed (g.F.Floor.at c.args.floor.now symbol) (g.F.Floor.at c.args.floor.now symbol) refl)
    c.in-Ok-put_turn.ensures.waited
    (λ up. c.in-Ok-put_turn.ensures.turns (subst (λ (s : Machine). IsUp s) (sym serves.desk_is.session) up))
    (c.in-Ok-put_turn.ensures.turn (heard config turn before) serves)

pub returns-in-Ok-clause-stopped : goal.returns-in-Ok-clause-stopped
returns-in-Ok-clause-stopped g c before x =
    let e : to_z w64 (of_z w64 c.args.source.moment) ≡ c.args.source.moment = search rules in
    let moment = c.args.source.moment in
    let turn : LinkTurn = record { answer = quiet; moment = moment } in
    let config = c.args.source.config.now in
    let desk = c.args.desk.now in
    let is : c.tick.new.self ≡ record desk { session = (on_clock desk.session moment).machine }
    = c.in-Ok.ensures.session ∙ ap (λ (m : ℤ). record desk { session = (on_clock desk.session m).machine }) e in
    let ticked : Serves (record desk { session = (on_clock desk.session moment).machine }) (heard config turn before)
    = record { desk_is = desk_ticked desk before.connection moment x.desk_is; cursors_are = x.cursors_are } in
    let serves = subst (λ (d : DeskView). Serves d (heard config turn before)) (sym is) ticked in
    let replies : c.in-Ok.turn.replies ≡ (on_clock before.connection.session moment).turn.replies
    = ap (λ (t : Turn). t.replies) c.in-Ok.ensures.turn ∙ ap (λ (m : ℤ). (on_clock desk.session m).turn.replies) e
    ∙ ap (λ (s : Machine). (on_clock s moment).turn.replies) x.desk_is.session in
    let looked : ℕ → List Report = λ symbol. (g.F.Floor.at c.put_turn.new.floor symbol).reports in
    stopped_behind ℕ g.F.Floor.at (g.F.Floor.mark c.args.floor.now) config c.args.source.feed turn before c.in-Err-put_turn.end
    c.put_turn.new.desk c.args.floor.now c.args.floor.now c.put_turn.new.floor (g.K.Link.told c.args.link.now)
    (g.K.Link.told c.put_turn.new.link) c.in-Ok.turn.replies replies
    (λ symbol. grew_same c.args.source.feed (g.F.Floor.at c.args.floor.now symbol) (g.F.Floor.at c.args.floor.now symbol) refl)
    c.in-Err-put_turn.ensures.waited (c.in-Err-put_turn.ensures.turn (heard config turn before) serves)

pub returns-clause-stopped : goal.returns-clause-stopped
returns-clause-stopped g c before x =
    tick_cut g.F.Floor.at (g.F.Floor.mark c.args.floor.now) c.args.source.config.now c.args.source.feed c.args.source.moment before
    c.args.desk.now c.tick.new.self c.args.floor.now (g.K.Link.told c.args.link.now) x c.in-Err.ensures.err
