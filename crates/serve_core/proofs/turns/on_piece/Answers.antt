use Rattle.std.proofs.Common.{◌≡◌, ℕ, List, Option, Err, sym, ◌∙◌, subst, rules}
use Rattle.venue_words.specs.declared.report.Report.{Report}
use Rattle.io_edge.specs.Links.{Told}
use Rattle.io_edge.specs.Links.Answer.{piece}
use Rattle.session_core.specs.Machine.{Machine, IsUp}
use Rattle.link_work.specs.declared.ends.LinkEnd.{LinkEnd}
use Rattle.link_work.specs.Ends.{refused}
use Rattle.link_work.specs.Turns.{LinkTurn}
use Rattle.serve_core.specs.Rounds.{heard}
use Rattle.serve_core.specs.Turning.{PutTurn, StoppedTurn, TurnWas}
use Rattle.serve_core.proofs.WholeTurns.{took_turn, stopped_behind, cut_turn}
use Rattle.serve_core.proofs.turns.on_piece.Goals as goal

pub returns-in-Ok-put_turn-clause-took : goal.returns-in-Ok-put_turn-clause-took
returns-in-Ok-put_turn-clause-took g c before x =
    let turn : LinkTurn = record { answer = piece c.args.piece.now; moment = c.args.source.moment } in
    let config = c.args.source.config.now in
    let serves = c.in-Ok.ensures.serves before x in
    let looked : ℕ → List Report = λ symbol. (g.F.Floor.at c.put_turn.new.floor symbol).reports in
    let was = c.in-Ok-put_turn.ensures.turn (heard config turn before) serves in
    took_turn g.F.Floor.at config c.args.source.feed turn before c.put_turn.new.desk c.args.floor.now
    c.take_counted-taken.new.floor c.put_turn.new.floor (g.K.Link.told c.args.link.now) (g.K.Link.told c.put_turn.new.link)
    c.in-Ok.turn.replies (c.in-Ok.ensures.replies before x) (c.in-Ok.ensures.grew before x) c.in-Ok-put_turn.ensures.waited
    (λ up. c.in-Ok-put_turn.ensures.turns (subst (λ (s : Machine). IsUp s) (sym serves.desk_is.session) up))
    (subst (λ (t : Option Told). PutTurn config turn.moment c.in-Ok.turn.replies looked (heard config turn before) c.put_turn.new.desk t (g.K.Link.told c.put_turn.new.link))
    c.ring_for.ensures.told was)

pub returns-in-Ok-clause-stopped : goal.returns-in-Ok-clause-stopped
returns-in-Ok-clause-stopped g c before x =
    let turn : LinkTurn = record { answer = piece c.args.piece.now; moment = c.args.source.moment } in
    let config = c.args.source.config.now in
    let serves = c.in-Ok.ensures.serves before x in
    let looked : ℕ → List Report = λ symbol. (g.F.Floor.at c.put_turn.new.floor symbol).reports in
    let was = c.in-Err-put_turn.ensures.turn (heard config turn before) serves in
    stopped_behind ℕ g.F.Floor.at (g.F.Floor.mark c.args.floor.now) config c.args.source.feed turn before c.in-Err-put_turn.end
    c.put_turn.new.desk c.args.floor.now c.take_counted-taken.new.floor c.put_turn.new.floor (g.K.Link.told c.args.link.now)
    (g.K.Link.told c.put_turn.new.link) c.in-Ok.turn.replies (c.in-Ok.ensures.replies before x) (c.in-Ok.ensures.grew before x)
    c.in-Err-put_turn.ensures.waited
    (subst (λ (t : Option Told). TurnWas {T = ℕ} config turn.moment c.in-Ok.turn.replies looked (heard config turn before) c.put_turn.new.desk t (g.K.Link.told c.put_turn.new.link) (Err c.in-Err-put_turn.end))
    c.ring_for.ensures.told was)

pub returns-clause-stopped : goal.returns-clause-stopped
returns-clause-stopped g c before x =
    let turn : LinkTurn = record { answer = piece c.args.piece.now; moment = c.args.source.moment } in
    let config = c.args.source.config.now in
    let e : c.from.result ≡ refused c.in-Err.refusal = search rules in
    subst (λ (end : LinkEnd). StoppedTurn g.F.Floor.at (g.F.Floor.mark c.args.floor.now) config c.args.source.feed turn before end
    c.take_counted-taken.new.desk c.args.floor.now c.take_counted-taken.new.floor (g.K.Link.told c.args.link.now) (g.K.Link.told c.ring_for.new.link))
    (sym e)
    (cut_turn g.F.Floor.at (g.F.Floor.mark c.args.floor.now) config c.args.source.feed c.args.source.moment c.args.piece.now before
    c.in-Err.refusal c.take_counted-taken.new.desk c.args.floor.now c.take_counted-taken.new.floor (g.K.Link.told c.args.link.now)
    (g.K.Link.told c.ring_for.new.link) c.ring_for.ensures.told (c.in-Err.ensures.member ∙ x.desk_is.number)
    (c.in-Err.ensures.cursors ∙ x.cursors_are) (c.in-Err.ensures.refused before x))
