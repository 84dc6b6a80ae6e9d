use Rattle.std.proofs.Common.{◌≡◌, List, ℕ, Some, None, take, sym, ◌∙◌, ap, subst, inl}
use Rattle.io_edge.specs.Links.{Tells, WasPut}
use Rattle.session_core.specs.Machine.{Machine}
use Rattle.session_core.specs.State.{cause_of}
use Rattle.link_work.specs.Turns.{joined}
use Rattle.serve_core.proofs.WholeTurns.{turn_was, turn_ended}
use Rattle.serve_core.proofs.turns.put_turn.Goals as goal

pub returns-in-Err-clause-turn : goal.returns-in-Err-clause-turn
returns-in-Err-clause-turn g c mid x =
    let part = c.in-Err.ensures.bytes in
    inl (record {
      serves = x;
      size = part.0;
      put =
          subst (λ (f : List (List ℕ)). Tells (WasPut (take part.0 (joined f))) (g.K.Link.told c.args.link.now) (g.K.Link.told c.put_all.new.link))
          c.as_slice.ensures part.1;
    })

pub returns-in-Some-clause-turn : goal.returns-in-Some-clause-turn
returns-in-Some-clause-turn g c mid x =
    let put =
    subst (λ (f : List (List ℕ)). Tells (WasPut (joined f)) (g.K.Link.told c.args.link.now) (g.K.Link.told c.put_all.new.link))
    c.as_slice.ensures c.in-Ok.ensures.bytes in
    let end = c.in-Some.ensures in
    let phase : cause_of mid.connection.session.state.phase ≡ Some end.0
    = ap (λ (s : Machine). cause_of s.state.phase) (sym x.desk_is.session) ∙ sym c.requires.ended ∙ end.1 in
    turn_ended ℕ c.args.source.config.now c.args.source.moment c.args.turn.now.replies
    (λ symbol. (g.F.Floor.at c.args.floor.now symbol).reports) mid c.args.desk.now (g.K.Link.told c.args.link.now)
    (g.K.Link.told c.put_all.new.link) end.0 c.in-Some.end end.2 phase x put

pub returns-in-None-clause-turn : goal.returns-in-None-clause-turn
returns-in-None-clause-turn g c mid x =
    let put =
    subst (λ (f : List (List ℕ)). Tells (WasPut (joined f)) (g.K.Link.told c.args.link.now) (g.K.Link.told c.put_all.new.link))
    c.as_slice.ensures c.in-Ok.ensures.bytes in
    let on : cause_of mid.connection.session.state.phase ≡ None
    = ap (λ (s : Machine). cause_of s.state.phase) (sym x.desk_is.session) ∙ sym c.requires.ended ∙ c.in-None.ensures in
    turn_was c.args.source.config.now c.args.source.moment c.args.turn.now.replies
    (λ symbol. (g.F.Floor.at c.put_reports.new.floor symbol).reports) mid c.put_reports.new.desk
    (g.K.Link.told c.args.link.now) (g.K.Link.told c.put_all.new.link) (g.K.Link.told c.put_reports.new.link)
    c.put_reports.result on put (c.put_reports.ensures.reports mid x)
