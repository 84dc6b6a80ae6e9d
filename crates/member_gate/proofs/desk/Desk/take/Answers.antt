-- A connection that has ended takes nothing more.
use Rattle.std.proofs.Common.{◌≡◌, refl, sym, ◌∙◌, ap, subst, length, rules}
use Rattle.session_core.specs.Machine.{Machine, IsOver, sending}
use Rattle.member_gate.specs.Answering.{Work}
use Rattle.member_gate.specs.Desks.{DeskView}
use Rattle.member_gate.specs.Submitting.{TookAll}
use Rattle.member_gate.proofs.Over.{over_piece}
use Rattle.member_gate.proofs.desk.Desk.take.Goals as goal

pub returns-then-is_over-clause-turn : goal.returns-then-is_over-clause-turn
returns-then-is_over-clause-turn g c =
    let desk = c.args.self.now in
    let session : desk.session ≡ c.self.inside.session = ap (λ (v : DeskView). v.session) (sym c.self.view_is) in
    let over : IsOver desk.session = subst (λ (m : Machine). IsOver m) (sym session) (c.is_over.ensures.0 c.if-is_over.true) in
    c.sending.ensures ∙ ap (sending c.self.inside.session) c.new.ensures.items
    ∙ ap (λ (w : Work). sending c.self.inside.session w.replies) (sym (over_piece c.args.config.now c.args.moment desk c.args.piece.now over))

pub returns-then-is_over-clause-session : goal.returns-then-is_over-clause-session
returns-then-is_over-clause-session g c =
    let desk = c.args.self.now in
    let session : desk.session ≡ c.self.inside.session = ap (λ (v : DeskView). v.session) (sym c.self.view_is) in
    let over : IsOver desk.session = subst (λ (m : Machine). IsOver m) (sym session) (c.is_over.ensures.0 c.if-is_over.true) in
    sym session ∙ ap (λ (w : Work). w.session) (sym (over_piece c.args.config.now c.args.moment desk c.args.piece.now over))

pub returns-then-is_over-clause-took : goal.returns-then-is_over-clause-took
returns-then-is_over-clause-took g c =
    let desk = c.args.self.now in
    let session : desk.session ≡ c.self.inside.session = ap (λ (v : DeskView). v.session) (sym c.self.view_is) in
    let over : IsOver desk.session = subst (λ (m : Machine). IsOver m) (sym session) (c.is_over.ensures.0 c.if-is_over.true) in
    subst (λ (w : Work). TookAll g.F.Floor.at g.F.Floor.step_limit (g.F.Floor.mark c.args.floor.now) c.args.feed c.args.moment w.submissions (c.args.floor.now, c.args.steps.now) (c.args.floor.now, c.args.steps.now))
    (sym (over_piece c.args.config.now c.args.moment desk c.args.piece.now over)) refl

pub returns-then-is_over-clause-submitted : goal.returns-then-is_over-clause-submitted
returns-then-is_over-clause-submitted g c =
    let desk = c.args.self.now in
    let session : desk.session ≡ c.self.inside.session = ap (λ (v : DeskView). v.session) (sym c.self.view_is) in
    let over : IsOver desk.session = subst (λ (m : Machine). IsOver m) (sym session) (c.is_over.ensures.0 c.if-is_over.true) in
    ap (λ (w : Work). length w.submissions) (sym (over_piece c.args.config.now c.args.moment desk c.args.piece.now over))

pub returns-then-is_over-clause-over : goal.returns-then-is_over-clause-over
returns-then-is_over-clause-over g c = search rules
