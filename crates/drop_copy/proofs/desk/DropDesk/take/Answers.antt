-- A connection that has ended takes nothing more.
use Rattle.std.proofs.Common.{◌≡◌, ◌++◌, sym, ◌∙◌, ap, subst, rules}
use Rattle.fix_frames.specs.Reading.{reading_of}
use Rattle.session_core.specs.Machine.{Machine, IsOver, sending}
use Rattle.session_stream.specs.Work.{Work}
use Rattle.session_stream.specs.WorkLaws.{over_reading}
use Rattle.drop_copy.specs.Answering.{refuses}
use Rattle.drop_copy.specs.Desks.{DropView}
use Rattle.drop_copy.proofs.desk.DropDesk.take.Goals as goal

pub returns-then-is_over-clause-turn : goal.returns-then-is_over-clause-turn
returns-then-is_over-clause-turn c =
    let desk = c.args.self.now in
    let session : desk.session ≡ c.self.inside.session = ap (λ (v : DropView). v.session) (sym c.self.view_is) in
    let over : IsOver desk.session = subst (λ (m : Machine). IsOver m) (sym session) (c.is_over.ensures.0 c.if-is_over.true) in
    c.sending.ensures ∙ ap (λ (m : Machine). sending m c.new-replies.result.items) (sym session)
    ∙ ap (sending desk.session) c.new-replies.ensures.items
    ∙ ap (λ (w : Work). sending desk.session w.replies)
    (sym (over_reading (refuses c.args.moment) c.args.moment desk.session (reading_of (desk.unread ++ c.args.piece.now)) over))

pub returns-then-is_over-clause-session : goal.returns-then-is_over-clause-session
returns-then-is_over-clause-session c =
    let desk = c.args.self.now in
    let session : desk.session ≡ c.self.inside.session = ap (λ (v : DropView). v.session) (sym c.self.view_is) in
    let over : IsOver desk.session = subst (λ (m : Machine). IsOver m) (sym session) (c.is_over.ensures.0 c.if-is_over.true) in
    ap (λ (w : Work). w.session)
    (sym (over_reading (refuses c.args.moment) c.args.moment desk.session (reading_of (desk.unread ++ c.args.piece.now)) over))

pub returns-clause-gave_up : goal.returns-clause-gave_up
returns-clause-gave_up c = search rules
