-- A session that is up is sent what was looked up.
use Rattle.std.proofs.Common.{◌≡◌, ℕ, List, sym, ap, refl, subst, w64, to_z, of_z, length, rules}
use Rattle.venue_words.specs.declared.config.Config.{Config}
use Rattle.venue_words.specs.declared.report.Report.{Report}
use Rattle.session_core.specs.declared.message.Message.{Message}
use Rattle.session_core.specs.Runs.{send_if_up}
use Rattle.drop_copy.specs.Copies.{copies_past}
use Rattle.drop_copy.specs.Desks.{DropView}
use Rattle.drop_copy.specs.Looks.{AllWentOn}
use Rattle.member_gate.proofs.Pulling.{sent_replies, sent_machine}
use Rattle.drop_copy.proofs.desk.DropDesk.pull.Goals as goal

-- what was looked up, by the desk's own cursors
same_past : (config : Config) (reports : ℕ → List Report) (messages : List Message) (members cursors moved members' cursors' moved' : List ℕ) → messages ≡ copies_past config members cursors moved reports
    → members ≡ members' → cursors ≡ cursors' → moved' ≡ moved → messages ≡ copies_past config members' cursors' moved' reports
same_past config reports messages members cursors moved members' cursors' moved' m a b d = rw (← a, ← b, d) m

pub returns-clause-frames : goal.returns-clause-frames
returns-clause-frames g c =
    let config = c.args.config.now in
    let reports = λ (symbol : ℕ). (g.F.Floor.at c.look_at_all.new.floor symbol).reports in
    let inside = c.self.inside in
    let moment : to_z w64 (of_z w64 c.args.moment) ≡ c.args.moment = search rules in
    let messages = same_past config reports c.look_at_all.new.messages c.deref.result.now c.deref-2.result.now c.look_at_all.new.moved.items inside.members.items inside.cursors.items c.swap.new.x.items
    c.in_ok-look_at_all.ensures.messages c.deref.ensures.value c.deref-2.ensures.value (ap (λ (v : _). v.items) c.swap.ensures.x_after) in
    subst (λ (d : DropView). c.in_ok-frames.frames.items ≡ (send_if_up d.session (copies_past config d.members d.cursors c.swap.new.x.items reports) c.args.moment).turn.replies) c.self.view_is
    (sent_replies inside.session _ _ c.args.moment _ _ (c.if-not-is_up.ensures.0 refl) moment messages c.in_ok-frames.ensures.replies)

pub returns-clause-session : goal.returns-clause-session
returns-clause-session g c =
    let config = c.args.config.now in
    let reports = λ (symbol : ℕ). (g.F.Floor.at c.look_at_all.new.floor symbol).reports in
    let inside = c.self.inside in
    let moment : to_z w64 (of_z w64 c.args.moment) ≡ c.args.moment = search rules in
    let messages = same_past config reports c.look_at_all.new.messages c.deref.result.now c.deref-2.result.now c.look_at_all.new.moved.items inside.members.items inside.cursors.items c.swap.new.x.items
    c.in_ok-look_at_all.ensures.messages c.deref.ensures.value c.deref-2.ensures.value (ap (λ (v : _). v.items) c.swap.ensures.x_after) in
    subst (λ (d : DropView). c.send_all.new.self ≡ (send_if_up d.session (copies_past config d.members d.cursors c.swap.new.x.items reports) c.args.moment).machine) c.self.view_is
    (sent_machine inside.session _ _ c.args.moment _ _ (c.if-not-is_up.ensures.0 refl) moment messages c.in_ok-frames.ensures.machine)

pub returns-clause-cursors : goal.returns-clause-cursors
returns-clause-cursors g c = λ up.
    let at = g.F.Floor.at in
    let made = g.F.Floor.reports_in (g.F.Floor.mark c.args.floor.now) in
    let count = length c.args.config.now.symbols in
    let before = c.args.floor.now in
    let after = c.look_at_all.new.floor in
    subst (λ (d : DropView). AllWentOn at made count d.members d.cursors c.swap.new.x.items before after) c.self.view_is
    (subst (λ (members : List ℕ). AllWentOn at made count members c.self.inside.cursors.items c.swap.new.x.items before after) c.deref.ensures.value
    (subst (λ (cursors : List ℕ). AllWentOn at made count c.deref.result.now cursors c.swap.new.x.items before after) c.deref-2.ensures.value
    (subst (λ (v : _). AllWentOn at made count c.deref.result.now c.deref-2.result.now v.items before after) (sym c.swap.ensures.x_after) c.in_ok-look_at_all.ensures.moved)))
