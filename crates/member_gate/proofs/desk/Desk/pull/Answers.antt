-- A session that is up is sent what was looked up.
use Rattle.std.proofs.Common.{◌≡◌, ◌∙◌, ℕ, List, sym, ap, subst, refl, w64, to_z, of_z, length, rules}
use Rattle.session_core.specs.Machine.{IsUp}
use Rattle.session_core.specs.Runs.{send_if_up}
use Rattle.member_gate.specs.Desks.{DeskView}
use Rattle.member_gate.specs.Reporting.{messages_past, MovedOn}
use Rattle.member_gate.proofs.Pulling.{sent_replies, sent_machine}
use Rattle.member_gate.proofs.desk.Desk.pull.Goals as goal

pub returns-clause-frames : goal.returns-clause-frames
returns-clause-frames g c =
    let config = c.args.config.now in
    let reports = λ (symbol : ℕ). (g.F.Floor.at c.look_all.new.floor symbol).reports in
    let inside = c.self.inside in
    let moment : to_z w64 (of_z w64 c.args.moment) ≡ c.args.moment = search rules in
    let messages = c.in_ok-look_all.ensures.messages ∙ ap (λ (cursors : List ℕ). messages_past config inside.member cursors reports) c.deref.ensures.value in
    subst (λ (d : DeskView). c.in_ok-frames.frames.items ≡ (send_if_up d.session (messages_past config d.member d.cursors reports) c.args.moment).turn.replies) c.self.view_is
    (sent_replies inside.session _ _ c.args.moment _ _ (c.if-not-is_up.ensures.0 refl) moment messages c.in_ok-frames.ensures.replies)

pub returns-clause-pulled : goal.returns-clause-pulled
returns-clause-pulled g c = record {
  session =
      let config = c.args.config.now in
      let reports = λ (symbol : ℕ). (g.F.Floor.at c.look_all.new.floor symbol).reports in
      let inside = c.self.inside in
      let moment : to_z w64 (of_z w64 c.args.moment) ≡ c.args.moment = search rules in
      let messages = c.in_ok-look_all.ensures.messages ∙ ap (λ (cursors : List ℕ). messages_past config inside.member cursors reports) c.deref.ensures.value in
      subst (λ (d : DeskView). c.send_all.new.self ≡ (send_if_up d.session (messages_past config d.member d.cursors reports) c.args.moment).machine) c.self.view_is
      (sent_machine inside.session _ _ c.args.moment _ _ (c.if-not-is_up.ensures.0 refl) moment messages c.in_ok-frames.ensures.machine);
  cursors =
      λ up.
      let reports = λ (symbol : ℕ). (g.F.Floor.at c.look_all.new.floor symbol).reports in
      let count = length c.args.config.now.symbols in
      subst (λ (d : DeskView). MovedOn count reports d.cursors c.swap.new.x.items) c.self.view_is
      (subst (λ (cursors : List ℕ). MovedOn count reports cursors c.swap.new.x.items) c.deref.ensures.value
      (subst (λ (v : _). MovedOn count reports c.deref.result.now v.items) (sym c.swap.ensures.x_after) c.in_ok-look_all.ensures.fronts));
  down =
      λ none.
      absurd (none (subst (λ (d : DeskView). IsUp d.session) c.self.view_is (c.if-not-is_up.ensures.0 refl)));
  mark = c.look_all.ensures.mark;
  waited = c.look_all.ensures.waited;
  others = c.look_all.ensures.others;
  member = search rules;
  unread = search rules;
  submitted = search rules;
  err = tt;
}

pub returns-clause-turns : goal.returns-clause-turns
returns-clause-turns g c = λ up. c.in_ok-look_all.ensures.turns

pub returns-in_err-frames-clause-pulled : goal.returns-in_err-frames-clause-pulled
returns-in_err-frames-clause-pulled g c = record {
  session = search rules;
  cursors = search rules;
  down =
      λ none.
      absurd (none (subst (λ (d : DeskView). IsUp d.session) c.self.view_is (c.if-not-is_up.ensures.0 refl)));
  mark = c.look_all.ensures.mark;
  waited = c.look_all.ensures.waited;
  others = c.look_all.ensures.others;
  member = search rules;
  unread = search rules;
  submitted = search rules;
  err = search rules;
}

pub returns-in_err-look_all-clause-pulled : goal.returns-in_err-look_all-clause-pulled
returns-in_err-look_all-clause-pulled g c = record {
  session = search rules;
  cursors = search rules;
  down =
      λ none.
      absurd (none (subst (λ (d : DeskView). IsUp d.session) c.self.view_is (c.if-not-is_up.ensures.0 refl)));
  mark = c.look_all.ensures.mark;
  waited = c.look_all.ensures.waited;
  others = c.look_all.ensures.others;
  member = search rules;
  unread = search rules;
  submitted = search rules;
  err = search rules;
}
