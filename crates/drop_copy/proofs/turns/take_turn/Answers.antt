-- The replies were put, and then the copies or a part of them; or memory was wanted for the copies.
use Rattle.std.proofs.Common.{◌≡◌, ℕ, ℤ, List, length, refl, sym, ◌∙◌, ap, subst, inl, inr, arith, w64, to_z, of_z, rules}
use Rattle.std.proofs.lemmas.List.{take_all}
use Rattle.io_edge.specs.Links.{Tells, WasPut}
use Rattle.link_work.specs.Turns.{LinkTurn, joined, turn_of}
use Rattle.drop_copy.specs.Desks.{DropView}
use Rattle.drop_copy.specs.Rounds.{sent_to, replies_in}
use Rattle.drop_copy.specs.Sessions.{reports_at}
use Rattle.drop_copy.proofs.WholeTurns.{Pulls, took_whole, failed_copies}
use Rattle.drop_copy.proofs.turns.take_turn.Goals as goal

pub returns-in-Err-pull-clause-stopped : goal.returns-in-Err-pull-clause-stopped
returns-in-Err-pull-clause-stopped g c =
    let turn : LinkTurn = turn_of c.args.asked c.args.buffer.now in
    let replies = replies_in turn c.args.desk.now in
    let put : Tells (WasPut replies) (g.K.Link.told c.args.link.now) (g.K.Link.told c.put_all.new.link)
    = subst (λ (rs : List (List ℕ)). Tells (WasPut (joined rs)) (g.K.Link.told c.args.link.now) (g.K.Link.told c.put_all.new.link))
    (c.as_slice.ensures ∙ c.in-Ok.ensures.replies) c.in-Ok-put_all.ensures.bytes in
    inr (inr (inr (inr (record {
      end_is = refl;
      session = inr (ap (λ (d : DropView). d.session) c.in-Err-pull.ensures.err ∙ c.in-Ok.ensures.heard.session);
      members = ap (λ (d : DropView). d.members) c.in-Err-pull.ensures.err ∙ c.hear_input.ensures.members;
      cursors = ap (λ (d : DropView). d.cursors) c.in-Err-pull.ensures.err ∙ c.hear_input.ensures.cursors;
      waited = c.pull.ensures.waited;
      size = length replies;
      put = subst (λ (bytes : List ℕ). Tells (WasPut bytes) (g.K.Link.told c.args.link.now) (g.K.Link.told c.put_all.new.link))
          (sym (take_all (length replies) replies (omega arith))) put;
    }))))

pub returns-in-Ok-put_all-2-clause-took : goal.returns-in-Ok-put_all-2-clause-took
returns-in-Ok-put_all-2-clause-took g c =
    let at = g.F.Floor.at in
    let made = g.F.Floor.reports_in (g.F.Floor.mark c.args.floor.now) in
    let config = c.args.config.now in
    let turn : LinkTurn = turn_of c.args.asked c.args.buffer.now in
    let mid = c.hear_input.new.desk in
    let new = c.pull.new.self in
    let floor = c.args.floor.now in
    let floor' = c.pull.new.floor in
    let e : to_z w64 (of_z w64 c.args.asked.moment) ≡ c.args.asked.moment = search rules in
    let pulls : Pulls at made config turn c.args.desk.now mid new floor floor' turn.moment = record {
      session = c.in-Ok-pull.ensures.session ∙ ap (λ (m : ℤ). (sent_to config m (reports_at at floor') mid new.cursors).machine) e;
      unread = c.pull.ensures.unread;
      members = c.pull.ensures.members;
      still = λ down. ap (λ (d : DropView). d.cursors) (c.pull.ensures.down down).1;
      went_on = c.in-Ok-pull.ensures.cursors;
      waited = c.pull.ensures.waited;
    } in
    took_whole at made config turn c.args.desk.now mid new floor floor' c.as_slice.result.now c.as_slice-2.result.now
    (g.K.Link.told c.args.link.now) (g.K.Link.told c.put_all.new.link) (g.K.Link.told c.put_all-2.new.link)
    c.in-Ok.ensures.heard pulls c.in-Ok-pull.ensures.turns
    (c.as_slice.ensures ∙ c.in-Ok.ensures.replies)
    (c.as_slice-2.ensures.value ∙ c.in-Ok-pull.ensures.frames ∙ ap (λ (m : ℤ). (sent_to config m (reports_at at floor') mid new.cursors).turn.replies) e)
    c.in-Ok-put_all.ensures.bytes c.in-Ok-put_all-2.ensures.bytes

pub returns-clause-stopped : goal.returns-clause-stopped
returns-clause-stopped g c =
    let at = g.F.Floor.at in
    let made = g.F.Floor.reports_in (g.F.Floor.mark c.args.floor.now) in
    let config = c.args.config.now in
    let turn : LinkTurn = turn_of c.args.asked c.args.buffer.now in
    let mid = c.hear_input.new.desk in
    let new = c.pull.new.self in
    let floor = c.args.floor.now in
    let floor' = c.pull.new.floor in
    let part = c.in-Err-put_all-2.ensures.bytes in
    let e : to_z w64 (of_z w64 c.args.asked.moment) ≡ c.args.asked.moment = search rules in
    let pulls : Pulls at made config turn c.args.desk.now mid new floor floor' turn.moment = record {
      session = c.in-Ok-pull.ensures.session ∙ ap (λ (m : ℤ). (sent_to config m (reports_at at floor') mid new.cursors).machine) e;
      unread = c.pull.ensures.unread;
      members = c.pull.ensures.members;
      still = λ down. ap (λ (d : DropView). d.cursors) (c.pull.ensures.down down).1;
      went_on = c.in-Ok-pull.ensures.cursors;
      waited = c.pull.ensures.waited;
    } in
    inr (inr (inr (inl
    (failed_copies at made config turn c.args.desk.now mid new floor floor' c.as_slice.result.now c.as_slice-2.result.now part.0
    (g.K.Link.told c.args.link.now) (g.K.Link.told c.put_all.new.link) (g.K.Link.told c.put_all-2.new.link)
    c.in-Ok.ensures.heard pulls
    (c.as_slice.ensures ∙ c.in-Ok.ensures.replies)
    (c.as_slice-2.ensures.value ∙ c.in-Ok-pull.ensures.frames ∙ ap (λ (m : ℤ). (sent_to config m (reports_at at floor') mid new.cursors).turn.replies) e)
    c.in-Ok-put_all.ensures.bytes part.1))))
