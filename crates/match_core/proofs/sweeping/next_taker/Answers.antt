use Rattle.std.proofs.Common.{◌≡◌, ◌+◌, ◌*◌, ◌≤◌, vec_len, refl, sym, ap, ◌∙◌, subst, arith}
use Rattle.venue_words.specs.declared.row.Priced.{Priced}
use Rattle.venue_words.specs.ListLaws.{all_weaken}
use Rattle.eager_meaning.specs.Matching.{takes_of}
use Rattle.eager_meaning.specs.Recheck.{crosses_any}
use Rattle.eager_meaning.specs.Work.{examined_by}
use Rattle.peg_groups.specs.BestValue.{best_value}
use Rattle.peg_groups.specs.Side.{SideState, Standing, standing_of, taken_row}
use Rattle.match_core.specs.Aside.{taken_rows}
use Rattle.match_core.specs.Sweeping.{Stage, Turned, HasStageRoom, stage_of, rest_of_work}
use Rattle.match_core.proofs.Looks.{always_own, idle_most, looked, turned_idle}
use Rattle.match_core.proofs.Rechecks.{turn_most, turn_done}
use Rattle.match_core.proofs.SetAside.{first_out, taken_more}
use Rattle.match_core.proofs.Stages.{Walks, taker_has, turned_some, turned_none, work_on, work_done, walks_by, shorter_by}
use Rattle.match_core.proofs.Trades.{row_after_standing}
use Rattle.match_core.proofs.sweeping.next_taker.Given.{Over}
use Rattle.match_core.proofs.sweeping.next_taker.Goals as goal

pub walk_in-walked-requires-clause-leaves : goal.walk_in-walked-requires-clause-leaves
walk_in-walked-requires-clause-leaves g c = rw c.row_of-t.ensures (taker_has _ _ c.requires.stage.own_full c.in-Some.ensures.best)

pub returns-in-None-clause-turned : goal.returns-in-None-clause-turned
returns-in-None-clause-turned g c = turned_none (stage_of (g.S.SideBook.state c.args.own.now).rows (g.S.SideBook.state c.args.other.now).rows c.args.scratch.now) _ (ap (λ (s : SideState). stage_of s.rows (g.S.SideBook.state c.args.other.now).rows c.args.scratch.now) (sym (c.in-None.ensures.same refl))) c.requires.stage (c.in-None.ensures.none refl)

pub returns-in-None-clause-out_fit : goal.returns-in-None-clause-out_fit
returns-in-None-clause-out_fit g c = all_weaken _ _ (λ x h. c.in-None.ensures.fits (standing_of (taken_row x)) h) c.args.scratch.now.tried.items c.requires.out_fit

module _ (g : Over) (c : goal.After-push_reserved g) where
  abbrev before : Stage
  before = stage_of (g.S.SideBook.state c.args.own.now).rows (g.S.SideBook.state c.args.other.now).rows c.args.scratch.now

  abbrev after : Stage
  after = record { tried = taken_rows c.push_reserved.new.self.items; own = (g.S.SideBook.state c.take_best.new.self).rows; others = (g.S.SideBook.state c.walk_in-walked.new.other).rows; fills = c.walk_in-walked.new.fills.items }

  walks : Walks (taken_row c.in-Some.taken) before after
  walks = walks_by (taken_row c.in-Some.taken) c.row_of-t.result before c.args.scratch.now.tried.items c.push_reserved.new.self.items c.trade.result c.walk_in-walked.result.shares (g.S.SideBook.state c.take_best.new.self).rows (g.S.SideBook.state c.walk_in-walked.new.other).rows c.walk_in-walked.new.fills.items
      (first_out (taken_row c.in-Some.taken) (g.S.SideBook.state c.args.own.now).rows (g.S.SideBook.state c.take_best.new.self).rows c.in-Some.ensures.by_entry c.in-Some.ensures.best (ap (λ (s : SideState). s.rows) c.in-Some.ensures.state))
      refl c.row_of-t.ensures c.push_reserved.ensures.items c.trade.ensures.row c.walk_in-walked.ensures.total c.walk_in-walked.ensures.put c.walk_in-walked.ensures.filled c.walk_in-walked.ensures.few

  crossed : c.walk_in-walked.result.crossed ≡ crosses_any (taken_row c.in-Some.taken) (g.S.SideBook.state c.args.other.now).rows
  crossed = c.walk_in-walked.ensures.crossed ∙ ap (λ (x : Priced). crosses_any x (g.S.SideBook.state c.args.other.now).rows) c.row_of-t.ensures

  turned : Turned c.walk_in-walked.result.crossed before after
  turned = turned_some (taken_row c.in-Some.taken) before after c.walk_in-walked.result.crossed c.requires.stage walks crossed (λ h. ap (λ (x : Priced). takes_of x (g.S.SideBook.state c.args.other.now).rows) (sym c.row_of-t.ensures) ∙ c.walk_in-walked.ensures.idle h)

  room : HasStageRoom (g.S.SideBook.state c.take_best.new.self).rows (g.S.SideBook.state c.walk_in-walked.new.other).rows (record { fills = c.walk_in-walked.new.fills; aside = c.walk_in-walked.new.aside; tried = c.push_reserved.new.self })
  room = record {
    fills = omega (arith, turned.few, c.requires.room.fills, c.walk_in-walked.ensures.fills_capacity);
    aside = omega (arith, turned.others_fewer, c.requires.room.aside, c.walk_in-walked.ensures.capacity);
    tried = omega (arith, c.push_reserved.ensures.len, c.push_reserved.ensures.capacity, c.requires.room.tried, shorter_by walks);
  }

  walk_steps : c.walk_in-walked.new.steps ≤ c.args.steps.now + 1024 * (g.S.SideBook.width c.args.own.now + 1) + 1536 * (g.S.SideBook.width c.args.other.now + 1) * examined_by (taken_row c.in-Some.taken) (g.S.SideBook.state c.args.other.now).rows
  walk_steps = looked (g.S.SideBook.width c.args.own.now) (g.S.SideBook.width c.args.other.now) (1536 * (g.S.SideBook.width c.args.other.now + 1) * examined_by (taken_row c.in-Some.taken) (g.S.SideBook.state c.args.other.now).rows) c.args.steps.now c.sides_cross.new.steps c.take_best.new.steps c.walk_in-walked.new.steps c.sides_cross.ensures.most c.in-Some.ensures.most (rw c.row_of-t.ensures at c.walk_in-walked.ensures.most)

pub returns-in-Some-clause-turned : goal.returns-in-Some-clause-turned
returns-in-Some-clause-turned g c = turned g c

pub returns-in-Some-clause-out_fit : goal.returns-in-Some-clause-out_fit
returns-in-Some-clause-out_fit g c =
    rw c.push_reserved.ensures.items (taken_more _ c.args.scratch.now.tried.items c.trade.result
    (all_weaken _ _ (λ x h. c.in-Some.ensures.fits (standing_of (taken_row x)) h) c.args.scratch.now.tried.items c.requires.out_fit)
    (subst (λ (s : Standing). g.S.SideBook.fits c.take_best.new.self s) (sym (ap standing_of c.trade.ensures.row ∙ row_after_standing c.walk_in-walked.result.shares (taken_row c.in-Some.taken))) c.in-Some.ensures.taken_fits))

pub returns-in-Some-clause-room : goal.returns-in-Some-clause-room
returns-in-Some-clause-room g c = room g c

pub returns-in-Some-clause-most : goal.returns-in-Some-clause-most
returns-in-Some-clause-most g c = λ h. turn_most (g.S.SideBook.width c.args.own.now) (g.S.SideBook.width c.args.other.now) (examined_by (taken_row c.in-Some.taken) (g.S.SideBook.state c.args.other.now).rows) (rest_of_work (after g c)) (rest_of_work (before g c)) c.args.steps.now (c.args.steps.now + 1024 * (g.S.SideBook.width c.args.own.now + 1)) c.walk_in-walked.new.steps (vec_len c.args.scratch.now.tried) (vec_len c.push_reserved.new.self) (omega arith) (work_on (taken_row c.in-Some.taken) (before g c) (after g c) c.requires.stage (walks g c) (sym (crossed g c) ∙ h)) c.push_reserved.ensures.len (omega arith) (walk_steps g c)

pub returns-in-Some-clause-most_done : goal.returns-in-Some-clause-most_done
returns-in-Some-clause-most_done g c = λ h. turn_done (g.S.SideBook.width c.args.own.now) (g.S.SideBook.width c.args.other.now) (examined_by (taken_row c.in-Some.taken) (g.S.SideBook.state c.args.other.now).rows) (rest_of_work (before g c)) c.args.steps.now (c.args.steps.now + 1024 * (g.S.SideBook.width c.args.own.now + 1)) c.walk_in-walked.new.steps (vec_len c.args.scratch.now.tried) (vec_len c.push_reserved.new.self) (omega arith) (work_done (taken_row c.in-Some.taken) (before g c) (after g c) (walks g c) (sym (crossed g c) ∙ h)) c.push_reserved.ensures.len (omega arith) (walk_steps g c)

pub returns-in-None-clause-most_done : goal.returns-in-None-clause-most_done
returns-in-None-clause-most_done g c = absurd (always_own (best_value (g.S.SideBook.state c.args.other.now).rows) (g.S.SideBook.state c.args.own.now).rows (sym c.sides_cross.ensures.crossed ∙ c.if-not-sides_cross.false) (c.in-None.ensures.none refl))

-- ---- no row crosses one of the other side

pub returns-then-not-sides_cross-clause-turned : goal.returns-then-not-sides_cross-clause-turned
returns-then-not-sides_cross-clause-turned g c = turned_idle (stage_of (g.S.SideBook.state c.args.own.now).rows (g.S.SideBook.state c.args.other.now).rows c.args.scratch.now) (sym c.sides_cross.ensures.crossed ∙ c.if-not-sides_cross.true) c.requires.stage

pub returns-then-not-sides_cross-clause-most_done : goal.returns-then-not-sides_cross-clause-most_done
returns-then-not-sides_cross-clause-most_done g c = λ _. idle_most (g.S.SideBook.width c.args.own.now) (g.S.SideBook.width c.args.other.now) (vec_len c.args.scratch.now.tried) c.args.steps.now c.sides_cross.new.steps (stage_of (g.S.SideBook.state c.args.own.now).rows (g.S.SideBook.state c.args.other.now).rows c.args.scratch.now) c.sides_cross.ensures.most c.sides_cross.ensures.most_idle
