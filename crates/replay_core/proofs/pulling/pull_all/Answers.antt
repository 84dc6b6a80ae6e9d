use Rattle.std.proofs.Common.{◌≡◌, ◌<◌, ◌∙◌, ℕ, ℤ, List, length, refl, ap, subst, arith}
use Rattle.venue_words.specs.declared.command.Event.{Event}
use Rattle.venue_words.specs.declared.config.Config.{Config}
use Rattle.venue_words.specs.declared.report.Report.{Report}
use Rattle.replay_core.specs.News.{row_at, PulledIf}
use Rattle.replay_core.specs.PlainFloor.{ShowsJournals}
use Rattle.replay_core.proofs.FloorWork.{shows_kept, reports_shown, fronts_kept}
use Rattle.replay_core.proofs.Asking.{pulled_none, pulled_more, numbered_more, pulled_each}
use Rattle.replay_core.proofs.pulling.pull_all.Goals as goal

pub loop-member-init : goal.loop-member-init
loop-member-init g c = record {
  pulled = λ journals members s h. pulled_none _ _ _ journals members _ _ h;
  desks = c.config.ensures.desks;
  config = refl;
  moment = refl;
  fronts = c.requires.fronts;
  mark = refl;
  journals = λ journals s. s;
}

pub returns-in_err-pull_noted-clause-journals : goal.returns-in_err-pull_noted-clause-journals
returns-in_err-pull_noted-clause-journals g c journals s =
    shows_kept g.F.Floor.mark g.F.Floor.at g.F.Floor.step_limit g.F.PlainFloor.state c.args.worker.now.config _ c.loop-member.floor
    c.pull_noted.new.floor c.requires.plain c.in_err-pull_noted.ensures.waited journals (c.loop-member.invariant.journals journals s)

pub loop-member-preserved : goal.loop-member-preserved
loop-member-preserved g c =
    let config = c.args.worker.now.config in
    let mark = g.F.Floor.mark c.args.floor.now in
    let reports : ℕ → List Report = λ symbol. (g.F.Floor.at c.pull_noted.new.floor symbol).reports in
    let p : PulledIf config c.args.worker.now.moment (row_at c.args.news.now.asked.items c.loop-member.member) reports c.loop-member.member
    c.loop-member.worker.desks c.pull_noted.new.worker.desks c.loop-member.out.items c.pull_noted.new.out.items =
    subst (λ (m : ℤ). PulledIf config m (row_at c.args.news.now.asked.items c.loop-member.member) reports c.loop-member.member
    c.loop-member.worker.desks c.pull_noted.new.worker.desks c.loop-member.out.items c.pull_noted.new.out.items) c.loop-member.invariant.moment
    (subst (λ (k : Config). PulledIf k c.loop-member.worker.moment (row_at c.args.news.now.asked.items c.loop-member.member) reports
    c.loop-member.member c.loop-member.worker.desks c.pull_noted.new.worker.desks c.loop-member.out.items c.pull_noted.new.out.items)
    c.loop-member.invariant.config c.in_ok-pull_noted.ensures.pulled) in
    let keeps = λ (journals : List (List Event)) (s : ShowsJournals g.F.Floor.at config c.args.floor.now journals). shows_kept g.F.Floor.mark g.F.Floor.at g.F.Floor.step_limit g.F.PlainFloor.state config mark
    c.loop-member.floor c.pull_noted.new.floor c.requires.plain c.in_ok-pull_noted.ensures.waited journals
    (c.loop-member.invariant.journals journals s) in
    let marked = c.in_ok-pull_noted.ensures.mark ∙ c.loop-member.invariant.mark in
    let same = λ (journals : List (List Event)) (s : ShowsJournals g.F.Floor.at config c.args.floor.now journals). reports_shown g.F.Floor.mark g.F.Floor.at g.F.Floor.step_limit g.F.PlainFloor.state config mark
    c.pull_noted.new.floor c.requires.plain marked journals (keeps journals s) in
    let count : length c.config.result.now.members ≡ length config.members = ap (λ (k : Config). length k.members) c.config.ensures.same in
    let within : c.loop-member.member < length config.members = omega (arith, count) in
    record {
      pulled = λ journals members s h. pulled_more c.args.news.now.asked.items config c.args.worker.now.moment journals members
          c.args.out.now.items reports c.loop-member.member c.loop-member.worker.desks c.pull_noted.new.worker.desks c.loop-member.out.items
          c.pull_noted.new.out.items (same journals s) c.loop-member.invariant.desks within p (c.loop-member.invariant.pulled journals members s h);
      desks = numbered_more (row_at c.args.news.now.asked.items c.loop-member.member) config c.args.worker.now.moment reports c.loop-member.member c.loop-member.worker.desks
          c.pull_noted.new.worker.desks c.loop-member.out.items c.pull_noted.new.out.items p c.loop-member.invariant.desks;
      config = c.in_ok-pull_noted.ensures.config ∙ c.loop-member.invariant.config;
      moment = c.in_ok-pull_noted.ensures.moment ∙ c.loop-member.invariant.moment;
      fronts = fronts_kept g.F.Floor.mark g.F.Floor.at g.F.Floor.step_limit g.F.PlainFloor.state config mark c.loop-member.floor
          c.pull_noted.new.floor c.args.news.now.fronts.items c.requires.plain c.loop-member.invariant.mark marked
          c.in_ok-pull_noted.ensures.waited c.loop-member.invariant.fronts;
      mark = marked;
      journals = λ journals s. keeps journals s;
    }

pub returns-clause-desks : goal.returns-clause-desks
returns-clause-desks g c journals members s h =
    (pulled_each c.args.news.now.asked.items c.args.worker.now.config c.args.worker.now.moment journals members c.args.out.now.items
    c.loop-member.member c.args.worker.now.desks c.loop-member.worker.desks c.loop-member.out.items c.config.ensures.desks
    (omega (arith, ap (λ (k : Config). length k.members) c.config.ensures.same)) h (c.loop-member.invariant.pulled journals members s h)).stand

pub returns-clause-text : goal.returns-clause-text
returns-clause-text g c journals members s h =
    (pulled_each c.args.news.now.asked.items c.args.worker.now.config c.args.worker.now.moment journals members c.args.out.now.items
    c.loop-member.member c.args.worker.now.desks c.loop-member.worker.desks c.loop-member.out.items c.config.ensures.desks
    (omega (arith, ap (λ (k : Config). length k.members) c.config.ensures.same)) h (c.loop-member.invariant.pulled journals members s h)).text
