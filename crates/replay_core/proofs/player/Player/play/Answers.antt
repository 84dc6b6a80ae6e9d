use Rattle.std.proofs.Common.{◌≤◌, ◌+◌, ℕ, Result, refl, sym, subst, inl}
use Rattle.script_text.specs.declared.fault.LineFault.{LineFault}
use Rattle.replay_core.specs.Meets.{MeetsInPlace}
use Rattle.replay_core.specs.PlayLine.{play_read, recorded_by, behind_work}
use Rattle.replay_core.specs.Playing.{members_of}
use Rattle.replay_core.specs.Pulling.{after_pulls}
use Rattle.replay_core.specs.Stages.{Kept, StandsFor, kept_of}
use Rattle.replay_core.proofs.Worked.{set_up, worked_so, took_line, noted_so, behind_worked, stands_pulled, text_pulled, line_told, play_steps, refused_line}
use Rattle.replay_core.proofs.player.Player.play.Goals.{in-Ok-pull_all, in-Err-pull_all}
use Rattle.replay_core.proofs.player.Player.play.Goals as goal

pub work_read-requires-clause-setup : goal.work_read-requires-clause-setup
work_read-requires-clause-setup g c = set_up g.F.Floor.mark g.F.Floor.at g.F.Floor.step_limit g.F.PlainFloor.state c.self.inside.worker.config _
    c.self.invariant.0 c.self.invariant.1

pub returns-in-Err-clause-answer : goal.returns-in-Err-clause-answer
returns-in-Err-clause-answer g c playing s =
    let t = subst (λ (k : Kept g.row.F.Denot). StandsFor g.F.Floor.at k playing) (sym c.self.view_is) s in
    rw c.refusal_at.ensures
    (refused_line g.F.Floor.mark g.F.Floor.at g.F.Floor.step_limit g.F.PlainFloor.state (g.F.Floor.mark c.self.inside.floor) c.self.inside.worker
    c.self.inside.floor c.args.steps.now (c.work_read.new.floor, c.work_read.new.steps) c.self.inside.news.fronts.items c.self.inside.fault c.args.line
    playing c.args.read c.in-Err.refusal c.self.invariant.0 c.self.invariant.1 t (c.in-Err.ensures.stopped playing.feed t.feed)).answer

pub returns-in-Err-clause-steps : goal.returns-in-Err-clause-steps
returns-in-Err-clause-steps g c playing s =
    let t = subst (λ (k : Kept g.row.F.Denot). StandsFor g.F.Floor.at k playing) (sym c.self.view_is) s in
    (refused_line g.F.Floor.mark g.F.Floor.at g.F.Floor.step_limit g.F.PlainFloor.state (g.F.Floor.mark c.self.inside.floor) c.self.inside.worker
    c.self.inside.floor c.args.steps.now (c.work_read.new.floor, c.work_read.new.steps) c.self.inside.news.fronts.items c.self.inside.fault c.args.line
    playing c.args.read c.in-Err.refusal c.self.invariant.0 c.self.invariant.1 t (c.in-Err.ensures.stopped playing.feed t.feed)).steps

pub returns-clause-answer : goal.returns-clause-answer
returns-clause-answer g c = elim c.match-pull_all.branch [
  | in-Ok-pull_all w ↦ λ playing s.
      let t = subst (λ (k : Kept g.row.F.Denot). StandsFor g.F.Floor.at k playing) (sym c.self.view_is) s in
      let mark = g.F.Floor.mark c.self.inside.floor in
      let fronts = c.self.inside.news.fronts.items in
      let next = c.work_read.new.worker in
      let x = worked_so g.F.Floor.at g.F.Floor.step_limit mark playing c.args.read next c.args.out.now.items c.work_read.new.out.items
      (c.self.inside.floor, c.args.steps.now) (c.work_read.new.floor, c.work_read.new.steps) c.in-Ok.own
      (c.in-Ok.ensures.stands playing.feed t.feed) (c.in-Ok.ensures.text playing.feed t.feed) (c.in-Ok.ensures.took playing.feed t.feed)
      (c.in-Ok.ensures.own playing.feed t.feed) in
      let took = took_line g.F.Floor.mark g.F.Floor.at g.F.Floor.step_limit g.F.PlainFloor.state mark c.self.inside.worker next c.self.inside.floor
      c.args.steps.now (c.work_read.new.floor, c.work_read.new.steps) fronts c.self.inside.fault c.in-Ok.own playing c.args.read c.args.out.now.items
      c.work_read.new.out.items c.self.invariant.0 c.self.invariant.1 t c.work_read.ensures.config x in
      let noted = noted_so g.F.Floor.at c.self.inside.worker.config c.work_read.new.floor fronts c.in-Ok.own c.self.inside.news.asked.items
      c.look.new.self.asked.items c.self.invariant.2 c.self.invariant.3 c.look.ensures.own c.look.ensures.none in
      let behind = behind_work playing x.work (recorded_by playing x.work) in
      let y = behind_worked g.F.Floor.mark g.F.Floor.at g.F.Floor.step_limit g.F.PlainFloor.state mark c.self.inside.worker next c.self.inside.floor
      c.args.steps.now (c.work_read.new.floor, c.work_read.new.steps) fronts c.self.inside.fault c.in-Ok.own playing c.args.read c.args.out.now.items
      c.work_read.new.out.items c.look.new.self.asked.items c.self.invariant.1 refl c.work_read.ensures.mark t c.work_read.ensures.desks
      c.work_read.ensures.config c.work_read.ensures.cursors x took noted in
      let grew = text_pulled g.F.Floor.at next c.work_read.new.floor c.look.new.self.asked.items behind c.work_read.new.out.items
      c.pull_all.new.out.items y (w.in-Ok-pull_all.ensures.text behind.journals (members_of behind) y.shows y.asked) in
      let told = line_told c.args.line playing c.args.read c.args.out.now.items c.work_read.new.out.items c.pull_all.new.out.items x.work x.says
      took.room c.requires.empty x.told grew in
      let stands = stands_pulled g.F.Floor.at next c.pull_all.new.worker c.work_read.new.floor c.pull_all.new.floor c.look.new.self.fronts.items
      c.look.new.self.asked.items c.self.inside.fault behind y t.clear c.pull_all.ensures.config c.pull_all.ensures.moment
      (w.in-Ok-pull_all.ensures.desks behind.journals (members_of behind) y.shows y.asked) (c.pull_all.ensures.journals behind.journals y.shows)
      w.in-Ok-pull_all.ensures.shown in
      subst (λ (r : Result (Unit {0}) LineFault). MeetsInPlace (StandsFor g.F.Floor.at) (play_read c.args.line playing c.args.read).result r
      (kept_of c.pull_all.new.worker c.pull_all.new.floor c.look.new.self.fronts.items c.self.inside.fault) c.pull_all.new.out.items) (sym w.result-is)
      (after_pulls behind, told, stands)
  | in-Err-pull_all w ↦ λ playing s.
      subst (λ (r : Result (Unit {0}) LineFault). MeetsInPlace (StandsFor g.F.Floor.at) (play_read c.args.line playing c.args.read).result r
      (kept_of c.pull_all.new.worker c.pull_all.new.floor c.look.new.self.fronts.items c.self.inside.fault) c.pull_all.new.out.items) (sym w.result-is)
      (inl refl)
]

pub returns-clause-steps : goal.returns-clause-steps
returns-clause-steps g c playing s =
    let t = subst (λ (k : Kept g.row.F.Denot). StandsFor g.F.Floor.at k playing) (sym c.self.view_is) s in
    let mark = g.F.Floor.mark c.self.inside.floor in
    let x = worked_so g.F.Floor.at g.F.Floor.step_limit mark playing c.args.read c.work_read.new.worker c.args.out.now.items
    c.work_read.new.out.items (c.self.inside.floor, c.args.steps.now) (c.work_read.new.floor, c.work_read.new.steps) c.in-Ok.own
    (c.in-Ok.ensures.stands playing.feed t.feed) (c.in-Ok.ensures.text playing.feed t.feed) (c.in-Ok.ensures.took playing.feed t.feed)
    (c.in-Ok.ensures.own playing.feed t.feed) in
    let took = took_line g.F.Floor.mark g.F.Floor.at g.F.Floor.step_limit g.F.PlainFloor.state mark c.self.inside.worker c.work_read.new.worker
    c.self.inside.floor c.args.steps.now (c.work_read.new.floor, c.work_read.new.steps) c.self.inside.news.fronts.items c.self.inside.fault c.in-Ok.own
    playing c.args.read c.args.out.now.items c.work_read.new.out.items c.self.invariant.0 c.self.invariant.1 t c.work_read.ensures.config x in
    subst (λ (n : ℕ). c.work_read.new.steps ≤ c.args.steps.now + n) (sym (play_steps c.args.line playing c.args.read x.work x.says)) took.steps
