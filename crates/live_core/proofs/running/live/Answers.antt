use Rattle.std.proofs.Common.{rules, ◌≡◌, ◌++◌, Err, sym, ◌∙◌, subst, arith}
use Rattle.live_core.specs.Live.{Whole}
use Rattle.live_core.specs.Lines.{kept}
use Rattle.live_core.specs.declared.running.LiveEnd.TheVariants.{Halted}
use Rattle.live_core.proofs.Rounds.{begins, one_more, not_more, halts_after, ran_whole}
use Rattle.live_core.proofs.running.live.Goals as goal

pub loop-going-init : goal.loop-going-init
loop-going-init g c = record {
  unspent = c.requires.unspent;
  disk_later = omega arith;
  edge_later = omega arith;
  so_far = λ past has_taken. begins g.M.Machine.yields past (g.M.Machine.has_taken c.args.machine.now) (g.E.Edge.brought c.args.edge.now) (g.E.Edge.told c.args.edge.now) (g.D.Disk.told c.args.log.now.disk) has_taken
      (λ honest f left. g.met.D.Disk.only_now c.args.log.now.disk f honest left);
}

pub returns-in-Err-clause-ran : goal.returns-in-Err-clause-ran
returns-in-Err-clause-ran g c past has_taken =
    let yields = g.M.Machine.yields in
    let was = g.M.Machine.has_taken c.loop-going.machine in
    let brought = g.E.Edge.brought in
    let told = g.E.Edge.told in
    let disk = g.D.Disk.told in
    let b0 = brought c.args.edge.now in
    let b1 = brought c.loop-going.edge in
    let t0 = told c.args.edge.now in
    let old = disk c.args.log.now.disk in
    let mid = disk c.loop-going.log.disk in
    let w : Whole yields was past b0 b1 t0 (told c.round.new.self) old mid =
    subst (λ t. Whole yields was past b0 b1 t0 t old mid) (sym c.round.ensures.told) (c.loop-going.invariant.so_far past has_taken) in
    ran_whole yields past was b0 (brought c.round.new.self) t0 (told c.round.new.self) old mid
    (subst (λ b. Whole yields was past b0 b t0 (told c.round.new.self) old mid) (sym c.in-Err.ensures.nothing) w)

pub returns-in-Err-commit-clause-ran : goal.returns-in-Err-commit-clause-ran
returns-in-Err-commit-clause-ran g c past has_taken =
    let yields = g.M.Machine.yields in
    let was = g.M.Machine.has_taken c.loop-going.machine in
    let brought = g.E.Edge.brought in
    let told = g.E.Edge.told in
    let disk = g.D.Disk.told in
    let b0 = brought c.args.edge.now in
    let b1 = brought c.loop-going.edge in
    let t0 = told c.args.edge.now in
    let old = disk c.args.log.now.disk in
    let mid = disk c.loop-going.log.disk in
    let w : Whole yields was past b0 b1 t0 (told c.round.new.self) old mid =
    subst (λ t. Whole yields was past b0 b1 t0 t old mid) (sym c.round.ensures.told) (c.loop-going.invariant.so_far past has_taken) in
    not_more yields past b0 b1 (brought c.commit.new.edge) t0 (told c.round.new.self) (told c.commit.new.edge) old mid (disk c.commit.new.log.disk)
    was c.round.new.lines.items w (c.commit.ensures.brought ∙ c.in-Ok.ensures.brought)
    (c.in-Err-commit.ensures.err (past ++ kept yields past w.asked) w.now) (c.commit.ensures.any_moment (past ++ kept yields past w.asked) w.now)

pub returns-in-Stop-clause-ran : goal.returns-in-Stop-clause-ran
returns-in-Stop-clause-ran g c past has_taken =
    let yields = g.M.Machine.yields in
    let was = g.M.Machine.has_taken c.loop-going.machine in
    let brought = g.E.Edge.brought in
    let told = g.E.Edge.told in
    let disk = g.D.Disk.told in
    let b0 = brought c.args.edge.now in
    let b1 = brought c.loop-going.edge in
    let t0 = told c.args.edge.now in
    let old = disk c.args.log.now.disk in
    let mid = disk c.loop-going.log.disk in
    let w : Whole yields was past b0 b1 t0 (told c.round.new.self) old mid =
    subst (λ t. Whole yields was past b0 b1 t0 t old mid) (sym c.round.ensures.told) (c.loop-going.invariant.so_far past has_taken) in
    let one : Whole yields (g.M.Machine.has_taken c.commit.new.machine) past b0 (brought c.commit.new.edge) t0 (told c.commit.new.edge) old (disk c.commit.new.log.disk) =
    one_more yields past b0 b1 (brought c.commit.new.edge) t0 (told c.round.new.self) (told c.commit.new.edge) old mid (disk c.commit.new.log.disk)
    was (g.M.Machine.has_taken c.commit.new.machine) c.round.new.lines.items w (c.commit.ensures.brought ∙ c.in-Ok.ensures.brought)
    (c.in-Ok-commit.ensures.ok (past ++ kept yields past w.asked) w.now) (c.commit.ensures.any_moment (past ++ kept yields past w.asked) w.now) in
    ran_whole yields past (g.M.Machine.has_taken c.commit.new.machine) b0 (brought c.commit.new.edge) t0 (told c.commit.new.edge) old (disk c.commit.new.log.disk) one

pub returns-in-Stop-clause-whole : goal.returns-in-Stop-clause-whole
returns-in-Stop-clause-whole g c past has_taken is =
    let yields = g.M.Machine.yields in
    let was = g.M.Machine.has_taken c.loop-going.machine in
    let brought = g.E.Edge.brought in
    let told = g.E.Edge.told in
    let disk = g.D.Disk.told in
    let b0 = brought c.args.edge.now in
    let b1 = brought c.loop-going.edge in
    let t0 = told c.args.edge.now in
    let old = disk c.args.log.now.disk in
    let mid = disk c.loop-going.log.disk in
    let w : Whole yields was past b0 b1 t0 (told c.round.new.self) old mid =
    subst (λ t. Whole yields was past b0 b1 t0 t old mid) (sym c.round.ensures.told) (c.loop-going.invariant.so_far past has_taken) in
    let one : Whole yields (g.M.Machine.has_taken c.commit.new.machine) past b0 (brought c.commit.new.edge) t0 (told c.commit.new.edge) old (disk c.commit.new.log.disk) =
    one_more yields past b0 b1 (brought c.commit.new.edge) t0 (told c.round.new.self) (told c.commit.new.edge) old mid (disk c.commit.new.log.disk)
    was (g.M.Machine.has_taken c.commit.new.machine) c.round.new.lines.items w (c.commit.ensures.brought ∙ c.in-Ok.ensures.brought)
    (c.in-Ok-commit.ensures.ok (past ++ kept yields past w.asked) w.now) (c.commit.ensures.any_moment (past ++ kept yields past w.asked) w.now) in
    one

pub loop-going-preserved : goal.loop-going-preserved
loop-going-preserved g c = record {
  unspent = c.in-Ok-commit.ensures.unspent;
  disk_later = omega (arith, c.loop-going.invariant.disk_later, c.commit.ensures.disk_later);
  edge_later = omega (arith, c.loop-going.invariant.edge_later, c.round.ensures.cause.later, c.commit.ensures.edge_later);
  so_far = λ past has_taken.
      let yields = g.M.Machine.yields in
      let was = g.M.Machine.has_taken c.loop-going.machine in
      let brought = g.E.Edge.brought in
      let told = g.E.Edge.told in
      let disk = g.D.Disk.told in
      let b0 = brought c.args.edge.now in
      let b1 = brought c.loop-going.edge in
      let t0 = told c.args.edge.now in
      let old = disk c.args.log.now.disk in
      let mid = disk c.loop-going.log.disk in
      let w : Whole yields was past b0 b1 t0 (told c.round.new.self) old mid =
      subst (λ t. Whole yields was past b0 b1 t0 t old mid) (sym c.round.ensures.told) (c.loop-going.invariant.so_far past has_taken) in
      let one : Whole yields (g.M.Machine.has_taken c.commit.new.machine) past b0 (brought c.commit.new.edge) t0 (told c.commit.new.edge) old (disk c.commit.new.log.disk) =
      one_more yields past b0 b1 (brought c.commit.new.edge) t0 (told c.round.new.self) (told c.commit.new.edge) old mid (disk c.commit.new.log.disk)
      was (g.M.Machine.has_taken c.commit.new.machine) c.round.new.lines.items w (c.commit.ensures.brought ∙ c.in-Ok.ensures.brought)
      (c.in-Ok-commit.ensures.ok (past ++ kept yields past w.asked) w.now) (c.commit.ensures.any_moment (past ++ kept yields past w.asked) w.now) in
      one;
}

pub returns-in-Err-commit-clause-halted : goal.returns-in-Err-commit-clause-halted
returns-in-Err-commit-clause-halted g c halted past was =
    let yields = g.M.Machine.yields in
    let brought = g.E.Edge.brought in
    let disk = g.D.Disk.told in
    let so_far = c.loop-going.invariant.so_far past was in
    let is : c.commit.result ≡ Err Halted = search rules in
    halts_after yields past (g.M.Machine.has_taken c.loop-going.machine) (brought c.args.edge.now) (brought c.loop-going.edge) (brought c.commit.new.edge)
    c.round.new.lines.items (g.E.Edge.told c.args.edge.now) (g.E.Edge.told c.loop-going.edge) (disk c.args.log.now.disk) (disk c.loop-going.log.disk)
    so_far (c.commit.ensures.brought ∙ c.in-Ok.ensures.brought)
    (c.commit.ensures.halted is (past ++ kept yields past so_far.asked) so_far.now)
