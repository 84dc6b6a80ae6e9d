use Rattle.std.proofs.Common.{◌≡◌, true, length, ◌∙◌, ap, subst, arith}
use Rattle.day_journal.specs.Disk.{Torn, LeavesOnly, overwritten}
use Rattle.day_journal.specs.Log.{reading, ReadsAs}
use Rattle.day_journal.proofs.Growing.{grown_reads, grown_rests, grown_size, grown_crash}
use Rattle.day_journal.proofs.grow.grow_to.Goals as goal

pub returns-in_err-write_through-clause-any_moment : goal.returns-in_err-write_through-clause-any_moment
returns-in_err-write_through-clause-any_moment g c honest =
    let told = g.D.Disk.told in
    let i = c.loop-size.invariant in
    let mid = told c.loop-size.disk in
    let new = told c.write_through.new.disk in
    let crash = subst (λ k. LeavesOnly mid new (λ f. Torn k (length c.args.bytes.now) mid.seen f)) (i.size honest) (c.write_through.ensures.crash (i.honest ∙ honest)) in
    grown_crash (told c.args.disk.now) mid new (length c.args.bytes.now) (i.rests honest) (i.lines honest) (i.crash honest) crash

pub returns-in_err-write_through-clause-lines : goal.returns-in_err-write_through-clause-lines
returns-in_err-write_through-clause-lines g c honest =
    let told = g.D.Disk.told in
    let i = c.loop-size.invariant in
    let old = told c.args.disk.now in
    let mid = told c.loop-size.disk in
    let new = told c.write_through.new.disk in
    let still = c.write_through.ensures.honest ∙ i.honest ∙ honest in
    let crash = subst (λ k. LeavesOnly mid new (λ f. Torn k (length c.args.bytes.now) mid.seen f)) (i.size honest) (c.write_through.ensures.crash (i.honest ∙ honest)) in
    let run : LeavesOnly old new (ReadsAs (reading old.seen)) = grown_crash old mid new (length c.args.bytes.now) (i.rests honest) (i.lines honest) (i.crash honest) crash in
    run.each new.seen (g.met.D.Disk.counts_now c.write_through.new.disk old.moment new.seen still run.later (g.met.D.Disk.as_it_reads c.write_through.new.disk still))

pub loop-size-preserved : goal.loop-size-preserved
loop-size-preserved g c =
    let told = g.D.Disk.told in
    let i = c.loop-size.invariant in
    let bytes = c.args.bytes.now in
    let old = told c.args.disk.now in
    let mid = told c.loop-size.disk in
    let new = told c.write_through.new.disk in
    let is = λ (honest : old.honest ≡ true).
    c.in_ok-write_through.ensures.written (i.honest ∙ honest) ∙ ap (λ k. overwritten mid.seen k bytes) (i.size honest) in
    record {
      begun = c.write_through.ensures.kept.0;
      name = c.write_through.ensures.kept.1 ∙ i.name;
      faults = omega (arith, i.faults, c.write_through.ensures.cause.later);
      honest = c.write_through.ensures.honest ∙ i.honest;
      size = λ honest. omega (arith, i.size honest, grown_size mid new bytes (is honest));
      rests = λ honest. grown_rests mid new bytes (i.rests honest) (is honest) (c.in_ok-write_through.ensures.durable (i.honest ∙ honest));
      lines = λ honest. grown_reads mid new bytes (i.rests honest) (is honest) ∙ i.lines honest;
      crash = λ honest.
          grown_crash old mid new (length bytes) (i.rests honest) (i.lines honest) (i.crash honest)
          (subst (λ k. LeavesOnly mid new (λ f. Torn k (length bytes) mid.seen f)) (i.size honest) (c.write_through.ensures.crash (i.honest ∙ honest)));
    }
