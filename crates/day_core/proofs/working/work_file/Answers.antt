use Rattle.std.proofs.Common.{ℕ, ◌+◌, List, length, nat_le, Vec, refl, ◌∙◌, ap, arith}
use Rattle.std.specs.declared.alloc.Global.{Global}
use Rattle.line_reader.specs.Reading.{Reading}
use Rattle.line_reader.specs.NextLaws.{gives_line, gives_end, gives_long, gives_fault}
use Rattle.day_core.proofs.Endings.{cut_off, end_differs, line_ends, long_differs, long_limit, script_ends}
use Rattle.day_core.proofs.Middles.{at_next, at_start, kept_at, line_at, not_kept_at, room}
use Rattle.day_core.proofs.working.work_file.Goals as goal

pub loop-text-init : goal.loop-text-init
loop-text-init g c =
    let bytes = ap (λ (r : Reading). r.bytes) c.requires.start in
    let most = ap (λ (r : Reading). r.most) c.requires.start in
    record {
      here = at_start g.F.Floor.at g.D.Disk.told _ _ _ _ _ _ c.requires.start c.requires.place c.requires.unspent c.requires.size c.requires.holds
          (λ honest file left. g.met.D.Disk.only_now c.args.journal.now.log.disk file honest left);
      had = refl;
      named = refl;
      most = most;
      within = omega (arith, bytes, most);
      ready = c.requires.ready;
      begun = c.requires.begun;
      read_later = omega arith;
      write_later = omega arith;
      disk_later = omega arith;
      sure = λ sure. sure;
    }

pub loop-text-preserved : goal.loop-text-preserved
loop-text-preserved g c =
    let i = c.loop-text.invariant in
    let x = gives_line _ _ _ _ _ _ _ c.in-Line.is c.next.follows.holds-at-none in
    let line = line_at g.F.Floor.at _ _ _ _ _ _ _ c.loop-text.work.phase _ _ _ _ c.lines-number.result i.here.day x c.lines-number.ensures.lines i.most in
    let puts = c.in-Ok.ensures.puts i.here.day.place i.here.day.there line in
    let kept = kept_at g.D.Disk.told c.loop-text.journal.lines.items c.args.journal.now.lines.items c.loop-text.journal.log c.work_line.new.journal.log
    c.lines-number.result c.loop-text.reader.lines c.in-Line.text.now (ap (λ (l : Vec (List ℕ) Global). l.items) i.had) c.lines-number.ensures.lines
    c.in-Ok.ensures.kept in
    let here = at_next g.F.Floor.at g.D.Disk.told _ _ _ _ _ _ _ _ c.loop-text.work.phase _ c.args.journal.now.lines.items
    (g.D.Disk.told c.args.journal.now.log.disk) c.loop-text.journal.log c.work_line.new.journal.log _ _ i.here (λ honest. (c.requires.holds honest).reads) x puts kept in
    record {
      here = here;
      had = c.in-Ok.ensures.had ∙ i.had;
      named = c.in-Ok.ensures.named ∙ i.named;
      most = ap (λ (r : Reading). r.most) x.next ∙ i.most;
      within = omega (arith, here.day.within, ap (λ (r : Reading). r.most) x.next, i.most);
      ready = c.in-Ok.ensures.ready;
      begun = c.in-Line.ensures.begun;
      read_later = omega (arith, c.in-Line.ensures.later, i.read_later);
      write_later = omega (arith, c.in-Ok.ensures.later, i.write_later);
      disk_later = omega (arith, c.in-Ok.ensures.disk_later, i.disk_later);
      sure = λ sure. (c.in-Line.ensures.sure (i.sure sure)).0;
    }

pub work_line-requires-clause-room : goal.work_line-requires-clause-room
work_line-requires-clause-room g c = λ less.
    let i = c.loop-text.invariant in
    room g.F.Floor.at g.D.Disk.told _ _ _ _ _ c.loop-text.work.phase c.args.journal.now.lines.items
    (g.D.Disk.told c.args.journal.now.log.disk) c.loop-text.journal.log i.here
    (omega (arith, less, ap (λ (l : Vec (List ℕ) Global). length l.items) i.had, c.lines-number.ensures.lines))

pub returns-in-Err-clause-ran : goal.returns-in-Err-clause-ran
returns-in-Err-clause-ran g c =
    let i = c.loop-text.invariant in
    let x = gives_line _ _ _ _ _ _ _ c.in-Line.is c.next.follows.holds-at-none in
    let line = line_at g.F.Floor.at _ _ _ _ _ _ _ c.loop-text.work.phase _ _ _ _ c.lines-number.result i.here.day x c.lines-number.ensures.lines i.most in
    let not_kept = not_kept_at g.D.Disk.told c.loop-text.journal.lines.items c.args.journal.now.lines.items c.loop-text.journal.log
    c.work_line.new.journal.log c.lines-number.result c.loop-text.reader.lines c.in-Line.text.now c.in-Err.status
    (ap (λ (l : Vec (List ℕ) Global). l.items) i.had) c.lines-number.ensures.lines c.in-Err.ensures.not_kept in
    line_ends g.F.Floor.at g.D.Disk.told _ _ _ _ _ _ _ _ c.loop-text.work.phase _ c.args.journal.now.lines.items
    (g.D.Disk.told c.args.journal.now.log.disk) c.loop-text.journal.log c.work_line.new.journal.log _ _ c.in-Err.status
    (record { here = i.here; found = λ honest. (c.requires.holds honest).reads; handed = x })
    (c.in-Err.ensures.ends i.here.day.place i.here.day.there line) not_kept
    (λ honest at file le may. g.met.D.Disk.counts_now c.work_line.new.journal.log.disk at file honest le may)

pub returns-in-ReadFault-clause-ran : goal.returns-in-ReadFault-clause-ran
returns-in-ReadFault-clause-ran g c =
    let i = c.loop-text.invariant in
    cut_off g.F.Floor.at g.D.Disk.told _ _ _ _ _ _ _ c.loop-text.work.phase c.args.journal.now.lines.items
    (g.D.Disk.told c.args.journal.now.log.disk) c.loop-text.journal.log i.here
    (gives_fault _ _ _ _ _ c.in-ReadFault.is c.next.follows.holds-at-none)

pub returns-then-had-clause-ran : goal.returns-then-had-clause-ran
returns-then-had-clause-ran g c =
    let i = c.loop-text.invariant in
    end_differs g.F.Floor.at g.D.Disk.told _ _ _ _ _ _ _ c.loop-text.work.phase c.args.journal.now.lines.items
    (g.D.Disk.told c.args.journal.now.log.disk) c.loop-text.journal.log c.in-End.rest.now (c.lines-number.result + 1) c.had.result i.here
    (gives_end _ _ _ _ _ _ c.in-End.is c.next.follows.holds-at-none) (ap (λ (n : ℕ). n + 1) c.lines-number.ensures.lines)
    (c.had.ensures ∙ ap (λ (l : Vec (List ℕ) Global). nat_le (c.lines-number.result + 1) (length l.items)) i.had) c.if-had.true

pub returns-in-End-clause-ran : goal.returns-in-End-clause-ran
returns-in-End-clause-ran g c =
    let i = c.loop-text.invariant in
    rw (c.ending.ensures.status i.here.day.place i.here.day.there (ap (λ (n : ℕ). n + 1) (c.lines-number.ensures.lines ∙ i.here.day.lines_are)))
    (script_ends g.F.Floor.at g.D.Disk.told _ _ _ _ _ _ _ c.loop-text.work.phase c.args.journal.now.lines.items
    (g.D.Disk.told c.args.journal.now.log.disk) c.loop-text.journal.log c.in-End.rest.now (c.lines-number.result + 1) c.had.result i.here
    (gives_end _ _ _ _ _ _ c.in-End.is c.next.follows.holds-at-none) (ap (λ (n : ℕ). n + 1) c.lines-number.ensures.lines)
    (c.had.ensures ∙ ap (λ (l : Vec (List ℕ) Global). nat_le (c.lines-number.result + 1) (length l.items)) i.had) c.if-had.false)

pub returns-then-had-2-clause-ran : goal.returns-then-had-2-clause-ran
returns-then-had-2-clause-ran g c =
    let i = c.loop-text.invariant in
    long_differs g.F.Floor.at g.D.Disk.told _ _ _ _ _ _ _ c.loop-text.work.phase c.args.journal.now.lines.items
    (g.D.Disk.told c.args.journal.now.log.disk) c.loop-text.journal.log (c.lines-number.result + 1) c.had-in-TooLong.result i.here
    (λ honest. (c.requires.holds honest).reads)
    (gives_long _ _ _ _ _ c.in-TooLong.is c.next.follows.holds-at-none) (ap (λ (n : ℕ). n + 1) c.lines-number.ensures.lines)
    (c.had-in-TooLong.ensures ∙ ap (λ (l : Vec (List ℕ) Global). nat_le (c.lines-number.result + 1) (length l.items)) i.had) c.if-had-2.true

pub returns-in-TooLong-clause-ran : goal.returns-in-TooLong-clause-ran
returns-in-TooLong-clause-ran g c =
    let i = c.loop-text.invariant in
    long_limit g.F.Floor.at g.D.Disk.told _ _ _ _ _ _ _ c.loop-text.work.phase c.args.journal.now.lines.items
    (g.D.Disk.told c.args.journal.now.log.disk) c.loop-text.journal.log (c.lines-number.result + 1) c.had-in-TooLong.result i.here
    (gives_long _ _ _ _ _ c.in-TooLong.is c.next.follows.holds-at-none) (ap (λ (n : ℕ). n + 1) c.lines-number.ensures.lines)
    (c.had-in-TooLong.ensures ∙ ap (λ (l : Vec (List ℕ) Global). nat_le (c.lines-number.result + 1) (length l.items)) i.had) c.if-had-2.false
