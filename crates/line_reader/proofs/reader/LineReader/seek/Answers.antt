use Rattle.line_reader.specs.ReadingLaws.{reads_none, reads_more}
use Rattle.std.proofs.Common.{refl, arith, rules}
use Rattle.line_reader.proofs.Windows.{too_long, too_long_yet}
use Rattle.line_reader.proofs.reader.LineReader.seek.Goals as goal

pub loop-len-init : goal.loop-len-init
loop-len-init g c = record {
  inside = omega arith;
  none = refl;
  same = refl;
  reads = reads_none _ _;
  told = refl;
  begun = c.requires.begun;
  later = omega arith;
  sure = λ sure. sure;
}

pub returns-then-len-gt-MAX_LINE_BYTES-clause-finds : goal.returns-then-len-gt-MAX_LINE_BYTES-clause-finds
returns-then-len-gt-MAX_LINE_BYTES-clause-finds g c =
    too_long c.in-Some.len c.loop-len.self.held (omega arith) (omega (arith, c.in-Some.ensures.within)) c.in-Some.ensures.clear

pub returns-then-clear-gt-MAX_LINE_BYTES-clause-finds : goal.returns-then-clear-gt-MAX_LINE_BYTES-clause-finds
returns-then-clear-gt-MAX_LINE_BYTES-clause-finds g c = too_long_yet c.loop-len.self.held (omega (arith, c.held-clear.ensures)) c.in_default.ensures.none

pub returns-in-Err-clause-reads : goal.returns-in-Err-clause-reads
returns-in-Err-clause-reads g c = reads_more _ _ _ _ _ _ c.loop-len.invariant.reads c.in-Err.ensures.reads.0

pub returns-in-Err-clause-finds : goal.returns-in-Err-clause-finds
returns-in-Err-clause-finds g c = search rules
