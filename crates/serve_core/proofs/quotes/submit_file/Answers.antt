-- Line by line, up to the end.
use Rattle.std.proofs.Common.{refl, ◌∙◌, ap, arith}
use Rattle.line_reader.specs.Reading.{Reading}
use Rattle.line_reader.specs.NextLaws.{gives_line, gives_end, gives_long, gives_fault}
use Rattle.serve_core.proofs.Over.{taken_within}
use Rattle.serve_core.proofs.QuotesMiddle.{middle_ends, middle_fails, middle_line, middle_long, middle_refused, middle_start}
use Rattle.serve_core.proofs.quotes.submit_file.Goals as goal

pub lines-init : goal.lines-init
lines-init g c =
    let bytes = ap (λ (r : Reading). r.bytes) c.requires.start in
    let most = ap (λ (r : Reading). r.most) c.requires.start in
    record {
      middle = middle_start g.F.Floor.at c.args.config.now _ _ _ c.requires.start;
      most = most;
      mark = refl;
      begun = c.requires.begun;
      within = omega (arith, bytes, most);
      later = omega arith;
      sure = λ sure. sure;
    }

pub submit_line-requires-clause-short : goal.submit_line-requires-clause-short
submit_line-requires-clause-short g c = (gives_line _ _ _ _ _ _ _ c.in-Line.is c.next.follows.holds-at-none).short

pub lines-preserved : goal.lines-preserved
lines-preserved g c =
    let i = c.lines.invariant in
    let x = gives_line _ _ _ _ _ _ _ c.in-Line.is c.next.follows.holds-at-none in
    record {
      middle = middle_line g.F.Floor.at c.args.config.now _ _ _ _ _ _ _ c.lines-number.result _ _ _ _ i.middle x i.most c.lines-number.ensures.lines
          c.in-Ok.ensures.ok.1 c.in-Ok.ensures.ok.2;
      most = ap (λ (r : Reading). r.most) x.next ∙ i.most;
      mark = c.in-Ok.ensures.mark ∙ i.mark;
      begun = c.in-Line.ensures.begun;
      within = taken_within _ _ _ _ _ _ x c.in-Ok.ensures.within;
      later = omega (arith, c.in-Line.ensures.later, i.later);
      sure = λ sure. (c.in-Line.ensures.sure (i.sure sure)).0;
    }

pub returns-in-Err-clause-end : goal.returns-in-Err-clause-end
returns-in-Err-clause-end g c =
    let i = c.lines.invariant in
    let x = gives_line _ _ _ _ _ _ _ c.in-Line.is c.next.follows.holds-at-none in
    middle_refused g.F.Floor.at (g.F.Floor.mark c.args.floor.now) c.args.config.now _ _ _ _ _ _ _ c.lines-number.result c.in-Err.end _ _ _
    i.middle x i.most c.lines-number.ensures.lines (rw i.mark at c.in-Err.ensures.err)

pub end_at-requires : goal.end_at-requires
end_at-requires g c = (gives_end _ _ _ _ _ _ c.in-End.is c.next.follows.holds-at-none).short

pub returns-in-End-clause-end : goal.returns-in-End-clause-end
returns-in-End-clause-end g c =
    let i = c.lines.invariant in
    let x = gives_end _ _ _ _ _ _ c.in-End.is c.next.follows.holds-at-none in
    rw (c.end_at.ensures) (middle_ends g.F.Floor.at (g.F.Floor.mark c.args.floor.now) c.args.config.now _ _ _ _ _ _ c.lines-number.result _ _
    i.middle x c.lines-number.ensures.lines)

pub returns-in-TooLong-clause-end : goal.returns-in-TooLong-clause-end
returns-in-TooLong-clause-end g c =
    let x = gives_long _ _ _ _ _ c.in-TooLong.is c.next.follows.holds-at-none in
    middle_long g.F.Floor.at (g.F.Floor.mark c.args.floor.now) c.args.config.now _ _ _ _ _ c.lines-number.result _ _
    c.lines.invariant.middle x c.lines-number.ensures.lines

pub returns-in-ReadFault-clause-end : goal.returns-in-ReadFault-clause-end
returns-in-ReadFault-clause-end g c =
    let x = gives_fault _ _ _ _ _ c.in-ReadFault.is c.next.follows.holds-at-none in
    middle_fails g.F.Floor.at (g.F.Floor.mark c.args.floor.now) c.args.config.now _ _ _ _ _ _ _ c.lines.invariant.middle x
