use Rattle.std.proofs.Common.{Ok, arith, sym, ◌∙◌, ap, subst}
use Rattle.line_reader.specs.ConfigFile.{IsMeant}
use Rattle.line_reader.specs.Reading.{Reading}
use Rattle.line_reader.specs.NextLaws.{gives_line, gives_end, gives_long}
use Rattle.line_reader.proofs.ConfigSteps.{line_read, kept_read, line_refused, said_whole, said_more, said_fault, said_end, said_long}
use Rattle.line_reader.proofs.config_file.read_lines.Goals as goal

pub returns-in-Ok-true-clause-ok : goal.returns-in-Ok-true-clause-ok
returns-in-Ok-true-clause-ok g c text e =
    let x = gives_line _ _ _ _ _ _ _ c.in-Line.is c.next.follows.holds-at-none in
    let whole = ap Ok (sym c.in-Ok-true.field-0-test) ∙ sym c.in-Ok-true.is ∙ c.weigh.ensures in
    let step = line_read _ _ _ _ c.loop-text.header c.line.new.self _ _ _ c.line.result c.lines-line.result x c.lines-line.ensures.lines c.line.ensures.line whole in
    let said = c.loop-text.invariant.said text e in
    said_whole _ _ _ _ _ c.loop-text.header c.line.new.self _ _ said.0 x step.0 said.1 said.2

pub loop-text-preserved : goal.loop-text-preserved
loop-text-preserved g c =
    let x = gives_line _ _ _ _ _ _ _ c.in-Line.is c.next.follows.holds-at-none in
    let whole = ap Ok (sym c.in-Ok-false.field-0-test) ∙ sym c.in-Ok-false.is ∙ c.weigh.ensures in
    let step = line_read _ _ _ _ c.loop-text.header c.line.new.self _ _ _ c.line.result c.lines-line.result x c.lines-line.ensures.lines c.line.ensures.line whole in record {
      said = λ text e.
          let said = c.loop-text.invariant.said text e in
          said_more _ _ _ _ _ c.loop-text.header c.line.new.self _ _ said.0 x step.0 said.1 said.2;
      most = ap (λ (r : Reading). r.most) x.next ∙ c.loop-text.invariant.most;
      within = step.1;
      config = kept_read _ _ c.line.result _ _ whole c.line.ensures.config c.loop-text.invariant.config;
      told = c.in-Line.ensures.told ∙ c.loop-text.invariant.told;
      begun = c.in-Line.ensures.begun;
      later = omega (arith, c.in-Line.ensures.later, c.loop-text.invariant.later);
      sure = λ s. (c.in-Line.ensures.sure (c.loop-text.invariant.sure s)).0;
    }

pub returns-in-Err-clause-err : goal.returns-in-Err-clause-err
returns-in-Err-clause-err g c text e =
    let x = gives_line _ _ _ _ _ _ _ c.in-Line.is c.next.follows.holds-at-none in
    let refused = line_refused _ _ _ _ c.loop-text.header c.line.new.self _ _ c.line.result c.lines-line.result c.in-Err.fault x
    c.lines-line.ensures.lines c.line.ensures.line (sym c.in-Err.is ∙ c.weigh.ensures) in
    let said = c.loop-text.invariant.said text e in
    subst (IsMeant _) (sym c.fault_of.ensures) (said_fault _ _ _ _ _ c.loop-text.header _ _ said.0 c.in-Err.fault x refused said.1 said.2)

pub returns-in-End-clause-err : goal.returns-in-End-clause-err
returns-in-End-clause-err g c text e =
    let x = gives_end _ _ _ _ _ _ c.in-End.is c.next.follows.holds-at-none in
    let said = c.loop-text.invariant.said text e in
    rw c.lines-line.ensures.lines (said_end _ _ _ _ _ c.loop-text.header _ said.0 x said.1 said.2)

pub returns-in-TooLong-clause-err : goal.returns-in-TooLong-clause-err
returns-in-TooLong-clause-err g c text e =
    let x = gives_long _ _ _ _ _ c.in-TooLong.is c.next.follows.holds-at-none in
    let said = c.loop-text.invariant.said text e in
    rw c.lines-line.ensures.lines (said_long _ _ _ _ _ c.loop-text.header said.0 x said.1 said.2)
