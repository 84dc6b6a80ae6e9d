use Rattle.std.proofs.Common.{sym, ◌∙◌, arith}
use Rattle.audit_tables.proofs.Pairing.{traded_here, traded_none, traded_not}
use Rattle.audit_tables.proofs.trade_line.next_traded.Goals as goal

pub loop-place-preserved : goal.loop-place-preserved
loop-place-preserved c =
    sym (traded_not c.args.reports.now c.loop-place.place c.index-reports-place.result (omega arith) c.index-reports-place.is (sym c.is_traded.ensures ∙ c.if-is_traded.false))
    ∙ c.loop-place.invariant

pub returns-then-is_traded-clause-some : goal.returns-then-is_traded-clause-some
returns-then-is_traded-clause-some c =
    traded_here c.args.reports.now c.args.start c.loop-place.place c.index-reports-place.result c.loop-place.invariant (omega arith) (omega arith) c.index-reports-place.is
    (sym c.is_traded.ensures ∙ c.if-is_traded.true)

pub returns-clause-none : goal.returns-clause-none
returns-clause-none c = λ is. sym c.loop-place.invariant ∙ traded_none c.args.reports.now c.loop-place.place (omega arith)
