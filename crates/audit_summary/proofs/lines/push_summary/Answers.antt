use Rattle.std.proofs.Common.{◌≡◌, ◌<◌, ◌++◌, ◌∙◌, ℕ, ap, length, arith}
use Rattle.audit_summary.specs.Summaries.{lines_to}
use Rattle.audit_summary.proofs.Lining.{last_line, next_line}
use Rattle.audit_summary.proofs.lines.push_summary.Goals as goal

pub loop-member-preserved : goal.loop-member-preserved
loop-member-preserved c =
    let lt : c.loop-member.member < length c.args.config.now.members = omega (arith, c.loop-member-test.true, c.len-member-end.ensures) in
    next_line c.args.config.now c.args.symbol c.args.book.now.journal c.in_ok-sums.sums c.loop-member.member c.args.out.now.items c.loop-member.out.items
    c.push_line.new.out.items c.in_ok-sums.ensures lt c.loop-member.invariant c.in_ok-push_line.ensures

pub returns : goal.returns
returns c =
    let config = c.args.config.now in
    let journal = c.args.book.now.journal in
    let all : c.loop-member.member ≡ length config.members = omega arith in
    last_line config c.args.symbol journal c.in_ok-sums.sums c.args.out.now.items c.loop-member.out.items c.push_line-2.new.out.items c.in_ok-sums.ensures
    (c.loop-member.invariant ∙ ap (λ (n : ℕ). c.args.out.now.items ++ lines_to n config c.args.symbol journal) all) c.in_ok-push_line-2.ensures
