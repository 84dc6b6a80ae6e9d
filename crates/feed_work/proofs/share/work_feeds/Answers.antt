-- The answers of numbered shares are those of the shares.
use Rattle.std.proofs.Common.{arith}
use Rattle.feed_work.proofs.Numbering.{answers, numbered_for}
use Rattle.feed_work.proofs.share.work_feeds.Goals as goal

pub work_all-requires-clause-commands : goal.work_all-requires-clause-commands
work_all-requires-clause-commands g c κs facts =
    numbered_for g.F.Floor.mark 1 c.args.shares.items c.in_ok-numbered.numbered.items c.in_ok-numbered.ensures c.requires.commands

pub returns : goal.returns
returns g c =
    let numbered = c.in_ok-numbered.numbered in
    let worked = c.in_ok-worked.worked in
    let count = c.in_ok-worked.ensures.count in
    let n = numbered.ok in
    let w = worked.ok in
    answers g.F.Floor.mark g.F.Floor.at c.args.shares.items numbered.items worked.items c.in_ok-numbered.ensures (omega arith)
    (λ k share one lt p q. c.in_ok-worked.ensures.each k share one (omega arith) p q)
