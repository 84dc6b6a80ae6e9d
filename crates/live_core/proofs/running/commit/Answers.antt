use Rattle.std.proofs.Common.{◌∙◌, subst}
use Rattle.day_journal.specs.Disk.{LeavesOnly}
use Rattle.day_journal.specs.Log.{IsAllOrNone}
use Rattle.live_core.proofs.running.commit.Goals as goal

pub returns-in-Err-clause-any_moment : goal.returns-in-Err-clause-any_moment
returns-in-Err-clause-any_moment g c past has_taken stands =
    subst (λ l. LeavesOnly (g.D.Disk.told c.args.log.now.disk) (g.D.Disk.told c.keep.new.log.disk) (IsAllOrNone past l)) (c.deref.ensures.value ∙ (c.in-Ok.ensures.worked past has_taken).0)
    (c.keep.ensures.any_moment past stands)

pub returns-in-Ok-put-clause-any_moment : goal.returns-in-Ok-put-clause-any_moment
returns-in-Ok-put-clause-any_moment g c past has_taken stands =
    subst (λ l. LeavesOnly (g.D.Disk.told c.args.log.now.disk) (g.D.Disk.told c.keep.new.log.disk) (IsAllOrNone past l)) (c.deref.ensures.value ∙ (c.in-Ok.ensures.worked past has_taken).0)
    (c.keep.ensures.any_moment past stands)

pub returns-clause-any_moment : goal.returns-clause-any_moment
returns-clause-any_moment g c past has_taken stands =
    subst (λ l. LeavesOnly (g.D.Disk.told c.args.log.now.disk) (g.D.Disk.told c.keep.new.log.disk) (IsAllOrNone past l)) (c.deref.ensures.value ∙ (c.in-Ok.ensures.worked past has_taken).0)
    (c.keep.ensures.any_moment past stands)
