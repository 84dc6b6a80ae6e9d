use Rattle.std.proofs.Common.{◌≡◌, ◌++◌, vec_len}
use Rattle.eager_meaning.specs.Step.{reports_from}
use Rattle.plain_market.proofs.plain.push_reports.Given as goal

-- the reports so far and those of the notices that are left
abbrev pub invariant-loop-notices : goal.invariant-loop-notices
invariant-loop-notices l =
    l.reports.items ++ reports_from l.place l.event l.notices.items
    ≡ l.initial.reports.items ++ reports_from 1 l.event l.fn.notices.items

abbrev pub decreases-loop-notices : goal.decreases-loop-notices
decreases-loop-notices l = vec_len l.notices
