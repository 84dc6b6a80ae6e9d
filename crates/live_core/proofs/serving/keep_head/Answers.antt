use Rattle.std.proofs.Common.{ℕ, List, [], length, sym, ◌∙◌, ap, subst, arith}
use Rattle.day_journal.specs.Disk.{LeavesOnly}
use Rattle.day_journal.specs.Log.{IsAllOrNone}
use Rattle.live_core.specs.Live.{Stands}
use Rattle.live_core.proofs.Laws.{kept-all}
use Rattle.live_core.proofs.serving.keep_head.Goals as goal

pub returns-in-Ok-keep-clause-has_taken : goal.returns-in-Ok-keep-clause-has_taken
returns-in-Ok-keep-clause-has_taken g c =
    let head : List (List ℕ) = c.args.head.items in
    let worked = c.in-Ok.ensures.worked [] c.requires.start in
    let all = kept-all g.M.Machine.yields [] head (ap length (sym worked.0) ∙ omega (arith, c.len.ensures, c.len-count.ensures, c.if-len-count.false)) in
    subst (g.M.Machine.has_taken c.work_all.new.machine) (worked.0 ∙ all) worked.2

pub returns-in-Ok-keep-clause-stands : goal.returns-in-Ok-keep-clause-stands
returns-in-Ok-keep-clause-stands g c stands =
    let head : List (List ℕ) = c.args.head.items in
    let worked = c.in-Ok.ensures.worked [] c.requires.start in
    let all = kept-all g.M.Machine.yields [] head (ap length (sym worked.0) ∙ omega (arith, c.len.ensures, c.len-count.ensures, c.if-len-count.false)) in
    subst (λ l. Stands l (g.D.Disk.told c.keep.new.log.disk)) (c.deref.ensures.value ∙ worked.0 ∙ all) (c.in-Ok-keep.ensures.stands [] stands)

pub returns-in-Ok-keep-clause-any_moment : goal.returns-in-Ok-keep-clause-any_moment
returns-in-Ok-keep-clause-any_moment g c stands =
    let head : List (List ℕ) = c.args.head.items in
    let worked = c.in-Ok.ensures.worked [] c.requires.start in
    let all = kept-all g.M.Machine.yields [] head (ap length (sym worked.0) ∙ omega (arith, c.len.ensures, c.len-count.ensures, c.if-len-count.false)) in
    subst (λ l. LeavesOnly (g.D.Disk.told c.args.log.now.disk) (g.D.Disk.told c.keep.new.log.disk) (IsAllOrNone [] l)) (c.deref.ensures.value ∙ worked.0 ∙ all)
    (c.keep.ensures.any_moment [] stands)

pub returns-clause-any_moment : goal.returns-clause-any_moment
returns-clause-any_moment g c stands =
    let head : List (List ℕ) = c.args.head.items in
    let worked = c.in-Ok.ensures.worked [] c.requires.start in
    let all = kept-all g.M.Machine.yields [] head (ap length (sym worked.0) ∙ omega (arith, c.len.ensures, c.len-count.ensures, c.if-len-count.false)) in
    subst (λ l. LeavesOnly (g.D.Disk.told c.args.log.now.disk) (g.D.Disk.told c.keep.new.log.disk) (IsAllOrNone [] l)) (c.deref.ensures.value ∙ worked.0 ∙ all)
    (c.keep.ensures.any_moment [] stands)

pub returns-in-Ok-keep-clause-taken : goal.returns-in-Ok-keep-clause-taken
returns-in-Ok-keep-clause-taken g c =
    let head : List (List ℕ) = c.args.head.items in
    let worked = c.in-Ok.ensures.worked [] c.requires.start in
    kept-all g.M.Machine.yields [] head (ap length (sym worked.0) ∙ omega (arith, c.len.ensures, c.len-count.ensures, c.if-len-count.false))
