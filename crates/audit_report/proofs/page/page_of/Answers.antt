use Rattle.std.proofs.Common.{arith}
use Rattle.audit_report.proofs.Weaving.{woven_first, woven_last, woven_to}
use Rattle.audit_report.proofs.page.page_of.Goals as goal

pub loop-place-init : goal.loop-place-init
loop-place-init c = record { woven = woven_first c.in_ok-out.out.items; within = omega arith }

pub loop-place-preserved : goal.loop-place-preserved
loop-place-preserved c = record {
  woven = woven_to c.args.sections.now c.loop-place.out.items c.loop-place.begin c.next_end-end.result _ _
      c.push.new.out.items c.push_between.new.out.items c.push-in-loop-place.new.out.items c.next_end-end.ensures.behind c.loop-place.invariant.woven
      c.in_ok-push.ensures c.in_ok-push_between.ensures c.in_ok-push-2.ensures;
  within = c.next_end-end.ensures.within;
}

pub returns : goal.returns
returns c =
    woven_last c.args.sections.now c.loop-place.out.items c.loop-place.begin _ c.push_rest.new.out.items c.push-2.new.out.items c.loop-place.invariant.woven
    c.in_ok-push_rest.ensures c.in_ok-push-3.ensures
