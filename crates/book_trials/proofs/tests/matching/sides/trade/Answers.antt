use Rattle.std.proofs.Common.{◌≡◌, ap, ◌∙◌}
use Rattle.venue_words.specs.declared.row.Row.{Row}
use Rattle.limit_tree.specs.Part.{Part}
use Rattle.book_trials.proofs.Later.{after_next, later_with, time_found}
use Rattle.book_trials.proofs.tests.matching.sides.trade.Goals as goal

pub put_back-requires-clause-absent : goal.put_back-requires-clause-absent
put_back-requires-clause-absent g c =
    let entry : c.fill.new.node.row.entry ≡ c.in-Some.taken.node.value.row.entry = ap (λ (r : Row). r.entry) c.fill.ensures.row ∙ ap (λ (p : Part). p.row.entry) c.deref_mut.ensures.value in
    rw entry (after_next _ _ _ c.in-Some.taken.node.value.row.entry c.args.event c.take_best-next.result c.in-Some.ensures.by_entry c.requires c.in-Some.ensures.state c.take_best-next.ensures.same c.take_best-next.ensures.state).absent

pub returns-in-None : goal.returns-in-None
returns-in-None g c = rw c.put_back.ensures.state (later_with _ _ c.args.event (time_found c.args.event _ _ _ c.requires.times c.in-Some.ensures.best.held) (after_next _ _ _ c.in-Some.taken.node.value.row.entry c.args.event c.take_best-next.result c.in-Some.ensures.by_entry c.requires c.in-Some.ensures.state c.take_best-next.ensures.same c.take_best-next.ensures.state).later)

pub returns-in-Some-next : goal.returns-in-Some-next
returns-in-Some-next g c = rw c.put_back.ensures.state (later_with _ _ c.args.event (time_found c.args.event _ _ _ c.requires.times c.in-Some.ensures.best.held) (after_next _ _ _ c.in-Some.taken.node.value.row.entry c.args.event c.take_best-next.result c.in-Some.ensures.by_entry c.requires c.in-Some.ensures.state c.take_best-next.ensures.same c.take_best-next.ensures.state).later)
