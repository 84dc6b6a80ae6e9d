use Rattle.std.proofs.Common.{◌≡◌, ◌+◌, arith, ap, sym, ◌∙◌, subst}
use Rattle.venue_words.specs.declared.row.Row.{Row}
use Rattle.peg_groups.specs.Side.{IsLaterThan, SideState}
use Rattle.book_trials.proofs.Later.{later_more, later_repriced, later_with}
use Rattle.book_trials.proofs.tests.matching.sides.perform.Goals as goal

pub returns-in_ok-reserve-in-Quote : goal.returns-in_ok-reserve-in-Quote
returns-in_ok-reserve-in-Quote g c =
    let later = subst (λ (side : SideState). IsLaterThan side c.args.event) (sym c.in_ok-reserve-in-Quote.ensures.state) c.requires in
    rw c.reprice.ensures.state (later_repriced _ c.args.event _ later.times)

pub returns-in_ok-reserve-in-Put : goal.returns-in_ok-reserve-in-Put
returns-in_ok-reserve-in-Put g c =
    let later = subst (λ (side : SideState). IsLaterThan side c.args.event) (sym c.in_ok-reserve-in-Put.ensures.state) c.requires in
    let entry : c.in_ok-node-in-Put.node.value.row.entry ≡ c.args.event = ap (λ (r : Row). r.entry) c.in_ok-node-in-Put.ensures.1 ∙ c.row-row.ensures.entry in
    rw c.put.ensures.state (later_with _ _ (c.args.event + 1) (omega arith) (later_more _ c.args.event (c.args.event + 1) (omega arith) later))
