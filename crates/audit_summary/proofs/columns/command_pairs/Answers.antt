use Rattle.std.proofs.Common.{◌∙◌, sym, ap, List, ◌++◌, ℕ, arith}
use Rattle.std.specs.Prelude.{Option, option_to_list}
use Rattle.audit_summary.specs.Columns.{command_in}
use Rattle.audit_summary.proofs.Lists.{filter_map_next}
use Rattle.audit_summary.proofs.columns.command_pairs.Goals as goal

-- one more event is counted
pub loop-event-preserved : goal.loop-event-preserved
loop-event-preserved c =
    let journal = c.args.journal.now in
    let k = c.loop-event.event-index in
    let event = c.event-item.result in
    c.in_ok-push_pair.ensures
    ∙ (ap (λ (pair : Option (ℕ × ℕ)). c.loop-event.pairs.items ++ option_to_list pair) c.command_in.ensures
    ∙ (ap (λ (pairs : List (ℕ × ℕ)). pairs ++ option_to_list (command_in event)) c.loop-event.invariant
    ∙ sym (filter_map_next command_in journal k event (omega arith) c.event-item.is)))
