use Rattle.std.proofs.Common.{ℕ, List, ◌++◌, decimal, sym, ◌∙◌, ap, append_assoc}
use Rattle.day_core.specs.Statuses.{told_of}
use Rattle.day_core.specs.declared.status.DayStatus.{DayStatus}
use Rattle.day_core.proofs.status.DayStatusEnding.push_told.Goals as goal

pub returns-in-Damaged : goal.returns-in-Damaged
returns-in-Damaged c =
    c.push_number-in-Damaged.ensures.digits
    ∙ ap (λ (text : List ℕ). text ++ decimal c.in-Damaged.at) c.push-in-Damaged.ensures.bytes
    ∙ append_assoc c.args.text.now _ (decimal c.in-Damaged.at)
    ∙ ap (λ (status : DayStatus). c.args.text.now ++ told_of status) (sym c.in-Damaged.is)
