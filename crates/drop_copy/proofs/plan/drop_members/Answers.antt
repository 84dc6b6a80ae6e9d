-- The numbers are some of all members' numbers, in their order.
use Rattle.std.proofs.Common.{◌<◌, ℕ, List, length, sym, subst}
use Rattle.std.specs.List.{All}
use Rattle.drop_copy.specs.Desks.{AreRising}
use Rattle.drop_copy.proofs.Ranges.{filtered_below, filtered_rising}
use Rattle.drop_copy.proofs.plan.drop_members.Goals as goal

pub returns-clause-configured : goal.returns-clause-configured
returns-clause-configured c =
    let names = c.as_slice-members.result.now in
    let below = subst (λ (xs : List ℕ). All (λ m. m < length names) xs) (sym c.in_ok-listed_members.ensures) (filtered_below _ (length names)) in
    subst (λ (ns : List (List ℕ)). All (λ m. m < length ns) c.in_ok-listed_members.field-0.items) c.as_slice-members.ensures below

pub returns-clause-rising : goal.returns-clause-rising
returns-clause-rising c =
    subst (λ (xs : List ℕ). AreRising xs) (sym c.in_ok-listed_members.ensures) (filtered_rising _ (length c.as_slice-members.result.now))
