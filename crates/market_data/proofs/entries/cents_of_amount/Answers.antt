-- An amount is read as itself.
use Rattle.std.proofs.Common.{◌≡◌, ◌∙◌, to_z, of_z, rules}
use Rattle.std.specs.Int.{w128}
use Rattle.market_data.proofs.EntrySteps.{cents_negative, cents_large, cents_within}
use Rattle.market_data.proofs.entries.cents_of_amount.Goals as goal

pub returns-then-units-lt0 : goal.returns-then-units-lt0
returns-then-units-lt0 c =
    let e : to_z w128 (of_z w128 c.args.units) ≡ c.args.units = search rules in
    cents_negative c.args.units _ e c.if-units-lt0.true

pub returns-then-units-gt-MOST_UNITS : goal.returns-then-units-gt-MOST_UNITS
returns-then-units-gt-MOST_UNITS c =
    let e : to_z w128 (of_z w128 c.args.units) ≡ c.args.units = search rules in
    cents_large c.args.units _ e c.if-units-gt-MOST_UNITS.true

pub returns : goal.returns
returns c =
    let e : to_z w128 (of_z w128 c.args.units) ≡ c.args.units = search rules in
    c.whole_cents.ensures ∙ cents_within c.args.units _ e c.if-units-lt0.false
