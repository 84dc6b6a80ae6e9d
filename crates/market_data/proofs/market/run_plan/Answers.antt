-- The input that was begun is read, under the config that was read before.
use Rattle.std.proofs.Common.{ℕ, List, IfSome, ◌∙◌, subst}
use Rattle.market_data.specs.Outcomes.{Ran}
use Rattle.market_data.specs.Plan.{plan_in}
use Rattle.market_data.proofs.RunSteps.{input_fed}
use Rattle.market_data.proofs.market.run_plan.Goals as goal

pub returns-in-Ok-begin-clause-runs : goal.returns-in-Ok-begin-clause-runs
returns-in-Ok-begin-clause-runs g c =
    let first = g.H.Shelf.left c.begin.new.self in
    let old = g.K.Sink.told c.args.out.now in
    let new = g.K.Sink.told c.feed_input.new.out in
    let left = g.H.Shelf.left c.feed_input.new.shelf in
    let ran =
    subst (λ (source : List ℕ). IfSome first (λ bytes. Ran c.in-Ok.file.config source bytes old new left c.feed_input.result))
    (c.in-Ok-copy_of.ensures ∙ c.as_bytes.ensures.value) c.feed_input.ensures.ran in
    input_fed (g.H.Shelf.told c.args.shelf.now) (g.H.Shelf.told c.read_config.new.shelf) (plan_in c.args.plan) c.in-Ok.file first old new left c.feed_input.result
    c.in-Ok.ensures.told c.in-Ok.ensures.read c.in-Ok.ensures.missing c.in-Ok-begin.ensures.opens ran
