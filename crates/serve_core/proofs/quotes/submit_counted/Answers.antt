-- The floor took the quote, or none.
use Rattle.std.proofs.Common.{◌≡◌, ◌∷◌, [], ℤ, to_z, of_z, w64, rules, subst}
use Rattle.std.proofs.lemmas.Result.{IfErr-weaker, on_ok_weaker}
use Rattle.member_gate.specs.Submitting.{TookAll}
use Rattle.serve_core.specs.Quoting.{quote_in}
use Rattle.serve_core.proofs.Grows.{grew_all, grew_left}
use Rattle.serve_core.proofs.quotes.submit_counted.Goals as goal

pub returns-clause-took : goal.returns-clause-took
returns-clause-took g c =
    let e : to_z w64 (of_z w64 c.args.moment) ≡ c.args.moment = search rules in
    let mark = g.F.Floor.mark c.args.floor.now in
    let Took = λ (m : ℤ). TookAll g.F.Floor.at g.F.Floor.step_limit mark c.args.feed m (quote_in c.args.quote.now ∷ [])
    (c.args.floor.now, c.start-steps.result) (c.submit.new.floor, c.submit.new.steps) in
    on_ok_weaker c.submit.result
    (λ took symbol. grew_all g.F.Floor.at g.F.Floor.step_limit mark c.args.feed c.args.moment (quote_in c.args.quote.now ∷ [])
    (c.args.floor.now, c.start-steps.result) (c.submit.new.floor, c.submit.new.steps) (subst Took e took) symbol) c.submit.ensures.took

pub returns-clause-none : goal.returns-clause-none
returns-clause-none g c =
    let mark = g.F.Floor.mark c.args.floor.now in
    let moment = to_z w64 (of_z w64 c.args.moment) in
    IfErr-weaker c.submit.result _ _
    (λ refusal none. (
      λ symbol. grew_left g.F.Floor.at g.F.Floor.step_limit mark c.args.feed moment refusal (quote_in c.args.quote.now ∷ [])
          (c.args.floor.now, c.start-steps.result) (c.submit.new.floor, c.submit.new.steps) none symbol,
      none.full,
    )) c.submit.ensures.none
