-- The lines that the session adds are those that are put.
use Rattle.std.proofs.Common.{◌≡◌, ◌++◌, ℕ, List, ap, ◌∙◌, subst}
use Rattle.std.specs.Io.KnownBytes.{Appends}
use Rattle.io_edge.specs.Grows.{AppendsPrefix}
use Rattle.market_data.proofs.FeedingSteps.{stands_more}
use Rattle.market_data.proofs.InputSteps.{appends_none}
use Rattle.market_data.proofs.input.feed_piece.Goals as goal

pub returns-in_default-clause-stopped : goal.returns-in_default-clause-stopped
returns-in_default-clause-stopped g c source bytes stands =
    let more = stands_more c.args.config.now source bytes c.args.piece.now c.args.session.now stands in
    record { added = more.0; lines = more.1; grew = (0, appends_none (g.K.Sink.told c.args.out.now)) }

pub returns-in-Ok-put-clause-put : goal.returns-in-Ok-put-clause-put
returns-in-Ok-put-clause-put g c source bytes stands =
    let r = c.in-Ok.ensures.adds source bytes stands in
    let text : c.deref.result.now ≡ r.0 = c.deref.ensures.value ∙ r.1 ∙ ap (λ (t : List ℕ). t ++ r.0) c.clear.ensures.items in
    (r.0, subst (λ (t : List ℕ). Appends (g.K.Sink.told c.args.out.now) (g.K.Sink.told c.put.new.self) t) text c.in-Ok-put.ensures.bytes, r.2)

pub returns-in-Err-clause-stopped : goal.returns-in-Err-clause-stopped
returns-in-Err-clause-stopped g c source bytes stands =
    let r = c.in-Ok.ensures.adds source bytes stands in
    let text : c.deref.result.now ≡ r.0 = c.deref.ensures.value ∙ r.1 ∙ ap (λ (t : List ℕ). t ++ r.0) c.clear.ensures.items in
    record { added = r.0; lines = r.2.lines; grew = subst (λ (t : List ℕ). AppendsPrefix (g.K.Sink.told c.args.out.now) (g.K.Sink.told c.put.new.self) t) text c.in-Err.ensures.bytes }
