-- The run ended with the answered status, and came to what the files say.
use Rattle.std.proofs.Common.{◌≡◌, inl, inr, IfSome, sym, ◌∙◌, subst}
use Rattle.market_data.specs.declared.status.MarketStatus.{MarketStatus}
use Rattle.market_data.specs.declared.status.MarketStatus.TheVariants.{ReadFault, WriteFault}
use Rattle.market_data.specs.Plan.{plan_of}
use Rattle.program_words.specs.Words.{texts}
use Rattle.market_feed_laws.specs.Complete.{IsWhole}
use Rattle.market_feed_laws.proofs.Whole.{ended_is, all_whole}
use Rattle.market_feed_laws.proofs.complete.market_feed_whole.Goals as goal

pub returns : goal.returns
returns g c = λ calm_read calm_write calm_tell.
    let run = c.market_feed.ensures.run in
    let told = g.H.Shelf.told c.args.shelf.now in
    let plan = plan_of (texts c.args.words.now) in
    let same : c.market_feed.result ≡ run.0 = ended_is run.0 c.market_feed.result _ _ _ _ calm_tell run.2 in
    let read : run.0 ≡ ReadFault → ⊥ = λ e. calm_read (c.market_feed.ensures.caused.read (same ∙ e)) in
    let write : run.0 ≡ WriteFault → ⊥ = λ e. elim (c.market_feed.ensures.caused.write (same ∙ e)) [ inl r ↦ calm_write r | inr r ↦ calm_tell r ] in
    subst (λ (s : MarketStatus). IfSome told (λ files. IfSome plan (λ p. IsWhole files p s))) (sym same)
    (all_whole told plan _ _ _ run.0 read write run.1.runs)
