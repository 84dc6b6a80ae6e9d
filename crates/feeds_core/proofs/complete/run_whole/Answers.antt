-- What is whole is run to its end, or its cause is told.
use Rattle.std.proofs.Common.{inl, inr}
use Rattle.program_words.specs.Words.{texts}
use Rattle.feeds_core.proofs.Wholes.{whole_run}
use Rattle.feeds_core.proofs.complete.run_whole.Goals as goal

pub returns : goal.returns
returns g c = record {
  whole = λ no_read no_write no_text.
      whole_run (g.H.Shelf.told c.args.shelf.now) (texts c.args.words.now) (g.K.Sink.told c.args.out.now) (g.K.Sink.told c.run_feeds.new.out)
      (g.E.Sink.told c.args.err.now) (g.E.Sink.told c.run_feeds.new.err) c.run_feeds.result
      (g.E.Sink.faults c.args.err.now) (g.E.Sink.faults c.run_feeds.new.err) c.run_feeds.ensures.run
      (λ t e r. no_read (c.run_feeds.ensures.caused.read r))
      (λ r. elim (c.run_feeds.ensures.caused.write r) [ inl rose ↦ no_write rose | inr rose ↦ no_text rose ]);
}
