-- Files and sinks that never fail leave no other status.
use Rattle.std.proofs.Common.{None, Some, inl, inr, rules}
use Rattle.io_edge.specs.Memory.{files_of}
use Rattle.program_words.specs.Words.{texts}
use Rattle.feeds_core.specs.FeedPlan.{plan_of}
use Rattle.feeds_core.proofs.Wholes.{has_files, none_rises, whole_run}
use Rattle.feeds_core.proofs.complete.run_surely.Goals as goal

pub returns : goal.returns
returns g c = record {
  whole =
      whole_run (Some (files_of c.args.shelf.now.stock.files.items)) (texts c.args.words.now) None None None None c.run_feeds.result 0 0
      c.run_feeds.ensures.run
      (λ t e r. c.run_feeds.ensures.sure (search rules)
      (has_files (Some (files_of c.args.shelf.now.stock.files.items)) (plan_of (texts c.args.words.now)) t e) r)
      (λ r. elim (c.run_feeds.ensures.caused.write r) [ inl rose ↦ none_rises rose | inr rose ↦ none_rises rose ]);
}
