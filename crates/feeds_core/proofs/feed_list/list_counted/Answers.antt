-- What was listed is what the feed asks.
use Rattle.std.proofs.Common.{sym, ◌∙◌, ap, subst}
use Rattle.venue_words.specs.Floors.{FloorMark, IsSetUpFor}
use Rattle.line_work.specs.Standing.{WorkerView}
use Rattle.feeds_core.proofs.Counted.{comes_asked, counted_of}
use Rattle.feeds_core.proofs.feed_list.list_counted.Goals as goal

pub returns-clause-lists : goal.returns-clause-lists
returns-clause-lists g c =
    comes_asked _ _ _ _ _ _ _ _ (ap (λ (w : WorkerView). w.config) c.in_ok-worker.ensures.fresh ∙ c.in_ok-copy_of.ensures)
    c.in_ok-asked.ensures c.into_lists-listed.ensures.listed c.in-Ok.ensures.comes

pub returns-clause-counted : goal.returns-clause-counted
returns-clause-counted g c =
    counted_of c.args.config.now _ c.lines.new.self.floor _ c.requires.config
    (subst (λ (m : FloorMark). IsSetUpFor c.args.config.now m.setup) (sym c.in-Ok.ensures.setup) c.in_ok-floor.ensures.setup)
    c.in_ok-asked.ensures c.into_lists-listed.ensures.listed c.into_lists-listed.ensures.counts
    c.into_lists-listed.ensures.counted c.into_lists-listed.ensures.asked
