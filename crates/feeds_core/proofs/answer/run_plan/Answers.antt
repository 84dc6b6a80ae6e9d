-- What was read is run.
use Rattle.venue_words.specs.declared.limits.TheConstants.{MAX_CONFIG_BYTES}
use Rattle.line_reader.specs.ConfigFile.{config_file}
use Rattle.feeds_core.specs.FeedPlan.{plan_in}
use Rattle.feeds_core.specs.FeedRuns.{Outcome}
use Rattle.feeds_core.specs.RunFiles.{Holds}
use Rattle.feeds_core.proofs.Outcomes.{told_hold}
use Rattle.feeds_core.proofs.answer.run_plan.Goals as goal

pub returns-in-Ok-clause-files : goal.returns-in-Ok-clause-files
returns-in-Ok-clause-files g c =
    told_hold (λ texts. Holds texts c.in-Ok.files)
    (λ texts. Outcome (config_file MAX_CONFIG_BYTES texts.config) texts.feeds (g.K.Sink.told c.args.out.now) (g.K.Sink.told c.run_files.new.out)
    c.run_files.result.name c.run_files.result.status)
    (g.H.Shelf.told c.args.shelf.now) (plan_in c.args.plan) c.in-Ok.ensures.holds (λ t h. c.run_files.ensures.outcome t h)
