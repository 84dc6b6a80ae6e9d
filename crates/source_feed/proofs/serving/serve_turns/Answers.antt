-- Turn by turn, to the end.
use Rattle.source_feed.proofs.Links.{gave_none}
use Rattle.source_feed.proofs.Steps.{ends_at}
use Rattle.source_feed.specs.declared.end.FeedEnd.TheVariants.{SourceGone}
use Rattle.source_feed.proofs.serving.serve_turns.Goals as goal

pub turns-init : goal.turns-init
turns-init g c names pace first begun s = s

pub turns-preserved : goal.turns-preserved
turns-preserved g c names pace first begun s =
    c.in-Ok.ensures.goes_on names pace first begun (c.turns.invariant names pace first begun s)

pub returns-in-Err : goal.returns-in-Err
returns-in-Err g c names pace first begun s =
    c.in-Err.ensures.ends names pace first begun (c.turns.invariant names pace first begun s)

pub returns : goal.returns
returns g c names pace first begun s =
    ends_at c.args.config.now names pace first begun (g.K.Link.told c.turns.link) (g.K.Link.told c.turns.link) (g.S.Sink.told c.turns.desk)
    c.turns.serving.session c.turns.serving.conflater SourceGone (c.turns.invariant names pace first begun s) (gave_none (g.K.Link.told c.turns.link)) tt
