-- The session begins before the first byte.
use Rattle.std.proofs.Common.{◌∙◌}
use Rattle.source_feed.proofs.Links.{gave_none}
use Rattle.source_feed.proofs.Steps.{stands_first, ends_at}
use Rattle.source_feed.specs.declared.end.FeedEnd.TheVariants.{NoMemory}
use Rattle.source_feed.proofs.serving.serve_source.Goals as goal

pub returns-in-Err : goal.returns-in-Err
returns-in-Err g c =
    let link = g.K.Link.told c.args.link.now in
    let desk = g.S.Sink.told c.args.desk.now in
    ends_at c.args.config.now c.args.setup.names c.args.setup.pace link desk link (g.K.Link.told c.log_on.new.link) desk c.begin-serving.result.session c.begin-serving.result.conflater c.in-Err.end
    (stands_first c.args.config.now c.args.setup.names c.args.setup.pace link desk link c.begin-serving.result.session c.begin-serving.result.conflater (gave_none link) c.begin-serving.ensures.session c.begin-serving.ensures.conflater)
    c.log_on.ensures.gave c.in-Err.ensures.end

pub returns-in-Ok-buffer_of : goal.returns-in-Ok-buffer_of
returns-in-Ok-buffer_of g c =
    let link = g.K.Link.told c.args.link.now in
    let desk = g.S.Sink.told c.args.desk.now in
    c.serve_turns.ensures c.args.setup.names c.args.setup.pace link desk
    (stands_first c.args.config.now c.args.setup.names c.args.setup.pace link desk (g.K.Link.told c.log_on.new.link) c.log_on.new.serving.session c.log_on.new.serving.conflater
    c.log_on.ensures.gave (c.log_on.ensures.session ∙ c.begin-serving.ensures.session) (c.log_on.ensures.conflater ∙ c.begin-serving.ensures.conflater))

pub returns : goal.returns
returns g c =
    let link = g.K.Link.told c.args.link.now in
    let now = g.K.Link.told c.log_on.new.link in
    let desk = g.S.Sink.told c.args.desk.now in
    ends_at c.args.config.now c.args.setup.names c.args.setup.pace link desk now now desk c.log_on.new.serving.session c.log_on.new.serving.conflater NoMemory
    (stands_first c.args.config.now c.args.setup.names c.args.setup.pace link desk now c.log_on.new.serving.session c.log_on.new.serving.conflater
    c.log_on.ensures.gave (c.log_on.ensures.session ∙ c.begin-serving.ensures.session) (c.log_on.ensures.conflater ∙ c.begin-serving.ensures.conflater))
    (gave_none now) tt
