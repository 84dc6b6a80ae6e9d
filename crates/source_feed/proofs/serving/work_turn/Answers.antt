-- Each turn ends the session or leaves it after what came.
use Rattle.std.proofs.Common.{take, refl, w64, to_z, of_z}
use Rattle.source_feed.proofs.Steps.{ends_at, ends_lost, heard_piece, goes_on, ends_heard, ends_pass, map_on_ok, map_if_err}
use Rattle.source_feed.proofs.serving.work_turn.Goals as goal

pub returns-in-Err-clause-ends : goal.returns-in-Err-clause-ends
returns-in-Err-clause-ends g c names pace first begun s =
    ends_at c.args.config.now names pace first begun (g.K.Link.told c.args.link.now) (g.K.Link.told c.pull_piece.new.link) (g.S.Sink.told c.args.desk.now)
    c.args.serving.now.session c.args.serving.now.conflater c.in-Err.end s c.in-Err.ensures.none c.in-Err.ensures.end

pub returns-in-Err-work_piece-clause-ends : goal.returns-in-Err-work_piece-clause-ends
returns-in-Err-work_piece-clause-ends g c names pace first begun s =
    ends_lost c.args.config.now names pace first begun (g.K.Link.told c.args.link.now) (g.K.Link.told c.pull_piece.new.link) (g.S.Sink.told c.args.desk.now) (g.S.Sink.told c.args.desk.now)
    c.args.serving.now.session c.args.serving.now.conflater (take c.in-Ok.count c.pull_piece.new.buffer) s c.in-Ok.ensures.gave refl

pub returns-in-Err-pass-clause-ends : goal.returns-in-Err-pass-clause-ends
returns-in-Err-pass-clause-ends g c names pace first begun s =
    let piece = take c.in-Ok.count c.pull_piece.new.buffer in
    let quotes = c.work_piece.new.said.quotes.items in
    let heard =
    heard_piece c.args.config.now names pace first begun (g.K.Link.told c.args.link.now) (g.K.Link.told c.pull_piece.new.link) (g.S.Sink.told c.args.desk.now)
    c.args.serving.now.session c.work_piece.new.session c.args.serving.now.conflater piece (to_z w64 (of_z w64 c.now-moment.result)) quotes s c.in-Ok.ensures.gave
    c.work_piece.ensures.names c.in-Ok-work_piece.ensures.heard in
    ends_pass c.args.config.now names pace first begun (g.K.Link.told c.args.link.now) (g.K.Link.told c.pull_piece.new.link) (g.S.Sink.told c.args.desk.now) (g.S.Sink.told c.pass.new.desk)
    c.args.serving.now.session c.work_piece.new.session c.args.serving.now.conflater piece (to_z w64 (of_z w64 c.now-moment.result)) quotes c.in-Err-pass.end s c.in-Ok.ensures.gave heard c.in-Err-pass.ensures.end

pub returns-in-Ok-put_replies-clause-goes_on : goal.returns-in-Ok-put_replies-clause-goes_on
returns-in-Ok-put_replies-clause-goes_on g c = map_on_ok c.goes_on.result (λ still names pace first begun s.
    let piece = take c.in-Ok.count c.pull_piece.new.buffer in
    let quotes = c.work_piece.new.said.quotes.items in
    let heard =
    heard_piece c.args.config.now names pace first begun (g.K.Link.told c.args.link.now) (g.K.Link.told c.pull_piece.new.link) (g.S.Sink.told c.args.desk.now)
    c.args.serving.now.session c.work_piece.new.session c.args.serving.now.conflater piece (to_z w64 (of_z w64 c.now-moment.result)) quotes s c.in-Ok.ensures.gave
    c.work_piece.ensures.names c.in-Ok-work_piece.ensures.heard in
    goes_on c.args.config.now names pace first begun (g.K.Link.told c.pull_piece.new.link) (g.K.Link.told c.put_replies.new.link) (g.S.Sink.told c.args.desk.now) (g.S.Sink.told c.pass.new.desk)
    c.args.serving.now.conflater c.pass.new.conflater (to_z w64 (of_z w64 c.now-moment.result)) quotes c.work_piece.new.session heard c.in-Ok-pass.ensures.table c.in-Ok-pass.ensures.put
    c.put_replies.ensures.gave still) c.goes_on.ensures.open

pub returns-in-Ok-put_replies-clause-ends : goal.returns-in-Ok-put_replies-clause-ends
returns-in-Ok-put_replies-clause-ends g c = map_if_err c.goes_on.result (λ end is names pace first begun s.
    let piece = take c.in-Ok.count c.pull_piece.new.buffer in
    let quotes = c.work_piece.new.said.quotes.items in
    let heard =
    heard_piece c.args.config.now names pace first begun (g.K.Link.told c.args.link.now) (g.K.Link.told c.pull_piece.new.link) (g.S.Sink.told c.args.desk.now)
    c.args.serving.now.session c.work_piece.new.session c.args.serving.now.conflater piece (to_z w64 (of_z w64 c.now-moment.result)) quotes s c.in-Ok.ensures.gave
    c.work_piece.ensures.names c.in-Ok-work_piece.ensures.heard in
    ends_heard c.args.config.now names pace first begun (g.K.Link.told c.pull_piece.new.link) (g.K.Link.told c.put_replies.new.link) (g.S.Sink.told c.args.desk.now) (g.S.Sink.told c.pass.new.desk)
    c.args.serving.now.conflater (to_z w64 (of_z w64 c.now-moment.result)) quotes c.work_piece.new.session end heard c.in-Ok-pass.ensures.put c.put_replies.ensures.gave is) c.goes_on.ensures.end

pub returns-in-Err-put_replies-clause-ends : goal.returns-in-Err-put_replies-clause-ends
returns-in-Err-put_replies-clause-ends g c names pace first begun s =
    let piece = take c.in-Ok.count c.pull_piece.new.buffer in
    let quotes = c.work_piece.new.said.quotes.items in
    let heard =
    heard_piece c.args.config.now names pace first begun (g.K.Link.told c.args.link.now) (g.K.Link.told c.pull_piece.new.link) (g.S.Sink.told c.args.desk.now)
    c.args.serving.now.session c.work_piece.new.session c.args.serving.now.conflater piece (to_z w64 (of_z w64 c.now-moment.result)) quotes s c.in-Ok.ensures.gave
    c.work_piece.ensures.names c.in-Ok-work_piece.ensures.heard in
    ends_heard c.args.config.now names pace first begun (g.K.Link.told c.pull_piece.new.link) (g.K.Link.told c.put_replies.new.link) (g.S.Sink.told c.args.desk.now) (g.S.Sink.told c.pass.new.desk)
    c.args.serving.now.conflater (to_z w64 (of_z w64 c.now-moment.result)) quotes c.work_piece.new.session c.in-Err-put_replies.end heard c.in-Ok-pass.ensures.put c.put_replies.ensures.gave c.in-Err-put_replies.ensures.end
