use Rattle.market_data.proofs.InputSteps.{no_room}
use Rattle.market_data.proofs.input.feed_input.Goals as goal

pub returns-in-Err-clause-ran : goal.returns-in-Err-clause-ran
returns-in-Err-clause-ran g c = no_room c.args.config.now c.args.source (g.H.Shelf.left c.args.shelf.now) (g.K.Sink.told c.args.out.now)
