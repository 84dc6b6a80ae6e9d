-- The bytes before and the piece say what the stream says.
use Rattle.serve_core.proofs.Greetings.{said_behind, on_behind}
use Rattle.serve_core.proofs.greeting.hear.Goals as goal

pub returns-clause-said : goal.returns-clause-said
returns-clause-said c =
    said_behind c.args.config.now c.args.framer.now.kept c.feed.new.self.kept c.args.piece.now c.next_greeting.result
    c.in_ok-feed.ensures.kept c.next_greeting.ensures.said

pub returns-clause-on : goal.returns-clause-on
returns-clause-on c e bytes same =
    on_behind c.args.config.now c.args.framer.now.kept c.feed.new.self.kept c.args.piece.now bytes c.next_greeting.new.framer.kept
    c.in_ok-feed.ensures.kept (c.next_greeting.ensures.on e) same
