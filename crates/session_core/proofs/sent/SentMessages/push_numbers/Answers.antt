use Rattle.session_core.proofs.SentPlaces.{numbered_is, on_ok}
use Rattle.session_core.proofs.sent.SentMessages.push_numbers.Goals as goal

pub returns-clause-ok : goal.returns-clause-ok
returns-clause-ok c =
    on_ok c.push_none.result
    (numbered_is c.self.inside.messages c.self.inside.moments.items c.self.inside.places.items c.push_none.new.places.items c.args.count c.args.self.now c.self.view_is)
    c.push_none.ensures.ok
