-- What was listed was listed under the status of the run.
use Rattle.venue_server.proofs.Listings.{lists_as}
use Rattle.venue_server.proofs.running.serve.Goals as goal

pub returns-clause-listed : goal.returns-clause-listed
returns-clause-listed g c =
    lists_as c.args.server.now.config.now c.in_ok-venue.venue c.serve_books.new.seats c.in_ok-venue.ensures.setup c.in_ok-outcome.ensures
    c.close_and_list-listed.result c.status_of.result (g.K.Sink.told c.args.out.now)
    (g.K.Sink.told c.close_and_list-listed.new.out) c.status_of.ensures.done c.close_and_list-listed.ensures.listed
