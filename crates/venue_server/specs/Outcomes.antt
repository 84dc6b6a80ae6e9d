-- What came of tasks together.
use Rattle.std.specs.Prelude.{Bool, true, false, List, Option, find}
use Rattle.serve_core.specs.declared.quotes.QuoteEnd.TheVariants as quotes
use Rattle.venue_server.specs.declared.workers.Outcome.{Outcome}
use Rattle.venue_server.specs.declared.workers.Outcome.TheVariants.{Served, NotTaken, Quoted}

-- whether something went wrong in a task that came to this
abbrev pub went_wrong : Outcome → Bool
went_wrong Served = false
went_wrong NotTaken = true
went_wrong (Quoted quotes.Done) = false
went_wrong (Quoted end) = true

-- what went wrong in tasks first, if anything did
abbrev pub first_wrong : List Outcome → Option Outcome
first_wrong outcomes = find went_wrong outcomes
