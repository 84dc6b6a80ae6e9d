use Rattle.feeds_core.specs.FeedLists.{asked_in}
use Rattle.audit_feeds.proofs.auditing.audit_feeds.Given as goal

abbrev pub ghosts-tell_departures : goal.ghosts-tell_departures
ghosts-tell_departures g a = record { feeds = asked_in a.lists.now }
