-- The venue is one of the config.
use Rattle.venue_core.specs.ConfigVenueLaws.{venue_is_floor}
use Rattle.venue_trials.proofs.tests.any_floor.look_plain.Goals as goal

pub submit_and_look-requires-clause-floor : goal.submit_and_look-requires-clause-floor
submit_and_look-requires-clause-floor g c = venue_is_floor _ _ c.requires.config c.in_ok-venue.ensures.of_config
