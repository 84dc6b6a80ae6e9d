-- The last one of the events so far.
use Rattle.std.proofs.Common.{◌≡◌, take}
use Rattle.audit_tables.specs.Sought.{last_by}
use Rattle.audit_tables.proofs.naming.last_by.Given as goal

abbrev pub invariant-loop-event : goal.invariant-loop-event
invariant-loop-event l = l.found ≡ last_by l.time (take l.event-index l.events)
