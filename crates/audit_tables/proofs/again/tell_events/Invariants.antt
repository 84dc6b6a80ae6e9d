-- The events so far were worked once more, and told of.
use Rattle.std.proofs.Common.{◌≡◌, ◌++◌, [], take, length}
use Rattle.audit_core.specs.Progress.{IsOpen}
use Rattle.audit_core.specs.Telling.{events_text}
use Rattle.audit_tables.specs.Asked.{telling_of}
use Rattle.audit_tables.proofs.again.tell_events.Given as goal

abbrev pub invariant-loop-event : goal.invariant-loop-event
invariant-loop-event g l = record {
  opened : IsOpen l.day.config.now l.day.symbol l.part;
  told : l.part.told ≡ length l.part.book.reports;
  room : l.part.counts.events ≡ length l.day.book.now.journal;
  journal : l.part.book.journal ≡ take l.event-index l.day.book.now.journal;
  asked : g.T.Answer.asked l.answer ≡ g.T.Answer.asked l.initial.answer;
  heard : g.T.Answer.heard l.answer l.day.config.now l.day.symbol (take l.event-index l.day.book.now.journal);
  text : l.out.items ≡ l.initial.out.items ++ events_text (telling_of g.T.Answer.tells (g.T.Answer.asked l.initial.answer)) l.day.config.now l.day.symbol [] (take l.event-index l.day.book.now.journal);
}
