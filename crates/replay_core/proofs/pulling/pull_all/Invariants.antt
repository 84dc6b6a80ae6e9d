use Rattle.std.proofs.Common.{◌≡◌, List}
use Rattle.std.specs.List.{AllZip}
use Rattle.venue_words.specs.declared.command.Event.{Event}
use Rattle.line_work.specs.Standing.{AreDesks}
use Rattle.replay_core.specs.News.{IsAsked}
use Rattle.replay_core.specs.PlainFloor.{ShowsJournals}
use Rattle.replay_core.specs.Playing.{Member}
use Rattle.replay_core.specs.Pulling.{ShowsFronts}
use Rattle.replay_core.proofs.Asking.{PulledSome}
use Rattle.replay_core.proofs.pulling.pull_all.Given as goal

-- the members so far that are asked were pulled, and what they were sent was appended; the floor shows what it did
abbrev pub invariant-loop-member : goal.invariant-loop-member
invariant-loop-member g l = record {
  pulled : (journals : List (List Event)) (members : List Member) → ShowsJournals g.F.Floor.at l.initial.worker.config l.initial.floor journals
      → AllZip (IsAsked l.news.asked.items l.initial.worker.config journals) l.initial.worker.desks members
      → PulledSome l.news.asked.items l.initial.worker.config l.initial.worker.moment journals members l.initial.out.items l.member
      l.worker.desks l.out.items;
  desks : AreDesks l.initial.worker.config l.worker.desks;
  config : l.worker.config ≡ l.initial.worker.config;
  moment : l.worker.moment ≡ l.initial.worker.moment;
  fronts : ShowsFronts g.F.Floor.at l.initial.worker.config l.floor l.news.fronts.items;
  mark : g.F.Floor.mark l.floor ≡ g.F.Floor.mark l.initial.floor;
  journals : (journals : List (List Event)) → ShowsJournals g.F.Floor.at l.initial.worker.config l.initial.floor journals
      → ShowsJournals g.F.Floor.at l.initial.worker.config l.floor journals;
}
