use Rattle.std.proofs.Common.{◌≡◌, ◌≤◌, ◌++◌, List, ℕ, Option, drop}
use Rattle.listing.specs.Handing.{Hands}
use Rattle.listing.specs.Walking.{walked}
use Rattle.listing.proofs.part.write_events.Given as goal

-- a beginning of the text is on its way, and this is left
pub record Walks (told_old told_new : Option (List ℕ)) (held_old held_new all left : List ℕ) (before now : ℕ) : Type 0 where
  pub done : List ℕ
  pub text : all ≡ done ++ left
  pub hands : Hands told_old told_new held_old held_new done
  pub later : before ≤ now

abbrev pub invariant-loop-event : goal.invariant-loop-event
invariant-loop-event g l =
    Walks (g.K.Sink.told l.initial.out) (g.K.Sink.told l.out) l.initial.pending l.pending
    (walked l.part.config.now l.part.symbol l.part.journal.now l.part.reports.now)
    (walked l.part.config.now l.part.symbol (drop l.event-index l.part.journal.now) l.rest)
    (g.K.Sink.faults l.initial.out) (g.K.Sink.faults l.out)
