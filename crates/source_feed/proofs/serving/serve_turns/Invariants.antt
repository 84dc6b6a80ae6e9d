-- The session stands after what came.
use Rattle.std.proofs.Common.{ℕ, List, Option}
use Rattle.io_edge.specs.Links.{Told}
use Rattle.source_session.specs.declared.names.Names.{Names}
use Rattle.source_feed.specs.Turns.{Stands}
use Rattle.source_feed.proofs.serving.serve_turns.Given as goal

abbrev pub invariant-turns : goal.invariant-turns
invariant-turns g l =
    (names : Names) (pace : Option ℕ) (first : Option Told) (begun : Option (List ℕ))
    → Stands l.config names pace first (g.K.Link.told l.initial.link) begun (g.S.Sink.told l.initial.desk) l.initial.serving.session l.initial.serving.conflater
    → Stands l.config names pace first (g.K.Link.told l.link) begun (g.S.Sink.told l.desk) l.serving.session l.serving.conflater
