-- The member was known, and his desk stood there.
use Rattle.std.proofs.Common.{◌≡◌, ◌+◌, ℤ, ℕ, List, subst, inr, w64, to_z, of_z, rules}
use Rattle.serve_core.specs.Connections.{Visits, first_turn, served_by}
use Rattle.serve_core.specs.Naming.{edge}
use Rattle.serve_core.specs.Sessions.{ground}
use Rattle.serve_core.proofs.Catching.{caught_at_end}
use Rattle.serve_core.proofs.Connecting.{given_back, stood_at}
use Rattle.serve_core.proofs.serving.serve_over.Goals as goal

pub returns-clause-connection : goal.returns-clause-connection
returns-clause-connection g c =
    let greeted = c.in-Ok-greet.greeted in
    let e : to_z w64 (of_z w64 greeted.moment) ≡ greeted.moment = search rules in
    let before = ground c.args.floor.now (g.K.Link.told c.greet.new.link) (g.C.Clock.told c.greet.new.clock) in
    let after = ground c.serve_member-end.new.floor (g.K.Link.told c.serve_member-end.new.link) (g.C.Clock.told c.serve_member-end.new.clock) in
    let last = c.serve_member-end.new.desk in
    let desks = g.D.Desks.told c.args.desks.now in
    let visits =
    subst (λ (bytes : List ℕ). Visits g.F.Floor.at (g.F.Floor.mark c.args.floor.now) c.args.config.now (greeted.member + 1)
    (first_turn bytes (to_z w64 (of_z w64 greeted.moment))) (served_by c.in-Some.desk) c.serve_member-end.result last before after)
    c.as_slice.ensures.value c.serve_member-end.ensures.visits in
    inr (inr (record {
      member = greeted.member;
      moment = greeted.moment;
      bytes = greeted.bytes.items;
      edge = edge (g.K.Link.told c.greet.new.link) (g.C.Clock.told c.greet.new.clock);
      named = c.in-Ok-greet.ensures.named;
      desk = c.in-Some.desk;
      stood = stood_at desks greeted.member c.take.result c.in-Some.desk c.in-Some.is c.take.ensures.desk;
      last = last;
      visits =
          subst (λ (m : ℤ). Visits g.F.Floor.at (g.F.Floor.mark c.args.floor.now) c.args.config.now (greeted.member + 1)
          (first_turn greeted.bytes.items m) (served_by c.in-Some.desk) c.serve_member-end.result last before after)
          e visits;
      given = given_back desks (g.D.Desks.told c.take.new.self) (g.D.Desks.told c.give.new.self) greeted.member last
          c.take.ensures.told c.give.ensures.told;
      caught = caught_at_end g.F.Floor.at (g.F.Floor.mark c.args.floor.now) c.args.config.now (greeted.member + 1)
          (first_turn greeted.bytes.items (to_z w64 (of_z w64 greeted.moment))) c.in-Some.desk last c.serve_member-end.result before after
          visits;
    }))
