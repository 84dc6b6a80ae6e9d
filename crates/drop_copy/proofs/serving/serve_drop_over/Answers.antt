-- Without a buffer no turn is taken.
use Rattle.std.proofs.Common.{refl, inl, inr}
use Rattle.session_core.specs.Machine.{IsUp}
use Rattle.drop_copy.specs.Desks.{connected_drop}
use Rattle.drop_copy.specs.Sessions.{ground}
use Rattle.drop_copy.proofs.Connections.{so_far_none}
use Rattle.drop_copy.proofs.serving.serve_drop_over.Goals as goal

pub returns-in_default-clause-connection : goal.returns-in_default-clause-connection
returns-in_default-clause-connection g c =
    let start = connected_drop c.args.desk.now in
    let here = ground c.args.floor.now (g.K.Link.told c.args.link.now) (g.C.Clock.told c.args.clock.now) in
    let down : IsUp start.session → ⊥ = λ up. (cc) in record {
      stop = start;
      middle = here;
      so_far = so_far_none g.F.Floor.at (g.F.Floor.reports_in (g.F.Floor.mark c.args.floor.now)) c.args.config.now start here down;
      ends = inl (record { end_is = inr refl; desk_is = c.open.ensures; ground_is = refl });
    }
