use Rattle.std.proofs.Common.{◌≡◌, ◌∙◌, ap, refl, rules, ℕ, List, drop}
use Rattle.std.specs.Prelude.{slice_get}
use Rattle.ports.specs.declared.slots.State.TheVariants.{Unnamed}
use Rattle.ports.specs.declared.slots.Seat.{Seat}
use Rattle.ports.specs.Slots.{state_at, kept_at, seat_waits, seat_port}
use Rattle.ports.specs.Results.{replaced}
use Rattle.ports.specs.Cuts.{joined}
use Rattle.ports.proofs.Steps.{seated, cut_at}
use Rattle.ports.proofs.table.Table.name.Goals as goal

pub returns-clause-sound : goal.returns-clause-sound
returns-clause-sound g c past s =
    let is : state_at c.args.self.now c.args.port ≡ Unnamed = search rules in
    let kept = c.leave-old.ensures.unnamed c.args.port is in
    seated (replaced c.leave-old.result past) c.leave-old.new.self c.pass.new.self c.args.port c.args.member (joined c.in_ok-size.field-0.pieces.items)
    (g.P.Ports.came c.leave-old.new.ports) (g.P.Ports.went c.leave-old.new.ports) (c.leave-old.ensures.sound past s) kept.0 (c.leave-old.ensures.nobody past s)
    (c.pass.ensures.states c.args.port ∙ c.seat.ensures.named)
    (cut_at (joined c.in_ok-size.field-0.pieces.items) (kept_at c.args.self.now c.args.port) (kept_at c.leave-old.new.self c.args.port) (kept_at c.pass.new.self c.args.port) c.in_ok-size.field-0.size c.in_ok-size.field-0.size
    c.in_ok-size.ensures.joined (c.pass.ensures.passed ∙ ap (λ (l : List ℕ). drop c.in_ok-size.field-0.size l) (c.seat.ensures.kept c.args.port)) kept.1 refl)
    (λ q o. c.pass.ensures.states q ∙ c.seat.ensures.states q o)
    (λ q o. c.pass.ensures.kept q o ∙ c.seat.ensures.kept q)
    (ap (λ (l : List Seat). seat_waits (slice_get l c.args.member)) c.pass.ensures.seats ∙ c.seat.ensures.waits)
    (ap (λ (l : List Seat). seat_port (slice_get l c.args.member)) c.pass.ensures.seats ∙ c.seat.ensures.port)
    (λ m o. ap (λ (l : List Seat). seat_waits (slice_get l m)) c.pass.ensures.seats ∙ c.seat.ensures.other_waits m o)
    (λ m o. ap (λ (l : List Seat). seat_port (slice_get l m)) c.pass.ensures.seats ∙ c.seat.ensures.other_ports m o)
