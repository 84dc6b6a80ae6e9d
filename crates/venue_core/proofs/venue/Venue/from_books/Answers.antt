-- The gates have the settings of the books.
use Rattle.std.proofs.Common.{◌≡◌, sym, ◌∙◌, subst}
use Rattle.std.specs.List.{All}
use Rattle.venue_words.specs.Floors.{Setup, setup_of}
use Rattle.turn_gate.specs.Seats.{GateId}
use Rattle.venue_core.specs.Venues.{TakesConfigured, setup_in, venue_id}
use Rattle.venue_core.proofs.Closes.{holds_of_each}
use Rattle.venue_core.proofs.venue.Venue.from_books.Goals as goal

pub invariant_of-venue : goal.invariant_of-venue
invariant_of-venue g c =
    let made = c.in_ok-gates.ensures in
    let limits = made.limits ∙ c.requires.limits in
    let ticks = c.in_ok-ticks.ensures.items ∙ c.as_slice.ensures in
    let setup : setup_of c.args.config.now ≡ setup_in (venue_id c.len.result c.len-2.result c.in_ok-ticks.ticks.items c.in_ok-gates.gates.items) =
    λ k. record { members = sym c.len.ensures k; markets = sym c.len-2.ensures k; limits = sym limits k; ticks = sym ticks k } in
    subst (λ (s : Setup). All (λ (gate : GateId). TakesConfigured g.V.Held.takes s gate.setting) c.in_ok-gates.gates.items) setup
    (holds_of_each (TakesConfigured g.V.Held.takes (setup_of c.args.config.now)) (λ (gate : GateId). gate.setting) g.V.Held.setting c.in_ok-gates.gates.items c.args.books.items made.settings c.requires.takes)
