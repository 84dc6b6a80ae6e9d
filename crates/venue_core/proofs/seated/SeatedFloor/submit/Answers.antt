-- What the seats do, as a floor shows it.
use Rattle.std.proofs.Common.{ℤ, subst}
use Rattle.std.proofs.lemmas.Int.{to_z-of_z}
use mir.Syntax.{w64}
use Rattle.venue_core.specs.Turns.{Submits}
use Rattle.venue_core.proofs.AtSymbol.{symbol_within}
use Rattle.venue_core.proofs.Answered.{on_ok, on_err}
use Rattle.venue_core.proofs.Showing.{fits, marked, others, rose, kept, grown, submit_seen, submit_records, submit_room, submit_adds_none, submit_full, submit_steps, submit_idle}
use Rattle.venue_core.proofs.seated.SeatedFloor.submit.Goals as goal

pub submit_at-requires-clause-symbol : goal.submit_at-requires-clause-symbol
submit_at-requires-clause-symbol g c = symbol_within _ c.args.self.now.venue.now.gates c.args.symbol c.requires.symbol

pub invariant_of-self : goal.invariant_of-self
invariant_of-self g c = let s = c.submit_at.ensures in record { fit = fits c.args.self.now.venue.now _ _ _ _ _ s.turn c.args.self.now.fit }

pub returns-clause-mark : goal.returns-clause-mark
returns-clause-mark g c = let s = c.submit_at.ensures in marked _ _ _ _ _ _ s.turn

pub returns-clause-others : goal.returns-clause-others
returns-clause-others g c = let s = c.submit_at.ensures in others c.args.self.now.venue.now _ _ _ _ _ s.turn g.V.Held.reports

pub returns-clause-reports : goal.returns-clause-reports
returns-clause-reports g c = let s = c.submit_at.ensures in
    grown c.args.self.now.venue.now _ _ _ _ _ s.turn g.V.Held.reports g.met.V.Held.grows (submit_seen c.args.self.now.venue.now _ _ _ _ _ _ _ _ _ _ s g.V.Held.reports)

pub returns-clause-records : goal.returns-clause-records
returns-clause-records g c =
    let s = subst (λ (z : ℤ). Submits g.V.Held.step_limit c.args.self.now.seats c.submit_at.new.seats c.args.symbol c.submit_at.result c.args.feed z c.args.command.now c.args.steps.now c.submit_at.new.steps) (to_z-of_z w64 c.args.moment c.ranges.moment) c.submit_at.ensures in
    submit_records c.args.self.now.venue.now _ _ _ _ _ _ _ _ _ _ s g.V.Held.reports

pub returns-clause-room : goal.returns-clause-room
returns-clause-room g c = submit_room c.args.self.now.venue.now _ _ _ _ _ _ _ _ _ _ c.submit_at.ensures g.V.Held.reports c.args.self.now.fit

pub returns-clause-turns : goal.returns-clause-turns
returns-clause-turns g c = let s = c.submit_at.ensures in on_ok _ _ (rose c.args.self.now.venue.now _ _ _ _ _ s.turn g.V.Held.reports)

pub returns-clause-err : goal.returns-clause-err
returns-clause-err g c = submit_adds_none c.args.self.now.venue.now _ _ _ _ _ _ _ _ _ _ c.submit_at.ensures g.V.Held.reports

pub returns-clause-turns_kept : goal.returns-clause-turns_kept
returns-clause-turns_kept g c = let s = c.submit_at.ensures in on_err _ _ (kept c.args.self.now.venue.now _ _ _ _ _ s.turn g.V.Held.reports)

pub returns-clause-full : goal.returns-clause-full
returns-clause-full g c = submit_full c.args.self.now.venue.now _ _ _ _ _ _ _ _ _ _ c.submit_at.ensures g.V.Held.reports c.args.self.now.fit

pub returns-clause-steps : goal.returns-clause-steps
returns-clause-steps g c =
    let s = subst (λ (z : ℤ). Submits g.V.Held.step_limit c.args.self.now.seats c.submit_at.new.seats c.args.symbol c.submit_at.result c.args.feed z c.args.command.now c.args.steps.now c.submit_at.new.steps) (to_z-of_z w64 c.args.moment c.ranges.moment) c.submit_at.ensures in
    submit_steps c.args.self.now.venue.now _ _ _ _ _ _ _ _ _ _ s g.V.Held.reports

pub returns-clause-idle : goal.returns-clause-idle
returns-clause-idle g c =
    let s = subst (λ (z : ℤ). Submits g.V.Held.step_limit c.args.self.now.seats c.submit_at.new.seats c.args.symbol c.submit_at.result c.args.feed z c.args.command.now c.args.steps.now c.submit_at.new.steps) (to_z-of_z w64 c.args.moment c.ranges.moment) c.submit_at.ensures in
    submit_idle c.args.self.now.venue.now _ _ _ _ _ _ _ _ _ _ s g.V.Held.reports
