-- What the book does, as a floor shows it.
use Rattle.std.proofs.Common.{ℤ, subst}
use Rattle.std.proofs.lemmas.Int.{to_z-of_z}
use mir.Syntax.{w64}
use Rattle.venue_core.specs.Plain.{SubmitsTo}
use Rattle.venue_core.proofs.PlainShowing.{floor_mark, floor_others, floor_reports, floor_records, floor_room, floor_err, floor_full, floor_steps, floor_idle, floor_kept}
use Rattle.venue_core.proofs.plain_venue.PlainVenueFloor.submit.Goals as goal

pub returns-clause-mark : goal.returns-clause-mark
returns-clause-mark g c =
    let s = c.submit_to.ensures in floor_mark g.V.Held.journal g.V.Held.limit g.V.Held.setting g.V.Held.step_limit g.V.Held.reports c.self.inside.members c.self.inside.markets c.self.inside.ticks.items _ _ _ _ _ _ _ _ _ s c.args.self.now c.self.view_is

pub returns-clause-others : goal.returns-clause-others
returns-clause-others g c =
    let s = c.submit_to.ensures in floor_others g.V.Held.journal g.V.Held.limit g.V.Held.setting g.V.Held.step_limit g.V.Held.reports c.self.inside.members c.self.inside.markets c.self.inside.ticks.items _ _ _ _ _ _ _ _ _ s c.args.self.now c.self.view_is

pub returns-clause-reports : goal.returns-clause-reports
returns-clause-reports g c =
    let s = c.submit_to.ensures in floor_reports g.V.Held.journal g.V.Held.limit g.V.Held.setting g.V.Held.step_limit g.V.Held.reports c.self.inside.members c.self.inside.markets c.self.inside.ticks.items _ _ _ _ _ _ _ _ _ s c.args.self.now c.self.view_is g.met.V.Held.grows

pub returns-clause-records : goal.returns-clause-records
returns-clause-records g c =
    let s = subst (λ (z : ℤ). SubmitsTo g.V.Held.journal g.V.Held.limit g.V.Held.setting g.V.Held.step_limit c.self.inside.books.items c.submit_to.new.books.items c.args.symbol c.submit_to.result c.args.feed z c.args.command.now c.args.steps.now c.submit_to.new.steps) (to_z-of_z w64 c.args.moment c.ranges.moment) c.submit_to.ensures in
    floor_records g.V.Held.journal g.V.Held.limit g.V.Held.setting g.V.Held.step_limit g.V.Held.reports c.self.inside.members c.self.inside.markets c.self.inside.ticks.items _ _ _ _ _ _ _ _ _ s c.args.self.now c.self.view_is

pub returns-clause-room : goal.returns-clause-room
returns-clause-room g c =
    let s = c.submit_to.ensures in floor_room g.V.Held.journal g.V.Held.limit g.V.Held.setting g.V.Held.step_limit g.V.Held.reports c.self.inside.members c.self.inside.markets c.self.inside.ticks.items _ _ _ _ _ _ _ _ _ s c.args.self.now c.self.view_is

pub returns-clause-err : goal.returns-clause-err
returns-clause-err g c =
    let s = c.submit_to.ensures in floor_err g.V.Held.journal g.V.Held.limit g.V.Held.setting g.V.Held.step_limit g.V.Held.reports c.self.inside.members c.self.inside.markets c.self.inside.ticks.items _ _ _ _ _ _ _ _ _ s c.args.self.now c.self.view_is

pub returns-clause-full : goal.returns-clause-full
returns-clause-full g c =
    let s = c.submit_to.ensures in floor_full g.V.Held.journal g.V.Held.limit g.V.Held.setting g.V.Held.step_limit g.V.Held.reports c.self.inside.members c.self.inside.markets c.self.inside.ticks.items _ _ _ _ _ _ _ _ _ s c.args.self.now c.self.view_is

pub returns-clause-steps : goal.returns-clause-steps
returns-clause-steps g c =
    let s = subst (λ (z : ℤ). SubmitsTo g.V.Held.journal g.V.Held.limit g.V.Held.setting g.V.Held.step_limit c.self.inside.books.items c.submit_to.new.books.items c.args.symbol c.submit_to.result c.args.feed z c.args.command.now c.args.steps.now c.submit_to.new.steps) (to_z-of_z w64 c.args.moment c.ranges.moment) c.submit_to.ensures in
    floor_steps g.V.Held.journal g.V.Held.limit g.V.Held.setting g.V.Held.step_limit g.V.Held.reports c.self.inside.members c.self.inside.markets c.self.inside.ticks.items _ _ _ _ _ _ _ _ _ s c.args.self.now c.self.view_is

pub returns-clause-idle : goal.returns-clause-idle
returns-clause-idle g c =
    let s = subst (λ (z : ℤ). SubmitsTo g.V.Held.journal g.V.Held.limit g.V.Held.setting g.V.Held.step_limit c.self.inside.books.items c.submit_to.new.books.items c.args.symbol c.submit_to.result c.args.feed z c.args.command.now c.args.steps.now c.submit_to.new.steps) (to_z-of_z w64 c.args.moment c.ranges.moment) c.submit_to.ensures in
    floor_idle g.V.Held.journal g.V.Held.limit g.V.Held.setting g.V.Held.step_limit g.V.Held.reports c.self.inside.members c.self.inside.markets c.self.inside.ticks.items _ _ _ _ _ _ _ _ _ s c.args.self.now c.self.view_is

pub returns-clause-kept : goal.returns-clause-kept
returns-clause-kept g c =
    let s = c.submit_to.ensures in floor_kept g.V.Held.journal g.V.Held.limit g.V.Held.setting g.V.Held.step_limit g.V.Held.reports c.self.inside.members c.self.inside.markets c.self.inside.ticks.items _ _ _ _ _ _ _ _ _ s c.args.self.now c.self.view_is
