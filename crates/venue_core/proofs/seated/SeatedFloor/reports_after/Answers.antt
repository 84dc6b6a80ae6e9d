-- What the seats do, as a floor shows it.
use Rattle.venue_words.specs.Floors.{AddsNone}
use Rattle.venue_core.proofs.AtSymbol.{symbol_within}
use Rattle.venue_core.proofs.Answered.{on_ok, on_err}
use Rattle.venue_core.proofs.Showing.{fits, marked, others, shown, rose, kept, grown, look_reports, look_front}
use Rattle.venue_core.proofs.seated.SeatedFloor.reports_after.Goals as goal

pub look_at-requires-clause-symbol : goal.look_at-requires-clause-symbol
look_at-requires-clause-symbol g c = symbol_within _ c.args.self.now.venue.now.gates c.args.symbol c.requires.symbol

pub invariant_of-self : goal.invariant_of-self
invariant_of-self g c = let s = c.look_at.ensures in record { fit = fits c.args.self.now.venue.now _ _ _ _ _ s.turn c.args.self.now.fit }

pub returns-clause-mark : goal.returns-clause-mark
returns-clause-mark g c = let s = c.look_at.ensures in marked _ _ _ _ _ _ s.turn

pub returns-clause-others : goal.returns-clause-others
returns-clause-others g c = let s = c.look_at.ensures in others c.args.self.now.venue.now _ _ _ _ _ s.turn g.V.Held.reports

pub returns-clause-grown : goal.returns-clause-grown
returns-clause-grown g c = let s = c.look_at.ensures in grown c.args.self.now.venue.now _ _ _ _ _ s.turn g.V.Held.reports g.met.V.Held.grows s.seen

pub returns-clause-same : goal.returns-clause-same
returns-clause-same g c = let s = c.look_at.ensures in shown c.args.self.now.venue.now _ _ _ _ _ s.turn g.V.Held.reports AddsNone (s.seen, s.mine)

pub returns-clause-turns : goal.returns-clause-turns
returns-clause-turns g c = let s = c.look_at.ensures in on_ok _ _ (rose c.args.self.now.venue.now _ _ _ _ _ s.turn g.V.Held.reports)

pub returns-clause-turns_kept : goal.returns-clause-turns_kept
returns-clause-turns_kept g c = let s = c.look_at.ensures in on_err _ _ (kept c.args.self.now.venue.now _ _ _ _ _ s.turn g.V.Held.reports)

pub returns-clause-reports : goal.returns-clause-reports
returns-clause-reports g c = look_reports c.args.self.now.venue.now _ _ _ _ _ _ g.V.Held.reports c.look_at.ensures

pub returns-clause-front : goal.returns-clause-front
returns-clause-front g c = look_front c.args.self.now.venue.now _ _ _ _ _ _ g.V.Held.reports c.look_at.ensures
