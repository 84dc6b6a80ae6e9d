-- No event is left, and the events from the position on are those that were walked.
use Rattle.std.proofs.Common.{◌≡◌, ℕ, ◌-◌, ◌≤◌, ◌++◌, List, [], min, take, drop, length, length-drop, refl, sym, ap, ◌∙◌, arith}
use Rattle.std.specs.Prelude.{◌==◌, filter}
use Rattle.std.proofs.lemmas.List.{append-nil, drop-map, drop_all, take_all}
use mathlib.Core.Logic.{dite}
use native.Mathlib.Decide.{dec_le}
use Rattle.venue_words.specs.declared.command.Event.{Event}
use Rattle.venue_words.specs.declared.report.Report.{Report}
use Rattle.venue_words.specs.Journals.{reports_of}
use Rattle.venue_trials.specs.EventReports.{report_of, reports_of_events, reports_to}
use Rattle.venue_trials.proofs.tests.gates.journal.JournalHeld.look.Goals as goal

-- a position behind the end is the end
drop_from : (from start : ℕ) (xs : List Event) → start ≡ min (length xs) from → drop start xs ≡ drop from xs
drop_from from start xs is =
    dite (dec_le from (length xs))
    (λ le. let same : start ≡ from = omega arith in ap (λ (n : ℕ). drop n xs) same)
    (λ gt. drop_all start xs (omega arith) ∙ sym (drop_all from xs (omega arith)))

walked : (member from start index : ℕ) (xs items : List Event) (reports : List Report) → start ≡ min (length xs) from → items ≡ take (length xs - start) (drop start xs)
    → length items ≤ index → reports ++ reports_to member (drop index items) ≡ reports_to member items
    → reports ≡ reports_of member from (reports_of_events xs)
walked member from start index xs items reports is items_are none all =
    let left : drop index items ≡ [] = drop_all index items none in
    let n = length-drop start xs in
    let here : items ≡ drop from xs = items_are ∙ (take_all (length xs - start) (drop start xs) (omega arith) ∙ drop_from from start xs is) in
    sym (append-nil reports) ∙ (ap (λ (ys : List Event). reports ++ reports_to member ys) (sym left) ∙ (all ∙ (ap (reports_to member) here
    ∙ ap (λ (rs : List Report). filter (λ report. report.member == member) rs) (sym (drop-map report_of from xs)))))

pub returns-clause-reports : goal.returns-clause-reports
returns-clause-reports c =
    let value = c.deref.ensures.value in
    let seen : c.self.inside.events.items ≡ c.args.self.now.1 = ap (λ (p : ℕ × List Event). p.1) c.self.view_is in
    walked c.args.member c.args.from c.min-start.result c.loop-event.event-index c.deref.result.now _ c.loop-event.reports
    (let a = c.min-start.ensures in let b = c.len.ensures in let d = c.deref.ensures.len in omega arith) refl c.loop-event-test.false c.loop-event.invariant
    ∙ ap (λ (xs : List Event). reports_of c.args.member c.args.from (reports_of_events xs)) (value ∙ seen)
