-- The reports of an event are in their places, and a New has one answer.
use Rattle.std.proofs.Common.{◌≡◌, ℕ, zero, suc, ◌+◌, Bool, true, false, List, [], ◌∷◌, Option, Some, None, refl, ap, sym, subst, arith}
use Rattle.std.specs.Prelude.{slice_get}
use Rattle.std.specs.List.{AllByRecursion}
use Rattle.venue_words.specs.declared.command.Command.{Command}
use Rattle.venue_words.specs.declared.command.Command.TheVariants.{New}
use Rattle.venue_words.specs.declared.command.Event.{Event}
use Rattle.venue_words.specs.declared.rule.Rule.{Rule}
use Rattle.venue_words.specs.declared.terms.Terms.{Terms}
use Rattle.venue_words.specs.declared.report.Report.{Report}
use Rattle.venue_words.specs.declared.row.Priced.{Priced}
use Rattle.venue_words.specs.ListLaws.{all_append}
use Rattle.eager_meaning.specs.declared.notice.Notice.{Notice}
use Rattle.eager_meaning.specs.declared.order.Order.{Order}
use Rattle.eager_meaning.specs.declared.trade.Fill.{Fill}
use Rattle.eager_meaning.specs.State.{State}
use Rattle.eager_meaning.specs.Showing.{view_with}
use Rattle.eager_meaning.specs.Trades.{orders_after, trade_notice, trade_notices}
use Rattle.eager_meaning.specs.Entering.{leftover_notice, leftover_notices, enter, arrival_of_new, on_new, accepted_order}
use Rattle.eager_meaning.specs.Step.{Run, runs, step, outcome_of, reports_from}
use Rattle.market_laws.specs.Equalities.{some_is}
use Rattle.market_laws.specs.Replies.{AreToldBy, IsAt, ReportsAreInPlace, answers_new, rule_broken, IsAnswer, IsAnsweredOnce, NewIsAnsweredOnce}
use Rattle.market_laws.proofs.Growing.{runs_append}
use Rattle.market_laws.specs.ListLaws.{all_found, all_flat}

-- what an event adds
pub told_by : (markets tick : ℕ) (history : List Event) (event : Event)
    → AreToldBy markets tick history event (reports_from 1 event (outcome_of tick event.number event.command (runs markets tick history).state).notices)
unfolding step
told_by markets tick history event = ap (λ (r : Run). r.reports) (runs_append markets tick history (event ∷ []))

placed_from : (place : ℕ) (event : Event) (notices : List Notice) (k : ℕ) (report : Report) → slice_get (reports_from place event notices) k ≡ Some report → IsAt event (place + k) report
unfolding reports_from
placed_from place event [] k report h = cc
placed_from place event (notice ∷ notices) zero report h =
    let first : Report = record { event = event.number; place = place; member = notice.member; moment = event.moment; kind = notice.kind } in
    let at = subst (λ (r : Report). IsAt event place r) (some_is first report h) (record { number = refl; moment = refl; place = refl }) in
    record { number = at.number; moment = at.moment; place = (let e = at.place in omega arith) }
placed_from place event (notice ∷ notices) (suc k) report h =
    let at = placed_from (place + 1) event notices k report h in
    record { number = at.number; moment = at.moment; place = (let e = at.place in omega arith) }

pub reports_in_place : ReportsAreInPlace
reports_in_place markets tick history event =
    let notices = (outcome_of tick event.number event.command (runs markets tick history).state).notices in (
      reports_from 1 event notices,
      told_by markets tick history event,
      (λ k report h.
          let at = placed_from 1 event notices k report h in
          record { number = at.number; moment = at.moment; place = (let e = at.place in omega arith) }),
    )

-- ---- a notice that is no answer to a New

abbrev NoAnswer : Notice → Type 0
NoAnswer notice = answers_new notice.kind ≡ false

trades_no_answer : (fills : List Fill) (orders : List Order) → AllByRecursion NoAnswer (trade_notices fills orders)
unfolding trade_notices trade_notice
trades_no_answer [] orders = tt
trades_no_answer (fill ∷ fills) orders =
    let next = orders_after fill orders in
    all_append NoAnswer (trade_notice fill next fill.taker) _ (all_found NoAnswer _ (λ order. refl) (slice_get next fill.taker.order))
    (all_append NoAnswer (trade_notice fill next fill.contra) _ (all_found NoAnswer _ (λ order. refl) (slice_get next fill.contra.order))
    (trades_no_answer fills next))

left_no_answer : (immediate : Bool) (left : List Priced) (orders : List Order) → AllByRecursion NoAnswer (leftover_notices immediate left orders)
unfolding leftover_notices
left_no_answer true left orders = all_flat NoAnswer (λ x. leftover_notice x.row.order orders) (λ x. all_found NoAnswer _ (λ order. refl) (slice_get orders x.row.order)) left
left_no_answer false left orders = tt

reports_no_answer : (place : ℕ) (event : Event) (notices : List Notice) → AllByRecursion NoAnswer notices → AllByRecursion (λ report. answers_new report.kind ≡ false) (reports_from place event notices)
unfolding reports_from
reports_no_answer place event [] a = tt
reports_no_answer place event (notice ∷ notices) a = (a.0, reports_no_answer (place + 1) event notices a.1)

-- ---- the notices of a New

-- notices that begin with an answer, and have no other
record AnswersFirst (event member : ℕ) (id : List ℕ) (terms : Terms) (broken : Option Rule) (notices : List Notice) : Type 0 where
  answer : Notice
  others : List Notice
  all : notices ≡ answer ∷ others
  to : answer.member ≡ member
  says : IsAnswer event id terms broken answer.kind
  once : AllByRecursion NoAnswer others

new_answers : (tick event member : ℕ) (id : List ℕ) (terms : Terms) (broken : Option Rule) (s : State) → AnswersFirst event member id terms broken (on_new tick event member id terms broken s).notices
unfolding on_new enter arrival_of_new accepted_order view_with
new_answers tick event member id terms (Some rule) s = record { answer = _; others = []; all = refl; to = refl; says = refl; once = tt }
new_answers tick event member id terms None s =
    record {
      answer = (arrival_of_new tick event member id terms s).notice;
      others = _;
      all = refl;
      to = refl;
      says = (_, refl, refl, refl);
      once = all_append NoAnswer (trade_notices _ _) (leftover_notices _ _ _) (trades_no_answer _ _) (left_no_answer _ _ _);
    }

answered : (event : Event) (member : ℕ) (id : List ℕ) (terms : Terms) (broken : Option Rule) (notices : List Notice) → AnswersFirst event.number member id terms broken notices → IsAnsweredOnce event.number member id terms broken (reports_from 1 event notices)
unfolding reports_from
answered event member id terms broken notices a =
    let told : Notice → Report = λ notice. record { event = event.number; place = 1; member = notice.member; moment = event.moment; kind = notice.kind } in
    record {
      answer = told a.answer;
      others = reports_from 2 event a.others;
      all = ap (reports_from 1 event) a.all;
      place = refl;
      to = a.to;
      says = a.says;
      once = reports_no_answer 2 event a.others a.once;
    }

answers_of : (tick event member : ℕ) (id : List ℕ) (terms : Terms) (s : State) → AnswersFirst event member id terms (rule_broken tick s member id terms) (outcome_of tick event (New member id terms) s).notices
unfolding outcome_of
answers_of tick event member id terms s = new_answers tick event member id terms (rule_broken tick s member id terms) s

pub new_answered : NewIsAnsweredOnce
new_answered markets tick history event member id terms is =
    let s = (runs markets tick history).state in
    let answers = answers_of tick event.number member id terms s in
    let notices : List Notice = (outcome_of tick event.number event.command s).notices in (
      reports_from 1 event notices,
      told_by markets tick history event,
      answered event member id terms (rule_broken tick s member id terms) notices
          (subst (λ (command : Command). AnswersFirst event.number member id terms (rule_broken tick s member id terms) (outcome_of tick event.number command s).notices) (sym is) answers),
    )
