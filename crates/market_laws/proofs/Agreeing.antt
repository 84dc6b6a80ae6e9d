-- Rows and orders agree after every history.
use Rattle.std.proofs.Common.{◌≡◌, ℕ, ◌+◌, ◌≤◌, [], length, Some, refl, sym, subst, arith}
use Rattle.std.specs.Prelude.{slice_get, fold}
use Rattle.venue_words.specs.declared.command.Command.{Command}
use Rattle.venue_words.specs.declared.command.Command.TheVariants.{Quote, New, Cancel, Replace, Status as Request}
use Rattle.venue_words.specs.declared.command.Event.{Event}
use Rattle.eager_meaning.specs.declared.order.Order.{Order}
use Rattle.eager_meaning.specs.State.{State, initial, resting}
use Rattle.eager_meaning.specs.Orders.{live_named, is_used, known_of}
use Rattle.eager_meaning.specs.Verdict.{verdict}
use Rattle.eager_meaning.specs.Step.{Run, runs, step, on_status, outcome_of}
use Rattle.market_laws.specs.Sound.{IsSoundOrder, IsSound, BookIsSound}
use Rattle.market_laws.proofs.Counting.{outcome_fewer}
use Rattle.market_laws.proofs.Numbering.{kept_by_all, numbered_from_none}
use Rattle.market_laws.proofs.Admitting.{RowsAgree, later, new_agrees, new_counts, quote_agrees, quote_counts, cancel_agrees, cancel_counts}
use Rattle.market_laws.proofs.Replacing.{replace_agrees, replace_counts}

outcome_agrees : (tick n : ℕ) (command : Command) (s : State) → RowsAgree n s → RowsAgree (n + 1) (outcome_of tick (n + 1) command s).state
unfolding outcome_of on_status
outcome_agrees tick n (Quote market bid offer) s a = quote_agrees n (n + 1) market (record { bid = bid; offer = offer }) s a
outcome_agrees tick n (New member id terms) s a = new_agrees tick n member id terms _ s a
outcome_agrees tick n (Cancel member id orig) s a = cancel_agrees n member id orig _ _ s a
outcome_agrees tick n (Replace member id orig terms) s a = replace_agrees tick n member id orig terms _ (is_used member id s.used) _ s refl refl a
outcome_agrees tick n (Request member id side) s a = later n s a

outcome_counts : (tick event : ℕ) (command : Command) (s : State) → length (outcome_of tick event command s).state.orders ≤ length s.orders + 1
unfolding outcome_of on_status
outcome_counts tick event (Quote market bid offer) s = let e = quote_counts event market (record { bid = bid; offer = offer }) s in omega (arith, e)
outcome_counts tick event (New member id terms) s = new_counts tick event member id terms _ s
outcome_counts tick event (Cancel member id orig) s =
    let live = live_named member orig s.orders (resting s) in
    let e = cancel_counts member id orig live (verdict (Cancel member id orig) (known_of tick (is_used member id s.used) live)) s in
    omega (arith, e)
outcome_counts tick event (Replace member id orig terms) s =
    let live = live_named member orig s.orders (resting s) in
    let e = replace_counts tick event member id orig terms live (verdict (Replace member id orig terms) (known_of tick (is_used member id s.used) live)) s in
    omega (arith, e)
outcome_counts tick event (Request member id side) s = omega arith

pub step_sound : (tick n : ℕ) (run : Run) (event : Event) → event.number ≡ n + 1 → IsSound n run.state → IsSound (n + 1) (step tick run event).state
unfolding step
step_sound tick n run event number is =
    record {
      rows = subst (λ (m : ℕ). RowsAgree (n + 1) (outcome_of tick m event.command run.state).state) (sym number) (outcome_agrees tick n event.command run.state is.rows);
      few = (let most = outcome_counts tick event.number event.command run.state in let few = is.few in omega arith);
      fewer = (let rows = outcome_fewer tick event.number event.command run.state in let fewer = is.fewer in omega (arith, rows, fewer));
    }

pub no_order : (k : ℕ) (order : Order) → slice_get [] k ≡ Some order → IsSoundOrder order
no_order k order e = cc

pub book_is_sound : BookIsSound
unfolding runs
book_is_sound markets tick history numbered =
    let first : Run = record { state = initial markets; reports = [] } in
    let all = kept_by_all (step tick) (λ n run. IsSound n run.state) (step_sound tick) 0 first history (numbered_from_none history numbered)
    (record { rows = record { own_live = tt; others_live = tt; own_differ = tt; others_differ = tt; differ = tt; sound = no_order }; few = omega arith; fewer = omega arith }) in
    let count : 0 + length history ≡ length history = omega arith in
    subst (λ (n : ℕ). IsSound n (fold (step tick) first history).state) count all
