-- Only a quote changes the markets' quotes.
use Rattle.std.proofs.Common.{◌≡◌, ◌<◌, ℕ, Bool, true, false, cond, List, [], ◌∷◌, ◌++◌, length, ◌-◌, Option, Some, None, refl, sym, ◌∙◌, ap, subst, arith}
use Rattle.std.specs.Prelude.{fold, nat_lt, replicate, slice_get}
use Rattle.std.specs.List.{AllByRecursion}
use Rattle.std.proofs.lemmas.Bool.{and_parts, ltb-true}
use Rattle.std.proofs.lemmas.List.{length-append, length-replicate, length-set}
use Rattle.std.proofs.lemmas.List.Sums.{fold-append}
use Rattle.venue_words.specs.declared.command.Command.{Command}
use Rattle.venue_words.specs.declared.command.Command.TheVariants.{Quote, New, Cancel, Replace, Status}
use Rattle.venue_words.specs.declared.command.Event.{Event}
use Rattle.venue_words.specs.declared.rule.Rule.{Rule}
use Rattle.venue_words.specs.declared.terms.Terms.{Terms}
use Rattle.venue_words.specs.declared.price.Best.{Best}
use Rattle.venue_words.specs.declared.price.Side.{Side}
use Rattle.venue_words.specs.declared.price.Side.TheVariants.{Buy, Sell}
use Rattle.venue_words.specs.declared.report.Report.{Report}
use Rattle.venue_words.specs.declared.row.Priced.{Priced}
use Rattle.venue_words.specs.declared.config.Config.{Config}
use Rattle.venue_words.specs.Best.{best_of}
use Rattle.venue_words.specs.Conditions.{IsConfig, fits_limits}
use Rattle.eager_meaning.specs.declared.order.Live.{Live}
use Rattle.eager_meaning.specs.Changing.{cancel, only_lowers, on_cancel, on_replace, resize, arrival_of_replace}
use Rattle.eager_meaning.specs.Entering.{Arrival, arrival_of_new, enter, on_new}
use Rattle.eager_meaning.specs.Quoting.{on_quote, requote, same_best, with_quote}
use Rattle.eager_meaning.specs.State.{State, with_no_notice, with_rows}
use Rattle.eager_meaning.specs.Step.{Run, on_status, outcome_of, runs, step}
use Rattle.symbol_book.specs.Commands.{takes_command}
use Rattle.listing_reader.specs.Fitting.{fits_event}
use Rattle.audit_core.specs.Audited.{run_of, tick_at}
use Rattle.audit_core.specs.Telling.{reports_of_last}
use Rattle.audit_core.proofs.Working.{takes_event}
use Rattle.audit_tables.specs.Quotes.{HasQuotes, markets_after}
use Rattle.audit_tables.specs.Trades.{best_behind, trade_lines, trades_in, trades_text}

rows_markets : (side : Side) (own others : List Priced) (s : State) → (with_rows side own others s).markets ≡ s.markets
rows_markets Buy own others s = refl
rows_markets Sell own others s = refl

enter_markets : (arrival : Arrival) → (enter arrival).state.markets ≡ arrival.state.markets
unfolding enter
enter_markets arrival = rows_markets arrival.taker.row.key.side _ _ _

quote_markets : (event market : ℕ) (quote : Best) (s : State) → (on_quote event market quote s).state.markets ≡ (with_quote market quote s).markets
unfolding on_quote requote
quote_markets event market quote s =
    let next : State = with_quote market quote s in
    elim (same_best (best_of s.markets) (best_of next.markets)) as (λ (b : Bool). (cond b (with_no_notice next) (requote event next)).state.markets ≡ next.markets) [
      | true ↦ refl
      | false ↦ refl
    ]

new_markets : (tick event member : ℕ) (id : List ℕ) (terms : Terms) (broken : Option Rule) (s : State)
    → (on_new tick event member id terms broken s).state.markets ≡ s.markets
unfolding on_new arrival_of_new
new_markets tick event member id terms None s = enter_markets (arrival_of_new tick event member id terms s)
new_markets tick event member id terms (Some rule) s = refl

cancel_markets : (member : ℕ) (id orig : List ℕ) (live : Option Live) (broken : Option Rule) (s : State)
    → (on_cancel member id orig live broken s).state.markets ≡ s.markets
unfolding on_cancel cancel
cancel_markets member id orig live (Some rule) s = refl
cancel_markets member id orig None None s = refl
cancel_markets member id orig (Some found) None s = refl

replace_markets : (tick event member : ℕ) (id orig : List ℕ) (terms : Terms) (live : Option Live) (broken : Option Rule) (s : State)
    → (on_replace tick event member id orig terms live broken s).state.markets ≡ s.markets
unfolding on_replace resize arrival_of_replace
replace_markets tick event member id orig terms live (Some rule) s = refl
replace_markets tick event member id orig terms None None s = refl
replace_markets tick event member id orig terms (Some found) None s =
    elim (only_lowers tick terms found) as (λ (b : Bool). (cond b (resize tick member id orig terms found s)
    (enter (arrival_of_replace tick event member id orig terms found s))).state.markets ≡ s.markets) [
      | true ↦ refl
      | false ↦ enter_markets (arrival_of_replace tick event member id orig terms found s)
    ]

outcome_markets : (tick event : ℕ) (command : Command) (s : State) → (outcome_of tick event command s).state.markets ≡ markets_after s.markets command
unfolding outcome_of on_status
outcome_markets tick event (Quote market bid offer) s = quote_markets event market (record { bid = bid; offer = offer }) s
outcome_markets tick event (New member id terms) s = new_markets tick event member id terms _ s
outcome_markets tick event (Cancel member id orig) s = cancel_markets member id orig _ _ s
outcome_markets tick event (Replace member id orig terms) s = replace_markets tick event member id orig terms _ _ s
outcome_markets tick event (Status member id side) s = refl

-- the quotes behind one more event
quotes_next : (markets tick : ℕ) (journal : List Event) (event : Event)
    → (runs markets tick (journal ++ event ∷ [])).state.markets ≡ markets_after (runs markets tick journal).state.markets event.command
unfolding runs step
quotes_next markets tick journal event =
    ap (λ (r : Run). r.state.markets) (fold-append (step tick) _ journal (event ∷ []))
    ∙ outcome_markets tick event.number event.command (runs markets tick journal).state

quotes_first : (markets tick : ℕ) → (runs markets tick []).state.markets ≡ replicate markets (record { bid = None; offer = None })
unfolding runs
quotes_first markets tick = refl

-- ---- each market has a quote

length_after : (markets : List Best) (command : Command) → length (markets_after markets command) ≡ length markets
length_after markets (Quote market bid offer) = length-set markets market (record { bid = bid; offer = offer })
length_after markets (New member id terms) = refl
length_after markets (Cancel member id orig) = refl
length_after markets (Replace member id orig terms) = refl
length_after markets (Status member id side) = refl

length_step : (tick : ℕ) (run : Run) (event : Event) → length (step tick run event).state.markets ≡ length run.state.markets
unfolding step
length_step tick run event =
    ap (λ (m : List Best). length m) (outcome_markets tick event.number event.command run.state)
    ∙ length_after run.state.markets event.command

length_fold : (tick : ℕ) (run : Run) (events : List Event) → length (fold (step tick) run events).state.markets ≡ length run.state.markets
length_fold tick run [] = refl
length_fold tick run (event ∷ later) = length_fold tick (step tick run event) later ∙ length_step tick run event

length_runs : (markets tick : ℕ) (journal : List Event) → length (runs markets tick journal).state.markets ≡ markets
unfolding runs
length_runs markets tick journal = length_fold tick _ journal ∙ length-replicate markets _

-- ---- the quotes that are kept

pub no_quotes : (config : Config) (symbol : ℕ) (markets : List Best) → IsConfig config
    → markets ≡ replicate (length config.markets) (record { bid = None; offer = None }) → HasQuotes config symbol [] markets
no_quotes config symbol markets is none = record {
  is = is;
  quotes = none ∙ sym (quotes_first (length config.markets) (tick_at config symbol));
}

pub more_quotes : (config : Config) (symbol : ℕ) (before journal : List Event) (event : Event) (old new : List Best)
    → HasQuotes config symbol before old → journal ≡ before ++ event ∷ [] → new ≡ markets_after old event.command
    → HasQuotes config symbol journal new
more_quotes config symbol before journal event old new has whole noted = record {
  is = has.is;
  quotes = noted
      ∙ ap (λ (m : List Best). markets_after m event.command) has.quotes
      ∙ sym (quotes_next (length config.markets) (tick_at config symbol) before event)
      ∙ ap (λ (j : List Event). (run_of config symbol j).state.markets) (sym whole);
}

-- ---- the last event

get_back : (before : List Event) (event : Event) → slice_get (before ++ event ∷ []) (length before) ≡ Some event
get_back [] event = refl
get_back (first ∷ before) event = get_back before event

pub last_get : (journal before : List Event) (event : Event) → journal ≡ before ++ event ∷ [] → slice_get journal (length journal - 1) ≡ Some event
last_get journal before event whole =
    let size : length journal - 1 ≡ length before = omega (arith, ap (λ (j : List Event). length j) whole, length-append before (event ∷ [])) in
    ap (λ (n : ℕ). slice_get journal n) size
    ∙ ap (λ (j : List Event). slice_get j (length before)) whole
    ∙ get_back before event

last_same : (journal before : List Event) (event other : Event) → journal ≡ before ++ event ∷ []
    → slice_get journal (length journal - 1) ≡ Some other → event ≡ other
last_same journal before event other whole is =
    let both : Some event ≡ Some other = sym (last_get journal before event whole) ∙ is in cc

last_of : (P : Event → Type 0) (before : List Event) (event : Event) → AllByRecursion P (before ++ event ∷ []) → P event
last_of P [] event all = all.0
last_of P (first ∷ before) event all = last_of P before event all.1

-- ---- commands

pub market_within : (markets market : ℕ) (bid offer : Option ℕ) → takes_command markets (Quote market bid offer) ≡ true → market < markets
market_within markets market bid offer takes =
    ltb-true market markets (and_parts (fits_limits (Quote market bid offer)) (nat_lt market markets) takes).1

pub no_quote : (markets : List Best) (command : Command)
    → ((market : ℕ) (bid offer : Option ℕ) → command ≡ Quote market bid offer → ⊥) → markets ≡ markets_after markets command
no_quote markets (Quote market bid offer) other = absurd (other market bid offer refl)
no_quote markets (New member id terms) other = refl
no_quote markets (Cancel member id orig) other = refl
no_quote markets (Replace member id orig terms) other = refl
no_quote markets (Status member id side) other = refl

-- the last event's command is one that the markets take
pub last_is_taken : (config : Config) (symbol : ℕ) (journal before : List Event) (event other : Event) (markets : List Best)
    → HasQuotes config symbol before markets → AllByRecursion (λ event. fits_event config event ≡ true) journal
    → journal ≡ before ++ event ∷ [] → slice_get journal (length journal - 1) ≡ Some other → takes_command (length markets) other.command ≡ true
last_is_taken config symbol journal before event other markets has fits whole is =
    let size : length markets ≡ length config.markets =
    ap (λ (m : List Best). length m) has.quotes ∙ length_runs (length config.markets) (tick_at config symbol) before in
    let all = subst (AllByRecursion (λ event. fits_event config event ≡ true)) whole fits in
    subst (λ (e : Event). takes_command (length markets) e.command ≡ true) (last_same journal before event other whole is)
    (subst (λ (n : ℕ). takes_command n event.command ≡ true) (sym size)
    (takes_event config event (last_of (λ event. fits_event config event ≡ true) before event all)))

-- ---- what is told of it

pub trades_told : (config : Config) (symbol : ℕ) (journal : List Event) (markets : List Best) (best : Best) (made : List Report)
    → HasQuotes config symbol journal markets → best ≡ best_of markets → made ≡ reports_of_last config symbol journal
    → trade_lines config symbol best (trades_in made) ≡ trades_text config symbol journal
trades_told config symbol journal markets best made has best_is made_is =
    ap (λ (b : Best). trade_lines config symbol b (trades_in made)) (best_is ∙ ap (λ (m : List Best). best_of m) has.quotes)
    ∙ ap (λ (r : List Report). trade_lines config symbol (best_behind config symbol journal) (trades_in r)) made_is
