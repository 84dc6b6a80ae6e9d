-- A Cancel, a Replace and a status request, by the order and the rule that were found.
use Rattle.std.proofs.Common.{◌≡◌, ℕ, Bool, true, false, List, [], ◌∷◌, Option, Some, None, refl, ap, sym, ◌∙◌, subst}
use Rattle.std.specs.Prelude.{slice_set}
use Rattle.venue_words.specs.declared.command.Command.{Command}
use Rattle.venue_words.specs.declared.command.Command.TheVariants.{Cancel, Replace, Status}
use Rattle.venue_words.specs.declared.command.Event.{Event}
use Rattle.venue_words.specs.declared.rule.Rule.{Rule}
use Rattle.venue_words.specs.declared.terms.Terms.{Terms}
use Rattle.venue_words.specs.declared.report.RefusedRequest.TheVariants.{Cancel as CancelRequest, Replace as ReplaceRequest}
use Rattle.venue_words.specs.declared.report.Report.{Report}
use Rattle.venue_words.specs.declared.price.Best.{Best}
use Rattle.venue_words.specs.declared.row.Priced.{Priced}
use Rattle.venue_words.specs.declared.row.Row.{Row}
use Rattle.eager_meaning.specs.declared.order.Live.{Live}
use Rattle.eager_meaning.specs.declared.order.Order.{Order}
use Rattle.eager_meaning.specs.Changing.{refusal, cancel, on_cancel, only_lowers, resize, arrival_of_replace, replace, on_replace}
use Rattle.eager_meaning.specs.Entering.{enter}
use Rattle.eager_meaning.specs.Orders.{is_used, known_of, live_named}
use Rattle.eager_meaning.specs.State.{State, Outcome, resting, with_notice, with_no_notice}
use Rattle.eager_meaning.specs.Step.{outcome_of, on_status}
use Rattle.eager_meaning.specs.Verdict.{verdict}
use Rattle.eager_meaning.specs.Work.{examined}
use Rattle.symbol_book.specs.declared.room.CommandIds.{CommandIds}
use Rattle.symbol_book.specs.Changes.{with_id, ids_after, entered_by_replace, examined_by_replace}
use Rattle.symbol_book.specs.Ids.{UsedId, used_of}
use Rattle.symbol_book.specs.Log.{Reports}
use Rattle.symbol_book.specs.Room.{CopiesOwn, CopiesOrig, IsRoomFor}
use Rattle.symbol_book.specs.State.{state_of}
use Rattle.symbol_book.specs.Worked.{IsWorked}
use Rattle.symbol_book.proofs.Rules.{cancel_fresh, replace_fresh}

-- nothing is reported
nothing : (event : Event) (before : List Report) → Reports event before 1 [] before 1
nothing event before = record { all = λ rest. refl }

-- the rule that a command breaks whose id is used up or not
pub rule_by : (tick : ℕ) (command : Command) (live : Option Live) (used used' : Bool) (result : Option Rule) → used ≡ used' → result ≡ verdict command (known_of tick used live) → result ≡ verdict command (known_of tick used' live)
rule_by tick command live used used' result same e = e ∙ ap (λ (u : Bool). verdict command (known_of tick u live)) same

-- the ids are as they were once one is taken back
pub worked_with : (tick : ℕ) (event : Event) (s : State) (entered : List (Option Row)) (entries : List UsedId) (before : List Report) (markets : List Best) (buys sells : List Priced) (orders : List Order) (after : List Report) (place : ℕ) (es es' : List UsedId) → es' ≡ es
    → IsWorked tick event s entered entries before (state_of markets buys sells orders (used_of es)) entered es after place → IsWorked tick event s entered entries before (state_of markets buys sells orders (used_of es')) entered es' after place
worked_with tick event s entered entries before markets buys sells orders after place es es' same done =
    subst (λ (x : List UsedId). IsWorked tick event s entered entries before (state_of markets buys sells orders (used_of x)) entered x after place) (sym same) done

module _ (tick : ℕ) (event : Event) (member : ℕ) (id orig : List ℕ) (room : CommandIds) (s : State) (own : CopiesOwn member id room) (names : CopiesOrig member orig room) where
  -- the live order that the room's copy names is the one that the command names
  pub live_is : (live : Option Live) → live_named room.copies.orig.member room.copies.orig.id s.orders (resting s) ≡ live → live_named member orig s.orders (resting s) ≡ live
  live_is live is =
      sym (ap (λ (m : ℕ). live_named m room.copies.orig.id s.orders (resting s)) names.owner ∙ ap (λ (i : List ℕ). live_named member i s.orders (resting s)) names.orig) ∙ is

  used_is : is_used room.own.member room.own.id s.used ≡ is_used member id s.used
  used_is = ap (λ (m : ℕ). is_used m room.own.id s.used) own.owner ∙ ap (λ (i : List ℕ). is_used member i s.used) own.own

  -- so is the rule
  pub rule_is : (command : Command) (live : Option Live) (result : Option Rule) → event.command ≡ command → result ≡ verdict event.command (known_of tick (is_used room.own.member room.own.id s.used) live) → verdict command (known_of tick (is_used member id s.used) live) ≡ result
  rule_is command live result is e =
      sym (e ∙ (ap (λ (x : Command). verdict x (known_of tick (is_used room.own.member room.own.id s.used) live)) is ∙ ap (λ (used : Bool). verdict command (known_of tick used live)) used_is))

  module _ (entered : List (Option Row)) (entries : List UsedId) (before : List Report) (result : Option Rule) where
    -- ---- cancels

    module _ (command : event.command ≡ Cancel member id orig) where
      pub cancel_refused : (live : Option Live) (rule : Rule) (after : List Report) (place : ℕ) → live_named room.copies.orig.member room.copies.orig.id s.orders (resting s) ≡ live → result ≡ verdict event.command (known_of tick (is_used room.own.member room.own.id s.used) live) → result ≡ Some rule
          → Reports event before 1 (record { member = room.copies.member; kind = refusal CancelRequest room.copies.shown room.copies.orig.id live rule } ∷ []) after place
          → IsWorked tick event s entered entries before s entered entries after place
      unfolding outcome_of on_cancel ids_after
      cancel_refused live rule after place named e some told =
          let live_e = live_is live named in
          let rule_e : verdict (Cancel member id orig) (known_of tick (is_used member id s.used) live) ≡ Some rule = rule_is (Cancel member id orig) live result command e ∙ some in
          let outcome_is : outcome_of tick event.number event.command s ≡ with_notice member (refusal CancelRequest id orig live rule) s = rw (command, live_e, rule_e) refl in
          record {
            state = ap (λ (o : Outcome). o.state) outcome_is;
            reports = subst (λ (o : Outcome). Reports event before 1 o.notices after place) (sym outcome_is) (rw (own.sender, own.shown, names.orig) at told);
            rows = rw (command, live_e, rule_e) refl;
            ids = rw (command, live_e, rule_e) refl;
          }

      pub cancel_none : live_named room.copies.orig.member room.copies.orig.id s.orders (resting s) ≡ None → result ≡ verdict event.command (known_of tick (is_used room.own.member room.own.id s.used) None) → result ≡ None
          → IsWorked tick event s entered entries before s entered entries before 1
      unfolding outcome_of on_cancel ids_after
      cancel_none named e none =
          let live_e = live_is None named in
          let rule_e : verdict (Cancel member id orig) (known_of tick (is_used member id s.used) None) ≡ None = rule_is (Cancel member id orig) None result command e ∙ none in
          let outcome_is : outcome_of tick event.number event.command s ≡ with_no_notice s = rw (command, live_e, rule_e) refl in
          record {
            state = ap (λ (o : Outcome). o.state) outcome_is;
            reports = subst (λ (o : Outcome). Reports event before 1 o.notices before 1) (sym outcome_is) (nothing event before);
            rows = rw (command, live_e, rule_e) refl;
            ids = rw (command, live_e, rule_e) refl;
          }

      pub cancel_done : (live : Live) (number : ℕ) (next : State) (entered_next : List (Option Row)) (entries_next : List UsedId) (after : List Report) (place : ℕ)
          → live_named room.copies.orig.member room.copies.orig.id s.orders (resting s) ≡ Some live → result ≡ verdict event.command (known_of tick (is_used room.own.member room.own.id s.used) (Some live)) → result ≡ None → live.number ≡ number
          → (cancel room.copies.member room.copies.shown room.copies.orig.id live s).state ≡ next → Reports event before 1 (cancel room.copies.member room.copies.shown room.copies.orig.id live s).notices after place
          → entered_next ≡ slice_set entered number None → entries_next ≡ with_id room.copies.member room.copies.shown number entries
          → IsWorked tick event s entered entries before next entered_next entries_next after place
      unfolding outcome_of on_cancel ids_after
      cancel_done live number next entered_next entries_next after place named e none number_is state told rows ids =
          let live_e = live_is (Some live) named in
          let rule_e : verdict (Cancel member id orig) (known_of tick (is_used member id s.used) (Some live)) ≡ None = rule_is (Cancel member id orig) (Some live) result command e ∙ none in
          let outcome_is : outcome_of tick event.number event.command s ≡ cancel room.copies.member room.copies.shown room.copies.orig.id live s = rw (command, live_e, rule_e, own.sender, own.shown, names.orig) refl in
          record {
            state = ap (λ (o : Outcome). o.state) outcome_is ∙ state;
            reports = subst (λ (o : Outcome). Reports event before 1 o.notices after place) (sym outcome_is) told;
            rows = rw (command, live_e, rule_e, number_is) rows;
            ids = rw (command, live_e, rule_e, number_is) (rw (own.sender, own.shown) at ids);
          }

      pub cancel_is_fresh : (live : Option Live) → result ≡ verdict event.command (known_of tick (is_used room.own.member room.own.id s.used) live) → result ≡ None → is_used room.own.member room.own.id s.used ≡ false
      cancel_is_fresh live e none =
          used_is ∙ cancel_fresh tick member id orig (is_used member id s.used) live (rule_is (Cancel member id orig) live result command e ∙ none)

    -- ---- replaces

    module _ (terms : Terms) (command : event.command ≡ Replace member id orig terms) where
      pub replace_refused : (live : Option Live) (rule : Rule) (after : List Report) (place : ℕ) → live_named room.copies.orig.member room.copies.orig.id s.orders (resting s) ≡ live → result ≡ verdict event.command (known_of tick (is_used room.own.member room.own.id s.used) live) → result ≡ Some rule
          → Reports event before 1 (record { member = room.copies.member; kind = refusal ReplaceRequest room.copies.shown room.copies.orig.id live rule } ∷ []) after place
          → IsWorked tick event s entered entries before s entered entries after place
      unfolding outcome_of on_replace ids_after
      replace_refused live rule after place named e some told =
          let live_e = live_is live named in
          let rule_e : verdict (Replace member id orig terms) (known_of tick (is_used member id s.used) live) ≡ Some rule = rule_is (Replace member id orig terms) live result command e ∙ some in
          let outcome_is : outcome_of tick event.number event.command s ≡ with_notice member (refusal ReplaceRequest id orig live rule) s = rw (command, live_e, rule_e) refl in
          record {
            state = ap (λ (o : Outcome). o.state) outcome_is;
            reports = subst (λ (o : Outcome). Reports event before 1 o.notices after place) (sym outcome_is) (rw (own.sender, own.shown, names.orig) at told);
            rows = rw (command, live_e, rule_e) refl;
            ids = rw (command, live_e, rule_e) refl;
          }

      pub replace_none : live_named room.copies.orig.member room.copies.orig.id s.orders (resting s) ≡ None → result ≡ verdict event.command (known_of tick (is_used room.own.member room.own.id s.used) None) → result ≡ None
          → IsWorked tick event s entered entries before s entered entries before 1
      unfolding outcome_of on_replace ids_after
      replace_none named e none =
          let live_e = live_is None named in
          let rule_e : verdict (Replace member id orig terms) (known_of tick (is_used member id s.used) None) ≡ None = rule_is (Replace member id orig terms) None result command e ∙ none in
          let outcome_is : outcome_of tick event.number event.command s ≡ with_no_notice s = rw (command, live_e, rule_e) refl in
          record {
            state = ap (λ (o : Outcome). o.state) outcome_is;
            reports = subst (λ (o : Outcome). Reports event before 1 o.notices before 1) (sym outcome_is) (nothing event before);
            rows = rw (command, live_e, rule_e) refl;
            ids = rw (command, live_e, rule_e) refl;
          }

      pub replace_done : (live : Live) (number : ℕ) (next : State) (entered_next : List (Option Row)) (entries_next : List UsedId) (after : List Report) (place : ℕ)
          → live_named room.copies.orig.member room.copies.orig.id s.orders (resting s) ≡ Some live → result ≡ verdict event.command (known_of tick (is_used room.own.member room.own.id s.used) (Some live)) → result ≡ None → live.number ≡ number
          → (replace tick event.number room.copies.member room.copies.order room.copies.orig.id terms live s).state ≡ next → Reports event before 1 (replace tick event.number room.copies.member room.copies.order room.copies.orig.id terms live s).notices after place
          → entered_next ≡ entered_by_replace tick event.number room.copies.member terms live entered → entries_next ≡ with_id room.copies.member room.copies.order number entries
          → IsWorked tick event s entered entries before next entered_next entries_next after place
      unfolding outcome_of on_replace ids_after
      replace_done live number next entered_next entries_next after place named e none number_is state told rows ids =
          let live_e = live_is (Some live) named in
          let rule_e : verdict (Replace member id orig terms) (known_of tick (is_used member id s.used) (Some live)) ≡ None = rule_is (Replace member id orig terms) (Some live) result command e ∙ none in
          let outcome_is : outcome_of tick event.number event.command s ≡ replace tick event.number room.copies.member room.copies.order room.copies.orig.id terms live s = rw (command, live_e, rule_e, own.sender, own.order, names.orig) refl in
          record {
            state = ap (λ (o : Outcome). o.state) outcome_is ∙ state;
            reports = subst (λ (o : Outcome). Reports event before 1 o.notices after place) (sym outcome_is) told;
            rows = rw (command, live_e, rule_e) (rw own.sender at rows);
            ids = rw (command, live_e, rule_e, number_is) (rw (own.sender, own.order) at ids);
          }

      pub replace_is_fresh : (live : Option Live) → result ≡ verdict event.command (known_of tick (is_used room.own.member room.own.id s.used) live) → result ≡ None → is_used room.own.member room.own.id s.used ≡ false
      replace_is_fresh live e none =
          used_is ∙ replace_fresh tick member id orig terms (is_used member id s.used) live (rule_is (Replace member id orig terms) live result command e ∙ none)

      -- the orders that it examines
      pub replace_examined : (live : Live) → live_named room.copies.orig.member room.copies.orig.id s.orders (resting s) ≡ Some live → result ≡ verdict event.command (known_of tick (is_used room.own.member room.own.id s.used) (Some live)) → result ≡ None
          → examined tick s event.number event.command ≡ examined_by_replace tick event.number room.copies.member room.copies.order room.copies.orig.id terms live s
      replace_examined live named e none =
          let live_e = live_is (Some live) named in
          let rule_e : verdict (Replace member id orig terms) (known_of tick (is_used member id s.used) (Some live)) ≡ None = rule_is (Replace member id orig terms) (Some live) result command e ∙ none in
          rw (command, live_e, rule_e, own.sender, own.order, names.orig) refl

-- a Replace that only lowers, and one that enters anew
pub replace_lowers : (tick event member : ℕ) (id orig : List ℕ) (terms : Terms) (live : Live) (s : State) → only_lowers tick terms live ≡ true → replace tick event member id orig terms live s ≡ resize tick member id orig terms live s
replace_lowers tick event member id orig terms live s e = rw e refl

pub replace_enters : (tick event member : ℕ) (id orig : List ℕ) (terms : Terms) (live : Live) (s : State) → only_lowers tick terms live ≡ false → replace tick event member id orig terms live s ≡ enter (arrival_of_replace tick event member id orig terms live s)
replace_enters tick event member id orig terms live s e = rw e refl

-- a status request, by the copy of its id
pub status_command : (command : Command) (room : CommandIds) (member : ℕ) (id : List ℕ) (side : ℕ) → IsRoomFor command room → command ≡ Status member id side → command ≡ Status room.copies.orig.member room.copies.orig.id side
status_command command room member id side holds is =
    let copies : CopiesOrig member id room = subst (λ (x : Command). IsRoomFor x room) is holds in
    rw (copies.owner, copies.orig) is

pub status_done : (tick : ℕ) (event : Event) (side : ℕ) (room : CommandIds) (s : State) (entered : List (Option Row)) (entries : List UsedId) (before after : List Report) (place : ℕ) → event.command ≡ Status room.copies.orig.member room.copies.orig.id side
    → Reports event before 1 (on_status room.copies.orig.member room.copies.orig.id side s).notices after place → IsWorked tick event s entered entries before s entered entries after place
unfolding outcome_of on_status ids_after
status_done tick event side room s entered entries before after place command told =
    let outcome_is : outcome_of tick event.number event.command s ≡ on_status room.copies.orig.member room.copies.orig.id side s = rw command refl in
    record {
      state = ap (λ (o : Outcome). o.state) outcome_is;
      reports = subst (λ (o : Outcome). Reports event before 1 o.notices after place) (sym outcome_is) told;
      rows = rw command refl;
      ids = rw command refl;
    }
