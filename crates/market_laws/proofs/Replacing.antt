-- A Replace keeps rows and orders in agreement.
use Rattle.std.proofs.Common.{◌≡◌, ℕ, ◌+◌, ◌-◌, ◌<◌, ◌≤◌, Bool, true, false, cond, not, List, [], ◌∷◌, ◌++◌, length, Option, Some, None, refl, ap, sym, ◌∙◌, subst, inl, inr, arith}
use Rattle.std.specs.Prelude.{slice_get, map, nat_lt, ◌==◌}
use Rattle.std.specs.List.{AllByRecursion}
use Rattle.std.proofs.lemmas.Bool.{ne_eqb, eq-eqb}
use Rattle.venue_words.specs.declared.command.Command.TheVariants.{Replace}
use Rattle.venue_words.specs.declared.rule.Rule.{Rule}
use Rattle.venue_words.specs.declared.terms.Terms.{Terms}
use Rattle.venue_words.specs.declared.row.Row.{Row}
use Rattle.venue_words.specs.declared.row.Priced.{Priced}
use Rattle.venue_words.specs.ListLaws.{all_weaken, all_both, all_append, all_parts}
use Rattle.eager_meaning.specs.declared.order.Order.{Order}
use Rattle.eager_meaning.specs.declared.order.Live.{Live}
use Rattle.eager_meaning.specs.State.{State, Outcome, resting}
use Rattle.eager_meaning.specs.Orders.{live_named, known_of, changed_at}
use Rattle.eager_meaning.specs.Showing.{row_of_order}
use Rattle.eager_meaning.specs.Terms.{row_of, quantity_of}
use Rattle.eager_meaning.specs.Verdict.{verdict}
use Rattle.eager_meaning.specs.Entering.{Arrival, enter}
use Rattle.eager_meaning.specs.Changing.{without, replaced_order, only_lowers, with_leaves, resize, arrival_of_replace, on_replace}
use Rattle.market_laws.specs.Equalities.{same_number, some_is}
use Rattle.market_laws.specs.Pairwise.{pairwise_map, across_map}
use Rattle.market_laws.specs.Sound.{AreDifferent, IsNew, AllDiffer, IsLiveRow, IsSoundOrder, AreSound}
use Rattle.market_laws.specs.ListLaws.{all_filter, all_map}
use Rattle.market_laws.proofs.Differing.{different_back, KeepsNames, named_apart, IsSameOrDiffers, each_same_or_differs}
use Rattle.market_laws.proofs.Backing.{length_changed}
use Rattle.market_laws.specs.LiveLaws.{IsLive, live_found, live_member}
use Rattle.market_laws.specs.ChangedLaws.{get_changed, get_other}
use Rattle.market_laws.proofs.Naming.{each_changed, find_passes}
use Rattle.market_laws.specs.QuantityLaws.{quantity_most, quantity_above}
use Rattle.market_laws.proofs.Admitting.{RowsAgree, IsSoundArrival, enter_agrees, enter_counts, later, filtered}

joined_differ : (xs ys : List Priced) → AllDiffer xs → AllDiffer ys → AllByRecursion (λ x. IsNew x.row ys) xs → AllDiffer (xs ++ ys)
joined_differ [] ys a b c = b
joined_differ (x ∷ xs) ys a b c = (all_append (λ y. AreDifferent x.row y.row) xs ys a.0 c.0, joined_differ xs ys a.1 b c.1)

-- the row of a live order, among the rows of both sides
pub record IsAmong (n : ℕ) (s : State) (live : Live) : Type 0 where
  pub row : IsLiveRow n s.orders live.row.row
  pub number : live.row.row.order ≡ live.number
  pub buys : AllByRecursion (λ y. IsSameOrDiffers live.row.row y.row) s.buys
  pub sells : AllByRecursion (λ y. IsSameOrDiffers live.row.row y.row) s.sells

pub among : (n : ℕ) (s : State) (live : Live) → RowsAgree n s → IsLive s.orders (resting s) live → IsAmong n s live
unfolding row_of_order
among n s live a is =
    let all = joined_differ s.buys s.sells a.own_differ a.others_differ a.differ in
    let lives = all_append (λ x. IsLiveRow n s.orders x.row) s.buys s.sells a.own_live a.others_live in
    let both = all_both (λ x. IsLiveRow n s.orders x.row) (λ x. AllByRecursion (λ y. IsSameOrDiffers x.row y.row) (resting s)) (λ x. IsLiveRow n s.orders x.row × AllByRecursion (λ y. IsSameOrDiffers x.row y.row) (resting s)) (λ x l d. (l, d)) (resting s) lives (each_same_or_differs (resting s) all) in
    let found = find_passes (λ x. IsLiveRow n s.orders x.row × AllByRecursion (λ y. IsSameOrDiffers x.row y.row) (resting s)) (λ x. x.row.order == live.number) (resting s) live.row both is.row in
    let parts = all_parts (λ y. IsSameOrDiffers live.row.row y.row) s.buys s.sells found.0.1 in
    record { row = found.0.0; number = same_number _ _ found.1; buys = parts.0; sells = parts.1 }

-- a row of another order, after the live order changed
other_row : (n : ℕ) (orders : List Order) (f : Order → Order) (number : ℕ) (row : Row) → (number ≡ row.order → ⊥) → IsLiveRow n orders row → IsLiveRow n (changed_at f number orders) row
other_row n orders f number row d l =
    let h = l.held in
    record { held = record { order = h.order; is = get_other f number row.order orders d ∙ h.is; member = h.member; quantity = h.quantity; traded = h.traded; entered = h.entered }; left = l.left }

keeps_leaves : (entry leaves : ℕ) → KeepsNames (with_leaves entry leaves)
keeps_leaves entry leaves x =
    let P : Priced → Type 0 = λ y. (y.row.entry ≡ x.row.entry) × (y.row.order ≡ x.row.order) in
    elim (x.row.entry == entry) as (λ b. P (cond b (record x { row = record x.row { leaves = leaves } }) x)) [ true ↦ (refl, refl) | false ↦ (refl, refl) ]

-- the rows that are left where a row is taken out
pub rest_differ : (row : Row) (rows : List Priced) → AllByRecursion (λ y. IsSameOrDiffers row y.row) rows → AllByRecursion (λ y. AreDifferent row y.row) (without row.entry rows)
rest_differ row [] a = tt
rest_differ row (y ∷ ys) a =
    elim a.0 [
      | inl same ↦ let e : (y.row.entry == row.entry) ≡ true = eq-eqb _ _ same.0 in rw e (rest_differ row ys a.1)
      | inr other ↦ let e : (y.row.entry == row.entry) ≡ false = ne_eqb _ _ (λ g. other.entry (sym g)) in rw e (other, rest_differ row ys a.1)
    ]

module _ (tick n : ℕ) (id : List ℕ) (terms : Terms) (live : Live) (s : State) (at : slice_get s.orders live.number ≡ Some live.order) (more : live.order.cum < quantity_of terms) where
  resized_row : (r x : Priced) → r.row.order ≡ live.number → IsSameOrDiffers r.row x.row → IsLiveRow n s.orders x.row → IsLiveRow n (changed_at (replaced_order tick id terms) live.number s.orders) (with_leaves r.row.entry (quantity_of terms - live.order.cum) x).row
  resized_row r x number d l =
      let f : Order → Order = replaced_order tick id terms in
      let orders : List Order = changed_at f live.number s.orders in
      let leaves : ℕ = quantity_of terms - live.order.cum in
      let P : Priced → Type 0 = λ y. IsLiveRow n orders y.row in
      elim d [
        | inl same ↦
            let e : (x.row.entry == r.row.entry) ≡ true = eq-eqb _ _ same.0 in
            let order : live.number ≡ x.row.order = sym (same.1 ∙ number) in
            let here : slice_get orders x.row.order ≡ Some (f live.order) = subst (λ (k : ℕ). slice_get orders k ≡ Some (f live.order)) order (get_changed f live.number s.orders live.order at) in
            let old : l.held.order ≡ live.order = some_is _ _ (sym l.held.is ∙ (ap (slice_get s.orders) (sym order) ∙ at)) in
            rw e (record {
              held = record {
                order = f live.order;
                is = here;
                member = l.held.member ∙ ap (λ (o : Order). o.member) old;
                quantity = omega arith;
                traded = l.held.traded ∙ ap (λ (o : Order). nat_lt 0 o.cum) old;
                entered = l.held.entered;
              };
              left = omega arith;
            })
        | inr other ↦
            let e : (x.row.entry == r.row.entry) ≡ false = ne_eqb _ _ (λ g. other.entry (sym g)) in
            rw e (other_row n s.orders f live.number x.row (λ g. other.order (number ∙ g)) l)
      ]

  changed_sound : ((k : ℕ) (order : Order) → slice_get s.orders k ≡ Some order → IsSoundOrder order) → (k : ℕ) (order : Order) → slice_get (changed_at (replaced_order tick id terms) live.number s.orders) k ≡ Some order → IsSoundOrder order
  changed_sound sound =
      each_changed IsSoundOrder (replaced_order tick id terms) live.number s.orders live.order sound at (record { traded = omega arith; quantity = quantity_most terms })

  resize_agrees : RowsAgree n s → IsAmong n s live → AreSound n (changed_at (replaced_order tick id terms) live.number s.orders)
      (map (with_leaves live.row.row.entry (quantity_of terms - live.order.cum)) s.buys) (map (with_leaves live.row.row.entry (quantity_of terms - live.order.cum)) s.sells)
  resize_agrees a m =
      let orders : List Order = changed_at (replaced_order tick id terms) live.number s.orders in
      let entry : ℕ = live.row.row.entry in
      let leaves : ℕ = quantity_of terms - live.order.cum in
      let f : Priced → Priced = with_leaves entry leaves in
      let keeps = named_apart f (keeps_leaves entry leaves) in
      let each : (x : Priced) → IsSameOrDiffers live.row.row x.row → IsLiveRow n s.orders x.row → IsLiveRow n orders (f x).row = λ x d l. resized_row live.row x m.number d l in
      record {
        own_live = all_map (λ x. IsLiveRow n orders (f x).row) (λ x. IsLiveRow n orders x.row) f (λ x p. p) s.buys (all_both (λ x. IsSameOrDiffers live.row.row x.row) (λ x. IsLiveRow n s.orders x.row) (λ x. IsLiveRow n orders (f x).row) each s.buys m.buys a.own_live);
        others_live = all_map (λ x. IsLiveRow n orders (f x).row) (λ x. IsLiveRow n orders x.row) f (λ x p. p) s.sells (all_both (λ x. IsSameOrDiffers live.row.row x.row) (λ x. IsLiveRow n s.orders x.row) (λ x. IsLiveRow n orders (f x).row) each s.sells m.sells a.others_live);
        own_differ = pairwise_map AreDifferent different_back f keeps s.buys a.own_differ;
        others_differ = pairwise_map AreDifferent different_back f keeps s.sells a.others_differ;
        differ = across_map AreDifferent different_back f f keeps keeps s.buys s.sells a.differ;
        sound = changed_sound a.sound;
      }

  without_live : (rows : List Priced) → live.row.row.order ≡ live.number → AllByRecursion (λ y. IsSameOrDiffers live.row.row y.row) rows → AllByRecursion (λ x. IsLiveRow n s.orders x.row) rows → AllByRecursion (λ x. IsLiveRow n (changed_at (replaced_order tick id terms) live.number s.orders) x.row) (without live.row.row.entry rows)
  without_live rows number d l =
      all_both (λ y. AreDifferent live.row.row y.row) (λ x. IsLiveRow n s.orders x.row) (λ x. IsLiveRow n (changed_at (replaced_order tick id terms) live.number s.orders) x.row)
      (λ x other alive. other_row n s.orders (replaced_order tick id terms) live.number x.row (λ g. other.order (number ∙ g)) alive) (without live.row.row.entry rows) (rest_differ live.row.row rows d)
      (all_filter (λ x. IsLiveRow n s.orders x.row) (λ x. not (x.row.entry == live.row.row.entry)) rows l)

  taken_out : RowsAgree n s → IsAmong n s live → AreSound n (changed_at (replaced_order tick id terms) live.number s.orders) (without live.row.row.entry s.buys) (without live.row.row.entry s.sells)
  taken_out a m =
      let rest = filtered n s.orders (λ x. not (x.row.entry == live.row.row.entry)) s.buys s.sells a in
      record {
        own_live = without_live s.buys m.number m.buys a.own_live;
        others_live = without_live s.sells m.number m.sells a.others_live;
        own_differ = rest.own_differ;
        others_differ = rest.others_differ;
        differ = rest.differ;
        sound = changed_sound a.sound;
      }

  -- the order's next row is new among them
  again_new : (m : ℕ) (row : Row) (rows : List Priced) → row.entry ≡ m + 1 → row.order ≡ live.number → live.row.row.order ≡ live.number → AllByRecursion (λ y. IsSameOrDiffers live.row.row y.row) rows → AllByRecursion (λ x. x.row.entry ≤ m) rows → IsNew row (without live.row.row.entry rows)
  again_new m row rows entry order number d l =
      all_both (λ y. AreDifferent live.row.row y.row) (λ x. x.row.entry ≤ m) (λ x. AreDifferent row x.row)
      (λ x other most. record { entry = λ same. omega arith; order = λ same. other.order (number ∙ (sym order ∙ same)) })
      (without live.row.row.entry rows) (rest_differ live.row.row rows d) (all_filter (λ x. x.row.entry ≤ m) (λ x. not (x.row.entry == live.row.row.entry)) rows l)

entries_of : (n : ℕ) (orders : List Order) (rows : List Priced) → AllByRecursion (λ x. IsLiveRow n orders x.row) rows → AllByRecursion (λ x. x.row.entry ≤ n) rows
entries_of n orders rows a = all_weaken (λ x. IsLiveRow n orders x.row) (λ x. x.row.entry ≤ n) (λ x l. l.held.entered) rows a

-- a Replace that breaks no rule, of a live order: where it enters anew, it is new to the book without it
pub replace_arrival : (tick n member : ℕ) (id orig : List ℕ) (terms : Terms) (live : Live) (used : Bool) (s : State)
    → live_named member orig s.orders (resting s) ≡ Some live → verdict (Replace member id orig terms) (known_of tick used (Some live)) ≡ None → RowsAgree n s → IsSoundArrival (n + 1) (arrival_of_replace tick (n + 1) member id orig terms live s)
unfolding arrival_of_replace row_of
replace_arrival tick n member id orig terms live used s is v a =
    let found = live_found member orig s.orders (resting s) live is in
    let b = later n s a in
    let m = among (n + 1) s live b found in
    let more = quantity_above member id orig terms tick used live v in
    let change : Order → Order = replaced_order tick id terms in
    let row : Row = (arrival_of_replace tick (n + 1) member id orig terms live s).taker.row in
    record {
      held = record {
        order = change live.order;
        is = get_changed change live.number s.orders live.order found.order;
        member = sym (live_member member orig s.orders (resting s) live is);
        quantity = omega arith;
        traded = refl;
        entered = omega arith;
      };
      buys = again_new tick (n + 1) id terms live s found.order more n row s.buys refl refl m.number m.buys (entries_of n s.orders s.buys a.own_live);
      sells = again_new tick (n + 1) id terms live s found.order more n row s.sells refl refl m.number m.sells (entries_of n s.orders s.sells a.others_live);
      rows = taken_out tick (n + 1) id terms live s found.order more b m;
    }

pub replace_agrees : (tick n member : ℕ) (id orig : List ℕ) (terms : Terms) (live : Option Live) (used : Bool) (broken : Option Rule) (s : State)
    → live_named member orig s.orders (resting s) ≡ live → verdict (Replace member id orig terms) (known_of tick used live) ≡ broken → RowsAgree n s → RowsAgree (n + 1) (on_replace tick (n + 1) member id orig terms live broken s).state
unfolding on_replace resize
replace_agrees tick n member id orig terms live used (Some rule) s is v a = later n s a
replace_agrees tick n member id orig terms None used None s is v a = later n s a
replace_agrees tick n member id orig terms (Some live) used None s is v a =
    let b = later n s a in
    let found = live_found member orig s.orders (resting s) live is in
    let more = quantity_above member id orig terms tick used live v in
    let arrival : Arrival = arrival_of_replace tick (n + 1) member id orig terms live s in
    let P : Outcome → Type 0 = λ o. RowsAgree (n + 1) o.state in
    elim (only_lowers tick terms live) as (λ c. P (cond c (resize tick member id orig terms live s) (enter arrival))) [
      | true ↦ resize_agrees tick (n + 1) id terms live s found.order more b (among (n + 1) s live b found)
      | false ↦ enter_agrees (n + 1) arrival (replace_arrival tick n member id orig terms live used s is v a)
    ]

pub replace_counts : (tick event member : ℕ) (id orig : List ℕ) (terms : Terms) (live : Option Live) (broken : Option Rule) (s : State) → length (on_replace tick event member id orig terms live broken s).state.orders ≡ length s.orders
unfolding on_replace resize arrival_of_replace
replace_counts tick event member id orig terms live (Some rule) s = refl
replace_counts tick event member id orig terms None None s = refl
replace_counts tick event member id orig terms (Some live) None s =
    let same = length_changed (replaced_order tick id terms) live.number s.orders in
    let arrival : Arrival = arrival_of_replace tick event member id orig terms live s in
    let P : Outcome → Type 0 = λ o. length o.state.orders ≡ length s.orders in
    elim (only_lowers tick terms live) as (λ c. P (cond c (resize tick member id orig terms live s) (enter arrival)))
    [ true ↦ same | false ↦ enter_counts arrival ∙ same ]
