-- The present id of each order has an entry with the order's number, also after one more event.
use Rattle.std.proofs.Common.{◌≡◌, ℕ, zero, suc, Bool, true, false, cond, ◌&&◌, List, [], ◌∷◌, ◌++◌, length, Option, Some, None, refl, ap, sym, ◌∙◌, subst, inl, inr, arith}
use Rattle.std.specs.Prelude.{◌⊎◌, ◌==◌, ◌||◌, slice_get, option_map}
use Rattle.std.specs.Option.{option_map_or}
use Rattle.std.specs.Str.{bytes_eq}
use Rattle.std.proofs.lemmas.Bool.{eq-eqb}
use Rattle.std.proofs.lemmas.Bool.Decides.{nat_tests}
use Rattle.std.proofs.lemmas.Slice.Eq.{bytes_eq-Decides}
use Rattle.venue_words.specs.declared.command.Command.{Command}
use Rattle.venue_words.specs.declared.command.Command.TheVariants.{Quote, New, Cancel, Replace, Status as Request}
use Rattle.venue_words.specs.declared.rule.Rule.{Rule}
use Rattle.venue_words.specs.declared.terms.Terms.{Terms}
use Rattle.venue_words.specs.declared.price.Best.{Best}
use Rattle.venue_words.specs.declared.price.Side.{Side}
use Rattle.venue_words.specs.declared.price.Side.TheVariants.{Buy, Sell}
use Rattle.venue_words.specs.declared.row.Priced.{Priced}
use Rattle.venue_words.specs.Best.{best_of}
use Rattle.eager_meaning.specs.declared.order.Order.{Order}
use Rattle.eager_meaning.specs.declared.order.Live.{Live}
use Rattle.eager_meaning.specs.declared.trade.Fill.{Fill}
use Rattle.eager_meaning.specs.Changing.{only_lowers, replaced_order, on_cancel, cancel, on_replace, resize, arrival_of_replace}
use Rattle.eager_meaning.specs.Entering.{Arrival, accepted_order, arrival_of_new, enter, on_new}
use Rattle.eager_meaning.specs.Orders.{changed_at, is_used, live_named}
use Rattle.eager_meaning.specs.Quoting.{same_best, with_quote, requote, on_quote}
use Rattle.eager_meaning.specs.State.{State, Outcome, resting, with_rows, with_no_notice}
use Rattle.eager_meaning.specs.Step.{on_status, outcome_of}
use Rattle.eager_meaning.specs.Trades.{order_after, orders_after, orders_after_all}
use Rattle.market_laws.specs.LiveLaws.{live_found, live_member}
use Rattle.market_laws.specs.ChangedLaws.{get_changed, get_other, changed_next}
use Rattle.symbol_book.specs.Changes.{broken_by, with_id, ids_after}
use Rattle.symbol_book.specs.Ids.{UsedId, NameOrders, used_of, entry_of}
use Rattle.symbol_book.proofs.Rules.{new_fresh, replace_fresh}

-- ---- entries

-- an entry that is found is found with one more behind
found_more : (member : ℕ) (id : List ℕ) (entries : List UsedId) (last : UsedId) (k : ℕ) → option_map (λ (e : UsedId). e.order) (entry_of member id entries) ≡ Some k → option_map (λ (e : UsedId). e.order) (entry_of member id (entries ++ last ∷ [])) ≡ Some k
found_more member id [] last k h = cc
found_more member id (e ∷ es) last k h =
    (elim ((e.member == member) && bytes_eq e.id id) as (λ b. option_map (λ (x : UsedId). x.order) (cond b (Some e) (entry_of member id es)) ≡ Some k → option_map (λ (x : UsedId). x.order) (cond b (Some e) (entry_of member id (es ++ last ∷ []))) ≡ Some k) [
      | true ↦ λ g. g
      | false ↦ λ g. found_more member id es last k g
    ]) h

either_false : (a b : Bool) → (a || b) ≡ false → (a ≡ false) × (b ≡ false)
either_false true b e = cc
either_false false b e = (refl, e)

same_name : (member : ℕ) (id : List ℕ) → ((member == member) && bytes_eq id id) ≡ true
same_name member id = rw (eq-eqb member member refl) ((bytes_eq-Decides id id).1 refl)

-- a fresh id is found last
found_last : (member : ℕ) (id : List ℕ) (entries : List UsedId) (k : ℕ) → is_used member id (used_of entries) ≡ false → option_map (λ (e : UsedId). e.order) (entry_of member id (with_id member id k entries)) ≡ Some k
unfolding is_used
found_last member id [] k fresh = rw (same_name member id) refl
found_last member id (e ∷ es) k fresh =
    let both = either_false ((e.member == member) && bytes_eq e.id id) _ fresh in
    rw both.0 (found_last member id es k both.1)

named_more : (entries : List UsedId) (last : UsedId) (orders : List Order) → NameOrders entries orders → NameOrders (entries ++ last ∷ []) orders
named_more entries last orders named = record { each = λ k order at. found_more order.member order.id entries last k (named.each k order at) }

-- ---- orders

-- the member and the id of an order, and those of the order with a number
abbrev name_of : Order → ℕ × List ℕ
name_of order = (order.member, order.id)

abbrev name_at : List Order → ℕ → Option (ℕ × List ℕ)
name_at orders k = option_map name_of (slice_get orders k)

name_changed : (f : Order → Order) → ((order : Order) → name_of (f order) ≡ name_of order) → (k : ℕ) (orders : List Order) (j : ℕ) → name_at (changed_at f k orders) j ≡ name_at orders j
name_changed f h k [] j = refl
name_changed f h zero (o ∷ os) zero = ap Some (h o)
name_changed f h zero (o ∷ os) (suc j) = refl
name_changed f h (suc k) (o ∷ os) zero = rw (changed_next f k o os) refl
name_changed f h (suc k) (o ∷ os) (suc j) = rw (changed_next f k o os) (name_changed f h k os j)

name_after : (fill : Fill) (order : Order) → name_of (order_after fill order) ≡ name_of order
unfolding order_after
name_after fill order = refl

names_after : (fill : Fill) (orders : List Order) (j : ℕ) → name_at (orders_after fill orders) j ≡ name_at orders j
unfolding orders_after
names_after fill orders j =
    name_changed (order_after fill) (name_after fill) fill.contra.order (changed_at (order_after fill) fill.taker.order orders) j
    ∙ name_changed (order_after fill) (name_after fill) fill.taker.order orders j

names_after_all : (fills : List Fill) (orders : List Order) (j : ℕ) → name_at (orders_after_all fills orders) j ≡ name_at orders j
unfolding orders_after_all
names_after_all [] orders j = refl
names_after_all (fill ∷ fills) orders j = names_after_all fills (orders_after fill orders) j ∙ names_after fill orders j

-- orders with these names are named as those are
some_name : (x y : ℕ × List ℕ) → Some x ≡ Some y → x ≡ y
some_name x y e = cc

named_as : (entries : List UsedId) (orders next : List Order) → ((j : ℕ) → name_at next j ≡ name_at orders j) → NameOrders entries orders → NameOrders entries next
named_as entries orders next same named =
    record {
      each = λ k order at.
          let name : name_at orders k ≡ Some (name_of order) = sym (same k) ∙ ap (option_map name_of) at in
          from k order (slice_get orders k) refl name;
    }
  where
    from : (k : ℕ) (order : Order) (found : Option Order) → slice_get orders k ≡ found → option_map name_of found ≡ Some (name_of order) → option_map (λ (e : UsedId). e.order) (entry_of order.member order.id entries) ≡ Some k
    from k order None is e = cc
    from k order (Some before) is e =
        let pair = some_name _ _ e in
        subst (λ (p : ℕ × List ℕ). option_map (λ (x : UsedId). x.order) (entry_of p.0 p.1 entries) ≡ Some k) pair (named.each k before is)

named_after_all : (entries : List UsedId) (fills : List Fill) (orders : List Order) → NameOrders entries orders → NameOrders entries (orders_after_all fills orders)
named_after_all entries fills orders named = named_as entries orders (orders_after_all fills orders) (names_after_all fills orders) named

some_order : (x y : Order) → Some x ≡ Some y → x ≡ y
some_order x y e = cc

-- what holds of each order and its number holds with one more order
each_more : (P : ℕ → Order → Type 0) (orders : List Order) (order : Order) → ((k : ℕ) (x : Order) → slice_get orders k ≡ Some x → P k x) → P (length orders) order → (k : ℕ) (x : Order) → slice_get (orders ++ order ∷ []) k ≡ Some x → P k x
each_more P [] order h p zero x e = subst (P 0) (some_order _ _ e) p
each_more P [] order h p (suc k) x e = cc
each_more P (o ∷ os) order h p zero x e = h 0 x e
each_more P (o ∷ os) order h p (suc k) x e = each_more (λ j y. P (suc j) y) os order (λ j y f. h (suc j) y f) p k x e

named_new : (entries : List UsedId) (orders : List Order) (order : Order) → is_used order.member order.id (used_of entries) ≡ false → NameOrders entries orders → NameOrders (with_id order.member order.id (length orders) entries) (orders ++ order ∷ [])
named_new entries orders order fresh named =
    let more = named_more entries (record { member = order.member; id = order.id; order = length orders }) orders named in
    record { each = each_more (λ k x. option_map (λ (e : UsedId). e.order) (entry_of x.member x.id (with_id order.member order.id (length orders) entries)) ≡ Some k) orders order more.each (found_last order.member order.id entries (length orders) fresh) }

same_or_not : (j k : ℕ) → (j ≡ k) ⊎ (j ≡ k → ⊥)
same_or_not j k =
    (elim (j == k) as (λ b. (j == k) ≡ b → (j ≡ k) ⊎ (j ≡ k → ⊥)) [ true ↦ λ e. inl (grind (arith, nat_tests)) | false ↦ λ e. inr (λ f. absurd (grind (arith, nat_tests))) ]) refl

named_changed : (entries : List UsedId) (orders : List Order) (f : Order → Order) (number : ℕ) (order : Order) → slice_get orders number ≡ Some order → is_used (f order).member (f order).id (used_of entries) ≡ false → NameOrders entries orders
    → NameOrders (with_id (f order).member (f order).id number entries) (changed_at f number orders)
named_changed entries orders f number order at fresh named =
    let more = named_more entries (record { member = (f order).member; id = (f order).id; order = number }) orders named in
    record {
      each = λ k x e.
          elim (same_or_not number k) [
            | inl same ↦
                let here : f order ≡ x = some_order _ _ (sym (get_changed f number orders order at) ∙ (ap (slice_get (changed_at f number orders)) same ∙ e)) in
                subst (λ (y : Order). option_map (λ (u : UsedId). u.order) (entry_of y.member y.id (with_id (f order).member (f order).id number entries)) ≡ Some k) here (found_last (f order).member (f order).id entries number fresh ∙ ap Some same)
            | inr other ↦ more.each k x (sym (get_other f number k orders other) ∙ e)
          ];
    }

-- ---- commands

orders_of : (side : Side) (own others : List Priced) (s : State) → (with_rows side own others s).orders ≡ s.orders
orders_of Buy own others s = refl
orders_of Sell own others s = refl

named_entered : (entries : List UsedId) (arrival : Arrival) → NameOrders entries arrival.state.orders → NameOrders entries (enter arrival).state.orders
unfolding enter
named_entered entries arrival named = rw orders_of (named_after_all entries _ arrival.state.orders named)

named_quote : (entries : List UsedId) (event market : ℕ) (quote : Best) (s : State) → NameOrders entries s.orders → NameOrders entries (on_quote event market quote s).state.orders
unfolding on_quote requote
named_quote entries event market quote s named =
    let next : State = with_quote market quote s in
    elim (same_best (best_of s.markets) (best_of next.markets)) as (λ b. NameOrders entries (cond b (with_no_notice next) (requote event next)).state.orders)
    [ true ↦ named | false ↦ named_after_all entries _ s.orders named ]

named_by_new : (entries : List UsedId) (tick event member : ℕ) (id : List ℕ) (terms : Terms) (broken : Option Rule) (s : State) → used_of entries ≡ s.used → broken_by tick member id (New member id terms) s None ≡ broken → NameOrders entries s.orders
    → NameOrders (option_map_or (λ (r : Rule). entries) broken (with_id member id (length s.orders) entries)) (on_new tick event member id terms broken s).state.orders
unfolding on_new arrival_of_new accepted_order
named_by_new entries tick event member id terms (Some rule) s used is named = named
named_by_new entries tick event member id terms None s used is named =
    let order : Order = accepted_order tick event member id terms in
    let fresh : is_used member id (used_of entries) ≡ false = rw used (new_fresh tick member id terms (is_used member id s.used) is) in
    named_entered (with_id member id (length s.orders) entries) (arrival_of_new tick event member id terms s) (named_new entries s.orders order fresh named)

named_by_cancel : (entries : List UsedId) (tick member : ℕ) (id orig : List ℕ) (live : Option Live) (broken : Option Rule) (s : State) → NameOrders entries s.orders
    → NameOrders (option_map_or (λ (r : Rule). entries) broken (option_map_or (λ (found : Live). with_id member id found.number entries) live entries)) (on_cancel member id orig live broken s).state.orders
unfolding on_cancel cancel
named_by_cancel entries tick member id orig live (Some rule) s named = named
named_by_cancel entries tick member id orig None None s named = named
named_by_cancel entries tick member id orig (Some live) None s named = named_more entries _ s.orders named

named_by_replace : (entries : List UsedId) (tick event member : ℕ) (id orig : List ℕ) (terms : Terms) (live : Option Live) (broken : Option Rule) (s : State) → used_of entries ≡ s.used
    → live_named member orig s.orders (resting s) ≡ live → broken_by tick member id (Replace member id orig terms) s live ≡ broken → NameOrders entries s.orders
    → NameOrders (option_map_or (λ (r : Rule). entries) broken (option_map_or (λ (found : Live). with_id member id found.number entries) live entries)) (on_replace tick event member id orig terms live broken s).state.orders
unfolding on_replace resize arrival_of_replace
named_by_replace entries tick event member id orig terms live (Some rule) s used is v named = named
named_by_replace entries tick event member id orig terms None None s used is v named = named
named_by_replace entries tick event member id orig terms (Some live) None s used is v named =
    let found = live_found member orig s.orders (resting s) live is in
    let owner = live_member member orig s.orders (resting s) live is in
    let fresh : is_used live.order.member id (used_of entries) ≡ false = rw (used, owner) (replace_fresh tick member id orig terms (is_used member id s.used) (Some live) v) in
    let change : Order → Order = replaced_order tick id terms in
    let changed : NameOrders (with_id member id live.number entries) (changed_at change live.number s.orders) =
    subst (λ (m : ℕ). NameOrders (with_id m id live.number entries) (changed_at change live.number s.orders)) owner (named_changed entries s.orders change live.number live.order found.order fresh named) in
    let P : Outcome → Type 0 = λ o. NameOrders (with_id member id live.number entries) o.state.orders in
    elim (only_lowers tick terms live) as (λ c. P (cond c (resize tick member id orig terms live s) (enter (arrival_of_replace tick event member id orig terms live s)))) [
      | true ↦ changed
      | false ↦ named_entered (with_id member id live.number entries) (arrival_of_replace tick event member id orig terms live s) changed
    ]

pub named_next : (entries : List UsedId) (tick event : ℕ) (command : Command) (s : State) → used_of entries ≡ s.used → NameOrders entries s.orders → NameOrders (ids_after tick command s entries) (outcome_of tick event command s).state.orders
unfolding outcome_of ids_after on_status
named_next entries tick event (Quote market bid offer) s used named = named_quote entries event market (record { bid = bid; offer = offer }) s named
named_next entries tick event (New member id terms) s used named = named_by_new entries tick event member id terms _ s used refl named
named_next entries tick event (Cancel member id orig) s used named = named_by_cancel entries tick member id orig _ _ s named
named_next entries tick event (Replace member id orig terms) s used named = named_by_replace entries tick event member id orig terms _ _ s used refl refl named
named_next entries tick event (Request member id side) s used named = named
