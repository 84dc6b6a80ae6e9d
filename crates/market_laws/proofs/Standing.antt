-- Each event keeps the rows as their orders entered.
use Rattle.std.proofs.Common.{◌≡◌, ℕ, ◌+◌, ◌-◌, ◌<◌, Bool, true, false, cond, not, List, [], ◌∷◌, ◌++◌, length, Option, Some, None, refl, ap, sym, ◌∙◌, subst, inl, inr, arith}
use Rattle.std.specs.Prelude.{◌⊎◌, fold, map, slice_get, slice_set, ◌==◌}
use Rattle.std.specs.List.{AllByRecursion}
use Rattle.std.specs.Option.{option_map_or}
use Rattle.std.proofs.lemmas.Bool.{ne_eqb, eq-eqb}
use Rattle.std.proofs.lemmas.Bool.Decides.{nat_tests}
use Rattle.std.proofs.lemmas.List.{length-append}
use Rattle.std.proofs.lemmas.Option.{slice_get_within}
use Rattle.venue_words.specs.declared.command.Command.{Command}
use Rattle.venue_words.specs.declared.command.Command.TheVariants.{Quote, New, Cancel, Replace, Status as Request}
use Rattle.venue_words.specs.declared.command.Event.{Event}
use Rattle.venue_words.specs.declared.rule.Rule.{Rule}
use Rattle.venue_words.specs.declared.terms.Terms.{Terms}
use Rattle.venue_words.specs.declared.price.Best.{Best}
use Rattle.venue_words.specs.declared.price.Side.{Side}
use Rattle.venue_words.specs.declared.price.Side.TheVariants.{Buy, Sell}
use Rattle.venue_words.specs.declared.row.Row.{Row}
use Rattle.venue_words.specs.declared.row.Priced.{Priced}
use Rattle.venue_words.specs.ListLaws.{all_weaken, all_both}
use Rattle.venue_words.specs.Best.{best_of}
use Rattle.venue_words.specs.Retime.{reprice}
use Rattle.eager_meaning.specs.declared.order.Order.{Order}
use Rattle.eager_meaning.specs.declared.order.Live.{Live}
use Rattle.eager_meaning.specs.State.{State, initial, own_rows, other_rows, with_rows, resting, with_no_notice}
use Rattle.eager_meaning.specs.Orders.{changed_at, live_named, is_used, known_of}
use Rattle.eager_meaning.specs.Quoting.{requote, on_quote, with_quote, same_best}
use Rattle.eager_meaning.specs.Recheck.{Matched, recheck}
use Rattle.eager_meaning.specs.Trades.{orders_after_all}
use Rattle.eager_meaning.specs.Terms.{row_of, is_immediate, quantity_of}
use Rattle.eager_meaning.specs.Verdict.{verdict}
use Rattle.eager_meaning.specs.Entering.{Arrival, Entered, entered, enter, accepted_order, arrival_of_new, on_new}
use Rattle.eager_meaning.specs.Changing.{without, cancel, on_cancel, replaced_order, only_lowers, with_leaves, resize, arrival_of_replace, on_replace}
use Rattle.eager_meaning.specs.Step.{Run, runs, step, on_status, outcome_of}
use Rattle.market_laws.specs.Equalities.{some_is}
use Rattle.market_laws.specs.Sound.{AreDifferent, IsSound}
use Rattle.market_laws.specs.Standing.{if_it_rests, entries_after, EntryRun, entry_step, AreStanding, RowsStand, same_run}
use Rattle.market_laws.specs.ListLaws.{all_filter, all_map}
use Rattle.market_laws.proofs.Admitting.{RowsAgree, IsSoundArrival, new_arrival, own_first, new_to_others, later}
use Rattle.market_laws.proofs.Agreeing.{step_sound, no_order}
use Rattle.market_laws.proofs.Backing.{length_after_all, length_changed}
use Rattle.market_laws.proofs.Differing.{IsSameOrDiffers}
use Rattle.market_laws.proofs.Enduring.{get_set, get_set_other, length_set, get_either, IsAsEntered, AreAsEntered, with_parts, entered_repriced, entered_rechecked, entered_entered, MayHaveRow, HasEntries, stands}
use Rattle.market_laws.specs.LiveLaws.{live_found}
use Rattle.market_laws.proofs.Naming.{get_kept, get_last}
use Rattle.market_laws.specs.ChangedLaws.{get_other}
use Rattle.market_laws.proofs.Numbering.{kept_by_all, numbered_from_none}
use Rattle.market_laws.proofs.Owning.{HasRowOf, HaveRows, row_mapped, turned_rows, rechecked_rows, repriced_rows, entered_rows}
use Rattle.market_laws.proofs.Replacing.{IsAmong, among, rest_differ, replace_arrival}
use Rattle.market_laws.proofs.Sweeping.{reprice_sound}

-- ---- a quote

quote_stands : (n event market : ℕ) (quote : Best) (s : State) (entries : List (Option Row)) → RowsAgree n s → HasEntries entries s → HasEntries entries (on_quote event market quote s).state
unfolding on_quote requote
quote_stands n event market quote s entries a h =
    let next : State = with_quote market quote s in
    let best : Best = best_of next.markets in
    let buys : List Priced = reprice event best s.buys in
    let sells : List Priced = reprice event best s.sells in
    let matched : Matched = recheck buys sells in
    let rows = entered_rechecked entries buys sells (entered_repriced entries event best s.buys h.buys) (entered_repriced entries event best s.sells h.sells) in
    elim (same_best (best_of s.markets) best) as (λ b. HasEntries entries (cond b (with_no_notice next) (requote event next)).state) [
      | true ↦ record { count = h.count; buys = h.buys; sells = h.sells; rows = h.rows }
      | false ↦ record {
        count = h.count ∙ sym (length_after_all matched.fills s.orders);
        buys = rows.0;
        sells = rows.1;
        rows = rechecked_rows (MayHaveRow entries) n s.orders buys sells (reprice_sound n event best s.orders s.buys s.sells a)
            (repriced_rows (MayHaveRow entries) n event best s.orders s.buys s.sells h.rows);
      }
    ]

-- ---- an order that enters

-- an order has a row among those of both sides, where it has shares left
abbrev StillHasRow : ℕ → List Order → List Priced → List Priced → Type 0
StillHasRow k orders own others = (order : Order) → slice_get orders k ≡ Some order → order.cum < order.quantity → HasRowOf k own ⊎ HasRowOf k others

own_still : (side : Side) (k : ℕ) (s : State) → StillHasRow k s.orders s.buys s.sells → StillHasRow k s.orders (own_rows side s) (other_rows side s)
own_still Buy k s h order at more = h order at more
own_still Sell k s h order at more = elim (h order at more) [ inl one ↦ inr one | inr other ↦ inl other ]

own_entered : (side : Side) (entries : List (Option Row)) (s : State) → AreAsEntered entries s.buys → AreAsEntered entries s.sells → AreAsEntered entries (own_rows side s) × AreAsEntered entries (other_rows side s)
own_entered Buy entries s a b = (a, b)
own_entered Sell entries s a b = (b, a)

put_stands : (n : ℕ) (side : Side) (entries : List (Option Row)) (orders : List Order) (own others : List Priced) (s : State) → length entries ≡ length orders → AreAsEntered entries own → AreAsEntered entries others → HaveRows (MayHaveRow entries) orders own others
    → HasEntries entries (with_rows side own others (record s { orders = orders }))
put_stands n Buy entries orders own others s count a b rows = record { count = count; buys = a; sells = b; rows = rows }
put_stands n Sell entries orders own others s count a b rows = record { count = count; buys = b; sells = a; rows = turned_rows (MayHaveRow entries) n orders own others rows }

-- the entries as they are to be where an order is about to enter
record AwaitEntry (entries : List (Option Row)) (arrival : Arrival) : Type 0 where
  count : length entries ≡ length arrival.state.orders
  buys : AreAsEntered entries arrival.state.buys
  sells : AreAsEntered entries arrival.state.sells
  taker : arrival.immediate ≡ false → IsAsEntered entries arrival.taker
  rows : (k : ℕ) → MayHaveRow entries k → (k ≡ arrival.taker.row.order) × (arrival.immediate ≡ false) ⊎ StillHasRow k arrival.state.orders arrival.state.buys arrival.state.sells

enter_stands : (n : ℕ) (arrival : Arrival) (entries : List (Option Row)) → IsSoundArrival n arrival → AwaitEntry entries arrival → HasEntries entries (enter arrival).state
unfolding enter
enter_stands n arrival entries a h =
    let s : State = arrival.state in
    let side : Side = arrival.taker.row.key.side in
    let own : List Priced = own_rows side s in
    let others : List Priced = other_rows side s in
    let after : Entered = entered arrival.taker arrival.immediate own others in
    let sides = own_entered side entries s h.buys h.sells in
    let rows = entered_entered entries arrival.taker arrival.immediate own others h.taker sides.0 sides.1 in
    put_stands n side entries (orders_after_all after.fills s.orders) after.own after.others s (h.count ∙ sym (length_after_all after.fills s.orders)) rows.0 rows.1
    (entered_rows (MayHaveRow entries) n s.orders arrival.taker arrival.immediate own others a.held (new_to_others side arrival.taker.row s a.buys a.sells) (own_first n side s a.rows)
    (λ k may. elim (h.rows k may) [ inl mine ↦ inl mine | inr old ↦ inr (own_still side k s old) ]))

-- an entry that is kept is of an order that may rest
may_rest : (immediate : Bool) (row entry : Row) → if_it_rests immediate row ≡ Some entry → immediate ≡ false
may_rest true row entry e = cc
may_rest false row entry e = refl

rests : (immediate : Bool) (row : Row) → immediate ≡ false → if_it_rests immediate row ≡ Some row
rests immediate row e = rw e refl

-- ---- a New

new_stands : (tick n member : ℕ) (id : List ℕ) (terms : Terms) (s : State) (entries : List (Option Row)) → RowsAgree n s → HasEntries entries s
    → HasEntries (entries ++ if_it_rests (is_immediate terms) (row_of tick (n + 1) (length s.orders) member 0 terms) ∷ []) (enter (arrival_of_new tick (n + 1) member id terms s)).state
unfolding arrival_of_new row_of
new_stands tick n member id terms s entries a h =
    let row : Row = row_of tick (n + 1) (length s.orders) member 0 terms in
    let kept : Option Row = if_it_rests (is_immediate terms) row in
    let order : Order = accepted_order tick (n + 1) member id terms in
    let more : List (Option Row) = entries ++ kept ∷ [] in
    let still : (x : Priced) → IsAsEntered entries x → IsAsEntered more x = λ x p. record { entry = p.entry; is = get_kept entries kept x.row.order (Some p.entry) p.is; same = p.same } in
    let last : slice_get more (length s.orders) ≡ Some kept = subst (λ (k : ℕ). slice_get more k ≡ Some kept) h.count (get_last entries kept) in
    enter_stands (n + 1) (arrival_of_new tick (n + 1) member id terms s) more (new_arrival tick n member id terms s a)
    (record {
      count = (let one = length-append entries (kept ∷ []) in let other = length-append s.orders (order ∷ []) in let same = h.count in omega (arith, one, other, same));
      buys = all_weaken (IsAsEntered entries) (IsAsEntered more) still s.buys h.buys;
      sells = all_weaken (IsAsEntered entries) (IsAsEntered more) still s.sells h.sells;
      taker = λ e. record { entry = row; is = last ∙ ap Some (rests (is_immediate terms) row e); same = refl };
      rows = λ k may. elim (get_either entries kept k (Some may.0) may.1) [
        | inl mine ↦ inl (mine.0 ∙ h.count, may_rest (is_immediate terms) row may.0 mine.1)
        | inr old ↦ inr (λ found at left. elim (get_either s.orders order k found at) [
          | inl none ↦ (let within = slice_get_within entries k (Some may.0) old in let same = h.count in let past = none.0 in absurd (omega (arith, within, same, past)))
          | inr here ↦ h.rows k found (may.0, old) here left
        ])
      ];
    })

-- ---- a row that is taken out

-- another order's row stays where one is taken out
row_stays : (row : Row) (k : ℕ) (rows : List Priced) → AllByRecursion (λ y. IsSameOrDiffers row y.row) rows → (row.order ≡ k → ⊥) → HasRowOf k rows → HasRowOf k (without row.entry rows)
row_stays row k [] d other h = h
row_stays row k (y ∷ ys) d other h =
    elim h [
      | inl here ↦ elim d.0 [
        | inl same ↦ absurd (other (sym same.1 ∙ here))
        | inr differs ↦ let e : (y.row.entry == row.entry) ≡ false = ne_eqb _ _ (λ g. differs.entry (sym g)) in rw e (inl here)
      ]
      | inr there ↦
          let rest = row_stays row k ys d.1 other there in
          elim (not (y.row.entry == row.entry)) as (λ b. HasRowOf k (cond b (y ∷ without row.entry ys) (without row.entry ys))) [ true ↦ inr rest | false ↦ rest ]
    ]

module _ (n : ℕ) (s : State) (live : Live) (m : IsAmong n s live) (entries : List (Option Row)) (h : HasEntries entries s) (within : live.number < length s.orders) (kept : Option Row) where
  -- the entries with another for the live order
  abbrev next : List (Option Row)
  next = slice_set entries live.number kept

  set_here : slice_get next live.number ≡ Some kept
  set_here = get_set entries live.number kept (let same = h.count in omega (arith, within, same))

  out_entered : (rows : List Priced) → AllByRecursion (λ y. IsSameOrDiffers live.row.row y.row) rows → AreAsEntered entries rows → AreAsEntered next (without live.row.row.entry rows)
  out_entered rows d a =
      all_both (λ y. AreDifferent live.row.row y.row) (IsAsEntered entries) (IsAsEntered next)
      (λ y other p. record { entry = p.entry; is = get_set_other entries live.number y.row.order kept (λ e. other.order (m.number ∙ e)) ∙ p.is; same = p.same })
      (without live.row.row.entry rows) (rest_differ live.row.row rows d) (all_filter (IsAsEntered entries) (λ y. not (y.row.entry == live.row.row.entry)) rows a)

  -- another order still has its row
  out_still : (k : ℕ) → (live.number ≡ k → ⊥) → MayHaveRow next k → StillHasRow k s.orders (without live.row.row.entry s.buys) (without live.row.row.entry s.sells)
  out_still k other may order at more =
      let old : slice_get entries k ≡ Some (Some may.0) = sym (get_set_other entries live.number k kept other) ∙ may.1 in
      let differs : live.row.row.order ≡ k → ⊥ = λ e. other (sym m.number ∙ e) in
      elim (h.rows k order (may.0, old) at more) [
        | inl one ↦ inl (row_stays live.row.row k s.buys m.buys differs one)
        | inr one ↦ inr (row_stays live.row.row k s.sells m.sells differs one)
      ]

  same_count : length next ≡ length s.orders
  same_count = length_set entries live.number kept ∙ h.count

-- whether two numbers are the same
same_or_not : (a b : ℕ) → (a ≡ b) ⊎ (a ≡ b → ⊥)
same_or_not a b =
    (elim (a == b) as (λ t. (a == b) ≡ t → (a ≡ b) ⊎ (a ≡ b → ⊥)) [
      | true ↦ λ e. inl (same_number e)
      | false ↦ λ e. inr (λ same. let is : (a == b) ≡ true = eq-eqb _ _ same in let both = sym e ∙ is in cc)
    ]) refl
  where
    same_number : (a == b) ≡ true → a ≡ b
    same_number e = grind (arith, nat_tests)

none_kept : (entry : Row) → None ≡ Some entry → ⊥
none_kept entry e = cc

cancel_stands : (n : ℕ) (s : State) (live : Live) (entries : List (Option Row)) → IsAmong n s live → live.number < length s.orders → HasEntries entries s
    → HasEntries (slice_set entries live.number None) (record s { buys = without live.row.row.entry s.buys; sells = without live.row.row.entry s.sells })
cancel_stands n s live entries m within h =
    record {
      count = same_count n s live m entries h within None;
      buys = out_entered n s live m entries h within None s.buys m.buys h.buys;
      sells = out_entered n s live m entries h within None s.sells m.sells h.sells;
      rows = λ k order may at more. elim (same_or_not live.number k) [
        | inl same ↦ absurd (none_kept may.0 (some_is _ _ (sym (set_here n s live m entries h within None) ∙ (ap (slice_get (slice_set entries live.number None)) same ∙ may.1))))
        | inr other ↦ out_still n s live m entries h within None k other may order at more
      ];
    }

-- ---- a Replace

-- the live order has shares left
live_left : (n : ℕ) (s : State) (live : Live) → IsAmong n s live → slice_get s.orders live.number ≡ Some live.order → live.order.cum < live.order.quantity
live_left n s live m at =
    let held = m.row.held in
    let same : held.order ≡ live.order = some_is _ _ (sym held.is ∙ (ap (slice_get s.orders) m.number ∙ at)) in
    let q : held.order.quantity ≡ live.order.quantity = ap (λ (o : Order). o.quantity) same in
    let c : held.order.cum ≡ live.order.cum = ap (λ (o : Order). o.cum) same in
    let sum = held.quantity in
    let left = m.row.left in
    omega (arith, q, c, sum, left)

entered_with_leaves : (entries : List (Option Row)) (entry leaves : ℕ) (x : Priced) → IsAsEntered entries x → IsAsEntered entries (with_leaves entry leaves x)
entered_with_leaves entries entry leaves x p =
    elim (x.row.entry == entry) as (λ b. IsAsEntered entries (cond b (record x { row = record x.row { leaves = leaves } }) x))
    [ true ↦ record { entry = p.entry; is = p.is; same = ap (with_parts leaves x.row.traded) p.same } | false ↦ p ]

same_order : (entry leaves : ℕ) (x : Priced) → (with_leaves entry leaves x).row.order ≡ x.row.order
same_order entry leaves x =
    elim (x.row.entry == entry) as (λ b. (cond b (record x { row = record x.row { leaves = leaves } }) x).row.order ≡ x.row.order) [ true ↦ refl | false ↦ refl ]

resize_stands : (n : ℕ) (s : State) (live : Live) (entries : List (Option Row)) (f : Order → Order) (leaves : ℕ) → IsAmong n s live → slice_get s.orders live.number ≡ Some live.order → HasEntries entries s
    → HasEntries entries (record s { orders = changed_at f live.number s.orders; buys = map (with_leaves live.row.row.entry leaves) s.buys; sells = map (with_leaves live.row.row.entry leaves) s.sells })
resize_stands n s live entries f leaves m at h =
    let entry : ℕ = live.row.row.entry in
    let change : Priced → Priced = with_leaves entry leaves in
    let moved : (k : ℕ) → HasRowOf k s.buys ⊎ HasRowOf k s.sells → HasRowOf k (map change s.buys) ⊎ HasRowOf k (map change s.sells) =
    λ k old. elim old [ inl one ↦ inl (row_mapped change (same_order entry leaves) k s.buys one) | inr one ↦ inr (row_mapped change (same_order entry leaves) k s.sells one) ] in
    record {
      count = h.count ∙ sym (length_changed f live.number s.orders);
      buys = all_map (IsAsEntered entries) (IsAsEntered entries) change (entered_with_leaves entries entry leaves) s.buys h.buys;
      sells = all_map (IsAsEntered entries) (IsAsEntered entries) change (entered_with_leaves entries entry leaves) s.sells h.sells;
      rows = λ k order may is more. moved k (elim (same_or_not live.number k) [
        | inl same ↦ h.rows k live.order may (subst (λ (j : ℕ). slice_get s.orders j ≡ Some live.order) same at) (live_left n s live m at)
        | inr other ↦ h.rows k order may (sym (get_other f live.number k s.orders other) ∙ is) more
      ]);
    }

anew_stands : (tick n member : ℕ) (id orig : List ℕ) (terms : Terms) (live : Live) (used : Bool) (s : State) (entries : List (Option Row))
    → live_named member orig s.orders (resting s) ≡ Some live → verdict (Replace member id orig terms) (known_of tick used (Some live)) ≡ None → RowsAgree n s → IsAmong (n + 1) s live → live.number < length s.orders → HasEntries entries s
    → HasEntries (slice_set entries live.number (if_it_rests (is_immediate terms) (row_of tick (n + 1) live.number member live.order.cum terms))) (enter (arrival_of_replace tick (n + 1) member id orig terms live s)).state
unfolding arrival_of_replace row_of
anew_stands tick n member id orig terms live used s entries is v a m within h =
    let row : Row = row_of tick (n + 1) live.number member live.order.cum terms in
    let kept : Option Row = if_it_rests (is_immediate terms) row in
    let change : Order → Order = replaced_order tick id terms in
    let here = set_here (n + 1) s live m entries h within kept in
    enter_stands (n + 1) (arrival_of_replace tick (n + 1) member id orig terms live s) (slice_set entries live.number kept) (replace_arrival tick n member id orig terms live used s is v a)
    (record {
      count = same_count (n + 1) s live m entries h within kept ∙ sym (length_changed change live.number s.orders);
      buys = out_entered (n + 1) s live m entries h within kept s.buys m.buys h.buys;
      sells = out_entered (n + 1) s live m entries h within kept s.sells m.sells h.sells;
      taker = λ e. record { entry = row; is = here ∙ ap Some (rests (is_immediate terms) row e); same = refl };
      rows = λ k may. elim (same_or_not live.number k) [
        | inl same ↦ inl (sym same, may_rest (is_immediate terms) row may.0 (some_is _ _ (sym here ∙ (ap (slice_get (slice_set entries live.number kept)) same ∙ may.1))))
        | inr other ↦ inr (λ order at more. out_still (n + 1) s live m entries h within kept k other may order (sym (get_other change live.number k s.orders other) ∙ at) more)
      ];
    })

-- ---- all events

-- the entries after a Replace that breaks no rule
abbrev if_it_enters_anew : ℕ → ℕ → ℕ → Terms → Live → List (Option Row) → List (Option Row)
if_it_enters_anew tick n member terms live entries =
    cond (only_lowers tick terms live) entries (slice_set entries live.number (if_it_rests (is_immediate terms) (row_of tick (n + 1) live.number member live.order.cum terms)))

replace_stands : (tick n member : ℕ) (id orig : List ℕ) (terms : Terms) (live : Option Live) (used : Bool) (broken : Option Rule) (s : State) (entries : List (Option Row))
    → live_named member orig s.orders (resting s) ≡ live → verdict (Replace member id orig terms) (known_of tick used live) ≡ broken → RowsAgree n s → HasEntries entries s
    → HasEntries (option_map_or (λ rule. entries) broken (option_map_or (λ found. if_it_enters_anew tick n member terms found entries) live entries)) (on_replace tick (n + 1) member id orig terms live broken s).state
unfolding on_replace resize
replace_stands tick n member id orig terms live used (Some rule) s entries is v a h = h
replace_stands tick n member id orig terms None used None s entries is v a h = h
replace_stands tick n member id orig terms (Some live) used None s entries is v a h =
    let found = live_found member orig s.orders (resting s) live is in
    let m = among (n + 1) s live (later n s a) found in
    let within = slice_get_within s.orders live.number live.order found.order in
    let row : Row = row_of tick (n + 1) live.number member live.order.cum terms in
    let anew : List (Option Row) = slice_set entries live.number (if_it_rests (is_immediate terms) row) in
    elim (only_lowers tick terms live) as (λ b. HasEntries (cond b entries anew) (cond b (resize tick member id orig terms live s) (enter (arrival_of_replace tick (n + 1) member id orig terms live s))).state) [
      | true ↦ (let r = resize_stands (n + 1) s live entries (replaced_order tick id terms) (quantity_of terms - live.order.cum) m found.order h in record { count = r.count; buys = r.buys; sells = r.sells; rows = r.rows })
      | false ↦ anew_stands tick n member id orig terms live used s entries is v a m within h
    ]

cancel_all : (tick n member : ℕ) (id orig : List ℕ) (live : Option Live) (broken : Option Rule) (s : State) (entries : List (Option Row)) → live_named member orig s.orders (resting s) ≡ live → RowsAgree n s → HasEntries entries s
    → HasEntries (option_map_or (λ rule. entries) broken (option_map_or (λ found. slice_set entries found.number None) live entries)) (on_cancel member id orig live broken s).state
unfolding on_cancel cancel
cancel_all tick n member id orig live (Some rule) s entries is a h = h
cancel_all tick n member id orig None None s entries is a h = h
cancel_all tick n member id orig (Some live) None s entries is a h =
    let found = live_found member orig s.orders (resting s) live is in
    let c = cancel_stands n s live entries (among n s live a found) (slice_get_within s.orders live.number live.order found.order) h in
    record { count = c.count; buys = c.buys; sells = c.sells; rows = c.rows }

new_all : (tick n member : ℕ) (id : List ℕ) (terms : Terms) (broken : Option Rule) (s : State) (entries : List (Option Row)) → RowsAgree n s → HasEntries entries s
    → HasEntries (option_map_or (λ rule. entries) broken (entries ++ if_it_rests (is_immediate terms) (row_of tick (n + 1) (length s.orders) member 0 terms) ∷ [])) (on_new tick (n + 1) member id terms broken s).state
unfolding on_new
new_all tick n member id terms (Some rule) s entries a h = h
new_all tick n member id terms None s entries a h = new_stands tick n member id terms s entries a h

pub outcome_stands : (tick n : ℕ) (command : Command) (s : State) (entries : List (Option Row)) → RowsAgree n s → HasEntries entries s → HasEntries (entries_after tick s (n + 1) command entries) (outcome_of tick (n + 1) command s).state
unfolding outcome_of on_status
outcome_stands tick n (Quote market bid offer) s entries a h = quote_stands n (n + 1) market (record { bid = bid; offer = offer }) s entries a h
outcome_stands tick n (New member id terms) s entries a h = new_all tick n member id terms _ s entries a h
outcome_stands tick n (Cancel member id orig) s entries a h = cancel_all tick n member id orig _ _ s entries refl a h
outcome_stands tick n (Replace member id orig terms) s entries a h = replace_stands tick n member id orig terms _ (is_used member id s.used) _ s entries refl refl a h
outcome_stands tick n (Request member id side) s entries a h = h

-- ---- histories

-- a run after so many events, with its entries
record IsEntered (n : ℕ) (so_far : EntryRun) : Type 0 where
  sound : IsSound n so_far.run.state
  entries : HasEntries so_far.entries so_far.run.state

step_entered : (tick n : ℕ) (so_far : EntryRun) (event : Event) → event.number ≡ n + 1 → IsEntered n so_far → IsEntered (n + 1) (entry_step tick so_far event)
unfolding step
step_entered tick n so_far event number is =
    let s : State = so_far.run.state in
    record {
      sound = step_sound tick n so_far.run event number is.sound;
      entries = subst (λ (m : ℕ). HasEntries (entries_after tick s m event.command so_far.entries) (outcome_of tick m event.command s).state) (sym number) (outcome_stands tick n event.command s so_far.entries is.sound.rows is.entries);
    }

no_row : HaveRows (MayHaveRow []) [] [] []
no_row k order may at more = cc

pub rows_stand : RowsStand
unfolding runs
rows_stand markets tick history numbered =
    let start : Run = record { state = initial markets; reports = [] } in
    let first : EntryRun = record { run = start; entries = [] } in
    let all = kept_by_all (entry_step tick) IsEntered (step_entered tick) 0 first history (numbered_from_none history numbered)
    (record { sound = record { rows = record { own_live = tt; others_live = tt; own_differ = tt; others_differ = tt; differ = tt; sound = no_order }; few = omega arith; fewer = omega arith }; entries = record { count = refl; buys = tt; sells = tt; rows = no_row } }) in
    let after : EntryRun = fold (entry_step tick) first history in
    subst (λ (run : Run). AreStanding after.entries run.state) (same_run tick first history) (stands (0 + length history) after.entries after.run.state all.sound.rows all.entries)
