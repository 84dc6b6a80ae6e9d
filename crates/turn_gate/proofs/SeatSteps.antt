-- Splitting, joining and comparing seats keeps the rule.
use Rattle.std.proofs.Common.{◌≡◌, ℕ, ◌+◌, ◌<◌, ◌≤◌, ◌≢◌, false, cond, ⊎_elim, inl, inr, List, [], ◌∷◌, length, set, sym, refl, ap, ◌∙◌, subst, arith, None}
use Rattle.std.specs.List.{sum_by}
use Rattle.std.proofs.lemmas.List.Sums.{sum_by_push}
use mathlib.Core.Option as maybe
use mathlib.Core.Logic.{dite}
use native.Mathlib.Decide.{ℕ_discrete, dec_le}
use lib.ListN.{get_elem?}
use Rattle.atomic_table.specs.Table.{keeps, step, Allows, Splits, Joins}
use Rattle.atomic_table.proofs.Lists.{set_here, set_else, at_snoc, at_longer}
use Rattle.venue_words.specs.Journals.{StartsWith}
use Rattle.venue_words.specs.declared.command.Event.{Event}
use Rattle.turn_gate.specs.declared.view.SeatView.{SeatView}
use Rattle.turn_gate.specs.Numbers.{IncreasesWithin, times, merge_of}
use Rattle.turn_gate.specs.Rule.{IsOut, spent_seat}
use Rattle.turn_gate.specs.Steps.{SeatAndSlot, ComparesSeen, without_part, split_off, joined_seat}
use Rattle.turn_gate.proofs.Prefixes.{starts_length}
use Rattle.turn_gate.proofs.Sums.{sum_set, two_le_sum, inside}
use Rattle.turn_gate.proofs.Merges.{lt_cases, times_below, times_merge, increases_more, increases_merge}
use Rattle.turn_gate.proofs.OneSeat.{each_set, own_as_before, own_if_none, different_set, order_set, order_as_before, order_push}
use Rattle.turn_gate.proofs.Moves.{Rule, Agrees, Home, value_stays, unmoved}

module _ {V : Type 0} (journal : V → List Event) (limit setting : V → ℕ) (made : V) where
  -- what the seat was told is a beginning of what it has seen
  pub compares : (slots id : ℕ) (me : SeatAndSlot V) → 0 < me.0.part
      → Allows (Rule journal limit setting made) slots id me 0 (λ n. n) (ComparesSeen (step slots 0 0 0 maybe.none) me)
  compares slots id me part s r len at _ = let a = r.seats id me.0 at in
      (me.0, keeps, tt, unmoved journal limit setting made s r id 0 me.0 me.1 at part, (refl, a.told, a.mine))

  pub splits : (id : ℕ) (seat : SeatView) → 1 < seat.part → seat.opening ≡ false → seat.history ≡ None → Splits (Rule journal limit setting made) id seat (without_part seat) (split_off seat)
  splits id seat part closed idle s r at =
      let a = r.seats id seat at in
      let old : SeatView = without_part seat in
      let new : SeatView = split_off seat in
      let seats : List SeatView = set s.views id old in
      let own : Agrees journal limit setting made r.next r.serving r.history old = record {
        spent = λ gone. absurd (omega arith);
        knows_limit = λ _. a.knows_limit (omega arith);
        knows_setting = λ _. a.knows_setting (omega arith);
        seen = a.seen;
        told = a.told;
        mine = a.mine;
        last = a.last;
        ticket = a.ticket;
        turn = a.turn;
      } in
      let its : Agrees journal limit setting made r.next r.serving r.history new = record {
        spent = λ gone. absurd (omega arith);
        knows_limit = λ _. a.knows_limit (omega arith);
        knows_setting = λ _. a.knows_setting (omega arith);
        seen = a.seen;
        told = (seat.seen, refl);
        mine = (omega arith);
        last = a.last;
        ticket = λ t is. absurd (cc);
        turn = λ known is. absurd (cc);
      } in record {
        next = r.next;
        serving = r.serving;
        history = r.history;
        sleepers = r.sleepers;
        words = r.words;
        order = r.order;
        fits = r.fits;
        room = r.room;
        seats = λ j x at'. ⊎_elim (each_set (Agrees journal limit setting made r.next r.serving r.history) s.views id old own (λ j u _. r.seats j u) j x)
            (λ (e : new ≡ x). subst (Agrees journal limit setting made r.next r.serving r.history) e its) (at_snoc seats new x j at');
        tickets = λ i j t x y at1 at2 is1 is2.
            ⊎_elim (λ (a : get_elem? seats i ≡ maybe.some x).
            ⊎_elim (λ (b : get_elem? seats j ≡ maybe.some y). different_set s.views id old r.tickets (own_as_before s.views id seat old r.tickets at refl) i j t x y a b is1 is2)
            (λ (b : new ≡ y). let e : y.ticket ≡ None = ap (λ (z : SeatView). z.ticket) (sym b) in absurd (cc)) (at_snoc seats new y j at2))
            (λ (a : new ≡ x). let e : x.ticket ≡ None = ap (λ (z : SeatView). z.ticket) (sym a) in absurd (cc)) (at_snoc seats new x i at1);
        looks = order_push seats id old new (order_as_before s.views id seat old r.looks at refl refl (omega arith) (λ none. none))
            (set_here s.views id old (inside s.views id seat at)) refl refl (omega arith) idle;
        value = ⊎_elim
            (λ (p : Home journal limit setting made s.homes seats r.history). inl record {
              value = p.value;
              slot = p.slot;
              value_is = p.value_is;
              no_turn = λ j x at'. ⊎_elim (p.no_turn j x) (λ (e : new ≡ x). ap (λ (z : SeatView). z.history) (sym e)) (at_snoc seats new x j at');
            })
            (λ (p : IsOut s.homes seats). inr record {
              holder = p.holder;
              seat = p.seat;
              history = p.history;
              at = at_longer seats (new ∷ []) p.holder p.seat p.at;
              has_turn = p.has_turn;
              slot = p.slot;
            })
            (value_stays journal limit setting made s r id seat old at refl refl);
        parts = (let e = sum_set (λ z. z.part) s.views id seat old at in let g = sum_by_push (λ (z : SeatView). z.part) seats new in let p = r.parts in omega arith);
        turns =
            (let e = sum_set (λ z. z.turns + z.joined_turns) s.views id seat old at in
            let g = sum_by_push (λ (z : SeatView). z.turns + z.joined_turns) seats new in let p = r.turns in omega arith);
        numbers = record {
          within = λ n lo hi. let e = sum_set (λ z. times n z.mine) s.views id seat old at in
              let g = sum_by_push (λ (z : SeatView). times n z.mine) seats new in let h = r.numbers.within n lo hi in omega arith;
          beyond = λ n hi. let e = sum_set (λ z. times n z.mine) s.views id seat old at in
              let g = sum_by_push (λ (z : SeatView). times n z.mine) seats new in let h = r.numbers.beyond n hi in omega arith;
        };
      }

  pub joins : (id : ℕ) (seat : SeatView) (other : ℕ) (gone : SeatView) → 0 < seat.part → 0 < gone.part → seat.ticket ≡ None → seat.history ≡ None → gone.history ≡ None
      → Joins (Rule journal limit setting made) id seat other gone (joined_seat seat gone) spent_seat
  joins id seat other gone part part' none idle idle' s r at apart at' =
      let a = r.seats id seat at in
      let at2 : get_elem? s.views other ≡ maybe.some gone = sym (set_else s.views id other (joined_seat seat gone) apart) ∙ at' in
      let b = r.seats other gone at2 in
      let new : SeatView = joined_seat seat gone in
      let seats : List SeatView = set s.views id new in
      let ahead : seat.last_turn < gone.last_turn → StartsWith gone.seen seat.seen =
      λ lt. r.looks id other seat gone at at2 idle part' (omega arith) in
      let behind : gone.last_turn ≤ seat.last_turn → StartsWith seat.seen gone.seen =
      λ le. r.looks other id gone seat at2 at idle' part le in
      let twice : (k : ℕ) → times k seat.mine + times k gone.mine ≤ sum_by (λ z. times k z.mine) s.views =
      λ k. two_le_sum (λ z. times k z.mine) s.views id other seat gone at at2 apart in
      let once : (k : ℕ) → times k seat.mine + times k gone.mine ≤ 1 = λ k. let t = twice k in
      dite (ℕ_discrete k 0)
      (λ z. let c = times_below 0 (length seat.seen) k seat.mine a.mine (omega arith) in let d = times_below 0 (length gone.seen) k gone.mine b.mine (omega arith) in omega arith)
      (λ not. dite (dec_le k (length r.history)) (λ le. let h = r.numbers.within k (omega arith) le in omega arith) (λ gt. let h = r.numbers.beyond k (omega arith) in omega arith)) in
      let own : Agrees journal limit setting made r.next r.serving r.history new = record {
        spent = λ gone. absurd (omega arith);
        knows_limit = λ _. a.knows_limit part;
        knows_setting = λ _. a.knows_setting part;
        seen = lt_cases seat.last_turn gone.last_turn (λ c. StartsWith r.history (cond c gone.seen seat.seen)) (λ _. b.seen) (λ _. a.seen);
        told = lt_cases seat.last_turn gone.last_turn (λ c. StartsWith (cond c gone.seen seat.seen) (cond c seat.seen gone.seen)) ahead behind;
        mine = lt_cases seat.last_turn gone.last_turn (λ c. IncreasesWithin 0 (length (cond c gone.seen seat.seen)) (merge_of seat.mine gone.mine))
            (λ lt. let le = starts_length gone.seen seat.seen (ahead lt) in
            increases_merge 0 (length gone.seen) seat.mine gone.mine (increases_more 0 (length seat.seen) (length gone.seen) seat.mine a.mine le) b.mine once)
            (λ lt. let le = starts_length seat.seen gone.seen (behind lt) in
            increases_merge 0 (length seat.seen) seat.mine gone.mine a.mine (increases_more 0 (length gone.seen) (length seat.seen) gone.mine b.mine le) once);
        last = (let l = a.last in let m = b.last in omega arith);
        ticket = λ t is. absurd (cc);
        turn = λ known is. absurd (cc);
      } in
      let its : Agrees journal limit setting made r.next r.serving r.history spent_seat = record {
        spent = λ _. refl;
        knows_limit = λ h. absurd (omega arith);
        knows_setting = λ h. absurd (omega arith);
        seen = (r.history, refl);
        told = ([], refl);
        mine = (omega arith);
        last = omega arith;
        ticket = λ t is. absurd (cc);
        turn = λ known is. absurd (cc);
      } in
      let count : (n : ℕ) → sum_by (λ z. times n z.mine) (set seats other spent_seat) ≡ sum_by (λ z. times n z.mine) s.views =
      λ n. let e = sum_set (λ z. times n z.mine) s.views id seat new at in let d = sum_set (λ z. times n z.mine) seats other gone spent_seat at' in
      let m = times_merge n seat.mine gone.mine in omega arith in record {
        next = r.next;
        serving = r.serving;
        history = r.history;
        sleepers = r.sleepers;
        words = r.words;
        order = r.order;
        fits = r.fits;
        room = r.room;
        seats = each_set (Agrees journal limit setting made r.next r.serving r.history) seats other spent_seat its
            (λ j u _. each_set (Agrees journal limit setting made r.next r.serving r.history) s.views id new own (λ j u _. r.seats j u) j u);
        tickets = different_set seats other spent_seat (different_set s.views id new r.tickets (own_if_none s.views id new none)) (own_if_none seats other spent_seat refl);
        looks = order_set seats other spent_seat
            (order_set s.views id new r.looks
            (λ j u _ at3 none some le. lt_cases seat.last_turn gone.last_turn (λ c. StartsWith (cond c gone.seen seat.seen) u.seen)
            (λ lt. r.looks j other u gone at3 at2 none part' (omega arith)) (λ lt. r.looks j id u seat at3 at none part (omega arith)))
            (λ j u _ at3 none some le. lt_cases seat.last_turn gone.last_turn (λ c. StartsWith u.seen (cond c gone.seen seat.seen))
            (λ lt. r.looks other j gone u at2 at3 idle' some (omega arith)) (λ lt. r.looks id j seat u at at3 idle some (omega arith))))
            (λ j u _ _ none some le. absurd (omega arith)) (λ j u _ _ none some le. (u.seen, refl));
        value = ⊎_elim
            (λ (p : Home journal limit setting made s.homes s.views r.history). inl record {
              value = p.value;
              slot = p.slot;
              value_is = p.value_is;
              no_turn = each_set (λ u. u.history ≡ None) seats other spent_seat refl (λ j u _. each_set (λ u. u.history ≡ None) s.views id new idle (λ j u _. p.no_turn j u) j u);
            })
            (λ (p : IsOut s.homes s.views).
            let h = p.has_turn in
            let not : p.holder ≢ id = λ e.
            let seat_is : p.seat ≡ seat = maybe.some-injective p.seat seat (sym p.at ∙ (ap (get_elem? s.views) e ∙ at)) in let k = ap (λ (z : SeatView). z.history) seat_is in (cc) in
            let nor : p.holder ≢ other = λ e.
            let seat_is : p.seat ≡ gone = maybe.some-injective p.seat gone (sym p.at ∙ (ap (get_elem? s.views) e ∙ at2)) in let k = ap (λ (z : SeatView). z.history) seat_is in (cc) in
            inr record {
              holder = p.holder;
              seat = p.seat;
              history = p.history;
              at = set_else seats other p.holder spent_seat nor ∙ (set_else s.views id p.holder new not ∙ p.at);
              has_turn = h;
              slot = p.slot;
            })
            r.value;
        parts =
            (let e = sum_set (λ z. z.part) s.views id seat new at in let d = sum_set (λ z. z.part) seats other gone spent_seat at' in let p = r.parts in omega arith);
        turns =
            (let e = sum_set (λ z. z.turns + z.joined_turns) s.views id seat new at in
            let d = sum_set (λ z. z.turns + z.joined_turns) seats other gone spent_seat at' in let p = r.turns in omega arith);
        numbers = record { within = λ n lo hi. count n ∙ r.numbers.within n lo hi; beyond = λ n hi. count n ∙ r.numbers.beyond n hi };
      }
