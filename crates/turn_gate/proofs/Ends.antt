-- The rule when a gate is made, and what it says when the gate is closed.
use Rattle.std.proofs.Common.{◌≡◌, ℕ, ◌≢◌, ⊎_elim, inr, List, [], ◌∷◌, length, sym, refl, ap, ◌∙◌, subst, arith, Option, None, Some}
use Rattle.std.specs.List.{sum_by, range_with_len}
use mathlib.Core.Option as maybe
use mathlib.Core.Logic.{dite}
use native.Mathlib.Decide.{ℕ_discrete}
use lib.ListN.{get_elem?}
use Rattle.atomic_table.specs.Table.{opening, Final, Seen}
use Rattle.venue_words.specs.Journals.{StartsWith}
use Rattle.venue_words.specs.declared.command.Event.{Event}
use Rattle.turn_gate.specs.declared.view.SeatView.{SeatView}
use Rattle.turn_gate.specs.Numbers.{times}
use Rattle.turn_gate.specs.Rule.{whole, IsOut, spent_seat, opening_seat}
use Rattle.turn_gate.specs.Turns.{IsGathered}
use Rattle.turn_gate.proofs.Prefixes.{starts_length}
use Rattle.turn_gate.proofs.Sums.{two_le_sum, sum_alone}
use Rattle.turn_gate.proofs.Merges.{is_range}
use Rattle.turn_gate.proofs.OneSeat.{only, only_at}
use Rattle.turn_gate.proofs.Moves.{Rule, Agrees, Home}

module _ {V : Type 0} (journal : V → List Event) (limit setting : V → ℕ) (made : V) where
  pub begins : Rule journal limit setting made (opening (1 ∷ 0 ∷ 0 ∷ 0 ∷ []) (None ∷ []) (opening_seat (limit made) (setting made)))
  begins =
      let first : SeatView = opening_seat (limit made) (setting made) in
      let own : Agrees journal limit setting made 1 0 [] first = record {
        spent = λ none. absurd (omega arith);
        knows_limit = λ _. refl;
        knows_setting = λ _. refl;
        seen = ([], refl);
        told = ([], refl);
        mine = (omega arith);
        last = omega arith;
        ticket = λ t is. let e : 0 ≡ t = (cc) in (omega arith, omega arith);
        turn = λ known is. ((cc), refl);
      } in record {
        next = 1;
        serving = 0;
        history = [];
        sleepers = 0;
        words = refl;
        order = omega arith;
        fits = omega arith;
        room = omega arith;
        seats = only (Agrees journal limit setting made 1 0 []) first own;
        tickets = λ i j t seat other at at' is is'. only_at first i seat at ∙ sym (only_at first j other at');
        looks = λ i j seat other at at' none some le. only (λ u. StartsWith other.seen u.seen) first (other.seen, refl) i seat at;
        value = inr record { holder = 0; seat = first; history = []; at = refl; has_turn = refl; slot = refl };
        parts = omega arith;
        turns = omega arith;
        numbers = record { within = λ n lo hi. absurd (omega arith); beyond = λ n hi. refl };
      }

  -- a seat with all parts is the only one: the value is in its slot, and all numbers are the seat's own
  pub closes : (id : ℕ) (seat : SeatView) (words : List ℕ) (slots : List (Option V)) → seat.part ≡ whole → seat.history ≡ None
      → Final (Seen (Rule journal limit setting made) id seat) words slots
      → (value : V) × (get_elem? slots 0 ≡ maybe.some (Some value)) × IsGathered journal limit setting made seat value
  closes id seat words slots part idle (s, kept, _, _, values) =
      let r = kept.0 in
      let at = kept.1 in
      let a = r.seats id seat at in
      let spent : (j : ℕ) (other : SeatView) → j ≢ id → get_elem? s.views j ≡ maybe.some other → other ≡ spent_seat = λ j other apart at'.
      let e = two_le_sum (λ z. z.part) s.views id j seat other at at' apart in let p = r.parts in (r.seats j other at').spent (omega arith) in
      let home : Home journal limit setting made s.homes s.views r.history =
      ⊎_elim (λ (p : Home journal limit setting made s.homes s.views r.history). p)
      (λ (p : IsOut s.homes s.views).
      let h = p.has_turn in
      dite (ℕ_discrete p.holder id)
      (λ same. let seat_is : p.seat ≡ seat = maybe.some-injective p.seat seat (sym p.at ∙ (ap (get_elem? s.views) same ∙ at)) in
      let k = ap (λ (z : SeatView). z.history) seat_is in absurd (cc))
      (λ apart. let k = ap (λ (z : SeatView). z.history) (spent p.holder p.seat apart p.at) in absurd (cc)))
      r.value in
      let value_is = home.value_is in
      let all : (n : ℕ) → sum_by (λ z. times n z.mine) s.views ≡ times n seat.mine =
      λ n. sum_alone (λ z. times n z.mine) s.views id seat at (λ j other apart at'. ap (λ (z : SeatView). times n z.mine) (spent j other apart at')) in
      let seen = starts_length r.history seat.seen a.seen in (
        home.value,
        values 0 (Some home.value) (ap (λ (hs : List (maybe.Option (Option V))). get_elem? hs 0) home.slot),
        record {
          limit = value_is.limit;
          setting = value_is.setting;
          seen = subst (λ (l : List Event). StartsWith l seat.seen) (sym value_is.journal) a.seen;
          mine = is_range 0 (length seat.seen) (length r.history) seat.mine a.mine (omega arith) (λ n lo hi. sym (all n) ∙ r.numbers.within n (omega arith) (omega arith))
              ∙ ap (λ (l : List Event). range_with_len 1 (length l)) (sym value_is.journal);
        },
      )

  -- the slot's value is the one that comes back
  pub closed_is : (seat : SeatView) (slots : List (Option V)) (x : V)
      → (value : V) × (get_elem? slots 0 ≡ maybe.some (Some value)) × IsGathered journal limit setting made seat value
      → get_elem? slots 0 ≡ maybe.some (Some x) → IsGathered journal limit setting made seat x
  closed_is seat slots x w at = let e : w.0 ≡ x = (let a = w.1 in (cc)) in subst (IsGathered journal limit setting made seat) e w.2

  pub closed_not : (seat : SeatView) (slots : List (Option V))
      → (value : V) × (get_elem? slots 0 ≡ maybe.some (Some value)) × IsGathered journal limit setting made seat value
      → get_elem? slots 0 ≡ maybe.some None → ⊥
  closed_not seat slots w at = let a = w.1 in (cc)
