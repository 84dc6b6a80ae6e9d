-- The rule after a step of one seat.
use Rattle.std.proofs.Common.{◌≡◌, ℕ, ◌+◌, ◌^◌, ◌<◌, ◌≤◌, ◌≢◌, Bool, cond, ◌⊎◌, ⊎_elim, inl, inr, List, [], ◌∷◌, length, get_or, set, sym, refl, ap, ◌∙◌, arith, Option, None, Some}
use mathlib.Core.Option as maybe
use mathlib.Core.Logic.{dite}
use native.Mathlib.Decide.{ℕ_discrete}
use lib.ListN.{get_elem?}
use lib.Seq.{set-get_or}
use Rattle.atomic_table.specs.Table.{State, keeps, stepped}
use Rattle.atomic_table.proofs.Lists.{set_here, set_else}
use Rattle.venue_words.specs.declared.command.Event.{Event}
use Rattle.turn_gate.specs.declared.view.SeatView.{SeatView}
use Rattle.turn_gate.specs.Rule.{AgreesWith, HaveSeenInOrder, EachNumberOnce, IsHome, IsOut, KeepsOneHistory}
use Rattle.turn_gate.proofs.Sums.{sum_set, inside}
use Rattle.turn_gate.proofs.OneSeat.{each_set, HasOwnTicket, own_as_before, different_set, order_as_before, once_set}

module _ {V : Type 0} (journal : V → List Event) (limit setting : V → ℕ) (made : V) where
  abbrev pub Rule : State (Option V) SeatView → Type 0
  Rule = KeepsOneHistory journal limit setting made

  abbrev pub Agrees : ℕ → ℕ → List Event → SeatView → Type 0
  Agrees = AgreesWith (limit made) (setting made)

  abbrev pub Home : List (maybe.Option (Option V)) → List SeatView → List Event → Type 0
  Home = IsHome journal limit setting made

  -- a seat that has the turn has the ticket that is served, and the slot is out with it
  pub holder_is : (s : State (Option V) SeatView) (r : Rule s) (id : ℕ) (seat : SeatView) (known : List Event)
      → get_elem? s.views id ≡ maybe.some seat → seat.history ≡ Some known
      → (known ≡ r.history) × (seat.ticket ≡ Some r.serving) × (s.homes ≡ cond seat.opening (maybe.some None) maybe.none ∷ [])
  holder_is s r id seat known at is = let a = (r.seats id seat at).turn known is in
      ⊎_elim (λ (p : Home s.homes s.views r.history). let none = p.no_turn id seat at in absurd (cc))
      (λ (p : IsOut s.homes s.views).
      let b = (r.seats p.holder p.seat p.at).turn p.history p.has_turn in
      let same : id ≡ p.holder = r.tickets id p.holder r.serving seat p.seat at p.at a.1 b.1 in
      let seat_is : p.seat ≡ seat = maybe.some-injective p.seat seat (sym p.at ∙ (ap (get_elem? s.views) (sym same) ∙ at)) in
      (a.0, a.1, p.slot ∙ ap (λ (u : SeatView). cond u.opening (maybe.some None) maybe.none ∷ []) seat_is))
      r.value

  -- where the ticket of a seat that has no turn is served, the value is in its slot
  pub home_is : (s : State (Option V) SeatView) (r : Rule s) (id : ℕ) (seat : SeatView)
      → get_elem? s.views id ≡ maybe.some seat → seat.history ≡ None → seat.ticket ≡ Some r.serving → Home s.homes s.views r.history
  home_is s r id seat at none is =
      ⊎_elim (λ (p : Home s.homes s.views r.history). p)
      (λ (p : IsOut s.homes s.views).
      let b = (r.seats p.holder p.seat p.at).turn p.history p.has_turn in
      let same : id ≡ p.holder = r.tickets id p.holder r.serving seat p.seat at p.at is b.1 in
      let seat_is : p.seat ≡ seat = maybe.some-injective p.seat seat (sym p.at ∙ (ap (get_elem? s.views) (sym same) ∙ at)) in
      let e : seat.history ≡ Some p.history = ap (λ (u : SeatView). u.history) (sym seat_is) ∙ p.has_turn in absurd (cc))
      r.value

  -- while a seat has the ticket that is served, no other seat has it
  pub others_wait : (s : State (Option V) SeatView) (r : Rule s) (id : ℕ) (seat : SeatView)
      → get_elem? s.views id ≡ maybe.some seat → seat.ticket ≡ Some r.serving
      → (j : ℕ) (other : SeatView) → j ≢ id → get_elem? s.views j ≡ maybe.some other → other.ticket ≢ Some r.serving
  others_wait s r id seat at is j other apart at' is' = apart (r.tickets j id r.serving other seat at' at is' is)

  -- the rule after a step of the seat `id`, which then has the view `new`
  pub moved : (s : State (Option V) SeatView) (r : Rule s) (id : ℕ) (old new : SeatView) → get_elem? s.views id ≡ maybe.some old
      → (words : List ℕ) (homes : List (maybe.Option (Option V))) (next serving : ℕ) (history : List Event) (sleepers : ℕ)
      → words ≡ next ∷ serving ∷ length history ∷ sleepers ∷ [] → serving ≤ next → next < 2 ^ 64 → length history ≤ limit made
      → Agrees next serving history new → ((j : ℕ) (other : SeatView) → j ≢ id → get_elem? s.views j ≡ maybe.some other → Agrees next serving history other)
      → HasOwnTicket s.views id new → HaveSeenInOrder (set s.views id new) → Home homes (set s.views id new) history ⊎ IsOut homes (set s.views id new)
      → new.part ≡ old.part → r.serving + (new.turns + new.joined_turns) ≡ serving + (old.turns + old.joined_turns)
      → EachNumberOnce (set s.views id new) (length history)
      → Rule record { words = words; homes = homes; views = set s.views id new }
  moved s r id old new at words homes next serving history sleepers is order fits room own others ticket looks value part turns numbers = record {
    next = next;
    serving = serving;
    history = history;
    sleepers = sleepers;
    words = is;
    order = order;
    fits = fits;
    room = room;
    seats = each_set (Agrees next serving history) s.views id new own others;
    tickets = different_set s.views id new r.tickets ticket;
    looks = looks;
    value = value;
    parts = (let e = sum_set (λ u. u.part) s.views id old new at in let p = r.parts in omega arith);
    turns = (let e = sum_set (λ u. u.turns + u.joined_turns) s.views id old new at in let p = r.turns in omega arith);
    numbers = numbers;
  }

  -- the value is out with the seat `id`, whatever its view becomes
  pub out_with : (s : State (Option V) SeatView) (r : Rule s) (id : ℕ) (old new : SeatView) (known : List Event) (homes : List (maybe.Option (Option V)))
      → get_elem? s.views id ≡ maybe.some old → new.history ≡ Some known → homes ≡ cond new.opening (maybe.some None) maybe.none ∷ []
      → IsOut homes (set s.views id new)
  out_with s r id old new known homes at has is = record {
    holder = id;
    seat = new;
    history = known;
    at = set_here s.views id new (inside s.views id old at);
    has_turn = has;
    slot = is;
  }

  -- the value stays where it is
  pub value_stays : (s : State (Option V) SeatView) (r : Rule s) (id : ℕ) (old new : SeatView) → get_elem? s.views id ≡ maybe.some old
      → new.history ≡ old.history → new.opening ≡ old.opening → Home s.homes (set s.views id new) r.history ⊎ IsOut s.homes (set s.views id new)
  value_stays s r id old new at history opening =
      ⊎_elim (λ (p : Home s.homes s.views r.history).
      inl record {
        value = p.value;
        slot = p.slot;
        value_is = p.value_is;
        no_turn = each_set (λ u. u.history ≡ None) s.views id new (history ∙ p.no_turn id old at) (λ j other _. p.no_turn j other);
      })
      (λ (p : IsOut s.homes s.views).
      dite (ℕ_discrete p.holder id)
      (λ same. let seat_is : p.seat ≡ old = maybe.some-injective p.seat old (sym p.at ∙ (ap (get_elem? s.views) same ∙ at)) in
      inr (out_with s r id old new p.history s.homes at (history ∙ (ap (λ (u : SeatView). u.history) (sym seat_is) ∙ p.has_turn))
      (p.slot ∙ ap (λ (b : Bool). cond b (maybe.some None) maybe.none ∷ []) (ap (λ (u : SeatView). u.opening) seat_is ∙ sym opening))))
      (λ apart. inr record { holder = p.holder; seat = p.seat; history = p.history; at = set_else s.views id p.holder new apart ∙ p.at; has_turn = p.has_turn; slot = p.slot }))
      r.value

  -- the rule after a step that changes neither a word nor the seat's view
  pub unmoved : (s : State (Option V) SeatView) (r : Rule s) (id word : ℕ) (seat : SeatView) (taken : List (ℕ × Option V)) → get_elem? s.views id ≡ maybe.some seat → 0 < seat.part
      → Rule (stepped s word (get_or s.words word 0) id taken seat keeps)
  unmoved s r id word seat taken at part =
      moved s r id seat seat at (set s.words word (get_or s.words word 0)) s.homes r.next r.serving r.history r.sleepers (set-get_or s.words word 0 ∙ r.words) r.order r.fits r.room
      (r.seats id seat at) (λ j other _. r.seats j other) (own_as_before s.views id seat seat r.tickets at refl)
      (order_as_before s.views id seat seat r.looks at refl refl part (λ none. none)) (value_stays s r id seat seat at refl refl)
      refl refl (once_set s.views id (length r.history) seat seat at refl r.numbers)
