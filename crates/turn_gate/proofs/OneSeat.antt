-- What stays said of a seat while another one takes a step, and what one seat's step does to tickets and numbers.
use Rattle.std.proofs.Common.{◌≡◌, ℕ, zero, suc, ◌+◌, ◌<◌, ◌≤◌, ◌≢◌, ⊎_elim, List, [], ◌∷◌, ◌++◌, set, sym, refl, ap, ◌∙◌, subst, arith, Option, None, Some}
use mathlib.Core.Option as maybe
use mathlib.Core.Logic.{dite}
use native.Mathlib.Decide.{ℕ_discrete}
use lib.ListN.{get_elem?}
use Rattle.atomic_table.proofs.Lists.{at_set, at_snoc}
use Rattle.venue_words.specs.declared.command.Event.{Event}
use Rattle.turn_gate.specs.declared.view.SeatView.{SeatView}
use Rattle.turn_gate.specs.Numbers.{times}
use Rattle.venue_words.specs.Journals.{StartsWith}
use Rattle.turn_gate.specs.Rule.{AgreesWith, HaveDifferentTickets, HaveSeenInOrder, EachNumberOnce}
use Rattle.turn_gate.proofs.Prefixes.{starts_more, starts_whole}
use Rattle.turn_gate.proofs.Sums.{sum_set}
use Rattle.turn_gate.proofs.Merges.{times_same, times_other, times_append}

-- ---- lists of seats

-- what holds of each seat after one of them was changed
pub each_set : (P : SeatView → Type 0) (seats : List SeatView) (id : ℕ) (new : SeatView) → P new
    → ((j : ℕ) (other : SeatView) → j ≢ id → get_elem? seats j ≡ maybe.some other → P other)
    → (j : ℕ) (other : SeatView) → get_elem? (set seats id new) j ≡ maybe.some other → P other
each_set P seats id new own others j other at =
    ⊎_elim (λ (t : (j ≡ id) × (new ≡ other)). subst P t.1 own)
    (λ (t : (j ≢ id) × (get_elem? seats j ≡ maybe.some other)). others j other t.0 t.1) (at_set seats id j new other at)

-- of a list of one seat
pub only_at : (seat : SeatView) (j : ℕ) (other : SeatView) → get_elem? (seat ∷ []) j ≡ maybe.some other → j ≡ 0
only_at seat zero other at = refl
only_at seat (suc j) other at = absurd (maybe.some-ne-none other (sym at))

pub only : (P : SeatView → Type 0) (seat : SeatView) → P seat → (j : ℕ) (other : SeatView) → get_elem? (seat ∷ []) j ≡ maybe.some other → P other
only P seat own zero other at = subst P (maybe.some-injective seat other at) own
only P seat own (suc j) other at = absurd (maybe.some-ne-none other (sym at))

pub is_none : (known : Option (List Event)) → ((history : List Event) → known ≢ Some history) → known ≡ None
is_none (Some history) not = absurd (not history refl)
is_none None not = refl

-- ---- tickets

-- no other seat has the ticket of this view
abbrev pub HasOwnTicket : List SeatView → ℕ → SeatView → Type 0
HasOwnTicket seats id new =
    (ticket : ℕ) → new.ticket ≡ Some ticket → (j : ℕ) (other : SeatView) → j ≢ id → get_elem? seats j ≡ maybe.some other → other.ticket ≢ Some ticket

pub own_as_before : (seats : List SeatView) (id : ℕ) (old new : SeatView) → HaveDifferentTickets seats → get_elem? seats id ≡ maybe.some old
    → new.ticket ≡ old.ticket → HasOwnTicket seats id new
own_as_before seats id old new different at same ticket is j other apart at' is' = apart (different j id ticket other old at' at is' (sym same ∙ is))

pub own_if_none : (seats : List SeatView) (id : ℕ) (new : SeatView) → new.ticket ≡ None → HasOwnTicket seats id new
own_if_none seats id new none ticket is j other apart at is' = (let e = none in let f = is in cc)

pub different_set : (seats : List SeatView) (id : ℕ) (new : SeatView) → HaveDifferentTickets seats → HasOwnTicket seats id new → HaveDifferentTickets (set seats id new)
different_set seats id new different own i j ticket seat other at at' is is' =
    ⊎_elim (λ (a : (i ≡ id) × (new ≡ seat)).
    ⊎_elim (λ (b : (j ≡ id) × (new ≡ other)). a.0 ∙ sym b.0)
    (λ (b : (j ≢ id) × (get_elem? seats j ≡ maybe.some other)). absurd (own ticket (ap (λ (z : SeatView). z.ticket) a.1 ∙ is) j other b.0 b.1 is'))
    (at_set seats id j new other at'))
    (λ (a : (i ≢ id) × (get_elem? seats i ≡ maybe.some seat)).
    ⊎_elim (λ (b : (j ≡ id) × (new ≡ other)). absurd (own ticket (ap (λ (z : SeatView). z.ticket) b.1 ∙ is') i seat a.0 a.1 is))
    (λ (b : (j ≢ id) × (get_elem? seats j ≡ maybe.some other)). different i j ticket seat other a.1 b.1 is is')
    (at_set seats id j new other at'))
    (at_set seats id i new seat at)

-- ---- what was seen in which order

pub order_set : (seats : List SeatView) (id : ℕ) (new : SeatView) → HaveSeenInOrder seats
    → ((j : ℕ) (other : SeatView) → j ≢ id → get_elem? seats j ≡ maybe.some other → other.history ≡ None → 0 < new.part
    → other.last_turn ≤ new.last_turn → StartsWith new.seen other.seen)
    → ((j : ℕ) (other : SeatView) → j ≢ id → get_elem? seats j ≡ maybe.some other → new.history ≡ None → 0 < other.part
    → new.last_turn ≤ other.last_turn → StartsWith other.seen new.seen)
    → HaveSeenInOrder (set seats id new)
order_set seats id new order before behind i j seat other at at' idle some le =
    ⊎_elim (λ (a : (i ≡ id) × (new ≡ seat)).
    let first : new.last_turn ≡ seat.last_turn = ap (λ (z : SeatView). z.last_turn) a.1 in
    ⊎_elim (λ (b : (j ≡ id) × (new ≡ other)). subst (λ (z : SeatView). StartsWith z.seen seat.seen) (sym a.1 ∙ b.1) (starts_whole seat.seen))
    (λ (b : (j ≢ id) × (get_elem? seats j ≡ maybe.some other)). subst (λ (z : SeatView). StartsWith other.seen z.seen) a.1
    (behind j other b.0 b.1 (ap (λ (z : SeatView). z.history) a.1 ∙ idle) some (omega arith)))
    (at_set seats id j new other at'))
    (λ (a : (i ≢ id) × (get_elem? seats i ≡ maybe.some seat)).
    ⊎_elim (λ (b : (j ≡ id) × (new ≡ other)).
    let last : new.last_turn ≡ other.last_turn = ap (λ (z : SeatView). z.last_turn) b.1 in
    let part : new.part ≡ other.part = ap (λ (z : SeatView). z.part) b.1 in
    subst (λ (z : SeatView). StartsWith z.seen seat.seen) b.1 (before i seat a.0 a.1 idle (omega arith) (omega arith)))
    (λ (b : (j ≢ id) × (get_elem? seats j ≡ maybe.some other)). order i j seat other a.1 b.1 idle some le)
    (at_set seats id j new other at'))
    (at_set seats id i new seat at)

pub order_as_before : (seats : List SeatView) (id : ℕ) (old new : SeatView) → HaveSeenInOrder seats → get_elem? seats id ≡ maybe.some old
    → new.seen ≡ old.seen → new.last_turn ≡ old.last_turn → 0 < old.part → (new.history ≡ None → old.history ≡ None) → HaveSeenInOrder (set seats id new)
order_as_before seats id old new order at seen last part idle =
    order_set seats id new order
    (λ j other apart at' none some le. subst (λ (l : List Event). StartsWith l other.seen) (sym seen) (order j id other old at' at none part (omega arith)))
    (λ j other apart at' none some le. subst (λ (l : List Event). StartsWith other.seen l) (sym seen) (order id j old other at at' (idle none) some (omega arith)))

-- a seat that saw more than all others
pub order_ahead : (seats : List SeatView) (id : ℕ) (new : SeatView) → HaveSeenInOrder seats
    → ((j : ℕ) (other : SeatView) → j ≢ id → get_elem? seats j ≡ maybe.some other → StartsWith new.seen other.seen)
    → ((j : ℕ) (other : SeatView) → j ≢ id → get_elem? seats j ≡ maybe.some other → new.history ≡ None → other.last_turn < new.last_turn)
    → HaveSeenInOrder (set seats id new)
order_ahead seats id new order ahead last =
    order_set seats id new order (λ j other apart at none some le. ahead j other apart at)
    (λ j other apart at none some le. let h = last j other apart at none in absurd (omega arith))

-- a further seat that saw the same as one of them
pub order_push : (seats : List SeatView) (id : ℕ) (old new : SeatView) → HaveSeenInOrder seats → get_elem? seats id ≡ maybe.some old
    → new.seen ≡ old.seen → new.last_turn ≡ old.last_turn → 0 < old.part → old.history ≡ None → HaveSeenInOrder (seats ++ new ∷ [])
order_push seats id old new order at seen last part idle i j seat other at1 at2 none some le =
    ⊎_elim (λ (a : get_elem? seats i ≡ maybe.some seat).
    ⊎_elim (λ (b : get_elem? seats j ≡ maybe.some other). order i j seat other a b none some le)
    (λ (b : new ≡ other).
    let same : new.last_turn ≡ other.last_turn = ap (λ (z : SeatView). z.last_turn) b in
    subst (λ (l : List Event). StartsWith l seat.seen) (sym seen ∙ ap (λ (z : SeatView). z.seen) b) (order i id seat old a at none part (omega arith)))
    (at_snoc seats new other j at2))
    (λ (a : new ≡ seat).
    let first : new.last_turn ≡ seat.last_turn = ap (λ (z : SeatView). z.last_turn) a in
    ⊎_elim (λ (b : get_elem? seats j ≡ maybe.some other).
    subst (λ (l : List Event). StartsWith other.seen l) (sym seen ∙ ap (λ (z : SeatView). z.seen) a) (order id j old other at b idle some (omega arith)))
    (λ (b : new ≡ other). subst (λ (z : SeatView). StartsWith z.seen seat.seen) (sym a ∙ b) (starts_whole seat.seen))
    (at_snoc seats new other j at2))
    (at_snoc seats new seat i at1)

-- ---- a seat that takes no step

pub agrees_next : (limit setting next serving next' : ℕ) (history : List Event) (seat : SeatView) → next ≤ next'
    → AgreesWith limit setting next serving history seat → AgreesWith limit setting next' serving history seat
agrees_next limit setting next serving next' history seat le a = record {
  spent = a.spent;
  knows_limit = a.knows_limit;
  knows_setting = a.knows_setting;
  seen = a.seen;
  told = a.told;
  mine = a.mine;
  last = a.last;
  ticket = λ ticket is. let h = a.ticket ticket is in (h.0, omega arith);
  turn = a.turn;
}

pub agrees_serving : (limit setting next serving : ℕ) (history : List Event) (seat : SeatView) → seat.ticket ≢ Some serving
    → AgreesWith limit setting next serving history seat → AgreesWith limit setting next (serving + 1) history seat
agrees_serving limit setting next serving history seat waits a = record {
  spent = a.spent;
  knows_limit = a.knows_limit;
  knows_setting = a.knows_setting;
  seen = a.seen;
  told = a.told;
  mine = a.mine;
  last = let l = a.last in omega arith;
  ticket = λ ticket is.
      let h = a.ticket ticket is in let ne : ticket ≢ serving = λ e. waits (is ∙ ap (λ (z : ℕ). Some z) e) in (omega arith, h.1);
  turn = λ known is. absurd (waits (a.turn known is).1);
}

pub agrees_history : (limit setting next serving : ℕ) (history more : List Event) (seat : SeatView) → seat.ticket ≢ Some serving
    → AgreesWith limit setting next serving history seat → AgreesWith limit setting next serving (history ++ more) seat
agrees_history limit setting next serving history more seat waits a = record {
  spent = a.spent;
  knows_limit = a.knows_limit;
  knows_setting = a.knows_setting;
  seen = starts_more history seat.seen more a.seen;
  told = a.told;
  mine = a.mine;
  last = a.last;
  ticket = a.ticket;
  turn = λ known is. absurd (waits (a.turn known is).1);
}

-- ---- numbers

pub once_set : (seats : List SeatView) (id count : ℕ) (old new : SeatView) → get_elem? seats id ≡ maybe.some old → new.mine ≡ old.mine
    → EachNumberOnce seats count → EachNumberOnce (set seats id new) count
once_set seats id count old new at same once = record {
  within = λ n lo hi. let e = sum_set (λ seat. times n seat.mine) seats id old new at in let s = ap (times n) same in let h = once.within n lo hi in omega arith;
  beyond = λ n hi. let e = sum_set (λ seat. times n seat.mine) seats id old new at in let s = ap (times n) same in let h = once.beyond n hi in omega arith;
}

pub once_more : (seats : List SeatView) (id count : ℕ) (old new : SeatView) → get_elem? seats id ≡ maybe.some old → new.mine ≡ old.mine ++ (count + 1) ∷ []
    → EachNumberOnce seats count → EachNumberOnce (set seats id new) (count + 1)
once_more seats id count old new at same once =
    let all : (n : ℕ) → times n new.mine ≡ times n old.mine + times n ((count + 1) ∷ []) = λ n. ap (times n) same ∙ times_append n old.mine ((count + 1) ∷ []) in record {
      within = λ n lo hi. let e = sum_set (λ seat. times n seat.mine) seats id old new at in let s = all n in
          dite (ℕ_discrete n (count + 1))
          (λ is. let h = once.beyond n (omega arith) in let t : times n ((count + 1) ∷ []) ≡ 1 + 0 = times_same n (count + 1) [] is in omega arith)
          (λ not. let h = once.within n lo (omega arith) in let t : times n ((count + 1) ∷ []) ≡ 0 + 0 = times_other n (count + 1) [] not in omega arith);
      beyond = λ n hi. let e = sum_set (λ seat. times n seat.mine) seats id old new at in let s = all n in let h = once.beyond n (omega arith) in
          let t : times n ((count + 1) ∷ []) ≡ 0 + 0 = times_other n (count + 1) [] (λ is. omega arith) in omega arith;
    }
