-- The seats of feeds are joined one after the other.
use Rattle.std.proofs.Common.{◌≡◌, ℕ, zero, suc, ◌+◌, List, [], ◌∷◌, ◌++◌, length, slice_get, Option, Some, None, refl, sym, ap, ◌∙◌, subst, arith}
use Rattle.std.specs.Option.{option_or}
use Rattle.std.specs.List.{All}
use Rattle.std.proofs.lemmas.List.{length-map}
use Rattle.std.proofs.lemmas.List.Elements.{All-nil, All-cons, All-head, All-tail}
use Rattle.venue_words.specs.Floors.{Setup}
use Rattle.venue_words.specs.declared.refusal.FloorRefusal.{FloorRefusal}
use Rattle.turn_gate.specs.Numbers.{times}
use Rattle.turn_gate.specs.Seats.{SeatState}
use Rattle.venue_core.specs.Joining.{HaveParts}
use Rattle.venue_core.specs.Venues.{VenueId, AreSeatsOf}
use Rattle.feed_work.specs.Feeds.{Asked}
use Rattle.feeds_core.specs.Joined.{IsIdle, AreIdleSeats, HaveWorked, Outcome, AllWorked, Gathers, Collects}
use Rattle.feeds_core.proofs.Collecting.{Step, collect}

idle_at : (parts : ℕ) (seats : List SeatState) (symbol : ℕ) (seat : SeatState) → All (IsIdle parts) seats
    → slice_get seats symbol ≡ Some seat → seat.mine ≡ []
idle_at parts [] symbol seat all at = absurd (cc)
idle_at parts (s ∷ seats) zero seat all at =
    let is : s ≡ seat = (cc) in sym (ap (λ (x : SeatState). x.mine) is) ∙ (All-head (IsIdle parts) s seats all).mine
idle_at parts (s ∷ seats) (suc symbol) seat all at = idle_at parts seats symbol seat (All-tail (IsIdle parts) s seats all) at

-- idle seats have so many parts
pub idle_parts : (parts : ℕ) (seats : List SeatState) → All (IsIdle parts) seats → HaveParts parts seats
idle_parts parts [] all = All-nil (λ (seat : SeatState). seat.part ≡ parts)
idle_parts parts (seat ∷ seats) all =
    All-cons (λ (s : SeatState). s.part ≡ parts) seat seats (All-head (IsIdle parts) seat seats all).part
    (idle_parts parts seats (All-tail (IsIdle parts) seat seats all))

-- seats of one venue are as many
pub as_many : (venue : VenueId) (seats others : List SeatState) → AreSeatsOf venue seats → AreSeatsOf venue others
    → length seats ≡ length others
as_many venue seats others are others_are =
    omega (
      arith,
      length-map seats (λ (s : SeatState). s.gate),
      length-map others (λ (s : SeatState). s.gate),
      ap length are,
      ap length others_are,
    )

gathers_none : (seat : SeatState) → seat.mine ≡ [] → Gathers seat []
gathers_none seat none = record {
  numbers = [];
  are_in = tt;
  once = λ n. ap (λ (ns : List ℕ). times n ns) none;
  count = ap length none;
}

collects_nothing : (setup : Setup) (venue : VenueId) (parts : ℕ) (seats : List SeatState) → AreIdleSeats venue parts seats
    → Collects setup [] seats None
collects_nothing setup venue parts seats is = record {
  taken = [];
  size = refl;
  gathers = λ symbol seat at. gathers_none seat (idle_at parts seats symbol seat is.idle at);
  whole = λ none. refl;
  within = λ symbol. omega arith;
  full = λ found full. absurd (cc);
}

-- no feed was joined yet
pub collects_none : (setup : Setup) (venue : VenueId) (parts : ℕ) (seats : List SeatState) (feeds : List (List Asked))
    → AreIdleSeats venue parts seats → AllWorked setup 1 feeds [] → Collects setup feeds seats None
collects_none setup venue parts seats [] is worked = collects_nothing setup venue parts seats is
collects_none setup venue parts seats (commands ∷ feeds) is worked = absurd worked

-- the last one of feeds
record Last (setup : Setup) (feed : ℕ) (feeds : List (List Asked)) (outcomes : List Outcome) (outcome : Outcome) : Type 0 where
  front : List (List Asked)
  last : List Asked
  all : feeds ≡ front ++ last ∷ []
  worked : AllWorked setup feed front outcomes
  it : HaveWorked setup (feed + length front) outcome.seats last outcome.refused

last_of : (setup : Setup) (feed : ℕ) (feeds : List (List Asked)) (outcomes : List Outcome) (outcome : Outcome)
    → AllWorked setup feed feeds (outcomes ++ outcome ∷ []) → Last setup feed feeds outcomes outcome
last_of setup feed [] [] outcome worked = absurd worked
last_of setup feed [] (o ∷ outcomes) outcome worked = absurd worked
last_of setup feed (commands ∷ []) [] outcome worked =
    let at : feed ≡ feed + 0 = omega arith in record {
      front = [];
      last = commands;
      all = refl;
      worked = tt;
      it = subst (λ (f : ℕ). HaveWorked setup f outcome.seats commands outcome.refused) at worked.0;
    }
last_of setup feed (commands ∷ other ∷ feeds) [] outcome worked = absurd worked.1
last_of setup feed (commands ∷ feeds) (o ∷ outcomes) outcome worked =
    let l = last_of setup (feed + 1) feeds outcomes outcome worked.1 in
    let at : (feed + 1) + length l.front ≡ feed + length (commands ∷ l.front) = omega arith in record {
      front = commands ∷ l.front;
      last = l.last;
      all = ap (λ (fs : List (List Asked)). commands ∷ fs) l.all;
      worked = (worked.0, l.worked);
      it = subst (λ (f : ℕ). HaveWorked setup f outcome.seats l.last outcome.refused) at l.it;
    }

-- one more feed is joined
pub joined : (setup : Setup) (old new : List SeatState) (outcomes : List Outcome) (outcome : Outcome) (refused : Option FloorRefusal)
    → Step old outcome.seats new
    → ((feeds : List (List Asked)) → AllWorked setup 1 feeds outcomes → Collects setup feeds old refused)
    → (feeds : List (List Asked)) → AllWorked setup 1 feeds (outcomes ++ outcome ∷ [])
    → Collects setup feeds new (option_or refused outcome.refused)
joined setup old new outcomes outcome refused step so feeds worked =
    let l = last_of setup 1 feeds outcomes outcome worked in
    subst (λ (fs : List (List Asked)). Collects setup fs new (option_or refused outcome.refused)) (sym l.all)
    (collect old outcome.seats new step setup l.front l.last refused outcome.refused (so l.front l.worked) l.it)
