-- The rule of a gate: what holds of its words, its slot and its seats at every moment.
-- Word 0 is the next ticket, word 1 the ticket that is served, word 2 the length of the history, and word 3 may be any number: it
-- says whether somebody may sleep. The one slot has the value while no seat has the turn.
use Rattle.std.specs.Prelude.{◌≡◌, ℕ, ◌+◌, ◌^◌, ◌<◌, ◌≤◌, true, false, cond, ◌⊎◌, List, [], ◌∷◌, length, sum_by, Option, None, Some}
use mathlib.Core.Option as maybe
use lib.ListN.{get_elem?}
use Rattle.atomic_table.specs.Table.{State}
use Rattle.venue_words.specs.Journals.{StartsWith}
use Rattle.venue_words.specs.declared.command.Event.{Event}
use Rattle.turn_gate.specs.declared.view.SeatView.{SeatView}
use Rattle.turn_gate.specs.Numbers.{IncreasesWithin, times}

-- all parts of a gate
abbrev pub whole : ℕ
whole = 65536

-- a seat that was joined into another one
abbrev pub spent_seat : SeatView
spent_seat = record {
  limit = 0;
  setting = 0;
  turns = 0;
  joined_turns = 0;
  last_turn = 0;
  seen = [];
  told = [];
  mine = [];
  part = 0;
  ticket = None;
  history = None;
  opening = false;
}

-- the first seat, which has the first turn, and still has to lay the value into the slot
abbrev pub opening_seat : ℕ → ℕ → SeatView
opening_seat limit setting = record spent_seat {
  limit = limit;
  setting = setting;
  part = whole;
  ticket = Some 0;
  history = Some [];
  opening = true;
}

-- what is said of one seat: `limit` and `setting` are those of the value, `next` and `serving` the two tickets
pub record AgreesWith (limit setting next serving : ℕ) (history : List Event) (seat : SeatView) : Type 0 where
  -- a seat with no part was joined into another one; each other seat knows the value's limit and setting
  pub spent : seat.part ≡ 0 → seat ≡ spent_seat
  pub knows_limit : 0 < seat.part → seat.limit ≡ limit
  pub knows_setting : 0 < seat.part → seat.setting ≡ setting
  -- it has seen a beginning of the history by the end of a turn that was passed; what another seat had seen that was joined
  -- into it, and its own numbers, lie there
  pub seen : StartsWith history seat.seen
  pub told : StartsWith seat.seen seat.told
  pub mine : IncreasesWithin 0 (length seat.seen) seat.mine
  pub last : seat.last_turn ≤ serving
  -- its ticket was drawn and not passed yet;
  -- it has the turn only where its ticket is served, and then knows the history
  pub ticket : (ticket : ℕ) → seat.ticket ≡ Some ticket → (serving ≤ ticket) × (ticket < next)
  pub turn : (known : List Event) → seat.history ≡ Some known → (known ≡ history) × (seat.ticket ≡ Some serving)

-- no two seats have the same ticket
abbrev pub HaveDifferentTickets : List SeatView → Type 0
HaveDifferentTickets seats =
    (i j ticket : ℕ) (seat other : SeatView)
    → get_elem? seats i ≡ maybe.some seat → get_elem? seats j ≡ maybe.some other
    → seat.ticket ≡ Some ticket → other.ticket ≡ Some ticket → i ≡ j

-- of two seats the one that saw less turns has seen a beginning of what the other has seen, unless it has the turn
abbrev pub HaveSeenInOrder : List SeatView → Type 0
HaveSeenInOrder seats =
    (i j : ℕ) (seat other : SeatView)
    → get_elem? seats i ≡ maybe.some seat → get_elem? seats j ≡ maybe.some other
    → seat.history ≡ None → 0 < other.part → seat.last_turn ≤ other.last_turn → StartsWith other.seen seat.seen

-- each number from 1 to `count` is the own number of just one seat, once, and no greater number is one
pub record EachNumberOnce (seats : List SeatView) (count : ℕ) : Type 0 where
  pub within : (n : ℕ) → 0 < n → n ≤ count → sum_by (λ seat. times n seat.mine) seats ≡ 1
  pub beyond : (n : ℕ) → count < n → sum_by (λ seat. times n seat.mine) seats ≡ 0

-- the value is out of its slot, with the seat that has the turn; before the opening the slot is empty and at home
pub record IsOut {V : Type 0} (slots : List (maybe.Option (Option V))) (seats : List SeatView) : Type 0 where
  pub holder : ℕ
  pub seat : SeatView
  pub history : List Event
  pub at : get_elem? seats holder ≡ maybe.some seat
  pub has_turn : seat.history ≡ Some history
  pub slot : slots ≡ cond seat.opening (maybe.some None) maybe.none ∷ []

module _ {V : Type 0} (journal_of : V → List Event) (limit_of setting_of : V → ℕ) (opening_value : V) where
  -- a value with this journal, and with the limit and the setting that the gate was made with
  pub record IsValueWith (history : List Event) (value : V) : Type 0 where
    pub journal : journal_of value ≡ history
    pub limit : limit_of value ≡ limit_of opening_value
    pub setting : setting_of value ≡ setting_of opening_value

  -- no seat has the turn, and the value is in its slot
  pub record IsHome
      (slots : List (maybe.Option (Option V)))
      (seats : List SeatView)
      (history : List Event) : Type 0 where
    pub value : V
    pub slot : slots ≡ maybe.some (Some value) ∷ []
    pub value_is : IsValueWith history value
    pub no_turn : (j : ℕ) (seat : SeatView) → get_elem? seats j ≡ maybe.some seat → seat.history ≡ None

  -- there is one history
  pub record KeepsOneHistory (state : State (Option V) SeatView) : Type 0 where
    pub next : ℕ
    pub serving : ℕ
    pub history : List Event
    pub sleepers : ℕ
    -- the words
    pub words : state.words ≡ next ∷ serving ∷ length history ∷ sleepers ∷ []
    pub order : serving ≤ next
    pub fits : next < 2 ^ 64
    pub room : length history ≤ limit_of opening_value
    -- the seats
    pub seats : (j : ℕ) (seat : SeatView) → get_elem? state.views j ≡ maybe.some seat
        → AgreesWith (limit_of opening_value) (setting_of opening_value) next serving history seat
    pub tickets : HaveDifferentTickets state.views
    pub looks : HaveSeenInOrder state.views
    -- the value
    pub value : IsHome state.homes state.views history ⊎ IsOut state.homes state.views
    -- the parts are all parts, the turns all turns that were passed, and the numbers all numbers
    pub parts : sum_by (λ seat. seat.part) state.views ≡ whole
    pub turns : sum_by (λ seat. seat.turns + seat.joined_turns) state.views ≡ serving
    pub numbers : EachNumberOnce state.views (length history)
