-- The order that entered at an event, and how it rests behind later ones.
use Rattle.std.specs.Prelude.{◌≡◌, ℕ, ◌-◌, ◌==◌, Bool, true, false, ◌&&◌, nat_eq, nat_lt, if◌then◌else◌, List, length, take, Option, Some, None}
use Rattle.std.specs.Option.{option_eq}
use Rattle.venue_words.specs.declared.command.Event.{Event}
use Rattle.venue_words.specs.declared.config.Config.{Config}
use Rattle.venue_words.specs.declared.row.Priced.{Priced}
use Rattle.eager_meaning.specs.Showing.{row_of_order}
use Rattle.eager_meaning.specs.State.{State, resting}
use Rattle.audit_core.specs.Audited.{run_of}
use Rattle.audit_order.specs.declared.following.Followed.{Followed}

-- how many orders were accepted in a journal
abbrev pub order_count : Config → ℕ → List Event → ℕ
order_count config symbol journal = length (run_of config symbol journal).state.orders

-- the number of the order that entered at an event, where one did: there is one order more behind the event than before it
unfoldable pub number_at : Config → ℕ → List Event → ℕ → Option ℕ
number_at config symbol journal event =
    if nat_lt (order_count config symbol (take (event - 1) journal)) (order_count config symbol (take event journal))
    then Some (order_count config symbol (take (event - 1) journal))
    else None

-- how the order of a number rests in a state, where there is one
unfoldable pub rests_in : Option ℕ → State → Option Priced
rests_in None state = None
rests_in (Some number) state =
    if nat_lt number (length state.orders) then row_of_order number (resting state) else None

-- how the order that entered at an event rests behind a journal
unfoldable pub standing : Config → ℕ → List Event → ℕ → Option Priced
standing config symbol journal event = rests_in (number_at config symbol journal event) (run_of config symbol journal).state

-- whether an order rests alike: at the same price, since the same time, with the same shares left
abbrev pub rests_alike : Option Priced → Option Priced → Bool
rests_alike None None = true
rests_alike None (Some y) = false
rests_alike (Some x) None = false
rests_alike (Some x) (Some y) =
    option_eq nat_eq x.value y.value && ((x.time == y.time) && (x.row.leaves == y.row.leaves))

-- what is kept of the order that entered at an event, behind a journal
pub record Keeps (first : ℕ) (followed : Followed) (config : Config) (symbol : ℕ) (journal : List Event) : Type 0 where
  pub before : followed.before ≡ order_count config symbol (take (first - 1) journal)
  pub number : followed.number ≡ number_at config symbol journal first
  pub rests : followed.rests ≡ standing config symbol journal first

-- of an event by its place: the orders before the one that is followed, and that order's number
abbrev pub before_after : ℕ → ℕ → ℕ → ℕ → ℕ
before_after count first orders before = if nat_lt count first then orders else before

abbrev pub number_after : ℕ → ℕ → ℕ → ℕ → Option ℕ → Option ℕ
number_after count first orders before number =
    if nat_lt count first
    then None
    else if count == first then (if nat_lt before orders then Some before else None) else number
