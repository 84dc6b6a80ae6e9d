-- What a command needs of the state that it finds, so that its trades can be added to their orders.
use Rattle.std.specs.Prelude.{◌≡◌, ℕ, ◌<◌, ◌≤◌, List, [], ◌∷◌, ◌++◌, length, slice_set, Some, None}
use Rattle.venue_words.specs.declared.command.Command.{Command}
use Rattle.venue_words.specs.declared.command.Command.TheVariants.{Quote, New, Cancel, Replace, Status}
use Rattle.venue_words.specs.declared.terms.Terms.{Terms}
use Rattle.venue_words.specs.declared.price.Best.{Best}
use Rattle.venue_words.specs.declared.row.Priced.{Priced}
use Rattle.venue_words.specs.Best.{best_of}
use Rattle.venue_words.specs.declared.limits.TheConstants.{MAX_ID_BYTES}
use Rattle.eager_meaning.specs.declared.order.Order.{Order}
use Rattle.eager_meaning.specs.declared.order.Live.{Live}
use Rattle.eager_meaning.specs.Changing.{replaced_order, without}
use Rattle.eager_meaning.specs.Entering.{accepted_order}
use Rattle.eager_meaning.specs.Orders.{changed_at, live_named}
use Rattle.eager_meaning.specs.State.{State, resting}
use Rattle.eager_meaning.specs.Terms.{row_of, is_immediate, quantity_of}
use Rattle.match_core.specs.BothSides.{requoted_rows, entered_rows}
use Rattle.symbol_book.specs.Changes.{broken_by}
use Rattle.symbol_book.specs.Orders.{HaveLeft}

-- the trades of an accepted order fit
abbrev pub NewFits : ℕ → ℕ → ℕ → List ℕ → Terms → Best → List Priced → List Priced → List Order → Type 0
NewFits tick event member id terms best buys sells orders =
    HaveLeft (entered_rows best (row_of tick event (length orders) member 0 terms) (is_immediate terms) buys sells).fills
    (orders ++ accepted_order tick event member id terms ∷ [])

-- those of a live order that enters anew fit
abbrev pub ReplaceFits : ℕ → ℕ → ℕ → List ℕ → Terms → Live → Best → List Priced → List Priced → List Order → Type 0
ReplaceFits tick event member id terms live best buys sells orders =
    HaveLeft
    (entered_rows best (row_of tick event live.number member live.order.cum terms) (is_immediate terms)
    (without live.row.row.entry buys) (without live.row.row.entry sells)).fills
    (changed_at (replaced_order tick id terms) live.number orders)

-- the ids of a command are short, its market is there, and its trades fit
abbrev pub CanWork : ℕ → ℕ → Command → State → Type 0
CanWork tick event (Quote market bid offer) s =
    (market < length s.markets)
    × HaveLeft
    (requoted_rows event (best_of (slice_set s.markets market (record { bid = bid; offer = offer }))) s.buys s.sells).fills
    s.orders
CanWork tick event (New member id terms) s =
    (length id ≤ MAX_ID_BYTES)
    × (broken_by tick member id (New member id terms) s None ≡ None
    → NewFits tick event member id terms (best_of s.markets) s.buys s.sells s.orders)
CanWork tick event (Cancel member id orig) s = Unit {0}
CanWork tick event (Replace member id orig terms) s =
    (length id ≤ MAX_ID_BYTES)
    × ((live : Live) → live_named member orig s.orders (resting s) ≡ Some live
    → broken_by tick member id (Replace member id orig terms) s (Some live) ≡ None
    → (live.order.cum < quantity_of terms)
    × ReplaceFits tick event member id terms live (best_of s.markets) s.buys s.sells s.orders)
CanWork tick event (Status member id side) s = Unit {0}
