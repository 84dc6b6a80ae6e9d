-- What a closed venue hands back whose seats were those of feeds.
use Rattle.std.proofs.Common.{◌≡◌, ℕ, ◌<◌, ◌≤◌, List, [], ◌∷◌, length, map, slice_get, slice_index, Option, Some, None, refl, sym, ap, ◌∙◌, subst, arith}
use Rattle.std.specs.Prelude.{sum_by}
use Rattle.std.specs.List.{AllZip}
use Rattle.std.proofs.lemmas.List.Sums.{sum_by-cons}
use Rattle.venue_words.specs.Floors.{Setup}
use Rattle.venue_words.specs.declared.command.Event.{Event}
use Rattle.venue_words.specs.declared.refusal.FloorRefusal.{FloorRefusal}
use Rattle.venue_words.specs.declared.refusal.FloorRefusal.TheVariants.{Full}
use Rattle.eager_meaning.specs.Interleaving.{Timed, Interleaves}
use Rattle.turn_gate.specs.Numbers.{times}
use Rattle.turn_gate.specs.Seats.{GateId, SeatState}
use Rattle.venue_core.specs.Closing.{IsBookOf}
use Rattle.feed_work.specs.Feeds.{Asked, commands_at}
use Rattle.feeds_core.specs.Books.{count_at}
use Rattle.feeds_core.specs.Joined.{Gathers, Collects}
use Rattle.feeds_core.proofs.Collecting.{in_more}
use Rattle.feed_work.proofs.Growing.{starts_long}
use Rattle.feeds_core.proofs.Interleaving.{interleaves, counts}
use Rattle.feeds_core.proofs.Numbers.{times_range, length_range}
use Rattle.feed_work.proofs.Places.{within}
use Rattle.feeds_core.proofs.Zips.{held, zip_at, zip_length}

module _ {V : Type 0} (journal_of : V → List Event) (limit_of setting_of : V → ℕ) where
  abbrev IsBook : SeatState → V → Type 0
  IsBook = IsBookOf journal_of limit_of setting_of

  -- as many events as the seat has numbers
  length_mine : (seat : SeatState) (book : V) → IsBook seat book → length seat.mine ≡ length (journal_of book)
  length_mine seat book is = ap length is.mine ∙ length_range 1 (length (journal_of book))

  pub book_interleaves : (seat : SeatState) (book : V) (css : List (List Timed)) → IsBook seat book → Gathers seat css
      → Interleaves (journal_of book) css
  book_interleaves seat book css is g =
      interleaves (journal_of book) g.numbers css (in_more 1 seat.seen (journal_of book) g.numbers css is.seen g.are_in)
      (λ n past most.
      sym (g.once n) ∙ ap (times n) is.mine
      ∙ times_range 1 (length (journal_of book)) n (omega (arith, past)) (omega (arith, most)))
      (sym g.count ∙ length_mine seat book is)

  sums : (symbol : ℕ) (feeds : List (List Asked)) → sum_by (λ (cs : List Timed). length cs) (map (commands_at symbol) feeds) ≡ count_at symbol feeds
  sums symbol [] = refl
  sums symbol (commands ∷ feeds) =
      omega (
        arith,
        sum_by-cons (λ (cs : List Timed). length cs) (commands_at symbol commands) (map (commands_at symbol) feeds),
        sum_by-cons (λ (c : List Asked). length (commands_at symbol c)) commands feeds,
        sums symbol feeds,
      )

  module _ (setup : Setup) (feeds : List (List Asked)) (seats : List SeatState) (books : List V) (refused : Option FloorRefusal)
      (closed : AllZip IsBook seats books) (collects : Collects setup feeds seats refused) where
    -- where no command was refused, each book interleaves the feeds
    pub all_interleave : refused ≡ None → (symbol : ℕ) (book : V) → slice_get books symbol ≡ Some book
        → Interleaves (journal_of book) (map (commands_at symbol) feeds)
    all_interleave none symbol book at =
        let seat = held seats symbol (omega (arith, zip_length IsBook seats books closed, within books symbol book at)) in
        let is = zip_at IsBook seats books symbol seat.item book closed seat.at at in
        subst (λ (fs : List (List Asked)). Interleaves (journal_of book) (map (commands_at symbol) fs)) (collects.whole none)
        (book_interleaves seat.item book (map (commands_at symbol) collects.taken) is (collects.gathers symbol seat.item seat.at))

    -- where the commands for a symbol keep to its limit, none found its journal full
    pub none_full : ((symbol : ℕ) → symbol < length seats → count_at symbol feeds ≤ slice_index setup.limits symbol)
        → (found : ℕ) → refused ≡ Some (Full found) → ⊥
    none_full fit found full =
        let lacks = collects.full found full in
        let symbol = lacks.symbol in
        let lt = within seats symbol lacks.seat lacks.at in
        let book = held books symbol (omega (arith, zip_length IsBook seats books closed, lt)) in
        let is = zip_at IsBook seats books symbol lacks.seat book.item closed lacks.at book.at in
        let g = collects.gathers symbol lacks.seat lacks.at in
        let taken = counts 1 lacks.seat.seen g.numbers (map (commands_at symbol) collects.taken) g.are_in in
        let all = sums symbol collects.taken in
        let long = starts_long lacks.seat.seen (journal_of book.item) is.seen in
        let mine = length_mine lacks.seat book.item is in
        let enough = fit symbol lt in
        omega (arith, lacks.limit, lacks.seen, lacks.lacks, taken, all, long, mine, enough, g.count)

  -- the books have the settings of the venue's gates
  pub book_settings : (seats : List SeatState) (books : List V) → AllZip IsBook seats books
      → map setting_of books ≡ map (λ (gate : GateId). gate.setting) (map (λ (seat : SeatState). seat.gate) seats)
  book_settings [] [] closed = refl
  book_settings [] (book ∷ books) closed = absurd closed
  book_settings (seat ∷ seats) [] closed = absurd closed
  book_settings (seat ∷ seats) (book ∷ books) closed =
      λ k. closed.0.setting k ∷ book_settings seats books closed.1 k
