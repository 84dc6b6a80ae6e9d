-- A venue of a config for one thread is a plain floor of it.
use Rattle.std.proofs.Common.{Result, Ok, Err, IfOk, refl, sym, subst}
use Rattle.venue_words.specs.Conditions.{IsConfig}
use Rattle.venue_words.specs.Floors.{FloorMark}
use Rattle.venue_words.specs.declared.config.Config.{Config}
use Rattle.symbol_book.specs.Book.{BookView}
use Rattle.symbol_book.specs.Setting.{book_setting, reports_at, steps_at}
use Rattle.venue_core.specs.ConfigVenueLaws.{venue_is_floor, book_shows_run, book_state_run}
use Rattle.venue_core.specs.ConfigVenues.{IsVenueOf, book_step_limit, plain_book_mark, plain_book_view, plain_book_state}
use Rattle.venue_core.specs.Marks.{setting_in}
use Rattle.venue_core.specs.ShownLaws.{book_shows_own}
use Rattle.venue_core.specs.Venues.{PlainState}
use Rattle.replay_core.specs.PlainFloor.{IsPlain}

pub plain_venue : (config : Config) (venue : PlainState BookView) → IsConfig config → IsVenueOf config (plain_book_mark venue)
    → IsPlain plain_book_mark plain_book_view book_step_limit plain_book_state config (plain_book_mark venue)
plain_venue config venue is of_config = record {
  setup = of_config.setup;
  own = λ floor symbol. book_shows_own (λ (book : BookView). book.journal) (λ (book : BookView). book.limit) book_setting reports_at floor symbol;
  reports = λ floor symbol same within.
      book_shows_run config floor symbol is (subst (λ (mark : FloorMark). IsVenueOf config mark) (sym same) of_config) within;
  states = λ floor symbol same within.
      book_state_run config floor symbol is (subst (λ (mark : FloorMark). IsVenueOf config mark) (sym same) of_config) within;
  steps = (venue_is_floor config (plain_book_mark venue) is of_config).steps;
  counted = λ symbol journal event. (steps_at (setting_in (plain_book_mark venue) symbol) journal event, refl);
}

-- a fact of an `Ok` that follows from another
pub weaker : {T E : Type 0} (r : Result T E) (P Q : T → Type 0) → ((x : T) → P x → Q x) → IfOk r P → IfOk r Q
weaker (Ok x) P Q f p = f x p
weaker (Err e) P Q f p = tt
