-- What a floor is seen as that lists what is submitted to its one symbol, for tests.
use Rattle.std.specs.Prelude.{◌≡◌, ℕ, ◌==◌, Bool, true, false, refl, List, [], ◌∷◌, None, length}
use Rattle.std.specs.List.{range_with_len}
use Rattle.venue_words.specs.declared.command.Event.{Event}
use Rattle.venue_words.specs.Floors.{FloorMark, SymbolView}

abbrev pub listing_mark : ℕ → ℕ → FloorMark
listing_mark members markets =
    record {
      setup = record { members = members; markets = markets; limits = 4294967295 ∷ []; ticks = [] };
      seats = [];
    }

-- every event is an own one, and none makes a report
abbrev pub view_of : Bool → List Event → SymbolView
view_of true journal =
    record { journal = journal; reports = []; mine = range_with_len 1 (length journal); turns = None }
view_of false journal = record { journal = []; reports = []; mine = []; turns = None }

abbrev pub listing_view : List Event → ℕ → SymbolView
listing_view journal symbol = view_of (symbol == 0) journal

pub lists_no_reports : (journal : List Event) (symbol : ℕ) → (listing_view journal symbol).reports ≡ []
lists_no_reports journal symbol = elim (symbol == 0) as (λ b. (view_of b journal).reports ≡ []) [ true ↦ refl | false ↦ refl ]
