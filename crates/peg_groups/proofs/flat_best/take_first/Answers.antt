use Rattle.std.proofs.Common.{◌≡◌, List, Option, Some, None, ℕ, length, sym, ◌∙◌, set, slice_get}
use Rattle.std.specs.Option.{IfSome, MatchOption}
use Rattle.peg_groups.specs.Flat.{IsBestPlace, TakesBest, without_node}
use Rattle.peg_groups.specs.declared.flat.Place.{Place}
use Rattle.peg_groups.specs.declared.side_book.Taken.{Taken}
use Rattle.peg_groups.proofs.flat_best.take_first.Goals as goal

some_place : {x y : Place} → Some x ≡ Some y → x ≡ y
some_place e = cc

taken : (old new : List Place) (i : ℕ) (place : Place) (o : Option Taken) → IsBestPlace old (length old) i → slice_get old i ≡ Some place → MatchOption o (place.node ≡ None) (λ t. (place.node ≡ Some t.node) × (t.value ≡ place.value) × (t.time ≡ place.time)) → new ≡ set old i (without_node place) → IfSome o (TakesBest old new)
taken old new i place None b at m left = tt
taken old new i place (Some t) b at m left =
    let same : place ≡ b.place = some_place (sym at ∙ b.at) in
    record {
      i = i;
      best = b;
      node_is = rw (← same) m.0;
      value_is = rw (← same) m.1;
      time_is = rw (← same) m.2;
      left = rw (← same) left;
    }

pub returns-in-Some-clause-first : goal.returns-in-Some-clause-first
returns-in-Some-clause-first g c = let t = c.take_from.ensures.taken in taken c.args.places.now.items c.take_from.new.places.items c.in-Some.i t.0 c.take_from.result (rw c.as_slice.ensures.value at c.in-Some.ensures.best) t.1 t.2 t.3
