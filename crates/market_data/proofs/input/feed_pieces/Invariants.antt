-- The lines of the bytes that were given were put.
use Rattle.std.proofs.Common.{◌≡◌, ◌-◌, ◌≤◌, ℕ, List, IsTrue}
use Rattle.market_data.specs.declared.input.TheConstants.{MAX_INPUT_BYTES}
use Rattle.market_data.specs.Feeding.{unfed}
use Rattle.market_data.proofs.InputSteps.{InMiddle}
use Rattle.market_data.proofs.input.feed_pieces.Given as goal

abbrev pub invariant-pieces : goal.invariant-pieces
invariant-pieces g l = record {
  middle : (source : List ℕ) → l.initial.session ≡ unfed source → InMiddle l.config source (g.H.Shelf.left l.initial.shelf) (g.H.Shelf.left l.shelf) (g.K.Sink.told l.initial.out) (g.K.Sink.told l.out) l.taken l.session;
  within : l.taken ≤ MAX_INPUT_BYTES;
  begun : IsTrue (g.H.Shelf.begun l.shelf);
  read_later : g.H.Shelf.faults l.initial.shelf ≤ g.H.Shelf.faults l.shelf;
  write_later : g.K.Sink.faults l.initial.out ≤ g.K.Sink.faults l.out;
  sure : IsTrue (g.H.Shelf.sure l.initial.shelf) → IsTrue (g.H.Shelf.sure l.shelf);
}

-- each piece has a byte
abbrev pub decreases-pieces : goal.decreases-pieces
decreases-pieces g l = MAX_INPUT_BYTES - l.taken
