-- The frames so far, and then those of the bytes kept and of the pieces that are left, are those of all pieces.
use Rattle.std.proofs.Common.{◌≡◌, ◌++◌, drop}
use Rattle.std.specs.List.{flat_map}
use Rattle.fix_frames.specs.Reading.{none_yet, with_frames, reading_of}
use Rattle.message_laws.proofs.reading.read_frames.Given as goal

abbrev pub invariant-loop-piece : goal.invariant-loop-piece
invariant-loop-piece l = record {
  whole : with_frames l.frames (reading_of (l.framer.kept ++ flat_map (λ piece. piece.now) (drop l.piece-index l.pieces)))
      ≡ reading_of (flat_map (λ piece. piece.now) l.pieces);
  none : reading_of l.framer.kept ≡ none_yet;
}
