-- What the framer's answers say of the stream.
use Rattle.std.proofs.Common.{◌≡◌, ℕ, ℤ, List, [], refl, sym, ◌∙◌, ap}
use Rattle.std.proofs.lemmas.List.{append-nil}
use Rattle.fix_frames.specs.ReadingLaws.{given_shorter, reading-given, reading-waited, reading-none, reading-exceeded}
use Rattle.fix_frames.specs.Reading.{reading_of}
use Rattle.fix_frames.specs.Streams.{Stream, HasGiven, HasWaited, HasExceeded}
use Rattle.session_core.specs.declared.turn.Turn.{Turn}
use Rattle.session_core.specs.Machine.{Machine, on_frame, on_overlong}
use Rattle.session_stream.specs.Hearing.{TakesFrame, Exceeds, Waits}

-- the moment may be read in another spelling
pub takes_frame : (moment read : ℤ) (session next : Machine) (old new : Stream) (frame : List ℕ) (turn : Turn) → read ≡ moment → HasGiven old new frame
    → next ≡ (on_frame session frame read).machine → turn ≡ (on_frame session frame read).turn
    → TakesFrame moment session old.kept turn next new.kept
takes_frame moment read session next old new frame turn e given machine turn_is = record {
  frame = frame;
  reads = λ more. reading-given old new frame more given;
  fewer = given_shorter old new frame given;
  machine = machine ∙ ap (λ (m : ℤ). (on_frame session frame m).machine) e;
  turn_is = turn_is ∙ ap (λ (m : ℤ). (on_frame session frame m).turn) e;
}

pub waits : (session : Machine) (old new : Stream) → HasWaited old new → Waits session old.kept session new.kept
waits session old new waited =
    let same : reading_of old.kept ≡ reading_of new.kept =
    ap reading_of (sym (append-nil old.kept)) ∙ reading-waited old new [] waited ∙ ap reading_of (append-nil new.kept) in record {
      reads = λ more. reading-waited old new more waited;
      none = sym same ∙ reading-none old new waited;
      few = waited.4;
      machine = refl;
    }

pub exceeds : (moment read : ℤ) (session next : Machine) (old new : Stream) (turn : Turn) → read ≡ moment → HasExceeded old new
    → next ≡ (on_overlong session read).machine → turn ≡ (on_overlong session read).turn
    → Exceeds moment session old.kept turn next
exceeds moment read session next old new turn e exceeded machine turn_is = record {
  exceeds = λ more. reading-exceeded old new more exceeded;
  machine = machine ∙ ap (λ (m : ℤ). (on_overlong session m).machine) e;
  turn_is = turn_is ∙ ap (λ (m : ℤ). (on_overlong session m).turn) e;
}
