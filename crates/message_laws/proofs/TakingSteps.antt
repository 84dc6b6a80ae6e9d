-- What taking frames one by one says of the whole stream.
use Rattle.std.proofs.Common.{◌≡◌, ℕ, ◌+◌, ◌<◌, Bool, true, List, [], ◌++◌, length, drop, get_or, refl, sym, ◌∙◌, ap, arith, append_assoc, length-drop}
use Rattle.std.specs.List.{flat_map}
use Rattle.std.proofs.lemmas.List.{append-nil, drop_more}
use Rattle.fix_frames.specs.declared.reading.Reading.{Reading}
use Rattle.message_laws.specs.declared.reading.Taken.TheVariants.{Frame, Wait, TooLong}
use Rattle.fix_frames.specs.Streams.{Stream, HasGiven, HasWaited, HasExceeded}
use Rattle.fix_frames.specs.Reading.{none_yet, with_frames, reading_of}
use Rattle.fix_frames.specs.ReadingLaws.{lies_in, reading-given, reading-waited, reading-none, reading-exceeded, reading-exceeded_on}
use Rattle.message_laws.specs.Taking.{IsOverLimit, Takes, TakesAll}

abbrev over_limit : List (List ℕ) → Reading
over_limit frames = record { frames = frames; too_long = true }

pub reading_of-nil : reading_of [] ≡ none_yet
unfolding reading_of
reading_of-nil = refl

pub takes_frame : (old new : Stream) (frame : List ℕ) → HasGiven old new frame → Takes old (Frame frame) new
takes_frame old new frame h =
    let l = lies_in (old.kept ++ []) h.0 frame (h.2 []) in
    (λ more. reading-given old new frame more h, omega (arith, l.some, h.1.inside, ap length h.1.kept, length-drop (h.0 + length frame) old.kept))

pub takes_none : (old new : Stream) → HasWaited old new → Takes old Wait new
takes_none old new h =
    (λ more. reading-waited old new more h, ap reading_of (sym (append-nil new.kept)) ∙ sym (reading-waited old new [] h) ∙ ap reading_of (append-nil old.kept) ∙ reading-none old new h)

pub takes_too_long : (old new : Stream) → HasExceeded old new → Takes old TooLong new
takes_too_long old new h =
    (λ more. reading-exceeded old new more h ∙ sym (reading-exceeded_on old new more h), λ more. reading-exceeded_on old new more h)

-- one more piece was fed, and all frames were taken
pub fed_one : {X : Type 0} (bytes_of : X → List ℕ) (pieces : List X) (other : X) (i : ℕ) (whole : Reading) (before after : List (List ℕ)) (old fed new : Stream) (too_long : Bool) → i < length pieces → with_frames before (reading_of (old.kept ++ flat_map bytes_of (drop i pieces))) ≡ whole → fed.kept ≡ old.kept ++ bytes_of (get_or pieces i other) → TakesAll fed before too_long new after → with_frames after (reading_of (new.kept ++ flat_map bytes_of (drop (i + 1) pieces))) ≡ whole
fed_one bytes_of pieces other i whole before after old fed new too_long inside e f t =
    let rest = flat_map bytes_of (drop (i + 1) pieces) in
    let first : flat_map bytes_of (drop i pieces) ≡ bytes_of (get_or pieces i other) ++ rest = ap (flat_map bytes_of) (drop_more pieces i other inside) in
    let joined : fed.kept ++ rest ≡ old.kept ++ flat_map bytes_of (drop i pieces) = ap (λ (k : List ℕ). k ++ rest) f ∙ append_assoc old.kept (bytes_of (get_or pieces i other)) rest ∙ ap (λ (r : List ℕ). old.kept ++ r) (sym first) in
    sym (t.frames rest) ∙ ap (λ (k : List ℕ). with_frames before (reading_of k)) joined ∙ e

-- the frames that were taken are all that come before the one that is too long
pub all_taken : (whole : Reading) (after : List (List ℕ)) (new : Stream) (rest : List ℕ) → with_frames after (reading_of (new.kept ++ rest)) ≡ whole → IsOverLimit new → record { frames = after; too_long = true } ≡ whole
all_taken whole after new rest e over = ap (λ (fs : List (List ℕ)). over_limit fs) (sym (append-nil after)) ∙ ap (with_frames after) (sym (over rest)) ∙ e
