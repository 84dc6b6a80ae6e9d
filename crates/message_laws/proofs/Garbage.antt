-- Frames come out of a stream with garbage.
use Rattle.std.proofs.Common.{◌≡◌, ℕ, zero, suc, ◌+◌, ◌<◌, ◌≤◌, false, List, [], ◌∷◌, ◌++◌, length, drop, inl, inr, refl, sym, ◌∙◌, ap, subst, arith, append_assoc, length-append, length-drop}
use Rattle.std.specs.List.{flat_map}
use Rattle.std.proofs.lemmas.List.{append-nil, take_all, drop_all}
use Rattle.venue_words.specs.declared.limits.TheConstants.{MAX_FRAME_BYTES}
use Rattle.fix_frames.specs.declared.reading.Reading.{Reading}
use Rattle.fix_frames.specs.Frames.{header, check_sum, IsFrame}
use Rattle.fix_frames.specs.FrameLaws.{length-frame, place_at-frame}
use Rattle.fix_frames.specs.Places.{body_length, judged, place_at}
use Rattle.fix_frames.specs.PlaceLaws.{place_at-more}
use Rattle.fix_frames.specs.Streams.{Answer, waits, exceeds, gives, advanced, next_from, HasGiven}
use Rattle.fix_frames.specs.StreamLaws.{next_from-whole, skips_none}
use Rattle.fix_frames.specs.Reading.{none_yet, with_frames, reading_of}
use Rattle.fix_frames.specs.ReadingLaws.{reading-given}
use Rattle.message_laws.specs.Calls.{bytes_fed, frames_given}
use Rattle.message_laws.proofs.Calling.{reading-at_wait}
use Rattle.message_laws.specs.Garbage.{Declares, IsGarbage, FrameBehindGarbage, Part, IsPart, bytes_of, frames_of, FramesComeThrough, CutsDoNotMatter, TooLongBehindGarbage, HasLongStart, TooLongIsDeclared}
use Rattle.message_laws.proofs.Passing.{IsPassed, start_long, long_place, decided, passed_answer, behind_garbage, Limits, limits}

-- a frame begins with a byte
frame_tail : (frame : List ℕ) (f : IsFrame frame) → frame ≡ 56 ∷ drop 1 ((header f.digits ++ f.content) ++ check_sum (header f.digits ++ f.content))
frame_tail frame f = f.bytes

frame_in_front : (frame more : List ℕ) → IsFrame frame → length frame ≤ MAX_FRAME_BYTES → next_from (frame ++ more) ≡ gives 0 frame
frame_in_front frame more f fits =
    next_from-whole frame more 0 (length frame) (14 + length f.digits) (skips_none frame) (omega (arith, length-frame frame f), place_at-frame frame f fits) ∙ ap (gives 0) (take_all (length frame) frame (omega arith))

pub frame_behind_garbage : FrameBehindGarbage
frame_behind_garbage garbage frame more garbled f fits =
    let tail = drop 1 ((header f.digits ++ f.content) ++ check_sum (header f.digits ++ f.content)) in
    let opens : frame ++ more ≡ 56 ∷ (tail ++ more) = ap (λ (x : List ℕ). x ++ more) (frame_tail frame f) in
    let none : length garbage + 0 ≡ length garbage = omega arith in
    ap (λ (x : List ℕ). next_from (garbage ++ x)) opens
    ∙ behind_garbage garbage (tail ++ more) (subst (IsGarbage garbage) opens garbled)
    ∙ ap (λ (x : List ℕ). advanced (length garbage) (next_from x)) (sym opens)
    ∙ ap (advanced (length garbage)) (frame_in_front frame more f fits)
    ∙ ap (λ (n : ℕ). gives n frame) none

-- ---- whole streams

given_part : (part : Part) → IsPart part → HasGiven (record { passed = 0; kept = bytes_of part; held = 0 }) (record { passed = length part.garbage + length part.frame; kept = []; held = 0 }) part.frame
given_part part is = (
  length part.garbage,
  record { passed = omega arith; kept = sym (drop_all (length part.garbage + length part.frame) (bytes_of part) (omega (arith, length-append part.garbage part.frame))); inside = omega (arith, length-append part.garbage part.frame); held = refl },
  λ more. ap next_from (append_assoc part.garbage part.frame more) ∙ frame_behind_garbage part.garbage part.frame more (is.garbage more) is.frame is.fits,
)

reading-none_fed : reading_of [] ≡ none_yet
unfolding reading_of
reading-none_fed = refl

pub frames_come_through : FramesComeThrough
frames_come_through [] all = reading-none_fed
frames_come_through (part ∷ parts) all =
    reading-given (record { passed = 0; kept = bytes_of part; held = 0 }) (record { passed = length part.garbage + length part.frame; kept = []; held = 0 }) part.frame (flat_map bytes_of parts) (given_part part all.0)
    ∙ ap (with_frames (part.frame ∷ [])) (frames_come_through parts all.1)

pub cuts_do_not_matter : CutsDoNotMatter
cuts_do_not_matter parts calls new all fed leads =
    let given : reading_of (bytes_fed calls) ≡ with_frames (frames_given calls) none_yet = reading-at_wait calls new leads in
    let meant : reading_of (bytes_fed calls) ≡ record { frames = frames_of parts; too_long = false } = ap reading_of fed ∙ frames_come_through parts all in
    sym (append-nil (frames_given calls)) ∙ ap (λ (r : Reading). r.frames) (sym given ∙ meant)

-- ---- the limit

exceeds_here : (start : List ℕ) (size : ℕ) → Declares start size → MAX_FRAME_BYTES < size → next_from start ≡ exceeds
exceeds_here [] size d above = absurd (omega (arith, start_long [] size d))
exceeds_here (byte ∷ bytes) size d above = long_place (byte ∷ bytes) size d above (next_from bytes)

pub too_long_behind_garbage : TooLongBehindGarbage
too_long_behind_garbage garbage start size garbled d above =
    let tail = drop 1 (header d.digits ++ d.rest) in
    let opens : start ≡ 56 ∷ tail = d.begins in
    ap (λ (x : List ℕ). next_from (garbage ++ x)) opens
    ∙ behind_garbage garbage tail (subst (IsGarbage garbage) opens garbled)
    ∙ ap (λ (x : List ℕ). advanced (length garbage) (next_from x)) (sym opens)
    ∙ ap (advanced (length garbage)) (exceeds_here start size d above)

advanced_exceeds : (n : ℕ) (a : Answer) → advanced n a ≡ exceeds → a ≡ exceeds
advanced_exceeds n waits h = absurd (cc)
advanced_exceeds n exceeds h = refl
advanced_exceeds n (gives k frame) h = absurd (cc)

-- where no frame begins, none begins whatever follows
stays_passed : (bytes more frame rest : List ℕ) → 11 ≤ length bytes → IsPassed bytes → IsFrame frame → length frame ≤ MAX_FRAME_BYTES → bytes ++ more ≡ frame ++ rest → ⊥
unfolding place_at judged body_length
stays_passed bytes more frame rest long passed f fits e =
    let still = place_at-more bytes more long (decided bytes passed) ∙ passed in
    let here = place_at-frame frame f fits in
    let there = place_at-more frame rest (omega (arith, length-frame frame f)) (λ u. let x = sym here ∙ u in cc) in
    let x = sym still ∙ ap place_at e ∙ there ∙ here in
    cc

-- no frame begins at the first place, and none at those behind it
first_more : (byte : ℕ) (bytes : List ℕ) (place : ℕ) → 11 ≤ length (byte ∷ bytes) → IsPassed (byte ∷ bytes) → ((k : ℕ) (more frame rest : List ℕ) → k < place → IsFrame frame → length frame ≤ MAX_FRAME_BYTES → drop k bytes ++ more ≡ frame ++ rest → ⊥) → (k : ℕ) (more frame rest : List ℕ) → k < suc place → IsFrame frame → length frame ≤ MAX_FRAME_BYTES → drop k (byte ∷ bytes) ++ more ≡ frame ++ rest → ⊥
first_more byte bytes place long passed behind zero more frame rest l f fits e = stays_passed (byte ∷ bytes) more frame rest long passed f fits e
first_more byte bytes place long passed behind (suc k) more frame rest l f fits e = behind k more frame rest (omega arith) f fits e

long_at : (byte : ℕ) (bytes : List ℕ) → Limits (byte ∷ bytes) → (next_from bytes ≡ exceeds → HasLongStart bytes) → next_from (byte ∷ bytes) ≡ exceeds → HasLongStart (byte ∷ bytes)
long_at byte bytes (inl passed) behind h =
    let b = behind (advanced_exceeds 1 (next_from bytes) (sym (passed_answer (byte ∷ bytes) passed (next_from bytes)) ∙ h)) in
    let long = start_long (drop b.place bytes) b.size b.declares in
    record {
      place = suc b.place;
      size = b.size;
      inside = omega (arith, b.inside);
      declares = b.declares;
      above = b.above;
      first = first_more byte bytes b.place (omega (arith, long, length-drop b.place bytes)) passed b.first;
    }
long_at byte bytes (inr (inl other)) behind h = absurd (other (next_from bytes) h)
long_at byte bytes (inr (inr s)) behind h =
    record { place = 0; size = s.size; inside = omega arith; declares = s.declares; above = s.above; first = λ k more frame rest l. absurd (omega arith) }

pub too_long_is_declared : TooLongIsDeclared
too_long_is_declared [] h = absurd (cc)
too_long_is_declared (byte ∷ bytes) h = long_at byte bytes (limits (byte ∷ bytes)) (too_long_is_declared bytes) h
