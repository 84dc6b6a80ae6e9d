-- What comes next in a stream, in terms of frames.
use Rattle.std.proofs.Common.{◌≡◌, ℕ, ◌+◌, ◌<◌, ◌≤◌, List, ◌++◌, length, take, drop, sym, ◌∙◌, ap, subst, arith}
use Rattle.std.proofs.lemmas.List.{take_all}
use Rattle.venue_words.specs.declared.limits.TheConstants.{MAX_FRAME_BYTES}
use Rattle.fix_frames.specs.declared.place.Place.TheVariants.{Passed, Unfinished, Whole}
use Rattle.fix_frames.specs.Frames.{IsFrame}
use Rattle.fix_frames.specs.FrameLaws.{length-frame, place_at-frame}
use Rattle.fix_frames.specs.FoundLaws.{whole_found}
use Rattle.fix_frames.specs.Places.{place_at}
use Rattle.fix_frames.specs.PlaceLaws.{place_at-more}
use Rattle.fix_frames.specs.Streams.{gives, next_from}
use Rattle.fix_frames.specs.StreamLaws.{next_from-whole, skips_none}
use Rattle.fix_frames.specs.ReadingLaws.{lies_in}

pub given_frame : (bytes : List ℕ) (n : ℕ) (frame : List ℕ) → next_from bytes ≡ gives n frame → IsFrame frame × (length frame ≤ MAX_FRAME_BYTES) × (take (length frame) (drop n bytes) ≡ frame)
given_frame bytes n frame h =
    let l = lies_in bytes n frame h in
    let w = whole_found (drop n bytes) (length frame) l.front l.whole in
    (subst IsFrame l.same w.0, w.1, l.same)

pub none_before : (bytes : List ℕ) (n : ℕ) (frame : List ℕ) → next_from bytes ≡ gives n frame → (k : ℕ) (other rest : List ℕ) → k < n → IsFrame other → length other ≤ MAX_FRAME_BYTES → drop k bytes ≡ other ++ rest → ⊥
none_before bytes n frame h k other rest l f fits e =
    let passed : place_at (drop k bytes) ≡ Passed = (lies_in bytes n frame h).before k l in
    let here = place_at-frame other f fits in
    let known : place_at other ≡ Unfinished → ⊥ = λ u. let x : Whole (length other) (14 + length f.digits) ≡ Unfinished = sym here ∙ u in cc in
    let there = place_at-more other rest (omega (arith, length-frame other f)) known in
    let x : Passed ≡ Whole (length other) (14 + length f.digits) = sym passed ∙ ap place_at e ∙ there ∙ here in
    cc

pub frame_in_front : (frame more : List ℕ) → IsFrame frame → length frame ≤ MAX_FRAME_BYTES → next_from (frame ++ more) ≡ gives 0 frame
frame_in_front frame more f fits =
    next_from-whole frame more 0 (length frame) (14 + length f.digits) (skips_none frame) (omega (arith, length-frame frame f), place_at-frame frame f fits) ∙ ap (gives 0) (take_all (length frame) frame (omega arith))
