-- The first frame of a stream that begins with some bytes.
use Rattle.std.proofs.Common.{◌≡◌, ◌≤◌, ℕ, List, [], ◌++◌, length, length-drop, length-take-le, take, drop, sym, ◌∙◌, ap, append_assoc, append-nil, arith}
use Rattle.std.proofs.lemmas.List.{take-append-drop, length-take}
use Rattle.fix_frames.specs.Streams.{Stream, HasGiven, next_from, gives}
use Rattle.fix_frames.specs.NextLaws.{given_frame}
use Rattle.fix_frames.specs.FrameLaws.{length-frame}
use Rattle.live_words.specs.Naming.{IsFirst, IsGiven, IsFirstFrame}
use Rattle.live_words.specs.declared.naming.First.TheVariants.{Frame}

pub first_given : (early : List ℕ) (old new : Stream) (frame copy : List ℕ) → old.kept ≡ early → copy ≡ frame → HasGiven old new frame → IsFirst early (Frame copy)
first_given early old new frame copy kept same given =
    (given.0, λ more. ap (λ (l : List ℕ). next_from (l ++ more)) (sym kept) ∙ given.2 more ∙ ap (gives given.0) (sym same))

-- a frame that some bytes are stands at their front
at_front : (bytes frame : List ℕ) (n : ℕ) → next_from bytes ≡ gives n frame → length frame ≡ length bytes → n ≡ 0
at_front bytes frame n is size =
    let given = given_frame bytes n frame is in
    let large = length-frame frame given.0 in
    let inside = length-take (length frame) (drop n bytes) in
    let same = ap (λ (l : List ℕ). length l) given.2 in
    omega (arith, size, large, inside, same, length-drop n bytes)

-- so many of the first bytes of a connection are a frame
pub first_whole : (early frame : List ℕ) (size : ℕ) → size ≤ length early → IsGiven (take size early) frame → length frame ≡ size → IsFirstFrame early frame
first_whole early frame size fits given is more =
    let alone : next_from (take size early) ≡ gives given.0 frame = ap next_from (sym (append-nil (take size early))) ∙ given.1 [] in
    let front : given.0 ≡ 0 = at_front (take size early) frame given.0 alone (is ∙ sym (length-take-le size early fits)) in
    let whole : early ++ more ≡ take size early ++ (drop size early ++ more) =
    ap (λ (l : List ℕ). l ++ more) (sym (take-append-drop size early)) ∙ append_assoc (take size early) (drop size early) more in
    ap next_from whole ∙ given.1 (drop size early ++ more) ∙ ap (λ (n : ℕ). gives n frame) front
