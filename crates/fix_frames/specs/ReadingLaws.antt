-- The frames of a stream don't depend on the pieces in which it comes.
use Rattle.std.proofs.Common.{◌≡◌, ℕ, zero, suc, ◌+◌, ◌<◌, ◌≤◌, List, [], ◌∷◌, ◌++◌, length, take, drop, refl, sym, ◌∙◌, ap, arith, length-drop}
use Rattle.std.proofs.lemmas.List.{drop-drop, drop-append-le, length-take-le}
use Rattle.fix_frames.specs.declared.place.Place.{Place}
use Rattle.fix_frames.specs.declared.place.Place.TheVariants.{Passed, Unfinished, Long, Whole}
use Rattle.fix_frames.specs.Places.{place_at}
use Rattle.fix_frames.specs.PlaceLaws.{place_at-fits, place_at-large}
use Rattle.fix_frames.specs.Streams.{Answer, waits, exceeds, gives, advanced, answer_at, next_from, Skips, Stream, HasGiven, HasWaited, HasExceeded}
use Rattle.fix_frames.specs.Reading.{none_yet, only_too_long, with_frames, behind, reading_from, reading_of}

-- a frame that comes next is not empty, lies in the stream, and the places before it are passed over
pub record LiesIn (bytes : List ℕ) (n : ℕ) (frame : List ℕ) : Type 0 where
  pub some : 0 < length frame
  pub inside : n + length frame ≤ length bytes
  pub front : ℕ
  pub whole : place_at (drop n bytes) ≡ Whole (length frame) front
  pub same : take (length frame) (drop n bytes) ≡ frame
  pub before : (k : ℕ) → k < n → place_at (drop k bytes) ≡ Passed

before_more : (b : ℕ) (bs : List ℕ) (n k : ℕ) → place_at (b ∷ bs) ≡ Passed → n ≡ suc k → ((j : ℕ) → j < k → place_at (drop j bs) ≡ Passed) → (j : ℕ) → j < n → place_at (drop j (b ∷ bs)) ≡ Passed
before_more b bs n k here e before zero l = here
before_more b bs n k here e before (suc j) l = before j (omega arith)

lies_at : (place : Place) (bytes : List ℕ) (rest : Answer) (n : ℕ) (frame : List ℕ) → place_at bytes ≡ place → ((k : ℕ) → place_at bytes ≡ Passed → rest ≡ gives k frame → 1 + k ≡ n → LiesIn bytes n frame) → answer_at place bytes rest ≡ gives n frame → LiesIn bytes n frame
lies_at Passed bytes waits n frame e further h = absurd (cc)
lies_at Passed bytes exceeds n frame e further h = absurd (cc)
lies_at Passed bytes (gives k other) n frame e further h =
    let count : 1 + k ≡ n = cc in
    let same : other ≡ frame = cc in
    further k e (ap (gives k) same) count
lies_at Unfinished bytes rest n frame e further h = absurd (cc)
lies_at Long bytes rest n frame e further h = absurd (cc)
lies_at (Whole size front) bytes rest n frame e further h =
    let none : 0 ≡ n = cc in
    let same : take size bytes ≡ frame = cc in
    let fits = place_at-fits bytes size front e in
    let large = place_at-large bytes size front e in
    let long : length frame ≡ size = ap length (sym same) ∙ length-take-le size bytes fits in
    record {
      some = omega arith;
      inside = omega arith;
      front = front;
      whole = ap (λ (m : ℕ). place_at (drop m bytes)) (sym none) ∙ e ∙ ap (λ (m : ℕ). Whole m front) (sym long);
      same = ap (λ (m : ℕ). take (length frame) (drop m bytes)) (sym none) ∙ ap (λ (m : ℕ). take m bytes) long ∙ same;
      before = λ k l. absurd (omega arith);
    }

pub lies_in : (bytes : List ℕ) (n : ℕ) (frame : List ℕ) → next_from bytes ≡ gives n frame → LiesIn bytes n frame
lies_in [] n frame h = absurd (cc)
lies_in (b ∷ bs) n frame h =
    lies_at (place_at (b ∷ bs)) (b ∷ bs) (next_from bs) n frame refl (λ k here e c.
    let more = lies_in bs k frame e in
    let next : n ≡ suc k = omega arith in
    let moved : drop n (b ∷ bs) ≡ drop k bs = ap (λ (m : ℕ). drop m (b ∷ bs)) next in
    record {
      some = more.some;
      inside = omega (arith, more.inside);
      front = more.front;
      whole = ap place_at moved ∙ more.whole;
      same = ap (take (length frame)) moved ∙ more.same;
      before = before_more b bs n k here next more.before;
    }) h

-- how far the recursion may go does not matter
same_fuel : (f g : ℕ) (bytes : List ℕ) → length bytes < f → length bytes < g → reading_from f bytes ≡ reading_from g bytes
same_fuel zero g bytes h k = absurd (omega arith)
same_fuel (suc f) zero bytes h k = absurd (omega arith)
same_fuel (suc f) (suc g) bytes h k =
    elim (next_from bytes) as (λ a. (next_from bytes ≡ a) → behind a bytes (reading_from f) ≡ behind a bytes (reading_from g)) [
      | waits ↦ λ _. refl
      | exceeds ↦ λ _. refl
      | gives n frame ↦ λ e.
          let l = lies_in bytes n frame e in
          ap (with_frames (frame ∷ [])) (same_fuel f g (drop (n + length frame) bytes) (omega (arith, l.some, l.inside, length-drop (n + length frame) bytes)) (omega (arith, l.some, l.inside, length-drop (n + length frame) bytes)))
    ] refl

at_answer : (bytes : List ℕ) (a : Answer) → next_from bytes ≡ a → reading_of bytes ≡ behind a bytes reading_of
unfolding reading_of
at_answer bytes waits e = ap (λ (x : Answer). behind x bytes (reading_from (length bytes))) e
at_answer bytes exceeds e = ap (λ (x : Answer). behind x bytes (reading_from (length bytes))) e
at_answer bytes (gives n frame) e =
    let l = lies_in bytes n frame e in
    ap (λ (x : Answer). behind x bytes (reading_from (length bytes))) e
    ∙ ap (with_frames (frame ∷ [])) (same_fuel (length bytes) (suc (length (drop (n + length frame) bytes))) (drop (n + length frame) bytes) (omega (arith, l.some, l.inside, length-drop (n + length frame) bytes)) (omega arith))

moved_on : (n : ℕ) (bytes more : List ℕ) (a : Answer) → n ≤ length bytes → behind (advanced n a) (bytes ++ more) reading_of ≡ behind a (drop n bytes ++ more) reading_of
moved_on n bytes more waits inside = refl
moved_on n bytes more exceeds inside = refl
moved_on n bytes more (gives k frame) inside =
    let count : n + k + length frame ≡ n + (k + length frame) = omega arith in
    let cut : drop (n + k + length frame) (bytes ++ more) ≡ drop (k + length frame) (drop n bytes ++ more) =
    ap (λ (j : ℕ). drop j (bytes ++ more)) count ∙ sym (drop-drop (k + length frame) n (bytes ++ more)) ∙ ap (drop (k + length frame)) (drop-append-le n bytes more inside) in
    ap (λ (r : List ℕ). with_frames (frame ∷ []) (reading_of r)) cut

-- bytes that are passed over change nothing
pub reading-skips : (n : ℕ) (bytes more : List ℕ) → n ≤ length bytes → Skips bytes n → reading_of (bytes ++ more) ≡ reading_of (drop n bytes ++ more)
reading-skips n bytes more inside skips =
    at_answer (bytes ++ more) (advanced n (next_from (drop n bytes ++ more))) (skips more) ∙ moved_on n bytes more (next_from (drop n bytes ++ more)) inside ∙ sym (at_answer (drop n bytes ++ more) (next_from (drop n bytes ++ more)) refl)

-- a frame that was given is the first of the stream, and those behind it are what is kept, whatever follows
pub reading-given : (old new : Stream) (frame more : List ℕ) → HasGiven old new frame → reading_of (old.kept ++ more) ≡ with_frames (frame ∷ []) (reading_of (new.kept ++ more))
reading-given old new frame more h =
    let n = h.0 in
    let goes = h.1 in
    at_answer (old.kept ++ more) (gives n frame) (h.2 more)
    ∙ ap (λ (r : List ℕ). with_frames (frame ∷ []) (reading_of r)) (drop-append-le (n + length frame) old.kept more goes.inside ∙ ap (λ (k : List ℕ). k ++ more) (sym goes.kept))

-- while there is no frame, what is kept has the same frames, whatever follows
pub reading-waited : (old new : Stream) (more : List ℕ) → HasWaited old new → reading_of (old.kept ++ more) ≡ reading_of (new.kept ++ more)
reading-waited old new more h =
    reading-skips h.0 old.kept more h.1.inside h.2 ∙ ap (λ (k : List ℕ). reading_of (k ++ more)) (sym h.1.kept)

pub reading-none : (old new : Stream) → HasWaited old new → reading_of old.kept ≡ none_yet
reading-none old new h = at_answer old.kept waits h.3

pub reading-exceeded : (old new : Stream) (more : List ℕ) → HasExceeded old new → reading_of (old.kept ++ more) ≡ only_too_long
reading-exceeded old new more h = at_answer (old.kept ++ more) exceeds (h.2 more)

-- and so it is of the bytes that are kept then
pub reading-exceeded_on : (old new : Stream) (more : List ℕ) → HasExceeded old new → reading_of (new.kept ++ more) ≡ only_too_long
reading-exceeded_on old new more h = at_answer (new.kept ++ more) exceeds (h.3 more)

-- a frame that was given leaves fewer bytes
pub given_shorter : (old new : Stream) (frame : List ℕ) → HasGiven old new frame → length new.kept < length old.kept
given_shorter old new frame h =
    let l = lies_in (old.kept ++ []) h.0 frame (h.2 []) in
    omega (arith, l.some, h.1.inside, ap length h.1.kept, length-drop (h.0 + length frame) old.kept)
