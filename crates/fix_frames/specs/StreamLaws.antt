-- How the answer moves along a stream.
use Rattle.std.proofs.Common.{◌≡◌, ℕ, ◌+◌, ◌<◌, ◌≤◌, List, [], ◌∷◌, ◌++◌, length, take, drop, refl, sym, ◌∙◌, ap, arith, true, false, cond, nat_eq, length-drop, length-take}
use lib.Pointwise.{pointwise_long}
use Rattle.std.proofs.lemmas.List.{take-append-le, drop-drop, append-nil}
use Rattle.fix_frames.specs.declared.place.Place.{Place}
use Rattle.fix_frames.specs.declared.place.Place.TheVariants.{Passed, Unfinished, Long, Whole}
use Rattle.fix_frames.specs.Places.{place_at, begins, begin_string, judged, body_length}
use Rattle.fix_frames.specs.PlaceLaws.{place_at-more, place_at-fits}
use Rattle.fix_frames.specs.Streams.{Answer, waits, exceeds, gives, advanced, answer_at, next_from, Skips}
use Rattle.fix_frames.specs.Search.{IsFound, EndsWithin}

advanced-advanced : (n k : ℕ) (a : Answer) → advanced n (advanced k a) ≡ advanced (n + k) a
advanced-advanced n k waits = refl
advanced-advanced n k exceeds = refl
advanced-advanced n k (gives j frame) = let e : n + (k + j) ≡ n + k + j = omega arith in ap (λ (m : ℕ). gives m frame) e

advanced-zero : (a : Answer) → advanced 0 a ≡ a
advanced-zero waits = refl
advanced-zero exceeds = refl
advanced-zero (gives j frame) = let e : 0 + j ≡ j = omega arith in ap (λ (m : ℕ). gives m frame) e

pub skips_none : (bytes : List ℕ) → Skips bytes 0
skips_none bytes more = sym (advanced-zero _)

-- the answer at a decided place
at_place : (bytes more : List ℕ) (place : Place) → 11 ≤ length bytes → place_at bytes ≡ place → (place ≡ Unfinished → ⊥) → next_from (bytes ++ more) ≡ answer_at place (bytes ++ more) (next_from (drop 1 bytes ++ more))
at_place [] more place long e known = absurd (omega arith)
at_place (b ∷ bs) more place long e known =
    let same : place_at (b ∷ (bs ++ more)) ≡ place = place_at-more (b ∷ bs) more long (λ u. known (sym e ∙ u)) ∙ e in
    ap (λ (p : Place). answer_at p (b ∷ (bs ++ more)) (next_from (bs ++ more))) same

-- one more place is passed over
pub skips_more : (bytes : List ℕ) (at : ℕ) → at + 11 ≤ length bytes → Skips bytes at → place_at (drop at bytes) ≡ Passed → Skips bytes (at + 1)
skips_more bytes at long before e more =
    let known : Passed ≡ Unfinished → ⊥ = λ u. cc in
    let here = at_place (drop at bytes) more Passed (omega (arith, length-drop at bytes)) e known in
    let next : drop 1 (drop at bytes) ≡ drop (at + 1) bytes = drop-drop 1 at bytes in
    before more ∙ ap (λ (a : Answer). advanced at a) (here ∙ ap (λ (r : List ℕ). advanced 1 (next_from (r ++ more))) next) ∙ advanced-advanced at 1 _

-- fewer bytes than BeginString has begin no frame
place_at-few : (bytes : List ℕ) → length bytes < 11 → place_at bytes ≡ Passed
unfolding place_at
place_at-few bytes h =
    elim (begins bytes) as (λ t. (begins bytes ≡ t) → cond t (judged (body_length (drop 11 bytes)) bytes) Passed ≡ Passed) [
      | true ↦ λ e. absurd (omega (arith, pointwise_long nat_eq begin_string (take 11 bytes) e, length-take 11 bytes))
      | false ↦ λ _. refl
    ] refl

pub next_from-few : (bytes : List ℕ) → length bytes < 11 → next_from bytes ≡ waits
next_from-few [] h = refl
next_from-few (b ∷ bs) h =
    ap (λ (p : Place). answer_at p (b ∷ bs) (next_from bs)) (place_at-few (b ∷ bs) h) ∙ ap (advanced 1) (next_from-few bs (omega arith))

-- a frame that was found is the next, whatever follows
pub next_from-whole : (bytes more : List ℕ) (at n front : ℕ) → Skips bytes at → IsFound (drop at bytes) (Whole n front) → next_from (bytes ++ more) ≡ gives at (take n (drop at bytes))
next_from-whole bytes more at n front skips found =
    let known : Whole n front ≡ Unfinished → ⊥ = λ u. cc in
    let here = at_place (drop at bytes) more (Whole n front) found.0 found.1 known in
    let whole : take n (drop at bytes ++ more) ≡ take n (drop at bytes) = take-append-le n (drop at bytes) more (place_at-fits (drop at bytes) n front found.1) in
    let none : at + 0 ≡ at = omega arith in
    skips more ∙ ap (advanced at) (here ∙ ap (gives 0) whole) ∙ ap (λ (k : ℕ). gives k (take n (drop at bytes))) none

pub next_from-long : (bytes more : List ℕ) (at : ℕ) → Skips bytes at → IsFound (drop at bytes) Long → next_from (bytes ++ more) ≡ exceeds
next_from-long bytes more at skips found =
    let known : Long ≡ Unfinished → ⊥ = λ u. cc in
    skips more ∙ ap (advanced at) (at_place (drop at bytes) more Long found.0 found.1 known)

pub next_from-long_on : (bytes more : List ℕ) → IsFound bytes Long → next_from (bytes ++ more) ≡ exceeds
next_from-long_on bytes more found = next_from-long bytes more 0 (skips_none bytes) found

waits_here : (bytes : List ℕ) → place_at bytes ≡ Unfinished → next_from bytes ≡ waits
waits_here [] e = refl
waits_here (b ∷ bs) e = ap (λ (p : Place). answer_at p (b ∷ bs) (next_from bs)) e

waits_from : (bytes : List ℕ) (at : ℕ) → Skips bytes at → next_from (drop at bytes) ≡ waits → next_from bytes ≡ waits
waits_from bytes at skips e =
    let front : next_from bytes ≡ next_from (bytes ++ []) = ap next_from (sym (append-nil bytes)) in
    front ∙ skips [] ∙ ap (λ (r : List ℕ). advanced at (next_from r)) (append-nil (drop at bytes)) ∙ ap (advanced at) e

pub next_from-unfinished : (bytes : List ℕ) (at : ℕ) → Skips bytes at → IsFound (drop at bytes) Unfinished → next_from bytes ≡ waits
next_from-unfinished bytes at skips found = waits_from bytes at skips (waits_here (drop at bytes) found.1)

pub next_from-few_left : (bytes : List ℕ) (at : ℕ) → Skips bytes at → IsFound (drop at bytes) Passed → next_from bytes ≡ waits
next_from-few_left bytes at skips found = waits_from bytes at skips (next_from-few (drop at bytes) found)

pub ends_within : (bytes : List ℕ) (at : ℕ) (place : Place) → at ≤ length bytes → place_at (drop at bytes) ≡ place → EndsWithin (length bytes) at place
ends_within bytes at Passed inside e = tt
ends_within bytes at Unfinished inside e = tt
ends_within bytes at Long inside e = tt
ends_within bytes at (Whole size front) inside e = omega (arith, place_at-fits (drop at bytes) size front e, length-drop at bytes)

pub found_here : (bytes : List ℕ) (place : Place) → 11 ≤ length bytes → place_at bytes ≡ place → (place ≡ Passed → ⊥) → IsFound bytes place
found_here bytes Passed long e other = absurd (other refl)
found_here bytes Unfinished long e other = (long, e)
found_here bytes Long long e other = (long, e)
found_here bytes (Whole size front) long e other = (long, e)
