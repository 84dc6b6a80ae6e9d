-- What a step of the framer says of the stream.
use Rattle.std.proofs.Common.{◌≡◌, ℕ, ◌+◌, ◌-◌, ◌≤◌, List, ◌++◌, length, take, drop, sym, ◌∙◌, ap, subst, arith, length-drop, length-take, ◌⊎◌, inl, inr}
use Rattle.std.proofs.lemmas.List.{take_rest, drop-drop, length-take-le}
use Rattle.venue_words.specs.declared.limits.TheConstants.{MAX_FRAME_BYTES}
use Rattle.fix_fields.specs.Content.{IsFront}
use Rattle.fix_frames.specs.declared.place.Place.{Place}
use Rattle.fix_frames.specs.declared.place.Place.TheVariants.{Passed, Unfinished, Long, Whole}
use Rattle.fix_frames.specs.FoundLaws.{whole_found}
use Rattle.fix_frames.specs.PlaceLaws.{place_at-short}
use Rattle.fix_frames.specs.Streams.{Stream, gives, HasGiven, HasWaited, HasExceeded, next_from, Skips}
use Rattle.fix_frames.specs.Search.{IsFound, EndsWithin}
use Rattle.fix_frames.specs.StreamLaws.{next_from-whole, next_from-long, next_from-long_on, next_from-unfinished, next_from-few_left}

-- the slice that is searched holds the bytes kept
pub kept_is : (slice items : List ℕ) (start : ℕ) (view old : Stream) → slice ≡ items → view ≡ old → view.kept ≡ drop start items → take (length slice - start) (drop start slice) ≡ old.kept
kept_is slice items start view old e v k = take_rest slice start ∙ ap (drop start) e ∙ sym k ∙ ap (λ (s : Stream). s.kept) v

-- what was found, in the words of the stream
pub record HasFound (kept : List ℕ) (at : ℕ) (place : Place) : Type 0 where
  pub inside : at ≤ length kept
  pub skips : Skips kept at
  pub found : IsFound (drop at kept) place
  pub fits : EndsWithin (length kept) at place

pub moved : (slice kept : List ℕ) (at : ℕ) (place : Place) (other : Place) → slice ≡ kept → place ≡ other → at ≤ length slice → Skips slice at → IsFound (drop at slice) place → EndsWithin (length slice) at place → HasFound kept at other
moved slice kept at place other e p inside skips found fits =
    let whole : HasFound slice at place = record { inside = inside; skips = skips; found = found; fits = fits } in
    subst (λ (k : List ℕ). HasFound k at other) e (subst (λ (q : Place). HasFound slice at q) p whole)

pub given : (old new : Stream) (frame : List ℕ) (at size front : ℕ) → HasFound old.kept at (Whole size front) → new.passed ≡ old.passed + (at + size) → new.kept ≡ drop (at + size) old.kept → new.held ≡ old.held → frame ≡ take size (drop at old.kept) → HasGiven old new frame
given old new frame at size front f passed kept held e =
    let all : length frame ≡ size = ap length e ∙ length-take-le size (drop at old.kept) (omega (arith, f.fits, length-drop at old.kept)) in
    let size_is : at + size ≡ at + length frame = omega arith in (
      at,
      record { passed = passed ∙ ap (λ (n : ℕ). old.passed + n) size_is; kept = kept ∙ ap (λ (n : ℕ). drop n old.kept) size_is; inside = omega (arith, f.fits); held = held },
      λ more. next_from-whole old.kept more at size front f.skips f.found ∙ ap (gives at) (sym e),
    )

pub exceeded : (old new : Stream) (at : ℕ) → HasFound old.kept at Long → new.passed ≡ old.passed + at → new.kept ≡ drop at old.kept → new.held ≡ old.held → HasExceeded old new
exceeded old new at f passed kept held = (
  at,
  record { passed = passed; kept = kept; inside = f.inside; held = held },
  λ more. next_from-long old.kept more at f.skips f.found,
  λ more. ap (λ (k : List ℕ). next_from (k ++ more)) kept ∙ next_from-long_on (drop at old.kept) more f.found,
)

pub waited : (old new : Stream) (at : ℕ) → HasFound old.kept at Passed ⊎ HasFound old.kept at Unfinished → new.passed ≡ old.passed + at → new.kept ≡ drop at old.kept → new.held ≡ old.held → HasWaited old new
waited old new at (inl f) passed kept held =
    (at, record { passed = passed; kept = kept; inside = f.inside; held = held }, f.skips, next_from-few_left old.kept at f.skips f.found, omega (arith, f.found, ap length kept))
waited old new at (inr f) passed kept held =
    (at, record { passed = passed; kept = kept; inside = f.inside; held = held }, f.skips, next_from-unfinished old.kept at f.skips f.found, omega (arith, place_at-short (drop at old.kept) f.found.1, ap length kept))

-- two cuts from the front are one
pub cut_twice : (items : List ℕ) (start n m : ℕ) (view old : Stream) → view ≡ old → view.kept ≡ drop start items → m ≡ start + n → drop m items ≡ drop n old.kept
cut_twice items start n m view old v k e = ap (λ (j : ℕ). drop j items) e ∙ sym (drop-drop n start items) ∙ ap (drop n) (sym k ∙ ap (λ (s : Stream). s.kept) v)

pub passed_on : (passed n : ℕ) (view old : Stream) → view ≡ old → view.passed ≡ passed → passed + n ≡ old.passed + n
passed_on passed n view old v e = ap (λ (j : ℕ). j + n) (sym e ∙ ap (λ (s : Stream). s.passed) v)

pub held_on : (many : ℕ) (view old : Stream) → view ≡ old → view.held ≡ many → many ≡ old.held
held_on many view old v e = sym e ∙ ap (λ (s : Stream). s.held) v

pub frame_is : (slice items : List ℕ) (start at size begin many : ℕ) (view old : Stream) → slice ≡ items → view ≡ old → view.kept ≡ drop start items → begin ≡ start + at → many ≡ size → take many (drop begin slice) ≡ take size (drop at old.kept)
frame_is slice items start at size begin many view old s v k b m =
    ap (λ (j : ℕ). take j (drop begin slice)) m ∙ ap (λ (r : List ℕ). take size (drop begin r)) s ∙ ap (take size) (cut_twice items start at begin view old v k b)

-- the content of the frame that is cut out begins where it was found to begin
pub found_content : (kept cut : List ℕ) (at size front : ℕ) → HasFound kept at (Whole size front) → cut ≡ take size (drop at kept) → (length cut ≤ MAX_FRAME_BYTES) × IsFront cut front
found_content kept cut at size front f e =
    let w = whole_found (drop at kept) size front f.found.1 in
    (omega (arith, w.1, length-take size (drop at kept), ap length e), subst (λ (c : List ℕ). IsFront c front) (sym e) w.2)
