-- A feed's file as it is read, and what is kept of it at its end.
use Rattle.std.proofs.Common.{◌≡◌, ℕ, ◌+◌, ◌<◌, ◌≤◌, Bool, true, false, nat_lt, List, [], ◌∷◌, ◌++◌, length, Option, None, Some, IfSome, refl, sym, ◌∙◌, ap, subst, append-nil, append_assoc, length-append, arith}
use Rattle.std.proofs.lemmas.Bool.Decides.{nat_tests}
use Rattle.venue_words.specs.declared.limits.TheConstants.{MAX_CONFIG_BYTES, MAX_LINE_BYTES}
use Rattle.script_text.specs.Lines.{has_end}
use Rattle.line_reader.specs.Reading.{Reading}
use Rattle.line_reader.specs.NextLines.{HandsOut}
use Rattle.line_reader.specs.NextLaws.{LongFront, line_ahead}
use Rattle.feeds_core.specs.FeedTexts.{Keeps, bytes_behind, end_fault}
use Rattle.feeds_core.specs.Reading.{AreWholeLines, KeepsFront}
use Rattle.feeds_core.specs.declared.feed_text.FeedText.{FeedText}
use Rattle.feeds_core.specs.declared.feed_text.FeedEnd.{FeedEnd}
use Rattle.feeds_core.specs.declared.feed_text.FeedEnd.TheVariants.{Whole, Unended, TooLong, Over}
use Rattle.feeds_core.proofs.Keeping.{no_lines, same_fault, over_fault, end_whole, end_unended, end_long}

pub if_told : (left : Option (List ℕ)) (P : List ℕ → Type 0) → ((text : List ℕ) → left ≡ Some text → P text) → IfSome left P
if_told None P h = tt
if_told (Some text) P h = h text refl

-- before the first line
pub front_first : (left : Option (List ℕ)) (held lines : List ℕ) → held ≡ [] → lines ≡ [] → (text : List ℕ) → left ≡ Some text
    → KeepsFront text lines held left
front_first left held lines e f text g = rw (e, f, g) (record { more = text; behind = refl; text_is = refl })

pub whole_none : (lines : List ℕ) → lines ≡ [] → AreWholeLines lines
whole_none lines e = subst AreWholeLines (sym e) no_lines

-- one more line
pub front_more : (old new : Reading) (before left : Option (List ℕ)) (line : List ℕ) (is_over : Bool) (lines text next : List ℕ)
    → KeepsFront text lines old.held before → HandsOut old new before left line is_over → next ≡ lines ++ (line ++ 10 ∷ [])
    → KeepsFront text next new.held left
front_more old new before left line is_over lines text next x h e =
    let m = line_ahead old new before left line is_over x.more h x.behind in record {
      more = m.0;
      behind = m.1;
      text_is = x.text_is ∙ ap (λ (t : List ℕ). lines ++ t) (m.2 ∙ sym (append_assoc line (10 ∷ []) m.0))
          ∙ sym (append_assoc lines (line ++ 10 ∷ []) m.0) ∙ ap (λ (t : List ℕ). t ++ m.0) (sym e);
    }

pub line_bytes : (already bytes bytes' : ℕ) (lines line next : List ℕ) → next ≡ lines ++ (line ++ 10 ∷ [])
    → bytes' ≡ bytes + length line + 1 → bytes ≡ already + length lines → bytes' ≡ already + length next
line_bytes already bytes bytes' lines line next e f g =
    let long : length next ≡ length lines + (length line + 1) =
    ap (length {A = ℕ}) e ∙ length-append lines (line ++ 10 ∷ []) ∙ ap (λ (n : ℕ). length lines + n) (length-append line (10 ∷ [])) in
    omega arith

pub line_within : (old new : Reading) (before left : Option (List ℕ)) (line : List ℕ) (is_over : Bool) → HandsOut old new before left line is_over
    → is_over ≡ false → new.bytes ≤ new.most
line_within old new before left line is_over h inside =
    let most = ap (λ (r : Reading). r.most) h.next in
    let test : nat_lt old.most new.bytes ≡ false = sym h.over ∙ inside in
    let within : new.bytes ≤ old.most = grind (arith, nat_tests) in
    omega (arith, within, most)

pub line_past : (old new : Reading) (before left : Option (List ℕ)) (line : List ℕ) (is_over : Bool) → HandsOut old new before left line is_over
    → is_over ≡ true → old.most < new.bytes
line_past old new before left line is_over h past =
    let test : nat_lt old.most new.bytes ≡ true = sym h.over ∙ past in grind (arith, nat_tests)

-- ---- ends

pub kept_whole : (already : ℕ) (text lines more : List ℕ) (kept : FeedText) → kept.already ≡ already → kept.lines.items ≡ lines
    → kept.end ≡ Whole → AreWholeLines lines → text ≡ lines ++ more → more ≡ [] → already + length lines ≤ MAX_CONFIG_BYTES
    → Keeps already text kept
kept_whole already text lines more kept a l e x t none within =
    let all : text ≡ lines = t ∙ ap (λ (m : List ℕ). lines ++ m) none ∙ append-nil lines in
    let size : length kept.lines.items ≡ length text = ap (length {A = ℕ}) (l ∙ sym all) in
    let long : length text ≡ length lines = ap (length {A = ℕ}) all in
    record {
      already_is = a;
      fault = λ config taken. same_fault config taken already text lines more kept a l t x
          (λ k bytes. ap (λ (end : FeedEnd). end_fault end k) e ∙ end_whole config taken more k bytes none);
      whole = λ _. (all ∙ sym l, omega arith);
    }

other_end : (already : ℕ) (text : List ℕ) (kept : FeedText) (end : FeedEnd) → kept.end ≡ end → (end ≡ Whole → ⊥)
    → kept.end ≡ Whole → (text ≡ kept.lines.items) × (bytes_behind kept ≡ already + length text)
other_end already text kept end e other w = absurd (other (sym e ∙ w))

pub kept_unended : (already : ℕ) (text lines more : List ℕ) (kept : FeedText) → kept.already ≡ already → kept.lines.items ≡ lines
    → kept.end ≡ Unended → AreWholeLines lines → text ≡ lines ++ more → has_end more ≡ false → 0 < length more
    → length more ≤ MAX_LINE_BYTES → Keeps already text kept
kept_unended already text lines more kept a l e x t clear some short = record {
  already_is = a;
  fault = λ config taken. same_fault config taken already text lines more kept a l t x
      (λ k bytes. ap (λ (end : FeedEnd). end_fault end k) e ∙ end_unended config taken more k bytes clear some short);
  whole = other_end already text kept Unended e (λ same. cc);
}

pub kept_long : (already : ℕ) (text lines more : List ℕ) (kept : FeedText) → kept.already ≡ already → kept.lines.items ≡ lines
    → kept.end ≡ TooLong → AreWholeLines lines → text ≡ lines ++ more → LongFront more → Keeps already text kept
kept_long already text lines more kept a l e x t long = record {
  already_is = a;
  fault = λ config taken. same_fault config taken already text lines more kept a l t x
      (λ k bytes. ap (λ (end : FeedEnd). end_fault end k) e ∙ end_long config taken more k bytes long);
  whole = other_end already text kept TooLong e (λ same. cc);
}

pub kept_over : (already : ℕ) (text lines next line more : List ℕ) (kept : FeedText) → kept.already ≡ already → kept.lines.items ≡ next
    → kept.end ≡ Over → next ≡ lines ++ (line ++ 10 ∷ []) → text ≡ next ++ more → has_end line ≡ false → AreWholeLines lines
    → MAX_CONFIG_BYTES < already + length lines + length line + 1 → Keeps already text kept
kept_over already text lines next line more kept a l e n t clear x past = record {
  already_is = a;
  fault = λ config taken. over_fault config taken already text lines next line more kept a l n t clear x past;
  whole = other_end already text kept Over e (λ same. cc);
}
