-- What is kept of a feed's file stands for the whole of it.
use Rattle.std.proofs.Common.{◌≡◌, ℕ, ◌+◌, ◌<◌, ◌≤◌, Bool, true, false, nat_lt, List, [], ◌∷◌, ◌++◌, length, Option, Some, Result, Err, refl, sym, ◌∙◌, ap, append_assoc, length-append, arith}
use Rattle.std.proofs.lemmas.Bool.Decides.{nat_tests}
use Rattle.venue_words.specs.declared.limits.TheConstants.{MAX_CONFIG_BYTES, MAX_LINE_BYTES}
use Rattle.venue_words.specs.declared.config.Config.{Config}
use Rattle.script_text.specs.Body.{read_of}
use Rattle.script_text.specs.Lines.{Cut, cut, has_end}
use Rattle.script_text.specs.LinesLaws.{cut_first, cut_joined, cut_whole, joined}
use Rattle.script_text.specs.declared.body.Line.{Line as said}
use Rattle.script_text.specs.declared.fault.LineFault.{LineFault}
use Rattle.script_text.specs.declared.fault.LineFault.TheVariants.{Bad, Limit}
use Rattle.script_text.specs.declared.fault.LineCause.TheVariants.{NoEnd}
use Rattle.script_text.specs.declared.fault.LimitCause.TheVariants.{Line}
use Rattle.line_reader.specs.NextLaws.{LongFront}
use Rattle.feeds_core.specs.FeedLines.{fault_of, or_else, lines_fault, rest_fault, feed_fault}
use Rattle.feeds_core.specs.FeedTexts.{kept_fault, end_fault}
use Rattle.feeds_core.specs.Reading.{AreWholeLines, size_of}
use Rattle.feeds_core.specs.declared.feed_text.FeedText.{FeedText}
use Rattle.feeds_core.specs.declared.feed_text.FeedEnd.TheVariants.{Whole, Unended, TooLong}
use Rattle.feeds_core.proofs.LineFaults.{size_more, ends_alike, lines_append, line_none, stops_over}

-- ---- whole lines

pub no_lines : AreWholeLines []
unfolding cut
no_lines = record { rest = λ more. refl; front = λ more. refl; size = refl }

one_behind : (line more : List ℕ) → has_end line ≡ false → (cut (line ++ 10 ∷ more)).lines ≡ line ∷ (cut more).lines
one_behind line more clear = ap (λ (c : Cut). c.lines) (cut_first line more clear)

pub line_alone : (line : List ℕ) → has_end line ≡ false → (cut (line ++ 10 ∷ [])).lines ≡ line ∷ []
unfolding cut
line_alone line clear = one_behind line [] clear

pub lines_more : (lines next line : List ℕ) → next ≡ lines ++ (line ++ 10 ∷ []) → has_end line ≡ false → AreWholeLines lines → AreWholeLines next
lines_more lines next line e clear x =
    let spread : (more : List ℕ) → next ++ more ≡ lines ++ (line ++ 10 ∷ more) = λ more.
    ap (λ (t : List ℕ). t ++ more) e ∙ append_assoc lines (line ++ 10 ∷ []) more ∙ ap (λ (t : List ℕ). lines ++ t) (append_assoc line (10 ∷ []) more) in
    let all : (cut next).lines ≡ (cut lines).lines ++ line ∷ [] =
    ap (λ (t : List ℕ). (cut t).lines) e ∙ x.front (line ++ 10 ∷ []) ∙ ap (λ (ls : List (List ℕ)). (cut lines).lines ++ ls) (line_alone line clear) in
    let long : length next ≡ length lines + length line + 1 =
    ap (length {A = ℕ}) e ∙ length-append lines (line ++ 10 ∷ []) ∙ ap (λ (n : ℕ). length lines + n) (length-append line (10 ∷ [])) ∙ omega arith in
    let size : size_of (cut next).lines ≡ size_of (cut lines).lines + length line + 1 =
    ap (λ (ls : List (List ℕ)). size_of ls) all ∙ size_more (cut lines).lines line in
    record {
      rest = λ more. ap (λ (t : List ℕ). (cut t).rest) (spread more) ∙ x.rest (line ++ 10 ∷ more)
          ∙ ap (λ (c : Cut). c.rest) (cut_first line more clear);
      front = λ more. ap (λ (t : List ℕ). (cut t).lines) (spread more) ∙ x.front (line ++ 10 ∷ more)
          ∙ ap (λ (ls : List (List ℕ)). (cut lines).lines ++ ls) (one_behind line more clear)
          ∙ sym (append_assoc (cut lines).lines (line ∷ []) (cut more).lines)
          ∙ ap (λ (ls : List (List ℕ)). ls ++ (cut more).lines) (sym all);
      size = omega (arith, size, x.size, long);
    }

-- ---- the file's end behind whole lines

-- the file behind whole lines
text_fault : (config : Config) (taken : ℕ → Bool) (already : ℕ) (lines more : List ℕ) → AreWholeLines lines
    → feed_fault config taken already (lines ++ more)
    ≡ lines_fault config taken 0 already (cut lines).lines
    (λ k. lines_fault config taken k (already + length lines) (cut more).lines (rest_fault (cut more).rest))
unfolding feed_fault
text_fault config taken already lines more x =
    let at : (k : ℕ) → lines_fault config taken k (already + size_of (cut lines).lines) (cut more).lines (rest_fault (cut more).rest)
    ≡ lines_fault config taken k (already + length lines) (cut more).lines (rest_fault (cut more).rest) = λ k.
    ap (λ (n : ℕ). lines_fault config taken k (already + n) (cut more).lines (rest_fault (cut more).rest)) x.size in
    ap (λ (ls : List (List ℕ)). lines_fault config taken 0 already ls (rest_fault (cut (lines ++ more)).rest)) (x.front more)
    ∙ ap (λ (r : List ℕ). lines_fault config taken 0 already ((cut lines).lines ++ (cut more).lines) (rest_fault r)) (x.rest more)
    ∙ lines_append config taken 0 already (cut lines).lines (cut more).lines (rest_fault (cut more).rest)
    ∙ ends_alike config taken 0 already (cut lines).lines _ _ at

-- what stands behind the whole lines is refused as their end says
pub same_fault : (config : Config) (taken : ℕ → Bool) (already : ℕ) (text lines more : List ℕ) (kept : FeedText)
    → kept.already ≡ already → kept.lines.items ≡ lines → text ≡ lines ++ more → AreWholeLines lines
    → ((k bytes : ℕ) → end_fault kept.end k ≡ lines_fault config taken k bytes (cut more).lines (rest_fault (cut more).rest))
    → kept_fault config taken kept ≡ feed_fault config taken already text
unfolding kept_fault
same_fault config taken already text lines more kept a l t x ends =
    ap (λ (n : ℕ). lines_fault config taken 0 n (cut kept.lines.items).lines (end_fault kept.end)) a
    ∙ ap (λ (ls : List ℕ). lines_fault config taken 0 already (cut ls).lines (end_fault kept.end)) l
    ∙ ends_alike config taken 0 already (cut lines).lines (end_fault kept.end) _ (λ k. ends k (already + length lines))
    ∙ sym (text_fault config taken already lines more x)
    ∙ ap (feed_fault config taken already) (sym t)

-- nothing
pub end_whole : (config : Config) (taken : ℕ → Bool) (more : List ℕ) (k bytes : ℕ) → more ≡ []
    → end_fault Whole k ≡ lines_fault config taken k bytes (cut more).lines (rest_fault (cut more).rest)
unfolding cut lines_fault
end_whole config taken more k bytes e = rw e refl

short_end : (b n : ℕ) (rest : List ℕ) → length (b ∷ rest) ≤ MAX_LINE_BYTES → Some (Bad (n + 1) NoEnd) ≡ rest_fault (b ∷ rest) n
short_end b n rest l =
    let e : nat_lt MAX_LINE_BYTES (length (b ∷ rest)) ≡ false = grind (arith, nat_tests) in rw e refl

rest_short : (config : Config) (taken : ℕ → Bool) (rest : List ℕ) (k bytes : ℕ) → 0 < length rest → length rest ≤ MAX_LINE_BYTES
    → end_fault Unended k ≡ rest_fault rest k
rest_short config taken [] k bytes some l = absurd (omega arith)
rest_short config taken (b ∷ rest) k bytes some l = short_end b k rest l

-- a line without an end
pub end_unended : (config : Config) (taken : ℕ → Bool) (more : List ℕ) (k bytes : ℕ) → has_end more ≡ false → 0 < length more
    → length more ≤ MAX_LINE_BYTES
    → end_fault Unended k ≡ lines_fault config taken k bytes (cut more).lines (rest_fault (cut more).rest)
end_unended config taken more k bytes clear some short =
    rest_short config taken more k bytes some short
    ∙ sym (line_none config taken k bytes (rest_fault more))
    ∙ sym (ap (λ (c : Cut). lines_fault config taken k bytes c.lines (rest_fault c.rest)) (cut_whole more clear))

-- ---- a line that is too long

long_line : (taken : ℕ → Bool) (n bytes : ℕ) (b : Bool) (next : Option LineFault) → nat_lt MAX_CONFIG_BYTES bytes ≡ b
    → or_else (fault_of taken n bytes (Err (Limit 1 Line))) next ≡ Some (Limit n Line)
long_line taken n bytes true next e = rw e refl
long_line taken n bytes false next e = rw e refl

read_long : (config : Config) (front line : List ℕ) → MAX_LINE_BYTES < length front → read_of config (front ++ line) ≡ Err (Limit 1 Line)
unfolding read_of
read_long config front line l =
    let size = length-append front line in
    let e : nat_lt MAX_LINE_BYTES (length (front ++ line)) ≡ true = grind (arith, nat_tests) in rw e refl

rest_long : (front rest : List ℕ) (n : ℕ) → MAX_LINE_BYTES < length front → Some (Limit (n + 1) Line) ≡ rest_fault (front ++ rest) n
rest_long [] rest n l = absurd (omega arith)
rest_long (b ∷ front) rest n l =
    let size = length-append (b ∷ front) rest in
    let e : nat_lt MAX_LINE_BYTES (length (b ∷ (front ++ rest))) ≡ true = grind (arith, nat_tests) in rw e refl

long_front : (config : Config) (taken : ℕ → Bool) (k bytes : ℕ) (front : List ℕ) (lines : List (List ℕ)) (rest : List ℕ)
    → MAX_LINE_BYTES < length front
    → end_fault TooLong k ≡ lines_fault config taken k bytes (joined front lines rest).lines (rest_fault (joined front lines rest).rest)
unfolding joined lines_fault
long_front config taken k bytes front [] rest l = rest_long front rest k l
long_front config taken k bytes front (line ∷ lines) rest l =
    let end = bytes + length (front ++ line) + 1 in
    let next = lines_fault config taken (k + 1) end lines (rest_fault rest) in
    sym (ap (λ (r : Result said LineFault). or_else (fault_of taken (k + 1) end r) next) (read_long config front line l)
    ∙ long_line taken (k + 1) end (nat_lt MAX_CONFIG_BYTES end) next refl)

pub end_long : (config : Config) (taken : ℕ → Bool) (more : List ℕ) (k bytes : ℕ) → LongFront more
    → end_fault TooLong k ≡ lines_fault config taken k bytes (cut more).lines (rest_fault (cut more).rest)
end_long config taken more k bytes x =
    long_front config taken k bytes x.front (cut x.behind).lines (cut x.behind).rest x.long
    ∙ sym (ap (λ (c : Cut). lines_fault config taken k bytes c.lines (rest_fault c.rest)) (ap cut x.whole ∙ cut_joined x.front x.behind x.clear))

-- ---- a line that passes the limit

pub over_fault : (config : Config) (taken : ℕ → Bool) (already : ℕ) (text lines next line more : List ℕ) (kept : FeedText)
    → kept.already ≡ already → kept.lines.items ≡ next → next ≡ lines ++ (line ++ 10 ∷ []) → text ≡ next ++ more
    → has_end line ≡ false → AreWholeLines lines → MAX_CONFIG_BYTES < already + length lines + length line + 1
    → kept_fault config taken kept ≡ feed_fault config taken already text
unfolding kept_fault feed_fault
over_fault config taken already text lines next line more kept a l e t clear x over =
    let whole = lines_more lines next line e clear x in
    let all : (cut next).lines ≡ (cut lines).lines ++ line ∷ [] =
    ap (λ (t : List ℕ). (cut t).lines) e ∙ x.front (line ++ 10 ∷ []) ∙ ap (λ (ls : List (List ℕ)). (cut lines).lines ++ ls) (line_alone line clear) in
    let more_all : (cut (next ++ more)).lines ≡ (cut lines).lines ++ line ∷ (cut more).lines =
    whole.front more ∙ ap (λ (ls : List (List ℕ)). ls ++ (cut more).lines) all ∙ append_assoc (cut lines).lines (line ∷ []) (cut more).lines in
    let past : MAX_CONFIG_BYTES < already + size_of (cut lines).lines + length line + 1 = omega (arith, x.size, over) in
    ap (λ (n : ℕ). lines_fault config taken 0 n (cut kept.lines.items).lines (end_fault kept.end)) a
    ∙ ap (λ (ls : List ℕ). lines_fault config taken 0 already (cut ls).lines (end_fault kept.end)) l
    ∙ ap (λ (ls : List (List ℕ)). lines_fault config taken 0 already ls (end_fault kept.end)) all
    ∙ stops_over config taken 0 already (cut lines).lines line [] (cut more).lines (end_fault kept.end) (rest_fault (cut text).rest) past
    ∙ ap (λ (ls : List (List ℕ)). lines_fault config taken 0 already ls (rest_fault (cut text).rest)) (sym more_all)
    ∙ ap (λ (s : List ℕ). lines_fault config taken 0 already (cut s).lines (rest_fault (cut text).rest)) (sym t)
