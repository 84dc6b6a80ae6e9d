-- What a config file says, line by line.
use Rattle.std.proofs.Common.{◌≡◌, ℕ, ◌+◌, ◌<◌, ◌≤◌, ◌⊎◌, Bool, true, false, List, [], ◌∷◌, ◌++◌, length, Result, Ok, Err, refl, ap, ◌∙◌, inl, inr, arith, nat_lt, cond, length-append}
use Rattle.std.proofs.lemmas.Bool.Decides.{nat_tests}
use Rattle.venue_words.specs.declared.config.Config.{Config}
use Rattle.venue_words.specs.declared.limits.TheConstants.{MAX_LINE_BYTES}
use Rattle.script_text.specs.Header.{Step, header_line, with_header}
use Rattle.script_text.specs.Lines.{cut, has_end}
use Rattle.script_text.specs.LinesLaws.{cut_first, cut_whole, joined}
use Rattle.script_text.specs.Meets.{Meets}
use Rattle.script_text.specs.declared.header.Header.{Header}
use Rattle.script_text.specs.declared.fault.LineFault.{LineFault}
use Rattle.script_text.specs.declared.fault.LineFault.TheVariants.{Bad, Limit, NoMemory}
use Rattle.script_text.specs.declared.fault.LineCause.TheVariants.{NoEnd, BadHeader}
use Rattle.script_text.specs.declared.fault.LimitCause.TheVariants.{Line, Bytes}
use Rattle.line_reader.specs.Over.{over, over_fault, weighed}
use Rattle.line_reader.specs.ConfigFile.{Answer, whole_of, on_line, header_of, header_text, behind_text, fault_of, IsMeant}
use Rattle.line_reader.specs.NextLaws.{LongFront}
use Rattle.line_reader.proofs.LongLines.{cut_long}

short_test : (text : List ℕ) → length text ≤ MAX_LINE_BYTES → nat_lt MAX_LINE_BYTES (length text) ≡ false
short_test text h = grind (arith, nat_tests)

long_test : (front rest : List ℕ) → MAX_LINE_BYTES < length front → nat_lt MAX_LINE_BYTES (length (front ++ rest)) ≡ true
long_test front rest h = grind (arith, nat_tests, length-append)

pub behind_line : (n bytes : ℕ) (config : Config) (line more : List ℕ) → has_end line ≡ false → length line ≤ MAX_LINE_BYTES
    → behind_text n bytes config (line ++ 10 ∷ more) ≡ Err (Bad (n + 1) BadHeader)
unfolding behind_text
behind_line n bytes config line more clear short = rw (cut_first line more clear, short_test line short) refl

pub behind_nothing : (n bytes : ℕ) (config : Config) → behind_text n bytes config [] ≡ Ok (config, bytes)
unfolding behind_text cut
behind_nothing n bytes config = refl

open_rest : (n bytes : ℕ) (config : Config) (rest : List ℕ) → 0 < length rest → length rest ≤ MAX_LINE_BYTES
    → whole_of n bytes config [] rest ≡ Err (Bad (n + 1) NoEnd)
open_rest n bytes config [] some short = absurd (omega arith)
open_rest n bytes config (b ∷ rest) some short = rw (short_test (b ∷ rest) short) refl

pub behind_rest : (n bytes : ℕ) (config : Config) (rest : List ℕ) → has_end rest ≡ false → 0 < length rest → length rest ≤ MAX_LINE_BYTES
    → behind_text n bytes config rest ≡ Err (Bad (n + 1) NoEnd)
unfolding behind_text
behind_rest n bytes config rest clear some short = rw (cut_whole rest clear) (open_rest n bytes config rest some short)

long_rest : (n bytes : ℕ) (config : Config) (front rest : List ℕ) → MAX_LINE_BYTES < length front
    → whole_of n bytes config [] (front ++ rest) ≡ Err (Limit (n + 1) Line)
long_rest n bytes config [] rest h = absurd (omega arith)
long_rest n bytes config (b ∷ front) rest h = rw (long_test (b ∷ front) rest h) refl

long_whole : (n bytes : ℕ) (config : Config) (front : List ℕ) (lines : List (List ℕ)) (rest : List ℕ) → MAX_LINE_BYTES < length front
    → whole_of n bytes config (joined front lines rest).lines (joined front lines rest).rest ≡ Err (Limit (n + 1) Line)
unfolding joined
long_whole n bytes config front [] rest h = long_rest n bytes config front rest h
long_whole n bytes config front (line ∷ lines) rest h = rw (long_test front line h) refl

pub behind_long : (n bytes : ℕ) (config : Config) (text : List ℕ) → LongFront text → behind_text n bytes config text ≡ Err (Limit (n + 1) Line)
unfolding behind_text
behind_long n bytes config text x =
    rw (cut_long text x) (long_whole n bytes config x.front (cut x.behind).lines (cut x.behind).rest x.long)

header_step : (most n bytes : ℕ) (header : Header) (line more : List ℕ) → has_end line ≡ false
    → header_text most n bytes header (line ++ 10 ∷ more)
    ≡ on_line (n + 1) (bytes + length line + 1) (weighed most (n + 1) (bytes + length line + 1) (header_line (n + 1) header line))
    (cut more).lines (cut more).rest (λ header. header_text most (n + 1) (bytes + length line + 1) header more)
unfolding header_text header_of
header_step most n bytes header line more clear = rw (cut_first line more clear) refl

-- with this line the header is whole
pub header_ends : (most n bytes : ℕ) (header next : Header) (line more : List ℕ) → has_end line ≡ false
    → weighed most (n + 1) (bytes + length line + 1) (header_line (n + 1) header line) ≡ Ok (true, next)
    → header_text most n bytes header (line ++ 10 ∷ more) ≡ behind_text (n + 1) (bytes + length line + 1) next.config more
unfolding behind_text
header_ends most n bytes header next line more clear step =
    header_step most n bytes header line more clear
    ∙ ap (λ (s : Step). on_line (n + 1) (bytes + length line + 1) s (cut more).lines (cut more).rest
    (λ header. header_text most (n + 1) (bytes + length line + 1) header more)) step

pub header_goes_on : (most n bytes : ℕ) (header next : Header) (line more : List ℕ) → has_end line ≡ false
    → weighed most (n + 1) (bytes + length line + 1) (header_line (n + 1) header line) ≡ Ok (false, next)
    → header_text most n bytes header (line ++ 10 ∷ more) ≡ header_text most (n + 1) (bytes + length line + 1) next more
header_goes_on most n bytes header next line more clear step =
    header_step most n bytes header line more clear
    ∙ ap (λ (s : Step). on_line (n + 1) (bytes + length line + 1) s (cut more).lines (cut more).rest
    (λ header. header_text most (n + 1) (bytes + length line + 1) header more)) step

pub header_refused : (most n bytes : ℕ) (header : Header) (fault : LineFault) (line more : List ℕ) → has_end line ≡ false
    → weighed most (n + 1) (bytes + length line + 1) (header_line (n + 1) header line) ≡ Err fault
    → header_text most n bytes header (line ++ 10 ∷ more) ≡ Err fault
header_refused most n bytes header fault line more clear step =
    header_step most n bytes header line more clear
    ∙ ap (λ (s : Step). on_line (n + 1) (bytes + length line + 1) s (cut more).lines (cut more).rest
    (λ header. header_text most (n + 1) (bytes + length line + 1) header more)) step

pub header_rest : (most n bytes : ℕ) (header : Header) (rest : List ℕ) → has_end rest ≡ false → length rest ≤ MAX_LINE_BYTES
    → header_text most n bytes header rest ≡ Err (Bad (n + 1) NoEnd)
unfolding header_text header_of
header_rest most n bytes header rest clear short = rw (cut_whole rest clear, short_test rest short) refl

long_line : (most n bytes : ℕ) (header : Header) (front line : List ℕ) → MAX_LINE_BYTES < length front
    → weighed most n bytes (header_line n header (front ++ line)) ≡ Err (Limit n Line)
unfolding header_line
long_line most n bytes header front line h = rw (long_test front line h) (either (nat_lt most bytes))
  where
    either : (b : Bool) → cond b (Err (Limit n Line)) (let x : Step = Err (Limit n Line) in x) ≡ Err (Limit n Line)
    either true = refl
    either false = refl

long_header : (most n bytes : ℕ) (header : Header) (front : List ℕ) (lines : List (List ℕ)) (rest : List ℕ) → MAX_LINE_BYTES < length front
    → header_of most n bytes header (joined front lines rest).lines (joined front lines rest).rest ≡ Err (Limit (n + 1) Line)
unfolding joined header_of
long_header most n bytes header front [] rest h = rw (long_test front rest h) refl
long_header most n bytes header front (line ∷ lines) rest h =
    ap (λ (s : Step). on_line (n + 1) (bytes + length (front ++ line) + 1) s lines rest
    (λ header. header_of most (n + 1) (bytes + length (front ++ line) + 1) header lines rest))
    (long_line most (n + 1) (bytes + length (front ++ line) + 1) header front line h)

pub header_long : (most n bytes : ℕ) (header : Header) (text : List ℕ) → LongFront text
    → header_text most n bytes header text ≡ Err (Limit (n + 1) Line)
unfolding header_text
header_long most n bytes header text x =
    rw (cut_long text x) (long_header most n bytes header x.front (cut x.behind).lines (cut x.behind).rest x.long)

-- a line that was read, under the limit
pub weighed_read : (most n bytes : ℕ) (is_over whole : Bool) (read : Result Bool LineFault) (next : Header) (meant : Step)
    → is_over ≡ nat_lt most bytes → Meets meant (with_header read next) → Ok whole ≡ cond is_over (Err (over n read)) read
    → (weighed most n bytes meant ≡ Ok (whole, next)) × (bytes ≤ most)
weighed_read most n bytes true whole read next meant over meets is = absurd (cc)
weighed_read most n bytes false whole (Ok w) next meant over meets is =
    let same : whole ≡ w = cc in
    (rw (← over, meets, same) refl, grind (arith, nat_tests))
weighed_read most n bytes false whole (Err fault) next meant over meets is = absurd (cc)

-- a line that was refused
pub weighed_refused : (most n bytes : ℕ) (is_over : Bool) (read : Result Bool LineFault) (next : Header) (meant : Step) (fault : LineFault)
    → is_over ≡ nat_lt most bytes → Meets meant (with_header read next) → Err fault ≡ cond is_over (Err (over n read)) read
    → (fault ≡ NoMemory) ⊎ (weighed most n bytes meant ≡ Err fault)
weighed_refused most n bytes true (Ok w) next meant fault over meets is =
    let same : fault ≡ Limit n Bytes = cc in
    inr (rw (← over, meets, same) refl)
weighed_refused most n bytes true (Err refused) next meant fault over (inl none) is =
    let same : fault ≡ over_fault refused = cc in
    inl (rw (same, none) refl)
weighed_refused most n bytes true (Err refused) next meant fault over (inr meets) is =
    let same : fault ≡ over_fault refused = cc in
    inr (rw (← over, meets, same) refl)
weighed_refused most n bytes false (Ok w) next meant fault over meets is = absurd (cc)
weighed_refused most n bytes false (Err refused) next meant fault over (inl none) is =
    let same : fault ≡ refused = cc in
    inl (same ∙ none)
weighed_refused most n bytes false (Err refused) next meant fault over (inr meets) is =
    let same : fault ≡ refused = cc in
    inr (rw (← over, meets, same) refl)

-- the fault that is answered is the one that is meant
pub meant_fault : (meant : Answer) (fault : LineFault) → (fault ≡ NoMemory) ⊎ (meant ≡ Err fault) → IsMeant meant (fault_of fault)
meant_fault meant (Bad line cause) (inl none) = absurd (cc)
meant_fault meant (Bad line cause) (inr is) = is
meant_fault meant (Limit line which) (inl none) = absurd (cc)
meant_fault meant (Limit line which) (inr is) = is
meant_fault meant NoMemory x = tt
