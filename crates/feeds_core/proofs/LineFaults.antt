-- The first refused line of lines.
use Rattle.std.proofs.Common.{◌≡◌, ℕ, ◌+◌, ◌<◌, Bool, true, cond, nat_lt, List, [], ◌∷◌, ◌++◌, length, Option, None, Some, option_map, Result, Err, refl, sym, ◌∙◌, ap, arith}
use Rattle.std.proofs.Math.Nat.{add-zero}
use Rattle.std.proofs.lemmas.Bool.Decides.{nat_tests}
use Rattle.feeds_core.specs.Reading.{size_of}
use Rattle.venue_words.specs.declared.limits.TheConstants.{MAX_CONFIG_BYTES}
use Rattle.venue_words.specs.declared.config.Config.{Config}
use Rattle.script_text.specs.Body.{read_of}
use Rattle.script_text.specs.declared.body.Line.{Line}
use Rattle.script_text.specs.declared.fault.LineFault.{LineFault}
use Rattle.line_reader.specs.Over.{over}
use Rattle.line_work.specs.Refusing.{fault_at}
use Rattle.feeds_core.specs.FeedLines.{unshared, fault_in, fault_of, or_else, lines_fault}

pub size_more : (xs : List (List ℕ)) (line : List ℕ) → size_of (xs ++ line ∷ []) ≡ size_of xs + length line + 1
size_more [] line = omega arith
size_more (x ∷ xs) line =
    let rest = size_more xs line in
    let first : size_of ((x ∷ xs) ++ line ∷ []) ≡ (length x + 1) + size_of (xs ++ line ∷ []) = refl in
    let here : size_of (x ∷ xs) ≡ (length x + 1) + size_of xs = refl in
    omega arith

pub or_none : {T : Type 0} (x : Option T) → or_else x None ≡ x
or_none None = refl
or_none (Some x) = refl

pub line_first : (config : Config) (taken : ℕ → Bool) (n bytes : ℕ) (line : List ℕ) (lines : List (List ℕ)) (end : ℕ → Option LineFault)
    → lines_fault config taken n bytes (line ∷ lines) end
    ≡ or_else (fault_of taken (n + 1) (bytes + length line + 1) (read_of config line))
    (lines_fault config taken (n + 1) (bytes + length line + 1) lines end)
unfolding lines_fault
line_first config taken n bytes line lines end = refl

pub line_none : (config : Config) (taken : ℕ → Bool) (n bytes : ℕ) (end : ℕ → Option LineFault)
    → lines_fault config taken n bytes [] end ≡ end n
unfolding lines_fault
line_none config taken n bytes end = refl

pub ends_alike : (config : Config) (taken : ℕ → Bool) (n bytes : ℕ) (lines : List (List ℕ)) (end other : ℕ → Option LineFault)
    → ((k : ℕ) → end k ≡ other k) → lines_fault config taken n bytes lines end ≡ lines_fault config taken n bytes lines other
unfolding lines_fault
ends_alike config taken n bytes [] end other alike = alike n
ends_alike config taken n bytes (line ∷ lines) end other alike =
    ap (or_else (fault_of taken (n + 1) (bytes + length line + 1) (read_of config line)))
    (ends_alike config taken (n + 1) (bytes + length line + 1) lines end other alike)

pub lines_append : (config : Config) (taken : ℕ → Bool) (n bytes : ℕ) (xs ys : List (List ℕ)) (end : ℕ → Option LineFault)
    → lines_fault config taken n bytes (xs ++ ys) end
    ≡ lines_fault config taken n bytes xs (λ k. lines_fault config taken k (bytes + size_of xs) ys end)
unfolding lines_fault
lines_append config taken n bytes [] ys end = ap (λ (b : ℕ). lines_fault config taken n b ys end) (sym (add-zero bytes))
lines_append config taken n bytes (x ∷ xs) ys end =
    let here : size_of (x ∷ xs) ≡ (length x + 1) + size_of xs = refl in
    let same : (bytes + length x + 1) + size_of xs ≡ bytes + size_of (x ∷ xs) = omega arith in
    ap (or_else (fault_of taken (n + 1) (bytes + length x + 1) (read_of config x)))
    (lines_append config taken (n + 1) (bytes + length x + 1) xs ys end
    ∙ ends_alike config taken (n + 1) (bytes + length x + 1) xs _ _
    (λ k. ap (λ (b : ℕ). lines_fault config taken k b ys end) same))

-- ---- the limit on bytes

over_fails : (n : ℕ) (b : Bool) (read : Result Line LineFault) → b ≡ true
    → (fault : LineFault) × (option_map (fault_at n) (fault_in (cond b (Err (over 1 read)) read)) ≡ Some fault)
over_fails n b read e = (fault_at n (over 1 read), rw e refl)

-- a line that ends past the limit is refused
pub is_over : (taken : ℕ → Bool) (n bytes : ℕ) (read : Result Line LineFault) → MAX_CONFIG_BYTES < bytes
    → (fault : LineFault) × (fault_of taken n bytes read ≡ Some fault)
is_over taken n bytes read l =
    let e : nat_lt MAX_CONFIG_BYTES bytes ≡ true = grind (arith, nat_tests) in
    over_fails n (nat_lt MAX_CONFIG_BYTES bytes) (unshared taken read) e

-- what stands behind a line that ends past the limit doesn't matter
pub stops_over : (config : Config) (taken : ℕ → Bool) (n bytes : ℕ) (xs : List (List ℕ)) (line : List ℕ) (ys zs : List (List ℕ))
    (end other : ℕ → Option LineFault) → MAX_CONFIG_BYTES < bytes + size_of xs + length line + 1
    → lines_fault config taken n bytes (xs ++ line ∷ ys) end ≡ lines_fault config taken n bytes (xs ++ line ∷ zs) other
unfolding lines_fault
stops_over config taken n bytes [] line ys zs end other l =
    let fault = is_over taken (n + 1) (bytes + length line + 1) (read_of config line) (omega arith) in
    rw fault.1 refl
stops_over config taken n bytes (x ∷ xs) line ys zs end other l =
    let here : size_of (x ∷ xs) ≡ (length x + 1) + size_of xs = refl in
    ap (or_else (fault_of taken (n + 1) (bytes + length x + 1) (read_of config x)))
    (stops_over config taken (n + 1) (bytes + length x + 1) xs line ys zs end other (omega arith))
