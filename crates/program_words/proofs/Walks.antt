-- Which words the walk refuses, and what it keeps of the others.
use Rattle.std.proofs.Common.{◌≡◌, ℕ, ◌==◌, Bool, true, false, List, [], ◌∷◌, ◌++◌, Option, Some, None, MatchOption, refl, ap, sym, ◌∙◌, fold, arith, append_assoc}
use Rattle.std.proofs.lemmas.Bool.Decides.{nat_tests}
use Rattle.std.proofs.lemmas.List.{append-nil}
use Rattle.clap.specs.Walk.{Walk, Waiting, positional, walked}
use Rattle.clap.specs.Faults.{turn_fault, walk_fault}
use Rattle.clap.specs.Kinds.{Kinds}
use Rattle.clap.specs.declared.error.kind.ErrorKind.TheVariants as kind
use Rattle.program_words.specs.Words.{remaining, put_before}
use Rattle.program_words.proofs.Steps.{Texts, standing, waits, after, top, first_of, trailing_step, trailing_turn, mark_step, mark_turn, plain_step, plain_turn, dash_step, dash_turn, empty_step, empty_turn, long_turn, short_turn}

-- what stands behind a dash has a first character
unfoldable pub HasFirst : List ℕ → Type 0
HasFirst word = (c : ℕ) (bytes : List ℕ) → word ≡ 45 ∷ c ∷ bytes → (x : ℕ) × (first_of (c ∷ bytes) ≡ Some x)

unfoldable pub AllFirst : Texts → Type 0
AllFirst [] = Unit {0}
AllFirst (word ∷ words) = HasFirst word × AllFirst words

-- what is kept behind further words
unfoldable pub joined : Option Texts → Texts → Option Texts
joined None [] = None
joined None (word ∷ words) = Some (word ∷ words)
joined (Some kept) words = Some (kept ++ words)

unfoldable pub faults : Walk → Texts → Kinds
faults w words = walk_fault top [] w words

unfoldable pub ends : Walk → Texts → Walk
ends w words = fold (walked top.rules []) w words

-- the walk has no fault, and keeps these words
pub record Keeps (w : Walk) (words : Texts) (kept : Option Texts) (more : Texts) : Type 0 where
  pub none : faults w words ≡ []
  pub waiting : Waiting
  pub trailing : Bool
  pub end : ends w words ≡ standing (joined kept more) waiting trailing

unfoldable pub Reads : Option Texts → Bool → Texts → Option Texts → Type 0
Reads kept first words left = MatchOption left (faults (standing kept (waits first) false) words ≡ [] → ⊥)
    (λ more. Keeps (standing kept (waits first) false) words kept more)

join_after : (kept : Option Texts) (word : List ℕ) (words : Texts) → joined (Some (after kept word)) words ≡ joined kept (word ∷ words)
unfolding joined after
join_after None word words = refl
join_after (Some kept) word words = ap (λ (xs : Texts). Some xs) (append_assoc kept (word ∷ []) words)

join_none : (kept : Option Texts) → joined kept [] ≡ kept
unfolding joined
join_none None = refl
join_none (Some kept) = ap (λ (xs : Texts). Some xs) (append-nil kept)

-- ---- one word, and those behind it

more_faults : (w next : Walk) (word : List ℕ) (words : Texts) → turn_fault top [] w word ≡ [] → walked top.rules [] w word ≡ next
    → faults w (word ∷ words) ≡ faults next words
unfolding faults walk_fault
more_faults w next word words turn step = rw (turn, step) refl

more_ends : (w next : Walk) (word : List ℕ) (words : Texts) → walked top.rules [] w word ≡ next → ends w (word ∷ words) ≡ ends next words
unfolding ends
more_ends w next word words step = rw step refl

refused : (w : Walk) (word : List ℕ) (words : Texts) (k : kind.the_data) → turn_fault top [] w word ≡ k ∷ [] → faults w (word ∷ words) ≡ [] → ⊥
unfolding faults walk_fault
refused w word words k turn none = let bad = rw turn at none in cc

-- a word that is kept, and what the others come to
kept_on : (kept : Option Texts) (w : Walk) (word : List ℕ) (words : Texts) (left : Option Texts) → turn_fault top [] w word ≡ []
    → walked top.rules [] w word ≡ standing (Some (after kept word)) positional false
    → Reads (Some (after kept word)) false words left
    → MatchOption (put_before word left) (faults w (word ∷ words) ≡ [] → ⊥) (λ more. Keeps w (word ∷ words) kept more)
unfolding Reads waits
kept_on kept w word words None turn step h = λ none. h (sym (more_faults w _ word words turn step) ∙ none)
kept_on kept w word words (Some more) turn step h = record {
  none = more_faults w _ word words turn step ∙ h.none;
  waiting = h.waiting;
  trailing = h.trailing;
  end = more_ends w _ word words step ∙ h.end ∙ ap (λ k. standing k h.waiting h.trailing) (join_after kept word more);
}

-- ---- behind the end mark

trails : (kept : Option Texts) (w : Waiting) (words : Texts) → Keeps (standing kept w true) words kept words
unfolding faults walk_fault ends
trails kept w [] = record { none = refl; waiting = w; trailing = true; end = ap (λ k. standing k w true) (sym (join_none kept)) }
trails kept w (word ∷ words) =
    let h = trails (Some (after kept word)) positional words in
    record {
      none = more_faults (standing kept w true) _ word words (trailing_turn kept w word) (trailing_step kept w word) ∙ h.none;
      waiting = h.waiting;
      trailing = h.trailing;
      end = more_ends (standing kept w true) _ word words (trailing_step kept w word) ∙ h.end
          ∙ ap (λ k. standing k h.waiting h.trailing) (join_after kept word words);
    }

marks : (kept : Option Texts) (first : Bool) (words : Texts) → Keeps (standing kept (waits first) false) ((45 ∷ 45 ∷ []) ∷ words) kept words
marks kept first words =
    let h = trails kept (waits first) words in
    record {
      none = more_faults (standing kept (waits first) false) _ (45 ∷ 45 ∷ []) words (mark_turn kept first) (mark_step kept first) ∙ h.none;
      waiting = h.waiting;
      trailing = h.trailing;
      end = more_ends (standing kept (waits first) false) _ (45 ∷ 45 ∷ []) words (mark_step kept first) ∙ h.end;
    }

-- ---- before it, by the first bytes of a word

unfoldable pub Fine : Option Texts → Bool → List ℕ → Texts → Type 0
Fine kept first word words = Reads kept first (word ∷ words) (remaining (word ∷ words))

double_dash : (kept : Option Texts) (first : Bool) (ys : List ℕ) (words : Texts) → Fine kept first (45 ∷ 45 ∷ ys) words
unfolding Fine Reads
double_dash kept first [] words = marks kept first words
double_dash kept first (d ∷ zs) words = refused (standing kept (waits first) false) (45 ∷ 45 ∷ d ∷ zs) words _ (long_turn kept first d zs)

single_dash : (t : Bool) (kept : Option Texts) (first : Bool) (c : ℕ) (ys : List ℕ) (words : Texts) → (c == 45) ≡ t
    → HasFirst (45 ∷ c ∷ ys) → Fine kept first (45 ∷ c ∷ ys) words
unfolding Fine Reads HasFirst
single_dash false kept first c ys words e has =
    let f = has c ys refl in
    simp e (refused (standing kept (waits first) false) (45 ∷ c ∷ ys) words _ (short_turn kept first c ys f.0 e f.1))
single_dash true kept first c ys words e has =
    let is : c ≡ 45 = grind (arith, nat_tests) in
    rw is (double_dash kept first ys words)

abbrev Rest : Option Texts → List ℕ → Texts → Type 0
Rest kept word words = Reads (Some (after kept word)) false words (remaining words)

dashed : (kept : Option Texts) (first : Bool) (xs : List ℕ) (words : Texts) → HasFirst (45 ∷ xs) → Rest kept (45 ∷ xs) words
    → Fine kept first (45 ∷ xs) words
unfolding Fine Reads
dashed kept first [] words has rest =
    kept_on kept (standing kept (waits first) false) (45 ∷ []) words (remaining words) (dash_turn kept first) (dash_step kept first) rest
dashed kept first (c ∷ ys) words has rest = single_dash (c == 45) kept first c ys words refl has

begun : (t : Bool) (kept : Option Texts) (first : Bool) (b : ℕ) (xs : List ℕ) (words : Texts) → (b == 45) ≡ t
    → HasFirst (b ∷ xs) → Rest kept (b ∷ xs) words → Fine kept first (b ∷ xs) words
unfolding Fine Reads
begun false kept first b xs words e has rest =
    simp e (kept_on kept (standing kept (waits first) false) (b ∷ xs) words (remaining words) (plain_turn kept first b xs e) (plain_step kept first b xs e) rest)
begun true kept first b xs words e has rest =
    let is : b ≡ 45 = grind (arith, nat_tests) in
    let has' : HasFirst (45 ∷ xs) = rw (← is) has in
    let rest' : Rest kept (45 ∷ xs) words = rw (← is) rest in
    rw is (dashed kept first xs words has' rest')

-- the walk has no fault exactly where words remain, and these it keeps
pub reads : (kept : Option Texts) (first : Bool) (words : Texts) → AllFirst words → Reads kept first words (remaining words)
unfolding Reads Fine faults walk_fault ends AllFirst
reads kept first [] h = record { none = refl; waiting = waits first; trailing = false; end = ap (λ k. standing k (waits first) false) (sym (join_none kept)) }
reads kept first ([] ∷ words) h =
    kept_on kept (standing kept (waits first) false) [] words (remaining words) (empty_turn kept first) (empty_step kept first) (reads (Some (after kept [])) false words h.1)
reads kept first ((b ∷ xs) ∷ words) h = begun (b == 45) kept first b xs words refl h.0 (reads (Some (after kept (b ∷ xs))) false words h.1)
