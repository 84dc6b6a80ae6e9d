-- What clap does at one word of this command, at the first word and behind others.
use Rattle.std.proofs.Common.{◌≡◌, ℕ, ◌==◌, Bool, true, false, List, [], ◌∷◌, ◌++◌, Option, Some, None, refl, codes, slice_get}
use Rattle.std.specs.Str.{chars}
use Rattle.clap.specs.Simple.{Shape, built}
use Rattle.clap.specs.Walk.{Walk, Waiting, idle, positional, walked}
use Rattle.clap.specs.Faults.{turn_fault, flags_fault}
use Rattle.clap.specs.Kinds.{Kinds}
use Rattle.clap.specs.declared.error.kind.ErrorKind.TheVariants as kind
use Rattle.program_words.specs.Parser.{parser}

abbrev pub Texts : Type 0
Texts = List (List ℕ)

-- where the walk stands behind some words: the words kept so far are pending
unfoldable pub standing : Option Texts → Waiting → Bool → Walk
standing None waiting trailing = record { held = record { rows = []; pending = None; skip = 0 }; waiting = waiting; position = 1; is_trailing = trailing; stopped = None }
standing (Some kept) waiting trailing = record { held = record { rows = []; pending = Some (codes "word", kept); skip = 0 }; waiting = waiting; position = 1; is_trailing = trailing; stopped = None }

-- at the first word nothing waits
unfoldable pub waits : Bool → Waiting
waits true = idle
waits false = positional

unfoldable pub after : Option Texts → List ℕ → Texts
after None word = word ∷ []
after (Some kept) word = kept ++ word ∷ []

abbrev pub top : Shape
top = (built parser).top

abbrev pub fault_at : Option Texts → Bool → List ℕ → Kinds
fault_at kept first word = turn_fault top [] (standing kept (waits first) false) word

abbrev pub step_at : Option Texts → Bool → List ℕ → Walk
step_at kept first word = walked top.rules [] (standing kept (waits first) false) word

-- the first character of what stands behind a dash
unfoldable pub first_of : List ℕ → Option ℕ
first_of flags = slice_get (chars flags) 0

-- behind the end mark every word is kept
pub trailing_step : (kept : Option Texts) (w : Waiting) (word : List ℕ)
    → walked top.rules [] (standing kept w true) word ≡ standing (Some (after kept word)) positional true
unfolding walked standing after
trailing_step None w word = refl
trailing_step (Some kept) w word = refl

pub trailing_turn : (kept : Option Texts) (w : Waiting) (word : List ℕ) → turn_fault top [] (standing kept w true) word ≡ []
unfolding standing
trailing_turn None w word = refl
trailing_turn (Some kept) w word = refl

-- the end mark is taken out
pub mark_step : (kept : Option Texts) (first : Bool) → step_at kept first (45 ∷ 45 ∷ []) ≡ standing kept (waits first) true
unfolding walked standing waits
mark_step None true = refl
mark_step None false = refl
mark_step (Some kept) true = refl
mark_step (Some kept) false = refl

pub mark_turn : (kept : Option Texts) (first : Bool) → fault_at kept first (45 ∷ 45 ∷ []) ≡ []
unfolding standing waits
mark_turn None true = refl
mark_turn None false = refl
mark_turn (Some kept) true = refl
mark_turn (Some kept) false = refl

-- a word that does not begin with a dash is kept
pub plain_step : (kept : Option Texts) (first : Bool) (b : ℕ) (xs : List ℕ) → (b == 45) ≡ false → step_at kept first (b ∷ xs) ≡ standing (Some (after kept (b ∷ xs))) positional false
unfolding walked standing waits after
plain_step None true b xs e = simp e
plain_step None false b xs e = simp e
plain_step (Some kept) true b xs e = simp e
plain_step (Some kept) false b xs e = simp e

pub plain_turn : (kept : Option Texts) (first : Bool) (b : ℕ) (xs : List ℕ) → (b == 45) ≡ false → fault_at kept first (b ∷ xs) ≡ []
unfolding standing waits
plain_turn None true b xs e = simp e
plain_turn None false b xs e = simp e
plain_turn (Some kept) true b xs e = simp e
plain_turn (Some kept) false b xs e = simp e

-- a dash alone is kept
pub dash_step : (kept : Option Texts) (first : Bool) → step_at kept first (45 ∷ []) ≡ standing (Some (after kept (45 ∷ []))) positional false
unfolding walked standing waits after
dash_step None true = refl
dash_step None false = refl
dash_step (Some kept) true = refl
dash_step (Some kept) false = refl

pub dash_turn : (kept : Option Texts) (first : Bool) → fault_at kept first (45 ∷ []) ≡ []
unfolding standing waits
dash_turn None true = refl
dash_turn None false = refl
dash_turn (Some kept) true = refl
dash_turn (Some kept) false = refl

-- an empty word is kept
pub empty_step : (kept : Option Texts) (first : Bool) → step_at kept first [] ≡ standing (Some (after kept [])) positional false
unfolding walked standing waits after
empty_step None true = refl
empty_step None false = refl
empty_step (Some kept) true = refl
empty_step (Some kept) false = refl

pub empty_turn : (kept : Option Texts) (first : Bool) → fault_at kept first [] ≡ []
unfolding standing waits
empty_turn None true = refl
empty_turn None false = refl
empty_turn (Some kept) true = refl
empty_turn (Some kept) false = refl

-- two dashes and more are refused
pub long_turn : (kept : Option Texts) (first : Bool) (b : ℕ) (xs : List ℕ) → fault_at kept first (45 ∷ 45 ∷ b ∷ xs) ≡ kind.UnknownArgument ∷ []
unfolding standing waits
long_turn None true b xs = refl
long_turn None false b xs = refl
long_turn (Some kept) true b xs = refl
long_turn (Some kept) false b xs = refl

-- a dash and a character are refused
pub short_turn : (kept : Option Texts) (first : Bool) (b : ℕ) (xs : List ℕ) (x : ℕ) → (b == 45) ≡ false → first_of (b ∷ xs) ≡ Some x → fault_at kept first (45 ∷ b ∷ xs) ≡ kind.UnknownArgument ∷ []
unfolding standing waits flags_fault first_of
short_turn None true b xs x e f = simp (e, f)
short_turn None false b xs x e f = simp (e, f)
short_turn (Some kept) true b xs x e f = simp (e, f)
short_turn (Some kept) false b xs x e f = simp (e, f)
