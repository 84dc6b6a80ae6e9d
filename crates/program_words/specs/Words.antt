-- Which words a program takes, and which of them remain.
use Rattle.std.specs.Prelude.{ℕ, ◌==◌, ◌&&◌, Bool, true, false, List, [], ◌∷◌, Option, Some, None, if◌then◌else◌, slice_index, map, String, string_bytes}
use Rattle.std.specs.declared.alloc.Global.{Global}
use Rattle.std.specs.Str.{bytes_eq}

-- the words as bytes
abbrev pub texts : List (String Global) → List (List ℕ)
texts words = map (λ word. string_bytes word) words

-- `--`, behind which every word stands for itself
abbrev pub is_end_mark : List ℕ → Bool
is_end_mark word = bytes_eq word (45 ∷ 45 ∷ [])

abbrev pub is_longer_than_one : List ℕ → Bool
is_longer_than_one (first ∷ second ∷ rest) = true
is_longer_than_one _ = false

-- a dash with more behind it
abbrev pub is_flag : List ℕ → Bool
is_flag word = (slice_index word 0 == 45) && is_longer_than_one word

abbrev pub put_before : List ℕ → Option (List (List ℕ)) → Option (List (List ℕ))
put_before word None = None
put_before word (Some rest) = Some (word ∷ rest)

-- the words that remain: the first `--` is taken out, and before it no flag may stand
abbrev pub remaining : List (List ℕ) → Option (List (List ℕ))
remaining [] = Some []
remaining (word ∷ words) = if is_end_mark word then Some words
    else if is_flag word then None else put_before word (remaining words)
