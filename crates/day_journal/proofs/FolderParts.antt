-- A path and its folder.
use Rattle.std.proofs.Common.{◌≡◌, ℕ, List, ◌∷◌, ◌++◌, take, drop, Option, None, Some, sym, ◌∙◌, ap, subst, rules, take-append-drop}
use Rattle.std.specs.Prelude.{IfSome}
use Rattle.std.specs.Str.Pattern.{HasCharAt}
use Rattle.day_journal.specs.Folders.{slash, IsFolderOf}

-- what stands before a slash, and what stands after it
pub parted : (path : List ℕ) (i j : ℕ) → HasCharAt slash path i j → path ≡ take i path ++ (slash ∷ drop j path)
unfolding lib.Utf8.encode
parted path i j at = sym (take-append-drop i path) ∙ ap (λ (l : List ℕ). take i path ++ l) at.split

pub of_known : (known : Option (List ℕ)) (folder path : List ℕ) → IsFolderOf folder path → IfSome known (λ n. n ≡ path) → IfSome known (λ n. IsFolderOf folder n)
of_known None folder path is same = search rules
of_known (Some n) folder path is same = subst (λ (p : List ℕ). IsFolderOf folder p) (sym same) is
