-- The files that a run names.
use Rattle.std.specs.Prelude.{ℕ, List, [], ◌∷◌, Option, Some, option_map, option_and_then}
use Rattle.std.specs.List.{AllByRecursion}
use Rattle.io_edge.specs.Files.{Files, HasFile, file_named}

-- the bytes of the files of these names, where all of them are there
unfoldable pub texts_named : Files → List (List ℕ) → Option (List (List ℕ))
texts_named files [] = Some []
texts_named files (name ∷ names) =
    option_and_then (λ text. option_map (λ texts. text ∷ texts) (texts_named files names)) (file_named files name)

-- all of these files are there, where the shelf tells them
abbrev pub HasAll : Option Files → List (List ℕ) → Type 0
HasAll told names = AllByRecursion (λ name. HasFile told name) names
