-- What is ahead in a file that was begun on a told shelf.
use Rattle.std.proofs.Common.{◌≡◌, ℕ, List, Option, Some, None, IfSome, refl}
use Rattle.io_edge.specs.Files.{Files, Opens, file_named}
use Rattle.line_reader.specs.Reading.{Reading, before_lines, ahead}

by_file : (file left : Option (List ℕ)) (P : List ℕ → Type 0) → left ≡ file → ((text : List ℕ) → left ≡ Some text → P text) → IfSome file P
by_file None left P e f = tt
by_file (Some text) left P e f = f text e

-- a fact of all that may be ahead holds of the file that was opened
pub told_file : (told : Option Files) (name : List ℕ) (left : Option (List ℕ)) (P : List ℕ → Type 0) → Opens told name left
    → ((text : List ℕ) → left ≡ Some text → P text) → IfSome told (λ files. IfSome (file_named files name) P)
told_file None name left P opens f = tt
told_file (Some files) name left P opens f = by_file (file_named files name) left P opens.1 f

pub ahead_at_start : (reader : Reading) (already most : ℕ) (left : Option (List ℕ)) (text : List ℕ) → reader ≡ before_lines already most
    → left ≡ Some text → ahead reader.held left ≡ Some text
ahead_at_start reader already most left text first e = rw (first, e) refl
