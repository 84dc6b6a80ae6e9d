-- Rows of a table in boxes of 200, which a browser lays out when they come into sight.
use Rattle.std.specs.Prelude.{◌≡◌, ℕ, ◌+◌, ◌%◌, ◌==◌, if◌then◌else◌, List, [], ◌∷◌, ◌++◌, length, take}
use Rattle.audit_html.specs.declared.chunks.Chunks.{Chunks}

-- how a box of rows begins and ends
pub record Box : Type 0 where
  pub begin : List ℕ
  pub end : List ℕ

-- what stands before the row of a number, counted from 0: a box begins there, and the one before it ends
abbrev pub opening : Box → ℕ → List ℕ
opening box n = if n % 200 == 0 then (if n == 0 then [] else box.end) ++ box.begin else []

-- rows from a number on, of which the last box is still open
abbrev pub chunked : Box → ℕ → List (List ℕ) → List ℕ
chunked box n [] = []
chunked box n (row ∷ rows) = opening box n ++ row ++ chunked box (n + 1) rows

-- rows in their boxes
abbrev pub boxed : Box → List (List ℕ) → List ℕ
boxed box [] = []
boxed box (row ∷ rows) = chunked box 0 (row ∷ rows) ++ box.end

-- the first of these rows are held, and all are counted
pub record Holds (box : Box) (rows : List (List ℕ)) (chunks : Chunks) : Type 0 where
  pub text : chunks.text.items ≡ chunked box 0 (take chunks.most rows)
  pub shown : chunks.shown ≡ length (take chunks.most rows)
  pub all : chunks.all ≡ length rows

-- these rows were added: held where there was room, and counted
pub record Adds (box : Box) (more : List (List ℕ)) (old new : Chunks) : Type 0 where
  pub rows : (rows : List (List ℕ)) → Holds box rows old → Holds box (rows ++ more) new
  pub most : new.most ≡ old.most
