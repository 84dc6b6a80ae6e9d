-- How the bytes that calls read add up.
use Rattle.std.proofs.Common.{◌≡◌, ℕ, List, [], ◌∷◌, ◌++◌, Option, Some, None, refl, sym, ◌∙◌, ap, subst, append-nil, append_assoc}
use Rattle.std.specs.Io.KnownBytes.{Consumes, IsAtEnd}
use Rattle.std.proofs.KnownBytes.{Consumes-nil, Consumes-trans}
use Rattle.line_reader.specs.Reading.{Reads, ahead}

-- nothing was read
pub reads_none : (left : Option (List ℕ)) (held : List ℕ) → Reads left left held held
reads_none left held = record { given = []; taken = Consumes-nil left; whole = append-nil held }

-- one call read, and then another
pub reads_more : (first between left : Option (List ℕ)) (held mid all : List ℕ)
    → Reads first between held mid → Reads between left mid all → Reads first left held all
reads_more first between left held mid all x y = record {
  given = x.given ++ y.given;
  taken = Consumes-trans first between left x.given y.given x.taken y.taken;
  whole = sym (append_assoc held x.given y.given) ∙ ap (λ (front : List ℕ). front ++ y.given) x.whole ∙ y.whole;
}

-- what was taken of a file so far stands before what is held; after a call it stands before all that the call made
pub taken_more : (first before left : Option (List ℕ)) (whole held all : List ℕ)
    → Consumes first before (whole ++ held) → Reads before left held all → Consumes first left (whole ++ all)
taken_more first before left whole held all taken x =
    subst (Consumes first left) (append_assoc whole held x.given ∙ ap (λ (behind : List ℕ). whole ++ behind) x.whole)
    (Consumes-trans first before left (whole ++ held) x.given taken x.taken)

some_same : (xs ys : List ℕ) → (let x : Option (List ℕ) = Some xs in x) ≡ Some ys → xs ≡ ys
some_same xs ys e = cc

-- what is ahead stays the same where bytes are read
pub ahead_read : (before left : Option (List ℕ)) (held all text : List ℕ) → ahead held before ≡ Some text → Reads before left held all
    → ahead all left ≡ Some text
ahead_read None left held all text e x = absurd (cc)
ahead_read (Some xs) None held all text e x = absurd x.taken
ahead_read (Some xs) (Some ys) held all text e x =
    rw (← x.whole, append_assoc held x.given ys, ← x.taken) e

-- a line is ahead, and then what is ahead behind it
pub ahead_line : (left : Option (List ℕ)) (line held text : List ℕ) → ahead (line ++ 10 ∷ held) left ≡ Some text
    → (more : List ℕ) × (ahead held left ≡ Some more) × (text ≡ line ++ 10 ∷ more)
ahead_line None line held text e = absurd (cc)
ahead_line (Some ys) line held text e = (held ++ ys, refl, some_same _ _ (sym e) ∙ append_assoc line (10 ∷ held) ys)

-- at the file's end what is held is all that is ahead
pub ahead_end : (left : Option (List ℕ)) (held text : List ℕ) → ahead held left ≡ Some text → IsAtEnd left → text ≡ held
ahead_end None held text e end = absurd (cc)
ahead_end (Some ys) held text e end = some_same _ _ (sym e) ∙ ap (λ (rest : List ℕ). held ++ rest) end ∙ append-nil held
