-- How a file is read to its end, piece by piece.
use Rattle.std.proofs.Common.{◌≡◌, ℕ, List, [], ◌++◌, take, length, ◌<◌, Option, Some, None, IsSome, IfSome, refl, sym, ◌∙◌, ap, subst, arith, append-nil, length-append, length-take, min, ◌-◌, ◌≤◌, ◌+◌}
use Rattle.std.proofs.KnownBytes.{Consumes-nil, Consumes-trans}
use Rattle.std.specs.Io.KnownBytes.{Consumes, IsAtEnd}
use Rattle.io_edge.specs.Files.{Files, Opens, file_named}

-- all of a file that was read to its end
pub all_read : (first left : Option (List ℕ)) (bytes : List ℕ) → Consumes first left bytes → IsAtEnd left → IfSome first (λ all. all ≡ bytes)
all_read None left bytes h e = tt
all_read (Some all) None bytes h e = absurd h
all_read (Some all) (Some left) bytes h e = h ∙ ap (λ (xs : List ℕ). bytes ++ xs) e ∙ append-nil bytes

-- one more piece
pub read_on : (first before left : Option (List ℕ)) (bytes piece after : List ℕ) → Consumes first before bytes → Consumes before left piece
    → after ≡ bytes ++ piece → Consumes first left after
read_on first before left bytes piece after h k e = subst (λ (b : List ℕ). Consumes first left b) (sym e) (Consumes-trans first before left bytes piece h k)

-- nothing was left
pub read_end : (first before left : Option (List ℕ)) (bytes buffer : List ℕ) (count : ℕ) → Consumes first before bytes → Consumes before left (take count buffer)
    → count ≡ 0 → Consumes first left bytes
read_end first before left bytes buffer count h k e =
    let none : Consumes before left [] = subst (λ (n : ℕ). Consumes before left (take n buffer)) e k in
    subst (λ (b : List ℕ). Consumes first left b) (append-nil bytes) (Consumes-trans first before left bytes [] h none)

-- a file of this name was opened, and read to its end
pub named_read : (told : Option Files) (name : List ℕ) (first left : Option (List ℕ)) (bytes : List ℕ) → Opens told name first
    → Consumes first left bytes → IsAtEnd left → IfSome told (λ files. file_named files name ≡ Some bytes)
named_read None name first left bytes o h e = tt
named_read (Some files) name None left bytes o h e = absurd (let odd = subst IsSome (sym o.1) o.0 in cc)
named_read (Some files) name (Some all) left bytes o h e = sym o.1 ∙ ap Some (all_read (Some all) left bytes h e)

-- a piece that fits
pub fits : (most : ℕ) (bytes buffer after : List ℕ) (count : ℕ) → length bytes ≤ most → (most - length bytes < count → ⊥) → after ≡ bytes ++ take count buffer → length after ≤ most
fits most bytes buffer after count h k e =
    let long : length after ≡ length bytes + min count (length buffer) = ap length e ∙ length-append bytes (take count buffer) ∙ ap (λ (n : ℕ). length bytes + n) (length-take count buffer) in
    omega (arith, long, h, k)
