-- Pieces that are put one after the other.
use Rattle.std.proofs.Common.{◌≡◌, ◌≤◌, ◌<◌, ◌+◌, ◌-◌, ◌++◌, ℕ, zero, suc, List, [], ◌∷◌, Option, None, Some, take, drop, length, min, get_or, refl, sym, ◌∙◌, ap, subst, arith, add-one, append_assoc, append-nil}
use Rattle.std.proofs.Math.Seq.{take-append-add}
use Rattle.std.proofs.lemmas.List.{take-append-le}
use Rattle.std.proofs.lemmas.Grind.{common_steps}
use Rattle.io_edge.specs.Links.{Told, Tells, WasPut}
use Rattle.link_work.specs.Turns.{joined}

pub put_none : (t : Option Told) → Tells (WasPut []) t t
put_none None = tt
put_none (Some told) = ap (λ (bytes : List ℕ). record told { put = bytes }) (sym (append-nil told.put))

pub put_more : (a b : List ℕ) (old mid new : Option Told) → Tells (WasPut a) old mid → Tells (WasPut b) mid new
    → Tells (WasPut (a ++ b)) old new
put_more a b None mid new first second = tt
put_more a b (Some old) None new first second = absurd first
put_more a b (Some old) (Some mid) None first second = absurd second
put_more a b (Some old) (Some mid) (Some new) first second =
    second ∙ ap (λ (t : Told). record t { put = t.put ++ b }) first
    ∙ ap (λ (bytes : List ℕ). record old { put = bytes }) (append_assoc old.put a b)

-- frames with one more
pub joined_more : (frames : List (List ℕ)) (i : ℕ) (frame : List ℕ) → i < length frames → frame ≡ get_or frames i frame
    → joined (take (i + 1) frames) ≡ joined (take i frames) ++ frame
joined_more frames i frame l at = rw (add-one i) (go frames i frame l at) where
  go : (frames : List (List ℕ)) (i : ℕ) (frame : List ℕ) → i < length frames → frame ≡ get_or frames i frame
      → joined (take (suc i) frames) ≡ joined (take i frames) ++ frame
  go [] i frame l at = absurd (omega arith)
  go (f ∷ frames) zero frame l at = append-nil f ∙ sym at
  go (f ∷ frames) (suc i) frame l at =
      ap (λ (bytes : List ℕ). f ++ bytes) (go frames i frame (omega arith) at)
      ∙ sym (append_assoc f (joined (take i frames)) frame)

joined_all : (frames : List (List ℕ)) (i : ℕ) → joined frames ≡ joined (take i frames) ++ joined (drop i frames)
joined_all [] zero = refl
joined_all [] (suc i) = refl
joined_all (f ∷ frames) zero = refl
joined_all (f ∷ frames) (suc i) =
    ap (λ (bytes : List ℕ). f ++ bytes) (joined_all frames i)
    ∙ sym (append_assoc f (joined (take i frames)) (joined (drop i frames)))

-- all of some bytes and the first of the next
first_of : (a b rest : List ℕ) (k : ℕ) → a ++ take k b ≡ take (length a + min k (length b)) (a ++ (b ++ rest))
first_of a b rest k =
    let inside : min k (length b) ≤ length b = omega arith in
    let cut : take (min k (length b)) (b ++ rest) ≡ take (min k (length b)) b = take-append-le (min k (length b)) b rest inside in
    let same : take k b ≡ take (min k (length b)) b = grind (arith, common_steps) in
    ap (λ (bytes : List ℕ). a ++ bytes) (same ∙ sym cut) ∙ sym (take-append-add a (b ++ rest) (min k (length b)))

-- some frames were put, and a part of the next one
pub put_part : (frames : List (List ℕ)) (i k : ℕ) (frame : List ℕ) (old mid new : Option Told) → i < length frames
    → frame ≡ get_or frames i frame → Tells (WasPut (joined (take i frames))) old mid → Tells (WasPut (take k frame)) mid new
    → (n : ℕ) × Tells (WasPut (take n (joined frames))) old new
put_part frames i k frame old mid new l at first second =
    let rest = joined (drop (i + 1) frames) in
    let split : joined frames ≡ joined (take i frames) ++ (frame ++ rest)
    = joined_all frames (i + 1) ∙ ap (λ (bytes : List ℕ). bytes ++ rest) (joined_more frames i frame l at)
    ∙ append_assoc (joined (take i frames)) frame rest in
    let part : joined (take i frames) ++ take k frame ≡ take (length (joined (take i frames)) + min k (length frame)) (joined frames)
    = first_of (joined (take i frames)) frame rest k ∙ ap (take (length (joined (take i frames)) + min k (length frame))) (sym split) in
    let both = put_more (joined (take i frames)) (take k frame) old mid new first second in
    (length (joined (take i frames)) + min k (length frame), subst (λ (bytes : List ℕ). Tells (WasPut bytes) old new) part both)
