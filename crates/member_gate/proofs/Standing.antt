-- Desks in their order stand each at its own member.
use Rattle.std.proofs.Common.{◌≡◌, ℕ, zero, suc, ◌+◌, List, [], ◌∷◌, length, map, drop, get_or, Some, IfSome, ap, subst, arith}
use Rattle.std.specs.List.{range_with_len}
use Rattle.member_gate.specs.Desks.{DeskView, AreInOrder, AreOwn, desk_at}

own_from : (first : ℕ) (desks : List DeskView) → map (λ (d : DeskView). d.member) desks ≡ range_with_len first (length desks)
    → (member : ℕ) → IfSome (desk_at (map Some desks) member) (λ (d : DeskView). d.member ≡ first + member)
own_from first [] e member = tt
own_from first (desk ∷ desks) e zero = let h : desk.member ≡ first = ap (λ (xs : List ℕ). get_or xs 0 0) e in omega arith
own_from first (desk ∷ desks) e (suc member) =
    let place : (first + 1) + member ≡ first + suc member = omega arith in
    subst (λ (n : ℕ). IfSome (desk_at (map Some desks) member) (λ (d : DeskView). d.member ≡ n)) place
    (own_from (first + 1) desks (ap (λ (xs : List ℕ). drop 1 xs) e) member)

pub own_in_order : (desks : List DeskView) → AreInOrder desks → AreOwn (map Some desks)
own_in_order desks e member =
    let place : 0 + member ≡ member = omega arith in
    subst (λ (n : ℕ). IfSome (desk_at (map Some desks) member) (λ (d : DeskView). d.member ≡ n)) place (own_from 0 desks e member)
