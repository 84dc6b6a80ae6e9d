-- A line that was taken is within the limit.
use Rattle.std.proofs.Common.{◌≡◌, ◌≤◌, ℕ, Bool, List, Option, false, nat_lt, sym, ◌∙◌, ap, arith}
use Rattle.line_reader.specs.Reading.{Reading}
use Rattle.line_reader.specs.NextLines.{HandsOut}

not_less : (a b : ℕ) → nat_lt a b ≡ false → b ≤ a
not_less a b e = grind arith

pub taken_within : (old new : Reading) (before left : Option (List ℕ)) (line : List ℕ) (is_over : Bool) → HandsOut old new before left line is_over
    → is_over ≡ false → new.bytes ≤ new.most
taken_within old new before left line is_over x calm =
    let most = ap (λ (r : Reading). r.most) x.next in
    let within = not_less old.most new.bytes (sym x.over ∙ calm) in
    omega (arith, most, within)
