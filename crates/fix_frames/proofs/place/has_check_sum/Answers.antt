-- The slices that are compared are the bytes from a place on.
use Rattle.std.proofs.Common.{◌≡◌, ◌+◌, ℕ, true, List, drop, ◌++◌, ◌∷◌, [], eqb, sym, ◌∙◌, ap}
use Rattle.std.specs.Prelude.{codes}
use Rattle.std.specs.List.{starts_with}
use Rattle.std.proofs.lemmas.List.{take_rest}
use Rattle.fix_frames.specs.Places.{has_check_sum}
use Rattle.fix_write.specs.Digits.{three_digits}
use Rattle.fix_frames.proofs.place.has_check_sum.Goals as goal

pub returns : goal.returns
unfolding has_check_sum
returns c =
    let bytes = c.args.bytes.now in
    let many = c.args.many in
    let opens : starts_with eqb (drop many bytes) (codes "10=") ≡ true = sym (c.if-not-starts_with.ensures.value ∙ ap (λ (r : List ℕ). starts_with eqb r (codes "10=")) (take_rest bytes many)) in
    rw opens (c.starts_with-2.ensures.value ∙ ap (λ (r : List ℕ). starts_with eqb r c.check_digits.result) (take_rest bytes (many + 3))
    ∙ ap (λ (ds : List ℕ). starts_with eqb (drop (many + 3) bytes) ds) (c.check_digits.ensures ∙ ap (λ (n : ℕ). three_digits n ++ 1 ∷ []) c.checksum-sum.ensures))
