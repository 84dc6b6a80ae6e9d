use Rattle.std.proofs.Common.{arith, ◌≤◌, ◌^◌, lit<}
use Rattle.std.proofs.Math.Nat.{pow-le-pow_right}
use Rattle.quote_intake.proofs.prices.digits.Goals as goal

pub overflow_mul-value : goal.overflow_mul-value
overflow_mul-value c =
    let least : c.loop-byte.byte-index ≤ 8 = omega arith in
    let most : 10 ^ c.loop-byte.byte-index ≤ 10 ^ 8 = pow-le-pow_right (lit< tt) least in
    omega (arith, most, c.loop-byte.invariant.2)

pub overflow_add-value : goal.overflow_add-value
overflow_add-value c =
    let least : c.loop-byte.byte-index ≤ 8 = omega arith in
    let most : 10 ^ c.loop-byte.byte-index ≤ 10 ^ 8 = pow-le-pow_right (lit< tt) least in
    omega (arith, most, c.loop-byte.invariant.2)
