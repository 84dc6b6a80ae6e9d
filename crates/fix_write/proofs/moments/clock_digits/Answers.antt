use Rattle.std.proofs.Common.{rules}
use Rattle.fix_write.specs.Digits.{three_digits, two_digits}
use Rattle.fix_write.specs.Moments.{clock_text}
use Rattle.fix_write.proofs.moments.clock_digits.Goals as goal

pub returns : goal.returns
unfolding clock_text two_digits three_digits
returns c = search rules
