-- The digits that are appended are the number's.
use Rattle.std.proofs.Common.{arith, ◌∙◌}
use Rattle.fix_write.proofs.SmallDecimals.{laid_one, laid_two, laid_three, laid_four}
use Rattle.fix_write.proofs.digits.push_ended.Goals as goal

pub returns-in_ok-extend_from_slice : goal.returns-in_ok-extend_from_slice
returns-in_ok-extend_from_slice c =
    c.in_ok-extend_from_slice.ensures.items
    ∙ laid_four c.args.out.now.items _ _ _ _ c.args.number c.args.end (omega arith) (omega arith) c.digit.ensures
    c.digit-then-number-ge1000.ensures c.digit-then-number-ge1000-2.ensures c.digit-then-number-ge1000-3.ensures

pub returns-in_ok-extend_from_slice-2 : goal.returns-in_ok-extend_from_slice-2
returns-in_ok-extend_from_slice-2 c =
    c.in_ok-extend_from_slice-2.ensures.items
    ∙ laid_three c.args.out.now.items _ _ _ c.args.number c.args.end (omega arith) (omega arith) c.digit-then-number-ge100.ensures
    c.digit-then-number-ge100-2.ensures c.digit-then-number-ge100-3.ensures

pub returns-in_ok-extend_from_slice-3 : goal.returns-in_ok-extend_from_slice-3
returns-in_ok-extend_from_slice-3 c =
    c.in_ok-extend_from_slice-3.ensures.items
    ∙ laid_two c.args.out.now.items _ _ c.args.number c.args.end (omega arith) (omega arith) c.digit-then-number-ge10.ensures
    c.digit-then-number-ge10-2.ensures

pub returns-in_ok-extend_from_slice-4 : goal.returns-in_ok-extend_from_slice-4
returns-in_ok-extend_from_slice-4 c =
    c.in_ok-extend_from_slice-4.ensures.items
    ∙ laid_one c.args.out.now.items _ c.args.number c.args.end (omega arith) c.digit-else-number-ge10.ensures
