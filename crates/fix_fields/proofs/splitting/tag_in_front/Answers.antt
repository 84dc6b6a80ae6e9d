-- Digits are read one by one, and spell a tag.
use Rattle.std.proofs.Common.{◌-◌, get_or, arith, rules, ◌∙◌, sym}
use Rattle.fix_fields.proofs.Numerals.{digits_value_next, digits_next, room_next}
use Rattle.fix_fields.proofs.Fronts.{spells}
use Rattle.fix_fields.proofs.splitting.tag_in_front.Goals as goal

pub returns-then-byte-eq61 : goal.returns-then-byte-eq61
returns-then-byte-eq61 c =
    let i = c.loop-i.invariant in record {
      spelled = spells c.args.bytes.now c.loop-i.i c.loop-i.tag (omega arith) (omega arith) (search rules) (search rules) i.digits i.value;
      digits = i.digits;
      within = omega arith;
      equals = c.if-byte-eq61.true;
    }

pub loop-i-preserved : goal.loop-i-preserved
loop-i-preserved c =
    let digit = c.if-not-is_ascii_digit.ensures.cases in
    record {
      few = omega arith;
      digits = digits_next c.args.bytes.now c.loop-i.i (omega arith) (sym c.is_ascii_digit.ensures.value ∙ c.if-not-is_ascii_digit.false) c.loop-i.invariant.digits;
      value = digits_value_next c.args.bytes.now c.loop-i.i c.loop-i.tag (omega arith) digit.0 digit.1 c.loop-i.invariant.value;
      room = room_next c.loop-i.i c.loop-i.tag (get_or c.args.bytes.now c.loop-i.i 0 - 48) c.loop-i.invariant.room (omega (arith, digit));
    }
