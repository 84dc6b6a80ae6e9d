use Rattle.std.proofs.Common.{◌-◌, length, get_or, arith, ◌∙◌, sym}
use Rattle.fix_fields.proofs.Numerals.{digit_room, digits_value_next, digits_next, room_next}
use Rattle.fix_fields.proofs.forms.numeral.Goals as goal

pub overflow_mul-value : goal.overflow_mul-value
overflow_mul-value c =
    let room = digit_room c.loop-byte.value c.loop-byte.byte-index (length c.args.bytes.now) 0 c.loop-byte.invariant.room (omega arith) (omega arith) (omega arith) in
    omega arith

pub overflow_add-value : goal.overflow_add-value
overflow_add-value c =
    let digit = c.if-not-is_ascii_digit.ensures.cases in
    let room = digit_room c.loop-byte.value c.loop-byte.byte-index (length c.args.bytes.now) (get_or c.args.bytes.now c.loop-byte.byte-index 0 - 48) c.loop-byte.invariant.room (omega arith) (omega arith) (omega (arith, digit)) in
    omega arith

pub loop-byte-preserved : goal.loop-byte-preserved
loop-byte-preserved c =
    let digit = c.if-not-is_ascii_digit.ensures.cases in
    record {
      digits = digits_next c.args.bytes.now c.loop-byte.byte-index (omega arith) (sym c.is_ascii_digit.ensures.value ∙ c.if-not-is_ascii_digit.false) c.loop-byte.invariant.digits;
      value = digits_value_next c.args.bytes.now c.loop-byte.byte-index c.loop-byte.value (omega arith) digit.0 digit.1 c.loop-byte.invariant.value;
      room = room_next c.loop-byte.byte-index c.loop-byte.value (get_or c.args.bytes.now c.loop-byte.byte-index 0 - 48) c.loop-byte.invariant.room (omega (arith, digit));
    }
