use Rattle.std.proofs.Common.{◌∙◌, refl}
use Rattle.exec_reports.specs.Bodies.{refusal_body}
use Rattle.exec_reports.proofs.Behind.{behind}
use Rattle.exec_reports.proofs.bodies.push_cancel_reject.Goals as goal

-- each field behind those before it, with the value that the report has for it
pub returns : goal.returns
unfolding refusal_body
returns c =
    let out = c.reserve.new.self.items in
    let fields =
    behind out _ c.push_transact_time.new.out.items _ c.push_code_if-2.new.out.items c.in_ok-push_code_if-2.ensures (
    behind out _ c.push_code_if.new.out.items _ c.push_transact_time.new.out.items c.in_ok-push_transact_time.ensures (
    behind out _ c.push_byte_if.new.out.items _ c.push_code_if.new.out.items c.in_ok-push_code_if.ensures (
    behind out _ c.push_byte_field.new.out.items _ c.push_byte_if.new.out.items c.in_ok-push_byte_if.ensures (
    behind out _ c.push_orig.new.out.items _ c.push_byte_field.new.out.items c.in_ok-push_byte_field.ensures (
    behind out _ c.push_field.new.out.items _ c.push_orig.new.out.items c.in_ok-push_orig.ensures (
    behind out _ c.push_order_id_field.new.out.items _ c.push_field.new.out.items c.in_ok-push_field.ensures (
    c.in_ok-push_order_id_field.ensures))))))) in
    fields ∙ rw (
      c.in_ok-reserve.ensures.items,
      c.first_of.ensures,
      c.id_of.ensures,
      c.status_of.ensures,
      c.answer_of.ensures,
      c.refusal_of.ensures,
      c.rule_of.ensures,
    ) refl
