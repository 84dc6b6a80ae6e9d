use Rattle.std.proofs.Common.{◌∙◌, refl}
use Rattle.exec_reports.specs.Bodies.{execution_body}
use Rattle.exec_reports.proofs.Behind.{behind}
use Rattle.exec_reports.proofs.bodies.push_execution_report.Goals as goal

-- each field behind those before it, with the value that the report has for it
pub returns : goal.returns
unfolding execution_body
returns c =
    let out = c.reserve.new.self.items in
    let fields =
    behind out _ c.push_number_if-2.new.out.items _ c.push_code_if-2.new.out.items c.in_ok-push_code_if-2.ensures (
    behind out _ c.push_price_if-3.new.out.items _ c.push_number_if-2.new.out.items c.in_ok-push_number_if-2.ensures (
    behind out _ c.push_transact_time.new.out.items _ c.push_price_if-3.new.out.items c.in_ok-push_price_if-3.ensures (
    behind out _ c.push_average_field.new.out.items _ c.push_transact_time.new.out.items c.in_ok-push_transact_time.ensures (
    behind out _ c.push_count-2.new.out.items _ c.push_average_field.new.out.items c.in_ok-push_average_field.ensures (
    behind out _ c.push_count.new.out.items _ c.push_count-2.new.out.items c.in_ok-push_count-2.ensures (
    behind out _ c.push_price_if-2.new.out.items _ c.push_count.new.out.items c.in_ok-push_count.ensures (
    behind out _ c.push_number_if.new.out.items _ c.push_price_if-2.new.out.items c.in_ok-push_price_if-2.ensures (
    behind out _ c.push_price_if.new.out.items _ c.push_number_if.new.out.items c.in_ok-push_number_if.ensures (
    behind out _ c.push_byte_if.new.out.items _ c.push_price_if.new.out.items c.in_ok-push_price_if.ensures (
    behind out _ c.push_quantity.new.out.items _ c.push_byte_if.new.out.items c.in_ok-push_byte_if.ensures (
    behind out _ c.push_byte_field-3.new.out.items _ c.push_quantity.new.out.items c.in_ok-push_quantity.ensures (
    behind out _ c.push_field-2.new.out.items _ c.push_byte_field-3.new.out.items c.in_ok-push_byte_field-3.ensures (
    behind out _ c.push_code_if.new.out.items _ c.push_field-2.new.out.items c.in_ok-push_field-2.ensures (
    behind out _ c.push_byte_field-2.new.out.items _ c.push_code_if.new.out.items c.in_ok-push_code_if.ensures (
    behind out _ c.push_byte_field.new.out.items _ c.push_byte_field-2.new.out.items c.in_ok-push_byte_field-2.ensures (
    behind out _ c.push_exec_id_field.new.out.items _ c.push_byte_field.new.out.items c.in_ok-push_byte_field.ensures (
    behind out _ c.push_orig.new.out.items _ c.push_exec_id_field.new.out.items c.in_ok-push_exec_id_field.ensures (
    behind out _ c.push_field.new.out.items _ c.push_orig.new.out.items c.in_ok-push_orig.ensures (
    behind out _ c.push_order_id_field.new.out.items _ c.push_field.new.out.items c.in_ok-push_field.ensures (
    c.in_ok-push_order_id_field.ensures)))))))))))))))))))) in
    fields ∙ rw (
      c.in_ok-reserve.ensures.items,
      c.first_of.ensures,
      c.id_of.ensures,
      c.type_of_report.ensures,
      c.status_of.ensures,
      c.reason_of.ensures,
      c.side_of.ensures,
      c.type_of.ensures,
      c.limit_of.ensures,
      c.last_quantity_of.ensures,
      c.last_price_of.ensures,
      c.leaves_of.ensures,
      c.cum_of.ensures,
      c.notional_of.ensures,
      c.cum_of-2.ensures,
      c.price_of.ensures,
      c.time_of.ensures,
      c.rule_of.ensures,
    ) refl
