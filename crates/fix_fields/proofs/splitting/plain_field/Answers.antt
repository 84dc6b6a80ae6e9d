-- A field that begins with a tag ends at the first end behind its `=`.
use Rattle.std.proofs.Common.{◌+◌, ◌-◌, length, drop, subst, arith, length-drop, Result}
use Rattle.std.proofs.lemmas.List.{take_all}
use Rattle.fix_fields.specs.declared.field.FieldFault.{FieldFault}
use Rattle.fix_fields.specs.Fields.{Cut, CutsAs}
use Rattle.fix_fields.proofs.Fronts.{front_cut}
use Rattle.fix_fields.proofs.splitting.plain_field.Goals as goal

pub returns-in-Some-clause-value : goal.returns-in-Some-clause-value
returns-in-Some-clause-value c =
    let rest = c.args.rest.now in
    let before = c.in-Some.equals + 1 in
    subst (λ (meant : Result Cut FieldFault). CutsAs c.tagged_field.result meant)
    (front_cut c.args.at c.in-Some.tag c.in-Some.equals rest _ c.in-Some.ensures (take_all (length rest - before) (drop before rest) (omega (arith, length-drop before rest))))
    c.tagged_field.ensures.value
