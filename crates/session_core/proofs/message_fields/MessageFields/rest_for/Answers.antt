-- The fields that are passed over lack the tag.
use Rattle.std.proofs.Common.{List, drop, ◌∙◌, ap, arith}
use Rattle.std.proofs.lemmas.List.{take_rest}
use Rattle.fix_fields.specs.declared.field.Field.{Field}
use Rattle.session_core.specs.Lookup.{value_of}
use Rattle.session_core.proofs.Starting.{value_from}
use Rattle.session_core.proofs.message_fields.MessageFields.rest_for.Goals as goal

pub returns : goal.returns
returns c =
    let tag = c.args.tag in
    let start = c.start_of.result in
    ap (value_of tag) (take_rest c.deref.result.now start)
    ∙ ap (λ (fields : List Field). value_of tag (drop start fields)) (c.deref.ensures.value ∙ c.self.view_is)
    ∙ value_from tag start c.args.self.now (c.start_of.ensures.in_time start (omega arith))
