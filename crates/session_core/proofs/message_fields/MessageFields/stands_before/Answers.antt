-- The fields that are passed over lack the tag.
use Rattle.std.proofs.Common.{◌≡◌, List, ◌∙◌, ap, arith, rules}
use Rattle.std.specs.Prelude.{is_some}
use Rattle.std.specs.List.{slice_range}
use Rattle.fix_fields.specs.declared.field.Field.{Field}
use Rattle.session_core.specs.Lookup.{value_of}
use Rattle.session_core.proofs.Starting.{value_between}
use Rattle.session_core.proofs.message_fields.MessageFields.stands_before.Goals as goal

pub returns-then-start-place : goal.returns-then-start-place
returns-then-start-place c =
    let tag = c.args.tag in
    let start = c.start_of-start.result in
    let place = c.args.place in
    let found : c.is_some.result ≡ is_some (value_of tag (slice_range c.deref.result.now start place)) = search rules in
    found
    ∙ ap (λ (fields : List Field). is_some (value_of tag (slice_range fields start place))) (c.deref.ensures.value ∙ c.self.view_is)
    ∙ ap is_some (value_between tag start place c.args.self.now (omega arith) (c.start_of-start.ensures.in_time start (omega arith)))
