use Rattle.std.proofs.Common.{rules}
use Rattle.order_fields.specs.Tables.{behind_id, required_of}
use Rattle.order_fields.proofs.tables.required_of.Goals as goal

pub returns-in-ReplaceRequest : goal.returns-in-ReplaceRequest
unfolding required_of behind_id
returns-in-ReplaceRequest c = search rules
