use Rattle.std.proofs.Common.{rules}
use Rattle.peg_groups.specs.Groups.{has_rows}
use Rattle.indexmap.proofs.CallerLemmas.{filter-RetainsPairs}
use Rattle.peg_groups.proofs.room.drop_empty.Goals as goal

pub returns-clause-entries : goal.returns-clause-entries
returns-clause-entries g c = filter-RetainsPairs _ has_rows _ (λ k v b w g call. search rules) _ _ c.retain.ensures.filtered
