use Rattle.std.proofs.Common.{◌≡◌, List, Option, Some, None, ap, sym, ◌∙◌, ℕ, slice_get}
use Rattle.std.specs.Option.{MatchOption, option_map}
use Rattle.std.specs.declared.boxed.Box.{Box}
use Rattle.std.specs.declared.alloc.Global.{Global}
use Rattle.limit_tree.specs.Part.{Part}
use Rattle.limit_tree.specs.Order.{row_at, without_row}
use Rattle.indexmap.specs.IndexMap.{set_value_at}
use Rattle.venue_words.specs.declared.row.Key.{Key}
use Rattle.venue_words.specs.declared.row.Row.{Row}
use Rattle.peg_groups.specs.Groups.{with_rows}
use Rattle.peg_groups.specs.declared.group.Group.{Group}
use Rattle.peg_groups.proofs.Pairs.{none_left, set_same}
use Rattle.peg_groups.proofs.groups.cut_in.Goals as goal

outcome : (entries new : List (Key × Group)) (i : ℕ) (key : Key) (group : Group) (cap entry : ℕ) (o : Option (Box Part Global)) → slice_get entries i ≡ Some (key, group) → option_map (λ node. node.value.row) o ≡ row_at cap entry group.tree → new ≡ set_value_at entries i (with_rows group (without_row cap entry group.tree)) → MatchOption o ((row_at cap entry group.tree ≡ None) × (new ≡ entries)) (λ node. (row_at cap entry group.tree ≡ Some node.value.row) × (new ≡ set_value_at entries i (with_rows group (without_row cap entry group.tree))))
outcome entries new i key group cap entry None h f n = (sym f, n ∙ ap (λ (rows : List Row). set_value_at entries i (with_rows group rows)) (none_left cap entry group.tree (sym f)) ∙ set_same entries i key group h)
outcome entries new i key group cap entry (Some node) h f n = (sym f, n)

pub returns-clause-cut : goal.returns-clause-cut
returns-clause-cut g c = (_, _, c.pair_mut-group.ensures.value, outcome _ _ c.args.i _ c.pair_mut-group.result.1.now c.args.cap c.args.entry c.cut.result c.pair_mut-group.ensures.value c.cut.ensures.found (ap (λ (rows : List Row). set_value_at c.args.groups.now.entries c.args.i (with_rows c.pair_mut-group.result.1.now rows)) c.cut.ensures.rows))
