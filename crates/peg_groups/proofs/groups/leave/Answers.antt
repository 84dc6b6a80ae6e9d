use Rattle.std.proofs.Common.{◌≡◌, List, Option, Some, None, sym, ◌∙◌, ℕ, slice_get, inr}
use Rattle.std.specs.Option.{MatchOption}
use Rattle.std.specs.declared.boxed.Box.{Box}
use Rattle.std.specs.declared.alloc.Global.{Global}
use Rattle.limit_tree.specs.Part.{Part}
use Rattle.limit_tree.specs.Order.{row_at, without_row}
use Rattle.indexmap.specs.IndexMap.{set_value_at}
use Rattle.venue_words.specs.declared.row.Key.{Key}
use Rattle.peg_groups.specs.Groups.{with_rows, NoneIn, LeavesGroup}
use Rattle.peg_groups.specs.declared.group.Group.{Group}
use Rattle.peg_groups.proofs.GroupSteps.{there}
use Rattle.peg_groups.proofs.groups.leave.Goals as goal

outcome : (entries new : List (Key × Group)) (i : ℕ) (key k : Key) (found group : Group) (cap entry : ℕ) (o : Option (Box Part Global)) → slice_get entries i ≡ Some (key, found) → slice_get entries i ≡ Some (k, group) → MatchOption o ((row_at cap entry group.tree ≡ None) × (new ≡ entries)) (λ node. (row_at cap entry group.tree ≡ Some node.value.row) × (new ≡ set_value_at entries i (with_rows group (without_row cap entry group.tree)))) → MatchOption o (NoneIn key cap entry entries × (new ≡ entries)) (λ node. LeavesGroup key cap entry node.value.row entries new)
outcome entries new i key k found group cap entry None f h m = let e : key ≡ k = (there (key, found) (sym f ∙ h)).key_is in (inr (i, group, rw e h, m.0), m.1)
outcome entries new i key k found group cap entry (Some node) f h m = let e : key ≡ k = (there (key, found) (sym f ∙ h)).key_is in record { i = i; group = group; at = rw e h; row_is = m.0; left = m.1 }

pub returns-in-Some-clause-left : goal.returns-in-Some-clause-left
returns-in-Some-clause-left g c =
    let f = c.in-Some.ensures.found in
    let m = c.cut_in.ensures.cut in
    outcome c.args.groups.now.entries c.cut_in.new.groups.entries c.in-Some.i c.args.key m.0 f.0 m.1 c.args.cap c.args.entry c.cut_in.result f.1 m.2 m.3
