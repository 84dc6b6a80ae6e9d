use Rattle.std.proofs.Common.{◌≡◌, List, Some, None, true, sym, ◌∙◌, ℕ, slice_get}
use Rattle.limit_tree.specs.Order.{row_at, is_held}
use Rattle.venue_words.specs.declared.row.Key.{Key}
use Rattle.peg_groups.specs.declared.group.Group.{Group}
use Rattle.peg_groups.specs.Groups.{NoneBefore}
use Rattle.peg_groups.proofs.GroupSteps.{there}
use Rattle.peg_groups.proofs.Pairs.{held_row}
use Rattle.peg_groups.proofs.Scan.{upto_all}
use Rattle.peg_groups.proofs.first.take_in.Goals as goal

no_row : (entries : List (Key × Group)) (i : ℕ) (key k : Key) (found group : Group) (cap entry : ℕ) → slice_get entries i ≡ Some (key, found) → slice_get entries i ≡ Some (k, group) → is_held cap entry found.tree ≡ true → row_at cap entry group.tree ≡ None → ⊥
no_row entries i key k found group cap entry f h held none =
    let e : found ≡ group = (there (key, found) (sym f ∙ h)).group_is in
    let r = held_row cap entry group.tree (rw e at held) in
    let k = sym none ∙ r.1 in cc

pub unreachable-requires : goal.unreachable-requires
unreachable-requires g c =
    let b = c.requires.best in
    let m = c.in-None.ensures.cut in
    no_row c.args.groups.now.entries c.args.i b.key m.0 b.group m.1 c.args.best.cap c.args.best.entry b.at m.2 b.held m.3.0

pub returns-clause-first : goal.returns-clause-first
returns-clause-first g c =
    let b = c.requires.best in
    let m = c.in-Some.ensures.cut in
    let e : b.group ≡ m.1 = (there (b.key, b.group) (sym b.at ∙ m.2)).group_is in
    record {
      key = m.0;
      leaves = record { i = c.args.i; group = m.1; at = m.2; row_is = m.3.0; left = m.3.1 };
      active = rw e at b.active;
      value_is = rw e at b.value_is;
      time_is = rw e at b.time_is;
      first = upto_all (NoneBefore c.args.best) c.args.groups.now.entries b.first;
    }
