use Rattle.std.proofs.Common.{◌≡◌, List, Option, Some, None, true, false, sym, ◌∙◌, ℕ, slice_get, inr}
use Rattle.std.specs.Option.{MatchOption}
use Rattle.limit_tree.specs.Order.{is_held}
use Rattle.venue_words.specs.Peg.{row_value}
use Rattle.venue_words.specs.declared.row.Key.{Key}
use Rattle.peg_groups.specs.Group.{time_in, value_from}
use Rattle.peg_groups.specs.Groups.{NoneIn, PricesRow}
use Rattle.peg_groups.specs.declared.group.Group.{Group}
use Rattle.peg_groups.proofs.GroupSteps.{there}
use Rattle.peg_groups.proofs.Pairs.{not_held_of}
use Rattle.peg_groups.proofs.groups.look_up.Goals as goal

outcome : (entries : List (Key × Group)) (i : ℕ) (key k : Key) (found group : Group) (cap entry : ℕ) (o : Option (Option ℕ × ℕ)) → slice_get entries i ≡ Some (key, found) → slice_get entries i ≡ Some (k, group) → MatchOption o (is_held cap entry group.tree ≡ false) (λ pair. (is_held cap entry group.tree ≡ true) × (pair.0 ≡ row_value (value_from group.moves.current) cap) × (pair.1 ≡ time_in group.moves cap entry)) → MatchOption o (NoneIn key cap entry entries) (λ pair. PricesRow key cap entry entries pair.0 pair.1)
outcome entries i key k found group cap entry None f h m = let e : key ≡ k = (there (key, found) (sym f ∙ h)).key_is in inr (i, group, rw e h, not_held_of cap entry group.tree m)
outcome entries i key k found group cap entry (Some pair) f h m = let e : key ≡ k = (there (key, found) (sym f ∙ h)).key_is in record { i = i; group = group; at = rw e h; held = m.0; value_is = m.1; time_is = m.2 }

pub returns-in-Some-clause-found : goal.returns-in-Some-clause-found
returns-in-Some-clause-found g c =
    let f = c.in-Some.ensures.found in
    let m = c.price_at.ensures.found in
    outcome c.args.groups.now.entries c.in-Some.i c.args.key m.0 f.0 m.1 c.args.cap c.args.entry c.price_at.result f.1 m.2 m.3
