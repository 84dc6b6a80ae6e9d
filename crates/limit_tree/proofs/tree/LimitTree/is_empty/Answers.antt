use Rattle.std.proofs.Common.{◌≡◌, List, [], ◌∷◌, ◌++◌, false, refl, ap, ◌∙◌}
use Rattle.venue_words.specs.declared.row.Row.{Row}
use Rattle.limit_tree.specs.Link.{link_rows}
use Rattle.limit_tree.specs.Order.{is_empty}
use Rattle.limit_tree.proofs.tree.LimitTree.is_empty.Goals as goal

some_row : (front back : List Row) (row : Row) → false ≡ is_empty (front ++ row ∷ back)
some_row [] back row = refl
some_row (first ∷ front) back row = refl

pub returns-in-Some : goal.returns-in-Some
returns-in-Some c = rw (← c.self.view_is, ap link_rows c.in-Some.is, ← ap (λ p. p.rows) (c.top.view_is ∙ c.deref-top.ensures)) (some_row _ _ _)
