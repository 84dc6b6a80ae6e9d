use Rattle.std.proofs.Common.{◌≡◌, ◌≢◌, sym, ◌∙◌, rules}
use Rattle.limit_tree.specs.Link.{link_rows}
use Rattle.limit_tree.specs.Order.{highest_cap}
use Rattle.limit_tree.proofs.Highest.{highest-without}
use Rattle.limit_tree.proofs.tree.LimitTree.cut.Goals as goal

pub invariant_of-self-else-cap-self : goal.invariant_of-self-else-cap-self
invariant_of-self-else-cap-self g c =
    let old : highest_cap (link_rows c.self.inside.root) ≡ c.self.inside.greatest = sym c.self.invariant in
    let other : c.args.cap ≢ highest_cap (link_rows c.self.inside.root) = rw old c.if-cap-self.false in
    rw c.cut_from-found.ensures.rows (sym old ∙ sym (highest-without c.args.cap c.args.entry (link_rows c.self.inside.root) other))

pub invariant_of-self : goal.invariant_of-self
invariant_of-self g c = search rules
