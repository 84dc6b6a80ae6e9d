use Rattle.std.proofs.Common.{ℕ, rules, Option, sym, ◌∙◌, subst}
use Rattle.feeds_core.specs.Naming.{Notes}
use Rattle.feeds_core.proofs.Namings.{notes_new, notes_old}
use Rattle.feeds_core.proofs.naming.note.Goals as goal

pub returns-in_ok-push : goal.returns-in_ok-push
returns-in_ok-push c =
    subst (λ (n : Option ℕ). Notes n c.args.number c.args.named.now.items c.push.new.self.items) (sym c.in-Some.is ∙ c.named_by.ensures)
    (notes_new c.in-Some.member c.args.number c.args.named.now.items c.push.new.self.items c.in_ok-push.ensures.items)

pub returns-else-not-has_name : goal.returns-else-not-has_name
returns-else-not-has_name c =
    subst (λ (n : Option ℕ). Notes n c.args.number c.args.named.now.items c.args.named.now.items) (sym c.in-Some.is ∙ c.named_by.ensures)
    (notes_old c.in-Some.member c.args.number c.args.named.now.items (search rules))
