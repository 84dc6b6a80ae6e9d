use Rattle.std.proofs.Common.{rules, ◌≡◌, ◌++◌, ℕ, List, IfSome, sym, ◌∙◌, ap, subst}
use Rattle.day_journal.specs.Log.{reading, intact}
use Rattle.live_core.specs.Lines.{kept, output}
use Rattle.journal_follow.specs.Following.{FollowView, HasFollowed, GoesFurther, IsFound}
use Rattle.journal_follow.specs.declared.piece.Stop.TheVariants.{Closed}
use Rattle.journal_follow.proofs.Looking.{if_then, followed}
use Rattle.journal_follow.proofs.following.Follower.look.Goals as goal

pub returns-then-eq-2-clause-followed : goal.returns-then-eq-2-clause-followed
returns-then-eq-2-clause-followed g c past was =
    let yields = g.M.Machine.yields in
    let told = g.J.JournalFile.told in
    let t = subst (λ (v : FollowView g.row.M.Denot). HasFollowed (g.M.Machine.has_taken v.machine) (told c.args.file.now) v.size past) (sym c.self.view_is) was in
    let lines : List (List ℕ) = c.in_ok-lines.field-0.lines.items in
    let stop = c.in_ok-lines.field-0.stop in
    let there : IfSome (told c.next_lines.new.file) (IsFound past lines stop) = c.in_ok-lines.ensures.found past t.size t.front in
    let worked = subst (λ (ls : List (List ℕ)). (kept yields past ls ≡ ls) × (c.work.new.out.items ≡ c.clear-2.new.self.items ++ output yields past ls)
    × g.M.Machine.has_taken c.work.new.machine (past ++ ls)) c.deref.ensures.value (c.in_ok-work.ensures.worked past t.taken) in
    let front = followed (g.M.Machine.has_taken c.work.new.machine) (told c.next_lines.new.file) c.self.inside.gate c.in_ok-lines.field-0.size past lines stop
    t.size c.in_ok-lines.ensures.size.0 worked.2 there in
    let further : GoesFurther yields past lines c.work.new.out.items =
    record { each = worked.0; text = worked.1 ∙ ap (λ (o : List ℕ). o ++ output yields past lines) c.clear-2.ensures.items } in
    let closed : stop ≡ Closed = search rules in
    (front, further, if_then (told c.next_lines.new.file) (IsFound past lines stop) (λ f. reading f ≡ intact (past ++ lines)) (λ f (found : IsFound past lines stop f). found.closed closed) there)

pub returns-clause-followed : goal.returns-clause-followed
returns-clause-followed g c past was =
    let yields = g.M.Machine.yields in
    let told = g.J.JournalFile.told in
    let t = subst (λ (v : FollowView g.row.M.Denot). HasFollowed (g.M.Machine.has_taken v.machine) (told c.args.file.now) v.size past) (sym c.self.view_is) was in
    let lines : List (List ℕ) = c.in_ok-lines.field-0.lines.items in
    let stop = c.in_ok-lines.field-0.stop in
    let there : IfSome (told c.next_lines.new.file) (IsFound past lines stop) = c.in_ok-lines.ensures.found past t.size t.front in
    let worked = subst (λ (ls : List (List ℕ)). (kept yields past ls ≡ ls) × (c.work.new.out.items ≡ c.clear-2.new.self.items ++ output yields past ls)
    × g.M.Machine.has_taken c.work.new.machine (past ++ ls)) c.deref.ensures.value (c.in_ok-work.ensures.worked past t.taken) in
    let front = followed (g.M.Machine.has_taken c.work.new.machine) (told c.next_lines.new.file) c.self.inside.gate c.in_ok-lines.field-0.size past lines stop
    t.size c.in_ok-lines.ensures.size.0 worked.2 there in
    let further : GoesFurther yields past lines c.work.new.out.items =
    record { each = worked.0; text = worked.1 ∙ ap (λ (o : List ℕ). o ++ output yields past lines) c.clear-2.ensures.items } in
    (front, further, tt)
