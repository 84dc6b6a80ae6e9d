use Rattle.std.proofs.Common.{◌≡◌, ℕ, List, sym, ◌∙◌, ap, subst}
use Rattle.day_journal.specs.Log.{reading, intact}
use Rattle.live_core.specs.Live.{Stands, Ran, Whole}
use Rattle.live_core.specs.Serving.{started, Lives, LivesWhole, Served}
use Rattle.live_core.proofs.Openings.{before_rounds, narrow, not_started, lived, lived_whole, unopened_not, unstarted_not}
use Rattle.day_journal.specs.DiskLaws.{weaker}
use Rattle.live_core.proofs.serving.serve_day.Goals as goal

pub returns-in-Err-start-clause-day : goal.returns-in-Err-start-clause-day
returns-in-Err-start-clause-day g c honest =
    let told = g.D.Disk.told in
    let had : List (List ℕ) = c.deref.result.now in
    let head : List (List ℕ) = c.args.head.items in
    let found : reading (told c.args.disk).seen ≡ intact had = c.in-Ok.ensures.found honest ∙ ap intact (sym c.deref.ensures.value) in
    let reads = g.met.D.Disk.as_it_reads c.args.disk honest in
    let stands : Stands had (told c.in-Ok.opened.0.disk) = subst (λ l. Stands l (told c.in-Ok.opened.0.disk)) (sym c.deref.ensures.value) (c.in-Ok.ensures.stands honest) in
    subst (λ d. Served g.M.Machine.yields head (g.E.Edge.brought c.args.edge.now) (g.E.Edge.brought c.args.edge.now) (g.E.Edge.told c.args.edge.now) (g.E.Edge.told c.args.edge.now) (told c.args.disk) (told d) c.in-Err-start.end) (sym c.close.ensures)
    (not_started (told c.args.disk) had found reads g.M.Machine.yields head (g.E.Edge.brought c.args.edge.now) (g.E.Edge.told c.args.edge.now) (told c.start.new.log.disk) c.in-Err-start.end c.in-Err-start.ensures.cause
    (before_rounds (told c.args.disk) had found reads head (told c.in-Ok.opened.0.disk) (told c.start.new.log.disk) (c.in-Ok.ensures.any_moment honest)
    (weaker _ _ _ _ (c.start.ensures.any_moment stands) (narrow had head))))

pub returns-clause-day : goal.returns-clause-day
returns-clause-day g c honest =
    let told = g.D.Disk.told in
    let had : List (List ℕ) = c.deref.result.now in
    let head : List (List ℕ) = c.args.head.items in
    let found : reading (told c.args.disk).seen ≡ intact had = c.in-Ok.ensures.found honest ∙ ap intact (sym c.deref.ensures.value) in
    let reads = g.met.D.Disk.as_it_reads c.args.disk honest in
    let stands : Stands had (told c.in-Ok.opened.0.disk) = subst (λ l. Stands l (told c.in-Ok.opened.0.disk)) (sym c.deref.ensures.value) (c.in-Ok.ensures.stands honest) in
    let ran-0 = c.live-end.ensures.ran (started had head) c.in-Ok-start.ensures.has_taken in
    let ran-1 = subst (λ b. Ran g.M.Machine.yields (started had head) b (g.E.Edge.brought c.live-end.new.edge) (g.E.Edge.told c.begin.new.self) (g.E.Edge.told c.live-end.new.edge) (told c.start.new.log.disk) (told c.live-end.new.log.disk))
    c.begin.ensures.brought ran-0 in
    let ran = subst (λ t. Ran g.M.Machine.yields (started had head) (g.E.Edge.brought c.args.edge.now) (g.E.Edge.brought c.live-end.new.edge) t (g.E.Edge.told c.live-end.new.edge) (told c.start.new.log.disk) (told c.live-end.new.log.disk))
    c.begin.ensures.told ran-1 in
    subst (λ d. Lives g.M.Machine.yields head (g.E.Edge.brought c.args.edge.now) (g.E.Edge.brought c.live-end.new.edge) (g.E.Edge.told c.args.edge.now) (g.E.Edge.told c.live-end.new.edge) (told c.args.disk) (told d)) (sym c.close-2.ensures)
    (lived (told c.args.disk) had found reads g.M.Machine.yields head (g.E.Edge.brought c.args.edge.now) (g.E.Edge.brought c.live-end.new.edge) (g.E.Edge.told c.args.edge.now) (g.E.Edge.told c.live-end.new.edge)
    (told c.in-Ok.opened.0.disk) (told c.start.new.log.disk) (told c.live-end.new.log.disk)
    c.in-Ok-start.ensures.begins c.in-Ok-start.ensures.taken (c.in-Ok.ensures.any_moment honest) (c.start.ensures.any_moment stands) (c.in-Ok-start.ensures.stands stands)
    ran)

pub returns-in-Err-clause-whole : goal.returns-in-Err-clause-whole
returns-in-Err-clause-whole g c honest stopped = absurd (unopened_not (reading (g.D.Disk.told c.args.disk).seen) c.in-Err.refused.0 (c.in-Err.ensures.cause honest) stopped)

pub returns-in-Err-start-clause-whole : goal.returns-in-Err-start-clause-whole
returns-in-Err-start-clause-whole g c honest stopped = absurd (unstarted_not g.M.Machine.yields c.args.head.items c.deref.result.now c.in-Err-start.end c.in-Err-start.ensures.cause stopped)

pub returns-clause-whole : goal.returns-clause-whole
returns-clause-whole g c honest stopped =
    let told = g.D.Disk.told in
    let had : List (List ℕ) = c.deref.result.now in
    let head : List (List ℕ) = c.args.head.items in
    let is = g.M.Machine.has_taken c.live-end.new.machine in
    let found : reading (told c.args.disk).seen ≡ intact had = c.in-Ok.ensures.found honest ∙ ap intact (sym c.deref.ensures.value) in
    let reads = g.met.D.Disk.as_it_reads c.args.disk honest in
    let stands : Stands had (told c.in-Ok.opened.0.disk) = subst (λ l. Stands l (told c.in-Ok.opened.0.disk)) (sym c.deref.ensures.value) (c.in-Ok.ensures.stands honest) in
    let whole-0 = c.live-end.ensures.whole (started had head) c.in-Ok-start.ensures.has_taken stopped in
    let whole-1 = subst (λ b. Whole g.M.Machine.yields is (started had head) b (g.E.Edge.brought c.live-end.new.edge) (g.E.Edge.told c.begin.new.self) (g.E.Edge.told c.live-end.new.edge) (told c.start.new.log.disk) (told c.live-end.new.log.disk))
    c.begin.ensures.brought whole-0 in
    let whole = subst (λ t. Whole g.M.Machine.yields is (started had head) (g.E.Edge.brought c.args.edge.now) (g.E.Edge.brought c.live-end.new.edge) t (g.E.Edge.told c.live-end.new.edge) (told c.start.new.log.disk) (told c.live-end.new.log.disk))
    c.begin.ensures.told whole-1 in
    subst (λ d. LivesWhole g.M.Machine.yields head (g.E.Edge.brought c.args.edge.now) (g.E.Edge.brought c.live-end.new.edge) (g.E.Edge.told c.args.edge.now) (g.E.Edge.told c.live-end.new.edge) (told c.args.disk) (told d)) (sym c.close-2.ensures)
    (lived_whole (told c.args.disk) had found reads g.M.Machine.yields is head (g.E.Edge.brought c.args.edge.now) (g.E.Edge.brought c.live-end.new.edge) (g.E.Edge.told c.args.edge.now) (g.E.Edge.told c.live-end.new.edge)
    (told c.start.new.log.disk) (told c.live-end.new.log.disk) (c.in-Ok-start.ensures.stands stands) whole)
