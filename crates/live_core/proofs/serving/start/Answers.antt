use Rattle.std.proofs.Common.{◌≡◌, [], subst}
use Rattle.live_core.specs.Lines.{kept, IsResumed}
use Rattle.live_core.proofs.Laws.{refused-not}
use Rattle.live_core.proofs.serving.start.Goals as goal

pub returns-in-Ok-Refused-clause-cause : goal.returns-in-Ok-Refused-clause-cause
returns-in-Ok-Refused-clause-cause g c all =
    let r = subst (IsResumed g.M.Machine.yields (g.M.Machine.has_taken c.resume.new.machine) c.args.had.now) c.in-Ok-Refused.field-0-is c.in-Ok-Refused.ensures.resumed in
    refused-not g.M.Machine.yields r.0 r.1 r.2 r.5 r.6 (subst (λ l. kept g.M.Machine.yields [] l ≡ l) r.3 all)
