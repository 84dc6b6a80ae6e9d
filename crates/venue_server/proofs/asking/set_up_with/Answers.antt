-- What came of the words is what came of the config's file, and then of the drop session's plan.
use Rattle.std.proofs.Common.{ℕ, List, rules}
use Rattle.line_reader.specs.ConfigFile.{config_file}
use Rattle.venue_words.specs.declared.config.Config.{Config}
use Rattle.venue_words.specs.declared.limits.TheConstants.{MAX_CONFIG_BYTES}
use Rattle.venue_server.specs.Asking.{IsUnlawful}
use Rattle.venue_server.proofs.Asked.{meets_fault, meets_refused, missing_as, not_missing, of_file}
use Rattle.venue_server.proofs.asking.set_up_with.Goals as goal

pub returns-in-Ok-copies_if_planned-clause-plan : goal.returns-in-Ok-copies_if_planned-clause-plan
returns-in-Ok-copies_if_planned-clause-plan g c = search rules

pub returns-in-Err-clause-meant : goal.returns-in-Err-clause-meant
returns-in-Err-clause-meant g c plan is =
    of_file (g.H.Shelf.told c.args.shelf.now) plan.config _ _
    (λ (text : List ℕ) meets. meets_fault (λ (config : Config). IsUnlawful config c.args.session) (config_file MAX_CONFIG_BYTES text) c.in-Err.fault meets)
    (c.in-Err.ensures.meant plan is)

pub returns-in-Err-clause-missing : goal.returns-in-Err-clause-missing
returns-in-Err-clause-missing g c plan is =
    missing_as (g.H.Shelf.told c.args.shelf.now) plan.config c.in-Err.fault (c.in-Err.ensures.missing plan is)

pub returns-in-Ok-copies_if_planned-clause-missing : goal.returns-in-Ok-copies_if_planned-clause-missing
returns-in-Ok-copies_if_planned-clause-missing g c plan is =
    not_missing (g.H.Shelf.told c.args.shelf.now) plan.config c.in-Ok.setup _ (c.in-Ok.ensures.missing plan is)

pub returns-in-Err-copies_if_planned-clause-meant : goal.returns-in-Err-copies_if_planned-clause-meant
returns-in-Err-copies_if_planned-clause-meant g c plan is =
    of_file (g.H.Shelf.told c.args.shelf.now) plan.config _ _
    (λ (text : List ℕ) meets. meets_refused (λ (config : Config). IsUnlawful config c.args.session) (config_file MAX_CONFIG_BYTES text)
    c.in-Ok.setup.1 meets.0 c.in-Err-copies_if_planned.fault meets.1 c.in-Err-copies_if_planned.ensures.refused)
    (c.in-Ok.ensures.meant plan is)

pub returns-in-Err-copies_if_planned-clause-missing : goal.returns-in-Err-copies_if_planned-clause-missing
returns-in-Err-copies_if_planned-clause-missing g c plan is =
    not_missing (g.H.Shelf.told c.args.shelf.now) plan.config c.in-Ok.setup _ (c.in-Ok.ensures.missing plan is)
