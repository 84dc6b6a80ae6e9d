use Rattle.std.proofs.Common.{◌≡◌, Err, sym, ◌∙◌, ap}
use Rattle.serve_core.specs.declared.setup.SetupFault.TheVariants.{ReadFault}
use Rattle.serve_core.proofs.Faults.{words_are_read, config_read}
use Rattle.serve_core.proofs.setup.serve_setup.Goals as goal

pub returns-in-Err-clause-read : goal.returns-in-Err-clause-read
returns-in-Err-clause-read g c e =
    let h : c.of_words.result ≡ ReadFault = cc in
    absurd (words_are_read c.in-Err.fault (sym c.of_words.ensures ∙ h))

pub returns-in-Err-read_config-clause-read : goal.returns-in-Err-read_config-clause-read
returns-in-Err-read_config-clause-read g c e =
    let h : c.of_config.result ≡ ReadFault = cc in
    c.in-Err-read_config.ensures.fault (ap Err (config_read c.in-Err-read_config.fault (sym c.of_config.ensures ∙ h)))
