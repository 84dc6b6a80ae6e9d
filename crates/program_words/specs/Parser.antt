-- The command that reads the words, as clap sees it: one positional that takes any number of words, and no flag.
use Rattle.std.specs.Prelude.{true, Some, codes}
use Rattle.clap.specs.Simple.{App, new_app, new_rule, on_top, with_rule}
use Rattle.clap.specs.Walk.{Rule}
use Rattle.clap.specs.declared.builder.action.ArgAction.TheVariants.{Append}

-- no name of the program among the words, no help, no version
abbrev pub settings : App → App
settings = on_top (λ s. record s {
  no_binary_name = true;
  disable_help_flag = true;
  disable_help_subcommand = true;
  disable_version_flag = true;
})

-- one positional of any number of values
abbrev pub word_rule : Rule
word_rule = record (new_rule (codes "word")) {
  action = Some Append;
  range = Some (record { start_inclusive = 0; end_inclusive = 18446744073709551615 });
}

abbrev pub parser : App
parser = with_rule (settings (new_app (codes "words"))) word_rule
