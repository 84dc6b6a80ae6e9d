-- Which faults of the words and of the config are failed reads.
use Rattle.std.proofs.Common.{◌≡◌, refl}
use Rattle.program_words.specs.declared.WordFault.{WordFault}
use Rattle.program_words.specs.declared.WordFault.TheVariants as word
use Rattle.line_reader.specs.declared.config_file.ConfigFault.{ConfigFault}
use Rattle.line_reader.specs.declared.config_file.ConfigFault.TheVariants as fault
use Rattle.serve_core.specs.declared.setup.SetupFault.TheVariants as setup
use Rattle.serve_core.specs.Setups.{of_words, of_config}

pub words_are_read : (f : WordFault) → of_words f ≡ setup.ReadFault → ⊥
words_are_read word.BadWords e = cc
words_are_read word.NoMemory e = cc

pub config_read : (f : ConfigFault) → of_config f ≡ setup.ReadFault → f ≡ fault.ReadFault
config_read (fault.Bad line cause) e = absurd (cc)
config_read (fault.Limit line which) e = absurd (cc)
config_read fault.ReadFault e = refl
config_read fault.NoMemory e = absurd (cc)
