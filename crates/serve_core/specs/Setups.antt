-- Why a run does not begin.
use Rattle.program_words.specs.declared.WordFault.{WordFault}
use Rattle.program_words.specs.declared.WordFault.TheVariants as word
use Rattle.line_reader.specs.declared.config_file.ConfigFault.{ConfigFault}
use Rattle.line_reader.specs.declared.config_file.ConfigFault.TheVariants as fault
use Rattle.serve_core.specs.declared.setup.SetupFault.{SetupFault}
use Rattle.serve_core.specs.declared.setup.SetupFault.TheVariants.{BadWords, BadLine, LimitLine, ReadFault, NoMemory}

-- there is no plan
abbrev pub of_words : WordFault → SetupFault
of_words word.BadWords = BadWords
of_words word.NoMemory = NoMemory

-- there is no config
abbrev pub of_config : ConfigFault → SetupFault
of_config (fault.Bad line cause) = BadLine line cause
of_config (fault.Limit line which) = LimitLine line which
of_config fault.ReadFault = ReadFault
of_config fault.NoMemory = NoMemory
