-- What is said of the config that was read is said of every config that its file says.
use Rattle.std.proofs.Common.{◌≡◌, ◌⊎◌, inl, inr, ℕ, List, Option, Some, None, Ok, Err, IfSome, refl, sym, ◌∙◌, ap, subst}
use Rattle.std.specs.Prelude.{Result, IsNone}
use Rattle.io_edge.specs.Files.{Files, file_named}
use Rattle.venue_words.specs.declared.config.Config.{Config}
use Rattle.venue_words.specs.declared.limits.TheConstants.{MAX_CONFIG_BYTES}
use Rattle.line_reader.specs.ConfigFile.{Answer, config_file}
use Rattle.line_reader.specs.declared.config_file.ConfigFile.{ConfigFile}
use Rattle.line_reader.specs.declared.config_file.ConfigFault.{ConfigFault}
use Rattle.line_reader.specs.declared.config_file.ConfigFault.TheVariants.{NoMemory, ReadFault}
use Rattle.audit_core.specs.declared.audit.AuditRefusal.{AuditRefusal}
use Rattle.audit_core.specs.declared.audit.AuditRefusal.TheVariants.{Config as BadConfig}
use Rattle.audit_core.specs.Audited.{HasConfig, LacksConfig, SaysConfig}

-- it is said of the text that is there
pub at_text : (o : Option (List ℕ)) (P : List ℕ → Type 0) (text : List ℕ) → o ≡ Some text → IfSome o P → P text
at_text o P text is said = subst (λ (t : Option (List ℕ)). IfSome t P) is said

config_in : Answer → Config → Config
config_in (Ok said) other = said.0
config_in (Err fault) other = other

same_config : (files : Files) (name : List ℕ) (file : ConfigFile) (config : Config)
    → IfSome (file_named files name) (λ text. config_file MAX_CONFIG_BYTES text ≡ Ok (file.config, file.bytes))
    → HasConfig files name config → file.config ≡ config
unfolding config_in
same_config files name file config read has =
    let both = sym (at_text (file_named files name) (λ text. config_file MAX_CONFIG_BYTES text ≡ Ok (file.config, file.bytes)) has.text has.found read)
    ∙ has.says in
    ap (λ (answer : Answer). config_in answer config) both

pub for_config : (told : Option Files) (name : List ℕ) (file : ConfigFile) (P : Files → Config → Type 0)
    → IfSome told (λ files. IfSome (file_named files name) (λ text. config_file MAX_CONFIG_BYTES text ≡ Ok (file.config, file.bytes)))
    → IfSome told (λ files. P files file.config)
    → IfSome told (λ all. (config : Config) → HasConfig all name config → P all config)
for_config None name file P read said = tt
for_config (Some files) name file P read said = λ config has.
    subst (P files) (same_config files name file config read has) said

-- ---- a file that is there

abbrev pub IsThere : Option Files → List ℕ → Type 0
IsThere all name = IfSome all (λ files. IsNone (file_named files name) → ⊥)

pub text_of : (file : Option (List ℕ)) → (IsNone file → ⊥) → (text : List ℕ) × (file ≡ Some text)
text_of None there = absurd (there refl)
text_of (Some text) there = (text, refl)

no_config_fault : (r : Result ConfigFile ConfigFault) (file : ConfigFile) → r ≡ Ok file
    → (r ≡ Err ReadFault) ⊎ (r ≡ Err NoMemory) → ⊥
no_config_fault r file is (inl e) = cc
no_config_fault r file is (inr e) = cc

-- a config was read only of a file that is there
pub config_there : (all : Option Files) (name : List ℕ) (r : Result ConfigFile ConfigFault) (file : ConfigFile) → r ≡ Ok file
    → IfSome all (λ files. IsNone (file_named files name) → (r ≡ Err ReadFault) ⊎ (r ≡ Err NoMemory)) → IsThere all name
config_there None name r file is missing = tt
config_there (Some files) name r file is missing = λ none. no_config_fault r file is (missing none)

pub says_config : (files : Files) (name : List ℕ) (file : ConfigFile) → (IsNone (file_named files name) → ⊥)
    → IfSome (file_named files name) (λ text. config_file MAX_CONFIG_BYTES text ≡ Ok (file.config, file.bytes)) → HasConfig files name file.config
says_config files name file there read =
    let text = text_of (file_named files name) there in record {
      text = text.0;
      found = text.1;
      bytes = file.bytes;
      says = at_text (file_named files name) (λ t. config_file MAX_CONFIG_BYTES t ≡ Ok (file.config, file.bytes)) text.0 text.1 read;
    }

-- ---- whether the config was read

pub config_read : (all : Option Files) (name : List ℕ) (r : Result ConfigFile ConfigFault) (file : ConfigFile) (Q : Type 0) → r ≡ Ok file
    → IfSome all (λ files. IsNone (file_named files name) → (r ≡ Err ReadFault) ⊎ (r ≡ Err NoMemory))
    → IfSome all (λ files. IfSome (file_named files name) (λ text. config_file MAX_CONFIG_BYTES text ≡ Ok (file.config, file.bytes)))
    → IfSome all (λ files. Q ⊎ SaysConfig files name)
config_read None name r file Q is missing read = tt
config_read (Some files) name r file Q is missing read =
    inr (file.config, says_config files name file (λ none. no_config_fault r file is (missing none)) read)

pub config_refused : {T : Type 0} (all : Option Files) (name : List ℕ) (fault : ConfigFault) (r : Result T AuditRefusal) → r ≡ Err (BadConfig fault)
    → IfSome all (λ files. LacksConfig r ⊎ SaysConfig files name)
config_refused None name fault r is = tt
config_refused (Some files) name fault r is = inl (fault, is)
