-- A picture is one of a file that lists journals.
use Rattle.std.proofs.Common.{◌≡◌, ◌⊎◌, inl, inr, ℕ, List, Option, Some, None}
use Rattle.std.specs.Prelude.{Result, Ok, Err, IfSome, IsNone}
use Rattle.io_edge.specs.Files.{Files, file_named}
use Rattle.venue_words.specs.declared.config.Config.{Config}
use Rattle.venue_words.specs.declared.limits.TheConstants.{MAX_CONFIG_BYTES}
use Rattle.line_reader.specs.ConfigFile.{config_file}
use Rattle.line_reader.specs.declared.config_file.ConfigFile.{ConfigFile}
use Rattle.audit_core.specs.declared.verdict.AuditFault.{AuditFault}
use Rattle.audit_core.specs.declared.verdict.AuditFault.TheVariants.{NoMemory, ReadFault}
use Rattle.audit_core.specs.declared.verdict.Verdict.{Verdict}
use Rattle.audit_core.specs.Audited.{HasListing, IsListing}
use Rattle.audit_core.proofs.Filing.{IsThere, at_text, says_config, text_of}
use Rattle.audit_chart.specs.declared.drawing.Drawn.{Drawn}
use Rattle.audit_chart.specs.declared.drawing.Drawn.TheVariants.{Picture, Differs, NoSuchSymbol}
use Rattle.audit_chart.specs.Drawing.{IfPicture, IsListed}

no_fault : (r : Result Verdict AuditFault) (verdict : Verdict) → r ≡ Ok verdict → (r ≡ Err ReadFault) ⊎ (r ≡ Err NoMemory) → ⊥
no_fault r verdict is (inl e) = cc
no_fault r verdict is (inr e) = cc

-- a listing that was read to its end is there
pub listed : (told : Option Files) (name : List ℕ) (config : Config) (r : Result Verdict AuditFault) (verdict : Verdict) → r ≡ Ok verdict
    → IfSome told (λ files. IsNone (file_named files name) → (r ≡ Err ReadFault) ⊎ (r ≡ Err NoMemory))
    → IfSome told (λ files. IfSome (file_named files name) (IsListing config)) → IfSome told (λ files. IsListed files name config)
listed None name config r verdict is missing lists = tt
listed (Some files) name config r verdict is missing lists =
    let text = text_of (file_named files name) (λ none. no_fault r verdict is (missing none)) in record {
      text = text.0;
      found = text.1;
      lists = at_text (file_named files name) (IsListing config) text.0 text.1 lists;
    }

pub picture_map : (drawn : Drawn) (P Q : Type 0) → (P → Q) → IfPicture drawn P → IfPicture drawn Q
picture_map (Picture picture) P Q f x = f x
picture_map (Differs line expected) P Q f x = tt
picture_map NoSuchSymbol P Q f x = tt

-- it lists journals of the config in the other file
pub day_of : (told : Option Files) (name listing : List ℕ) (file : ConfigFile) → IsThere told name
    → IfSome told (λ files. IfSome (file_named files name) (λ text. config_file MAX_CONFIG_BYTES text ≡ Ok (file.config, file.bytes)))
    → IfSome told (λ files. IsListed files listing file.config) → IfSome told (λ files. HasListing files name listing)
day_of None name listing file there read lists = tt
day_of (Some files) name listing file there read lists = record {
  of = file.config;
  says = says_config files name file there read;
  text = lists.text;
  found = lists.found;
  lists = lists.lists;
}
