-- The page tells of what was put.
use Rattle.std.proofs.Common.{◌≡◌, ℕ, List, [], ◌++◌, Option, Some, None, ◌∙◌, ap, subst}
use Rattle.std.specs.Prelude.{IfSome}
use Rattle.std.specs.Io.KnownBytes.{Appends}
use Rattle.io_edge.specs.Files.{Files}
use Rattle.audit_core.specs.Telling.{Output}
use Rattle.audit_tables.specs.Tables.{PutsDay}
use Rattle.audit_report.specs.Reports.{IsReport}
use Rattle.audit_report.specs.Sections.{report_telling}
use Rattle.audit_report.specs.Weaving.{IsWoven}

put_is : (old new : Option (List ℕ)) (told sections : List ℕ) → old ≡ Some [] → new ≡ Some sections → Appends old new told → sections ≡ told
put_is None new told sections is out puts = absurd (cc)
put_is (Some xs) None told sections is out puts = absurd (cc)
put_is (Some xs) (Some ys) told sections is out puts =
    let none : xs ≡ [] = cc in
    let same : sections ≡ ys = cc in
    same ∙ puts ∙ ap (λ (l : List ℕ). l ++ told) none

-- nothing was put at first
pub output_is : (out : Output) (told : Option (List ℕ)) → out ≡ record { told = told; held = [] } → told ≡ Some [] → out ≡ record { told = Some []; held = [] }
output_is out told is none = subst (λ (t : Option (List ℕ)). out ≡ record { told = t; held = [] }) none is

report_told : (files : Files) (config listing sections page : List ℕ) (old new : Output) → old ≡ record { told = Some []; held = [] } → new.told ≡ Some sections
    → IsWoven sections page → PutsDay report_telling [] files config listing old new → IsReport files config listing page
report_told files config listing sections page old new is out woven puts =
    let held : old.held ≡ [] = ap (λ (o : Output). o.held) is in
    let told : sections ≡ old.held ++ puts.puts.told = put_is old.told new.told (old.held ++ puts.puts.told) sections (ap (λ (o : Output). o.told) is) out puts.puts.put in
    record {
      of = puts.of;
      says = puts.says;
      text = puts.text;
      found = puts.found;
      told = puts.puts.told;
      lists = puts.puts.lists;
      woven = subst (λ (t : List ℕ). IsWoven t page) (told ∙ ap (λ (l : List ℕ). l ++ puts.puts.told) held) woven;
    }

-- of a shelf that tells its files
pub reported : (all : Option Files) (config listing sections page : List ℕ) (old new : Output) → old ≡ record { told = Some []; held = [] } → new.told ≡ Some sections
    → IsWoven sections page → IfSome all (λ files. PutsDay report_telling [] files config listing old new) → IfSome all (λ files. IsReport files config listing page)
reported None config listing sections page old new is out woven puts = tt
reported (Some files) config listing sections page old new is out woven puts = report_told files config listing sections page old new is out woven puts
