use Rattle.std.proofs.Common.{◌≡◌, ℕ, List, ◌∷◌, ◌++◌, take, drop, refl, sym, ◌∙◌, ap, arith}
use Rattle.day_journal.specs.Folders.{slash}
use Rattle.day_journal.specs.Folders.IsFolderOf.{root, before}
use Rattle.day_journal.proofs.FolderParts.{parted}
use Rattle.day_journal.proofs.file_disk.folder_of.Goals as goal

pub returns-in-Some-eq0 : goal.returns-in-Some-eq0
returns-in-Some-eq0 c =
    let path = c.args.name.now in
    let found = c.in-Some-eq0.ensures.cases in
    let parts : path ≡ take c.in-Some-eq0.field-0 path ++ (slash ∷ drop found.0 path) = parted path c.in-Some-eq0.field-0 found.0 found.1.1 in
    root (drop found.0 path) found.1.0 (parts ∙ ap (λ (k : ℕ). take k path ++ (slash ∷ drop found.0 path)) c.in-Some-eq0.field-0-test) refl

pub returns-in-Some : goal.returns-in-Some
returns-in-Some c =
    let path = c.args.name.now in
    let end = c.in-Some.end in
    let found = c.in-Some.ensures.cases in
    let is : c.range.result.now ≡ take end path = c.range.ensures.value ∙ ap (λ (k : ℕ). take k path) (omega arith) in
    let parts : path ≡ take end path ++ (slash ∷ drop found.0 path) = parted path end found.0 found.1.1 in
    before (drop found.0 path) found.1.0 (parts ∙ ap (λ (l : List ℕ). l ++ (slash ∷ drop found.0 path)) (sym is)) (omega (arith, c.range.ensures.len))
