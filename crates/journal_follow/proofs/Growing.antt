-- A file that grows keeps the lines that it begins with.
use Rattle.std.proofs.Common.{◌≡◌, ℕ, ◌+◌, false, List, ◌++◌, take, drop, sym, ◌∙◌, ap, subst, arith, length-drop}
use Rattle.std.proofs.lemmas.List.{drop-drop}
use Rattle.day_journal.specs.Log.{Reading, with_lines, read_all, size_of}
use Rattle.day_journal.specs.LogLaws.{read_prefix, same_later}
use Rattle.journal_follow.specs.Files.{GrownKeepsLines}
use Rattle.journal_follow.proofs.Finding.{size_of-append, after}

pub grown_keeps : GrownKeepsLines
grown_keeps old new fine same inside lines begins =
    let g = size_of lines in
    let rest = read_all (drop g old) in
    let k = size_of rest.lines in
    let n = size_of (read_all old).lines in
    let all : (read_all old).lines ≡ lines ++ rest.lines = ap (λ (r : Reading). r.lines) begins in
    let place : n ≡ g + k = ap size_of all ∙ size_of-append lines rest.lines in
    let rest_fine : rest.damaged ≡ false = sym (ap (λ (r : Reading). r.damaged) begins) ∙ fine in
    let rest_same : take k (drop g new) ≡ take k (drop g old) = same_later g k old new (subst (λ m. take m new ≡ take m old) place same) in
    let there : read_all (drop g new) ≡ with_lines rest.lines (read_all (drop k (drop g new))) =
    read_prefix (drop g old) (drop g new) rest_fine rest_same (omega (arith, length-drop g new, inside, place)) in
    let behind : drop n new ≡ drop k (drop g new) = ap (λ (m : ℕ). drop m new) place ∙ sym (drop-drop k g new) in
    read_prefix old new fine same inside
    ∙ ap (λ (ls : List (List ℕ)). with_lines ls (read_all (drop n new))) all
    ∙ ap (λ (b : List ℕ). with_lines (lines ++ rest.lines) (read_all b)) behind
    ∙ sym (after lines rest.lines (read_all (drop k (drop g new))))
    ∙ ap (λ (r : Reading). with_lines lines r) (sym there)
