use Rattle.std.proofs.Common.{◌≡◌, Err, Some, List, ℕ, ap, sym}
use Rattle.std.proofs.lemmas.Result.{IfOk-weaker}
use Rattle.program_words.specs.declared.WordFault.TheVariants.{BadWords}
use Rattle.program_words.proofs.Parsed.{taken_words, refused_words}
use Rattle.program_words.proofs.read_words.Goals as goal

-- src/lib.rt:88:1
pub returns-in-Ok-clause-words : goal.returns-in-Ok-clause-words
returns-in-Ok-clause-words c = rw (taken_words _ c.parse.ensures.few c.in-Ok.ensures.taken, ← c.in-Ok.ensures.matches)
    (IfOk-weaker c.matched_words.result _ _ (λ read e. ap (λ (words : List (List ℕ)). Some words) (sym e)) c.matched_words.ensures.list)

-- src/lib.rt:88:1
pub returns-in-Err-clause-bad_words : goal.returns-in-Err-clause-bad_words
returns-in-Err-clause-bad_words c = λ e.
    let is : c.in-Err.fault ≡ BadWords = cc in
    refused_words _ c.parse.ensures.few (c.in-Err.ensures.refused (ap (λ fault. Err fault) is))
