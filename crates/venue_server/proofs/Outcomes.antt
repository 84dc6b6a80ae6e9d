-- The outcome of one more task.
use Rattle.std.proofs.Common.{◌≡◌, ◌++◌, ◌∷◌, [], List, Option, refl, sym, ap, ◌∙◌, if◌then◌else◌}
use Rattle.std.specs.Option.{option_or}
use Rattle.std.proofs.lemmas.List.Folds.{find-append}
use Rattle.serve_core.specs.declared.quotes.QuoteEnd.TheVariants as quotes
use Rattle.venue_server.specs.declared.workers.Outcome.{Outcome}
use Rattle.venue_server.specs.declared.workers.Outcome.TheVariants.{Served, NotTaken, Quoted}
use Rattle.venue_server.specs.Outcomes.{first_wrong, went_wrong}

either : (was one : Outcome)
    → first_wrong ((if went_wrong was then was else one) ∷ []) ≡ option_or (first_wrong (was ∷ [])) (first_wrong (one ∷ []))
either Served one = refl
either NotTaken one = refl
either (Quoted quotes.Done) one = refl
either (Quoted (quotes.BadLine line cause)) one = refl
either (Quoted (quotes.LimitLine line which)) one = refl
either (Quoted (quotes.Full symbol found)) one = refl
either (Quoted quotes.ReadFault) one = refl
either (Quoted quotes.NoMemory) one = refl

-- the outcome of those before, or else that one, is what went wrong first
pub wrong_next : (before : List Outcome) (was one result : Outcome) → first_wrong (was ∷ []) ≡ first_wrong before
    → result ≡ (if went_wrong was then was else one) → first_wrong (result ∷ []) ≡ first_wrong (before ++ one ∷ [])
wrong_next before was one result same is =
    ap (λ (o : Outcome). first_wrong (o ∷ [])) is ∙ either was one
    ∙ ap (λ (o : Option Outcome). option_or o (first_wrong (one ∷ []))) same
    ∙ sym (find-append went_wrong before (one ∷ []))
