-- One more member was gone through.
use Rattle.std.proofs.Common.{◌++◌, ◌∷◌, [], ℕ, Bool, List, cond, sym, ◌∙◌, ap}
use Rattle.member_gate.specs.Answering.{name_at}
use Rattle.program_words.specs.Words.{texts}
use Rattle.drop_copy.specs.Plans.{is_among}
use Rattle.drop_copy.proofs.Ranges.{filter_next}
use Rattle.drop_copy.proofs.plan.listed_members.Goals as goal

pub loop-number-preserved : goal.loop-number-preserved
loop-number-preserved c =
    let number = c.loop-number.number in
    let words = texts c.args.words.now in
    let numbers = c.loop-number.numbers.items in
    let p : ℕ → Bool = λ n. is_among words (name_at c.args.members.now n) in
    c.in_ok-push_listed.ensures
    ∙ ap (λ (name : List ℕ). numbers ++ cond (is_among words name) (number ∷ []) []) c.name_at-name.ensures
    ∙ ap (λ (ns : List ℕ). ns ++ cond (p number) (number ∷ []) []) c.loop-number.invariant
    ∙ sym (filter_next p number)
