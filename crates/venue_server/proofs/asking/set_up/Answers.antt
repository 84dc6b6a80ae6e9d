-- The plan and the drop session are those of the words that were split off, or of all words.
use Rattle.std.proofs.Common.{Some, None, Err, ap, sym, ◌∙◌, inl}
use Rattle.std.proofs.lemmas.Option.{none-some}
use Rattle.program_words.specs.Words.{remaining, texts}
use Rattle.venue_words.specs.declared.config.Config.{Config}
use Rattle.venue_server.proofs.Asked.{asked_none, asked_split, asked_whole, asks_nobody_ok, asks_ok, asks_unlawfully, bad_as, told_as}
use Rattle.venue_server.proofs.asking.set_up.Goals as goal

-- ---- with a drop session

pub returns-in-Ok-Some-clause-plan : goal.returns-in-Ok-Some-clause-plan
returns-in-Ok-Some-clause-plan g c =
    let split = rw c.in-Ok-Some.field-0-is at c.in-Ok-Some.ensures.split in
    let same = asked_split (texts c.args.words.now) c.in-Ok-Some.split split c.as_slice.ensures.value in
    rw same c.set_up_with.ensures.plan

pub returns-in-Ok-Some-clause-no_plan : goal.returns-in-Ok-Some-clause-no_plan
returns-in-Ok-Some-clause-no_plan g c none =
    let split = rw c.in-Ok-Some.field-0-is at c.in-Ok-Some.ensures.split in
    let same = asked_split (texts c.args.words.now) c.in-Ok-Some.split split c.as_slice.ensures.value in
    c.set_up_with.ensures.no_plan (sym same ∙ none)

pub returns-in-Ok-Some-clause-bad_words : goal.returns-in-Ok-Some-clause-bad_words
returns-in-Ok-Some-clause-bad_words g c bad =
    let split = rw c.in-Ok-Some.field-0-is at c.in-Ok-Some.ensures.split in
    let words = texts c.args.words.now in
    let same = asked_split words c.in-Ok-Some.split split c.as_slice.ensures.value in
    bad_as words _ (Some c.in-Ok-Some.split.plan) same (λ (config : Config). asks_unlawfully config (remaining words) c.in-Ok-Some.split split)
    (c.set_up_with.ensures.bad_words bad)

pub returns-in-Ok-Some-clause-meant : goal.returns-in-Ok-Some-clause-meant
returns-in-Ok-Some-clause-meant g c plan is =
    let split = rw c.in-Ok-Some.field-0-is at c.in-Ok-Some.ensures.split in
    let words = texts c.args.words.now in
    let same = asked_split words c.in-Ok-Some.split split c.as_slice.ensures.value in
    told_as (g.H.Shelf.told c.args.shelf.now) plan.config (remaining words) (Some c.in-Ok-Some.split.plan) c.set_up_with.result
    (λ (config : Config). asks_unlawfully config (remaining words) c.in-Ok-Some.split split)
    (c.set_up_with.ensures.meant plan (sym same ∙ is))

pub returns-in-Ok-Some-clause-missing : goal.returns-in-Ok-Some-clause-missing
returns-in-Ok-Some-clause-missing g c plan is =
    let split = rw c.in-Ok-Some.field-0-is at c.in-Ok-Some.ensures.split in
    let same = asked_split (texts c.args.words.now) c.in-Ok-Some.split split c.as_slice.ensures.value in
    c.set_up_with.ensures.missing plan (sym same ∙ is)

pub returns-in-Ok-Some-clause-sure : goal.returns-in-Ok-Some-clause-sure
returns-in-Ok-Some-clause-sure g c sure plan is =
    let split = rw c.in-Ok-Some.field-0-is at c.in-Ok-Some.ensures.split in
    let same = asked_split (texts c.args.words.now) c.in-Ok-Some.split split c.as_slice.ensures.value in
    c.set_up_with.ensures.sure sure plan (sym same ∙ is)

pub returns-in-Ok-Some-clause-copies : goal.returns-in-Ok-Some-clause-copies
returns-in-Ok-Some-clause-copies g c =
    let split = rw c.in-Ok-Some.field-0-is at c.in-Ok-Some.ensures.split in
    asks_ok (remaining (texts c.args.words.now)) c.in-Ok-Some.split c.set_up_with.result split c.set_up_with.ensures.copies

-- ---- without one

pub returns-in-Ok-None-clause-plan : goal.returns-in-Ok-None-clause-plan
returns-in-Ok-None-clause-plan g c =
    let few = rw c.in-Ok-None.field-0-is at c.in-Ok-None.ensures.split in
    rw (asked_whole (texts c.args.words.now) few) c.set_up_with-in-Ok-None.ensures.plan

pub returns-in-Ok-None-clause-no_plan : goal.returns-in-Ok-None-clause-no_plan
returns-in-Ok-None-clause-no_plan g c none =
    let few = rw c.in-Ok-None.field-0-is at c.in-Ok-None.ensures.split in
    c.set_up_with-in-Ok-None.ensures.no_plan (sym (asked_whole (texts c.args.words.now) few) ∙ none)

pub returns-in-Ok-None-clause-bad_words : goal.returns-in-Ok-None-clause-bad_words
returns-in-Ok-None-clause-bad_words g c bad =
    let few = rw c.in-Ok-None.field-0-is at c.in-Ok-None.ensures.split in
    let words = texts c.args.words.now in
    bad_as words _ None (asked_whole words few) (λ (config : Config) unlawful. absurd unlawful)
    (c.set_up_with-in-Ok-None.ensures.bad_words bad)

pub returns-in-Ok-None-clause-meant : goal.returns-in-Ok-None-clause-meant
returns-in-Ok-None-clause-meant g c plan is =
    let few = rw c.in-Ok-None.field-0-is at c.in-Ok-None.ensures.split in
    let words = texts c.args.words.now in
    told_as (g.H.Shelf.told c.args.shelf.now) plan.config (remaining words) None c.set_up_with-in-Ok-None.result
    (λ (config : Config) unlawful. absurd unlawful)
    (c.set_up_with-in-Ok-None.ensures.meant plan (sym (asked_whole words few) ∙ is))

pub returns-in-Ok-None-clause-missing : goal.returns-in-Ok-None-clause-missing
returns-in-Ok-None-clause-missing g c plan is =
    let few = rw c.in-Ok-None.field-0-is at c.in-Ok-None.ensures.split in
    c.set_up_with-in-Ok-None.ensures.missing plan (sym (asked_whole (texts c.args.words.now) few) ∙ is)

pub returns-in-Ok-None-clause-sure : goal.returns-in-Ok-None-clause-sure
returns-in-Ok-None-clause-sure g c sure plan is =
    let few = rw c.in-Ok-None.field-0-is at c.in-Ok-None.ensures.split in
    c.set_up_with-in-Ok-None.ensures.sure sure plan (sym (asked_whole (texts c.args.words.now) few) ∙ is)

pub returns-in-Ok-None-clause-copies : goal.returns-in-Ok-None-clause-copies
returns-in-Ok-None-clause-copies g c =
    let few = rw c.in-Ok-None.field-0-is at c.in-Ok-None.ensures.split in
    asks_nobody_ok (remaining (texts c.args.words.now)) c.set_up_with-in-Ok-None.result few c.set_up_with-in-Ok-None.ensures.copies

-- ---- words that are refused

pub returns-in-Err-BadWords-clause-bad_words : goal.returns-in-Err-BadWords-clause-bad_words
returns-in-Err-BadWords-clause-bad_words g c bad =
    inl (asked_none (texts c.args.words.now) (c.in-Err-BadWords.ensures.bad_words (ap Err c.in-Err-BadWords.field-0-is)))

pub returns-in-Err-BadWords-clause-meant : goal.returns-in-Err-BadWords-clause-meant
returns-in-Err-BadWords-clause-meant g c plan is =
    let none = asked_none (texts c.args.words.now) (c.in-Err-BadWords.ensures.bad_words (ap Err c.in-Err-BadWords.field-0-is)) in
    absurd (none-some plan (sym none ∙ is))

pub returns-in-Err-BadWords-clause-missing : goal.returns-in-Err-BadWords-clause-missing
returns-in-Err-BadWords-clause-missing g c plan is =
    let none = asked_none (texts c.args.words.now) (c.in-Err-BadWords.ensures.bad_words (ap Err c.in-Err-BadWords.field-0-is)) in
    absurd (none-some plan (sym none ∙ is))
