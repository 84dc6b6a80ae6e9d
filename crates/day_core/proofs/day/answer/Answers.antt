use Rattle.std.proofs.Common.{Err, sym, ◌∙◌, ap, subst}
use Rattle.std.specs.Prelude.{option_and_then}
use Rattle.program_words.specs.Words.{texts}
use Rattle.replay_core.specs.Telling.{seen}
use Rattle.day_core.specs.DayFiles.{files_in, form_of}
use Rattle.day_core.specs.Days.{Ends}
use Rattle.day_core.proofs.Openings.{named_files, no_form, words_without_form}
use Rattle.day_core.proofs.day.answer.Goals as goal

pub returns-in-Err-clause-ends : goal.returns-in-Err-clause-ends
returns-in-Err-clause-ends g c =
    let t = seen (g.K.Sink.told c.args.out.now) c.args.steps.now in
    let disk = g.D.Disk.told c.args.disk in
    let left = g.H.Shelf.left c.args.shelf.now in
    subst (Ends (g.H.Shelf.told c.args.shelf.now) (texts c.args.words.now) left disk disk t t) (sym c.words_refused.ensures)
    (words_without_form (g.H.Shelf.told c.args.shelf.now) (texts c.args.words.now) left disk t c.in-Err.fault
    (λ honest file left. g.met.D.Disk.only_now c.args.disk file honest left)
    (λ bad. ap (λ r. option_and_then form_of r) (c.in-Err.ensures.bad_words (ap Err bad))))

pub returns-clause-ends : goal.returns-clause-ends
returns-clause-ends g c =
    no_form (g.H.Shelf.told c.args.shelf.now) (texts c.args.words.now) (g.H.Shelf.left c.args.shelf.now) (g.D.Disk.told c.args.disk) (seen (g.K.Sink.told c.args.out.now) c.args.steps.now)
    (λ honest file left. g.met.D.Disk.only_now c.args.disk file honest left)
    (ap (λ r. option_and_then form_of r) c.in-Ok.ensures.words ∙ (rw (← c.as_slice.ensures.value) c.in-None.ensures))

pub returns-in-Some-clause-ends : goal.returns-in-Some-clause-ends
returns-in-Some-clause-ends g c =
    named_files _ _ (files_in c.in-Some.files) _ _ _ _ _ _
    (ap (λ r. option_and_then form_of r) c.in-Ok.ensures.words ∙ (rw (← c.as_slice.ensures.value) c.in-Some.ensures)) c.work_files.ensures.ran
