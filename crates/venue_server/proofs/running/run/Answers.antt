-- A run that begins ends as its venue does, and one that does not lists nothing.
use Rattle.std.proofs.Common.{Err, refl, sym, ◌∙◌, ap, inl, inr}
use Rattle.serve_core.specs.Statuses.{exit_code}
use Rattle.venue_server.proofs.Listings.{not_refused, only_bad_words, only_setup_words, only_write_fault, refused_exit, setup_is_not_done, setup_is_no_write_fault}
use Rattle.venue_server.proofs.running.run.Goals as goal

pub returns-in-Ok-clause-ends : goal.returns-in-Ok-clause-ends
returns-in-Ok-clause-ends g c = record {
  status = c.listen-status.result;
  exit_is = c.end_with-exit.ensures.exit;
  told = c.end_with-exit.ensures.told;
  listed = inr (c.in-Ok.field-0.config, c.in-Ok.ensures.config, c.listen-status.ensures.listed);
}

pub returns-in-Ok-clause-fault : goal.returns-in-Ok-clause-fault
returns-in-Ok-clause-fault g c e = c.listen-status.ensures.fault (only_write_fault c.listen-status.result (sym c.end_with-exit.ensures.exit ∙ e))

pub returns-in-Ok-clause-bad_words : goal.returns-in-Ok-clause-bad_words
returns-in-Ok-clause-bad_words g c e =
    absurd (c.listen-status.ensures.words (only_bad_words c.listen-status.result (sym c.end_with-exit.ensures.exit ∙ e)))

pub returns-in-Ok-clause-no_plan : goal.returns-in-Ok-clause-no_plan
returns-in-Ok-clause-no_plan g c none = absurd (not_refused c.in-Ok.field-0 (c.in-Ok.ensures.no_plan none))

pub returns-clause-ends : goal.returns-clause-ends
returns-clause-ends g c = record {
  status = c.status_of_setup-status.result;
  exit_is = c.end_with-exit-in-Err.ensures.exit;
  told = c.end_with-exit-in-Err.ensures.told;
  listed = inl (λ e. setup_is_not_done c.in-Err.fault (sym c.status_of_setup-status.ensures ∙ e), refl);
}

pub returns-clause-fault : goal.returns-clause-fault
returns-clause-fault g c e =
    absurd (setup_is_no_write_fault c.in-Err.fault
    (ap exit_code (sym c.status_of_setup-status.ensures) ∙ sym c.end_with-exit-in-Err.ensures.exit ∙ e))

pub returns-clause-bad_words : goal.returns-clause-bad_words
returns-clause-bad_words g c e =
    c.in-Err.ensures.bad_words (ap Err (only_setup_words c.in-Err.fault
    (ap exit_code (sym c.status_of_setup-status.ensures) ∙ sym c.end_with-exit-in-Err.ensures.exit ∙ e)))

pub returns-clause-no_plan : goal.returns-clause-no_plan
returns-clause-no_plan g c none =
    refused_exit c.in-Err.fault c.end_with-exit-in-Err.result
    (c.end_with-exit-in-Err.ensures.exit ∙ ap exit_code c.status_of_setup-status.ensures) (c.in-Err.ensures.no_plan none)
