-- What was put is the listing.
use Rattle.std.proofs.Common.{◌≡◌, ℕ, List, [], ◌∷◌, Option, Some, refl, sym, ◌∙◌, ap, subst}
use Rattle.io_edge.specs.Memory.{files_of}
use Rattle.program_words.specs.Words.{texts}
use Rattle.feeds_core.specs.declared.status.FeedsStatus.TheVariants.{Done}
use Rattle.audit_journal.specs.Days.{head_of, body_of, text_of, IsListingOf}
use Rattle.audit_journal.proofs.Listed.{listed, inputs}
use Rattle.audit_journal.proofs.making.listing_of.Goals as goal

pub returns-in-Done : goal.returns-in-Done
returns-in-Done g c = listed _ _ _ _ (text_of (head_of c.args.lines.now)) (text_of (body_of c.args.lines.now)) c.in_ok-text_in-in-Done.field-0.items (Some c.new-err.result.bytes.items) (Some c.run_feeds.new.err.bytes.items) _ _
    (c.new-shelf.ensures.told ∙ ap Some c.in_ok-inputs.ensures) (ap texts c.deref.ensures.value ∙ c.in_ok-words.ensures) c.new-out.ensures.told c.in_ok-text_in-in-Done.ensures c.in-Done.ensures.run
