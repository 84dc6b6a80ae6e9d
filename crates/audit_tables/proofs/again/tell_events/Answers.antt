-- One more event was worked once more, and told of.
use Rattle.std.proofs.Common.{◌≡◌, ◌<◌, ◌+◌, ◌++◌, ◌∷◌, [], ℕ, List, length, get_or, take, sym, ◌∙◌, ap, subst, arith}
use Rattle.venue_words.specs.declared.command.Event.{Event}
use Rattle.listing_reader.specs.declared.lines.Counts.{Counts}
use Rattle.audit_core.specs.declared.part.OpenPart.{OpenPart}
use Rattle.audit_tables.proofs.Retelling.{passed, take_next, text_next}
use Rattle.audit_tables.proofs.again.tell_events.Goals as goal

pub loop-event-preserved : goal.loop-event-preserved
loop-event-preserved g c =
    let inv = c.loop-event.invariant in
    let config = c.args.day.config.now in
    let symbol = c.args.day.symbol in
    let journal = c.args.day.book.now.journal in
    let index = c.loop-event.event-index in
    let event = c.event-item.result in
    let worked = c.work_again.new.self in
    let works = c.in_ok-work_again.ensures.works in
    let passing = c.pass_reports.ensures in
    let lt : index < length journal = omega (arith, c.loop-event-test.true, ap (λ (j : List Event). length j) c.journal-event-items.ensures.list) in
    let is : event ≡ get_or journal index event =
    subst (λ (j : List Event). event ≡ get_or j index event) c.journal-event-items.ensures.list c.event-item.is in
    let whole : worked.book.journal ≡ take index journal ++ event ∷ [] = works.journal ∙ ap (λ (j : List Event). j ++ event ∷ []) inv.journal in
    let more : worked.book.journal ≡ take (index + 1) journal = whole ∙ sym (take_next journal index event lt is) in record {
      opened = passed config symbol worked c.pass_reports.new.self c.in_ok-work_again.ensures.open passing;
      told = ap (λ (p : OpenPart). p.told) passing ∙ sym (ap (λ (p : OpenPart). length p.book.reports) passing);
      room = ap (λ (p : OpenPart). p.counts.events) passing ∙ ap (λ (n : Counts). n.events) works.counts ∙ inv.room;
      journal = ap (λ (p : OpenPart). p.book.journal) passing ∙ more;
      asked = c.in_ok-push_event.ensures.asked ∙ inv.asked;
      heard = subst (λ (j : List Event). g.T.Answer.heard c.push_event.new.self config symbol j) more c.in_ok-push_event.ensures.heard;
      text = text_next g.T.Answer.tells (g.T.Answer.asked c.args.answer.now) symbol config journal worked.book.journal index event c.args.out.now.items
          c.loop-event.out.items c.push_event.new.out.items lt is whole inv.text
          (c.in_ok-push_event.ensures.text ∙ ap (λ (n : ℕ). c.loop-event.out.items ++ g.T.Answer.tells n config symbol worked.book.journal) inv.asked);
    }
