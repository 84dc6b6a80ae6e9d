-- One more event, with the reports that are its own.
use Rattle.std.proofs.Common.{◌≡◌, ℕ, ◌+◌, List, ◌++◌, take, drop, sym, ◌∙◌, ap, subst, append_assoc, arith}
use Rattle.io_edge.specs.Grows.{AppendsPrefix}
use Rattle.listing.specs.Listing.{event_text}
use Rattle.listing.specs.Walking.{count_of, walked}
use Rattle.listing.proofs.Handed.{hands_trans, stops_after, stops_early, at_err}
use Rattle.listing.proofs.Walk.{walk_step}
use Rattle.listing.proofs.part.write_events.Goals as goal

pub loop-event-preserved : goal.loop-event-preserved
loop-event-preserved g c =
    let inv = c.loop-event.invariant in
    let config = c.args.part.now.config.now in
    let symbol = c.args.part.now.symbol in
    let journal = c.args.part.now.journal.now in
    let event = c.event-item.result in
    let rest = c.loop-event.rest.now in
    let count = count_of event.number rest in
    let text = event_text config symbol event c.split_at.result.0.now in
    let left = walked config symbol (drop (c.loop-event.event-index + 1) journal) c.split_at.result.1.now in
    let front : c.split_at.result.0.now ≡ take count rest = c.split_at.ensures.front ∙ ap (λ (n : ℕ). take n rest) c.count_of.ensures.value in
    let back : c.split_at.result.1.now ≡ drop count rest = c.split_at.ensures.back ∙ ap (λ (n : ℕ). drop n rest) c.count_of.ensures.value in
    let step : walked config symbol (drop c.loop-event.event-index journal) rest ≡ text ++ left =
    walk_step config symbol journal c.loop-event.event-index event rest (omega arith) c.event-item.is
    ∙ (λ k. event_text config symbol event (sym front k) ++ walked config symbol (drop (c.loop-event.event-index + 1) journal) (sym back k)) in record {
      done = inv.done ++ text;
      text = inv.text ∙ ap (λ (l : List ℕ). inv.done ++ l) step ∙ sym (append_assoc inv.done text left);
      hands = hands_trans (g.K.Sink.told c.args.out.now) (g.K.Sink.told c.loop-event.out) (g.K.Sink.told c.write_event.new.out)
          c.args.pending.now c.loop-event.pending c.write_event.new.pending inv.done text inv.hands c.in_ok-write_event.ensures.text;
      later = (let h = inv.later in let k = c.write_event.ensures.later in omega arith);
    }

pub returns-in_err-write_event-clause-text : goal.returns-in_err-write_event-clause-text
returns-in_err-write_event-clause-text g c =
    let inv = c.loop-event.invariant in
    let config = c.args.part.now.config.now in
    let symbol = c.args.part.now.symbol in
    let journal = c.args.part.now.journal.now in
    let event = c.event-item.result in
    let rest = c.loop-event.rest.now in
    let count = count_of event.number rest in
    let text = event_text config symbol event c.split_at.result.0.now in
    let left = walked config symbol (drop (c.loop-event.event-index + 1) journal) c.split_at.result.1.now in
    let front : c.split_at.result.0.now ≡ take count rest = c.split_at.ensures.front ∙ ap (λ (n : ℕ). take n rest) c.count_of.ensures.value in
    let back : c.split_at.result.1.now ≡ drop count rest = c.split_at.ensures.back ∙ ap (λ (n : ℕ). drop n rest) c.count_of.ensures.value in
    let step : walked config symbol (drop c.loop-event.event-index journal) rest ≡ text ++ left =
    walk_step config symbol journal c.loop-event.event-index event rest (omega arith) c.event-item.is
    ∙ (λ k. event_text config symbol event (sym front k) ++ walked config symbol (drop (c.loop-event.event-index + 1) journal) (sym back k)) in
    let was = g.K.Sink.told c.args.out.now in
    let now = g.K.Sink.told c.write_event.new.out in
    let x = c.args.pending.now in
    let all : (inv.done ++ text) ++ left ≡ walked config symbol journal c.args.part.now.reports.now =
    append_assoc inv.done text left ∙ ap (λ (l : List ℕ). inv.done ++ l) (sym step) ∙ sym inv.text in
    at_err _ c.from_residual.result _ _ c.from_residual.ensures.1
    (subst (λ (l : List ℕ). AppendsPrefix was now (x ++ l)) all
    (stops_early was now x (inv.done ++ text) left
    (stops_after was (g.K.Sink.told c.loop-event.out) now x c.loop-event.pending inv.done text inv.hands c.in_err-write_event.ensures.text)))
