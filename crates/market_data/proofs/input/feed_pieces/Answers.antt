-- From the middle of the input to its end, or to the next piece.
use Rattle.std.proofs.Common.{◌≡◌, ◌+◌, ◌-◌, ◌<◌, Option, IfSome, ℕ, min, take, length, length-take, sym, ap, subst, arith}
use Rattle.std.specs.Io.KnownBytes.{Consumes}
use Rattle.session_core.specs.declared.state.EndCause.{EndCause}
use Rattle.market_data.specs.declared.status.MarketStatus.{MarketStatus}
use Rattle.market_data.specs.Feeding.{Feeding, Adds}
use Rattle.market_data.specs.Outcomes.{Ran}
use Rattle.market_data.proofs.InputSteps.{InMiddle, Pulled, middle_start, middle_ends, middle_gave_up, middle_stops, middle_ended, middle_over, middle_more, piece_part}
use Rattle.market_data.proofs.input.feed_pieces.Goals as goal

pub pieces-init : goal.pieces-init
pieces-init g c = record {
  middle = λ source start. subst (λ (f : Feeding). InMiddle c.args.config.now source (g.H.Shelf.left c.args.shelf.now) (g.H.Shelf.left c.args.shelf.now) (g.K.Sink.told c.args.out.now) (g.K.Sink.told c.args.out.now) 0 f) (sym start) (middle_start c.args.config.now source (g.H.Shelf.left c.args.shelf.now) (g.K.Sink.told c.args.out.now));
  within = omega arith;
  begun = c.requires.begun;
  read_later = omega arith;
  write_later = omega arith;
  sure = λ sure. sure;
}

pub returns-in-Err-clause-ran : goal.returns-in-Err-clause-ran
returns-in-Err-clause-ran g c source start =
    let i = c.pieces.invariant in
    let m = i.middle source start in
    middle_gave_up c.args.config.now source (g.H.Shelf.left c.args.shelf.now) (g.H.Shelf.left c.pieces.shelf) (g.H.Shelf.left c.pull.new.self) (g.K.Sink.told c.args.out.now) (g.K.Sink.told c.pieces.out) c.pieces.taken c.pieces.session
    m i.within c.in-Err.ensures.bytes

pub returns-then-count-eq0-clause-ran : goal.returns-then-count-eq0-clause-ran
returns-then-count-eq0-clause-ran g c source start =
    let i = c.pieces.invariant in
    let m = i.middle source start in
    let none : c.in-Ok.count ≡ 0 = omega (arith, c.if-count-eq0.true) in
    middle_ends c.args.config.now source (g.H.Shelf.left c.args.shelf.now) (g.H.Shelf.left c.pieces.shelf) (g.H.Shelf.left c.pull.new.self) (g.K.Sink.told c.args.out.now) (g.K.Sink.told c.pieces.out) c.pieces.taken c.pieces.session
    m i.within
    (subst (λ (n : ℕ). Consumes (g.H.Shelf.left c.pieces.shelf) (g.H.Shelf.left c.pull.new.self) (take n c.pull.new.buffer)) none c.in-Ok.ensures.bytes.0)
    (c.in-Ok.ensures.bytes.1 none (omega (arith, c.pull.auto.buffer, c.pieces.auto.buffer, c.requires.room)))

pub returns-in-Err-feed_piece-clause-ran : goal.returns-in-Err-feed_piece-clause-ran
returns-in-Err-feed_piece-clause-ran g c source start =
    let i = c.pieces.invariant in
    let m = i.middle source start in
    let within : c.min-within.result ≡ min c.in-Ok.count (536870912 - c.pieces.taken) = omega (arith, c.min-within.ensures) in
    let part = piece_part c.in-Ok.count (536870912 - c.pieces.taken) c.min-within.result c.pull.new.buffer within in
    let pulled : Pulled c.pieces.taken (take c.in-Ok.count c.pull.new.buffer) (take c.min-within.result c.pull.new.buffer) = record { fits = i.within; part = part } in
    middle_stops c.args.config.now source (g.H.Shelf.left c.args.shelf.now) (g.H.Shelf.left c.pieces.shelf) (g.H.Shelf.left c.pull.new.self) (g.K.Sink.told c.args.out.now) (g.K.Sink.told c.pieces.out) (g.K.Sink.told c.feed_piece.new.out) c.pieces.taken c.pieces.session
    (take c.in-Ok.count c.pull.new.buffer) (take c.min-within.result c.pull.new.buffer) c.in-Err-feed_piece.status m c.in-Ok.ensures.bytes.0 pulled
    (c.in-Err-feed_piece.ensures.stopped source m.given m.stands) c.in-Err-feed_piece.ensures.status

pub returns-in-Some-clause-ran : goal.returns-in-Some-clause-ran
returns-in-Some-clause-ran g c source start =
    let i = c.pieces.invariant in
    let m = i.middle source start in
    let within : c.min-within.result ≡ min c.in-Ok.count (536870912 - c.pieces.taken) = omega (arith, c.min-within.ensures) in
    let part = piece_part c.in-Ok.count (536870912 - c.pieces.taken) c.min-within.result c.pull.new.buffer within in
    let pulled : Pulled c.pieces.taken (take c.in-Ok.count c.pull.new.buffer) (take c.min-within.result c.pull.new.buffer) = record { fits = i.within; part = part } in
    let put = c.in-Ok-feed_piece.ensures.put source m.given m.stands in
    let adds = subst (λ (e : Option EndCause). Adds c.args.config.now source m.given (take c.min-within.result c.pull.new.buffer) put.0 e c.feed_piece.new.session) c.in-Some.is put.2 in
    subst (λ (s : MarketStatus). IfSome (g.H.Shelf.left c.args.shelf.now) (λ bytes. Ran c.args.config.now source bytes (g.K.Sink.told c.args.out.now) (g.K.Sink.told c.feed_piece.new.out) (g.H.Shelf.left c.pull.new.self) s)) (sym c.ended_by.ensures)
    (middle_ended c.args.config.now source (g.H.Shelf.left c.args.shelf.now) (g.H.Shelf.left c.pieces.shelf) (g.H.Shelf.left c.pull.new.self) (g.K.Sink.told c.args.out.now) (g.K.Sink.told c.pieces.out) (g.K.Sink.told c.feed_piece.new.out) c.pieces.taken c.pieces.session c.feed_piece.new.session
    (take c.in-Ok.count c.pull.new.buffer) (take c.min-within.result c.pull.new.buffer) put.0 c.in-Some.cause m c.in-Ok.ensures.bytes.0 pulled put.1 adds)

pub returns-then-within-count-clause-ran : goal.returns-then-within-count-clause-ran
returns-then-within-count-clause-ran g c source start =
    let i = c.pieces.invariant in
    let m = i.middle source start in
    let within : c.min-within.result ≡ min c.in-Ok.count (536870912 - c.pieces.taken) = omega (arith, c.min-within.ensures) in
    let part = piece_part c.in-Ok.count (536870912 - c.pieces.taken) c.min-within.result c.pull.new.buffer within in
    let pulled : Pulled c.pieces.taken (take c.in-Ok.count c.pull.new.buffer) (take c.min-within.result c.pull.new.buffer) = record { fits = i.within; part = part } in
    let put = c.in-Ok-feed_piece.ensures.put source m.given m.stands in
    let adds = subst (λ (e : Option EndCause). Adds c.args.config.now source m.given (take c.min-within.result c.pull.new.buffer) put.0 e c.feed_piece.new.session) c.in-None.is put.2 in
    let less : length (take c.min-within.result c.pull.new.buffer) < length (take c.in-Ok.count c.pull.new.buffer) =
    omega (arith, length-take c.min-within.result c.pull.new.buffer, length-take c.in-Ok.count c.pull.new.buffer, c.in-Ok.ensures.bound, c.if-within-count.true) in
    middle_over c.args.config.now source (g.H.Shelf.left c.args.shelf.now) (g.H.Shelf.left c.pieces.shelf) (g.H.Shelf.left c.pull.new.self) (g.K.Sink.told c.args.out.now) (g.K.Sink.told c.pieces.out) (g.K.Sink.told c.feed_piece.new.out) c.pieces.taken c.pieces.session c.feed_piece.new.session
    (take c.in-Ok.count c.pull.new.buffer) (take c.min-within.result c.pull.new.buffer) put.0 m c.in-Ok.ensures.bytes.0 pulled less put.1 adds

pub pieces-preserved : goal.pieces-preserved
pieces-preserved g c =
    let i = c.pieces.invariant in
    let within : c.min-within.result ≡ min c.in-Ok.count (536870912 - c.pieces.taken) = omega (arith, c.min-within.ensures) in
    let whole : c.min-within.result ≡ c.in-Ok.count = omega (arith, within, c.if-within-count.false) in
    let count : c.pieces.taken + c.in-Ok.count ≡ c.pieces.taken + length (take c.in-Ok.count c.pull.new.buffer) =
    omega (arith, length-take c.in-Ok.count c.pull.new.buffer, c.in-Ok.ensures.bound) in record {
      middle = λ source start.
          let m = i.middle source start in
          let put = c.in-Ok-feed_piece.ensures.put source m.given m.stands in
          let adds = subst (λ (e : Option EndCause). Adds c.args.config.now source m.given (take c.min-within.result c.pull.new.buffer) put.0 e c.feed_piece.new.session) c.in-None.is put.2 in
          middle_more c.args.config.now source (g.H.Shelf.left c.args.shelf.now) (g.H.Shelf.left c.pieces.shelf) (g.H.Shelf.left c.pull.new.self) (g.K.Sink.told c.args.out.now) (g.K.Sink.told c.pieces.out) (g.K.Sink.told c.feed_piece.new.out) c.pieces.taken (c.pieces.taken + c.in-Ok.count) c.pieces.session c.feed_piece.new.session
          (take c.in-Ok.count c.pull.new.buffer) (take c.min-within.result c.pull.new.buffer) put.0 m c.in-Ok.ensures.bytes.0 (ap (λ (n : ℕ). take n c.pull.new.buffer) whole) count put.1 adds;
      within = omega (arith, i.within, within, c.if-within-count.false);
      begun = c.in-Ok.ensures.begun;
      read_later = omega (arith, c.in-Ok.ensures.cause.later, i.read_later);
      write_later = omega (arith, c.in-Ok-feed_piece.ensures.later, i.write_later);
      sure = λ sure. (c.in-Ok.ensures.sure (i.sure sure)).stays;
    }

pub pieces-smaller : goal.pieces-smaller
pieces-smaller g c =
    let within : c.min-within.result ≡ min c.in-Ok.count (536870912 - c.pieces.taken) = omega (arith, c.min-within.ensures) in
    omega (arith, within, c.pieces.invariant.within, c.if-count-eq0.false, c.if-within-count.false)
