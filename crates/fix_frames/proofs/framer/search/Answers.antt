use Rattle.std.proofs.Common.{◌≡◌, drop, arith, ap, sym, ◌∙◌, length-drop}
use Rattle.std.proofs.lemmas.List.{take_rest}
use Rattle.fix_frames.specs.Places.{place_at}
use Rattle.fix_frames.specs.StreamLaws.{skips_more, found_here, ends_within}
use Rattle.fix_frames.proofs.framer.search.Goals as goal

pub loop-at-preserved : goal.loop-at-preserved
loop-at-preserved c =
    let e = c.in-Passed.ensures in
    record { inside = omega arith; skips = skips_more c.args.bytes.now c.loop-at.at (omega arith) c.loop-at.invariant.skips (ap place_at (sym (take_rest c.args.bytes.now c.loop-at.at)) ∙ sym e) }

pub returns-in_default : goal.returns-in_default
returns-in_default c =
    let bytes = c.args.bytes.now in
    let e : place_at (drop c.loop-at.at bytes) ≡ c.place_at.result = ap place_at (sym (take_rest bytes c.loop-at.at)) ∙ sym c.place_at.ensures in
    record {
      inside = c.loop-at.invariant.inside;
      skips = c.loop-at.invariant.skips;
      found = found_here (drop c.loop-at.at bytes) c.place_at.result (omega (arith, length-drop c.loop-at.at bytes)) e c.in_default.not-Passed;
      fits = ends_within bytes c.loop-at.at c.place_at.result c.loop-at.invariant.inside e;
    }
