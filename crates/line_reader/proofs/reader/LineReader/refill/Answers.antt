use Rattle.std.proofs.Common.{◌≡◌, ◌≤◌, ◌-◌, ◌++◌, take, drop, slice_range, length, arith, ap, length-take, length-drop}
use Rattle.std.proofs.lemmas.Grind.{common_steps}
use Rattle.venue_words.specs.declared.limits.TheConstants.{MAX_LINE_BYTES}
use Rattle.line_reader.specs.Reading.{Reading}
use Rattle.line_reader.proofs.Windows.{front, refilled}
use Rattle.line_reader.proofs.reader.LineReader.refill.Goals as goal

pub returns-in-Ok-clause-reads : goal.returns-in-Ok-clause-reads
returns-in-Ok-clause-reads g c =
    let whole : take c.self.inside.buffer.len (c.refill-count.new.buffer ++ drop (length c.refill-count.new.buffer) c.self.inside.buffer.items)
    ≡ c.refill-count.new.buffer = front _ _ _ (omega arith) in
    let held : slice_range c.self.inside.buffer.items c.self.inside.start c.self.inside.end ≡ c.args.self.now.held =
    ap (λ (r : Reading). r.held) c.self.view_is in
    let size : c.self.inside.end - c.self.inside.start ≤ MAX_LINE_BYTES =
    omega (
      arith,
      length-take (c.self.inside.end - c.self.inside.start) (drop c.self.inside.start c.self.inside.buffer.items),
      length-drop c.self.inside.start c.self.inside.buffer.items,
      ap length held,
      c.requires.short,
    ) in
    rw (whole, ← held) (refilled c.self.inside.buffer.items c.refill-count.new.buffer c.self.inside.start c.self.inside.end c.in-Ok.count
    (g.H.Shelf.left c.args.shelf.now) (g.H.Shelf.left c.refill-count.new.shelf) (omega arith) (omega (arith, c.in-Ok.ensures.bound)) (rw c.as_mut_slice.ensures.value at c.refill-count.ensures.kept)
    c.in-Ok.ensures.bytes.0 c.in-Ok.ensures.bytes.1)

pub returns-in-Err-clause-reads : goal.returns-in-Err-clause-reads
returns-in-Err-clause-reads g c = grind (arith, common_steps)
