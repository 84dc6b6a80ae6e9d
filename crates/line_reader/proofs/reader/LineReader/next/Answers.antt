use Rattle.std.proofs.Common.{◌≡◌, List, ℕ, refl, sym, ◌∙◌, ap, subst, slice_range}
use Rattle.venue_words.specs.Causes.{Rose}
use Rattle.line_reader.specs.Reading.{Reading, Reads, reading, holds}
use Rattle.line_reader.specs.Seeking.{HoldsLine}
use Rattle.line_reader.proofs.HandedOut.{handed_out}
use Rattle.line_reader.proofs.reader.LineReader.next.Goals as goal

pub returns-in-Line : goal.returns-in-Line
returns-in-Line g c =
    let i = c.self.inside in
    let held : slice_range i.buffer.items i.start i.end ≡ c.seek.new.self.held = ap (λ (r : Reading). r.held) c.self.view_is in
    let same = subst (λ (h : List ℕ). reading i.lines i.bytes i.most i.buffer.items i.start i.end ≡ holds c.args.self.now h) (sym held) (c.self.view_is ∙ c.in-Line.ensures.held) in (
      (
        refl,
        λ _. tt,
        rw c.deref.ensures.value (handed_out c.args.self.now i.buffer.items i.lines i.bytes i.most i.start i.end c.in-Line.len
            (g.H.Shelf.left c.args.shelf.now) (g.H.Shelf.left c.seek.new.shelf) same
            (subst (Reads (g.H.Shelf.left c.args.shelf.now) (g.H.Shelf.left c.seek.new.shelf) c.args.self.now.held) (sym held) c.in-Line.ensures.reads)
            (subst (λ (h : List ℕ). HoldsLine h c.in-Line.len) (sym held) c.in-Line.ensures.finds)),
      ),
      record {
        gives = tt;
        told = c.in-Line.ensures.told;
        begun = c.in-Line.ensures.begun;
        later = c.in-Line.ensures.later;
        fault = λ e. absurd {A = Rose (g.H.Shelf.faults c.args.shelf.now) (g.H.Shelf.faults c.seek.new.shelf)} (cc);
        sure = λ s. ((c.in-Line.ensures.sure s).0, λ e. cc);
      },
    )
