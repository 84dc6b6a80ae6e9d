-- From one piece to the next, and to the end.
use Rattle.std.proofs.Common.{◌≡◌, ◌≤◌, ◌<◌, ◌-◌, ◌+◌, ◌++◌, ℕ, List, [], length, take, arith, sym, ap, subst}
use Rattle.std.proofs.KnownBytes.{Consumes-nil}
use Rattle.std.specs.Io.KnownBytes.{Consumes, IsAtEnd}
use Rattle.audit_journal.specs.declared.file.TheConstants.{MAX_JOURNAL_BYTES}
use Rattle.audit_journal.proofs.ReadSteps.{read_on, read_end, fits}
use Rattle.audit_journal.proofs.file.read_all.Goals as goal

pub pieces-init : goal.pieces-init
pieces-init g c = record {
  read = subst (λ (b : List ℕ). Consumes (g.H.Shelf.left c.args.shelf.now) (g.H.Shelf.left c.args.shelf.now) b) (sym c.new-bytes.ensures.items) (Consumes-nil (g.H.Shelf.left c.args.shelf.now));
  within = subst (λ (b : List ℕ). length b ≤ MAX_JOURNAL_BYTES) (sym c.new-bytes.ensures.items) (omega arith);
  begun = c.requires.begun;
  later = omega arith;
}

pub returns-then-count-eq0-clause-bytes : goal.returns-then-count-eq0-clause-bytes
returns-then-count-eq0-clause-bytes g c = (
  read_end (g.H.Shelf.left c.args.shelf.now) (g.H.Shelf.left c.pieces.shelf) (g.H.Shelf.left c.pull.new.self) c.pieces.bytes.items c.pull.new.buffer c.in-Ok.count
      c.pieces.invariant.read c.in-Ok.ensures.bytes.0 c.if-count-eq0.true,
  c.in-Ok.ensures.bytes.1 c.if-count-eq0.true (omega (arith, c.pull.auto.buffer, c.pieces.auto.buffer, c.requires.room)),
)

pub pieces-preserved : goal.pieces-preserved
pieces-preserved g c = record {
  read = read_on (g.H.Shelf.left c.args.shelf.now) (g.H.Shelf.left c.pieces.shelf) (g.H.Shelf.left c.pull.new.self) c.pieces.bytes.items (take c.in-Ok.count c.pull.new.buffer) c.extend_from_slice.new.self.items
      c.pieces.invariant.read c.in-Ok.ensures.bytes.0 (c.in_ok-extend_from_slice.ensures.items);
  within = fits MAX_JOURNAL_BYTES c.pieces.bytes.items c.pull.new.buffer c.extend_from_slice.new.self.items c.in-Ok.count c.pieces.invariant.within (λ odd. omega (arith, odd, c.if-len-count.false, c.len.ensures)) (c.in_ok-extend_from_slice.ensures.items);
  begun = c.in-Ok.ensures.begun;
  later = omega (arith, c.pieces.invariant.later, c.in-Ok.ensures.cause.later);
}
