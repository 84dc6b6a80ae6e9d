use Rattle.std.proofs.Common.{◌≡◌, ◌++◌, ℕ, List, [], sym, ◌∙◌, ap, append-nil, subst}
use Rattle.io_edge.specs.Grows.{AppendsPrefix}
use Rattle.listing.proofs.Handed.{at_err}
use Rattle.audit_tables.proofs.lines.Lines.put_all.Goals as goal

pub returns-in_err-put-clause-text : goal.returns-in_err-put-clause-text
returns-in_err-put-clause-text g c =
    let held = c.args.self.now.bytes.items in
    let piece : c.as_slice.result.now ≡ held ++ [] = c.as_slice.ensures.value ∙ sym (append-nil held) in
    let begun = AppendsPrefix (g.K.Sink.told c.args.self.now.out) (g.K.Sink.told c.put.new.self) (held ++ []) in
    at_err _ c.from_residual.result _ begun c.from_residual.ensures.1
    (subst (λ (t : List ℕ). AppendsPrefix (g.K.Sink.told c.args.self.now.out) (g.K.Sink.told c.put.new.self) t) piece c.in_err-put.ensures.bytes)

pub returns-clause-text : goal.returns-clause-text
returns-clause-text g c = record {
  done = c.as_slice.result.now;
  grew = c.in_ok-put.ensures.bytes;
  rest = ap (λ (t : List ℕ). c.as_slice.result.now ++ t) c.clear.ensures.items ∙ ap (λ (t : List ℕ). t ++ []) c.as_slice.ensures.value;
}
