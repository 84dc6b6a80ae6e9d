-- Where a symbol has no news, nothing is added.
use Rattle.std.proofs.Common.{◌≡◌, ◌≤◌, true, false, List, ◌++◌, length, sym, ◌∙◌, ap, append-nil, arith}
use Rattle.session_core.specs.declared.message.Message.{Message}
use Rattle.member_gate.specs.Answering.{name_at}
use Rattle.member_gate.proofs.Looking.{no_messages}
use Rattle.member_gate.proofs.reporting.look_where_past.Goals.{else-known-via-then-known+else-known-2, else-known-via-else-known}
use Rattle.member_gate.proofs.reporting.look_where_past.Goals as goal

pub returns-else-known-clause-messages : goal.returns-else-known-clause-messages
returns-else-known-clause-messages g c =
    let read : c.args.known.asked ≡ true → length (g.F.Floor.at c.args.floor.now c.args.known.symbol).reports ≤ c.args.known.from =
    elim c.else-known.branch [
      | else-known-via-then-known+else-known-2 w ↦ λ on. omega (arith, w.if-known-2.false, c.requires.front)
      | else-known-via-else-known w ↦ λ on. absurd (let contrary : true ≡ false = sym on ∙ w.if-known.false in cc)
    ] in
    let none = no_messages c.args.reader.config.now c.args.reader.member (name_at c.args.reader.config.now.symbols c.args.known.symbol) c.args.known.from
    (g.F.Floor.at c.args.floor.now c.args.known.symbol).reports c.args.known.asked read in
    sym (ap (λ (more : List Message). c.args.messages.now ++ more) none ∙ append-nil c.args.messages.now)
