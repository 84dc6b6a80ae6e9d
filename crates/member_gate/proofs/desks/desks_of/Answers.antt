-- The desks of all members are in their order.
use Rattle.std.proofs.Common.{◌≡◌, length, ◌∙◌, ap, subst, rules}
use Rattle.member_gate.specs.Desks.{fresh_desks, AreInOrder}
use Rattle.member_gate.proofs.Fresh.{fresh_many, fresh_in_order}
use Rattle.member_gate.proofs.desks.desks_of.Goals as goal

pub returns-clause-order : goal.returns-clause-order
returns-clause-order c =
    let config = c.args.config.now in
    let all : fresh_desks config ≡ c.loop-number.desks.items = search rules in
    subst AreInOrder all (fresh_in_order config)

pub returns-clause-each : goal.returns-clause-each
returns-clause-each c =
    let config = c.args.config.now in
    let all : c.loop-number.desks.items ≡ fresh_desks config = search rules in
    ap length all ∙ fresh_many config
