use Rattle.std.proofs.Common.{sym, arith, append-nil, refl}
use Rattle.std.proofs.lemmas.Bool.{lt-ltb, le-ltb}
use Rattle.peg_groups.specs.Side.{taken_row}
use Rattle.match_core.proofs.Trades.{fills_none, fills_one}
use Rattle.match_core.proofs.settling.push_fill.Goals as goal

pub returns-then-shares-gt0-clause-items : goal.returns-then-shares-gt0-clause-items
returns-then-shares-gt0-clause-items c = rw (lt-ltb 0 c.args.shares c.if-shares-gt0.true, fills_one c.args.t.now (taken_row c.args.taken.now) c.args.shares, c.push_reserved.ensures.items, c.fill_price.ensures, c.party_of-then-shares-gt0.ensures, c.party_of.ensures, c.row_of-contra.ensures) refl

pub returns-else-shares-gt0-clause-items : goal.returns-else-shares-gt0-clause-items
returns-else-shares-gt0-clause-items c = rw (le-ltb 0 c.args.shares (omega (arith, c.if-shares-gt0.false)), fills_none c.args.t.now) (sym (append-nil _))
