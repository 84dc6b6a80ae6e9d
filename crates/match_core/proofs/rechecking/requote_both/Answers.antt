use Rattle.match_core.proofs.SideRows.{full_repriced, length_repriced}
use Rattle.match_core.proofs.rechecking.requote_both.Goals as goal

pub recheck-requires-clause-buys_full : goal.recheck-requires-clause-buys_full
recheck-requires-clause-buys_full g c = rw c.reprice.ensures.state (full_repriced c.args.event c.args.quote (g.S.SideBook.state c.args.buys.now).rows c.requires.buys_full)

pub recheck-requires-clause-sells_full : goal.recheck-requires-clause-sells_full
recheck-requires-clause-sells_full g c = rw c.reprice-2.ensures.state (full_repriced c.args.event c.args.quote (g.S.SideBook.state c.args.sells.now).rows c.requires.sells_full)

pub recheck-requires-clause-room : goal.recheck-requires-clause-room
recheck-requires-clause-room g c = rw (c.reprice.ensures.state, c.reprice-2.ensures.state, length_repriced c.args.event c.args.quote (g.S.SideBook.state c.args.buys.now).rows, length_repriced c.args.event c.args.quote (g.S.SideBook.state c.args.sells.now).rows) c.requires.room

pub returns-clause-few : goal.returns-clause-few
returns-clause-few g c = rw (c.reprice.ensures.state, c.reprice-2.ensures.state, length_repriced c.args.event c.args.quote (g.S.SideBook.state c.args.buys.now).rows, length_repriced c.args.event c.args.quote (g.S.SideBook.state c.args.sells.now).rows) at c.recheck.ensures.few
