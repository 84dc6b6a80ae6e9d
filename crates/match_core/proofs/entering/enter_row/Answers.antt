use Rattle.std.proofs.Common.{◌≡◌, length, ap, ◌∙◌}
use Rattle.venue_words.specs.declared.price.Best.{Best}
use Rattle.peg_groups.specs.Side.{priced_at}
use Rattle.match_core.proofs.Enters.{own_with, own_entered, others_entered, fills_entered, few_entered}
use Rattle.match_core.proofs.entering.enter_row.Given.{Over}
use Rattle.match_core.proofs.entering.enter_row.Goals as goal

module _ (g : Over) (c : goal.After-struct_known-2-1 g) where
  rests : (g.S.SideBook.state c.rest.new.own).rows ≡ own_with c.args.enters.immediate c.walk_in-walked.result.shares (priced_at c.args.enters.quote c.args.enters.row) (g.S.SideBook.state c.args.own.now).rows
  rests = c.rest.ensures.own ∙ ap (λ (b : Best). own_with c.args.enters.immediate c.walk_in-walked.result.shares (priced_at b c.args.enters.row) (g.S.SideBook.state c.args.own.now).rows) c.requires.quote

pub returns-clause-own : goal.returns-clause-own
returns-clause-own g c = own_entered (priced_at c.args.enters.quote c.args.enters.row) c.price_at-taker.result c.args.enters.immediate c.walk_in-walked.result.shares (g.S.SideBook.state c.args.own.now).rows (g.S.SideBook.state c.args.other.now).rows (g.S.SideBook.state c.rest.new.own).rows c.price_at-taker.ensures c.walk_in-walked.ensures.total (rests g c)

pub returns-clause-others : goal.returns-clause-others
returns-clause-others g c = others_entered (priced_at c.args.enters.quote c.args.enters.row) c.price_at-taker.result c.args.enters.immediate (g.S.SideBook.state c.args.own.now).rows (g.S.SideBook.state c.args.other.now).rows (g.S.SideBook.state c.walk_in-walked.new.other).rows c.price_at-taker.ensures c.walk_in-walked.ensures.put

pub returns-clause-fills : goal.returns-clause-fills
returns-clause-fills g c = fills_entered (priced_at c.args.enters.quote c.args.enters.row) c.price_at-taker.result c.args.enters.immediate (g.S.SideBook.state c.args.own.now).rows (g.S.SideBook.state c.args.other.now).rows c.args.scratch.now.fills.items c.walk_in-walked.new.fills.items c.price_at-taker.ensures c.requires.scratch.1.fills c.walk_in-walked.ensures.filled

pub returns-clause-few : goal.returns-clause-few
returns-clause-few g c = few_entered (priced_at c.args.enters.quote c.args.enters.row) c.price_at-taker.result c.args.enters.immediate c.walk_in-walked.result.shares (length (g.S.SideBook.state c.walk_in-walked.new.other).rows) (length c.walk_in-walked.new.fills.items) (length (g.S.SideBook.state c.args.other.now).rows) (g.S.SideBook.state c.args.own.now).rows (g.S.SideBook.state c.rest.new.own).rows c.args.scratch.now.fills.items c.price_at-taker.ensures c.requires.scratch.1.fills (rests g c) c.walk_in-walked.ensures.few
