use Rattle.std.proofs.Common.{ap, ◌∙◌}
use Rattle.venue_words.specs.declared.row.Row.{Row}
use Rattle.venue_words.specs.Rows.{insert_by_entry}
use Rattle.peg_groups.specs.Side.{SideState, priced_at}
use Rattle.match_core.proofs.Changes.{left_none, left_some}
use Rattle.match_core.proofs.entering.put_left.Goals as goal

pub returns-then-row-eq0-clause-own : goal.returns-then-row-eq0-clause-own
returns-then-row-eq0-clause-own g c = left_none (priced_at (g.S.SideBook.state c.args.own.now).best c.args.row) (g.S.SideBook.state c.args.own.now).rows c.if-row-eq0.true

pub returns-clause-own : goal.returns-clause-own
returns-clause-own g c =
    ap (λ (s : SideState). s.rows) c.put.ensures.state
    ∙ ap (λ (r : Row). insert_by_entry (priced_at (g.S.SideBook.state c.args.own.now).best r) (g.S.SideBook.state c.args.own.now).rows) c.node_of.ensures.row
    ∙ left_some (priced_at (g.S.SideBook.state c.args.own.now).best c.args.row) (g.S.SideBook.state c.args.own.now).rows c.if-row-eq0.false c.requires.last
