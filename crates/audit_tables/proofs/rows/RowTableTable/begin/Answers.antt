use Rattle.audit_tables.proofs.Putting.{held_on}
use Rattle.audit_tables.proofs.rows.RowTableTable.begin.Goals as goal

pub returns-clause-heard : goal.returns-clause-heard
returns-clause-heard g c = c.begin.ensures.heard

pub returns-clause-text : goal.returns-clause-text
returns-clause-text g c =
    let lines = c.args.self.now.lines in
    held_on (g.K.Sink.told lines.out) lines.bytes.items c.begin.new.out.items g.R.Rows.header c.begin.result c.begin.ensures.text
