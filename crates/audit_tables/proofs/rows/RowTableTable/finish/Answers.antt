use Rattle.audit_tables.proofs.rows.RowTableTable.finish.Goals as goal

pub returns-clause-text : goal.returns-clause-text
returns-clause-text g c = c.put_all.ensures.text

pub returns-clause-none : goal.returns-clause-none
returns-clause-none g c = c.put_all.ensures.none

pub returns-clause-cause : goal.returns-clause-cause
returns-clause-cause g c = c.put_all.ensures.cause
