-- The rows of the orders so far were added.
use Rattle.audit_html.specs.Chunks.{Adds}
use Rattle.audit_report.specs.declared.parts.Part.TheVariants.{Orders}
use Rattle.audit_report.specs.Orders.{rows_to}
use Rattle.audit_report.specs.Parts.{box}
use Rattle.audit_report.proofs.orders.add_orders.Given as goal

abbrev pub invariant-loop-number : goal.invariant-loop-number
invariant-loop-number g l = Adds (box Orders) (rows_to l.number l.lives.told.config.now l.lives.told.symbol l.lives.book.now.journal) l.initial.chunks l.chunks
