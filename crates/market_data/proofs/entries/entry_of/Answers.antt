use Rattle.std.proofs.Common.{sym, ◌∙◌, ap}
use Rattle.std.specs.List.{position}
use Rattle.market_data.specs.Entries.{begins_entry}
use Rattle.market_data.proofs.EntrySteps.{entry_to, entry_all, tail}
use Rattle.market_data.proofs.entries.entry_of.Goals as goal

pub returns-in-Some : goal.returns-in-Some
returns-in-Some c = entry_to c.args.fields.now c.in-Some.at c.requires (ap (position begins_entry) (sym (tail 1 c.args.fields.now)) ∙ sym c.in-Some.ensures.place)

pub returns-in-None : goal.returns-in-None
returns-in-None c = entry_all c.args.fields.now c.requires (ap (position begins_entry) (sym (tail 1 c.args.fields.now)) ∙ sym c.in-None.ensures.place)
