use Rattle.venue_words.specs.KeyLaws.{key_true, key_same}
use Rattle.peg_groups.proofs.GroupLookup.{none_there, some_there}
use Rattle.peg_groups.proofs.groups.group_of.Goals as goal

pub returns-in-None-clause-found : goal.returns-in-None-clause-found
returns-in-None-clause-found c = none_there _ c.args.key (key_same c.args.key) c.args.groups.now.entries c.in-None.ensures.found

pub returns-in-Some-clause-found : goal.returns-in-Some-clause-found
returns-in-Some-clause-found c = some_there _ c.args.key key_true c.args.groups.now.entries c.in-Some.i c.in-Some.ensures.index
