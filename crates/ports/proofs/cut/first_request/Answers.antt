use Rattle.std.proofs.Common.{inr}
use Rattle.ports.proofs.Cuts.{once_found, once_none, ends_found}
use Rattle.ports.proofs.cut.first_request.Goals as goal

pub returns-in-Some-clause-one : goal.returns-in-Some-clause-one
returns-in-Some-clause-one c = once_found c.args.bytes.now c.find.result c.in-Some.at c.find.ensures c.in-Some.is

pub returns-in-Some-clause-stays : goal.returns-in-Some-clause-stays
returns-in-Some-clause-stays c = inr (ends_found c.args.bytes.now c.find.result c.in-Some.at c.find.ensures c.in-Some.is)

pub returns-in-None-clause-one : goal.returns-in-None-clause-one
returns-in-None-clause-one c = once_none c.args.bytes.now c.find.result c.find.ensures c.in-None.is
