-- How bytes move.
use Rattle.std.specs.Prelude.{◌++◌}
use Rattle.socket_ports.specs.Flows.{Moved}
use Rattle.socket_ports.specs.declared.flow.Move.{Move}
use Rattle.socket_ports.specs.declared.flow.Move.TheVariants.{Gave, Took}

-- with these bytes too
abbrev pub went_on : Moved → Move → Moved
went_on m (Gave bytes) = record m { came = m.came ++ bytes.now }
went_on m (Took bytes) = record m { went = m.went ++ bytes.now }
