use Rattle.std.proofs.Common.{◌≡◌, take}
use Rattle.feeds_core.proofs.config_copy.names_of.Given as goal

-- the names so far
abbrev pub invariant-loop-name : goal.invariant-loop-name
invariant-loop-name l = l.copy ≡ take l.name-index l.names
