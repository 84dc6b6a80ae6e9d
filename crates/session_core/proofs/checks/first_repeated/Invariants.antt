-- None was found so far.
use Rattle.std.proofs.Common.{◌≡◌, [], take, drop}
use Rattle.session_core.specs.Checks.{first_repeated}
use Rattle.session_core.proofs.checks.first_repeated.Given as goal

abbrev pub invariant-loop-i : goal.invariant-loop-i
invariant-loop-i l =
    first_repeated l.required l.optional (take l.i l.fields) (drop l.i l.fields) ≡ first_repeated l.required l.optional [] l.fields
