use Rattle.std.proofs.Common.{None, refl}
use Rattle.audit_order.proofs.Stepping.{kept_first}
use Rattle.audit_order.proofs.following.nothing.Goals as goal

pub returns : goal.returns
returns c = λ config symbol first. kept_first config symbol first (record { before = 0; number = None; rests = None }) refl refl refl
