-- The date that is made is the calendar's.
use Rattle.std.proofs.Common.{arith, ◌≡◌, ◌+◌, ◌+ℤ◌, pos}
use Rattle.jiff_core.specs.Date.{epoch_day}
use Rattle.jiff_core.proofs.SignedLemmas.{signed_arith}
use Rattle.fix_write.proofs.CivilDates.{civil_is}
use Rattle.fix_write.proofs.moments.date_of.Goals as goal

-- the day number of the date that was made
counted : (c : goal.After-from_days_since_min) → epoch_day c.from_days_since_min.result +ℤ pos 4371587 ≡ pos (c.args.day + 3652059)
counted c = omega (arith, signed_arith, c.from_days_since_min.ensures)

pub returns-clause-year : goal.returns-clause-year
returns-clause-year c = (civil_is c.args.day c.requires c.from_days_since_min.result (counted c)).0

pub returns-clause-month : goal.returns-clause-month
returns-clause-month c = (civil_is c.args.day c.requires c.from_days_since_min.result (counted c)).1

pub returns-clause-day_of_month : goal.returns-clause-day_of_month
returns-clause-day_of_month c = (civil_is c.args.day c.requires c.from_days_since_min.result (counted c)).2
