-- The calendar's day number is the defined one.
use Rattle.std.proofs.Common.{arith, w8, w16, ℤ, pos, neg_ℤ, ◌≤ℤ◌, ◌∙◌, ap, sym, subst, Some, refl}
use Rattle.std.proofs.lemmas.Int.{to_z_pos}
use Rattle.fix_fields.proofs.Dates.{date_found, date_missing, from_year_zero, through_widths}
use Rattle.fix_fields.proofs.moments.civil_day.Goals as goal

pub returns-in-Ok-clause-value : goal.returns-in-Ok-clause-value
returns-in-Ok-clause-value c =
    let y = to_z_pos w16 c.args.year (omega arith) in
    let m = to_z_pos w8 c.args.month (omega arith) in
    let d = to_z_pos w8 c.args.day (omega arith) in
    let v = c.in-Ok.ensures.value in
    let found = date_found c.args.year c.args.month c.args.day c.in-Ok.date.year c.in-Ok.date.month c.in-Ok.date.day _ _ _ y m d v.0 v.1 v.2 (c.in-Ok.ensures.succeeds.0 refl) in
    let e = through_widths c.to_unix_epoch_day.result c.to_unix_epoch_day.ensures.bound in
    ap (λ (z : ℤ). Some z) (e ∙ c.to_unix_epoch_day.ensures.value) ∙ sym found

pub returns-in-Ok-clause-bound : goal.returns-in-Ok-clause-bound
returns-in-Ok-clause-bound c =
    let y = to_z_pos w16 c.args.year (omega arith) in
    let date = c.in-Ok.date in
    let low = from_year_zero date.year c.args.year date.month date.day (c.in-Ok.ensures.value.0 ∙ y) date.day_in.0 in
    let is = c.to_unix_epoch_day.ensures.value in
    let e = through_widths c.to_unix_epoch_day.result c.to_unix_epoch_day.ensures.bound in
    rw e (subst (λ (z : ℤ). neg_ℤ (pos 719528) ≤ℤ z) (sym is) low, c.to_unix_epoch_day.ensures.bound.1)

pub returns-in-Err-clause-value : goal.returns-in-Err-clause-value
returns-in-Err-clause-value c =
    let y = to_z_pos w16 c.args.year (omega arith) in
    let m = to_z_pos w8 c.args.month (omega arith) in
    let d = to_z_pos w8 c.args.day (omega arith) in
    sym (date_missing c.args.year c.args.month c.args.day _ _ _ y m d (omega arith) c.in-Err.ensures.succeeds.1)
