-- The date that is computed is the calendar's.
use Rattle.std.proofs.Common.{◌≡◌, ℕ, suc, ◌+◌, ◌-◌, ◌<◌, ◌≤◌, leb, pos, ◌+ℤ◌, ◌∙◌, ap, arith, inl, inr, true, false}
use Rattle.std.proofs.lemmas.Bool.{cases_lt, le-leb}
use Rattle.jiff_core.specs.Calendar.{day_count, IsCivilDate}
use Rattle.jiff_core.specs.Date.{epoch_day}
use Rattle.jiff_core.specs.March.{march_days}
use Rattle.jiff_core.specs.declared.civil.date.Date.{Date}
use Rattle.jiff_core.proofs.SignedLemmas.{signed_arith}
use Rattle.jiff_core.proofs.MarchLemmas.{leap_day, leap_day-shift, march_days-suc, day_count-early, day_count-late, month_and_day, day_in_month, day_in_early_month}
use Rattle.jiff_core.proofs.CalendarLemmas.{days_from_civil-day_count}
use Rattle.jiff_core.proofs.DateLemmas.{epoch_day_injective}
use Rattle.fix_write.specs.Moments.{march_year, march_day, march_month, day_of_month, civil_of}

march_value : (days : ℕ) → days < 7400000 → march_days (march_year days) + march_day days ≡ days
march_value days h = omega arith

march_within : (days : ℕ) → days < 7400000 → days < march_days (march_year days + 1)
march_within days h = omega arith

march_bound : (days : ℕ) → days < 7400000 → march_day days < 366
march_bound days h = omega arith

year_late : (days : ℕ) → 3652365 ≤ days → days < 7304790 → march_month days ≤ 12 → (10000 ≤ march_year days) × (march_year days ≤ 19999)
year_late days h l m = (omega (arith, march_value days (omega arith), march_within days (omega arith)), omega arith)

year_early : (days : ℕ) → 3652365 ≤ days → days < 7304790 → 12 < march_month days → (9999 ≤ march_year days) × (march_year days ≤ 19998)
year_early days h l m = (omega arith, omega (arith, march_value days (omega arith)))

-- the date with these parts, where the calendar has it
made : (y m d : ℕ) → IsCivilDate (pos y) m d → Date
made y m d h = record { year = pos y; month = m; day = d; year_in = h.0; month_in = h.1; day_in = h.2 }

-- a date with the count of days of another has its parts
same_parts : (d : Date) (y m k : ℕ) (day : ℕ) → IsCivilDate (pos y) m k → day_count (pos y) m k ≡ day + 3652425 → epoch_day d +ℤ pos 4371587 ≡ pos (day + 3652059) → (d.year ≡ pos y) × (d.month ≡ m) × (d.day ≡ k)
unfolding made
same_parts d y m k day valid count e =
    epoch_day_injective d (made y m k valid) (omega (arith, signed_arith, days_from_civil-day_count d.year d.month d.day, days_from_civil-day_count (pos y) m k))

late_valid : (days : ℕ) → 3652365 ≤ days → days < 7304790 → march_month days ≤ 12 → IsCivilDate (pos (march_year days - 10000)) (march_month days) (day_of_month days)
late_valid days h l m =
    let y = year_late days h l m in
    ((omega (arith, signed_arith, y), omega (arith, signed_arith, y)), (omega arith, m), (omega arith, day_in_month (pos (march_year days - 10000)) (march_day days) m))

late_count : (days : ℕ) → 3652365 ≤ days → days < 7304790 → march_month days ≤ 12 → day_count (pos (march_year days - 10000)) (march_month days) (day_of_month days) ≡ days + 60
late_count days h l m =
    let y = year_late days h l m in
    let shift : pos (march_year days - 10000) +ℤ pos 10000 ≡ pos (march_year days) = omega (arith, signed_arith, y) in
    omega (arith, day_count-late (pos (march_year days - 10000)) (march_year days) (march_month days) (day_of_month days) shift (omega arith) m (omega arith), month_and_day (march_day days) (march_bound days (omega arith)), march_value days (omega arith))

early_valid : (days : ℕ) → 3652365 ≤ days → days < 7304790 → 12 < march_month days → IsCivilDate (pos (march_year days + 1 - 10000)) (march_month days - 12) (day_of_month days)
early_valid days h l m =
    let y = year_early days h l m in
    let shift : pos (march_year days + 1 - 10000) +ℤ pos 10000 ≡ pos (suc (march_year days)) = omega (arith, signed_arith, y) in
    let leap : leap_day (pos (march_year days + 1 - 10000)) ≡ leap_day (pos (suc (march_year days))) = leap_day-shift (pos (march_year days + 1 - 10000)) (suc (march_year days)) shift in
    let one : march_year days + 1 ≡ suc (march_year days) = omega arith in
    let next : march_days (march_year days + 1) ≡ march_days (march_year days) + 365 + leap_day (pos (suc (march_year days))) = ap march_days one ∙ march_days-suc (march_year days) in
    let short : march_day days < 365 + leap_day (pos (march_year days + 1 - 10000)) = omega (arith, leap, next, march_value days (omega arith), march_within days (omega arith)) in
    ((omega (arith, signed_arith, y), omega (arith, signed_arith, y)), (omega arith, omega (arith, march_bound days (omega arith))), (omega arith, day_in_early_month (pos (march_year days + 1 - 10000)) (march_day days) m short))

early_count : (days : ℕ) → 3652365 ≤ days → days < 7304790 → 12 < march_month days → day_count (pos (march_year days + 1 - 10000)) (march_month days - 12) (day_of_month days) ≡ days + 60
early_count days h l m =
    let y = year_early days h l m in
    let shift : pos (march_year days + 1 - 10000) +ℤ pos 10000 ≡ pos (suc (march_year days)) = omega (arith, signed_arith, y) in
    let month : march_month days - 12 + 12 ≡ march_month days = omega arith in
    let count = day_count-early (pos (march_year days + 1 - 10000)) (march_year days) (march_month days - 12) (day_of_month days) shift (omega arith) (omega (arith, march_bound days (omega arith))) (omega arith) in
    omega (arith, rw month at count, month_and_day (march_day days) (march_bound days (omega arith)), march_value days (omega arith))

-- the calendar's date of a day is the computed one
pub civil_is : (day : ℕ) → day < 3652425 → (d : Date) → epoch_day d +ℤ pos 4371587 ≡ pos (day + 3652059) → (d.year ≡ pos (civil_of day).year) × (d.month ≡ (civil_of day).month) × (d.day ≡ (civil_of day).day)
unfolding civil_of
civil_is day h d e =
    elim (cases_lt 12 (march_month (day + 3652365))) [
      | inl early ↦
          let test : leb (march_month (day + 3652365)) 12 ≡ false = grind arith in
          rw test (same_parts d _ _ _ day (early_valid (day + 3652365) (omega arith) (omega arith) early) (omega (arith, early_count (day + 3652365) (omega arith) (omega arith) early)) e)
      | inr late ↦
          let test : leb (march_month (day + 3652365)) 12 ≡ true = le-leb _ _ late in
          rw test (same_parts d _ _ _ day (late_valid (day + 3652365) (omega arith) (omega arith) late) (omega (arith, late_count (day + 3652365) (omega arith) (omega arith) late)) e)
    ]

-- the calendar has the date that is computed
pub civil_valid : (day : ℕ) → day < 3652425 → IsCivilDate (pos (civil_of day).year) (civil_of day).month (civil_of day).day
unfolding civil_of
civil_valid day h =
    elim (cases_lt 12 (march_month (day + 3652365))) [
      | inl early ↦
          let test : leb (march_month (day + 3652365)) 12 ≡ false = grind arith in
          rw test (early_valid (day + 3652365) (omega arith) (omega arith) early)
      | inr late ↦
          let test : leb (march_month (day + 3652365)) 12 ≡ true = le-leb _ _ late in
          rw test (late_valid (day + 3652365) (omega arith) (omega arith) late)
    ]

-- and it has that day's number
pub civil_count : (day : ℕ) → day < 3652425 → day_count (pos (civil_of day).year) (civil_of day).month (civil_of day).day ≡ day + 3652425
unfolding civil_of
civil_count day h =
    elim (cases_lt 12 (march_month (day + 3652365))) [
      | inl early ↦
          let test : leb (march_month (day + 3652365)) 12 ≡ false = grind arith in
          rw test (omega (arith, early_count (day + 3652365) (omega arith) (omega arith) early))
      | inr late ↦
          let test : leb (march_month (day + 3652365)) 12 ≡ true = le-leb _ _ late in
          rw test (omega (arith, late_count (day + 3652365) (omega arith) (omega arith) late))
    ]
