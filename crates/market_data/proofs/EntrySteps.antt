-- The entries of a snapshot, one after the other.
use Rattle.std.proofs.Common.{◌≡◌, ℕ, suc, ◌+◌, ◌-◌, subst, length-drop, ◌<◌, ◌≤◌, Bool, true, false, cond, nat_lt, List, [], ◌∷◌, length, take, drop, Some, None, position, ℤ, pos, negsuc, ◌/◌, ◌%◌, ◌==◌, refl, sym, ◌∙◌, ap, arith}
use Rattle.std.specs.List.{position_or_len}
use Rattle.std.proofs.lemmas.Bool.Decides.{nat_tests}
use Rattle.std.proofs.lemmas.List.{take_all}
use lib.IntN.{nat_abs}
use Rattle.std.specs.Int.Signed.{lt_z}
use Rattle.venue_words.specs.declared.limits.TheConstants.{MAX_CENTS}
use Rattle.quote_intake.specs.Price.{in_range}
use Rattle.fix_fields.specs.declared.field.Field.{Field}
use Rattle.market_data.specs.Entries.{begins_entry, entry_of, entries_of, whole_cents, cents_of_amount}

found : (n m at : ℕ) → cond (nat_lt n m) (Some n) None ≡ Some at → n ≡ at
found n m at e = grind (arith, nat_tests)

not_found : (n m : ℕ) → cond (nat_lt n m) (Some n) None ≡ None → m ≤ n
not_found n m e = grind (arith, nat_tests)

take_one_more : (at : ℕ) (field : Field) (fields : List Field) → take (at + 1) (field ∷ fields) ≡ field ∷ take at fields
take_one_more at field fields = let e : at + 1 ≡ suc at = omega arith in ap (λ (n : ℕ). take n (field ∷ fields)) e

-- the next entry begins there
pub entry_to : (fields : List Field) (at : ℕ) → 0 < length fields → position begins_entry (drop 1 fields) ≡ Some at → take (at + 1) fields ≡ entry_of fields
entry_to [] at some e = absurd (omega arith)
entry_to (field ∷ fields) at some e =
    take_one_more at field fields
    ∙ ap (λ (n : ℕ). field ∷ take n fields) (sym (found (position_or_len begins_entry fields) (length fields) at e))

-- no further one begins
pub entry_all : (fields : List Field) → 0 < length fields → position begins_entry (drop 1 fields) ≡ None → fields ≡ entry_of fields
entry_all [] some e = absurd (omega arith)
entry_all (field ∷ fields) some e =
    ap (λ (fs : List Field). field ∷ fs) (sym (take_all (position_or_len begins_entry fields) fields (not_found (position_or_len begins_entry fields) (length fields) e)))

-- ---- markets that are named

pub entries-none : entries_of [] ≡ []
unfolding entries_of
entries-none = refl

-- ---- cents of amounts

none_large : (test : Bool) (units : ℕ) → (test ≡ true → MAX_CENTS < units / 1000000) → cond test (in_range (units / 1000000)) None ≡ None
unfolding in_range
none_large true units h = let over = h refl in grind (arith, nat_tests)
none_large false units h = refl

-- an amount is read as itself
pub cents_negative : (units read : ℤ) → read ≡ units → lt_z read (pos 0) ≡ true → None ≡ cents_of_amount units
unfolding cents_of_amount
cents_negative (pos n) read e h = absurd (grind (arith, nat_tests, subst (λ (z : ℤ). lt_z z (pos 0) ≡ true) e h))
cents_negative (negsuc n) read e h = refl

pub cents_large : (units read : ℤ) → read ≡ units → lt_z (pos 1999999000000) read ≡ true → None ≡ cents_of_amount units
unfolding cents_of_amount whole_cents
cents_large (pos n) read e h =
    let large : 1999999000000 < n = grind (arith, nat_tests, subst (λ (z : ℤ). lt_z (pos 1999999000000) z ≡ true) e h) in
    sym (none_large ((n % 1000000) == 0) n (λ t. let whole : n % 1000000 ≡ 0 = grind (arith, nat_tests) in omega arith))
cents_large (negsuc n) read e h = refl

pub cents_within : (units read : ℤ) → read ≡ units → lt_z read (pos 0) ≡ false → whole_cents (nat_abs read) ≡ cents_of_amount units
unfolding cents_of_amount
cents_within (pos n) read e h = ap (λ (z : ℤ). whole_cents (nat_abs z)) e
cents_within (negsuc n) read e h = absurd (let t : lt_z (negsuc n) (pos 0) ≡ false = subst (λ (z : ℤ). lt_z z (pos 0) ≡ false) e h in cc)

-- a slice to the end is what is left
pub tail : {A : Type 0} (k : ℕ) (xs : List A) → take (length xs - k) (drop k xs) ≡ drop k xs
tail k xs = take_all (length xs - k) (drop k xs) (omega (arith, length-drop k xs))
