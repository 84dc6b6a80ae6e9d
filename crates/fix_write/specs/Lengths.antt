-- How long fields and heads are.
use Rattle.std.proofs.Common.{◌≡◌, ℕ, ◌+◌, List, [], ◌∷◌, ◌++◌, length, ℤ, Option, Some, refl, arith, length-append}
use Rattle.std.specs.Prelude.{codes, decimal}
use Rattle.std.specs.Fmt.{digits}
use Rattle.fix_write.specs.declared.tags.TheConstants.{MSG_TYPE, SENDER_COMP_ID, TARGET_COMP_ID, MSG_SEQ_NUM, SENDING_TIME, POSS_DUP_FLAG, ORIG_SENDING_TIME}
use Rattle.fix_write.specs.Digits.{two_digits, three_digits, four_digits}
use Rattle.fix_write.specs.Fields.{field}
use Rattle.fix_write.specs.Moments.{date_text, clock_text, moment_text}
use Rattle.fix_write.specs.Framing.{first_sent_text, head_text}

pub length-field : (tag : ℕ) (value : List ℕ) → length (field tag value) ≡ length (decimal tag) + 2 + length value
unfolding field
length-field tag value =
    omega (arith, length-append (decimal tag ++ codes "=" ++ value) (1 ∷ []), length-append (decimal tag ++ codes "=") value, length-append (decimal tag) (codes "="))

pub length-date_text : (day : ℕ) → length (date_text day) ≡ 8
unfolding date_text four_digits two_digits
length-date_text day = refl

pub length-clock_text : (millisecond : ℕ) → length (clock_text millisecond) ≡ 12
unfolding clock_text three_digits two_digits
length-clock_text millisecond = refl

pub length-moment_text : (moment : ℤ) → length (moment_text moment) ≡ 21
unfolding moment_text
length-moment_text moment = simp (length-append, length-date_text, length-clock_text)

-- tags of two and of three digits
length-two : (tag : ℕ) → length (decimal tag) ≡ 2 → (value : List ℕ) → length (field tag value) ≡ 4 + length value
length-two tag h value = omega (arith, length-field tag value)

length-three : (tag : ℕ) → length (decimal tag) ≡ 3 → (value : List ℕ) → length (field tag value) ≡ 5 + length value
length-three tag h value = omega (arith, length-field tag value)

pub length-first_sent_text : (moment : ℤ) → length (first_sent_text (Some moment)) ≡ 31
unfolding digits
length-first_sent_text moment =
    omega (arith, length-append (field POSS_DUP_FLAG (codes "Y")) (field ORIG_SENDING_TIME (moment_text moment)), length-two POSS_DUP_FLAG refl (codes "Y"), length-three ORIG_SENDING_TIME refl (moment_text moment), length-moment_text moment)

pub length-head_text : (kind : ℕ) (sender target : List ℕ) (number : ℕ) (moment : ℤ) (first_sent : Option ℤ) → length (head_text kind sender target number moment first_sent) ≡ 42 + length (decimal number) + length (first_sent_text first_sent) + length sender + length target
unfolding head_text digits
length-head_text kind sender target number moment first_sent =
    simp length-append (omega (arith, length-two MSG_TYPE refl (kind ∷ []), length-two SENDER_COMP_ID refl sender, length-two TARGET_COMP_ID refl target, length-two MSG_SEQ_NUM refl (decimal number), length-two SENDING_TIME refl (moment_text moment), length-moment_text moment))
