-- The fields of a message that is sent.
use Rattle.std.proofs.Common.{◌≡◌, ℕ, ◌/◌, ◌%◌, ◌^◌, ◌<◌, true, false, eqb, List, [], ◌∷◌, ◌++◌, Option, Some, None, ℤ, refl, sym, ◌∙◌, ap, arith, append_assoc}
use Rattle.std.specs.Prelude.{codes, decimal}
use Rattle.std.specs.List.{list_any}
use Rattle.std.proofs.lemmas.Grind.{flat_map-append}
use Rattle.std.proofs.lemmas.Bool.Decides.{nat_tests}
use Rattle.std.proofs.lemmas.List.{append-nil}
use Rattle.std.proofs.lemmas.List.Folds.{list_any-append}
use Rattle.fix_fields.specs.declared.field.Field.{Field}
use Rattle.fix_fields.specs.Fields.{is_end, is_length, data_behind, split}
use Rattle.fix_fields.specs.FieldLaws.{split_only}
use Rattle.fix_fields.specs.Spelling.{spelling, spellings, IsPlain, AreFields}
use Rattle.fix_write.specs.declared.tags.TheConstants.{MSG_TYPE, SENDER_COMP_ID, TARGET_COMP_ID, MSG_SEQ_NUM, SENDING_TIME, POSS_DUP_FLAG, ORIG_SENDING_TIME}
use Rattle.fix_write.specs.Digits.{digit, two_digits, three_digits, four_digits}
use Rattle.fix_write.specs.Fields as writing
use Rattle.fix_write.specs.Moments.{civil_of, date_text, clock_text, milliseconds_of, moment_text}
use Rattle.fix_write.specs.Framing.{first_sent_text, head_text, frame_of}
use Rattle.fix_frames.specs.FramedLaws.{field-spelling}
use Rattle.message_laws.specs.Contents.{field, first_sent_fields, head_fields, IsText, FieldsComeBack}
use Rattle.message_laws.proofs.Contents.{decimal_has_no_end, content_of-wrapped, shorter_content}

-- ---- no text of a head has the byte that ends a field

digit_apart : (n : ℕ) → eqb (digit n) 1 ≡ false
digit_apart n = grind (arith, nat_tests)

two_apart : (n : ℕ) → IsText (two_digits n)
unfolding two_digits
two_apart n = rw (digit_apart (n / 10), digit_apart n) refl

three_apart : (n : ℕ) → IsText (three_digits n)
unfolding three_digits
three_apart n = rw (digit_apart (n / 100), digit_apart (n / 10), digit_apart n) refl

four_apart : (n : ℕ) → IsText (four_digits n)
unfolding four_digits
four_apart n = rw (digit_apart (n / 1000), digit_apart (n / 100), digit_apart (n / 10), digit_apart n) refl

record HasNoEnd (bytes : List ℕ) : Type 0 where
  none : IsText bytes

joined : (xs ys : List ℕ) → HasNoEnd xs → HasNoEnd ys → HasNoEnd (xs ++ ys)
joined xs ys x y =
    let first : list_any is_end xs ≡ false = x.none in
    let second : list_any is_end ys ≡ false = y.none in
    record { none = list_any-append is_end xs ys ∙ rw (first, second) refl }

two : (n : ℕ) → HasNoEnd (two_digits n)
two n = record { none = two_apart n }

one : (byte : ℕ) → eqb byte 1 ≡ false → HasNoEnd (byte ∷ [])
one byte h = record { none = rw h refl }

date_apart : (day : ℕ) → HasNoEnd (date_text day)
unfolding date_text
date_apart day =
    let year = four_digits (civil_of day).year in
    let month = two_digits (civil_of day).month in
    joined (year ++ month) (two_digits (civil_of day).day) (joined year month (record { none = four_apart (civil_of day).year }) (two (civil_of day).month)) (two (civil_of day).day)

clock_apart : (millisecond : ℕ) → HasNoEnd (clock_text millisecond)
unfolding clock_text
clock_apart millisecond =
    let second = millisecond / 1000 in
    let hour = two_digits (second / 3600) in
    let minute = two_digits (second / 60 % 60) in
    let last = two_digits (second % 60) in
    let colon = 58 ∷ [] in
    let point = 46 ∷ [] in
    joined (((((hour ++ colon) ++ minute) ++ colon) ++ last) ++ point) (three_digits (millisecond % 1000))
    (joined ((((hour ++ colon) ++ minute) ++ colon) ++ last) point
    (joined (((hour ++ colon) ++ minute) ++ colon) last
    (joined ((hour ++ colon) ++ minute) colon
    (joined (hour ++ colon) minute (joined hour colon (two (second / 3600)) (one 58 refl)) (two (second / 60 % 60)))
    (one 58 refl)) (two (second % 60))) (one 46 refl)) (record { none = three_apart (millisecond % 1000) })

moment_apart : (moment : ℤ) → IsText (moment_text moment)
unfolding moment_text
moment_apart moment =
    let date = date_text (milliseconds_of moment / 86400000) in
    let clock = clock_text (milliseconds_of moment % 86400000) in
    (joined (date ++ 45 ∷ []) clock (joined date (45 ∷ []) (date_apart (milliseconds_of moment / 86400000)) (one 45 refl)) (clock_apart (milliseconds_of moment % 86400000))).none

-- ---- a head is a list of plain fields

-- a tag of a head
record IsHeadTag (tag : ℕ) : Type 0 where
  low : 0 < tag
  high : tag < 100000
  plain : is_length tag ≡ false

plain_field : (tag : ℕ) (bytes : List ℕ) → IsHeadTag tag → IsText bytes → IsPlain (field tag bytes)
plain_field tag bytes of_head text =
    record { low = of_head.low; high = of_head.high; value = text; number = λ is. absurd (let other : false ≡ true = sym of_head.plain ∙ is in cc) }

no_data : (tag : ℕ) (bytes : List ℕ) → is_length tag ≡ false → data_behind tag bytes ≡ None
unfolding data_behind
no_data tag bytes plain = rw plain refl

record Are (fields : List Field) : Type 0 where
  fields_are : AreFields None fields

more_fields : (tag : ℕ) (bytes : List ℕ) (fields : List Field) → IsHeadTag tag → IsText bytes → Are fields → Are (field tag bytes ∷ fields)
more_fields tag bytes fields of_head text others =
    record { fields_are = (plain_field tag bytes of_head text, rw (no_data tag bytes of_head.plain) others.fields_are) }

head_tag : (tag : ℕ) → 0 < tag → tag < 100000 → is_length tag ≡ false → IsHeadTag tag
head_tag tag low high plain = record { low = low; high = high; plain = plain }

first_sent_are : (first_sent : Option ℤ) (fields : List Field) → Are fields → Are (first_sent_fields first_sent ++ fields)
first_sent_are None fields are = are
first_sent_are (Some moment) fields are =
    more_fields POSS_DUP_FLAG (codes "Y") _ (head_tag POSS_DUP_FLAG (omega arith) (omega arith) refl) refl
    (more_fields ORIG_SENDING_TIME (moment_text moment) _ (head_tag ORIG_SENDING_TIME (omega arith) (omega arith) refl) (moment_apart moment) are)

head_are : (kind : ℕ) (sender target : List ℕ) (number : ℕ) (moment : ℤ) (first_sent : Option ℤ) (fields : List Field) → IsText (kind ∷ []) → IsText sender → IsText target → number < 2 ^ 64 → Are fields → Are (head_fields kind sender target number moment first_sent ++ fields)
head_are kind sender target number moment first_sent fields k s t small are =
    more_fields MSG_TYPE (kind ∷ []) _ (head_tag MSG_TYPE (omega arith) (omega arith) refl) k
    (more_fields SENDER_COMP_ID sender _ (head_tag SENDER_COMP_ID (omega arith) (omega arith) refl) s
    (more_fields TARGET_COMP_ID target _ (head_tag TARGET_COMP_ID (omega arith) (omega arith) refl) t
    (more_fields MSG_SEQ_NUM (decimal number) _ (head_tag MSG_SEQ_NUM (omega arith) (omega arith) refl) (decimal_has_no_end number small)
    (more_fields SENDING_TIME (moment_text moment) _ (head_tag SENDING_TIME (omega arith) (omega arith) refl) (moment_apart moment)
    (first_sent_are first_sent fields are)))))

-- ---- it is written as these fields are spelled

first_sent_spelled : (first_sent : Option ℤ) → first_sent_text first_sent ≡ spellings (first_sent_fields first_sent)
first_sent_spelled None = refl
first_sent_spelled (Some moment) =
    ap (λ (x : List ℕ). x ++ writing.field ORIG_SENDING_TIME (moment_text moment)) (field-spelling POSS_DUP_FLAG (codes "Y"))
    ∙ ap (λ (x : List ℕ). spelling (field POSS_DUP_FLAG (codes "Y")) ++ x) (field-spelling ORIG_SENDING_TIME (moment_text moment) ∙ sym (append-nil (spelling (field ORIG_SENDING_TIME (moment_text moment)))))

five : (a b c d e f : List ℕ) → ((((a ++ b) ++ c) ++ d) ++ e) ++ f ≡ a ++ (b ++ (c ++ (d ++ (e ++ f))))
five a b c d e f = simp append_assoc

head_spelled : (kind : ℕ) (sender target : List ℕ) (number : ℕ) (moment : ℤ) (first_sent : Option ℤ) → head_text kind sender target number moment first_sent ≡ spellings (head_fields kind sender target number moment first_sent)
unfolding head_text
head_spelled kind sender target number moment first_sent =
    rw (field-spelling MSG_TYPE (kind ∷ []), field-spelling SENDER_COMP_ID sender, field-spelling TARGET_COMP_ID target, field-spelling MSG_SEQ_NUM (decimal number), field-spelling SENDING_TIME (moment_text moment), first_sent_spelled first_sent)
    (five (spelling (field MSG_TYPE (kind ∷ []))) (spelling (field SENDER_COMP_ID sender)) (spelling (field TARGET_COMP_ID target)) (spelling (field MSG_SEQ_NUM (decimal number))) (spelling (field SENDING_TIME (moment_text moment))) (spellings (first_sent_fields first_sent)))

message_spelled : (kind : ℕ) (sender target : List ℕ) (number : ℕ) (moment : ℤ) (first_sent : Option ℤ) (fields : List Field) → head_text kind sender target number moment first_sent ++ spellings fields ≡ spellings (head_fields kind sender target number moment first_sent ++ fields)
message_spelled kind sender target number moment first_sent fields =
    ap (λ (x : List ℕ). x ++ spellings fields) (head_spelled kind sender target number moment first_sent)
    ∙ sym (flat_map-append spelling (head_fields kind sender target number moment first_sent) fields)

pub fields_come_back : FieldsComeBack
unfolding frame_of
fields_come_back kind sender target number moment first_sent fields k s t small are fits =
    let content = head_text kind sender target number moment first_sent ++ spellings fields in
    let all = head_fields kind sender target number moment first_sent ++ fields in
    ap split (content_of-wrapped content (shorter_content content fits) ∙ message_spelled kind sender target number moment first_sent fields)
    ∙ split_only all (head_are kind sender target number moment first_sent fields k s t small (record { fields_are = are })).fields_are
