-- What is written as a frame is a frame.
use Rattle.std.proofs.Common.{◌≡◌, ℕ, ◌%◌, ◌<◌, ◌≤◌, true, List, [], ◌∷◌, ◌++◌, length, Option, Some, None, ℤ, ◌⊎◌, inl, inr, refl, sym, ◌∙◌, ap, arith, append_assoc, length-append}
use Rattle.std.specs.Prelude.{codes, decimal, sum}
use Rattle.std.specs.Fmt.{digits}
use Rattle.std.specs.Char.{is_ascii_digit}
use Rattle.std.specs.List.{list_all}
use Rattle.std.specs.Str.Parse.{digits_value}
use Rattle.std.proofs.lemmas.Fmt.{digits_decimal, digits_value-decimal, length-decimal-le, decimal_nonempty}
use Rattle.std.proofs.lemmas.List.{append-nil}
use Rattle.venue_words.specs.declared.limits.TheConstants.{MAX_FRAME_BYTES}
use Rattle.fix_fields.specs.Forms.{numeral}
use Rattle.fix_fields.specs.Spelling.{spelling}
use Rattle.fix_fields.specs.Tags.{numerals}
use Rattle.fix_write.specs.Digits.{three_digits}
use Rattle.fix_write.specs.Fields.{field}
use Rattle.fix_write.specs.Moments.{moment_text}
use Rattle.fix_write.specs.Framing.{opening, closed, wrapped, first_sent_text, head_text, frame_of}
use Rattle.fix_frames.specs.Frames.{header, check_sum, EndsWithSoh, IsFrame}

opening_is : (size : ℕ) → opening size ≡ header (decimal size)
unfolding opening field digits
opening_is size = ap (λ (x : List ℕ). codes "8=FIXT.1.1" ++ 1 ∷ x) (append_assoc (codes "9=") (decimal size) (1 ∷ []))

check_sum_is : (bytes : List ℕ) → field 10 (three_digits (sum bytes % 256)) ≡ check_sum bytes
unfolding field digits
check_sum_is bytes = append_assoc (codes "10=") (three_digits (sum bytes % 256)) (1 ∷ [])

wrapped_is : (content : List ℕ) → wrapped content ≡ (header (decimal (length content)) ++ content) ++ check_sum (header (decimal (length content)) ++ content)
unfolding wrapped closed
wrapped_is content =
    ap (λ (o : List ℕ). (o ++ content) ++ field 10 (three_digits (sum (o ++ content) % 256))) (opening_is (length content))
    ∙ ap (λ (t : List ℕ). (header (decimal (length content)) ++ content) ++ t) (check_sum_is (header (decimal (length content)) ++ content))

numeral-decimal : (n : ℕ) → n < 100000 → numeral (decimal n) ≡ Some n
unfolding numeral
numeral-decimal n small =
    let all : list_all is_ascii_digit (decimal n) ≡ true = digits_decimal numerals n (omega arith) in
    let worth : digits_value 10 (decimal n) ≡ n = digits_value-decimal numerals n (omega arith) in
    rw (all, worth) refl

-- fields that are given, the first of which is MsgType, are written as a frame
pub wrapped_frame : (content start : List ℕ) → content ≡ codes "35=" ++ start → EndsWithSoh content → length (wrapped content) ≤ MAX_FRAME_BYTES → IsFrame (wrapped content)
wrapped_frame content start first last fits =
    let o = header (decimal (length content)) in
    let small : length content < 100000 = omega (arith, ap length (wrapped_is content), length-append (o ++ content) (check_sum (o ++ content)), length-append o content) in
    record {
      digits = decimal (length content);
      content = content;
      start = start;
      bytes = wrapped_is content;
      some = decimal_nonempty (length content) (omega arith);
      few = length-decimal-le 5 (length content) (omega arith) (omega arith) (omega arith);
      counts = numeral-decimal (length content) small;
      opens = first;
      closes = last;
    }

-- a field is written as it is spelled where it is read
pub field-spelling : (tag : ℕ) (value : List ℕ) → field tag value ≡ spelling (record { tag = tag; bytes = value })
unfolding field
field-spelling tag value = append_assoc (decimal tag ++ codes "=") value (1 ∷ []) ∙ append_assoc (decimal tag) (codes "=") (value ++ 1 ∷ [])

field_ends : (tag : ℕ) (value : List ℕ) → EndsWithSoh (field tag value)
unfolding field
field_ends tag value = record { most = decimal tag ++ 61 ∷ [] ++ value; ends = refl }

append_ends : (xs ys : List ℕ) → EndsWithSoh ys → EndsWithSoh (xs ++ ys)
append_ends xs ys e = record { most = xs ++ e.most; ends = ap (λ (z : List ℕ). xs ++ z) e.ends ∙ sym (append_assoc xs e.most (1 ∷ [])) }

first_sent_ends : (xs : List ℕ) (sent : Option ℤ) → EndsWithSoh xs → EndsWithSoh (xs ++ first_sent_text sent)
first_sent_ends xs None e = record { most = e.most; ends = append-nil xs ∙ e.ends }
first_sent_ends xs (Some moment) e = append_ends xs _ (append_ends (field 43 (89 ∷ [])) _ (field_ends 122 (moment_text moment)))

head_ends : (kind : ℕ) (sender target : List ℕ) (number : ℕ) (moment : ℤ) (first_sent : Option ℤ) → EndsWithSoh (head_text kind sender target number moment first_sent)
unfolding head_text
head_ends kind sender target number moment first_sent = first_sent_ends _ first_sent (append_ends _ _ (field_ends 52 (moment_text moment)))

kind_first : (kind : ℕ) → field 35 (kind ∷ []) ≡ codes "35=" ++ kind ∷ 1 ∷ []
unfolding field digits
kind_first kind = refl

starts_more : (xs ys : List ℕ) → (rest : List ℕ) → xs ≡ codes "35=" ++ rest → (more : List ℕ) × (xs ++ ys ≡ codes "35=" ++ more)
starts_more xs ys rest e = (rest ++ ys, ap (λ (x : List ℕ). x ++ ys) e)

head_starts : (kind : ℕ) (sender target : List ℕ) (number : ℕ) (moment : ℤ) (first_sent : Option ℤ) → (rest : List ℕ) × (head_text kind sender target number moment first_sent ≡ codes "35=" ++ rest)
unfolding head_text
head_starts kind sender target number moment first_sent =
    let a = starts_more (field 35 (kind ∷ [])) (field 49 sender) (kind ∷ 1 ∷ []) (kind_first kind) in
    let b = starts_more _ (field 56 target) a.0 a.1 in
    let c = starts_more _ (field 34 (decimal number)) b.0 b.1 in
    let d = starts_more _ (field 52 (moment_text moment)) c.0 c.1 in
    starts_more _ (first_sent_text first_sent) d.0 d.1

body_ends : (xs body : List ℕ) → EndsWithSoh xs → (body ≡ []) ⊎ EndsWithSoh body → EndsWithSoh (xs ++ body)
body_ends xs body e (inl none) = record { most = e.most; ends = ap (λ (z : List ℕ). xs ++ z) none ∙ append-nil xs ∙ e.ends }
body_ends xs body e (inr f) = append_ends xs body f

-- a message whose body is empty or ends with SOH is written as a frame
pub framed_frame : (kind : ℕ) (sender target : List ℕ) (number : ℕ) (moment : ℤ) (first_sent : Option ℤ) (body : List ℕ) → (body ≡ []) ⊎ EndsWithSoh body → length (frame_of kind sender target number moment first_sent body) ≤ MAX_FRAME_BYTES → IsFrame (frame_of kind sender target number moment first_sent body)
unfolding frame_of
framed_frame kind sender target number moment first_sent body whole fits =
    let head = head_text kind sender target number moment first_sent in
    let first = head_starts kind sender target number moment first_sent in
    let start = starts_more head body first.0 first.1 in
    wrapped_frame (head ++ body) start.0 start.1 (body_ends head body (head_ends kind sender target number moment first_sent) whole) fits
