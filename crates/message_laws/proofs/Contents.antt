-- The content of a frame.
use Rattle.std.proofs.Common.{◌≡◌, ℕ, ◌-◌, ◌%◌, ◌^◌, ◌<◌, false, List, [], ◌∷◌, ◌++◌, length, take, drop, inl, ◌∙◌, ap, arith, append_assoc, length-append}
use Rattle.std.specs.Prelude.{codes, decimal, sum}
use Rattle.std.specs.Fmt.{digits}
use Rattle.std.specs.List.{list_any}
use Rattle.std.proofs.lemmas.Fmt.{digits_decimal}
use Rattle.std.proofs.lemmas.List.{take_at}
use Rattle.fix_fields.specs.Fields.{is_end}
use Rattle.fix_fields.specs.Tags.{no_mark, numerals}
use Rattle.fix_write.specs.Digits.{three_digits}
use Rattle.fix_write.specs.Fields.{field}
use Rattle.fix_write.specs.Framing.{opening, closed, wrapped}
use Rattle.fix_frames.specs.Frames.{header, check_sum, IsFrame}
use Rattle.fix_frames.specs.FrameLaws.{length-check_sum}
use Rattle.fix_frames.specs.FrontLaws.{behind_header, numeral_has_no_end}
use Rattle.fix_fields.specs.Content.{behind_first_end, content_of}
use Rattle.message_laws.specs.Contents.{ContentComesBack}

without_trailer : (content trailer : List ℕ) → length trailer ≡ 7 → take (length (content ++ trailer) - 7) (content ++ trailer) ≡ content
without_trailer content trailer seven =
    take_at content trailer (length (content ++ trailer) - 7) (omega (arith, length-append content trailer))

-- the content behind a header, and before seven bytes
pub content_between : (digits_of content trailer : List ℕ) → list_any is_end digits_of ≡ false → length trailer ≡ 7 → content_of ((header digits_of ++ content) ++ trailer) ≡ content
unfolding content_of
content_between digits_of content trailer none seven =
    let behind : behind_first_end (drop 11 ((header digits_of ++ content) ++ trailer)) ≡ content ++ trailer =
    ap (λ (x : List ℕ). behind_first_end (drop 11 x)) (append_assoc (header digits_of) content trailer) ∙ behind_header digits_of (content ++ trailer) none in
    rw behind (without_trailer content trailer seven)

pub content_of-frame : (frame : List ℕ) (is : IsFrame frame) → content_of frame ≡ is.content
content_of-frame frame is =
    ap content_of is.bytes
    ∙ content_between is.digits is.content (check_sum (header is.digits ++ is.content)) (numeral_has_no_end is.digits _ is.counts) (length-check_sum (header is.digits ++ is.content))

opening_is : (size : ℕ) → opening size ≡ header (decimal size)
unfolding opening field digits
opening_is size = ap (λ (x : List ℕ). codes "8=FIXT.1.1" ++ 1 ∷ x) (append_assoc (codes "9=") (decimal size) (1 ∷ []))

check_sum_is : (bytes : List ℕ) → field 10 (three_digits (sum bytes % 256)) ≡ check_sum bytes
unfolding field digits
check_sum_is bytes = append_assoc (codes "10=") (three_digits (sum bytes % 256)) (1 ∷ [])

wrapped_is : (content : List ℕ) → wrapped content ≡ (header (decimal (length content)) ++ content) ++ check_sum (header (decimal (length content)) ++ content)
unfolding wrapped closed
wrapped_is content =
    ap (λ (o : List ℕ). (o ++ content) ++ field 10 (three_digits (sum (o ++ content) % 256))) (opening_is (length content))
    ∙ ap (λ (t : List ℕ). (header (decimal (length content)) ++ content) ++ t) (check_sum_is (header (decimal (length content)) ++ content))

pub decimal_has_no_end : (n : ℕ) → n < 2 ^ 64 → list_any is_end (decimal n) ≡ false
decimal_has_no_end n small = no_mark 1 (inl (omega arith)) (decimal n) (digits_decimal numerals n small)

pub content_of-wrapped : (content : List ℕ) → length content < 2 ^ 64 → content_of (wrapped content) ≡ content
content_of-wrapped content small =
    let before = header (decimal (length content)) ++ content in
    ap content_of (wrapped_is content)
    ∙ content_between (decimal (length content)) content (check_sum before) (decimal_has_no_end (length content) small) (length-check_sum before)

pub shorter_content : (content : List ℕ) → length (wrapped content) < 2 ^ 64 → length content < 2 ^ 64
shorter_content content small =
    let o = header (decimal (length content)) in
    omega (arith, ap length (wrapped_is content), length-append (o ++ content) (check_sum (o ++ content)), length-append o content)

pub content_comes_back : ContentComesBack
content_comes_back = record { frame = content_of-frame; wrapped = content_of-wrapped }
