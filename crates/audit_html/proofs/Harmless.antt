-- What is shown of any bytes begins or ends no tag.
use Rattle.std.proofs.Common.{◌≡◌, ◌<◌, ◌≤◌, ℕ, suc, ◌+◌, ◌/◌, ◌%◌, ◌==◌, Bool, true, false, cond, List, [], ◌∷◌, length, get_or, refl, ◌∙◌, arith}
use Rattle.std.specs.Prelude.{nat_lt}
use Rattle.std.specs.List.{AllByRecursion, flat_map, list_all}
use Rattle.std.proofs.lemmas.Bool.{and_from, and_parts, leb-true}
use Rattle.std.proofs.lemmas.Bool.Decides.{nat_tests}
use Rattle.std.proofs.lemmas.List.Folds.{list_all-append}
use Rattle.venue_words.specs.ListLaws.{all_append}
use Rattle.script_text.specs.Escaping.{escape_text, escaped, hexadecimal, is_plain}
use Rattle.audit_html.specs.Html.{html_byte, html_text, is_harmless, shown}

-- a byte that can be printed
record IsPrintable (byte : ℕ) : Type 0 where
  least : 32 ≤ byte
  most : byte ≤ 126

-- ---- what a listing writes for a byte

digit_by : (n : ℕ) (b : Bool) → nat_lt n 10 ≡ b → n < 16 → IsPrintable (cond b (48 + n) (55 + n))
digit_by n true is lt = record { least = omega arith; most = omega (arith, lt) }
digit_by n false is lt = record { least = omega arith; most = omega (arith, lt) }

digit_printable : (n : ℕ) → n < 16 → IsPrintable (hexadecimal n)
digit_printable n lt = digit_by n (nat_lt n 10) refl lt

plain_printable : (byte : ℕ) → is_plain byte ≡ true → IsPrintable byte
plain_printable byte is =
    let first = and_parts _ _ is in
    let second = and_parts _ _ first.1 in
    record { least = leb-true 32 byte first.0; most = leb-true byte 126 second.0 }

escaped_by : (byte : ℕ) (a b : Bool) → (byte == 1) ≡ a → is_plain byte ≡ b → byte < 256
    → AllByRecursion IsPrintable (cond a (124 ∷ []) (cond b (byte ∷ []) (92 ∷ hexadecimal (byte / 16) ∷ hexadecimal (byte % 16) ∷ [])))
escaped_by byte true b one plain lt = (record { least = omega arith; most = omega arith }, tt)
escaped_by byte false true one plain lt = (plain_printable byte plain, tt)
escaped_by byte false false one plain lt =
    (record { least = omega arith; most = omega arith }, (digit_printable (byte / 16) (omega (arith, lt)), (digit_printable (byte % 16) (omega arith), tt)))

escaped_printable : (byte : ℕ) → byte < 256 → AllByRecursion IsPrintable (escaped byte)
unfolding escaped
escaped_printable byte lt = escaped_by byte (byte == 1) (is_plain byte) refl refl lt

text_printable : (bytes : List ℕ) → AllByRecursion (λ byte. byte < 256) bytes → AllByRecursion IsPrintable (escape_text bytes)
unfolding escape_text
text_printable [] all = tt
text_printable (byte ∷ bytes) all =
    all_append IsPrintable (escaped byte) (flat_map escaped bytes) (escaped_printable byte all.0) (text_printable bytes all.1)

-- ---- what stands for it in a page

html_by : (byte : ℕ) (a b c d e : Bool) → (byte == 38) ≡ a → (byte == 60) ≡ b → (byte == 62) ≡ c → (byte == 34) ≡ d → (byte == 39) ≡ e → IsPrintable byte
    → list_all is_harmless (cond a (38 ∷ 97 ∷ 109 ∷ 112 ∷ 59 ∷ []) (cond b (38 ∷ 108 ∷ 116 ∷ 59 ∷ []) (cond c (38 ∷ 103 ∷ 116 ∷ 59 ∷ [])
    (cond d (38 ∷ 113 ∷ 117 ∷ 111 ∷ 116 ∷ 59 ∷ []) (cond e (38 ∷ 35 ∷ 51 ∷ 57 ∷ 59 ∷ []) (byte ∷ [])))))) ≡ true
html_by byte true b c d e p q r s t is = refl
html_by byte false true c d e p q r s t is = refl
html_by byte false false true d e p q r s t is = refl
html_by byte false false false true e p q r s t is = refl
html_by byte false false false false true p q r s t is = refl
html_by byte false false false false false p q r s t is = rw (q, r, s, t) (grind (arith, nat_tests, is.least, is.most))

byte_harmless : (byte : ℕ) → IsPrintable byte → list_all is_harmless (html_byte byte) ≡ true
unfolding html_byte
byte_harmless byte is = html_by byte (byte == 38) (byte == 60) (byte == 62) (byte == 34) (byte == 39) refl refl refl refl refl is

text_harmless : (text : List ℕ) → AllByRecursion IsPrintable text → list_all is_harmless (html_text text) ≡ true
text_harmless [] all = refl
text_harmless (byte ∷ text) all =
    list_all-append is_harmless (html_byte byte) (html_text text)
    ∙ and_from (list_all is_harmless (html_byte byte)) (list_all is_harmless (html_text text)) (byte_harmless byte all.0) (text_harmless text all.1)

bytes_small : (bytes : List ℕ) → ((i : ℕ) → i < length bytes → get_or bytes i 0 < 256) → AllByRecursion (λ byte. byte < 256) bytes
bytes_small [] each = tt
bytes_small (byte ∷ bytes) each = (each 0 (omega arith), bytes_small bytes (λ i lt. each (suc i) (omega (arith, lt))))

pub shown_is_harmless : (bytes : List ℕ) → ((i : ℕ) → i < length bytes → get_or bytes i 0 < 256) → list_all is_harmless (shown bytes) ≡ true
shown_is_harmless bytes each = text_harmless (escape_text bytes) (text_printable bytes (bytes_small bytes each))
