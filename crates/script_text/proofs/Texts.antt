-- The text of bytes stands for these bytes, and what holds of bytes and texts without a backslash.
use Rattle.std.proofs.Common.{◌≡◌, ℕ, suc, ◌+◌, ◌*◌, ◌/◌, ◌%◌, ◌<◌, ◌==◌, nat_lt, ◌||◌, Bool, true, false, cond, List, [], ◌∷◌, ◌++◌, map, get_or, Some, refl, arith, ap, ◌∙◌}
use Rattle.std.proofs.lemmas.Bool.{and_parts}
use Rattle.std.proofs.lemmas.Bool.Decides.{nat_tests}
use Rattle.std.specs.List.{list_all}
use Rattle.script_text.specs.Escaping.{hexadecimal, is_plain, is_plain_or, replaced, escaped, escape_text, hexadecimal_value, lone_byte, paired_byte, before_bytes, text_of}

digit_back : (b : Bool) (n : ℕ) → nat_lt n 10 ≡ b → n < 16 → hexadecimal_value (cond b (48 + n) (55 + n)) ≡ Some n
unfolding hexadecimal_value
digit_back true n e h = grind (arith, nat_tests)
digit_back false n e h = grind (arith, nat_tests)

pair_back : (byte : ℕ) → byte < 256 → paired_byte (hexadecimal (byte / 16)) (hexadecimal (byte % 16)) ≡ Some byte
unfolding paired_byte
pair_back byte h =
    let whole : byte / 16 * 16 + byte % 16 ≡ byte = omega arith in
    rw (digit_back (nat_lt (byte / 16) 10) (byte / 16) refl (omega arith), digit_back (nat_lt (byte % 16) 10) (byte % 16) refl (omega arith))
    (ap Some whole)

is_one : (byte : ℕ) → (byte == 1) ≡ true → byte ≡ 1
is_one byte e = grind (arith, nat_tests)

plain_is_lone : (byte : ℕ) → is_plain byte ≡ true → (lone_byte byte ≡ Some byte) × ((byte == 92) ≡ false)
unfolding lone_byte
plain_is_lone byte e = (grind (arith, nat_tests), grind (arith, nat_tests))

bar_back : (rest : List ℕ) → text_of (124 ∷ rest) ≡ before_bytes (Some 1) (text_of rest)
unfolding text_of lone_byte
bar_back rest = refl

plain_back : (byte : ℕ) (rest : List ℕ) → lone_byte byte ≡ Some byte → (byte == 92) ≡ false
    → text_of (byte ∷ rest) ≡ before_bytes (Some byte) (text_of rest)
unfolding text_of
plain_back byte rest e f = rw (f, e) refl

by_kind : (one plain : Bool) (byte : ℕ) (rest : List ℕ) → (byte == 1) ≡ one → is_plain byte ≡ plain → byte < 256
    → text_of (cond one (124 ∷ []) (cond plain (byte ∷ []) (92 ∷ hexadecimal (byte / 16) ∷ hexadecimal (byte % 16) ∷ [])) ++ rest)
    ≡ before_bytes (Some byte) (text_of rest)
unfolding text_of
by_kind true plain byte rest e f h = rw (is_one byte e) (bar_back rest)
by_kind false true byte rest e f h = plain_back byte rest (plain_is_lone byte f).0 (plain_is_lone byte f).1
by_kind false false byte rest e f h = rw (pair_back byte h) refl

escaped_back : (byte : ℕ) (rest : List ℕ) → byte < 256 → text_of (escaped byte ++ rest) ≡ before_bytes (Some byte) (text_of rest)
unfolding escaped
escaped_back byte rest h = by_kind (byte == 1) (is_plain byte) byte rest refl refl h

pub text_back : (bytes : List ℕ) → ((k : ℕ) → get_or bytes k 0 < 256) → text_of (escape_text bytes) ≡ Some bytes
unfolding escape_text text_of
text_back [] h = refl
text_back (byte ∷ bytes) h = rw (escaped_back byte (escape_text bytes) (h 0), text_back bytes (λ k. h (suc k))) refl

-- what stands for bytes that are plain or SOH, and they for it
plain_cons : (one plain : Bool) (byte : ℕ) (rest : List ℕ) → (byte == 1) ≡ one → is_plain byte ≡ plain → (one || plain) ≡ true
    → escaped byte ++ rest ≡ cond (byte == 1) 124 byte ∷ rest
unfolding escaped
plain_cons true plain byte rest e f h = rw e refl
plain_cons false true byte rest e f h = rw (e, f) refl
plain_cons false false byte rest e f h = cc

pub plain_text : (bytes : List ℕ) → list_all (is_plain_or 1) bytes ≡ true
    → escape_text bytes ≡ map (replaced 1 124) bytes
unfolding escape_text
plain_text [] h = refl
plain_text (byte ∷ bytes) h =
    let parts = and_parts (is_plain_or 1 byte) (list_all (is_plain_or 1) bytes) h in
    rw (plain_cons (byte == 1) (is_plain byte) byte (escape_text bytes) refl refl parts.0, plain_text bytes parts.1) refl

is_bar : (character : ℕ) → (character == 124) ≡ true → character ≡ 124
is_bar character e = grind (arith, nat_tests)

plain_first : (bar plain : Bool) (character : ℕ) (text : List ℕ) → (character == 124) ≡ bar → is_plain character ≡ plain → (bar || plain) ≡ true
    → text_of (character ∷ text) ≡ before_bytes (Some (cond bar 1 character)) (text_of text)
plain_first true plain character text e f h = rw (is_bar character e) (bar_back text)
plain_first false true character text e f h = plain_back character text (plain_is_lone character f).0 (plain_is_lone character f).1
plain_first false false character text e f h = cc

pub plain_bytes : (text : List ℕ) → list_all (is_plain_or 124) text ≡ true
    → text_of text ≡ Some (map (replaced 124 1) text)
unfolding text_of
plain_bytes [] h = refl
plain_bytes (character ∷ text) h =
    let parts = and_parts (is_plain_or 124 character) (list_all (is_plain_or 124) text) h in
    plain_first (character == 124) (is_plain character) character text refl refl parts.0
    ∙ ap (before_bytes (Some (replaced 124 1 character))) (plain_bytes text parts.1)
