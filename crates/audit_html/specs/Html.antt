-- Texts in the content of an element.
use Rattle.std.specs.Prelude.{ℕ, ◌==◌, nat_le, Bool, ◌&&◌, not, if◌then◌else◌, List, [], ◌∷◌, codes}
use Rattle.std.specs.List.{flat_map}
use Rattle.script_text.specs.Escaping.{escape_text}

-- what stands for a byte: an entity for those that HTML reads as more than text
unfoldable pub html_byte : ℕ → List ℕ
html_byte byte =
    if byte == 38 then codes "&amp;"
    else if byte == 60 then codes "&lt;"
    else if byte == 62 then codes "&gt;"
    else if byte == 34 then codes "&quot;"
    else if byte == 39 then codes "&#39;"
    else byte ∷ []

-- a text in the content of an element
abbrev pub html_text : List ℕ → List ℕ
html_text text = flat_map html_byte text

-- bytes that a member gave, as a listing writes them
abbrev pub shown : List ℕ → List ℕ
shown bytes = html_text (escape_text bytes)

-- whether a byte is printable, and begins or ends neither a tag nor an attribute
abbrev pub is_harmless : ℕ → Bool
is_harmless byte =
    (nat_le 32 byte && nat_le byte 126)
    && ((not (byte == 60) && not (byte == 62)) && (not (byte == 34) && not (byte == 39)))
