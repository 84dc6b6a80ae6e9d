-- Fields of a line.
use Rattle.std.specs.Prelude.{ℕ, ◌==◌, if◌then◌else◌, List, [], ◌∷◌}
use Rattle.std.specs.List.{flat_map}
use Rattle.script_text.specs.Escaping.{escape_text}

-- a further field: a comma stands before it
abbrev pub cell : List ℕ → List ℕ
cell text = 44 ∷ text

-- a byte of an identifier: as in a listing, but a comma and a quotation mark, which could end a field, are \2C and \22
unfoldable pub id_byte : ℕ → List ℕ
id_byte byte =
    if byte == 44 then 92 ∷ 50 ∷ 67 ∷ []
    else if byte == 34 then 92 ∷ 50 ∷ 50 ∷ []
    else escape_text (byte ∷ [])

-- an identifier as a field
abbrev pub id_text : List ℕ → List ℕ
id_text id = flat_map id_byte id
