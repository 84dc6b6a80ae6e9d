-- Names, and the text that stands for none.
use Rattle.std.proofs.Common.{◌≡◌, ℕ, true, List, length, refl}
use Rattle.std.specs.Prelude.{codes, ◌&&◌, nat_lt, nat_le, slice_index}
use Rattle.std.specs.List.{list_all}
use Rattle.std.proofs.lemmas.Bool.{and_parts}
use Rattle.venue_words.specs.declared.limits.TheConstants.{MAX_NAME_BYTES}
use Rattle.script_text.specs.Words.{is_name, is_name_byte, is_letter}

pub name_bytes : (text : List ℕ) → is_name text ≡ true → list_all is_name_byte text ≡ true
unfolding is_name
name_bytes text is =
    let bytes = is_letter (slice_index text 0) && list_all is_name_byte text in
    let some = and_parts (nat_lt 0 (length text)) (nat_le (length text) MAX_NAME_BYTES && bytes) is in
    let short = and_parts (nat_le (length text) MAX_NAME_BYTES) bytes some.1 in
    (and_parts (is_letter (slice_index text 0)) (list_all is_name_byte text) short.1).1

pub unnamed_bytes : list_all is_name_byte (codes "unnamed") ≡ true
unfolding is_name_byte is_letter
unnamed_bytes = refl
