-- The checks of a message over a table, which says what tags it must have and may have, and the form of each.
use Rattle.std.specs.Prelude.{ℕ, ◌==◌, Bool, true, false, not, ◌&&◌, ◌||◌, nat_lt, if◌then◌else◌, List, [], ◌∷◌, ◌++◌, length, Option, Some, None, is_some, is_none, option_map, codes, bytes_eq}
use Rattle.std.specs.Option.{option_map_or}
use Rattle.std.specs.List.{find, list_any}
use Rattle.venue_words.specs.declared.limits.TheConstants.{MAX_ID_BYTES}
use Rattle.fix_fields.specs.declared.field.Field.{Field}
use Rattle.fix_fields.specs.Forms.{number_of, amount_of, moment_of}
use Rattle.session_core.specs.declared.reasons.TheConstants.{TAG_MISSING, TAG_REPEATED, VALUE_MISSING, VALUE_OUT_OF_FORM, VALUE_OUT_OF_RANGE}
use Rattle.fix_write.specs.declared.tags.TheConstants.{MSG_TYPE, MSG_SEQ_NUM, SENDER_COMP_ID, TARGET_COMP_ID}
use Rattle.session_core.specs.declared.checks.Form.{Form}
use Rattle.session_core.specs.declared.checks.Form.TheVariants.{Number, Amount, Byte, Moment, Boolean, Text, Identifier}
use Rattle.session_core.specs.declared.checks.Item.{Item}
use Rattle.session_core.specs.declared.checks.FailedCheck.{FailedCheck}
use Rattle.session_core.specs.Lookup.{value_of}

-- whether a value has a form
unfoldable pub has_form : Form → List ℕ → Bool
has_form Number bytes = is_some (number_of bytes)
has_form Amount bytes = is_some (amount_of bytes)
has_form Byte bytes = length bytes == 1
has_form Moment bytes = is_some (moment_of bytes)
has_form Boolean bytes = bytes_eq bytes (codes "Y") || bytes_eq bytes (codes "N")
has_form Text bytes = true
has_form Identifier bytes = true

-- the tag of a field or an item that was found
abbrev pub tag_of_field : Option Field → Option ℕ
tag_of_field found = option_map (λ field. field.tag) found

abbrev pub tag_of_item : Option Item → Option ℕ
tag_of_item found = option_map (λ item. item.tag) found

-- the tag of the first field with an empty value
unfoldable pub first_empty : List Field → Option ℕ
first_empty fields = tag_of_field (find (λ field. length field.bytes == 0) fields)

-- whether a tag stands in a table
unfoldable pub is_listed : ℕ → List Item → Bool
is_listed tag items = list_any (λ item. item.tag == tag) items

-- the first of these tags that is missing
unfoldable pub first_missing : List Item → List Field → Option ℕ
first_missing items fields = tag_of_item (find (λ item. is_none (value_of item.tag fields)) items)

-- whether a message of this table reads the tag
abbrev pub is_read : List Item → List Item → ℕ → Bool
is_read required optional tag =
    (tag == MSG_SEQ_NUM) || (tag == MSG_TYPE) || (tag == SENDER_COMP_ID) || (tag == TARGET_COMP_ID)
    || is_listed tag required || is_listed tag optional

-- the first field, behind some others, whose tag is read and stood before
unfoldable pub first_repeated : List Item → List Item → List Field → List Field → Option ℕ
first_repeated required optional before [] = None
first_repeated required optional before (field ∷ fields) =
    if is_read required optional field.tag && is_some (value_of field.tag before) then Some field.tag
    else first_repeated required optional (before ++ field ∷ []) fields

-- whether a tag is there with a value outside its form
abbrev pub is_outside : List Field → Item → Bool
is_outside fields item = option_map_or (λ bytes. not (has_form item.form bytes)) (value_of item.tag fields) false

-- the first of these tags that has a value outside its form
unfoldable pub first_outside : List Item → List Field → Option ℕ
first_outside items fields = tag_of_item (find (is_outside fields) items)

-- whether a value is longer than its form allows: an identifier has at most 64 bytes
abbrev pub is_longer : Form → List ℕ → Bool
is_longer Identifier bytes = nat_lt MAX_ID_BYTES (length bytes)
is_longer Number bytes = false
is_longer Amount bytes = false
is_longer Byte bytes = false
is_longer Moment bytes = false
is_longer Boolean bytes = false
is_longer Text bytes = false

-- whether a tag is there with an identifier that is too long
abbrev pub is_long : List Field → Item → Bool
is_long fields item = option_map_or (is_longer item.form) (value_of item.tag fields) false

-- the first of these tags that has an identifier that is too long
unfoldable pub first_long : List Item → List Field → Option ℕ
first_long items fields = tag_of_item (find (is_long fields) items)

-- a tag that fails a check of this reason, where there is one, and else what the next checks say
abbrev pub failed_by : ℕ → Option ℕ → Option FailedCheck → Option FailedCheck
failed_by reason None next = next
failed_by reason (Some tag) next = Some (record { reason = reason; tag = tag })

-- the first check that a message fails
unfoldable pub first_failed : List Item → List Item → List Field → Option FailedCheck
first_failed required optional fields =
    failed_by VALUE_MISSING (first_empty fields)
    (failed_by TAG_REPEATED (first_repeated required optional [] fields)
    (failed_by TAG_MISSING (first_missing required fields)
    (failed_by VALUE_OUT_OF_FORM (first_outside required fields)
    (failed_by VALUE_OUT_OF_FORM (first_outside optional fields)
    (failed_by VALUE_OUT_OF_RANGE (first_long required fields) None)))))
