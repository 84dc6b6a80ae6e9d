-- What an order asks of a book can be submitted.
use Rattle.std.proofs.Common.{◌≡◌, ◌<◌, Bool, List, [], ◌∷◌, Option, None, Some, Ok, true, false, length, refl, arith, subst}
use Rattle.std.specs.Prelude.{ℕ, ℤ, nat_lt, ◌&&◌, cond, unwrap_or, bytes_eq}
use Rattle.std.specs.Option.{option_map_or}
use Rattle.std.proofs.lemmas.Bool.{lt-ltb}
use Rattle.std.proofs.lemmas.Bool.Decides.{nat_tests}
use Rattle.std.specs.List.{find}
use Rattle.std.proofs.lemmas.List.Quantifiers.{position-Some}
use Rattle.fix_fields.specs.declared.field.Field.{Field}
use Rattle.venue_words.specs.declared.config.Config.{Config}
use Rattle.venue_words.specs.Conditions.{IsConfig, fits_limits, fits_id}
use Rattle.venue_words.specs.Floors.{Setup, setup_of, is_configured}
use Rattle.session_core.specs.declared.checks.Form.TheVariants.{Identifier, Moment}
use Rattle.session_core.specs.declared.checks.Item.{Item}
use Rattle.session_core.specs.declared.checks.FailedCheck.{FailedCheck}
use Rattle.session_core.specs.declared.message.Request.{Request}
use Rattle.session_core.specs.Lookup.{value_of, text_in}
use Rattle.session_core.specs.Checks.{first_failed, failed_by, first_empty, first_repeated, first_missing, first_outside, first_long, is_long, is_longer, tag_of_item}
use Rattle.session_core.specs.declared.reasons.TheConstants.{TAG_MISSING, TAG_REPEATED, VALUE_MISSING, VALUE_OUT_OF_FORM, VALUE_OUT_OF_RANGE}
use Rattle.fix_write.specs.declared.tags.TheConstants.{SENDING_TIME}
use Rattle.fix_write.specs.declared.message_type.MessageType.{MessageType}
use Rattle.fix_write.specs.declared.message_type.MessageType.TheVariants.{NewOrder, CancelRequest, ReplaceRequest}
use Rattle.fix_write.specs.MessageTypes.{is_order}
use Rattle.session_core.specs.Tables.{item}
use Rattle.order_fields.specs.declared.order.Decoded.{Decoded}
use Rattle.order_fields.specs.declared.tags.TheConstants.{CL_ORD_ID, ORIG_CL_ORD_ID, SYMBOL}
use Rattle.order_fields.specs.Tables.{required_of, optional_of, behind_id, canceling, ordering}
use Rattle.order_fields.specs.Order.{command_of, order, decoded_of, decoded_at, symbol_of, unless_failed, failed_of, CanSubmit}

-- where no check fails, the last does not
last_passes : (a b c d e f : Option ℕ) (r s t u v w : ℕ) →
    failed_by r a (failed_by s b (failed_by t c (failed_by u d (failed_by v e (failed_by w f None))))) ≡ None → f ≡ None
last_passes None None None None None None r s t u v w h = refl
last_passes None None None None None (Some f) r s t u v w h = cc
last_passes None None None None (Some e) f r s t u v w h = cc
last_passes None None None (Some d) e f r s t u v w h = cc
last_passes None None (Some c) d e f r s t u v w h = cc
last_passes None (Some b) c d e f r s t u v w h = cc
last_passes (Some a) b c d e f r s t u v w h = cc

-- where no check fails, no identifier is too long
none_long : (required optional : List Item) (fields : List Field) → first_failed required optional fields ≡ None →
    first_long required fields ≡ None
unfolding first_failed
none_long required optional fields h =
    last_passes (first_empty fields) (first_repeated required optional [] fields) (first_missing required fields)
    (first_outside required fields) (first_outside optional fields) (first_long required fields)
    VALUE_MISSING TAG_REPEATED TAG_MISSING VALUE_OUT_OF_FORM VALUE_OUT_OF_FORM VALUE_OUT_OF_RANGE h

-- a search that finds nothing passes over the first
nothing_first : {X : Type 0} (b : Bool) (x : X) (rest : Option X) → cond b (Some x) rest ≡ None → (b ≡ false) × (rest ≡ None)
nothing_first true x rest h = cc
nothing_first false x rest h = (refl, h)

find-None : {X : Type 0} (p : X → Bool) (x : X) (xs : List X) → find p (x ∷ xs) ≡ None →
    (p x ≡ false) × (find p xs ≡ None)
find-None p x xs h = nothing_first (p x) x (find p xs) h

no_tag : (found : Option Item) → tag_of_item found ≡ None → found ≡ None
no_tag None h = refl
no_tag (Some found) h = cc

-- an identifier that is not too long keeps to the limit
short_fits : (found : Option (List ℕ)) → option_map_or (is_longer Identifier) found false ≡ false →
    fits_id (unwrap_or found []) ≡ true
short_fits None h = refl
short_fits (Some bytes) h = grind (arith, nat_tests)

id_fits : (tag : ℕ) (fields : List Field) → is_long fields (item tag Identifier) ≡ false → fits_id (text_in tag fields) ≡ true
unfolding text_in
id_fits tag fields h = short_fits (value_of tag fields) h

-- the first identifier, and the second where there is one
id_is_short : (kind : MessageType) (fields : List Field) → find (is_long fields) (required_of kind) ≡ None →
    (fits_id (text_in CL_ORD_ID fields) ≡ true) × (find (is_long fields) (behind_id kind) ≡ None)
unfolding required_of
id_is_short kind fields h =
    let behind_time = find-None (is_long fields) (item SENDING_TIME Moment) (item CL_ORD_ID Identifier ∷ behind_id kind) h in
    let at_id = find-None (is_long fields) (item CL_ORD_ID Identifier) (behind_id kind) behind_time.1 in
    (id_fits CL_ORD_ID fields at_id.0, at_id.1)

orig_is_short : (fields : List Field) (others : List Item) →
    find (is_long fields) (item ORIG_CL_ORD_ID Identifier ∷ others) ≡ None → fits_id (text_in ORIG_CL_ORD_ID fields) ≡ true
orig_is_short fields others h =
    id_fits ORIG_CL_ORD_ID fields (find-None (is_long fields) (item ORIG_CL_ORD_ID Identifier) others h).0

both_true : (a b : Bool) → a ≡ true → b ≡ true → (a && b) ≡ true
both_true true b h k = k
both_true false b h k = cc

two_fit : (fields : List Field) (others : List Item) → fits_id (text_in CL_ORD_ID fields) ≡ true →
    find (is_long fields) (item ORIG_CL_ORD_ID Identifier ∷ others) ≡ None →
    (fits_id (text_in CL_ORD_ID fields) && fits_id (text_in ORIG_CL_ORD_ID fields)) ≡ true
two_fit fields others id h =
    both_true (fits_id (text_in CL_ORD_ID fields)) (fits_id (text_in ORIG_CL_ORD_ID fields)) id (orig_is_short fields others h)

-- by the two cases of a test
by_test : {P : Type 0} (b : Bool) → (b ≡ true → P) → (b ≡ false → P) → P
by_test true holds fails = holds refl
by_test false holds fails = fails refl

-- a command of an order that passes the checks keeps to the limits
command_fits : (kind : MessageType) (member : ℕ) (fields : List Field) → fits_id (text_in CL_ORD_ID fields) ≡ true →
    find (is_long fields) (behind_id kind) ≡ None → fits_limits (command_of kind member fields) ≡ true
unfolding command_of behind_id
command_fits NewOrder member fields id h = id
command_fits CancelRequest member fields id h = two_fit fields canceling id h
command_fits ReplaceRequest member fields id h = two_fit fields ordering id h
command_fits _ member fields id h = id

-- a command of a configured member is configured
command_configured : (setup : Setup) (kind : MessageType) (member : ℕ) (fields : List Field) → nat_lt member setup.members ≡ true →
    is_configured setup (command_of kind member fields) ≡ true
unfolding command_of
command_configured setup NewOrder member fields h = h
command_configured setup CancelRequest member fields h = h
command_configured setup ReplaceRequest member fields h = h
command_configured setup _ member fields h = h

-- ---- the whole

-- an answer that is Ok comes where no check fails
passes : (failed : Option FailedCheck) (meant decoded : Decoded) → unless_failed failed meant ≡ Ok decoded →
    (failed ≡ None) × (meant ≡ decoded)
passes None meant decoded h = (refl, cc)
passes (Some failed) meant decoded h = cc

at_symbol : (request : Request) (member : ℕ) (config : Config) (moment : ℤ) (found : Option ℕ) → IsConfig config →
    member < length config.members → symbol_of config.symbols (text_in SYMBOL request.fields) ≡ found →
    find (is_long request.fields) (required_of request.kind) ≡ None →
    CanSubmit (setup_of config) (decoded_at request member moment found)
at_symbol request member config moment None ok configured e short = tt
at_symbol request member config moment (Some symbol) ok configured e short =
    let place = position-Some (λ (name : List ℕ). bytes_eq name (text_in SYMBOL request.fields)) config.symbols symbol [] e in
    let in_range : symbol < length config.limits = rw ok.limit_each place.0 in
    let is_member : nat_lt member (length config.members) ≡ true = lt-ltb member (length config.members) configured in
    let ids = id_is_short request.kind request.fields short in (
      in_range,
      command_configured (setup_of config) request.kind member request.fields is_member,
      command_fits request.kind member request.fields ids.0 ids.1,
    )

pub can_submit : (request : Request) (member : ℕ) (config : Config) (moment : ℤ) (decoded : Decoded) → IsConfig config →
    member < length config.members → order request member config moment ≡ Ok decoded →
    CanSubmit (setup_of config) decoded
unfolding order decoded_of first_long
can_submit request member config moment decoded ok configured e =
    let symbol = symbol_of config.symbols (text_in SYMBOL request.fields) in
    by_test (is_order request.kind)
    (λ is. let found = passes (failed_of request) (decoded_at request member moment symbol) decoded (rw is at e) in
    let short = no_tag (find (is_long request.fields) (required_of request.kind))
    (none_long (required_of request.kind) (optional_of request.kind) request.fields found.0) in
    subst (CanSubmit (setup_of config)) found.1 (at_symbol request member config moment symbol ok configured refl short))
    (λ is. let impossible = rw is at e in cc)
