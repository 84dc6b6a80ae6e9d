-- A command that is written is told again.
use Rattle.std.proofs.Common.{◌≡◌, ℕ, ◌<◌, ◌≤◌, ◌&&◌, true, false, eqb, ltb, List, [], ◌∷◌, ◌++◌, length, Option, Some, None, refl, sym, ◌∙◌, ap, arith, append_assoc, append-nil}
use Rattle.std.specs.Prelude.{unwrap_or}
use Rattle.std.proofs.lemmas.Bool.{and_parts, ltb-true, leb-true}
use Rattle.venue_words.specs.declared.command.Command.{Command}
use Rattle.venue_words.specs.declared.command.Command.TheVariants.{Quote, New, Cancel, Replace, Status}
use Rattle.venue_words.specs.declared.terms.Terms.{Terms}
use Rattle.venue_words.specs.declared.config.Config.{Config}
use Rattle.venue_words.specs.Conditions.{IsConfig, fits_id, fits_quote}
use Rattle.fix_write.specs.declared.message_type.MessageType.{MessageType}
use Rattle.fix_write.specs.declared.message_type.MessageType.TheVariants.{NewOrder, CancelRequest, ReplaceRequest, StatusRequest}
use Rattle.fix_write.specs.Fields.{field}
use Rattle.fix_write.specs.MessageTypes.{byte_of, type_of}
use Rattle.exec_reports.specs.Bodies.{byte}
use Rattle.quote_text.specs.Sides.{side_text}
use Rattle.script_text.specs.Escaping.{escape_text}
use Rattle.session_core.specs.Lookup.{text_in}
use Rattle.order_fields.specs.declared.tags.TheConstants.{CL_ORD_ID, ORIG_CL_ORD_ID, SIDE, ORDER_QTY, ORD_TYPE, PRICE, TIME_IN_FORCE, MIN_QTY, MIN_QTY_METHOD, PEG_PRICE_TYPE, PEG_OFFSET_VALUE, PEG_OFFSET_TYPE, PEG_MOVE_TYPE, PEG_ROUND_DIRECTION}
use Rattle.order_fields.specs.Order.{command_of}
use Rattle.order_fields.specs.Reading.{code_in}
use Rattle.listing.specs.Commands.{name_at, terms_fields, quote_text, request_text, command_text}
use Rattle.listing_reader.specs.Fitting.{are_words, has_word_names, fits_code, fits_text, fits_terms, fits_fields, fits_command}
use Rattle.listing_reader.specs.Told.{told_quote, told_request, told_command}
use Rattle.listing_reader.proofs.Amounts.{IsValue}
use Rattle.listing_reader.proofs.Entries.{Entry, entry, spelled, as_fields, found, or_none, value_found, AreGood, IsValueIf, fields_written}
use Rattle.listing_reader.proofs.Terms.{term_entries, terms_spelled, AreTerms, terms_fit, code_value, terms_good, HasTerms, terms_read}
use Rattle.listing_reader.proofs.ToldWords.{IsWord, first_written, behind_written, name_word, place_written, side_word, side_written}

-- ---- what is configured

pub record HasWords (config : Config) : Type 0 where
  pub members : are_words config.members ≡ true
  pub markets : are_words config.markets ≡ true
  pub symbols : are_words config.symbols ≡ true

pub words_of_config : (config : Config) → has_word_names config ≡ true → HasWords config
unfolding has_word_names
words_of_config config h =
    let a = and_parts (are_words config.members) (are_words config.markets && are_words config.symbols) h in
    let b = and_parts (are_words config.markets) (are_words config.symbols) a.1 in
    record { members = a.0; markets = b.0; symbols = b.1 }

-- ---- quotes

quote_read : (config : Config) (market : ℕ) (bid offer : Option ℕ) → IsConfig config → HasWords config → market < length config.markets
    → fits_quote bid ≡ true → fits_quote offer ≡ true
    → told_command config (quote_text (name_at config.markets market) bid offer) ≡ Quote market bid offer
unfolding told_command told_quote quote_text
quote_read config market bid offer c w l b o =
    let name = name_at config.markets market in
    let more = side_text bid ++ 32 ∷ side_text offer in
    let text : ((81 ∷ 32 ∷ name) ++ 32 ∷ side_text bid) ++ 32 ∷ side_text offer ≡ (81 ∷ []) ++ 32 ∷ (name ++ 32 ∷ more) =
    ap (λ (x : List ℕ). 81 ∷ 32 ∷ x) (append_assoc name (32 ∷ side_text bid) (32 ∷ side_text offer)) in
    let behind = behind_written (81 ∷ []) (name ++ 32 ∷ more) (record { clear = refl }) in
    let word = name_word config.markets market w.markets in
    rw (
      text,
      behind,
      first_written name more word,
      behind_written name more word,
      place_written config.markets market c.markets l,
      first_written (side_text bid) (side_text offer) (side_word bid b),
      behind_written (side_text bid) (side_text offer) (side_word bid b),
      side_written bid b,
      side_written offer o,
    ) refl

-- ---- requests

request_read : (config : Config) (kind : MessageType) (member : ℕ) (es : List Entry) → IsConfig config → HasWords config → member < length config.members
    → AreGood es → length es ≤ 20 → eqb (byte_of kind) 81 ≡ false → eqb (byte_of kind) 32 ≡ false → type_of (byte_of kind) ≡ kind
    → told_command config (request_text kind (name_at config.members member) (spelled es)) ≡ command_of kind member (as_fields es)
unfolding told_command told_request request_text
request_read config kind member es c w l good few other clear back =
    let name = name_at config.members member in
    let text = escape_text (spelled es) in
    let first : IsWord (byte_of kind ∷ []) = record { clear = rw clear refl } in
    let word = name_word config.members member w.members in
    rw (
      other,
      back,
      behind_written (byte_of kind ∷ []) (name ++ 32 ∷ text) first,
      first_written name text word,
      behind_written name text word,
      place_written config.members member c.members l,
      fields_written es good few,
    ) refl

-- the identifiers, and what stands behind them
abbrev request_entries : List ℕ → Option (List ℕ) → List Entry → List Entry
request_entries id orig more = entry CL_ORD_ID (Some id) ∷ entry ORIG_CL_ORD_ID orig ∷ more

text_found : (tag : ℕ) (es : List Entry) → text_in tag (as_fields es) ≡ unwrap_or (found tag es) []
unfolding text_in
text_found tag es = ap (λ (value : Option (List ℕ)). unwrap_or value []) (value_found tag es)

has_terms : (id : List ℕ) (orig : Option (List ℕ)) (terms : Terms) → HasTerms (as_fields (request_entries id orig (term_entries terms))) terms
has_terms id orig terms =
    let es = request_entries id orig (term_entries terms) in
    record {
      side = value_found SIDE es;
      quantity = value_found ORDER_QTY es;
      kind = value_found ORD_TYPE es;
      price = value_found PRICE es ∙ or_none _;
      force = value_found TIME_IN_FORCE es ∙ or_none _;
      minimum = value_found MIN_QTY es ∙ or_none _;
      method = value_found MIN_QTY_METHOD es ∙ or_none _;
      peg = value_found PEG_PRICE_TYPE es ∙ or_none _;
      offset = value_found PEG_OFFSET_VALUE es ∙ or_none _;
      offset_kind = value_found PEG_OFFSET_TYPE es ∙ or_none _;
      moves = value_found PEG_MOVE_TYPE es ∙ or_none _;
      round = value_found PEG_ROUND_DIRECTION es ∙ or_none _;
    }

id_value : (id : List ℕ) → fits_id id ≡ true → fits_text id ≡ true → IsValue id
id_value id short fits = record { fits = fits; short = leb-true _ _ short }

ids_good : (id : List ℕ) (orig : Option (List ℕ)) (more : List Entry) → IsValue id → IsValueIf orig → AreGood more → AreGood (request_entries id orig more)
ids_good id orig more i o good = ((omega arith, omega arith, refl), i, ((omega arith, omega arith, refl), o, good))

new_read : (config : Config) (member : ℕ) (id : List ℕ) (terms : Terms) → IsConfig config → HasWords config → member < length config.members
    → IsValue id → AreTerms terms
    → told_command config (request_text NewOrder (name_at config.members member) (field CL_ORD_ID id ++ terms_fields terms)) ≡ New member id terms
unfolding command_of byte_of type_of
new_read config member id terms c w l i t =
    let es = request_entries id None (term_entries terms) in
    let text : field CL_ORD_ID id ++ terms_fields terms ≡ spelled es = ap (λ (x : List ℕ). field CL_ORD_ID id ++ x) (terms_spelled terms) in
    ap (λ (x : List ℕ). told_command config (request_text NewOrder (name_at config.members member) x)) text
    ∙ request_read config NewOrder member es c w l (ids_good id None (term_entries terms) i tt (terms_good terms t)) (omega arith) refl refl refl
    ∙ (rw (text_found CL_ORD_ID es, terms_read (as_fields es) terms (has_terms id None terms) t) refl)

replace_read : (config : Config) (member : ℕ) (id orig : List ℕ) (terms : Terms) → IsConfig config → HasWords config → member < length config.members
    → IsValue id → IsValue orig → AreTerms terms
    → told_command config (request_text ReplaceRequest (name_at config.members member) (field CL_ORD_ID id ++ field ORIG_CL_ORD_ID orig ++ terms_fields terms))
    ≡ Replace member id orig terms
unfolding command_of byte_of type_of
replace_read config member id orig terms c w l i o t =
    let es = request_entries id (Some orig) (term_entries terms) in
    let text : field CL_ORD_ID id ++ field ORIG_CL_ORD_ID orig ++ terms_fields terms ≡ spelled es =
    append_assoc (field CL_ORD_ID id) (field ORIG_CL_ORD_ID orig) (terms_fields terms)
    ∙ ap (λ (x : List ℕ). field CL_ORD_ID id ++ (field ORIG_CL_ORD_ID orig ++ x)) (terms_spelled terms) in
    ap (λ (x : List ℕ). told_command config (request_text ReplaceRequest (name_at config.members member) x)) text
    ∙ request_read config ReplaceRequest member es c w l (ids_good id (Some orig) (term_entries terms) i o (terms_good terms t)) (omega arith) refl refl refl
    ∙ (rw (text_found CL_ORD_ID es, text_found ORIG_CL_ORD_ID es, terms_read (as_fields es) terms (has_terms id (Some orig) terms) t) refl)

cancel_read : (config : Config) (member : ℕ) (id orig : List ℕ) → IsConfig config → HasWords config → member < length config.members
    → IsValue id → IsValue orig
    → told_command config (request_text CancelRequest (name_at config.members member) (field CL_ORD_ID id ++ field ORIG_CL_ORD_ID orig)) ≡ Cancel member id orig
unfolding command_of byte_of type_of
cancel_read config member id orig c w l i o =
    let es = request_entries id (Some orig) [] in
    let text : field CL_ORD_ID id ++ field ORIG_CL_ORD_ID orig ≡ spelled es =
    ap (λ (x : List ℕ). field CL_ORD_ID id ++ x) (sym (append-nil (field ORIG_CL_ORD_ID orig))) in
    ap (λ (x : List ℕ). told_command config (request_text CancelRequest (name_at config.members member) x)) text
    ∙ request_read config CancelRequest member es c w l (ids_good id (Some orig) [] i o tt) (omega arith) refl refl refl
    ∙ (rw (text_found CL_ORD_ID es, text_found ORIG_CL_ORD_ID es) refl)

status_read : (config : Config) (member : ℕ) (id : List ℕ) (side : ℕ) → IsConfig config → HasWords config → member < length config.members
    → IsValue id → fits_code side ≡ true
    → told_command config (request_text StatusRequest (name_at config.members member) (field CL_ORD_ID id ++ field SIDE (byte side))) ≡ Status member id side
unfolding command_of code_in byte_of type_of
status_read config member id side c w l i s =
    let es = entry CL_ORD_ID (Some id) ∷ entry SIDE (Some (byte side)) ∷ [] in
    let text : field CL_ORD_ID id ++ field SIDE (byte side) ≡ spelled es =
    ap (λ (x : List ℕ). field CL_ORD_ID id ++ x) (sym (append-nil (field SIDE (byte side)))) in
    ap (λ (x : List ℕ). told_command config (request_text StatusRequest (name_at config.members member) x)) text
    ∙ request_read config StatusRequest member es c w l ((omega arith, omega arith, refl), i, ((omega arith, omega arith, refl), code_value side s, tt)) (omega arith) refl refl refl
    ∙ (rw (text_found CL_ORD_ID es, value_found SIDE es) refl)

-- ---- all of them

pub command_read : (config : Config) (command : Command) → IsConfig config → HasWords config → fits_command config command ≡ true
    → told_command config (command_text config command) ≡ command
unfolding fits_command fits_fields command_text
command_read config (Quote market bid offer) c w h =
    let a = and_parts (ltb market (length config.markets)) _ h in
    let b = and_parts (fits_quote bid && fits_quote offer) _ a.1 in
    let q = and_parts (fits_quote bid) (fits_quote offer) b.0 in
    quote_read config market bid offer c w (ltb-true _ _ a.0) q.0 q.1
command_read config (New member id terms) c w h =
    let a = and_parts (ltb member (length config.members)) _ h in
    let b = and_parts (fits_id id) _ a.1 in
    let f = and_parts (fits_text id) (fits_terms terms) b.1 in
    new_read config member id terms c w (ltb-true _ _ a.0) (id_value id b.0 f.0) (terms_fit terms f.1)
command_read config (Cancel member id orig) c w h =
    let a = and_parts (ltb member (length config.members)) _ h in
    let b = and_parts (fits_id id && fits_id orig) _ a.1 in
    let s = and_parts (fits_id id) (fits_id orig) b.0 in
    let f = and_parts (fits_text id) (fits_text orig) b.1 in
    cancel_read config member id orig c w (ltb-true _ _ a.0) (id_value id s.0 f.0) (id_value orig s.1 f.1)
command_read config (Replace member id orig terms) c w h =
    let a = and_parts (ltb member (length config.members)) _ h in
    let b = and_parts (fits_id id && fits_id orig) _ a.1 in
    let s = and_parts (fits_id id) (fits_id orig) b.0 in
    let f = and_parts (fits_text id) (fits_text orig && fits_terms terms) b.1 in
    let g = and_parts (fits_text orig) (fits_terms terms) f.1 in
    replace_read config member id orig terms c w (ltb-true _ _ a.0) (id_value id s.0 f.0) (id_value orig s.1 g.0) (terms_fit terms g.1)
command_read config (Status member id side) c w h =
    let a = and_parts (ltb member (length config.members)) _ h in
    let b = and_parts (fits_id id) _ a.1 in
    let f = and_parts (fits_text id) (fits_code side) b.1 in
    status_read config member id side c w (ltb-true _ _ a.0) (id_value id b.0 f.0) f.1
