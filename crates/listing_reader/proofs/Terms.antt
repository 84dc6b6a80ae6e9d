-- The terms of an order as entries, and what is found of them.
use Rattle.std.proofs.Common.{◌≡◌, ℕ, true, List, [], ◌∷◌, ◌++◌, Option, Some, None, ℤ, pos, refl, arith, append_assoc, append-nil}
use Rattle.std.specs.Prelude.{decimal, unwrap_or, option_and_then}
use Rattle.std.specs.Option.{option_map}
use Rattle.std.proofs.lemmas.Bool.{and_parts, and_from}
use Rattle.venue_words.specs.declared.terms.Terms.{Terms}
use Rattle.fix_fields.specs.declared.field.Field.{Field}
use Rattle.fix_fields.specs.Forms.{number_of, amount_of}
use Rattle.fix_write.specs.Fields.{field}
use Rattle.exec_reports.specs.Bodies.{byte, field_if}
use Rattle.exec_reports.specs.Texts.{amount_text}
use Rattle.session_core.specs.Lookup.{value_of, number_in, single_byte}
use Rattle.order_fields.specs.declared.tags.TheConstants.{SIDE, ORDER_QTY, ORD_TYPE, PRICE, TIME_IN_FORCE, MIN_QTY, MIN_QTY_METHOD, PEG_PRICE_TYPE, PEG_OFFSET_VALUE, PEG_OFFSET_TYPE, PEG_MOVE_TYPE, PEG_ROUND_DIRECTION}
use Rattle.order_fields.specs.Reading.{code_in, amount_in, terms_of}
use Rattle.listing.specs.Commands.{order_terms, peg_terms, terms_fields}
use Rattle.listing_reader.specs.Fitting.{if_there, fits_number, fits_amount, fits_code, fits_order_terms, fits_peg_terms, fits_terms}
use Rattle.listing_reader.proofs.Amounts.{IsValue, amount_read, amount_value}
use Rattle.listing_reader.proofs.Entries.{Entry, entry, spelled, IsValueIf, AreGood}
use Rattle.listing_reader.proofs.ToldWords.{number_read, number_value}

-- the values of the terms, by their tags
abbrev pub term_entries : Terms → List Entry
term_entries terms =
    entry SIDE (Some (byte terms.side))
    ∷ entry ORDER_QTY (Some (amount_text terms.quantity))
    ∷ entry ORD_TYPE (Some (byte terms.kind))
    ∷ entry PRICE (option_map amount_text terms.price)
    ∷ entry TIME_IN_FORCE (option_map byte terms.force)
    ∷ entry MIN_QTY (option_map amount_text terms.minimum)
    ∷ entry MIN_QTY_METHOD (option_map decimal terms.method)
    ∷ entry PEG_PRICE_TYPE (option_map decimal terms.peg)
    ∷ entry PEG_OFFSET_VALUE (option_map amount_text terms.offset)
    ∷ entry PEG_OFFSET_TYPE (option_map decimal terms.offset_kind)
    ∷ entry PEG_MOVE_TYPE (option_map decimal terms.moves)
    ∷ entry PEG_ROUND_DIRECTION (option_map decimal terms.round)
    ∷ []

regroup : (a b c d e f g h i j k l : List ℕ)
    → (a ++ b ++ c ++ d ++ e ++ f ++ g) ++ (h ++ i ++ j ++ k ++ l)
    ≡ a ++ (b ++ (c ++ (d ++ (e ++ (f ++ (g ++ (h ++ (i ++ (j ++ (k ++ (l ++ [])))))))))))
regroup a b c d e f g h i j k l = simp (append_assoc, append-nil)

pub terms_spelled : (terms : Terms) → terms_fields terms ≡ spelled (term_entries terms)
unfolding order_terms peg_terms
terms_spelled terms =
    regroup (field SIDE (byte terms.side)) (field ORDER_QTY (amount_text terms.quantity)) (field ORD_TYPE (byte terms.kind))
    (field_if PRICE (option_map amount_text terms.price)) (field_if TIME_IN_FORCE (option_map byte terms.force))
    (field_if MIN_QTY (option_map amount_text terms.minimum)) (field_if MIN_QTY_METHOD (option_map decimal terms.method))
    (field_if PEG_PRICE_TYPE (option_map decimal terms.peg)) (field_if PEG_OFFSET_VALUE (option_map amount_text terms.offset))
    (field_if PEG_OFFSET_TYPE (option_map decimal terms.offset_kind)) (field_if PEG_MOVE_TYPE (option_map decimal terms.moves))
    (field_if PEG_ROUND_DIRECTION (option_map decimal terms.round))

-- ---- what terms that fit are

pub record AreTerms (terms : Terms) : Type 0 where
  pub side : fits_code terms.side ≡ true
  pub quantity : fits_amount terms.quantity ≡ true
  pub kind : fits_code terms.kind ≡ true
  pub price : if_there fits_amount terms.price ≡ true
  pub force : if_there fits_code terms.force ≡ true
  pub minimum : if_there fits_amount terms.minimum ≡ true
  pub method : if_there fits_number terms.method ≡ true
  pub peg : if_there fits_number terms.peg ≡ true
  pub offset : if_there fits_amount terms.offset ≡ true
  pub offset_kind : if_there fits_number terms.offset_kind ≡ true
  pub moves : if_there fits_number terms.moves ≡ true
  pub round : if_there fits_number terms.round ≡ true

pub terms_fit : (terms : Terms) → fits_terms terms ≡ true → AreTerms terms
unfolding fits_order_terms fits_peg_terms
terms_fit terms h =
    let both = and_parts (fits_order_terms terms) (fits_peg_terms terms) h in
    let a = and_parts _ _ both.0 in
    let b = and_parts _ _ a.1 in
    let c = and_parts _ _ b.1 in
    let d = and_parts _ _ c.1 in
    let e = and_parts _ _ d.1 in
    let f = and_parts _ _ e.1 in
    let p = and_parts _ _ both.1 in
    let q = and_parts _ _ p.1 in
    let r = and_parts _ _ q.1 in
    let s = and_parts _ _ r.1 in
    record {
      side = a.0;
      quantity = b.0;
      kind = c.0;
      price = d.0;
      force = e.0;
      minimum = f.0;
      method = f.1;
      peg = p.0;
      offset = q.0;
      offset_kind = r.0;
      moves = s.0;
      round = s.1;
    }

pub code_value : (code : ℕ) → fits_code code ≡ true → IsValue (byte code)
code_value code h = record { fits = and_from (fits_code code) true h refl; short = omega arith }

codes_value : (code : Option ℕ) → if_there fits_code code ≡ true → IsValueIf (option_map byte code)
codes_value None h = tt
codes_value (Some code) h = code_value code h

amounts_value : (amount : Option ℤ) → if_there fits_amount amount ≡ true → IsValueIf (option_map amount_text amount)
amounts_value None h = tt
amounts_value (Some amount) h = amount_value amount h

numbers_value : (number : Option ℕ) → if_there fits_number number ≡ true → IsValueIf (option_map decimal number)
numbers_value None h = tt
numbers_value (Some number) h = number_value number h

pub terms_good : (terms : Terms) → AreTerms terms → AreGood (term_entries terms)
terms_good terms h = (
  (omega arith, omega arith, refl),
  code_value terms.side h.side,
  (
    (omega arith, omega arith, refl),
    amount_value terms.quantity h.quantity,
    (
      (omega arith, omega arith, refl),
      code_value terms.kind h.kind,
      (
        (omega arith, omega arith, refl),
        amounts_value terms.price h.price,
        (
          (omega arith, omega arith, refl),
          codes_value terms.force h.force,
          (
            (omega arith, omega arith, refl),
            amounts_value terms.minimum h.minimum,
            (
              (omega arith, omega arith, refl),
              numbers_value terms.method h.method,
              (
                (omega arith, omega arith, refl),
                numbers_value terms.peg h.peg,
                (
                  (omega arith, omega arith, refl),
                  amounts_value terms.offset h.offset,
                  (
                    (omega arith, omega arith, refl),
                    numbers_value terms.offset_kind h.offset_kind,
                    (
                      (omega arith, omega arith, refl),
                      numbers_value terms.moves h.moves,
                      (
                        (omega arith, omega arith, refl),
                        numbers_value terms.round h.round,
                        tt,
                      ),
                    ),
                  ),
                ),
              ),
            ),
          ),
        ),
      ),
    ),
  ),
)

-- ---- reading them

code_back : (code : Option ℕ) → option_map single_byte (option_map byte code) ≡ code
code_back None = refl
code_back (Some code) = refl

amount_back : (amount : Option ℤ) → if_there fits_amount amount ≡ true → option_and_then amount_of (option_map amount_text amount) ≡ amount
amount_back None h = refl
amount_back (Some amount) h = amount_read amount h

number_back : (number : Option ℕ) → if_there fits_number number ≡ true → option_and_then number_of (option_map decimal number) ≡ number
number_back None h = refl
number_back (Some number) h = number_read number h

-- fields in which these terms are found
pub record HasTerms (fields : List Field) (terms : Terms) : Type 0 where
  pub side : value_of SIDE fields ≡ Some (byte terms.side)
  pub quantity : value_of ORDER_QTY fields ≡ Some (amount_text terms.quantity)
  pub kind : value_of ORD_TYPE fields ≡ Some (byte terms.kind)
  pub price : value_of PRICE fields ≡ option_map amount_text terms.price
  pub force : value_of TIME_IN_FORCE fields ≡ option_map byte terms.force
  pub minimum : value_of MIN_QTY fields ≡ option_map amount_text terms.minimum
  pub method : value_of MIN_QTY_METHOD fields ≡ option_map decimal terms.method
  pub peg : value_of PEG_PRICE_TYPE fields ≡ option_map decimal terms.peg
  pub offset : value_of PEG_OFFSET_VALUE fields ≡ option_map amount_text terms.offset
  pub offset_kind : value_of PEG_OFFSET_TYPE fields ≡ option_map decimal terms.offset_kind
  pub moves : value_of PEG_MOVE_TYPE fields ≡ option_map decimal terms.moves
  pub round : value_of PEG_ROUND_DIRECTION fields ≡ option_map decimal terms.round

pub terms_read : (fields : List Field) (terms : Terms) → HasTerms fields terms → AreTerms terms → terms_of fields ≡ terms
unfolding terms_of code_in amount_in number_in
terms_read fields terms f h =
    let side : unwrap_or (option_map single_byte (value_of SIDE fields)) 0 ≡ terms.side = rw f.side refl in
    let quantity : unwrap_or (option_and_then amount_of (value_of ORDER_QTY fields)) (pos 0) ≡ terms.quantity = rw (f.quantity, amount_read terms.quantity h.quantity) refl in
    let kind : unwrap_or (option_map single_byte (value_of ORD_TYPE fields)) 0 ≡ terms.kind = rw f.kind refl in
    let price : option_and_then amount_of (value_of PRICE fields) ≡ terms.price = rw f.price (amount_back terms.price h.price) in
    let force : option_map single_byte (value_of TIME_IN_FORCE fields) ≡ terms.force = rw f.force (code_back terms.force) in
    let minimum : option_and_then amount_of (value_of MIN_QTY fields) ≡ terms.minimum = rw f.minimum (amount_back terms.minimum h.minimum) in
    let method : option_and_then number_of (value_of MIN_QTY_METHOD fields) ≡ terms.method = rw f.method (number_back terms.method h.method) in
    let peg : option_and_then number_of (value_of PEG_PRICE_TYPE fields) ≡ terms.peg = rw f.peg (number_back terms.peg h.peg) in
    let offset : option_and_then amount_of (value_of PEG_OFFSET_VALUE fields) ≡ terms.offset = rw f.offset (amount_back terms.offset h.offset) in
    let offset_kind : option_and_then number_of (value_of PEG_OFFSET_TYPE fields) ≡ terms.offset_kind = rw f.offset_kind (number_back terms.offset_kind h.offset_kind) in
    let moves : option_and_then number_of (value_of PEG_MOVE_TYPE fields) ≡ terms.moves = rw f.moves (number_back terms.moves h.moves) in
    let round : option_and_then number_of (value_of PEG_ROUND_DIRECTION fields) ≡ terms.round = rw f.round (number_back terms.round h.round) in
    rw (side, quantity, kind, price, force, minimum, method, peg, offset, offset_kind, moves, round) refl
