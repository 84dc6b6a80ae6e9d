-- The quotes of snapshots that are taken are of configured things, within the limits.
use Rattle.std.proofs.Common.{◌≡◌, ℕ, zero, suc, ◌+◌, ◌/◌, ◌%◌, ◌<◌, ◌==◌, ◌&&◌, max, min, Bool, true, false, not, nat_le, nat_lt, cond, ℤ, pos, negsuc, List, [], ◌∷◌, ◌++◌, map, filter, length, Option, Some, None, Ok, Err, is_none, slice_get, unwrap_or, refl, sym, subst, arith}
use Rattle.std.specs.Prelude.{fold, option_and_then, option_map}
use Rattle.std.specs.List.{AllByRecursion, cons_option, flat_map, position_or_len}
use Rattle.std.specs.Str.{bytes_eq}
use Rattle.std.proofs.lemmas.Bool.Decides.{nat_tests}
use Rattle.venue_words.specs.ListLaws.{all_append}
use Rattle.venue_words.specs.declared.command.Command.{Command}
use Rattle.venue_words.specs.declared.command.Command.TheVariants.{Quote}
use Rattle.venue_words.specs.declared.config.Config.{Config}
use Rattle.venue_words.specs.declared.limits.TheConstants.{MAX_CENTS}
use Rattle.venue_words.specs.Best.{either_by, greatest, least}
use Rattle.venue_words.specs.Conditions.{fits_quote}
use Rattle.fix_fields.specs.declared.field.Field.{Field}
use Rattle.fix_fields.specs.Forms.{amount_of}
use Rattle.quote_intake.specs.Price.{in_range}
use Rattle.quote_intake.specs.Quote.{number_in}
use Rattle.order_fields.specs.declared.tags.TheConstants.{SYMBOL}
use Rattle.session_core.specs.declared.checks.FailedCheck.{FailedCheck}
use Rattle.session_core.specs.declared.message.Request.{Request}
use Rattle.session_core.specs.declared.reasons.TheConstants.{VALUE_OUT_OF_RANGE}
use Rattle.session_core.specs.Lookup.{value_of}
use Rattle.market_data.specs.declared.entries.EntryQuote.{EntryQuote}
use Rattle.market_data.specs.declared.entries.EntryType.{EntryType}
use Rattle.market_data.specs.declared.entries.EntryType.TheVariants.{Bid, Offer, EmptyBook}
use Rattle.fix_write.specs.declared.message_type.MessageType.{MessageType}
use Rattle.fix_write.specs.declared.message_type.MessageType.TheVariants.{MarketDataSnapshot}
use Rattle.market_data.specs.declared.snapshots.Snapshot.{Snapshot}
use Rattle.market_data.specs.declared.tags.TheConstants.{MD_ENTRY_PX, MD_MKT}
use Rattle.market_data.specs.Entries.{cents_of_amount, entries_of, entry_quote, entry_type, market_in, market_or_first, price_in, used_quotes, whole_cents}
use Rattle.market_data.specs.Faults.{entry_fault, entry_faults, fails_if, fault_of_type, first_some, head_faults, snapshot_fault, symbol_in}
use Rattle.market_data.specs.Lines.{all_quotes, quotes_by_type, quotes_in, sending_time, timed, timed_if}
use Rattle.market_data.specs.Quotes.{bids_of, first_named, is_named, market_quote, markets_in, offers_of, quotes_of, said_of}
use Rattle.market_data.specs.Snapshots.{Meant, snapshot_of, unless_fault, whole_snapshot}
use Rattle.market_feed_laws.proofs.Reading.{IsWritable}

-- ---- lists

all_flat : {A B : Type 0} (P : B → Type 0) (f : A → List B) (xs : List A) → ((x : A) → AllByRecursion P (f x)) → AllByRecursion P (flat_map f xs)
all_flat P f [] h = tt
all_flat P f (x ∷ xs) h = all_append P (f x) (flat_map f xs) (h x) (all_flat P f xs h)

all_map : {A B : Type 0} (P : B → Type 0) (Q : A → Type 0) (f : A → B) (xs : List A) → ((x : A) → Q x → P (f x)) → AllByRecursion Q xs → AllByRecursion P (map f xs)
all_map P Q f [] h a = tt
all_map P Q f (x ∷ xs) h a = (h x a.0, all_map P Q f xs h a.1)

all_filter : {A : Type 0} (P : A → Type 0) (p : A → Bool) (xs : List A) → AllByRecursion P xs → AllByRecursion P (filter p xs)
all_filter P p [] a = tt
all_filter P p (x ∷ xs) a =
    elim (p x) as (λ b. AllByRecursion P (cond b (x ∷ filter p xs) (filter p xs))) [
      | true ↦ (a.0, all_filter P p xs a.1)
      | false ↦ all_filter P p xs a.1
    ]

-- ---- checks that do not fail

clear_test : (test : Bool) (reason tag : ℕ) → fails_if test reason tag ≡ None → test ≡ false
clear_test true reason tag e = absurd (cc)
clear_test false reason tag e = refl

all_clear : (checks : List (Option FailedCheck)) (place : ℕ) (one : Option FailedCheck) → first_some checks ≡ None
    → slice_get checks place ≡ Some one → one ≡ None
all_clear [] place one e at = absurd (cc)
all_clear (None ∷ checks) zero one e at = let same : None ≡ one = cc in sym same
all_clear (None ∷ checks) (suc place) one e at = all_clear checks place one e at
all_clear (Some x ∷ checks) place one e at = absurd (cc)

clear_parts : (xs ys : List (Option FailedCheck)) → first_some (xs ++ ys) ≡ None → (first_some xs ≡ None) × (first_some ys ≡ None)
clear_parts [] ys e = (refl, e)
clear_parts (None ∷ xs) ys e = clear_parts xs ys e
clear_parts (Some x ∷ xs) ys e = absurd (cc)

place_within : (n m at : ℕ) → cond (nat_lt n m) (Some n) None ≡ Some at → at < m
place_within n m at e = grind (arith, nat_tests)

number_within : (names : List (List ℕ)) (name : List ℕ) (place : ℕ) → number_in names name ≡ Some place → place < length names
number_within names name place e = place_within (position_or_len (λ other. bytes_eq other name) names) (length names) place e

and_within : (names : List (List ℕ)) (value : Option (List ℕ)) → is_none (option_and_then (number_in names) value) ≡ false
    → unwrap_or (option_and_then (number_in names) value) 0 < length names
and_within names None e = absurd (cc)
and_within names (Some name) e =
    elim (number_in names name) as (λ o. number_in names name ≡ o → is_none o ≡ false → unwrap_or o 0 < length names) [
      | None ↦ λ is n. absurd (cc)
      | Some place ↦ λ is n. number_within names name place is
    ] refl e

symbol_within : (fields : List Field) (config : Config) → snapshot_fault fields config ≡ None → unwrap_or (symbol_in config.symbols fields) 0 < length config.symbols
unfolding symbol_in
symbol_within fields config e =
    let head = (clear_parts (head_faults config.symbols fields) (map (entry_fault config.markets) (entries_of fields)) e).0 in
    let test = is_none (symbol_in config.symbols fields) in
    let clear = all_clear (head_faults config.symbols fields) 5 (fails_if test VALUE_OUT_OF_RANGE SYMBOL) head refl in
    and_within config.symbols (value_of SYMBOL fields) (clear_test test VALUE_OUT_OF_RANGE SYMBOL clear)

-- ---- prices

range_fits : (cents : ℕ) → fits_quote (in_range cents) ≡ true
unfolding in_range
range_fits cents =
    elim (nat_le 1 cents && nat_le cents MAX_CENTS) as (λ b. (nat_le 1 cents && nat_le cents MAX_CENTS) ≡ b → fits_quote (cond b (Some cents) None) ≡ true) [
      | true ↦ λ e. e
      | false ↦ λ e. refl
    ] refl

units_fit : (units : ℕ) → fits_quote (whole_cents units) ≡ true
unfolding whole_cents
units_fit units =
    elim (units % 1000000 == 0) as (λ b. fits_quote (cond b (in_range (units / 1000000)) None) ≡ true) [ true ↦ range_fits (units / 1000000) | false ↦ refl ]

amount_fits : (amount : ℤ) → fits_quote (cents_of_amount amount) ≡ true
unfolding cents_of_amount
amount_fits (pos units) = units_fit units
amount_fits (negsuc n) = refl

then_fits : (amount : Option ℤ) → fits_quote (option_and_then cents_of_amount amount) ≡ true
then_fits None = refl
then_fits (Some amount) = amount_fits amount

price_fits : (entry : List Field) → fits_quote (price_in entry) ≡ true
unfolding price_in
price_fits entry = then_fits (option_and_then amount_of (value_of MD_ENTRY_PX entry))

max_fits : (a b : ℕ) → fits_quote (Some a) ≡ true → fits_quote (Some b) ≡ true → fits_quote (Some (max a b)) ≡ true
max_fits a b h k = grind (arith, nat_tests)

min_fits : (a b : ℕ) → fits_quote (Some a) ≡ true → fits_quote (Some b) ≡ true → fits_quote (Some (min a b)) ≡ true
min_fits a b h k = grind (arith, nat_tests)

either_fits : (f : ℕ → ℕ → ℕ) → ((a b : ℕ) → fits_quote (Some a) ≡ true → fits_quote (Some b) ≡ true → fits_quote (Some (f a b)) ≡ true)
    → (x y : Option ℕ) → fits_quote x ≡ true → fits_quote y ≡ true → fits_quote (either_by f x y) ≡ true
either_fits f keeps None y h k = k
either_fits f keeps (Some a) None h k = h
either_fits f keeps (Some a) (Some b) h k = keeps a b h k

fold_fits : (f : ℕ → ℕ → ℕ) → ((a b : ℕ) → fits_quote (Some a) ≡ true → fits_quote (Some b) ≡ true → fits_quote (Some (f a b)) ≡ true)
    → (start : Option ℕ) (xs : List (Option ℕ)) → fits_quote start ≡ true → AllByRecursion (λ x. fits_quote x ≡ true) xs
    → fits_quote (fold (either_by f) start xs) ≡ true
fold_fits f keeps start [] h a = h
fold_fits f keeps start (x ∷ xs) h a = fold_fits f keeps (either_by f start x) xs (either_fits f keeps start x h a.0) a.1

-- ---- what entries say

-- of a configured market, within the limits
abbrev IsSaid : List (List ℕ) → EntryQuote → Type 0
IsSaid markets said = (said.market < length markets) × (fits_quote said.bid ≡ true) × (fits_quote said.offer ≡ true)

market_within : (markets : List (List ℕ)) (entry : List Field) (of : EntryType) → first_some (entry_faults markets entry of) ≡ None
    → market_or_first markets entry < length markets
unfolding market_in
market_within markets entry of e =
    let test = is_none (market_in markets entry) in
    let clear = all_clear (entry_faults markets entry of) 3 (fails_if test VALUE_OUT_OF_RANGE MD_MKT) e refl in
    and_within markets (value_of MD_MKT entry) (clear_test test VALUE_OUT_OF_RANGE MD_MKT clear)

said_one : (markets : List (List ℕ)) (entry : List Field) (of : EntryType) → first_some (entry_faults markets entry of) ≡ None
    → IsSaid markets (entry_quote markets entry of)
said_one markets entry Bid e = (market_within markets entry Bid e, price_fits entry, refl)
said_one markets entry Offer e = (market_within markets entry Offer e, refl, price_fits entry)
said_one markets entry EmptyBook e = (market_within markets entry EmptyBook e, refl, refl)

said_first : (markets : List (List ℕ)) (entry : List Field) (of : Option EntryType) (rest : List EntryQuote) (others : List (Option FailedCheck))
    → first_some (fault_of_type markets entry of ∷ others) ≡ None → (first_some others ≡ None → AllByRecursion (IsSaid markets) rest)
    → AllByRecursion (IsSaid markets) (cons_option (option_map (entry_quote markets entry) of) rest)
said_first markets entry None rest others e h = h e
said_first markets entry (Some of) rest others e h =
    elim (first_some (entry_faults markets entry of)) as (λ o. first_some (entry_faults markets entry of) ≡ o → first_some (o ∷ others) ≡ None → AllByRecursion (IsSaid markets) (entry_quote markets entry of ∷ rest)) [
      | None ↦ λ is n. (said_one markets entry of is, h n)
      | Some x ↦ λ is n. absurd (cc)
    ] refl e

pub said_all : (markets : List (List ℕ)) (entries : List (List Field)) → first_some (map (entry_fault markets) entries) ≡ None
    → AllByRecursion (IsSaid markets) (used_quotes markets entries)
said_all markets [] e = tt
said_all markets (entry ∷ entries) e =
    said_first markets entry (entry_type entry) (used_quotes markets entries) (map (entry_fault markets) entries) e (said_all markets entries)

-- ---- the quotes of markets

named_within : (markets : List (List ℕ)) (before : List ℕ) (places : List ℕ) → AllByRecursion (λ place. place < length markets) places
    → AllByRecursion (λ place. place < length markets) (first_named before places)
named_within markets before [] a = tt
named_within markets before (place ∷ places) a =
    elim (is_named before place) as (λ b. AllByRecursion (λ p. p < length markets) (cond b (first_named before places) (place ∷ first_named (before ++ place ∷ []) places))) [
      | true ↦ named_within markets before places a.1
      | false ↦ (a.0, named_within markets (before ++ place ∷ []) places a.1)
    ]

-- a quote of a configured market, within the limits
abbrev FitsQuote : Config → Command → Type 0
FitsQuote config command = (market : ℕ) × (bid : Option ℕ) × (offer : Option ℕ) × (command ≡ Quote market bid offer)
    × (market < length config.markets) × (fits_quote bid ≡ true) × (fits_quote offer ≡ true)

quote_fits : (config : Config) (said : List EntryQuote) (market : ℕ) → AllByRecursion (IsSaid config.markets) said → market < length config.markets
    → FitsQuote config (market_quote said market)
quote_fits config said market a h =
    let own = all_filter (IsSaid config.markets) (λ quote. quote.market == market) said a in (
      market,
      greatest (bids_of market said),
      least (offers_of market said),
      refl,
      h,
      fold_fits max max_fits None (bids_of market said) refl
          (all_map (λ x. fits_quote x ≡ true) (IsSaid config.markets) (λ quote. quote.bid) (said_of market said) (λ x s. s.1) own),
      fold_fits min min_fits None (offers_of market said) refl
          (all_map (λ x. fits_quote x ≡ true) (IsSaid config.markets) (λ quote. quote.offer) (said_of market said) (λ x s. s.2) own),
    )

quotes_fit : (config : Config) (said : List EntryQuote) → AllByRecursion (IsSaid config.markets) said → AllByRecursion (FitsQuote config) (quotes_of said)
quotes_fit config said a =
    all_map (FitsQuote config) (λ place. place < length config.markets) (market_quote said) (first_named [] (markets_in said)) (λ place h. quote_fits config said place a h)
    (named_within config.markets [] (markets_in said) (all_map (λ place. place < length config.markets) (IsSaid config.markets) (λ quote. quote.market) said (λ x s. s.0) a))

-- ---- snapshots

taken : (fault : Option FailedCheck) (whole snapshot : Snapshot) → unless_fault fault whole ≡ Ok snapshot → (fault ≡ None) × (whole ≡ snapshot)
taken None whole snapshot e = (refl, (cc))
taken (Some failed) whole snapshot e = absurd (cc)

writable_one : (config : Config) (moment : ℤ) (symbol : ℕ) (quote : Command) → symbol < length config.symbols → FitsQuote config quote
    → IsWritable config (record { moment = moment; symbol = symbol; quote = quote })
writable_one config moment symbol quote h f = record {
  market = f.0;
  bid = f.1;
  offer = f.2;
  quote_is = f.3;
  symbol_within = h;
  market_within = f.4;
  bid_fits = f.5;
  offer_fits = f.6;
}

writable_whole : (config : Config) (fields : List Field) (moment : ℤ) → snapshot_fault fields config ≡ None
    → AllByRecursion (IsWritable config) (timed moment (whole_snapshot fields config))
writable_whole config fields moment e =
    let entries = (clear_parts (head_faults config.symbols fields) (map (entry_fault config.markets) (entries_of fields)) e).1 in
    let snapshot = whole_snapshot fields config in
    all_map (IsWritable config) (FitsQuote config) (λ quote. record { moment = moment; symbol = snapshot.symbol; quote = quote }) snapshot.quotes
    (λ quote f. writable_one config moment snapshot.symbol quote (symbol_within fields config e) f)
    (quotes_fit config (used_quotes config.markets (entries_of fields)) (said_all config.markets (entries_of fields) entries))

writable_meant : (config : Config) (fields : List Field) (meant : Meant) (moment : Option ℤ) → snapshot_of fields config ≡ meant
    → AllByRecursion (IsWritable config) (timed_if meant moment)
unfolding snapshot_of
writable_meant config fields (Err failed) moment e = tt
writable_meant config fields (Ok snapshot) None e = tt
writable_meant config fields (Ok snapshot) (Some moment) e =
    let t = taken (snapshot_fault fields config) (whole_snapshot fields config) snapshot e in
    subst (λ (s : Snapshot). AllByRecursion (IsWritable config) (timed moment s)) t.1 (writable_whole config fields moment t.0)

writable_by_type : (kind : MessageType) (config : Config) (request : Request) → AllByRecursion (IsWritable config) (quotes_by_type kind config request)
writable_by_type MarketDataSnapshot config request =
    writable_meant config request.fields (snapshot_of request.fields config) (sending_time request) refl
writable_by_type _ config request = tt

writable_in : (config : Config) (request : Request) → AllByRecursion (IsWritable config) (quotes_in config request)
unfolding quotes_in
writable_in config request = writable_by_type request.kind config request

pub all_writable : (config : Config) (requests : List Request) → AllByRecursion (IsWritable config) (all_quotes config requests)
all_writable config requests = all_flat (IsWritable config) (quotes_in config) requests (writable_in config)
