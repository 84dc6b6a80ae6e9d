-- What an order asks, in words.
use Rattle.std.specs.Prelude.{ℕ, ◌-◌, ◌==◌, Bool, false, if◌then◌else◌, ℤ, pos, negsuc, List, [], ◌++◌, codes, slice_get, Option, Some, None, option_and_then}
use Rattle.venue_words.specs.declared.command.Command.{Command}
use Rattle.venue_words.specs.declared.command.Command.TheVariants.{New, Replace}
use Rattle.venue_words.specs.declared.command.Event.{Event}
use Rattle.venue_words.specs.declared.price.Side.{Side}
use Rattle.venue_words.specs.declared.price.Side.TheVariants.{Buy, Sell}
use Rattle.venue_words.specs.declared.terms.Terms.{Terms}
use Rattle.exec_reports.specs.Texts.{amount_text, price_text}

-- the terms of a command
unfoldable pub terms_in : Command → Option Terms
terms_in (New member id terms) = Some terms
terms_in (Replace member id orig terms) = Some terms
terms_in _ = None

-- the terms that the event of a number gave an order
abbrev pub terms_at : List Event → ℕ → Option Terms
terms_at journal number = option_and_then (λ event. terms_in event.command) (slice_get journal (number - 1))

abbrev pub side_word : Side → List ℕ
side_word Buy = codes "buys "
side_word Sell = codes "sells "

-- what it is pegged to: PegPriceType(1094)
abbrev pub peg_word : Option ℕ → List ℕ
peg_word None = codes "peg"
peg_word (Some kind) =
    if kind == 2 then codes "midpoint peg"
    else if kind == 4 then codes "market peg"
    else if kind == 5 then codes "primary peg"
    else codes "peg"

abbrev pub is_code : ℕ → Option ℕ → Bool
is_code code None = false
is_code code (Some given) = given == code

-- an amount that is not zero, with its sign
abbrev pub signed_text : ℤ → List ℕ
signed_text (pos n) = if n == 0 then [] else codes " +" ++ amount_text (pos n)
signed_text (negsuc n) = codes " " ++ amount_text (negsuc n)

abbrev pub is_nothing : ℤ → Bool
is_nothing (pos n) = n == 0
is_nothing (negsuc n) = false

-- how far from there: PegOffsetValue(211), in ticks where PegOffsetType(836) is 2
abbrev pub offset_text : Option ℤ → Option ℕ → List ℕ
offset_text None kind = []
offset_text (Some offset) kind =
    if is_nothing offset then [] else signed_text offset ++ (if is_code 2 kind then codes " ticks" else [])

-- PegRoundDirection(838)
abbrev pub round_text : Option ℕ → List ℕ
round_text round =
    if is_code 1 round then codes ", rounded aggressively"
    else if is_code 2 round then codes ", rounded passively"
    else []

-- a minimum's method(1822)
abbrev pub method_text : Option ℕ → List ℕ
method_text method = if is_code 2 method then codes " in each trade" else []

-- MinQty(110)
abbrev pub minimum_text : Option ℤ → Option ℕ → List ℕ
minimum_text None method = []
minimum_text (Some minimum) method =
    if is_nothing minimum then []
    else codes ", minimum " ++ amount_text minimum ++ method_text method

-- TimeInForce(59)
abbrev pub force_text : Option ℕ → List ℕ
force_text force = if is_code 51 force then codes ", immediate or cancel" else []

-- a limit after other words, and alone
abbrev pub further_limit : Option ℕ → List ℕ
further_limit None = []
further_limit (Some price) = codes ", limit " ++ price_text price

abbrev pub limit_text : Option ℕ → List ℕ
limit_text None = codes "limit"
limit_text (Some price) = codes "limit " ++ price_text price

-- at which price it trades
unfoldable pub price_words : Terms → Bool → Option ℕ → List ℕ
price_words terms pegged limit =
    if pegged
    then peg_word terms.peg ++ offset_text terms.offset terms.offset_kind ++ round_text terms.round ++ further_limit limit
    else limit_text limit

-- all that its terms ask
unfoldable pub terms_words : Option Terms → Bool → Option ℕ → List ℕ
terms_words None pegged limit = []
terms_words (Some terms) pegged limit =
    price_words terms pegged limit ++ minimum_text terms.minimum terms.method ++ force_text terms.force
