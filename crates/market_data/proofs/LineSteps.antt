-- The lines of more quotes.
use Rattle.std.proofs.Common.{◌≡◌, ◌+◌, ◌<◌, ℕ, ℤ, suc, List, [], ◌∷◌, ◌++◌, Option, Some, None, refl, sym, ◌∙◌, ap, append_assoc, append-nil, map, length, get_or, drop, drop-cons, add-one}
use Rattle.std.specs.Option.{option_to_list}
use Rattle.std.proofs.lemmas.Grind.{flat_map-append}
use Rattle.venue_words.specs.declared.command.Command.{Command}
use Rattle.venue_words.specs.declared.config.Config.{Config}
use Rattle.session_core.specs.declared.message.Request.{Request}
use Rattle.market_data.specs.Lines.{TimedQuote, quotes_in, handed_quotes, all_quotes, moment_if, quote_line, lines_from, last_moment, feed_lines}

pub lines-append : (config : Config) (last : Option ℤ) (xs ys : List TimedQuote)
    → lines_from config last (xs ++ ys) ≡ lines_from config last xs ++ lines_from config (last_moment last xs) ys
lines-append config last [] ys = refl
lines-append config last (one ∷ xs) ys =
    ap (λ (r : List ℕ). moment_if last one.moment ++ quote_line config one.symbol one.quote ++ r) (lines-append config (Some one.moment) xs ys)
    ∙ sym (append_assoc (moment_if last one.moment ++ quote_line config one.symbol one.quote) (lines_from config (Some one.moment) xs) (lines_from config (last_moment (Some one.moment) xs) ys))

pub last-append : (last : Option ℤ) (xs ys : List TimedQuote) → last_moment last (xs ++ ys) ≡ last_moment (last_moment last xs) ys
last-append last [] ys = refl
last-append last (one ∷ xs) ys = last-append (Some one.moment) xs ys

quotes_more : (config : Config) (requests : List Request) (request : Option Request)
    → all_quotes config (requests ++ option_to_list request) ≡ all_quotes config requests ++ handed_quotes config request
quotes_more config requests None = flat_map-append (quotes_in config) requests []
quotes_more config requests (Some request) =
    flat_map-append (quotes_in config) requests (request ∷ [])
    ∙ ap (λ (r : List TimedQuote). all_quotes config requests ++ r) (append-nil (quotes_in config request))

pub lines_more : (config : Config) (requests : List Request) (request : Option Request)
    → feed_lines config (all_quotes config (requests ++ option_to_list request))
    ≡ feed_lines config (all_quotes config requests) ++ lines_from config (last_moment None (all_quotes config requests)) (handed_quotes config request)
lines_more config requests request =
    ap (feed_lines config) (quotes_more config requests request)
    ∙ lines-append config None (all_quotes config requests) (handed_quotes config request)

pub last_more : (config : Config) (requests : List Request) (request : Option Request)
    → last_moment None (all_quotes config (requests ++ option_to_list request))
    ≡ last_moment (last_moment None (all_quotes config requests)) (handed_quotes config request)
last_more config requests request =
    ap (last_moment None) (quotes_more config requests request)
    ∙ last-append None (all_quotes config requests) (handed_quotes config request)

-- all messages handed out later
pub lines_all : (config : Config) (first second : List Request)
    → feed_lines config (all_quotes config (first ++ second))
    ≡ feed_lines config (all_quotes config first) ++ lines_from config (last_moment None (all_quotes config first)) (all_quotes config second)
lines_all config first second =
    ap (feed_lines config) (flat_map-append (quotes_in config) first second)
    ∙ lines-append config None (all_quotes config first) (all_quotes config second)

-- quotes of a symbol at a moment
abbrev pub timed_all : ℤ → ℕ → List Command → List TimedQuote
timed_all moment symbol quotes = map (λ quote. record { moment = moment; symbol = symbol; quote = quote }) quotes

-- the next quote, and those behind it
next_quote : (quotes : List Command) (i : ℕ) (quote : Command) → i < length quotes → quote ≡ get_or quotes i quote
    → drop i quotes ≡ quote ∷ drop (i + 1) quotes
next_quote quotes i quote within is =
    rw add-one (drop-cons quotes i quote within ∙ ap (λ (q : Command). q ∷ drop (suc i) quotes) (sym is))

line_behind : (text moment line rest : List ℕ) → text ++ (moment ++ line ++ rest) ≡ ((text ++ moment) ++ line) ++ rest
line_behind text moment line rest = simp append_assoc

-- one more quote of a symbol at a moment
pub quote_more : (config : Config) (whole text one two : List ℕ) (last : Option ℤ) (moment : ℤ) (symbol : ℕ) (quotes : List Command) (i : ℕ) (quote : Command)
    → i < length quotes → quote ≡ get_or quotes i quote
    → whole ≡ text ++ lines_from config last (timed_all moment symbol (drop i quotes))
    → one ≡ text ++ moment_if last moment → two ≡ one ++ quote_line config symbol quote
    → whole ≡ two ++ lines_from config (Some moment) (timed_all moment symbol (drop (i + 1) quotes))
quote_more config whole text one two last moment symbol quotes i quote within is so first second =
    let rest = lines_from config (Some moment) (timed_all moment symbol (drop (i + 1) quotes)) in
    so
    ∙ ap (λ (qs : List Command). text ++ lines_from config last (timed_all moment symbol qs)) (next_quote quotes i quote within is)
    ∙ line_behind text (moment_if last moment) (quote_line config symbol quote) rest
    ∙ ap (λ (t : List ℕ). t ++ rest) (sym (second ∙ ap (λ (t : List ℕ). t ++ quote_line config symbol quote) first))

pub moment_more : (whole last : Option ℤ) (moment : ℤ) (symbol : ℕ) (quotes : List Command) (i : ℕ) (quote : Command)
    → i < length quotes → quote ≡ get_or quotes i quote
    → whole ≡ last_moment last (timed_all moment symbol (drop i quotes)) → whole ≡ last_moment (Some moment) (timed_all moment symbol (drop (i + 1) quotes))
moment_more whole last moment symbol quotes i quote within is so =
    so ∙ ap (λ (qs : List Command). last_moment last (timed_all moment symbol qs)) (next_quote quotes i quote within is)
