-- A line that is written is read as what it was written for.
use Rattle.std.proofs.Common.{◌≡◌, ℕ, zero, suc, ◌+◌, ◌-◌, ◌≤◌, ◌==◌, Bool, true, false, not, nat_lt, ℤ, ◌≤ℤ◌, List, [], ◌∷◌, ◌++◌, length, length-append, cond, Option, Some, None, Ok, refl, sym, ◌∙◌, ap, subst, arith, append_assoc, slice_get}
use Rattle.std.specs.Prelude.{codes}
use Rattle.std.specs.List.{AllByRecursion, IsDistinct, position_or_len}
use Rattle.std.specs.Str.{bytes_eq}
use Rattle.std.proofs.lemmas.Bool.Decides.{nat_tests}
use Rattle.std.proofs.lemmas.List.Splits.{slice_split_none, slice_split_at}
use Rattle.std.proofs.lemmas.Slice.Eq.{bytes_eq-Decides}
use Rattle.venue_words.specs.declared.command.Command.TheVariants.{Quote}
use Rattle.venue_words.specs.declared.config.Config.{Config}
use Rattle.venue_words.specs.declared.limits.TheConstants.{MAX_LINE_BYTES}
use Rattle.fix_fields.specs.declared.moments.TheConstants.{FIRST_MOMENT, LAST_MOMENT}
use Rattle.fix_frames.specs.MomentLaws.{moment_of-inside}
use Rattle.fix_write.specs.Lengths.{length-moment_text}
use Rattle.fix_write.specs.Moments.{moment_text}
use Rattle.quote_intake.specs.Price.{price_of}
use Rattle.quote_intake.specs.Quote.{number_in, quote_in}
use Rattle.quote_intake.specs.Words.{words_of}
use Rattle.script_text.specs.declared.body.Line.TheVariants as line
use Rattle.script_text.specs.Body.{line_of, keyed_body, body_words, moment_line, quote_line, read_of}
use Rattle.script_text.specs.Words.{script_moment, behind_word}
use Rattle.market_feed_laws.proofs.Plain.{ArePlain, no_blank, plain_moment}

-- one word, and words behind it
words_more : (word rest : List ℕ) → ArePlain word → words_of (word ++ 32 ∷ rest) ≡ word ∷ words_of rest
words_more word rest p = slice_split_at (λ byte. byte == 32) word 32 rest (no_blank word p) refl

words_last : (word : List ℕ) → ArePlain word → words_of word ≡ word ∷ []
words_last word p = slice_split_none (λ byte. byte == 32) word (no_blank word p)

-- ---- a line that is short enough is read by its words

read_short : (config : Config) (text : List ℕ) (l : _) → length text ≤ MAX_LINE_BYTES → line_of config text ≡ Ok l → read_of config text ≡ Ok l
unfolding read_of
read_short config text l few e =
    let short : nat_lt MAX_LINE_BYTES (length text) ≡ false = grind (arith, nat_tests) in
    rw (short, e) refl

line_words : (config : Config) (text : List ℕ) (words : List (List ℕ)) → words_of text ≡ words → line_of config text ≡ body_words config words text
unfolding line_of
line_words config text words e = ap (λ (ws : List (List ℕ)). body_words config ws text) e

-- ---- T

moment_words : (moment : ℤ) → words_of (codes "T " ++ moment_text moment) ≡ codes "T" ∷ moment_text moment ∷ []
moment_words moment =
    words_more (codes "T") (moment_text moment) (omega arith, tt)
    ∙ ap (λ (ws : List (List ℕ)). codes "T" ∷ ws) (words_last (moment_text moment) (plain_moment moment))

keyed_moment : (config : Config) (words : List (List ℕ)) (text : List ℕ) → keyed_body config (codes "T") words text ≡ moment_line words
unfolding keyed_body
keyed_moment config words text = refl

script_moment-read : (moment : ℤ) → FIRST_MOMENT ≤ℤ moment → moment ≤ℤ LAST_MOMENT → script_moment (moment_text moment) ≡ Some moment
unfolding script_moment
script_moment-read moment low high = rw (length-moment_text moment) (moment_of-inside moment low high)

moment_line-read : (moment : ℤ) (read : Option ℤ) → read ≡ Some moment → read ≡ script_moment (moment_text moment) → moment_line (moment_text moment ∷ []) ≡ Ok (line.Moment moment)
moment_line-read moment read e h = rw (sym h ∙ e) refl

pub moment_read : (config : Config) (moment : ℤ) → FIRST_MOMENT ≤ℤ moment → moment ≤ℤ LAST_MOMENT
    → read_of config (codes "T " ++ moment_text moment) ≡ Ok (line.Moment moment)
moment_read config moment low high =
    let text = codes "T " ++ moment_text moment in
    let long : length text ≡ 23 = length-append (codes "T ") (moment_text moment) ∙ ap (λ (n : ℕ). 2 + n) (length-moment_text moment) in
    read_short config text (line.Moment moment) (omega (arith, long))
    (line_words config text _ (moment_words moment) ∙ keyed_moment config (moment_text moment ∷ []) (behind_word (codes "T") text)
    ∙ moment_line-read moment (script_moment (moment_text moment)) (script_moment-read moment low high) refl)

-- ---- Q

-- the words of a quote's line
abbrev pub quote_words : List ℕ → List ℕ → List ℕ → List ℕ → List ℕ
quote_words symbol market bid offer = codes "Q " ++ (symbol ++ 32 ∷ []) ++ (market ++ 32 ∷ []) ++ (bid ++ 32 ∷ []) ++ offer

seam : (xs ys : List ℕ) → (xs ++ 32 ∷ []) ++ ys ≡ xs ++ 32 ∷ ys
seam xs ys = append_assoc xs (32 ∷ []) ys

quote_spelling : (symbol market bid offer : List ℕ)
    → quote_words symbol market bid offer ≡ codes "Q" ++ 32 ∷ (symbol ++ 32 ∷ (market ++ 32 ∷ (bid ++ 32 ∷ offer)))
quote_spelling symbol market bid offer =
    append_assoc (codes "Q " ++ (symbol ++ 32 ∷ []) ++ (market ++ 32 ∷ [])) (bid ++ 32 ∷ []) offer
    ∙ append_assoc (codes "Q " ++ (symbol ++ 32 ∷ [])) (market ++ 32 ∷ []) ((bid ++ 32 ∷ []) ++ offer)
    ∙ append_assoc (codes "Q ") (symbol ++ 32 ∷ []) ((market ++ 32 ∷ []) ++ ((bid ++ 32 ∷ []) ++ offer))
    ∙ ap (λ (xs : List ℕ). codes "Q " ++ xs)
    (seam symbol ((market ++ 32 ∷ []) ++ ((bid ++ 32 ∷ []) ++ offer))
    ∙ ap (λ (xs : List ℕ). symbol ++ 32 ∷ xs)
    (seam market ((bid ++ 32 ∷ []) ++ offer) ∙ ap (λ (xs : List ℕ). market ++ 32 ∷ xs) (seam bid offer)))

words_are : (symbol market bid offer : List ℕ) → ArePlain symbol → ArePlain market → ArePlain bid → ArePlain offer
    → words_of (quote_words symbol market bid offer) ≡ codes "Q" ∷ symbol ∷ market ∷ bid ∷ offer ∷ []
words_are symbol market bid offer s m b o =
    let fourth = bid ++ 32 ∷ offer in
    let third = market ++ 32 ∷ fourth in
    let second = symbol ++ 32 ∷ third in
    ap words_of (quote_spelling symbol market bid offer)
    ∙ words_more (codes "Q") second (omega arith, tt)
    ∙ ap (λ (ws : List (List ℕ)). codes "Q" ∷ ws) (words_more symbol third s)
    ∙ ap (λ (ws : List (List ℕ)). codes "Q" ∷ symbol ∷ ws) (words_more market fourth m)
    ∙ ap (λ (ws : List (List ℕ)). codes "Q" ∷ symbol ∷ market ∷ ws) (words_more bid offer b)
    ∙ ap (λ (ws : List (List ℕ)). codes "Q" ∷ symbol ∷ market ∷ bid ∷ ws) (words_last offer o)

keyed_quote : (config : Config) (words : List (List ℕ)) (text : List ℕ) → keyed_body config (codes "Q") words text ≡ quote_line config words
unfolding keyed_body
keyed_quote config words text = refl

quote_line-read : (config : Config) (symbol market bid offer : List ℕ) (s m : ℕ) (b o : Option ℕ)
    → number_in config.symbols symbol ≡ Some s → number_in config.markets market ≡ Some m → price_of bid ≡ Some b → price_of offer ≡ Some o
    → quote_line config (symbol ∷ market ∷ bid ∷ offer ∷ []) ≡ Ok (line.Quote s (Quote m b o))
unfolding quote_in
quote_line-read config symbol market bid offer s m b o es em eb eo = rw (es, em, eb, eo) refl

pub quote_read : (config : Config) (symbol market bid offer : List ℕ) (s m : ℕ) (b o : Option ℕ)
    → ArePlain symbol → ArePlain market → ArePlain bid → ArePlain offer → length (quote_words symbol market bid offer) ≤ MAX_LINE_BYTES
    → number_in config.symbols symbol ≡ Some s → number_in config.markets market ≡ Some m → price_of bid ≡ Some b → price_of offer ≡ Some o
    → read_of config (quote_words symbol market bid offer) ≡ Ok (line.Quote s (Quote m b o))
quote_read config symbol market bid offer s m b o ps pm pb po few es em eb eo =
    let text = quote_words symbol market bid offer in
    read_short config text (line.Quote s (Quote m b o)) few
    (line_words config text _ (words_are symbol market bid offer ps pm pb po)
    ∙ keyed_quote config (symbol ∷ market ∷ bid ∷ offer ∷ []) (behind_word (codes "Q") text)
    ∙ quote_line-read config symbol market bid offer s m b o es em eb eo)

-- ---- names are found where they stand

same_bytes : (name : List ℕ) → bytes_eq name name ≡ true
same_bytes name = grind (arith, bytes_eq-Decides)

no_same : (name other : List ℕ) (others : List (List ℕ)) (place : ℕ) → AllByRecursion (λ x. bytes_eq name x ≡ false) others
    → slice_get others place ≡ Some other → bytes_eq name other ≡ false
no_same name other [] place h e = absurd (cc)
no_same name other (x ∷ others) zero h e = let s : x ≡ other = cc in subst (λ (y : List ℕ). bytes_eq name y ≡ false) s h.0
no_same name other (x ∷ others) (suc place) h e = no_same name other others place h.1 e

one_further : (t : Bool) (n place length : ℕ) → t ≡ false → cond (nat_lt n length) (Some n) None ≡ Some place
    → cond (nat_lt (cond (not t) (1 + n) 0) (suc length)) (Some (cond (not t) (1 + n) 0)) None ≡ Some (suc place)
one_further true n place length e h = cc
one_further false n place length e h = let p : n ≡ place = grind (arith, nat_tests) in grind (arith, nat_tests)

pub found_name : (names : List (List ℕ)) (name : List ℕ) (place : ℕ) → IsDistinct bytes_eq names → slice_get names place ≡ Some name
    → number_in names name ≡ Some place
unfolding IsDistinct
found_name [] name place d e = absurd (cc)
found_name (x ∷ names) name zero d e =
    let s : x ≡ name = cc in
    let t : bytes_eq x name ≡ true = subst (λ (y : List ℕ). bytes_eq x y ≡ true) s (same_bytes x) in
    let l : nat_lt 0 (suc (length names)) ≡ true = grind (arith, nat_tests) in
    rw (t, l) refl
found_name (x ∷ names) name (suc place) d e =
    one_further (bytes_eq x name) (position_or_len (λ other. bytes_eq other name) names) place (length names)
    (no_same x name names place d.0 e) (found_name names name place d.1 e)
