-- Lines of a body by their first word.
use Rattle.std.proofs.Common.{◌≡◌, ℕ, ◌<◌, ◌==◌, Bool, true, false, List, [], ◌∷◌, length, Option, Err, if◌then◌else◌, refl, arith}
use Rattle.std.specs.Prelude.{codes}
use Rattle.std.specs.Str.{bytes_eq}
use Rattle.std.proofs.lemmas.List.Splits.{length-slice_split}
use Rattle.venue_words.specs.declared.config.Config.{Config}
use Rattle.quote_intake.specs.Words.{words_of}
use Rattle.quote_intake.specs.Quote.{number_in, quote_in}
use Rattle.script_text.specs.declared.fault.LineCause.TheVariants.{BadWord}
use Rattle.script_text.specs.Body.{Read, moment_line, open_line, piece_line, piece_read, keyed_body}
use Rattle.script_text.specs.Words.{behind_word}

-- each text has a word
pub some_word : (text : List ℕ) → 0 < length (words_of text)
some_word text = omega (arith, length-slice_split (λ byte. byte == 32) text)

moment_two : (word : List ℕ) (words : List (List ℕ)) → 0 < length words → moment_line (word ∷ words) ≡ Err BadWord
moment_two word [] h = absurd (omega arith)
moment_two word (other ∷ words) h = refl

open_two : (config : Config) (word : List ℕ) (words : List (List ℕ)) → 0 < length words
    → open_line config (word ∷ words) ≡ Err BadWord
open_two config word [] h = absurd (omega arith)
open_two config word (other ∷ words) h = refl

piece_two : (bytes_of : List ℕ → Option (List ℕ)) (config : Config) (text word : List ℕ) (words : List (List ℕ))
    → 0 < length words → piece_line bytes_of config (word ∷ words) text
    ≡ piece_read (number_in config.members word) (bytes_of (behind_word word text))
piece_two bytes_of config text word [] h = absurd (omega arith)
piece_two bytes_of config text word (other ∷ words) h = refl

-- a line with more than one word
pub moment_more : (word text : List ℕ) → moment_line (word ∷ words_of text) ≡ Err BadWord
moment_more word text = moment_two word (words_of text) (some_word text)

pub open_more : (config : Config) (word text : List ℕ) → open_line config (word ∷ words_of text) ≡ Err BadWord
open_more config word text = open_two config word (words_of text) (some_word text)

pub piece_more : (bytes_of : List ℕ → Option (List ℕ)) (config : Config) (text word behind : List ℕ)
    → piece_line bytes_of config (word ∷ words_of behind) text
    ≡ piece_read (number_in config.members word) (bytes_of (behind_word word text))
piece_more bytes_of config text word behind = piece_two bytes_of config text word (words_of behind) (some_word behind)

whichever : (t q m b o : Bool) (x : Read)
    → (if t then x else if q then x else if m then x else if b then x else if o then x else x) ≡ x
whichever true q m b o x = refl
whichever false true m b o x = refl
whichever false false true b o x = refl
whichever false false false true o x = refl
whichever false false false false true x = refl
whichever false false false false false x = refl

-- a first word alone is no line
pub key_alone : (config : Config) (key text : List ℕ) → keyed_body config key [] text ≡ Err BadWord
unfolding keyed_body quote_in
key_alone config key text = whichever (bytes_eq key (codes "T")) (bytes_eq key (codes "Q")) (bytes_eq key (codes "M"))
    (bytes_eq key (codes "B")) (bytes_eq key (codes "O")) (Err BadWord)
