-- The commands of a feed for one symbol.
use Rattle.std.proofs.Common.{◌≡◌, ◌≢◌, ℕ, ◌==◌, eq-eqb, ne_eqb, List, [], ◌∷◌, ◌++◌, map, refl, ap, ◌∙◌, append-nil}
use Rattle.std.specs.Prelude.{filter}
use Rattle.std.proofs.lemmas.List.{map-append}
use Rattle.std.proofs.lemmas.List.Elements.{filter-append}
use Rattle.eager_meaning.specs.Interleaving.{Timed}
use Rattle.feed_work.specs.Feeds.{Asked, commands_at}

abbrev pub timed : Asked → Timed
timed asked = (asked.1, asked.2)

pub commands_append : (symbol : ℕ) (xs ys : List Asked)
    → commands_at symbol (xs ++ ys) ≡ commands_at symbol xs ++ commands_at symbol ys
commands_append symbol xs ys =
    ap (map timed) (filter-append (λ (asked : Asked). asked.0 == symbol) xs ys)
    ∙ map-append timed (filter (λ asked. asked.0 == symbol) xs) (filter (λ asked. asked.0 == symbol) ys)

pub one_here : (symbol : ℕ) (asked : Asked) → asked.0 ≡ symbol → commands_at symbol (asked ∷ []) ≡ timed asked ∷ []
one_here symbol asked is = rw (eq-eqb asked.0 symbol is) refl

pub one_else : (symbol : ℕ) (asked : Asked) → asked.0 ≢ symbol → commands_at symbol (asked ∷ []) ≡ []
one_else symbol asked not = rw (ne_eqb asked.0 symbol not) refl

pub commands_here : (symbol : ℕ) (xs : List Asked) (asked : Asked) → asked.0 ≡ symbol
    → commands_at symbol (xs ++ asked ∷ []) ≡ commands_at symbol xs ++ timed asked ∷ []
commands_here symbol xs asked is =
    commands_append symbol xs (asked ∷ []) ∙ ap (λ (l : List Timed). commands_at symbol xs ++ l) (one_here symbol asked is)

pub commands_else : (symbol : ℕ) (xs : List Asked) (asked : Asked) → asked.0 ≢ symbol
    → commands_at symbol (xs ++ asked ∷ []) ≡ commands_at symbol xs
commands_else symbol xs asked not =
    commands_append symbol xs (asked ∷ [])
    ∙ ap (λ (l : List Timed). commands_at symbol xs ++ l) (one_else symbol asked not)
    ∙ append-nil (commands_at symbol xs)

pub first_here : (asked : Asked) (others : List Asked)
    → commands_at asked.0 (asked ∷ others) ≡ timed asked ∷ commands_at asked.0 others
first_here asked others =
    commands_append asked.0 (asked ∷ []) others
    ∙ ap (λ (l : List Timed). l ++ commands_at asked.0 others) (one_here asked.0 asked refl)
