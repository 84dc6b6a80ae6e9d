-- A history of moves, and when a limited value last changed, on an example.
use Rattle.std.specs.Prelude.{◌≡◌, List, [], ◌∷◌, refl}
use Rattle.venue_words.specs.Moves.{History, Move, changed}

abbrev two : List Move
two = record { event = 4; value = 2003 } ∷ record { event = 2; value = 2001 } ∷ []

abbrev four : History
four = record { first = 0; moves = record { event = 8; value = 2003 } ∷ record { event = 6; value = 1999 } ∷ two }

at_2000 : changed four 2000 ≡ 8
at_2000 = refl

at_1990 : changed four 1990 ≡ 2
at_1990 = refl

at_2002 : changed four 2002 ≡ 8
at_2002 = refl

at_2000_earlier : changed (record { first = 0; moves = two }) 2000 ≡ 2
at_2000_earlier = refl
