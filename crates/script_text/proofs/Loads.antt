-- The lines of the load script by their numbers.
use Rattle.std.proofs.Common.{◌≡◌, ℕ, ◌+◌, ◌-◌, ◌<◌, ◌≤◌, List, [], ◌∷◌, ◌++◌, map, length, get_or, ◌∙◌, refl, arith, length-append}
use Rattle.std.specs.List.{range_with_len}
use Rattle.std.proofs.Math.ListN.{get_or-append}
use Rattle.std.proofs.lemmas.List.{get_or-append-add}
use Rattle.std.proofs.lemmas.List.FromFn.{get_or-map-range_with_len, length-map-range_with_len}
use Rattle.script_text.specs.Load.{first_lines, order_line, quote_line, last_line, load_lines, load_line}

-- four lists, one behind the other
at_first : (a b c d : List (List ℕ)) (i : ℕ) → i < length a → get_or (((a ++ b) ++ c) ++ d) i [] ≡ get_or a i []
at_first a b c d i h =
    get_or-append ((a ++ b) ++ c) d [] i (omega (arith, length-append (a ++ b) c, length-append a b))
    ∙ (get_or-append (a ++ b) c [] i (omega (arith, length-append a b)) ∙ get_or-append a b [] i h)

at_second : (a b c d : List (List ℕ)) (i : ℕ) → i < length b
    → get_or (((a ++ b) ++ c) ++ d) (length a + i) [] ≡ get_or b i []
at_second a b c d i h =
    get_or-append ((a ++ b) ++ c) d [] (length a + i) (omega (arith, length-append (a ++ b) c, length-append a b))
    ∙ (get_or-append (a ++ b) c [] (length a + i) (omega (arith, length-append a b)) ∙ get_or-append-add a b i [])

at_third : (a b c d : List (List ℕ)) (i : ℕ) → i < length c
    → get_or (((a ++ b) ++ c) ++ d) (length (a ++ b) + i) [] ≡ get_or c i []
at_third a b c d i h =
    get_or-append ((a ++ b) ++ c) d [] (length (a ++ b) + i) (omega (arith, length-append (a ++ b) c))
    ∙ get_or-append-add (a ++ b) c i []

at_fourth : (a b c d : List (List ℕ)) (i : ℕ) → get_or (((a ++ b) ++ c) ++ d) (length ((a ++ b) ++ c) + i) [] ≡ get_or d i []
at_fourth a b c d i = get_or-append-add ((a ++ b) ++ c) d i []

orders_of : ℕ → List (List ℕ)
orders_of orders = map order_line (range_with_len 1 orders)

quotes_of : ℕ → List (List ℕ)
quotes_of quotes = map quote_line (range_with_len 1 quotes)

length_orders : (orders : ℕ) → length (orders_of orders) ≡ orders
unfolding orders_of
length_orders orders = length-map-range_with_len order_line 1 orders

length_quotes : (quotes : ℕ) → length (quotes_of quotes) ≡ quotes
unfolding quotes_of
length_quotes quotes = length-map-range_with_len quote_line 1 quotes

length_first : (limit : ℕ) → length (first_lines limit) ≡ 7
length_first limit = refl

lines_are : (orders quotes : ℕ) → load_lines orders quotes
    ≡ ((first_lines (orders + quotes + 2) ++ orders_of orders) ++ quotes_of quotes) ++ last_line orders ∷ []
unfolding load_lines orders_of quotes_of
lines_are orders quotes = refl

at : (orders quotes i j : ℕ) → i ≡ j → get_or (load_lines orders quotes) i []
    ≡ get_or (((first_lines (orders + quotes + 2) ++ orders_of orders) ++ quotes_of quotes) ++ last_line orders ∷ []) j []
at orders quotes i j e = rw (lines_are orders quotes, e) refl

pub load_first : (orders quotes number : ℕ) → 1 ≤ number → number ≤ 7
    → load_line orders quotes number ≡ get_or (first_lines (orders + quotes + 2)) (number - 1) []
load_first orders quotes number h k =
    at orders quotes (number - 1) (number - 1) refl
    ∙ at_first (first_lines (orders + quotes + 2)) (orders_of orders) (quotes_of quotes) (last_line orders ∷ []) (number - 1)
    (omega (arith, length_first (orders + quotes + 2)))

pub load_order : (orders quotes number i : ℕ) → 1 ≤ i → i ≤ orders → number ≡ i + 7
    → load_line orders quotes number ≡ order_line i
unfolding orders_of
load_order orders quotes number i h k e =
    at orders quotes (number - 1) (length (first_lines (orders + quotes + 2)) + (i - 1)) (omega (arith, length_first (orders + quotes + 2)))
    ∙ (at_second (first_lines (orders + quotes + 2)) (orders_of orders) (quotes_of quotes) (last_line orders ∷ []) (i - 1)
    (omega (arith, length_orders orders))
    ∙ get_or-map-range_with_len order_line 1 orders (i - 1) i [] (omega arith) (omega arith))

pub load_quote : (orders quotes number k : ℕ) → 1 ≤ k → k ≤ quotes → number ≡ k + orders + 7
    → load_line orders quotes number ≡ quote_line k
unfolding quotes_of
load_quote orders quotes number k h l e =
    at orders quotes (number - 1) (length (first_lines (orders + quotes + 2) ++ orders_of orders) + (k - 1))
    (omega (arith, length_first (orders + quotes + 2), length_orders orders, length-append (first_lines (orders + quotes + 2)) (orders_of orders)))
    ∙ (at_third (first_lines (orders + quotes + 2)) (orders_of orders) (quotes_of quotes) (last_line orders ∷ []) (k - 1)
    (omega (arith, length_quotes quotes))
    ∙ get_or-map-range_with_len quote_line 1 quotes (k - 1) k [] (omega arith) (omega arith))

behind_quotes : (orders quotes number i : ℕ) → 1 ≤ number → number ≡ orders + quotes + 8 + i
    → load_line orders quotes number ≡ get_or (last_line orders ∷ []) i []
behind_quotes orders quotes number i h e =
    at orders quotes (number - 1) (length ((first_lines (orders + quotes + 2) ++ orders_of orders) ++ quotes_of quotes) + i)
    (omega (arith, length_first (orders + quotes + 2), length_orders orders, length_quotes quotes, length-append (first_lines (orders + quotes + 2)) (orders_of orders), length-append (first_lines (orders + quotes + 2) ++ orders_of orders) (quotes_of quotes)))
    ∙ at_fourth (first_lines (orders + quotes + 2)) (orders_of orders) (quotes_of quotes) (last_line orders ∷ []) i

pub load_last : (orders quotes number : ℕ) → number ≡ orders + quotes + 8
    → load_line orders quotes number ≡ last_line orders
load_last orders quotes number e = behind_quotes orders quotes number 0 (omega arith) (omega arith)

pub load_end : (orders quotes number : ℕ) → number ≡ orders + quotes + 9
    → load_line orders quotes number ≡ []
load_end orders quotes number e = behind_quotes orders quotes number 1 (omega arith) (omega arith)

pub ruleset by_number = (load_first, load_order, load_quote, load_last, load_end)
