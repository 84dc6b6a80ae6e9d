-- The listing of books, book by book.
use Rattle.std.proofs.Common.{◌≡◌, ◌<◌, ℕ, ◌+◌, List, [], ◌∷◌, ◌++◌, length, take, drop, get_or, map, Option, Some, None, sym, ◌∙◌, ap, subst, append_assoc, append-nil, arith}
use Rattle.std.specs.Prelude.{min, Result, Ok, Err, MatchResult}
use Rattle.std.specs.Result.{IsErrAnd}
use Rattle.std.proofs.lemmas.List.{take-append-le, take-append-drop, take_min, take_more, length-take}
use Rattle.std.proofs.Math.Seq.{take-append-add}
use Rattle.std.specs.Io.KnownBytes.{Appends}
use Rattle.io_edge.specs.Grows.{AppendsPrefix}
use Rattle.venue_words.specs.declared.config.Config.{Config}
use Rattle.symbol_book.specs.Book.{BookView}
use Rattle.symbol_book.specs.Setting.{book_setting, reports_at}
use Rattle.listing.specs.Listing.{part_text, listing_from}
use Rattle.venue_server.specs.Listed.{part_of}

-- ---- what is told

appends_none : (t : Option (List ℕ)) → Appends t t []
appends_none None = tt
appends_none (Some xs) = sym (append-nil xs)

pub appends_trans : (a b c : Option (List ℕ)) (p q : List ℕ) → Appends a b p → Appends b c q → Appends a c (p ++ q)
appends_trans None b c p q h k = tt
appends_trans (Some xs) None c p q h k = absurd h
appends_trans (Some xs) (Some ys) None p q h k = absurd k
appends_trans (Some xs) (Some ys) (Some zs) p q h k = rw (k, h) (append_assoc xs p q)

-- it stopped behind some text
pub stops_after : (a b c : Option (List ℕ)) (s t : List ℕ) → Appends a b s → AppendsPrefix b c t → AppendsPrefix a c (s ++ t)
stops_after a b c s t p q = (
  length s + q.0,
  subst (Appends a c) (sym (take-append-add s t q.0)) (appends_trans a b c s (take q.0 t) p q.1),
)

-- it stopped in the first part of a text
pub stops_early : (a c : Option (List ℕ)) (s t : List ℕ) → AppendsPrefix a c s → AppendsPrefix a c (s ++ t)
stops_early a c s t p =
    let k = min p.0 (length s) in
    let same : take k (s ++ t) ≡ take p.0 s = take-append-le k s t (omega arith) ∙ take_min p.0 s in
    (k, subst (Appends a c) (sym same) p.1)

-- ---- books

-- the listing of books, the first of this symbol
abbrev pub listed : Config → ℕ → List BookView → List ℕ
listed config symbol books = listing_from config symbol (map part_of books)

abbrev pub book_text : Config → ℕ → BookView → List ℕ
book_text config symbol book = part_text config symbol book.journal (reports_at (book_setting book) book.journal)

listed_append : (config : Config) (symbol : ℕ) (books more : List BookView)
    → listed config symbol (books ++ more) ≡ listed config symbol books ++ listed config (symbol + length books) more
listed_append config symbol [] more =
    let at : symbol ≡ symbol + 0 = omega arith in ap (λ (s : ℕ). listed config s more) at
listed_append config symbol (book ∷ books) more =
    let at : (symbol + 1) + length books ≡ symbol + length (book ∷ books) = omega arith in
    ap (λ (l : List ℕ). book_text config symbol book ++ l)
    (listed_append config (symbol + 1) books more
    ∙ ap (λ (s : ℕ). listed config (symbol + 1) books ++ listed config s more) at)
    ∙ sym (append_assoc (book_text config symbol book) (listed config (symbol + 1) books)
    (listed config (symbol + length (book ∷ books)) more))

-- one more book is listed
pub listed_next : (config : Config) (i : ℕ) (books : List BookView) (book : BookView) → i < length books → book ≡ get_or books i book
    → listed config 0 (take (i + 1) books) ≡ listed config 0 (take i books) ++ book_text config i book
listed_next config i books book lt is =
    let it = get_or books i book in
    let at : 0 + length (take i books) ≡ i = omega (arith, length-take i books, lt) in
    ap (listed config 0) (take_more books i book lt)
    ∙ listed_append config 0 (take i books) (it ∷ [])
    ∙ ap (λ (s : ℕ). listed config 0 (take i books) ++ listed config s (it ∷ [])) at
    ∙ ap (λ (l : List ℕ). listed config 0 (take i books) ++ l) (append-nil (book_text config i it) ∙ ap (book_text config i) (sym is))

-- a listing stopped in the part of a book
pub stops_in : (config : Config) (i : ℕ) (books : List BookView) (book : BookView) (a b c : Option (List ℕ)) → i < length books
    → book ≡ get_or books i book → Appends a b (listed config 0 (take i books)) → AppendsPrefix b c (book_text config i book)
    → AppendsPrefix a c (listed config 0 books)
stops_in config i books book a b c lt is before now =
    let first = take (i + 1) books in
    let rest = drop (i + 1) books in
    subst (λ (l : List BookView). AppendsPrefix a c (listed config 0 l)) (take-append-drop (i + 1) books)
    (subst (AppendsPrefix a c) (sym (listed_append config 0 first rest))
    (stops_early a c (listed config 0 first) (listed config (0 + length first) rest)
    (subst (AppendsPrefix a c) (sym (listed_next config i books book lt is))
    (stops_after a b c (listed config 0 (take i books)) (book_text config i book) before now))))

-- what holds behind an error
pub at_err : {T E : Type 0} (S : E → Type 0) (r : Result T E) (P : T → Type 0) (Q : Type 0) → IsErrAnd r S → Q → MatchResult r P (λ _. Q)
at_err S (Ok x) P Q is q = absurd is
at_err S (Err y) P Q is q = q
