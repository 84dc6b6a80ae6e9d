-- The books that are made take what is configured.
use Rattle.std.proofs.Common.{◌≡◌, ℕ, zero, suc, ◌+◌, ◌<◌, Bool, true, ◌&&◌, List, [], ◌∷◌, ◌++◌, map, length, get_or, take, sym, ap, ◌∙◌, arith}
use Rattle.std.specs.List.{All, AllByRecursion}
use Rattle.std.proofs.lemmas.List.{map-append, take_more}
use Rattle.std.proofs.lemmas.List.Elements.{All-head, All-tail}
use Rattle.symbol_book.specs.Book.{BookView}
use Rattle.symbol_book.specs.Setting.{setting_of}
use Rattle.venue_core.specs.Books.{IsNewBook}

both : (a b : Bool) → a ≡ true → b ≡ true → (a && b) ≡ true
both a b p q = (λ k. p k && q k)

pub settings_of : (markets : ℕ) (books : List BookView) (ticks : List ℕ) → map (λ (book : BookView). book.tick) books ≡ ticks → All (IsNewBook markets) books
    → map (λ (book : BookView). setting_of book.markets book.tick) books ≡ map (setting_of markets) ticks
settings_of markets [] ticks same new = ap (map (setting_of markets)) same
settings_of markets (book ∷ books) [] same new = absurd (cc)
settings_of markets (book ∷ books) (tick ∷ ticks) same new =
    let e : book.tick ≡ tick = (cc) in
    let rest : map (λ (book : BookView). book.tick) books ≡ ticks = (cc) in
    let one = All-head (IsNewBook markets) book books new in
    λ k. setting_of (one.markets_are k) (e k) ∷ settings_of markets books ticks rest (All-tail (IsNewBook markets) book books new) k

-- what holds of each element, at a place
pub all_at : (P : ℕ → Type 0) (xs : List ℕ) (i : ℕ) → i < length xs → AllByRecursion P xs → P (get_or xs i 0)
all_at P [] i lt all = absurd (omega arith)
all_at P (x ∷ xs) zero lt all = all.0
all_at P (x ∷ xs) (suc i) lt all = all_at P xs i (omega arith) all.1

-- one more book, with the next number
pub next_number : (f : BookView → ℕ) (books now : List BookView) (xs : List ℕ) (i : ℕ) (book : BookView)
    → map f books ≡ take i xs → now ≡ books ++ book ∷ [] → f book ≡ get_or xs i 0 → i < length xs → map f now ≡ take (i + 1) xs
next_number f books now xs i book same grown one lt =
    ap (map f) grown ∙ (map-append f books (book ∷ []) ∙ ((λ k. same k ++ one k ∷ []) ∙ sym (take_more xs i 0 lt)))
