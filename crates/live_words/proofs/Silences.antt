-- How lines that take quotes away come to be all that are wanted.
use Rattle.std.proofs.Common.{◌≡◌, ◌<◌, ◌+◌, ◌⊎◌, inl, inr, ℕ, zero, suc, Bool, true, List, [], ◌∷◌, ◌++◌, length, None, Some, sym, ◌∙◌, ap, subst, arith}
use Rattle.std.proofs.lemmas.List.Elements.{Contains-append_left, Contains-push}
use Rattle.std.proofs.lemmas.Bool.{cases_eq}
use Rattle.std.specs.Prelude.{slice_get, Contains}
use Rattle.venue_words.specs.declared.config.Config.{Config}
use Rattle.live_words.specs.declared.markets.Market.{Market}
use Rattle.live_words.specs.Lines.{empty_line}
use Rattle.live_words.specs.Markets.{stands, is_quiet}
use Rattle.live_words.specs.Silence.{IsEmptied, AreRowsEmptied, AreKept}

-- one line more
pub kept_more : (old new : List (List ℕ)) (line : List ℕ) → new ≡ old ++ line ∷ [] → AreKept old new
kept_more old new line is other c = subst (λ (l : List (List ℕ)). Contains l other) (sym is) (Contains-append_left old (line ∷ []) other c)

-- the line that a symbol wants is added
pub emptied_more : (config : Config) (market symbol : ℕ) (old new : List (List ℕ)) (line a b : List ℕ) → new ≡ old ++ line ∷ [] → line ≡ empty_line a b
    → Some a ≡ slice_get config.symbols symbol → Some b ≡ slice_get config.markets market → IsEmptied config market symbol new
emptied_more config market symbol old new line a b is made at_a at_b m s e f =
    let same_a : a ≡ s = cc in
    let same_b : b ≡ m = cc in
    let asked : line ≡ empty_line s m = made ∙ ap (λ (x : List ℕ). empty_line x b) same_a ∙ ap (λ (x : List ℕ). empty_line s x) same_b in
    subst (λ (l : List (List ℕ)). Contains l (empty_line s m)) (sym is) (subst (λ (x : List ℕ). Contains (old ++ line ∷ []) x) asked (Contains-push old line))

-- a symbol or a market that the config does not have wants no line
pub none_emptied : (config : Config) (market symbol : ℕ) (lines : List (List ℕ)) → (None ≡ slice_get config.symbols symbol) ⊎ (None ≡ slice_get config.markets market)
    → IsEmptied config market symbol lines
none_emptied config market symbol lines (inl n) m s e f = absurd (cc)
none_emptied config market symbol lines (inr n) m s e f = absurd (cc)

-- a symbol below the next one is the next one's or below it
below_suc : (s n : ℕ) → s < n + 1 → (s < n) ⊎ (s ≡ n)
below_suc s n below = elim (cases_eq s n) [ inl e ↦ inr e | inr ne ↦ inl (omega (arith, below, ne)) ]

-- the rows of one symbol more
pub rows_more : (config : Config) (market : ℕ) (rows : List Bool) (old new : List (List ℕ)) (symbol : ℕ)
    → ((s : ℕ) → s < symbol → stands rows s ≡ true → IsEmptied config market s old) → AreKept old new
    → (stands rows symbol ≡ true → IsEmptied config market symbol new)
    → (s : ℕ) → s < symbol + 1 → stands rows s ≡ true → IsEmptied config market s new
rows_more config market rows old new symbol had kept here s below up =
    elim (below_suc s symbol below) [
      | inl b ↦ λ m n e f. kept _ (had s b up m n e f)
      | inr e ↦ subst (λ (x : ℕ). IsEmptied config market x new) (sym e) (here (subst (λ (x : ℕ). stands rows x ≡ true) e up))
    ]

-- only symbols of the rows stand
pub stands_within : (rows : List Bool) (s : ℕ) → stands rows s ≡ true → s < length rows
stands_within [] s up = absurd (cc)
stands_within (row ∷ rows) zero up = omega arith
stands_within (row ∷ rows) (suc s) up = omega (arith, stands_within rows s up)

-- the quotes of one market more
pub markets_more : (config : Config) (markets : List Market) (now limit : ℕ) (old new : List (List ℕ)) (market : ℕ)
    → ((k : ℕ) (m : Market) → k < market → slice_get markets k ≡ Some m → is_quiet m.heard now limit ≡ true → AreRowsEmptied config k m.rows.items old)
    → AreKept old new
    → ((m : Market) → slice_get markets market ≡ Some m → is_quiet m.heard now limit ≡ true → AreRowsEmptied config market m.rows.items new)
    → (k : ℕ) (m : Market) → k < market + 1 → slice_get markets k ≡ Some m → is_quiet m.heard now limit ≡ true → AreRowsEmptied config k m.rows.items new
markets_more config markets now limit old new market had kept here k m below at quiet =
    elim (below_suc k market below) [
      | inl b ↦ λ s up n t e f. kept _ (had k m b at quiet s up n t e f)
      | inr e ↦ subst (λ (x : ℕ). AreRowsEmptied config x m.rows.items new) (sym e) (here m (subst (λ (x : ℕ). slice_get markets x ≡ Some m) e at) quiet)
    ]

pub within : {A : Type 0} (xs : List A) (k : ℕ) (x : A) → slice_get xs k ≡ Some x → k < length xs
within [] k x at = absurd (cc)
within (y ∷ xs) zero x at = omega arith
within (y ∷ xs) (suc k) x at = omega (arith, within xs k x at)
