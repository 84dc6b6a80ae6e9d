-- What holds of each row of a list holds of the rows that matching makes of it.
use Rattle.std.proofs.Common.{◌≡◌, ℕ, ◌-◌, true, false, cond, ◌&&◌, List, [], ◌∷◌, refl}
use Rattle.std.specs.Prelude.{map, filter, fold, nat_lt}
use Rattle.std.specs.List.{AllByRecursion}
use Rattle.venue_words.specs.declared.row.Priced.{Priced}
use Rattle.venue_words.specs.Price.{crosses}
use Rattle.venue_words.specs.Priority.{placed, in_priority, goes_before}
use Rattle.eager_meaning.specs.declared.trade.Take.{Take}
use Rattle.eager_meaning.specs.Walk.{walk, taken_from, stands}
use Rattle.eager_meaning.specs.Matching.{takes_of, row_after, shares_of, rows_after}
use Rattle.market_laws.specs.ListLaws.{all_filter, all_map}

pub placed_all : (P : Priced → Type 0) (x : Priced) (ys : List Priced) → P x → AllByRecursion P ys → AllByRecursion P (placed x ys)
placed_all P x [] p a = (p, tt)
placed_all P x (y ∷ ys) p a =
    elim (goes_before x y) as (λ b. AllByRecursion P (cond b (x ∷ y ∷ ys) (y ∷ placed x ys)))
    [ true ↦ (p, a) | false ↦ (a.0, placed_all P x ys p a.1) ]

sorted_all : (P : Priced → Type 0) (done rows : List Priced) → AllByRecursion P done → AllByRecursion P rows → AllByRecursion P (fold (λ ordered x. placed x ordered) done rows)
sorted_all P done [] d a = d
sorted_all P done (x ∷ rows) d a = sorted_all P (placed x done) rows (placed_all P x done a.0 d) a.1

pub in_priority_all : (P : Priced → Type 0) (rows : List Priced) → AllByRecursion P rows → AllByRecursion P (in_priority rows)
unfolding in_priority
in_priority_all P rows a = sorted_all P [] _ tt (all_filter P _ rows a)

-- a contra that a taker goes through, and crosses
abbrev pub IsMet : (Priced → Type 0) → Priced → Take → Type 0
IsMet P taker take = P take.contra × (crosses taker take.contra ≡ true)

pub walk_all : (P : Priced → Type 0) (taker : Priced) (left : ℕ) (contras : List Priced) → AllByRecursion P contras → AllByRecursion (IsMet P taker) (walk taker left contras)
unfolding walk
walk_all P taker left [] a = tt
walk_all P taker left (contra ∷ contras) a =
    let shares : ℕ = taken_from taker.row left contra.row in
    let take : Take = record { contra = contra; shares = shares } in
    (elim (crosses taker contra) as (λ b. crosses taker contra ≡ b → AllByRecursion (IsMet P taker) (cond (b && nat_lt 0 left) (take ∷ walk taker (left - shares) contras) [])) [
      | true ↦ λ e.
          elim (nat_lt 0 left) as (λ d. AllByRecursion (IsMet P taker) (cond d (take ∷ walk taker (left - shares) contras) []))
          [ true ↦ ((a.0, e), walk_all P taker (left - shares) contras a.1) | false ↦ tt ]
      | false ↦ λ e. tt
    ]) refl

pub takes_all : (P : Priced → Type 0) (taker : Priced) (others : List Priced) → AllByRecursion P others → AllByRecursion (IsMet P taker) (takes_of taker others)
unfolding takes_of
takes_all P taker others a =
    let takes : List Take = walk taker taker.row.leaves (in_priority others) in
    let met = walk_all P taker taker.row.leaves (in_priority others) (in_priority_all P others a) in
    elim (stands taker.row takes) as (λ b. AllByRecursion (IsMet P taker) (cond b (filter (λ take. nat_lt 0 take.shares) takes) []))
    [ true ↦ all_filter (IsMet P taker) (λ take. nat_lt 0 take.shares) takes met | false ↦ tt ]

pub rows_after_all : (P : Priced → Type 0) → ((n : ℕ) (x : Priced) → P x → P (row_after n x)) → (takes : List Take) (rows : List Priced) → AllByRecursion P rows → AllByRecursion P (rows_after takes rows)
unfolding rows_after
rows_after_all P h takes rows a =
    all_filter P _ (map (λ x. row_after (shares_of takes x) x) rows) (all_map P P (λ x. row_after (shares_of takes x) x) (λ x p. h (shares_of takes x) x p) rows a)
