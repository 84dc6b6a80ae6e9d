-- Rows that differ by entry and by order, and what a walk takes from each.
use Rattle.std.proofs.Common.{◌≡◌, ℕ, ◌+◌, ◌-◌, ◌≤◌, Bool, true, false, cond, ◌&&◌, List, [], ◌∷◌, Some, None, refl, sym, ◌∙◌, inl, inr, arith}
use Rattle.std.specs.Prelude.{◌⊎◌, filter, nat_lt, nat_le, min, sum_by, ◌==◌, unwrap_or}
use Rattle.std.specs.List.{AllByRecursion}
use Rattle.std.proofs.lemmas.Bool.{ne_eqb, eq-eqb}
use Rattle.std.proofs.lemmas.List.Sums.{sum_by-cons}
use Rattle.venue_words.specs.declared.row.Row.{Row}
use Rattle.venue_words.specs.declared.row.Priced.{Priced}
use Rattle.venue_words.specs.ListLaws.{all_weaken, all_both}
use Rattle.venue_words.specs.Price.{crosses}
use Rattle.venue_words.specs.Priority.{in_priority}
use Rattle.eager_meaning.specs.declared.trade.Take.{Take}
use Rattle.eager_meaning.specs.Floor.{floor}
use Rattle.eager_meaning.specs.Walk.{walk, may_fill, taken_from, stands, total_of, least_fill}
use Rattle.eager_meaning.specs.Matching.{takes_of, row_after, shares_of}
use Rattle.market_laws.specs.Pairwise.{Keeps, IsKeptByTrades, pairwise_in_priority, TakesPairwise, takes_pairwise}
use Rattle.market_laws.specs.Sound.{AreDifferent, AllDiffer}
use Rattle.market_laws.specs.ListLaws.{all_filter}

pub different_back : (x y : Row) → AreDifferent x y → AreDifferent y x
different_back x y d = record { entry = λ e. d.entry (sym e); order = λ e. d.order (sym e) }

-- ---- rows that are one, or differ

-- two rows are of one entry and one order, or differ in both
abbrev pub IsSameOrDiffers : Row → Row → Type 0
IsSameOrDiffers x y = ((y.entry ≡ x.entry) × (y.order ≡ x.order)) ⊎ AreDifferent x y

pub each_same_or_differs : (rows : List Priced) → AllDiffer rows → AllByRecursion (λ x. AllByRecursion (λ y. IsSameOrDiffers x.row y.row) rows) rows
each_same_or_differs [] a = tt
each_same_or_differs (x ∷ xs) a = (
  (inl (refl, refl), all_weaken (λ y. AreDifferent x.row y.row) (λ y. IsSameOrDiffers x.row y.row) (λ y d. inr d) xs a.0),
  all_both (λ z. AreDifferent x.row z.row) (λ z. AllByRecursion (λ y. IsSameOrDiffers z.row y.row) xs) (λ z. AllByRecursion (λ y. IsSameOrDiffers z.row y.row) (x ∷ xs))
      (λ z d more. (inr (different_back x.row z.row d), more)) xs a.0 (each_same_or_differs xs a.1),
)

-- ---- changes that keep the difference

-- a change that keeps entry and order
abbrev pub KeepsNames : (Priced → Priced) → Type 0
KeepsNames f = (x : Priced) → ((f x).row.entry ≡ x.row.entry) × ((f x).row.order ≡ x.row.order)

pub named_apart : (f : Priced → Priced) → KeepsNames f → Keeps AreDifferent f
named_apart f keeps x y d = record { entry = λ e. d.entry (sym (keeps x).0 ∙ e); order = λ e. d.order (sym (keeps x).1 ∙ e) }

pub different_kept : IsKeptByTrades AreDifferent
unfolding row_after
different_kept shares x y d = record { entry = d.entry; order = d.order }

pub differ_in_priority : (rows : List Priced) → AllDiffer rows → AllDiffer (in_priority rows)
differ_in_priority rows a = pairwise_in_priority AreDifferent different_back rows a

-- ---- the walk

-- no two takes are from one row
abbrev pub TakesDiffer : List Take → Type 0
TakesDiffer takes = TakesPairwise AreDifferent takes

pub takes_differ : (taker : Priced) (others : List Priced) → AllDiffer others → TakesDiffer (takes_of taker others)
takes_differ taker others a = takes_pairwise AreDifferent different_back taker others a

-- at most what both have left is taken
taken_most : (taker : Row) (left : ℕ) (contra : Row) → (taken_from taker left contra ≤ left) × (taken_from taker left contra ≤ contra.leaves)
unfolding taken_from may_fill
taken_most taker left contra =
    elim (nat_le (floor contra) (min left contra.leaves) && nat_le (least_fill taker left) (min left contra.leaves)) as (λ b. (unwrap_or (cond b (Some (min left contra.leaves)) None) 0 ≤ left) × (unwrap_or (cond b (Some (min left contra.leaves)) None) 0 ≤ contra.leaves))
    [ true ↦ (omega arith, omega arith) | false ↦ (omega arith, omega arith) ]

abbrev pub IsWithin : Take → Type 0
IsWithin take = take.shares ≤ take.contra.row.leaves

walk_within : (taker : Priced) (left : ℕ) (contras : List Priced) → (total_of (walk taker left contras) ≤ left) × AllByRecursion IsWithin (walk taker left contras)
unfolding walk
walk_within taker left [] = (omega arith, tt)
walk_within taker left (c ∷ cs) =
    let shares : ℕ = taken_from taker.row left c.row in
    let take : Take = record { contra = c; shares = shares } in
    let more : List Take = walk taker (left - shares) cs in
    let rest = walk_within taker (left - shares) cs in
    let most = taken_most taker.row left c.row in
    let sum = sum_by-cons (λ (t : Take). t.shares) take more in
    elim (crosses taker c && nat_lt 0 left) as (λ b. (total_of (cond b (take ∷ more) []) ≤ left) × AllByRecursion IsWithin (cond b (take ∷ more) [])) [
      | true ↦ (omega (arith, sum, rest.0, most.0), (most.1, rest.1))
      | false ↦ (omega arith, tt)
    ]

filter_total : (p : Take → Bool) (takes : List Take) → total_of (filter p takes) ≤ total_of takes
filter_total p [] = omega arith
filter_total p (t ∷ ts) =
    let more = filter_total p ts in
    let all = sum_by-cons (λ (u : Take). u.shares) t ts in
    let kept = sum_by-cons (λ (u : Take). u.shares) t (filter p ts) in
    elim (p t) as (λ b. total_of (cond b (t ∷ filter p ts) (filter p ts)) ≤ total_of (t ∷ ts))
    [ true ↦ omega (arith, more, all, kept) | false ↦ omega (arith, more, all) ]

pub takes_within : (taker : Priced) (others : List Priced) → (total_of (takes_of taker others) ≤ taker.row.leaves) × AllByRecursion IsWithin (takes_of taker others)
unfolding takes_of
takes_within taker others =
    let takes : List Take = walk taker taker.row.leaves (in_priority others) in
    let within = walk_within taker taker.row.leaves (in_priority others) in
    let less = filter_total (λ take. nat_lt 0 take.shares) takes in
    elim (stands taker.row takes) as (λ b. (total_of (cond b (filter (λ take. nat_lt 0 take.shares) takes) []) ≤ taker.row.leaves) × AllByRecursion IsWithin (cond b (filter (λ take. nat_lt 0 take.shares) takes) []))
    [ true ↦ (omega (arith, less, within.0), all_filter IsWithin (λ take. nat_lt 0 take.shares) takes within.1) | false ↦ (omega arith, tt) ]

-- ---- the shares taken from one row, by its entry and by its order

abbrev pub taken_by : ℕ → List Take → ℕ
taken_by k takes = sum_by (λ take. cond (take.contra.row.order == k) take.shares 0) takes

pub taken_cons : (k : ℕ) (t : Take) (ts : List Take) → taken_by k (t ∷ ts) ≡ cond (t.contra.row.order == k) t.shares 0 + taken_by k ts
taken_cons k t ts = sum_by-cons (λ (u : Take). cond (u.contra.row.order == k) u.shares 0) t ts

pub none_taken : (k : ℕ) (takes : List Take) → AllByRecursion (λ t. t.contra.row.order ≡ k → ⊥) takes → taken_by k takes ≡ 0
none_taken k [] a = refl
none_taken k (t ∷ ts) a =
    let here : cond (t.contra.row.order == k) t.shares 0 ≡ 0 = (let e : (t.contra.row.order == k) ≡ false = ne_eqb _ _ a.0 in rw e refl) in
    let more = none_taken k ts a.1 in
    let all = taken_cons k t ts in
    omega (arith, here, more, all)

-- a take is from this row, and at most its shares, or from another
abbrev pub Fits : Row → Take → Type 0
Fits x t = ((t.contra.row.entry ≡ x.entry) × (t.contra.row.order ≡ x.order) × (t.shares ≤ x.leaves)) ⊎ AreDifferent x t.contra.row

pub shares_found : (x : Priced) (takes : List Take) → AllByRecursion (Fits x.row) takes → TakesDiffer takes → (shares_of takes x ≡ taken_by x.row.order takes) × (shares_of takes x ≤ x.row.leaves)
unfolding shares_of
shares_found x [] f d = (refl, omega arith)
shares_found x (t ∷ ts) f d =
    elim f.0 [
      | inl same ↦
          let entry : (t.contra.row.entry == x.row.entry) ≡ true = eq-eqb _ _ same.0 in
          let order : (t.contra.row.order == x.row.order) ≡ true = eq-eqb _ _ same.1 in
          let rest = none_taken x.row.order ts (all_weaken (λ u. AreDifferent t.contra.row u.contra.row) (λ u. u.contra.row.order ≡ x.row.order → ⊥) (λ u a e. a.order (same.1 ∙ sym e)) ts d.0) in
          let all = taken_cons x.row.order t ts in
          let here : cond (t.contra.row.order == x.row.order) t.shares 0 ≡ t.shares = rw order refl in
          rw entry (omega (arith, rest, all, here), same.2)
      | inr other ↦
          let entry : (t.contra.row.entry == x.row.entry) ≡ false = ne_eqb _ _ (λ e. other.entry (sym e)) in
          let order : (t.contra.row.order == x.row.order) ≡ false = ne_eqb _ _ (λ e. other.order (sym e)) in
          let more = shares_found x ts f.1 d.1 in
          let all = taken_cons x.row.order t ts in
          let here : cond (t.contra.row.order == x.row.order) t.shares 0 ≡ 0 = rw order refl in
          rw entry (omega (arith, more.0, all, here), more.1)
    ]
