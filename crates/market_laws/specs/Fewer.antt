-- Trades are at most as many as the rows that they empty, but for the last one of an order that enters.
use Rattle.std.proofs.Common.{◌≡◌, ℕ, ◌+◌, ◌-◌, ◌<◌, ◌≤◌, Bool, true, false, cond, ◌&&◌, List, [], ◌∷◌, ◌++◌, length, Some, None, refl, ap, sym, ◌∙◌, inl, inr, arith}
use Rattle.std.specs.Prelude.{◌⊎◌, filter, min, nat_lt, nat_le, ◌==◌, unwrap_or}
use Rattle.std.specs.List.{AllByRecursion}
use Rattle.std.proofs.lemmas.Bool.{ne_eqb, eq-eqb}
use Rattle.std.proofs.lemmas.Bool.Decides.{nat_tests}
use Rattle.std.proofs.lemmas.List.{length-append, append-nil}
use Rattle.std.proofs.lemmas.List.Sums.{sum_by-cons}
use Rattle.venue_words.specs.declared.row.Row.{Row}
use Rattle.venue_words.specs.declared.row.Priced.{Priced}
use Rattle.venue_words.specs.ListLaws.{all_weaken, all_both, all_append}
use Rattle.venue_words.specs.Price.{crosses}
use Rattle.venue_words.specs.Priority.{in_priority}
use Rattle.venue_words.specs.Rows.{IsAbsent}
use Rattle.eager_meaning.specs.declared.trade.Take.{Take}
use Rattle.eager_meaning.specs.Floor.{floor}
use Rattle.eager_meaning.specs.Walk.{walk, may_fill, taken_from, least_fill, stands, total_of}
use Rattle.eager_meaning.specs.Matching.{takes_of, fills_of, row_after, shares_of, unfilled, rows_after}
use Rattle.eager_meaning.specs.Recheck.{Sides, Matched, meet, crosses_any, sweep, recheck}
use Rattle.eager_meaning.specs.Entering.{Entered, entered}
use Rattle.market_laws.specs.Equalities.{same_number}
use Rattle.market_laws.specs.Apart.{EnteredApart, EntriesDiffer, AreApart, TakesDiffer, IsSpared, HasLeaves, AreResting, apart_back, apart_kept, resting_after}
use Rattle.market_laws.specs.Pairwise.{ToEach, to_each_after, across_after, across_back, pairwise_append, pairwise_in_priority, takes_pairwise}
use Rattle.market_laws.specs.WalkLaws.{in_priority_all, takes_all}

-- ---- rows that trades empty

-- the rows have one of this entry, with at most these shares left
abbrev pub HasRow : ℕ → ℕ → List Priced → Type 0
HasRow entry most [] = ⊥
HasRow entry most (y ∷ ys) = ((y.row.entry ≡ entry) × (y.row.leaves ≤ most)) ⊎ HasRow entry most ys

-- a row, or one of its entry that has no more shares left, is among these
abbrev pub IsAmong : List Priced → Priced → Type 0
IsAmong rows x = HasRow x.row.entry x.row.leaves rows

pub each_among : (rows : List Priced) → AllByRecursion (IsAmong rows) rows
each_among [] = tt
each_among (x ∷ xs) = (inl (refl, omega arith), all_weaken (IsAmong xs) (IsAmong (x ∷ xs)) (λ y a. inr a) xs (each_among xs))

-- 1 where a test holds, and else 0
abbrev one_if : Bool → ℕ
one_if b = cond b 1 0

-- whether a row has shares left after takes
abbrev is_kept : List Take → Priced → Bool
is_kept takes x = nat_lt 0 (x.row.leaves - shares_of takes x)

kept_cons : (takes : List Take) (x : Priced) (xs : List Priced) → length (rows_after takes (x ∷ xs)) ≡ one_if (is_kept takes x) + length (rows_after takes xs)
unfolding rows_after row_after
kept_cons takes x xs =
    let rest : List Priced = rows_after takes xs in
    elim (is_kept takes x) as (λ b. length (cond b (row_after (shares_of takes x) x ∷ rest) rest) ≡ one_if b + length rest) [ true ↦ omega arith | false ↦ omega arith ]

one_most : (b : Bool) → one_if b ≤ 1
one_most true = omega arith
one_most false = omega arith

pub no_more_rows : (takes : List Take) (rows : List Priced) → length (rows_after takes rows) ≤ length rows
unfolding rows_after
no_more_rows takes [] = omega arith
no_more_rows takes (x ∷ xs) =
    let here = kept_cons takes x xs in
    let one = one_most (is_kept takes x) in
    let more = no_more_rows takes xs in
    omega (arith, here, one, more)

spared : (entry : ℕ) (takes : List Take) → IsSpared entry takes → (x : Priced) → x.row.entry ≡ entry → shares_of takes x ≡ 0
unfolding shares_of
spared entry [] a x e = refl
spared entry (t ∷ ts) a x e =
    let other : (t.contra.row.entry == x.row.entry) ≡ false = ne_eqb _ _ (λ s. a.0 (s ∙ e)) in
    rw other (spared entry ts a.1 x e)

first_taken : (t : Take) (ts : List Take) (x : Priced) → t.contra.row.entry ≡ x.row.entry → shares_of (t ∷ ts) x ≡ t.shares
unfolding shares_of
first_taken t ts x e = let same : (t.contra.row.entry == x.row.entry) ≡ true = eq-eqb _ _ e in rw same refl

later_taken : (t : Take) (ts : List Take) (x : Priced) → (t.contra.row.entry == x.row.entry) ≡ false → shares_of (t ∷ ts) x ≡ shares_of ts x
unfolding shares_of
later_taken t ts x e = rw e refl

kept_whole : (n s : ℕ) → 0 < n → s ≡ 0 → one_if (nat_lt 0 (n - s)) ≡ 1
kept_whole n s l e = let is : nat_lt 0 (n - s) ≡ true = grind (arith, nat_tests) in rw is refl

kept_none : (n s : ℕ) → n ≤ s → one_if (nat_lt 0 (n - s)) ≡ 0
kept_none n s l = let is : nat_lt 0 (n - s) ≡ false = grind (arith, nat_tests) in rw is refl

-- one more take keeps no row that was not kept without it
kept_less : (t : Take) (ts : List Take) (x : Priced) → IsSpared t.contra.row.entry ts → HasLeaves x → one_if (is_kept (t ∷ ts) x) ≤ one_if (is_kept ts x)
kept_less t ts x d l =
    (elim (t.contra.row.entry == x.row.entry) as (λ b. (t.contra.row.entry == x.row.entry) ≡ b → one_if (is_kept (t ∷ ts) x) ≤ one_if (is_kept ts x)) [
      | true ↦ λ e.
          let whole = kept_whole x.row.leaves (shares_of ts x) l (spared t.contra.row.entry ts d x (sym (same_number _ _ e))) in
          let one = one_most (is_kept (t ∷ ts) x) in
          omega (arith, whole, one)
      | false ↦ λ e. rw (later_taken t ts x e) (omega arith)
    ]) refl

rows_less : (t : Take) (ts : List Take) (rows : List Priced) → IsSpared t.contra.row.entry ts → AllByRecursion HasLeaves rows → length (rows_after (t ∷ ts) rows) ≤ length (rows_after ts rows)
unfolding rows_after
rows_less t ts [] d l = omega arith
rows_less t ts (x ∷ xs) d l =
    let one = kept_less t ts x d l.0 in
    let more = rows_less t ts xs d l.1 in
    let before = kept_cons ts x xs in
    let after = kept_cons (t ∷ ts) x xs in
    omega (arith, one, more, before, after)

-- a take of all the shares of a row leaves one row less
one_less : (t : Take) (ts : List Take) (rows : List Priced) → IsSpared t.contra.row.entry ts → AllByRecursion HasLeaves rows → HasRow t.contra.row.entry t.shares rows → length (rows_after (t ∷ ts) rows) + 1 ≤ length (rows_after ts rows)
one_less t ts [] d l has = absurd has
one_less t ts (x ∷ xs) d l has =
    let before = kept_cons ts x xs in
    let after = kept_cons (t ∷ ts) x xs in
    elim has [
      | inl here ↦
          let whole = kept_whole x.row.leaves (shares_of ts x) l.0 (spared t.contra.row.entry ts d x here.0) in
          let taken = first_taken t ts x (sym here.0) in
          let most = here.1 in
          let none = kept_none x.row.leaves (shares_of (t ∷ ts) x) (omega (arith, taken, most)) in
          let more = rows_less t ts xs d l.1 in
          omega (arith, before, after, whole, none, more)
      | inr there ↦
          let one = kept_less t ts x d l.0 in
          let more = one_less t ts xs d l.1 there in
          omega (arith, before, after, one, more)
    ]

-- how many takes are of all that their contras have left
abbrev pub emptied_by : List Take → ℕ
emptied_by [] = 0
emptied_by (t ∷ ts) = one_if (nat_le t.contra.row.leaves t.shares) + emptied_by ts

all_of : (n s : ℕ) → nat_le n s ≡ true → n ≤ s
all_of n s e = grind (arith, nat_tests)

not_all_of : (n s : ℕ) → nat_le n s ≡ false → s < n
not_all_of n s e = grind (arith, nat_tests)

has_more : (entry n m : ℕ) (rows : List Priced) → n ≤ m → HasRow entry n rows → HasRow entry m rows
has_more entry n m [] l has = has
has_more entry n m (x ∷ xs) l has = elim has [ inl here ↦ inl (here.0, (let most = here.1 in omega arith)) | inr there ↦ inr (has_more entry n m xs l there) ]

-- each emptied row is gone
pub rows_emptied : (takes : List Take) (rows : List Priced) → TakesDiffer takes → AllByRecursion (λ t. IsAmong rows t.contra) takes → AllByRecursion HasLeaves rows → length (rows_after takes rows) + emptied_by takes ≤ length rows
rows_emptied [] rows d a l = let less = no_more_rows [] rows in omega (arith, less)
rows_emptied (t ∷ ts) rows d a l =
    let more = rows_emptied ts rows d.1 a.1 l in
    (elim (nat_le t.contra.row.leaves t.shares) as (λ b. nat_le t.contra.row.leaves t.shares ≡ b → length (rows_after (t ∷ ts) rows) + (one_if b + emptied_by ts) ≤ length rows) [
      | true ↦ λ e. let one = one_less t ts rows d.0 l (has_more _ _ _ rows (all_of _ _ e) a.0) in omega (arith, one, more)
      | false ↦ λ e. let less = rows_less t ts rows d.0 l in omega (arith, less, more)
    ]) refl

-- ---- takes of a walk

-- nothing is taken, or all that one of the two has left
all_or_none : (taker : Row) (left : ℕ) (contra : Row) → (taken_from taker left contra ≡ 0) ⊎ (taken_from taker left contra ≡ min left contra.leaves)
unfolding taken_from may_fill
all_or_none taker left contra =
    elim (nat_le (floor contra) (min left contra.leaves) && nat_le (least_fill taker left) (min left contra.leaves)) as (λ b. (unwrap_or (cond b (Some (min left contra.leaves)) None) 0 ≡ 0) ⊎ (unwrap_or (cond b (Some (min left contra.leaves)) None) 0 ≡ min left contra.leaves))
    [ true ↦ inr refl | false ↦ inl refl ]

-- the takes of a walk that are of some shares
abbrev some_taken : List Take → List Take
some_taken takes = filter (λ take. nat_lt 0 take.shares) takes

none_crossed : (b : Bool) → (b && nat_lt 0 0) ≡ false
none_crossed true = refl
none_crossed false = refl

walk_ends : (taker : Priced) (left : ℕ) (contras : List Priced) → left ≡ 0 → walk taker left contras ≡ []
unfolding walk
walk_ends taker left [] e = refl
walk_ends taker left (c ∷ cs) e = rw (e, none_crossed (crosses taker c)) refl

-- each take but the last one empties its contra, and so does the last one where the taker has shares left
few_taken : (taker : Priced) (left : ℕ) (contras : List Priced) → length (some_taken (walk taker left contras)) + min 1 (left - total_of (some_taken (walk taker left contras))) ≤ emptied_by (some_taken (walk taker left contras)) + 1
unfolding walk
few_taken taker left [] = omega arith
few_taken taker left (c ∷ cs) =
    let shares : ℕ = taken_from taker.row left c.row in
    let take : Take = record { contra = c; shares = shares } in
    let more : List Take = walk taker (left - shares) cs in
    let rest : List Take = some_taken more in
    let fewer = few_taken taker (left - shares) cs in
    let P : List Take → Type 0 = λ takes. length takes + min 1 (left - total_of takes) ≤ emptied_by takes + 1 in
    let sum = sum_by-cons (λ (t : Take). t.shares) take rest in
    let which = all_or_none taker.row left c.row in
    let taken : P (some_taken (take ∷ more)) =
    (elim (nat_lt 0 shares) as (λ b. nat_lt 0 shares ≡ b → P (cond b (take ∷ rest) rest)) [
      | true ↦ λ e.
          (elim (nat_le c.row.leaves shares) as (λ b. nat_le c.row.leaves shares ≡ b → length (take ∷ rest) + min 1 (left - total_of (take ∷ rest)) ≤ (one_if b + emptied_by rest) + 1) [
            | true ↦ λ f. omega (arith, fewer, sum)
            | false ↦ λ f.
                let part = not_all_of _ _ f in
                let some = all_of 1 shares (grind (arith, nat_tests)) in
                let all : left ≤ shares = elim which [ inl none ↦ omega (arith, some, none) | inr most ↦ omega (arith, part, most) ] in
                let ends : rest ≡ [] = ap (λ (takes : List Take). some_taken takes) (walk_ends taker (left - shares) cs (omega (arith, all))) in
                let none : length rest ≡ 0 = ap (λ (takes : List Take). length takes) ends in
                omega (arith, all, none, sum)
          ]) refl
      | false ↦ λ e.
          let none : shares ≡ 0 = grind (arith, nat_tests) in
          omega (arith, fewer, none)
    ]) refl in
    elim (crosses taker c && nat_lt 0 left) as (λ b. P (some_taken (cond b (take ∷ more) []))) [ true ↦ taken | false ↦ omega arith ]

-- what a taker takes from rows that rest: the trades and the rows left are at most as many as the rows before and one
-- more, and at most as many as the rows before where the taker has shares left
abbrev pub FewOfWalk : Type 0
FewOfWalk =
    (taker : Priced) (rows : List Priced)
    → AreResting rows
    → let takes = takes_of taker rows in
    length takes + length (rows_after takes rows) + min 1 (taker.row.leaves - total_of takes) ≤ length rows + 1

pub few_of_walk : FewOfWalk
unfolding takes_of
few_of_walk taker rows a =
    let takes : List Take = walk taker taker.row.leaves (in_priority rows) in
    let few = few_taken taker taker.row.leaves (in_priority rows) in
    let none = no_more_rows [] rows in
    let among = all_weaken (λ t. IsAmong rows t.contra × (crosses taker t.contra ≡ true)) (λ t. IsAmong rows t.contra) (λ t m. m.0) (takes_of taker rows) (takes_all (IsAmong rows) taker rows (each_among rows)) in
    let gone = rows_emptied (takes_of taker rows) rows (takes_pairwise EnteredApart apart_back taker rows a.differ) among a.leaves in
    let P : List Take → Type 0 = λ t. length t + length (rows_after t rows) + min 1 (taker.row.leaves - total_of t) ≤ length rows + 1 in
    (elim (stands taker.row takes) as (λ b. length (rows_after (cond b (some_taken takes) []) rows) + emptied_by (cond b (some_taken takes) []) ≤ length rows → P (cond b (some_taken takes) []))
    [ true ↦ λ g. omega (arith, few, g) | false ↦ λ g. omega (arith, none) ]) gone

-- ---- a recheck

fills_length : (taker : Priced) (takes : List Take) → length (fills_of taker takes) ≡ length takes
unfolding fills_of
fills_length taker [] = refl
fills_length taker (t ∷ ts) = let more = fills_length taker ts in omega arith

still_among : (takes : List Take) (u : Priced) (rows : List Priced) → IsSpared u.row.entry takes → AllByRecursion HasLeaves rows → IsAmong rows u → IsAmong (rows_after takes rows) u
unfolding rows_after row_after
still_among takes u [] d l among = among
still_among takes u (x ∷ xs) d l among =
    let rest : List Priced = rows_after takes xs in
    let next : Priced = row_after (shares_of takes x) x in
    (elim among [
      | inl here ↦
          let none = spared u.row.entry takes d x here.0 in
          let kept : is_kept takes x ≡ true = (let has = l.0 in grind (arith, nat_tests)) in
          rw kept (inl (here.0, (let most = here.1 in omega (arith, most, none))))
      | inr there ↦
          let more = still_among takes u xs d l.1 there in
          elim (is_kept takes x) as (λ b. IsAmong (cond b (next ∷ rest) rest) u) [ true ↦ inr more | false ↦ more ]
    ])

-- the trades so far and the rows of both sides
abbrev pub fills_and_rows : Sides → ℕ
fills_and_rows sides = length sides.fills + length sides.own + length sides.others

one_or_other : (n s : ℕ) → min 1 (n - s) + (one_if (nat_le n s) + 0) ≡ 1
one_or_other n s =
    (elim (nat_le n s) as (λ b. nat_le n s ≡ b → min 1 (n - s) + (one_if b + 0) ≡ 1)
    [ true ↦ λ e. let all = all_of n s e in omega (arith, all) | false ↦ λ e. let part = not_all_of n s e in omega (arith, part) ]) refl

-- one taker of a side, which is among its rows
few_of_meet : (taker : Priced) (sides : Sides) → AllByRecursion HasLeaves sides.own → IsAmong sides.own taker → AreResting sides.others → fills_and_rows (meet taker sides) ≤ fills_and_rows sides
unfolding meet
few_of_meet taker sides own among others =
    let takes : List Take = takes_of taker sides.others in
    let mine : Take = record { contra = taker; shares = total_of takes } in
    let few = few_of_walk taker sides.others others in
    let gone = rows_emptied (mine ∷ []) sides.own (tt, tt) (among, tt) own in
    let one = one_or_other taker.row.leaves (total_of takes) in
    let all = length-append sides.fills (fills_of taker takes) in
    let each = fills_length taker takes in
    omega (arith, few, gone, one, all, each)

-- each taker in turn
pub few_of_sweep : (takers : List Priced) (sides : Sides) → AreResting sides.own → AreResting sides.others → AllByRecursion (IsAmong sides.own) takers → EntriesDiffer takers → fills_and_rows (sweep takers sides) ≤ fills_and_rows sides
unfolding sweep meet
few_of_sweep [] sides own others among differ = omega arith
few_of_sweep (taker ∷ takers) sides own others among differ =
    let takes : List Take = takes_of taker sides.others in
    let mine : List Take = record { contra = taker; shares = total_of takes } ∷ [] in
    let one = few_of_meet taker sides own.leaves among.0 others in
    let kept = all_both (IsAmong sides.own) (λ u. u.row.entry ≡ taker.row.entry → ⊥) (IsAmong (rows_after mine sides.own)) (λ u a d. still_among mine u sides.own ((λ e. d (sym e)), tt) own.leaves a) takers among.1 differ.0 in
    let more = few_of_sweep takers (meet taker sides) (resting_after mine sides.own own.differ) (resting_after takes sides.others others.differ) kept differ.1 in
    elim (crosses_any taker sides.others) as (λ b. fills_and_rows (cond b (sweep takers (meet taker sides)) sides) ≤ fills_and_rows sides)
    [ true ↦ omega (arith, one, more) | false ↦ omega arith ]

-- both sides rest, and no row of one entered at the event of one of the other
pub record AreBothResting (rows facing : List Priced) : Type 0 where
  pub own : AreResting rows
  pub others : AreResting facing
  pub apart : AreApart rows facing

-- what trades leave of both sides rests
pub both_after : (ts us : List Take) (own others : List Priced) → AreBothResting own others → AreBothResting (rows_after ts own) (rows_after us others)
both_after ts us own others a =
    record {
      own = resting_after ts own a.own.differ;
      others = resting_after us others a.others.differ;
      apart = across_after EnteredApart apart_back apart_kept ts us own others a.apart;
    }

pub both_back : (own others : List Priced) → AreBothResting own others → AreBothResting others own
both_back own others a = record { own = a.others; others = a.own; apart = across_back EnteredApart apart_back own others a.apart }

-- so after each taker
pub sweep_rests : (takers : List Priced) (sides : Sides) → AreBothResting sides.own sides.others → AreBothResting (sweep takers sides).own (sweep takers sides).others
unfolding sweep meet
sweep_rests [] sides a = a
sweep_rests (taker ∷ takers) sides a =
    let takes : List Take = takes_of taker sides.others in
    let mine : List Take = record { contra = taker; shares = total_of takes } ∷ [] in
    let more = sweep_rests takers (meet taker sides) (both_after mine takes sides.own sides.others a) in
    elim (crosses_any taker sides.others) as (λ b. AreBothResting (cond b (sweep takers (meet taker sides)) sides).own (cond b (sweep takers (meet taker sides)) sides).others)
    [ true ↦ more | false ↦ a ]

-- the rows of a side in priority order are among them
takers_among : (rows : List Priced) → AllByRecursion (IsAmong rows) (in_priority rows)
takers_among rows = in_priority_all (IsAmong rows) rows (each_among rows)

-- a recheck of rows that rest leaves rows that rest, and with its trades they are at most as many as before
pub record IsRecheckOf (buys sells : List Priced) (after : Matched) : Type 0 where
  pub few : length after.fills + length after.buys + length after.sells ≤ length buys + length sells
  pub rest : AreBothResting after.buys after.sells

abbrev pub FewOfRecheck : Type 0
FewOfRecheck = (buys sells : List Priced) → AreBothResting buys sells → IsRecheckOf buys sells (recheck buys sells)

pub few_of_recheck : FewOfRecheck
unfolding recheck
few_of_recheck buys sells a =
    let before : Sides = record { own = buys; others = sells; fills = [] } in
    let half : Sides = sweep (in_priority buys) before in
    let middle : Sides = record { own = half.others; others = half.own; fills = half.fills } in
    let after : Sides = sweep (in_priority half.others) middle in
    let rests = both_back half.own half.others (sweep_rests (in_priority buys) before a) in
    let first = few_of_sweep (in_priority buys) before a.own a.others (takers_among buys) (pairwise_in_priority EnteredApart apart_back buys a.own.differ) in
    let second = few_of_sweep (in_priority half.others) middle rests.own rests.others (takers_among half.others) (pairwise_in_priority EnteredApart apart_back half.others rests.own.differ) in
    record {
      few = omega (arith, first, second);
      rest = both_back after.own after.others (sweep_rests (in_priority half.others) middle rests);
    }

-- ---- an order that enters

unfilled_one : (x : Priced) → length (unfilled (x ∷ [])) ≡ min 1 x.row.leaves
unfilled_one x =
    (elim (nat_lt 0 x.row.leaves) as (λ b. nat_lt 0 x.row.leaves ≡ b → length (cond b (x ∷ []) []) ≡ min 1 x.row.leaves)
    [ true ↦ λ e. let some = all_of 1 x.row.leaves (grind (arith, nat_tests)) in omega (arith, some) | false ↦ λ e. let none : x.row.leaves ≡ 0 = grind (arith, nat_tests) in omega (arith, none) ]) refl

-- an order of another event that enters among rows that rest leaves rows that rest, and with its trades they are at most
-- as many as before and one more
pub record IsEnteredTo (own others : List Priced) (after : Entered) : Type 0 where
  pub few : length after.fills + length after.own + length after.others ≤ length own + length others + 1
  pub rest : AreBothResting after.own after.others

abbrev pub FewOfEntered : Type 0
FewOfEntered =
    (taker : Priced) (immediate : Bool) (own others : List Priced)
    → IsAbsent taker.row.entry own
    → IsAbsent taker.row.entry others
    → AreBothResting own others
    → IsEnteredTo own others (entered taker immediate own others)

-- an order that is of another event than these rows
apart_append : (x : Priced) (own others : List Priced) → AreApart own others → IsAbsent x.row.entry others → AreApart (own ++ x ∷ []) others
apart_append x own others a d = all_append (λ y. ToEach EnteredApart y.row others) own (x ∷ []) a (d, tt)

resting_append : (x : Priced) (rows : List Priced) → HasLeaves x → IsAbsent x.row.entry rows → AreResting rows → AreResting (rows ++ x ∷ [])
resting_append x rows l d a = record { leaves = all_append HasLeaves rows (x ∷ []) a.leaves (l, tt); differ = pairwise_append EnteredApart apart_back rows x a.differ d }

own_with : (x : Priced) (own others : List Priced) → IsAbsent x.row.entry own → IsAbsent x.row.entry others → AreBothResting own others → AreBothResting (own ++ unfilled (x ∷ [])) others
own_with x own others d e a =
    (elim (nat_lt 0 x.row.leaves) as (λ b. nat_lt 0 x.row.leaves ≡ b → AreBothResting (own ++ cond b (x ∷ []) []) others) [
      | true ↦ λ f. record { own = resting_append x own (all_of 1 x.row.leaves (grind (arith, nat_tests))) d a.own; others = a.others; apart = apart_append x own others a.apart e }
      | false ↦ λ f. rw (append-nil own) a
    ]) refl

pub few_of_entered : FewOfEntered
unfolding entered row_after
few_of_entered taker immediate own others d e a =
    let takes : List Take = takes_of taker others in
    let after : Priced = row_after (total_of takes) taker in
    let left : List Priced = unfilled (after ∷ []) in
    let few = few_of_walk taker others a.others in
    let one = unfilled_one after in
    let each = fills_length taker takes in
    let joined = length-append own left in
    let kept : AreBothResting own (rows_after takes others) = record {
      own = a.own;
      others = resting_after takes others a.others.differ;
      apart = all_weaken (λ x. ToEach EnteredApart x.row others) (λ x. ToEach EnteredApart x.row (rows_after takes others)) (λ x f. to_each_after EnteredApart apart_back apart_kept x.row takes others f) own a.apart;
    } in
    let P : List Priced → Type 0 = λ rows. (length (fills_of taker takes) + length rows + length (rows_after takes others) ≤ length own + length others + 1) × AreBothResting rows (rows_after takes others) in
    let is : P (cond immediate own (own ++ left)) =
    elim immediate as (λ b. P (cond b own (own ++ left))) [
      | true ↦ (omega (arith, few, each), kept)
      | false ↦ (omega (arith, few, one, each, joined), own_with after own (rows_after takes others) d (to_each_after EnteredApart apart_back apart_kept taker.row takes others e) kept)
    ] in
    record { few = is.0; rest = is.1 }
