-- Two sweeps are a recheck, behind earlier trades.
use Rattle.std.proofs.Common.{◌≡◌, ℕ, zero, suc, ◌+◌, ◌*◌, ◌≤◌, true, false, cond, List, [], ◌∷◌, ◌++◌, length, refl, ap, sym, ◌∙◌, subst, arith, append-nil, append_assoc, length-append}
use Rattle.std.proofs.Math.Nat.{mul-suc, mul-zero}
use Rattle.venue_words.specs.declared.row.Priced.{Priced}
use Rattle.venue_words.specs.Priority.{in_priority}
use Rattle.eager_meaning.specs.declared.trade.Fill.{Fill}
use Rattle.eager_meaning.specs.Matching.{takes_of, fills_of}
use Rattle.eager_meaning.specs.Recheck.{Sides, meet, crosses_any, sweep, recheck}
use Rattle.eager_meaning.specs.Work.{examined_by, examined_in_sweep, examined_in_recheck}

-- the same sides, with earlier trades
abbrev prefixed : List Fill → Sides → Sides
prefixed pre sides = record { own = sides.own; others = sides.others; fills = pre ++ sides.fills }

meet_prefixed : (pre : List Fill) (x : Priced) (sides : Sides) → meet x (prefixed pre sides) ≡ prefixed pre (meet x sides)
unfolding meet
meet_prefixed pre x sides = ap (λ (fills : List Fill). record { own = (meet x sides).own; others = (meet x sides).others; fills = fills }) (append_assoc pre sides.fills (fills_of x (takes_of x sides.others)))

sweep_prefixed : (pre : List Fill) (xs : List Priced) (sides : Sides) → sweep xs (prefixed pre sides) ≡ prefixed pre (sweep xs sides)
unfolding sweep
sweep_prefixed pre [] sides = refl
sweep_prefixed pre (x ∷ xs) sides =
    elim (crosses_any x sides.others) as (λ b. cond b (sweep xs (meet x (prefixed pre sides))) (prefixed pre sides) ≡ prefixed pre (cond b (sweep xs (meet x sides)) sides)) [
      | true ↦ ap (sweep xs) (meet_prefixed pre x sides) ∙ sweep_prefixed pre xs (meet x sides)
      | false ↦ refl
    ]

work_prefixed : (pre : List Fill) (xs : List Priced) (sides : Sides) → examined_in_sweep xs (prefixed pre sides) ≡ examined_in_sweep xs sides
work_prefixed pre [] sides = refl
work_prefixed pre (x ∷ xs) sides =
    elim (crosses_any x sides.others) as (λ b. examined_by x sides.others + cond b (examined_in_sweep xs (meet x (prefixed pre sides))) 0 ≡ examined_by x sides.others + cond b (examined_in_sweep xs (meet x sides)) 0) [
      | true ↦ ap (λ (n : ℕ). examined_by x sides.others + n) (ap (examined_in_sweep xs) (meet_prefixed pre x sides) ∙ work_prefixed pre xs (meet x sides))
      | false ↦ refl
    ]

abbrev begin : List Priced → List Priced → List Fill → Sides
begin own others fills = record { own = own; others = others; fills = fills }

abbrev first_of : List Priced → List Priced → Sides
first_of buys sells = sweep (in_priority buys) (begin buys sells [])

began : (fills : List Fill) (own others : List Priced) → begin own others fills ≡ prefixed fills (begin own others [])
began fills own others = ap (begin own others) (sym (append-nil fills))

-- what two sweeps leave, as parts of the recheck
pub record IsRechecked (fills0 : List Fill) (buys sells own others : List Priced) (fills : List Fill) : Type 0 where
  pub buys_are : others ≡ (recheck buys sells).buys
  pub sells_are : own ≡ (recheck buys sells).sells
  pub fills_are : fills ≡ fills0 ++ (recheck buys sells).fills

first_sweep : (fills0 fills1 : List Fill) (buys sells own1 others1 : List Priced) → begin own1 others1 fills1 ≡ sweep (in_priority buys) (begin buys sells fills0) → begin own1 others1 fills1 ≡ prefixed fills0 (first_of buys sells)
first_sweep fills0 fills1 buys sells own1 others1 e = e ∙ ap (sweep (in_priority buys)) (began fills0 buys sells) ∙ sweep_prefixed fills0 (in_priority buys) (begin buys sells [])

-- the second sweep begins where the first one ended
turned_round : (fills0 fills1 : List Fill) (buys sells own1 others1 : List Priced) → begin own1 others1 fills1 ≡ prefixed fills0 (first_of buys sells) → begin others1 own1 fills1 ≡ prefixed fills0 (begin (first_of buys sells).others (first_of buys sells).own (first_of buys sells).fills)
turned_round fills0 fills1 buys sells own1 others1 e = ap (λ (sides : Sides). begin sides.others sides.own sides.fills) e

pub rechecked : (fills0 fills1 fills2 : List Fill) (buys sells own1 others1 own2 others2 : List Priced) → begin own1 others1 fills1 ≡ sweep (in_priority buys) (begin buys sells fills0) → begin own2 others2 fills2 ≡ sweep (in_priority others1) (begin others1 own1 fills1) → IsRechecked fills0 buys sells own2 others2 fills2
unfolding recheck
rechecked fills0 fills1 fills2 buys sells own1 others1 own2 others2 e d =
    let first = first_of buys sells in
    let a = first_sweep fills0 fills1 buys sells own1 others1 e in
    let order : others1 ≡ first.others = ap (λ (sides : Sides). sides.others) a in
    let all : begin own2 others2 fills2 ≡ prefixed fills0 (sweep (in_priority first.others) (begin first.others first.own first.fills)) =
    d
    ∙ ap (λ (xs : List Priced). sweep (in_priority xs) (begin others1 own1 fills1)) order
    ∙ ap (sweep (in_priority first.others)) (turned_round fills0 fills1 buys sells own1 others1 a)
    ∙ sweep_prefixed fills0 (in_priority first.others) (begin first.others first.own first.fills) in
    record {
      buys_are = ap (λ (sides : Sides). sides.others) all;
      sells_are = ap (λ (sides : Sides). sides.own) all;
      fills_are = ap (λ (sides : Sides). sides.fills) all;
    }

pub work_of_recheck : (fills0 fills1 : List Fill) (buys sells own1 others1 : List Priced) → begin own1 others1 fills1 ≡ sweep (in_priority buys) (begin buys sells fills0) → examined_in_sweep (in_priority buys) (begin buys sells fills0) + examined_in_sweep (in_priority others1) (begin others1 own1 fills1) ≡ examined_in_recheck buys sells
work_of_recheck fills0 fills1 buys sells own1 others1 e =
    let first = first_of buys sells in
    let a = first_sweep fills0 fills1 buys sells own1 others1 e in
    let order : others1 ≡ first.others = ap (λ (sides : Sides). sides.others) a in
    let one = ap (examined_in_sweep (in_priority buys)) (began fills0 buys sells) ∙ work_prefixed fills0 (in_priority buys) (begin buys sells []) in
    let two = ap (λ (xs : List Priced). examined_in_sweep (in_priority xs) (begin others1 own1 fills1)) order ∙ ap (examined_in_sweep (in_priority first.others)) (turned_round fills0 fills1 buys sells own1 others1 a) ∙ work_prefixed fills0 (in_priority first.others) (begin first.others first.own first.fills) in
    rw (one, two) refl

mul_plus : (a m n : ℕ) → a * (m + n) ≡ a * m + a * n
mul_plus a zero n = omega (arith, mul-zero a)
mul_plus a (suc m) n = let h = mul_plus a m n in let e : suc m + n ≡ suc (m + n) = omega arith in rw (e, mul-suc a (m + n), mul-suc a m, h) (omega arith)

plus_mul : (a b m : ℕ) → (a + b) * m ≡ a * m + b * m
plus_mul a b zero = omega (arith, mul-zero (a + b), mul-zero a, mul-zero b)
plus_mul a b (suc m) = let h = plus_mul a b m in omega (arith, h, mul-suc (a + b) m, mul-suc a m, mul-suc b m)

two_costs : (c d f m n s0 s1 s2 : ℕ) → d + f ≤ c → s1 ≤ s0 + c * m + d → s2 ≤ s1 + c * n + f → s2 ≤ s0 + c * (m + n + 1)
two_costs c d f m n s0 s1 s2 e h k =
    let a = mul_plus c m n in
    let b = mul_plus c (m + n) 1 in
    let g : c * 1 ≡ c = omega (arith, mul-suc c 0, mul-zero c) in
    omega (arith, a, b, g, e, h, k)

-- the steps of two sweeps
pub cost_of_two : (w v m n e s0 s1 s2 : ℕ) → m + n ≡ e → s1 ≤ s0 + 1536 * (w + v + 2) * m + 1024 * (w + 1) → s2 ≤ s1 + 1536 * (w + v + 2) * n + 1024 * (v + 1) → s2 ≤ s0 + 1536 * (w + v + 2) * (e + 1)
cost_of_two w v m n e s0 s1 s2 sum h k = subst (λ (t : ℕ). s2 ≤ s0 + 1536 * (w + v + 2) * (t + 1)) sum (two_costs (1536 * (w + v + 2)) (1024 * (w + 1)) (1024 * (v + 1)) m n s0 s1 s2 (omega arith) h k)

turn_cost : (a b d n rest s0 s1 s2 : ℕ) → d + 512 ≤ a → 1 ≤ n → s1 ≤ s0 + d → s2 ≤ s1 + b * n → s2 + 512 + (a + b) * rest ≤ s0 + (a + b) * (n + rest)
turn_cost a b d zero rest s0 s1 s2 e one h k = absurd (omega (arith, one))
turn_cost a b d (suc n) rest s0 s1 s2 e one h k =
    let f = mul_plus (a + b) (suc n) rest in
    let g = plus_mul a b (suc n) in
    omega (arith, f, g, mul-suc a n, e, h, k)

-- the steps of one turn, with that of putting the taker back
cost_of_turn : (w v n rest all s0 s1 s2 : ℕ) → 1 ≤ n → all ≡ n + rest → s1 ≤ s0 + 1024 * (w + 1) → s2 ≤ s1 + 1536 * (v + 1) * n → s2 + 512 + 1536 * (w + v + 2) * rest ≤ s0 + 1536 * (w + v + 2) * all
cost_of_turn w v n rest all s0 s1 s2 one sum h k =
    let c : 1536 * (w + v + 2) ≡ 1536 * (w + 1) + 1536 * (v + 1) = omega arith in
    rw (sum, c) (turn_cost (1536 * (w + 1)) (1536 * (v + 1)) (1024 * (w + 1)) n rest s0 s1 s2 (omega arith) one h k)

count_one : (a b s0 s2 t0 t1 : ℕ) → t1 ≡ t0 + 1 → s2 + 512 + a ≤ s0 + b → s2 + 512 * t1 + a ≤ s0 + 512 * t0 + b
count_one a b s0 s2 t0 t1 e h = omega (arith, e, h)

count_last : (a b d s0 s2 t0 t1 : ℕ) → t1 ≡ t0 + 1 → s2 + 512 + a ≤ s0 + b → s2 + 512 * t1 ≤ s0 + 512 * t0 + b + d
count_last a b d s0 s2 t0 t1 e h = omega (arith, e, h)

-- one taker more is set aside, and the sweep goes on
pub turn_most : (w v n rest all s0 s1 s2 t0 t1 : ℕ) → 1 ≤ n → all ≡ n + rest → t1 ≡ t0 + 1 → s1 ≤ s0 + 1024 * (w + 1) → s2 ≤ s1 + 1536 * (v + 1) * n → s2 + 512 * t1 + 1536 * (w + v + 2) * rest ≤ s0 + 512 * t0 + 1536 * (w + v + 2) * all
turn_most w v n rest all s0 s1 s2 t0 t1 one sum e h k = count_one (1536 * (w + v + 2) * rest) (1536 * (w + v + 2) * all) s0 s2 t0 t1 e (cost_of_turn w v n rest all s0 s1 s2 one sum h k)

-- or it is done
pub turn_done : (w v n all s0 s1 s2 t0 t1 : ℕ) → 1 ≤ n → all ≡ n + 0 → t1 ≡ t0 + 1 → s1 ≤ s0 + 1024 * (w + 1) → s2 ≤ s1 + 1536 * (v + 1) * n → s2 + 512 * t1 ≤ s0 + 512 * t0 + 1536 * (w + v + 2) * all + 1024 * (w + 1)
turn_done w v n all s0 s1 s2 t0 t1 one sum e h k = count_last (1536 * (w + v + 2) * 0) (1536 * (w + v + 2) * all) (1024 * (w + 1)) s0 s2 t0 t1 e (cost_of_turn w v n 0 all s0 s1 s2 one sum h k)

-- the second sweep is told with the widths the other way round
pub two_widths : (w v n s1 s2 : ℕ) → s2 ≤ s1 + 1536 * (v + w + 2) * n + 1024 * (v + 1) → s2 ≤ s1 + 1536 * (w + v + 2) * n + 1024 * (v + 1)
two_widths w v n s1 s2 h = let e : v + w ≡ w + v = omega arith in rw e at h

pub few_of_two : (before fills after : List Fill) (own others own1 others1 own2 others2 f1 : ℕ) → after ≡ before ++ fills → f1 + (own1 + others1) ≤ length before + (own + others) → length after + (own2 + others2) ≤ f1 + (others1 + own1) → length fills + (others2 + own2) ≤ own + others
few_of_two before fills after own others own1 others1 own2 others2 f1 e h k = let l = ap length e ∙ length-append before fills in omega (arith, l, h, k)
