-- What becomes of a row that enters.
use Rattle.std.proofs.Common.{◌≡◌, ℕ, ◌+◌, ◌-◌, ◌<◌, ◌≤◌, Bool, true, false, cond, List, [], ◌∷◌, ◌++◌, length, ap, ◌∙◌, subst, arith}
use Rattle.venue_words.specs.declared.price.Best.{Best}
use Rattle.venue_words.specs.declared.price.Side.TheVariants.{Buy, Sell}
use Rattle.venue_words.specs.declared.row.Row.{Row}
use Rattle.venue_words.specs.declared.row.Priced.{Priced}
use Rattle.eager_meaning.specs.declared.trade.Fill.{Fill}
use Rattle.eager_meaning.specs.Entering.{entered}
use Rattle.eager_meaning.specs.Matching.{row_after, rows_after, unfilled, takes_of, fills_of}
use Rattle.eager_meaning.specs.Walk.{total_of}
use Rattle.peg_groups.specs.Side.{SideState, priced_at}
use Rattle.match_core.specs.SidesView.{AreSides}
use Rattle.match_core.specs.Sweeping.{one_if_left}
use Rattle.match_core.proofs.Fewer.{length_left}
use Rattle.match_core.proofs.SideRows.{entered_buy, entered_sell}

-- what rests of a taker
abbrev pub own_with : Bool → ℕ → Priced → List Priced → List Priced
own_with immediate n t own = cond immediate own (own ++ unfilled (row_after n t ∷ []))

pub own_entered : (t u : Priced) (immediate : Bool) (n : ℕ) (own others rows : List Priced) → u ≡ t → n ≡ total_of (takes_of u others) → rows ≡ own_with immediate n t own → rows ≡ (entered t immediate own others).own
unfolding entered
own_entered t u immediate n own others rows same e d = d ∙ ap (λ (m : ℕ). own_with immediate m t own) (e ∙ ap (λ (x : Priced). total_of (takes_of x others)) same)

pub others_entered : (t u : Priced) (immediate : Bool) (own others rows : List Priced) → u ≡ t → rows ≡ rows_after (takes_of u others) others → rows ≡ (entered t immediate own others).others
unfolding entered
others_entered t u immediate own others rows same d = d ∙ ap (λ (x : Priced). rows_after (takes_of x others) others) same

pub fills_entered : (t u : Priced) (immediate : Bool) (own others : List Priced) (before after : List Fill) → u ≡ t → before ≡ [] → after ≡ before ++ fills_of u (takes_of u others) → after ≡ (entered t immediate own others).fills
unfolding entered
fills_entered t u immediate own others before after same none d = d ∙ ap (λ (fs : List Fill). fs ++ fills_of u (takes_of u others)) none ∙ ap (λ (x : Priced). fills_of x (takes_of x others)) same

own_few : (immediate : Bool) (n : ℕ) (t : Priced) (own : List Priced) → length (own_with immediate n t own) ≤ length own + one_if_left (t.row.leaves - n)
own_few true n t own = omega arith
own_few false n t own = let h = length_left n t own in omega (arith, h)

pub few_entered : (t u : Priced) (immediate : Bool) (n others1 fills1 others : ℕ) (own rows : List Priced) (before : List Fill) → u ≡ t → before ≡ [] → rows ≡ own_with immediate n t own → fills1 + (others1 + one_if_left (u.row.leaves - n)) ≤ length before + (others + 1) → fills1 + (length rows + others1) ≤ length own + others + 1
few_entered t u immediate n others1 fills1 others own rows before same none e h =
    let a = own_few immediate n t own in
    let b = ap length e in
    let d = ap length none in
    let k = subst (λ (x : Priced). fills1 + (others1 + one_if_left (x.row.leaves - n)) ≤ length before + (others + 1)) same h in
    omega (arith, a, b, d, k)

-- both sides after a buy, or a sell, entered
pub sides_buy : (latest : ℕ) (best : Best) (row : Row) (immediate : Bool) (buys sells buys1 sells1 : SideState) → row.key.side ≡ Buy → latest < row.entry → AreSides best latest buys sells → buys1.rows ≡ (entered (priced_at best row) immediate buys.rows sells.rows).own → sells1.rows ≡ (entered (priced_at best row) immediate buys.rows sells.rows).others → buys1.best ≡ buys.best → sells1.best ≡ sells.best → buys1.event ≡ buys.event → sells1.event ≡ sells.event → AreSides best row.entry buys1 sells1
sides_buy latest best row immediate buys sells buys1 sells1 s h a e d b1 b2 e1 e2 = record {
  rows = rw (e, d) (entered_buy latest best row immediate buys.rows sells.rows s h a.rows);
  buys_by = record { best_is = b1 ∙ a.buys_by.best_is; event = omega (arith, e1, h, a.buys_by.event) };
  sells_by = record { best_is = b2 ∙ a.sells_by.best_is; event = omega (arith, e2, h, a.sells_by.event) };
}

pub sides_sell : (latest : ℕ) (best : Best) (row : Row) (immediate : Bool) (buys sells buys1 sells1 : SideState) → row.key.side ≡ Sell → latest < row.entry → AreSides best latest buys sells → sells1.rows ≡ (entered (priced_at best row) immediate sells.rows buys.rows).own → buys1.rows ≡ (entered (priced_at best row) immediate sells.rows buys.rows).others → buys1.best ≡ buys.best → sells1.best ≡ sells.best → buys1.event ≡ buys.event → sells1.event ≡ sells.event → AreSides best row.entry buys1 sells1
sides_sell latest best row immediate buys sells buys1 sells1 s h a d e b1 b2 e1 e2 = record {
  rows = rw (e, d) (entered_sell latest best row immediate buys.rows sells.rows s h a.rows);
  buys_by = record { best_is = b1 ∙ a.buys_by.best_is; event = omega (arith, e1, h, a.buys_by.event) };
  sells_by = record { best_is = b2 ∙ a.sells_by.best_is; event = omega (arith, e2, h, a.sells_by.event) };
}
