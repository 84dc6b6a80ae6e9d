-- One taker more has walked.
use Rattle.std.proofs.Common.{◌≡◌, ℕ, suc, ◌+◌, ◌-◌, ◌*◌, ◌<◌, ◌≤◌, nat_lt, Bool, true, false, cond, List, [], ◌∷◌, ◌++◌, map, length, refl, ap, sym, ◌∙◌, arith, append-nil, length-append}
use Rattle.std.specs.List.{AllByRecursion}
use Rattle.std.specs.Prelude.{vec_len}
use Rattle.std.specs.declared.alloc.Global.{Global}
use Rattle.std.specs.declared.vec.Vec.{Vec}
use Rattle.std.proofs.lemmas.Bool.{lt-ltb, ltb-true}
use Rattle.venue_words.specs.declared.row.Priced.{Priced}
use Rattle.venue_words.specs.Priority.{in_priority}
use Rattle.venue_words.specs.FirstRow.{IsFirst, NoneActive}
use Rattle.venue_words.specs.FirstRowLaws.{none_in_priority}
use Rattle.venue_words.specs.Rows.{IsAbsent, insert_by_entry}
use Rattle.eager_meaning.specs.declared.trade.Take.{Take}
use Rattle.eager_meaning.specs.declared.trade.Fill.{Fill}
use Rattle.eager_meaning.specs.Walk.{total_of}
use Rattle.eager_meaning.specs.Matching.{takes_of, fills_of, row_after, rows_after, unfilled, shares_of}
use Rattle.eager_meaning.specs.Recheck.{Sides, meet, crosses_any, sweep}
use Rattle.eager_meaning.specs.Work.{examined_by, examined_in_sweep}
use Rattle.peg_groups.specs.Merge.{each_inserted}
use Rattle.peg_groups.specs.Side.{taken_row}
use Rattle.peg_groups.specs.declared.side_book.Taken.{Taken}
use Rattle.match_core.specs.Aside.{AreOut, HasLeaves, put_filled, put_filled_one, taken_rows}
use Rattle.match_core.specs.Rooms.{IsClear, HasRoom}
use Rattle.match_core.specs.declared.scratch.Scratch.{Scratch}
use Rattle.match_core.specs.Sweeping.{Stage, IsStage, Turned, HasStageRoom, stage_of, sides_of, sides_at, rest_of_sweep, rest_of_work, fills_and_rows, one_if_left}
use Rattle.match_core.proofs.SetAside.{FirstOut, out_more, length_insert, rows_more}
use Rattle.match_core.proofs.Changes.{all_found}
use Rattle.match_core.proofs.Trades.{row_after_none, row_after_entry, fills_none}
use Rattle.match_core.proofs.AfterTrades.{rows_none}
use Rattle.match_core.proofs.Fewer.{length_one, after_leaves}
use Rattle.match_core.proofs.Turns.{meet_is, sweep_on, sweep_out, sweep_none, filled_more, through}

-- ---- rows after trades

unfilled_full : (rows : List Priced) → AllByRecursion HasLeaves (unfilled rows)
unfilled_full [] = tt
unfilled_full (r ∷ rows) =
    elim (nat_lt 0 r.row.leaves) as (λ b. nat_lt 0 r.row.leaves ≡ b → AllByRecursion HasLeaves (cond b (r ∷ unfilled rows) (unfilled rows))) [
      | true ↦ λ e. (ltb-true 0 r.row.leaves e, unfilled_full rows)
      | false ↦ λ e. unfilled_full rows
    ] refl

pub after_full : (takes : List Take) (rows : List Priced) → AllByRecursion HasLeaves (rows_after takes rows)
unfolding rows_after
after_full takes rows = unfilled_full (map (λ x. row_after (shares_of takes x) x) rows)

unfilled_fewer : (f : Priced → Priced) (rows : List Priced) → length (unfilled (map f rows)) ≤ length rows
unfilled_fewer f [] = omega arith
unfilled_fewer f (r ∷ rows) =
    let h = unfilled_fewer f rows in
    elim (nat_lt 0 (f r).row.leaves) as (λ b. length (cond b (f r ∷ unfilled (map f rows)) (unfilled (map f rows))) ≤ suc (length rows)) [
      | true ↦ omega (arith, h)
      | false ↦ omega (arith, h)
    ]

pub after_fewer : (takes : List Take) (rows : List Priced) → length (rows_after takes rows) ≤ length rows
unfolding rows_after
after_fewer takes rows = unfilled_fewer (λ x. row_after (shares_of takes x) x) rows

-- ---- takers that are out

out_uninsert : (tried : List Priced) (x : Priced) (rows : List Priced) → AreOut tried (insert_by_entry x rows) → AreOut tried rows × IsAbsent x.row.entry tried
out_uninsert [] x rows a = (tt, tt)
out_uninsert (y ∷ tried) x rows a =
    let b = each_inserted (λ r. r.row.entry ≡ y.row.entry → ⊥) x rows a.0 in
    let i = out_uninsert tried x rows a.2 in
    ((b.1, a.1, i.0), ((λ e. b.0 (sym e)), i.1))

-- what is known of a taker that was taken out
record IsTaker (x : Priced) (old new : Stage) : Type 0 where
  has : HasLeaves x
  full : AllByRecursion HasLeaves new.own
  out : AreOut old.tried new.own
  absent : IsAbsent x.row.entry old.tried

taker_of : (x : Priced) (old new : Stage) → IsStage old → FirstOut x old.own new.own → IsTaker x old new
taker_of x old new s f =
    let b = each_inserted HasLeaves x new.own (rw f.back s.own_full) in
    let o = out_uninsert old.tried x new.own (rw f.back s.out) in
    record { has = b.0; full = b.1; out = o.0; absent = o.1 }

-- what the walk of a taker makes of a stage
pub record Walks (x : Priced) (old new : Stage) : Type 0 where
  pub first : FirstOut x old.own new.own
  pub tried : new.tried ≡ old.tried ++ row_after (total_of (takes_of x old.others)) x ∷ []
  pub others : new.others ≡ rows_after (takes_of x old.others) old.others
  pub fills : new.fills ≡ old.fills ++ fills_of x (takes_of x old.others)
  pub few : length new.fills + (length new.others + one_if_left (x.row.leaves - total_of (takes_of x old.others))) ≤ length old.fills + (length old.others + 1)

-- a taker that is the first of a side has shares left
pub taker_has : (own : List Priced) (x : Priced) → AllByRecursion HasLeaves own → IsFirst own x → HasLeaves x
taker_has own x full f = all_found HasLeaves x.row.entry own x full f.held

-- the same from what each call leaves
pub walks_by : (x t : Priced) (old : Stage) (items items1 : List Taken) (traded : Taken) (n : ℕ) (own1 others1 : List Priced) (fills1 : List Fill) → FirstOut x old.own own1 → old.tried ≡ taken_rows items → t ≡ x → items1 ≡ items ++ traded ∷ [] → taken_row traded ≡ row_after n x → n ≡ total_of (takes_of t old.others) → others1 ≡ rows_after (takes_of t old.others) old.others → fills1 ≡ old.fills ++ fills_of t (takes_of t old.others) → length fills1 + (length others1 + one_if_left (t.row.leaves - n)) ≤ length old.fills + (length old.others + 1) → Walks x old (record { tried = taken_rows items1; own = own1; others = others1; fills = fills1 })
walks_by x t old items items1 traded n own1 others1 fills1 first was same pushed row total others fills few =
    let total_is : n ≡ total_of (takes_of x old.others) = rw same at total in
    record {
      first = first;
      tried = ap taken_rows pushed ∙ rows_more items traded ∙ ap (λ (y : Priced). taken_rows items ++ y ∷ []) (row ∙ ap (λ (m : ℕ). row_after m x) total_is) ∙ ap (λ (ys : List Priced). ys ++ row_after (total_of (takes_of x old.others)) x ∷ []) (sym was);
      others = rw same at others;
      fills = rw same at fills;
      few = rw (← total_is) (rw same at few);
    }

pub shorter_by : {x : Priced} {old new : Stage} → Walks x old new → length old.own ≡ suc (length new.own)
shorter_by {x} {old} {new} w = ap length (sym w.first.back) ∙ length_insert x new.own

-- both sides are those after the taker met the other one
met : (x : Priced) (old new : Stage) → IsStage old → Walks x old new → meet x (sides_at old) ≡ sides_at new
met x old new s w =
    let t = taker_of x old new s w.first in
    ap (λ (own : List Priced). meet x (record { own = put_filled old.tried own; others = old.others; fills = old.fills })) (sym w.first.back)
    ∙ meet_is x old.tried new.own old.others old.fills t.has w.first.sorted w.first.absent t.absent t.out t.full
    ∙ (rw (w.tried, w.others, w.fills) refl)

fewer : (x : Priced) (old new : Stage) → IsStage old → Walks x old new → fills_and_rows new ≤ fills_and_rows old
fewer x old new s w =
    let t = taker_of x old new s w.first in
    let n = total_of (takes_of x old.others) in
    let y = row_after n x in
    let out : put_filled new.tried new.own ≡ put_filled_one y (put_filled old.tried new.own) = rw w.tried (filled_more old.tried y new.own) in
    let now = ap length out ∙ length_one y (put_filled old.tried new.own) ∙ ap (λ (m : ℕ). one_if_left m + length (put_filled old.tried new.own)) (after_leaves n x) in
    let was = ap (λ (rows : List Priced). length (put_filled old.tried rows)) (sym w.first.back) ∙ ap length (through x old.tried new.own t.has t.absent) ∙ length_insert x (put_filled old.tried new.own) in
    let few = w.few in
    omega (arith, now, was, few)

stage_is : (x : Priced) (old new : Stage) → IsStage old → Walks x old new → IsStage new
stage_is x old new s w =
    let t = taker_of x old new s w.first in
    let n = total_of (takes_of x old.others) in
    record {
      out = rw w.tried (out_more old.tried x (row_after n x) new.own (row_after_entry n x) (rw w.first.back s.out) w.first.absent);
      own_full = t.full;
      others_full = rw w.others (after_full (takes_of x old.others) old.others);
    }

shorter : (x : Priced) (old new : Stage) → Walks x old new → length new.own < length old.own
shorter x old new w = let a = ap length (sym w.first.back) in let b = length_insert x new.own in omega (arith, a, b)

-- where it crosses nothing, nothing is changed
idle : (x : Priced) (old new : Stage) → IsStage old → Walks x old new → takes_of x old.others ≡ [] → sides_at old ≡ sides_at new
idle x old new s w none =
    let t = taker_of x old new s w.first in
    let own : put_filled new.tried new.own ≡ put_filled old.tried old.own =
    rw (w.tried, none) (filled_more old.tried (row_after 0 x) new.own
    ∙ ap (λ (y : Priced). put_filled_one y (put_filled old.tried new.own)) (sym (row_after_none 0 x refl))
    ∙ (rw (lt-ltb 0 x.row.leaves t.has) (sym (through x old.tried new.own t.has t.absent)))
    ∙ ap (put_filled old.tried) w.first.back) in
    let others : new.others ≡ old.others = rw (w.others, none) (rows_none old.others s.others_full) in
    let fills : new.fills ≡ old.fills = rw (w.fills, none, fills_none x) (append-nil old.fills) in
    λ i. record { own = (sym own) i; others = (sym others) i; fills = (sym fills) i }

goes_by : (b c : Bool) → b ≡ c → b ≡ true → c ≡ true
goes_by b c e h = sym e ∙ h

-- ---- the whole of one turn

pub turned_some : (x : Priced) (old new : Stage) (goes_on : Bool) → IsStage old → Walks x old new → goes_on ≡ crosses_any x old.others → (goes_on ≡ false → takes_of x old.others ≡ []) → Turned goes_on old new
turned_some x old new goes_on s w e none = record {
  is = stage_is x old new s w;
  few = fewer x old new s w;
  more = let h = ap length w.fills ∙ length-append old.fills (fills_of x (takes_of x old.others)) in omega (arith, h);
  others_fewer = rw w.others (after_fewer (takes_of x old.others) old.others);
  on = λ h. ap (λ (xs : List Priced). sweep xs (sides_at old)) w.first.order ∙ sweep_on x (in_priority new.own) (sides_at old) (sym e ∙ h) ∙ ap (sweep (in_priority new.own)) (met x old new s w);
  shorter = λ h. shorter x old new w;
  done = λ h. ap (λ (xs : List Priced). sweep xs (sides_at old)) w.first.order ∙ sweep_out x (in_priority new.own) (sides_at old) (sym e ∙ h) ∙ idle x old new s w (none h);
}

pub turned_none : (old new : Stage) → old ≡ new → IsStage old → NoneActive old.own → Turned false old new
turned_none old new same s a = rw (sym same) (record {
  is = s;
  few = omega arith;
  more = omega arith;
  others_fewer = omega arith;
  on = λ h. cc;
  shorter = λ h. cc;
  done = λ h. ap (λ (xs : List Priced). sweep xs (sides_at old)) (none_in_priority old.own a) ∙ sweep_none (sides_at old);
})

-- ---- the work of one turn

pub work_on : (x : Priced) (old new : Stage) → IsStage old → Walks x old new → crosses_any x old.others ≡ true → rest_of_work old ≡ examined_by x old.others + rest_of_work new
work_on x old new s w does =
    ap (λ (xs : List Priced). examined_in_sweep xs (sides_at old)) w.first.order
    ∙ ap (λ (b : Bool). examined_by x old.others + cond b (examined_in_sweep (in_priority new.own) (meet x (sides_at old))) 0) does
    ∙ ap (λ (sides : Sides). examined_by x old.others + examined_in_sweep (in_priority new.own) sides) (met x old new s w)

pub work_done : (x : Priced) (old new : Stage) → Walks x old new → crosses_any x old.others ≡ false → rest_of_work old ≡ examined_by x old.others + 0
work_done x old new w never =
    ap (λ (xs : List Priced). examined_in_sweep xs (sides_at old)) w.first.order
    ∙ ap (λ (b : Bool). examined_by x old.others + cond b (examined_in_sweep (in_priority new.own) (meet x (sides_at old))) 0) never

-- ---- where a sweep begins

put_none : (own : List Priced) (items : List Taken) → items ≡ [] → put_filled (taken_rows items) own ≡ own
put_none own items e = rw e refl

at_begin : (own others : List Priced) (scratch : Scratch) → IsClear scratch → sides_at (stage_of own others scratch) ≡ sides_of own others scratch
at_begin own others scratch clear = ap (λ (rows : List Priced). record { own = rows; others = others; fills = scratch.fills.items }) (put_none own scratch.tried.items clear.tried)

pub stage_begins : (own others : List Priced) (scratch : Scratch) → IsClear scratch → AllByRecursion HasLeaves own → AllByRecursion HasLeaves others → IsStage (stage_of own others scratch)
stage_begins own others scratch clear a b = record { out = rw clear.tried tt; own_full = a; others_full = b }

few_begins : (own others : List Priced) (scratch : Scratch) → IsClear scratch → fills_and_rows (stage_of own others scratch) ≡ length scratch.fills.items + (length own + length others)
few_begins own others scratch clear = ap (λ (rows : List Priced). length scratch.fills.items + (length rows + length others)) (put_none own scratch.tried.items clear.tried)

pub room_begins : (own others : List Priced) (scratch : Scratch) → IsClear scratch → HasRoom (length own + length others) scratch → HasStageRoom own others scratch
room_begins own others scratch clear room =
    let few = few_begins own others scratch clear in
    let none = scratch.tried.ok.0 ∙ ap length clear.tried in
    record {
      fills = omega (arith, few, scratch.fills.ok.0, room.fills);
      aside = omega (arith, room.aside);
      tried = omega (arith, none, room.tried);
    }

-- ---- and where it ends

pub sweep_ends : (own others : List Priced) (scratch : Scratch) (own1 others1 : List Priced) (scratch1 : Scratch) (rows : List Priced) (items : List Taken) → IsClear scratch → rest_of_sweep (stage_of own others scratch) ≡ sides_at (stage_of own1 others1 scratch1) → items ≡ scratch1.tried.items → rows ≡ put_filled (taken_rows items) own1 → ◌≡◌ {A = Sides} (record { own = rows; others = others1; fills = scratch1.fills.items }) (sweep (in_priority own) (sides_of own others scratch))
sweep_ends own others scratch own1 others1 scratch1 rows items clear e same put =
    ap (λ (xs : List Priced). record { own = xs; others = others1; fills = scratch1.fills.items }) (put ∙ ap (λ (xs : List Taken). put_filled (taken_rows xs) own1) same)
    ∙ sym e
    ∙ ap (sweep (in_priority own)) (at_begin own others scratch clear)

pub few_ends : (own others : List Priced) (scratch : Scratch) (own1 others1 : List Priced) (scratch1 : Scratch) (rows : List Priced) (items : List Taken) → IsClear scratch → fills_and_rows (stage_of own1 others1 scratch1) ≤ fills_and_rows (stage_of own others scratch) → items ≡ scratch1.tried.items → rows ≡ put_filled (taken_rows items) own1 → length scratch1.fills.items + (length rows + length others1) ≤ length scratch.fills.items + (length own + length others)
few_ends own others scratch own1 others1 scratch1 rows items clear few same put =
    let begin = few_begins own others scratch clear in
    let end = ap length (put ∙ ap (λ (xs : List Taken). put_filled (taken_rows xs) own1) same) in
    omega (arith, few, begin, end)

pub steps_end : (own others : List Priced) (scratch : Scratch) (w v rest s0 s1 s2 s3 t1 : ℕ) (tried : Vec Taken Global) (items : List Taken) → IsClear scratch → s1 + 512 * t1 + 1536 * (w + v + 2) * rest ≤ s0 + 512 * vec_len scratch.tried + 1536 * (w + v + 2) * rest_of_work (stage_of own others scratch) → s2 + 512 * vec_len tried ≤ s1 + 512 * t1 + 1536 * (w + v + 2) * rest + 1024 * (w + 1) → items ≡ tried.items → s3 ≤ s2 + 512 * length items → s3 ≤ s0 + 1536 * (w + v + 2) * examined_in_sweep (in_priority own) (sides_of own others scratch) + 1024 * (w + 1)
steps_end own others scratch w v rest s0 s1 s2 s3 t1 tried items clear h k same l =
    let none = scratch.tried.ok.0 ∙ ap length clear.tried in
    let work = ap (examined_in_sweep (in_priority own)) (at_begin own others scratch clear) in
    sum (1536 * (w + v + 2) * rest) (1536 * (w + v + 2) * rest_of_work (stage_of own others scratch)) (1536 * (w + v + 2) * examined_in_sweep (in_priority own) (sides_of own others scratch)) (1024 * (w + 1)) (vec_len scratch.tried) (vec_len tried) (length items) none (tried.ok.0 ∙ ap length (sym same)) (ap (λ (n : ℕ). 1536 * (w + v + 2) * n) work) h k l
  where
    sum : (a b b1 d t0 t2 n : ℕ) → t0 ≡ 0 → t2 ≡ n → b ≡ b1 → s1 + 512 * t1 + a ≤ s0 + 512 * t0 + b → s2 + 512 * t2 ≤ s1 + 512 * t1 + a + d → s3 ≤ s2 + 512 * n → s3 ≤ s0 + b1 + d
    sum a b b1 d t0 t2 n e f i x y z = omega (arith, e, f, i, x, y, z)
