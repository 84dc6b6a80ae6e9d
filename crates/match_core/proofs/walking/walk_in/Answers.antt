use Rattle.std.proofs.Common.{◌≡◌, ◌≤◌, ◌+◌, ◌-◌, ◌*◌, ◌++◌, [], ◌&&◌, ℕ, nat_lt, nat_le, true, false, sym, ◌∙◌, ap, List, length, reverse, filter, arith, append-nil, Bool, vec_len}
use Rattle.std.proofs.lemmas.List.{reverse-reverse}
use Rattle.venue_words.specs.declared.row.Priced.{Priced}
use Rattle.venue_words.specs.Priority.{in_priority}
use Rattle.eager_meaning.specs.declared.trade.Take.{Take}
use Rattle.eager_meaning.specs.declared.trade.Fill.{Fill}
use Rattle.eager_meaning.specs.Walk.{walk, total_of, least_walk}
use Rattle.eager_meaning.specs.Matching.{takes_of, fills_of, rows_after}
use Rattle.peg_groups.specs.declared.side_book.Taken.{Taken}
use Rattle.match_core.specs.Aside.{PassesAll, Gathered, taken_rows, finals, put_filled}
use Rattle.match_core.proofs.SetAside.{length_rows}
use Rattle.match_core.proofs.Trades.{fills_none}
use Rattle.match_core.proofs.AfterTrades.{rows_settled, rows_given_back, total_left, total_traded, walk_length, length_put_in, cost_of_walk}
use Rattle.match_core.proofs.Standing.{takes_stand, takes_fall}
use Rattle.match_core.proofs.Fewer.{few_then, few_else}
use Rattle.match_core.proofs.Turns.{crossed_is}
use Rattle.match_core.proofs.walking.walk_in.Goals as goal

pub overflow_sub-total : goal.overflow_sub-total
overflow_sub-total g c = omega (arith, total_left c.args.t.now c.args.t.now.row.leaves c.gather-left.result (taken_rows c.gather-left.new.aside.items) c.gather-left.ensures.gathered.passes)

back_of : (items turned : List Taken) → turned ≡ reverse items → reverse turned ≡ items
back_of items turned e = ap reverse e ∙ reverse-reverse items

total_of_walk : (t : Priced) (xs : List Priced) (left : ℕ) → PassesAll t t.row.leaves xs left → total_of (walk t t.row.leaves xs) ≡ t.row.leaves - left
total_of_walk t xs left p = let h = total_left t t.row.leaves left xs p in omega (arith, h)

test_of : (t : Priced) (xs : List Priced) (left : ℕ) (b : Bool) → PassesAll t t.row.leaves xs left → b ≡ (nat_lt 0 (t.row.leaves - left) && nat_le (least_walk t.row) (t.row.leaves - left)) → (nat_lt 0 (total_of (walk t t.row.leaves xs)) && nat_le (least_walk t.row) (total_of (walk t t.row.leaves xs))) ≡ b
test_of t xs left b p e = rw (total_of_walk t xs left p) (sym e)

many_of : (t : Priced) (old new xs : List Priced) (left : ℕ) → Gathered t old new xs left → length xs + length new ≡ length old
many_of t old new xs left g = sym (length_put_in xs new) ∙ ap length g.back

bound_of : (t : Priced) (rows : List Priced) (items turned : List Taken) (left w s0 s1 last : ℕ) → turned ≡ reverse items → PassesAll t t.row.leaves (taken_rows items) left → walk t t.row.leaves (in_priority rows) ≡ walk t t.row.leaves (taken_rows items) → s1 ≤ s0 + 1024 * (w + 1) * length items + w → last ≤ s1 + 512 * length (reverse turned) → last + w ≤ s0 + 1536 * (w + 1) * (1 + length (walk t t.row.leaves (in_priority rows)))
bound_of t rows items turned left w s0 s1 last e p walked h k =
    let n : length (walk t t.row.leaves (in_priority rows)) ≡ length items = ap length walked ∙ walk_length t t.row.leaves left (taken_rows items) p ∙ length_rows items in
    let m : length (reverse turned) ≡ length items = ap length (back_of items turned e) in
    let cost = cost_of_walk (1024 * (w + 1)) (1536 * (w + 1)) (length items) (omega arith) in
    let turned_round : 1 + length items ≡ length items + 1 = omega arith in
    rw (n, turned_round) (omega (arith, h, k, m, cost))

pub settle-requires-clause-room : goal.settle-requires-clause-room
settle-requires-clause-room g c = omega (arith, c.requires.fills_room, many_of c.args.t.now (g.S.SideBook.state c.args.other.now).rows (g.S.SideBook.state c.gather-left.new.other).rows (taken_rows c.gather-left.new.aside.items) c.gather-left.result c.gather-left.ensures.gathered, ap length (back_of c.gather-left.new.aside.items c.reverse.new.self.items c.reverse.ensures.items), length_rows c.gather-left.new.aside.items)

stands_is : (t : Priced) (rows : List Priced) (w : List Take) (b : Bool) → walk t t.row.leaves (in_priority rows) ≡ w → (nat_lt 0 (total_of w) && nat_le (least_walk t.row) (total_of w)) ≡ b → b ≡ true → takes_of t rows ≡ filter (λ take. nat_lt 0 take.shares) w
stands_is t rows w b e h k = takes_stand t rows w e (h ∙ k)

falls_is : (t : Priced) (rows : List Priced) (w : List Take) (b : Bool) → walk t t.row.leaves (in_priority rows) ≡ w → (nat_lt 0 (total_of w) && nat_le (least_walk t.row) (total_of w)) ≡ b → b ≡ false → takes_of t rows ≡ []
falls_is t rows w b e h k = takes_fall t rows w e (h ∙ k)

pub returns-then-does_stand-clause-put : goal.returns-then-does_stand-clause-put
returns-then-does_stand-clause-put g c =
    let takes = stands_is c.args.t.now (g.S.SideBook.state c.args.other.now).rows _ _ c.gather-left.ensures.walked (test_of c.args.t.now (taken_rows c.gather-left.new.aside.items) c.gather-left.result c.does_stand.result c.gather-left.ensures.gathered.passes c.does_stand.ensures) c.if-does_stand.true in
    c.settle.ensures.put
    ∙ ap (λ (xs : List Taken). put_filled (finals c.args.t.now c.args.t.now.row.leaves (taken_rows xs)) (g.S.SideBook.state c.gather-left.new.other).rows) (back_of c.gather-left.new.aside.items c.reverse.new.self.items c.reverse.ensures.items)
    ∙ rows_settled c.args.t.now (g.S.SideBook.state c.args.other.now).rows (g.S.SideBook.state c.gather-left.new.other).rows (taken_rows c.gather-left.new.aside.items) c.gather-left.result c.gather-left.ensures.gathered c.gather-left.ensures.by_entry c.requires.full
    ∙ ap (λ (ts : List Take). rows_after ts (g.S.SideBook.state c.args.other.now).rows) (sym takes)

pub returns-then-does_stand-clause-filled : goal.returns-then-does_stand-clause-filled
returns-then-does_stand-clause-filled g c =
    let takes = stands_is c.args.t.now (g.S.SideBook.state c.args.other.now).rows _ _ c.gather-left.ensures.walked (test_of c.args.t.now (taken_rows c.gather-left.new.aside.items) c.gather-left.result c.does_stand.result c.gather-left.ensures.gathered.passes c.does_stand.ensures) c.if-does_stand.true in
    c.settle.ensures.filled
    ∙ ap (λ (xs : List Taken). c.args.fills.now.items ++ fills_of c.args.t.now (filter (λ take. nat_lt 0 take.shares) (walk c.args.t.now c.args.t.now.row.leaves (taken_rows xs)))) (back_of c.gather-left.new.aside.items c.reverse.new.self.items c.reverse.ensures.items)
    ∙ ap (λ (ts : List Take). c.args.fills.now.items ++ fills_of c.args.t.now ts) (sym takes)

pub returns-then-does_stand-clause-total : goal.returns-then-does_stand-clause-total
returns-then-does_stand-clause-total g c =
    let takes = stands_is c.args.t.now (g.S.SideBook.state c.args.other.now).rows _ _ c.gather-left.ensures.walked (test_of c.args.t.now (taken_rows c.gather-left.new.aside.items) c.gather-left.result c.does_stand.result c.gather-left.ensures.gathered.passes c.does_stand.ensures) c.if-does_stand.true in
    sym (ap total_of takes ∙ total_traded (walk c.args.t.now c.args.t.now.row.leaves (taken_rows c.gather-left.new.aside.items)) ∙ total_of_walk c.args.t.now (taken_rows c.gather-left.new.aside.items) c.gather-left.result c.gather-left.ensures.gathered.passes)

pub returns-then-does_stand-clause-most : goal.returns-then-does_stand-clause-most
returns-then-does_stand-clause-most g c = bound_of c.args.t.now (g.S.SideBook.state c.args.other.now).rows c.gather-left.new.aside.items c.reverse.new.self.items c.gather-left.result (g.S.SideBook.width c.args.other.now) c.args.steps.now c.gather-left.new.steps c.settle.new.steps c.reverse.ensures.items c.gather-left.ensures.gathered.passes c.gather-left.ensures.walked c.gather-left.ensures.most c.settle.ensures.most

pub returns-else-does_stand-clause-put : goal.returns-else-does_stand-clause-put
returns-else-does_stand-clause-put g c =
    let takes = falls_is c.args.t.now (g.S.SideBook.state c.args.other.now).rows _ _ c.gather-left.ensures.walked (test_of c.args.t.now (taken_rows c.gather-left.new.aside.items) c.gather-left.result c.does_stand.result c.gather-left.ensures.gathered.passes c.does_stand.ensures) c.if-does_stand.false in
    c.give_back.ensures.put
    ∙ ap (λ (xs : List Taken). put_filled (taken_rows xs) (g.S.SideBook.state c.gather-left.new.other).rows) (back_of c.gather-left.new.aside.items c.reverse.new.self.items c.reverse.ensures.items)
    ∙ rows_given_back c.args.t.now (g.S.SideBook.state c.args.other.now).rows (g.S.SideBook.state c.gather-left.new.other).rows (taken_rows c.gather-left.new.aside.items) c.gather-left.result c.gather-left.ensures.gathered c.gather-left.ensures.by_entry c.requires.full
    ∙ ap (λ (ts : List Take). rows_after ts (g.S.SideBook.state c.args.other.now).rows) (sym takes)

pub returns-else-does_stand-clause-filled : goal.returns-else-does_stand-clause-filled
returns-else-does_stand-clause-filled g c =
    let takes = falls_is c.args.t.now (g.S.SideBook.state c.args.other.now).rows _ _ c.gather-left.ensures.walked (test_of c.args.t.now (taken_rows c.gather-left.new.aside.items) c.gather-left.result c.does_stand.result c.gather-left.ensures.gathered.passes c.does_stand.ensures) c.if-does_stand.false in
    sym (append-nil c.args.fills.now.items) ∙ ap (λ (fs : List Fill). c.args.fills.now.items ++ fs) (sym (fills_none c.args.t.now)) ∙ ap (λ (ts : List Take). c.args.fills.now.items ++ fills_of c.args.t.now ts) (sym takes)

pub returns-else-does_stand-clause-total : goal.returns-else-does_stand-clause-total
returns-else-does_stand-clause-total g c =
    let takes = falls_is c.args.t.now (g.S.SideBook.state c.args.other.now).rows _ _ c.gather-left.ensures.walked (test_of c.args.t.now (taken_rows c.gather-left.new.aside.items) c.gather-left.result c.does_stand.result c.gather-left.ensures.gathered.passes c.does_stand.ensures) c.if-does_stand.false in
    sym (ap total_of takes)

pub returns-else-does_stand-clause-most : goal.returns-else-does_stand-clause-most
returns-else-does_stand-clause-most g c = bound_of c.args.t.now (g.S.SideBook.state c.args.other.now).rows c.gather-left.new.aside.items c.reverse.new.self.items c.gather-left.result (g.S.SideBook.width c.args.other.now) c.args.steps.now c.gather-left.new.steps c.give_back.new.steps c.reverse.ensures.items c.gather-left.ensures.gathered.passes c.gather-left.ensures.walked c.gather-left.ensures.most c.give_back.ensures.most

-- ---- whether it crossed, and how few rows are left

pub returns-then-does_stand-clause-crossed : goal.returns-then-does_stand-clause-crossed
returns-then-does_stand-clause-crossed g c = crossed_is c.args.t.now (g.S.SideBook.state c.args.other.now).rows (g.S.SideBook.state c.gather-left.new.other).rows c.gather-left.new.aside.items c.gather-left.result (vec_len c.gather-left.new.aside) c.is_empty-crossed.result c.is_empty-crossed.ensures c.gather-left.new.aside.ok.0 c.gather-left.ensures.gathered c.gather-left.ensures.blocked

pub returns-else-does_stand-clause-crossed : goal.returns-else-does_stand-clause-crossed
returns-else-does_stand-clause-crossed g c = crossed_is c.args.t.now (g.S.SideBook.state c.args.other.now).rows (g.S.SideBook.state c.gather-left.new.other).rows c.gather-left.new.aside.items c.gather-left.result (vec_len c.gather-left.new.aside) c.is_empty-crossed.result c.is_empty-crossed.ensures c.gather-left.new.aside.ok.0 c.gather-left.ensures.gathered c.gather-left.ensures.blocked

pub returns-else-does_stand-clause-idle : goal.returns-else-does_stand-clause-idle
returns-else-does_stand-clause-idle g c = λ _. falls_is c.args.t.now (g.S.SideBook.state c.args.other.now).rows _ _ c.gather-left.ensures.walked (test_of c.args.t.now (taken_rows c.gather-left.new.aside.items) c.gather-left.result c.does_stand.result c.gather-left.ensures.gathered.passes c.does_stand.ensures) c.if-does_stand.false

pub returns-then-does_stand-clause-few : goal.returns-then-does_stand-clause-few
returns-then-does_stand-clause-few g c =
    few_then c.args.t.now (g.S.SideBook.state c.args.other.now).rows (g.S.SideBook.state c.gather-left.new.other).rows (taken_rows c.gather-left.new.aside.items) (g.S.SideBook.state c.settle.new.other).rows c.gather-left.result c.args.fills.now.items c.settle.new.fills.items c.gather-left.ensures.gathered
    (total_left c.args.t.now c.args.t.now.row.leaves c.gather-left.result (taken_rows c.gather-left.new.aside.items) c.gather-left.ensures.gathered.passes)
    (c.settle.ensures.filled ∙ ap (λ (xs : List Taken). c.args.fills.now.items ++ fills_of c.args.t.now (filter (λ take. nat_lt 0 take.shares) (walk c.args.t.now c.args.t.now.row.leaves (taken_rows xs)))) (back_of c.gather-left.new.aside.items c.reverse.new.self.items c.reverse.ensures.items))
    (c.settle.ensures.put ∙ ap (λ (xs : List Taken). put_filled (finals c.args.t.now c.args.t.now.row.leaves (taken_rows xs)) (g.S.SideBook.state c.gather-left.new.other).rows) (back_of c.gather-left.new.aside.items c.reverse.new.self.items c.reverse.ensures.items))

pub returns-else-does_stand-clause-few : goal.returns-else-does_stand-clause-few
returns-else-does_stand-clause-few g c =
    few_else c.args.t.now (g.S.SideBook.state c.args.other.now).rows (g.S.SideBook.state c.gather-left.new.other).rows (taken_rows c.gather-left.new.aside.items) (g.S.SideBook.state c.give_back.new.other).rows c.gather-left.result (length c.args.fills.now.items) c.gather-left.ensures.gathered
    (c.give_back.ensures.put ∙ ap (λ (xs : List Taken). put_filled (taken_rows xs) (g.S.SideBook.state c.gather-left.new.other).rows) (back_of c.gather-left.new.aside.items c.reverse.new.self.items c.reverse.ensures.items))
