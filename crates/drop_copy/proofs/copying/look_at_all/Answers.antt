-- One more symbol's copies are added; behind the last one the cursors that are left stay.
use Rattle.std.proofs.Common.{◌≡◌, ◌++◌, ℕ, List, length, drop, ◌∙◌, ap, subst, arith}
use Rattle.venue_words.specs.Floors.{FloorMark}
use Rattle.drop_copy.specs.Looks.{LookedRow}
use Rattle.drop_copy.proofs.Looking.{AllLooked, all_more, all_went_on, all_messages}
use Rattle.drop_copy.proofs.copying.look_at_all.Goals as goal

pub loop-symbol-preserved : goal.loop-symbol-preserved
loop-symbol-preserved g c =
    let at = g.F.Floor.at in
    let symbol = c.loop-symbol.symbol in
    let inv = c.loop-symbol.invariant in
    let listed = c.args.listed in
    let next = c.look_at_symbol.new.floor in
    let row = subst (λ (k : FloorMark). LookedRow (g.F.Floor.reports_in k symbol) listed.config.now symbol listed.members.now listed.cursors.now (at c.loop-symbol.floor symbol) (at next symbol)
    c.loop-symbol.messages c.look_at_symbol.new.messages c.loop-symbol.moved.items c.look_at_symbol.new.moved.items) inv.mark c.in_ok-look_at_symbol.ensures.looked in record {
      mark = c.look_at_symbol.ensures.mark ∙ inv.mark;
      looked =
          all_more at (g.F.Floor.reports_in (g.F.Floor.mark c.args.floor.now)) listed.config.now listed.members.now listed.cursors.now c.args.floor.now symbol c.loop-symbol.floor next
          c.loop-symbol.messages c.look_at_symbol.new.messages c.loop-symbol.moved.items c.look_at_symbol.new.moved.items
          inv.looked c.look_at_symbol.ensures.others c.look_at_symbol.ensures.waited row;
    }

pub returns-clause-messages : goal.returns-clause-messages
returns-clause-messages g c =
    let listed = c.args.listed in
    let floor = c.loop-symbol.floor in
    let moved = c.loop-symbol.moved.items in
    let made = g.F.Floor.reports_in (g.F.Floor.mark c.args.floor.now) in
    let all : c.loop-symbol.symbol ≡ length listed.config.now.symbols = omega arith in
    let looked = subst (λ (k : ℕ). AllLooked g.F.Floor.at made listed.config.now listed.members.now listed.cursors.now c.args.floor.now k floor c.loop-symbol.messages moved) all c.loop-symbol.invariant.looked in
    let long : c.len.result ≡ length moved = omega (arith, c.len.ensures, c.loop-symbol.moved.ok.0) in
    all_messages g.F.Floor.at made listed.config.now listed.members.now listed.cursors.now c.args.floor.now floor c.loop-symbol.messages moved _ looked
    (c.in_ok-extend_from_slice.ensures.items ∙ ap (λ (xs : List ℕ). moved ++ xs) (c.behind.ensures ∙ ap (λ (k : ℕ). drop k listed.cursors.now) long))

pub returns-clause-moved : goal.returns-clause-moved
returns-clause-moved g c =
    let listed = c.args.listed in
    let floor = c.loop-symbol.floor in
    let moved = c.loop-symbol.moved.items in
    let made = g.F.Floor.reports_in (g.F.Floor.mark c.args.floor.now) in
    let all : c.loop-symbol.symbol ≡ length listed.config.now.symbols = omega arith in
    let looked = subst (λ (k : ℕ). AllLooked g.F.Floor.at made listed.config.now listed.members.now listed.cursors.now c.args.floor.now k floor c.loop-symbol.messages moved) all c.loop-symbol.invariant.looked in
    let long : c.len.result ≡ length moved = omega (arith, c.len.ensures, c.loop-symbol.moved.ok.0) in
    all_went_on g.F.Floor.at made listed.config.now listed.members.now listed.cursors.now c.args.floor.now floor c.loop-symbol.messages moved _ looked
    (c.in_ok-extend_from_slice.ensures.items ∙ ap (λ (xs : List ℕ). moved ++ xs) (c.behind.ensures ∙ ap (λ (k : ℕ). drop k listed.cursors.now) long))
