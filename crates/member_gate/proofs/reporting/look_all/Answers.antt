-- One more symbol was asked for; behind the last one the cursors that are left stay.
use Rattle.std.proofs.Common.{◌≡◌, ℕ, ◌<◌, max, List, ◌∷◌, [], ◌++◌, length, drop, ◌∙◌, ap, subst, arith}
use Rattle.member_gate.specs.Answering.{name_at}
use Rattle.member_gate.specs.Reporting.{messages_at}
use Rattle.venue_words.specs.Floors.{SymbolView, TurnsRose}
use Rattle.member_gate.proofs.Looking.{Looked, all_seen, looked_more, waited_on, moved_on, all_messages}
use Rattle.member_gate.proofs.reporting.look_all.Goals as goal

abbrev each_rose : ℕ → SymbolView → SymbolView → Type 0
each_rose _ before after = TurnsRose before.turns after.turns

pub loop-symbol-preserved : goal.loop-symbol-preserved
loop-symbol-preserved g c =
    let config = c.args.reader.config.now in
    let symbol = c.loop-symbol.symbol in
    let fronts = c.loop-symbol.fronts.items in
    let inside : symbol < length config.symbols = omega arith in
    let messages = c.loop-symbol.messages in
    let reports = (g.F.Floor.at c.look.new.floor symbol).reports in record {
      mark = c.look.ensures.mark ∙ c.loop-symbol.invariant.mark;
      looked =
          looked_more g.F.Floor.at config c.args.reader.member c.args.reader.cursors.now all_seen each_rose c.args.floor.now symbol c.loop-symbol.floor c.look.new.floor messages c.look.new.messages fronts c.push.new.self.items c.in_ok-front.front
          c.loop-symbol.invariant.looked inside c.look.ensures.others c.look.ensures.waited c.in_ok-front.ensures.turns
          (c.in_ok-front.ensures.messages ∙ ap (λ (from : ℕ). messages ++ messages_at config c.args.reader.member (name_at config.symbols symbol) from reports) c.cursor_at-from.ensures)
          c.in_ok-front.ensures.front
          (c.in_ok-push.ensures.items ∙ ap (λ (k : ℕ). fronts ++ k ∷ []) (c.max.ensures ∙ ap (λ (k : ℕ). max k c.in_ok-front.front) c.cursor_at-from.ensures));
    }

pub returns-clause-fronts : goal.returns-clause-fronts
returns-clause-fronts g c =
    let config = c.args.reader.config.now in
    let floor = c.loop-symbol.floor in
    let all : c.loop-symbol.symbol ≡ length config.symbols = omega arith in
    let looked = subst (λ (k : ℕ). Looked g.F.Floor.at config c.args.reader.member c.args.reader.cursors.now all_seen each_rose c.args.floor.now k floor c.loop-symbol.messages c.loop-symbol.fronts.items) all c.loop-symbol.invariant.looked in
    moved_on g.F.Floor.at config c.args.reader.member c.args.reader.cursors.now all_seen each_rose c.args.floor.now floor c.loop-symbol.messages c.loop-symbol.fronts.items _ looked
    (c.in_ok-extend_from_slice.ensures.items ∙ ap (λ (xs : List ℕ). c.loop-symbol.fronts.items ++ xs) (c.behind.ensures ∙ ap (λ (k : ℕ). drop k c.args.reader.cursors.now) c.len-count.ensures))

-- what the floor shows behind a look that failed, or behind a cursor that found no room

pub returns-in_err-front-clause-waited : goal.returns-in_err-front-clause-waited
returns-in_err-front-clause-waited g c =
    let looked = c.loop-symbol.invariant.looked in
    waited_on g.F.Floor.at c.args.reader.config.now c.args.reader.member c.args.reader.cursors.now all_seen each_rose c.args.floor.now c.loop-symbol.floor c.look.new.floor c.loop-symbol.symbol
    looked.waited looked.ahead c.look.ensures.others c.look.ensures.waited

pub returns-in_err-front-clause-others : goal.returns-in_err-front-clause-others
returns-in_err-front-clause-others g c = λ symbol h.
    c.look.ensures.others symbol (λ e. absurd (omega arith)) ∙ c.loop-symbol.invariant.looked.ahead symbol (omega arith)

pub returns-in_err-front-clause-mark : goal.returns-in_err-front-clause-mark
returns-in_err-front-clause-mark g c = c.look.ensures.mark ∙ c.loop-symbol.invariant.mark

pub returns-in_err-push-clause-waited : goal.returns-in_err-push-clause-waited
returns-in_err-push-clause-waited g c =
    let looked = c.loop-symbol.invariant.looked in
    waited_on g.F.Floor.at c.args.reader.config.now c.args.reader.member c.args.reader.cursors.now all_seen each_rose c.args.floor.now c.loop-symbol.floor c.look.new.floor c.loop-symbol.symbol
    looked.waited looked.ahead c.look.ensures.others c.look.ensures.waited

pub returns-in_err-push-clause-others : goal.returns-in_err-push-clause-others
returns-in_err-push-clause-others g c = λ symbol h.
    c.look.ensures.others symbol (λ e. absurd (omega arith)) ∙ c.loop-symbol.invariant.looked.ahead symbol (omega arith)

pub returns-in_err-push-clause-mark : goal.returns-in_err-push-clause-mark
returns-in_err-push-clause-mark g c = c.look.ensures.mark ∙ c.loop-symbol.invariant.mark

pub returns-in_err-extend_from_slice-clause-waited : goal.returns-in_err-extend_from_slice-clause-waited
returns-in_err-extend_from_slice-clause-waited g c = c.loop-symbol.invariant.looked.waited

pub returns-in_err-extend_from_slice-clause-others : goal.returns-in_err-extend_from_slice-clause-others
returns-in_err-extend_from_slice-clause-others g c = λ symbol h. c.loop-symbol.invariant.looked.ahead symbol (omega arith)

-- behind the last symbol

pub returns-clause-waited : goal.returns-clause-waited
returns-clause-waited g c = c.loop-symbol.invariant.looked.waited

pub returns-clause-others : goal.returns-clause-others
returns-clause-others g c = λ symbol h. c.loop-symbol.invariant.looked.ahead symbol (omega arith)

pub returns-clause-turns : goal.returns-clause-turns
returns-clause-turns g c = λ symbol h. c.loop-symbol.invariant.looked.each symbol (omega arith)

pub returns-clause-messages : goal.returns-clause-messages
returns-clause-messages g c =
    let config = c.args.reader.config.now in
    let floor = c.loop-symbol.floor in
    let all : c.loop-symbol.symbol ≡ length config.symbols = omega arith in
    let looked = subst (λ (k : ℕ). Looked g.F.Floor.at config c.args.reader.member c.args.reader.cursors.now all_seen each_rose c.args.floor.now k floor c.loop-symbol.messages c.loop-symbol.fronts.items) all c.loop-symbol.invariant.looked in
    all_messages g.F.Floor.at config c.args.reader.member c.args.reader.cursors.now all_seen each_rose c.args.floor.now floor c.loop-symbol.messages c.loop-symbol.fronts.items looked
