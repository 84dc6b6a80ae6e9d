-- One more symbol was asked for; behind the last one the cursors that are left stay.
use Rattle.std.proofs.Common.{◌≡◌, ℕ, ◌<◌, max, Bool, true, List, ◌∷◌, [], ◌++◌, length, drop, ◌∙◌, ap, sym, subst, arith}
use Rattle.venue_words.specs.Floors.{SymbolView, TurnsRose}
use Rattle.member_gate.specs.Answering.{name_at}
use Rattle.member_gate.specs.Reporting.{cursor_at, asked_at, where_asked, messages_at, HasNoNews, IsAskedForNews}
use Rattle.member_gate.proofs.Looking.{Looked, asked_seen, for_news, looked_more, waited_on, stays, stays_on, moved_on, all_messages}
use Rattle.member_gate.proofs.reporting.look_past.Goals as goal

-- the symbol was asked for where it has news
news : {F : Type 0} (at : F → ℕ → SymbolView) (asked : List Bool) (cursors : List ℕ) (symbol from : ℕ) (is : Bool) (now next : F) → from ≡ cursor_at cursors symbol
    → is ≡ asked_at asked symbol → (HasNoNews is from (at now symbol) → at next symbol ≡ at now symbol)
    → (is ≡ true → from < length (at now symbol).reports → TurnsRose (at now symbol).turns (at next symbol).turns)
    → IsAskedForNews (asked_at asked symbol) (cursor_at cursors symbol) (at now symbol) (at next symbol)
news at asked cursors symbol from is now next e f unasked rose = record {
  unasked = λ h. unasked (subst (λ (b : Bool). HasNoNews b from (at now symbol)) (sym f)
      (subst (λ (k : ℕ). HasNoNews (asked_at asked symbol) k (at now symbol)) (sym e) h));
  rose = λ on h. rose (f ∙ on) (omega arith);
}

pub loop-symbol-preserved : goal.loop-symbol-preserved
loop-symbol-preserved g c =
    let config = c.args.reader.config.now in
    let symbol = c.loop-symbol.symbol in
    let fronts = c.loop-symbol.fronts.items in
    let inside : symbol < length config.symbols = omega arith in
    let messages = c.loop-symbol.messages in
    let reports = (g.F.Floor.at c.look_where_past.new.floor symbol).reports in record {
      mark = c.look_where_past.ensures.mark ∙ c.loop-symbol.invariant.mark;
      looked =
          looked_more g.F.Floor.at config c.args.reader.member c.args.reader.cursors.now (asked_seen c.args.awaited.asked.now) (for_news c.args.awaited.asked.now c.args.reader.cursors.now) c.args.floor.now symbol c.loop-symbol.floor c.look_where_past.new.floor messages c.look_where_past.new.messages fronts c.push.new.self.items c.in_ok-front.front
          c.loop-symbol.invariant.looked inside c.look_where_past.ensures.others c.look_where_past.ensures.waited
          (news g.F.Floor.at c.args.awaited.asked.now c.args.reader.cursors.now symbol c.cursor_at-from.result c.is_asked-asked.result c.loop-symbol.floor c.look_where_past.new.floor c.cursor_at-from.ensures
          c.is_asked-asked.ensures c.look_where_past.ensures.unasked c.in_ok-front.ensures.turns)
          (c.in_ok-front.ensures.messages
          ∙ ap (λ (from : ℕ). messages ++ messages_at config c.args.reader.member (name_at config.symbols symbol) from (where_asked c.is_asked-asked.result reports)) c.cursor_at-from.ensures
          ∙ ap (λ (is : Bool). messages ++ messages_at config c.args.reader.member (name_at config.symbols symbol) (cursor_at c.args.reader.cursors.now symbol) (where_asked is reports)) c.is_asked-asked.ensures)
          c.in_ok-front.ensures.front
          (c.in_ok-push.ensures.items ∙ ap (λ (k : ℕ). fronts ++ k ∷ []) (c.max-moved.ensures ∙ ap (λ (k : ℕ). max k c.in_ok-front.front) c.cursor_at-from.ensures));
    }

pub returns-clause-fronts : goal.returns-clause-fronts
returns-clause-fronts g c =
    let config = c.args.reader.config.now in
    let floor = c.loop-symbol.floor in
    let all : c.loop-symbol.symbol ≡ length config.symbols = omega arith in
    let looked = subst (λ (k : ℕ). Looked g.F.Floor.at config c.args.reader.member c.args.reader.cursors.now (asked_seen c.args.awaited.asked.now) (for_news c.args.awaited.asked.now c.args.reader.cursors.now) c.args.floor.now k floor c.loop-symbol.messages c.loop-symbol.fronts.items) all c.loop-symbol.invariant.looked in
    moved_on g.F.Floor.at config c.args.reader.member c.args.reader.cursors.now (asked_seen c.args.awaited.asked.now) (for_news c.args.awaited.asked.now c.args.reader.cursors.now) c.args.floor.now floor c.loop-symbol.messages c.loop-symbol.fronts.items _ looked
    (c.in_ok-extend_from_slice.ensures.items ∙ ap (λ (xs : List ℕ). c.loop-symbol.fronts.items ++ xs) (c.behind.ensures ∙ ap (λ (k : ℕ). drop k c.args.reader.cursors.now) c.len-count.ensures))

-- what the floor shows behind a look that failed, or behind a cursor that found no room

pub returns-in_err-front-clause-waited : goal.returns-in_err-front-clause-waited
returns-in_err-front-clause-waited g c =
    let looked = c.loop-symbol.invariant.looked in
    waited_on g.F.Floor.at c.args.reader.config.now c.args.reader.member c.args.reader.cursors.now (asked_seen c.args.awaited.asked.now) (for_news c.args.awaited.asked.now c.args.reader.cursors.now) c.args.floor.now c.loop-symbol.floor c.look_where_past.new.floor c.loop-symbol.symbol
    looked.waited looked.ahead c.look_where_past.ensures.others c.look_where_past.ensures.waited

pub returns-in_err-front-clause-others : goal.returns-in_err-front-clause-others
returns-in_err-front-clause-others g c = λ symbol h.
    c.look_where_past.ensures.others symbol (λ e. absurd (omega arith)) ∙ c.loop-symbol.invariant.looked.ahead symbol (omega arith)

pub returns-in_err-front-clause-mark : goal.returns-in_err-front-clause-mark
returns-in_err-front-clause-mark g c = c.look_where_past.ensures.mark ∙ c.loop-symbol.invariant.mark

pub returns-in_err-push-clause-waited : goal.returns-in_err-push-clause-waited
returns-in_err-push-clause-waited g c =
    let looked = c.loop-symbol.invariant.looked in
    waited_on g.F.Floor.at c.args.reader.config.now c.args.reader.member c.args.reader.cursors.now (asked_seen c.args.awaited.asked.now) (for_news c.args.awaited.asked.now c.args.reader.cursors.now) c.args.floor.now c.loop-symbol.floor c.look_where_past.new.floor c.loop-symbol.symbol
    looked.waited looked.ahead c.look_where_past.ensures.others c.look_where_past.ensures.waited

pub returns-in_err-push-clause-others : goal.returns-in_err-push-clause-others
returns-in_err-push-clause-others g c = λ symbol h.
    c.look_where_past.ensures.others symbol (λ e. absurd (omega arith)) ∙ c.loop-symbol.invariant.looked.ahead symbol (omega arith)

pub returns-in_err-push-clause-mark : goal.returns-in_err-push-clause-mark
returns-in_err-push-clause-mark g c = c.look_where_past.ensures.mark ∙ c.loop-symbol.invariant.mark

pub returns-in_err-extend_from_slice-clause-waited : goal.returns-in_err-extend_from_slice-clause-waited
returns-in_err-extend_from_slice-clause-waited g c = c.loop-symbol.invariant.looked.waited

pub returns-in_err-extend_from_slice-clause-others : goal.returns-in_err-extend_from_slice-clause-others
returns-in_err-extend_from_slice-clause-others g c = λ symbol h. c.loop-symbol.invariant.looked.ahead symbol (omega arith)

-- behind the last symbol

pub returns-clause-waited : goal.returns-clause-waited
returns-clause-waited g c = c.loop-symbol.invariant.looked.waited

pub returns-clause-others : goal.returns-clause-others
returns-clause-others g c = λ symbol h. c.loop-symbol.invariant.looked.ahead symbol (omega arith)

pub returns-clause-turns : goal.returns-clause-turns
returns-clause-turns g c = λ symbol h on past. (c.loop-symbol.invariant.looked.each symbol (omega arith)).rose on past

pub returns-clause-messages : goal.returns-clause-messages
returns-clause-messages g c =
    let config = c.args.reader.config.now in
    let floor = c.loop-symbol.floor in
    let all : c.loop-symbol.symbol ≡ length config.symbols = omega arith in
    let looked = subst (λ (k : ℕ). Looked g.F.Floor.at config c.args.reader.member c.args.reader.cursors.now (asked_seen c.args.awaited.asked.now) (for_news c.args.awaited.asked.now c.args.reader.cursors.now) c.args.floor.now k floor c.loop-symbol.messages c.loop-symbol.fronts.items) all c.loop-symbol.invariant.looked in
    all_messages g.F.Floor.at config c.args.reader.member c.args.reader.cursors.now (asked_seen c.args.awaited.asked.now) (for_news c.args.awaited.asked.now c.args.reader.cursors.now) c.args.floor.now floor c.loop-symbol.messages c.loop-symbol.fronts.items looked

-- a symbol without news stays

pub returns-in_err-front-clause-unasked : goal.returns-in_err-front-clause-unasked
returns-in_err-front-clause-unasked g c =
    let looked = c.loop-symbol.invariant.looked in
    stays_on g.F.Floor.at c.args.awaited.asked.now c.args.reader.cursors.now c.args.floor.now c.loop-symbol.floor c.look_where_past.new.floor c.loop-symbol.symbol
    c.cursor_at-from.result c.is_asked-asked.result looked.each looked.ahead c.look_where_past.ensures.others c.cursor_at-from.ensures c.is_asked-asked.ensures
    c.look_where_past.ensures.unasked

pub returns-in_err-push-clause-unasked : goal.returns-in_err-push-clause-unasked
returns-in_err-push-clause-unasked g c =
    let looked = c.loop-symbol.invariant.looked in
    stays_on g.F.Floor.at c.args.awaited.asked.now c.args.reader.cursors.now c.args.floor.now c.loop-symbol.floor c.look_where_past.new.floor c.loop-symbol.symbol
    c.cursor_at-from.result c.is_asked-asked.result looked.each looked.ahead c.look_where_past.ensures.others c.cursor_at-from.ensures c.is_asked-asked.ensures
    c.look_where_past.ensures.unasked

pub returns-in_err-extend_from_slice-clause-unasked : goal.returns-in_err-extend_from_slice-clause-unasked
returns-in_err-extend_from_slice-clause-unasked g c =
    let looked = c.loop-symbol.invariant.looked in
    stays g.F.Floor.at c.args.awaited.asked.now c.args.reader.cursors.now c.args.floor.now c.loop-symbol.floor c.loop-symbol.symbol looked.each looked.ahead

pub returns-clause-unasked : goal.returns-clause-unasked
returns-clause-unasked g c =
    let looked = c.loop-symbol.invariant.looked in
    stays g.F.Floor.at c.args.awaited.asked.now c.args.reader.cursors.now c.args.floor.now c.loop-symbol.floor c.loop-symbol.symbol looked.each looked.ahead
