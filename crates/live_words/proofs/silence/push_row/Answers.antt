use Rattle.live_words.proofs.Silences.{kept_more, emptied_more, none_emptied}
use Rattle.std.proofs.Common.{inl, inr}
use Rattle.live_words.proofs.silence.push_row.Goals as goal

pub returns-in_ok-push-clause-kept : goal.returns-in_ok-push-clause-kept
returns-in_ok-push-clause-kept c = kept_more c.args.lines.now.items c.push.new.self.items _ c.in_ok-push.ensures.items

pub returns-in_ok-push-clause-emptied : goal.returns-in_ok-push-clause-emptied
returns-in_ok-push-clause-emptied c =
    emptied_more c.args.setup.now c.args.market c.args.symbol c.args.lines.now.items c.push.new.self.items _ c.in-Some.symbol.now c.in-Some-market.market.now
    c.in_ok-push.ensures.items c.in_ok-empty_line.ensures.line c.in-Some.ensures.name c.in-Some-market.ensures.name

pub returns-in_default-market-clause-emptied : goal.returns-in_default-market-clause-emptied
returns-in_default-market-clause-emptied c = none_emptied c.args.setup.now c.args.market c.args.symbol c.args.lines.now.items (inr c.in_default-market.ensures.name)

pub returns-in_default-clause-emptied : goal.returns-in_default-clause-emptied
returns-in_default-clause-emptied c = none_emptied c.args.setup.now c.args.market c.args.symbol c.args.lines.now.items (inl c.in_default.ensures.name)
