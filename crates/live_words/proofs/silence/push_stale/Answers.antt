use Rattle.std.proofs.Common.{Bool, List, subst, arith}
use Rattle.live_words.specs.Silence.{AreRowsEmptied}
use Rattle.live_words.proofs.Silences.{markets_more, within}
use Rattle.live_words.proofs.silence.push_stale.Goals as goal

pub loop-market-preserved : goal.loop-market-preserved
loop-market-preserved c =
    let old = c.loop-market.invariant in
    let new = c.push_rows.new.lines.items in
    record {
      short = c.in_ok-push_rows.ensures.short;
      within = omega (arith, c.loop-market-test.true);
      emptied = markets_more c.args.setup.now c.args.markets.now c.args.now c.args.limit c.loop-market.lines.items new c.loop-market.market
          old.emptied c.in_ok-push_rows.ensures.kept
          (λ m at quiet. subst (λ (rows : List Bool). AreRowsEmptied c.args.setup.now c.loop-market.market rows new) (c.quiet_rows-rows.ensures m at quiet) c.in_ok-push_rows.ensures.emptied);
      kept = λ line h. c.in_ok-push_rows.ensures.kept line (old.kept line h);
    }

pub returns-clause-emptied : goal.returns-clause-emptied
returns-clause-emptied c market m at quiet = c.loop-market.invariant.emptied market m (omega (arith, within c.args.markets.now market m at, c.loop-market-test.false)) at quiet
