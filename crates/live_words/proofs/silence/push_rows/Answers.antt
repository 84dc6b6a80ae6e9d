use Rattle.std.proofs.Common.{◌≡◌, false, arith}
use Rattle.live_words.specs.Markets.{stands}
use Rattle.live_words.proofs.Silences.{rows_more, stands_within}
use Rattle.live_words.proofs.silence.push_rows.Goals.{then-does_stand+in_ok-push_row, else-does_stand}
use Rattle.live_words.proofs.silence.push_rows.Goals as goal

pub loop-symbol-preserved : goal.loop-symbol-preserved
loop-symbol-preserved c =
    let old = c.loop-symbol.invariant in
    elim c.if-does_stand.branch [
      | then-does_stand+in_ok-push_row w ↦
          rw w.lines-is (record {
            short = w.in_ok-push_row.ensures.short;
            within = omega (arith, c.loop-symbol-test.true);
            emptied = rows_more c.args.setup.now c.args.market c.args.rows.now c.loop-symbol.lines.items w.push_row.new.lines.items c.loop-symbol.symbol
                old.emptied w.in_ok-push_row.ensures.kept (λ up. w.in_ok-push_row.ensures.emptied);
            kept = λ line h. w.in_ok-push_row.ensures.kept line (old.kept line h);
          })
      | else-does_stand w ↦
          let not : false ≡ stands c.args.rows.now c.loop-symbol.symbol = w.if-does_stand.ensures in
          rw w.lines-is (record {
            short = old.short;
            within = omega (arith, c.loop-symbol-test.true);
            emptied = rows_more c.args.setup.now c.args.market c.args.rows.now c.loop-symbol.lines.items c.loop-symbol.lines.items c.loop-symbol.symbol
                old.emptied (λ line h. h) (λ up. absurd (cc));
            kept = old.kept;
          })
    ]

pub returns-clause-emptied : goal.returns-clause-emptied
returns-clause-emptied c s up = c.loop-symbol.invariant.emptied s (omega (arith, stands_within c.args.rows.now s up, c.loop-symbol-test.false)) up
