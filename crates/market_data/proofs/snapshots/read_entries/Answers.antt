-- Each entry is passed, and behind the last one none is left.
use Rattle.std.proofs.Common.{List, drop, subst, sym, ◌∙◌, ap, append-nil, ◌++◌}
use Rattle.std.proofs.Math.ListN.{drop_of_length-le}
use Rattle.std.proofs.lemmas.List.{drop-drop}
use Rattle.fix_fields.specs.declared.field.Field.{Field}
use Rattle.market_data.specs.Entries.{entries_of, used_quotes}
use Rattle.market_data.specs.Faults.{entries_fault}
use Rattle.market_data.specs.Snapshots.{PassesFirst}
use Rattle.market_data.proofs.EntrySteps.{entries-none, tail}
use Rattle.market_data.proofs.snapshots.read_entries.Goals as goal

pub loop-at-preserved : goal.loop-at-preserved
loop-at-preserved c =
    let passed : PassesFirst c.args.markets.now (drop c.loop-at.at c.args.fields.now) c.loop-at.quotes.items c.read_first.new.quotes.items =
    subst (λ (fs : List Field). PassesFirst c.args.markets.now fs c.loop-at.quotes.items c.read_first.new.quotes.items) (tail c.loop-at.at c.args.fields.now) c.in_ok-read_first.ensures.passed in
    let next = drop-drop 1 c.loop-at.at c.args.fields.now in record {
      fault = c.loop-at.invariant.fault ∙ passed.fault ∙ ap (λ (fs : List Field). entries_fault c.args.markets.now (entries_of fs)) next;
      quotes =
          c.loop-at.invariant.quotes ∙ passed.quotes
          ∙ ap (λ (fs : List Field). c.read_first.new.quotes.items ++ used_quotes c.args.markets.now (entries_of fs)) next;
    }

pub returns-clause-passed : goal.returns-clause-passed
returns-clause-passed c =
    c.loop-at.invariant.fault
    ∙ ap (λ (fs : List Field). entries_fault c.args.markets.now (entries_of fs)) (drop_of_length-le c.args.fields.now c.loop-at-test.false)
    ∙ ap (entries_fault c.args.markets.now) entries-none

pub returns-clause-quotes : goal.returns-clause-quotes
returns-clause-quotes c =
    sym (c.loop-at.invariant.quotes
    ∙ ap (λ (fs : List Field). c.loop-at.quotes.items ++ used_quotes c.args.markets.now (entries_of fs)) (drop_of_length-le c.args.fields.now c.loop-at-test.false)
    ∙ ap (λ es. c.loop-at.quotes.items ++ used_quotes c.args.markets.now es) entries-none
    ∙ append-nil c.loop-at.quotes.items)
