-- The lists say of the feeds what their files say.
use Rattle.std.proofs.Common.{◌≡◌, List, Some, None, true, option_map, sym, ◌∙◌, ap, subst}
use Rattle.std.specs.List.{All}
use Rattle.feeds_core.specs.Books.{count_at}
use Rattle.feeds_core.specs.FeedLists.{ListsAll, asked_in}
use Rattle.feeds_core.specs.FeedRuns.{run_of}
use Rattle.feeds_core.specs.FeedSums.{first_over}
use Rattle.feeds_core.specs.Judging.{refused_line}
use Rattle.feeds_core.specs.Working.{IsStopped}
use Rattle.feeds_core.specs.declared.feed_list.FeedList.{FeedList}
use Rattle.feeds_core.proofs.Worked.{full_stops, lists_all, sound_lists, stopped_at}
use Rattle.feeds_core.proofs.working.lists_of.Goals as goal

pub returns-in-Some-clause-stops : goal.returns-in-Some-clause-stops
returns-in-Some-clause-stops g c = λ already feeds kept.
    let config = c.args.config.now in
    let all = subst (λ (ls : List FeedList). ListsAll config true already feeds ls) (sym c.as_slice.ensures.value)
    (lists_all config already feeds c.args.texts.items c.in_ok-lists.lists.items kept c.in_ok-lists.ensures.lists) in
    subst (IsStopped (run_of config already feeds)) (sym c.refused_at.ensures)
    (stopped_at (run_of config already feeds) c.in-Some.line.file c.in-Some.line.fault
    (c.in_ok-refused.ensures.first config already feeds all ∙ ap (option_map refused_line) c.in-Some.is))

pub returns-in-Some-first_full-clause-stops : goal.returns-in-Some-first_full-clause-stops
returns-in-Some-first_full-clause-stops g c = λ already feeds kept.
    let config = c.args.config.now in
    let lists = c.in_ok-lists.lists.items in
    let listed = lists_all config already feeds c.args.texts.items lists kept c.in_ok-lists.ensures.lists in
    let all = subst (λ (ls : List FeedList). ListsAll config true already feeds ls) (sym c.as_slice.ensures.value) listed in
    full_stops config already feeds lists c.in-Some-first_full.symbol listed
    (c.in_ok-refused.ensures.first config already feeds all ∙ ap (option_map refused_line) c.in_default.is)
    (subst (All (λ list. list.fault ≡ None)) c.as_slice.ensures.value (c.in_ok-refused.ensures.clear c.in_default.is))
    (subst (λ (ls : List FeedList). Some c.in-Some-first_full.symbol ≡ first_over 0 config.limits (λ symbol. count_at symbol (asked_in ls)))
    c.as_slice-2.ensures.value c.in-Some-first_full.ensures.first)

pub returns-in-None-clause-sound : goal.returns-in-None-clause-sound
returns-in-None-clause-sound g c = λ already feeds kept.
    let config = c.args.config.now in
    let lists = c.in_ok-lists.lists.items in
    let listed = lists_all config already feeds c.args.texts.items lists kept c.in_ok-lists.ensures.lists in
    let all = subst (λ (ls : List FeedList). ListsAll config true already feeds ls) (sym c.as_slice.ensures.value) listed in
    sound_lists config already feeds lists listed
    (c.in_ok-refused.ensures.first config already feeds all ∙ ap (option_map refused_line) c.in_default.is)
    (subst (All (λ list. list.fault ≡ None)) c.as_slice.ensures.value (c.in_ok-refused.ensures.clear c.in_default.is))
    (subst (λ (ls : List FeedList). None ≡ first_over 0 config.limits (λ symbol. count_at symbol (asked_in ls)))
    c.as_slice-2.ensures.value c.in-None.ensures.first)
