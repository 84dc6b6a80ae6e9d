-- Feed by feed.
use Rattle.std.proofs.Common.{◌≡◌, ℕ, ◌||◌, List, None, take, sym, ◌∙◌, ap, subst, rules}
use Rattle.std.proofs.lemmas.List.{take_all}
use Rattle.std.proofs.lemmas.List.Elements.{All-nil, All-more, All-same}
use Rattle.feeds_core.specs.Judging.{is_among}
use Rattle.feeds_core.specs.Naming.{has_name, refused_by}
use Rattle.feeds_core.specs.declared.feed_list.FeedList.{FeedList}
use Rattle.feeds_core.specs.declared.naming.Naming.{Naming}
use Rattle.feeds_core.proofs.Judgements.{judged_first, judged_stops, judged_goes, judged_ends, none_own}
use Rattle.feeds_core.proofs.refused.first_refused.Goals as goal

pub loop-place-init : goal.loop-place-init
loop-place-init c = record {
  judged = λ config already texts all. let h = judged_first config already texts c.args.lists.now all in search (rules, h);
  clear = All-nil (λ (list : FeedList). list.fault ≡ None);
}

pub returns-in-Some-clause-first : goal.returns-in-Some-clause-first
returns-in-Some-clause-first c config already texts all =
    let list = c.index-lists-place.result in
    judged_stops config already texts c.args.lists.now c.loop-place.place c.loop-place.taken.items list c.in-Some.fault
    c.loop-place-test.true c.index-lists-place.is (c.loop-place.invariant.judged config already texts all)
    (ap (λ (ms : List ℕ). refused_by (is_among ms) list.named.items list.fault) (sym c.as_slice.ensures.value) ∙ sym c.refused_in.ensures ∙ c.in-Some.is)

pub loop-place-preserved : goal.loop-place-preserved
loop-place-preserved c =
    let list = c.index-lists-place.result in
    let none : c.refused_in.result ≡ None = search rules in
    let clear : refused_by (is_among c.loop-place.taken.items) list.named.items list.fault ≡ None =
    ap (λ (ms : List ℕ). refused_by (is_among ms) list.named.items list.fault) (sym c.as_slice.ensures.value) ∙ sym c.refused_in.ensures ∙ none in
    let own : list.fault ≡ None = none_own (is_among c.loop-place.taken.items) list.named.items list.fault clear in
    record {
      judged = λ config already texts all.
          judged_goes config already texts c.args.lists.now c.loop-place.place c.loop-place.taken.items c.take_all.new.taken.items list
          c.loop-place-test.true c.index-lists-place.is (c.loop-place.invariant.judged config already texts all) clear
          (λ member. c.in_ok-take_all.ensures member
          ∙ ap (λ (ns : List Naming). is_among c.loop-place.taken.items member || has_name ns member) c.as_slice-in-loop-place.ensures.value);
      clear = All-more (λ (l : FeedList). l.fault ≡ None) c.args.lists.now c.loop-place.place list c.loop-place-test.true c.loop-place.invariant.clear
          (subst (λ (l : FeedList). l.fault ≡ None) c.index-lists-place.is own);
    }

pub returns-clause-first : goal.returns-clause-first
returns-clause-first c config already texts all =
    judged_ends config already texts c.args.lists.now c.loop-place.place c.loop-place.taken.items c.loop-place-test.false
    (c.loop-place.invariant.judged config already texts all)

pub returns-clause-clear : goal.returns-clause-clear
returns-clause-clear c same =
    All-same (λ (l : FeedList). l.fault ≡ None) c.args.lists.now (take c.loop-place.place c.args.lists.now)
    (sym (take_all c.loop-place.place c.args.lists.now c.loop-place-test.false)) c.loop-place.invariant.clear
