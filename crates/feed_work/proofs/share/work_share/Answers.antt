-- The commands so far were taken, and those that are left are of configured things.
use Rattle.std.proofs.Common.{◌≡◌, ◌++◌, List, [], ◌∷◌, length, slice_index, refl, sym, ap, ◌∙◌, subst, append_assoc, arith}
use Rattle.std.specs.List.{All}
use Rattle.std.proofs.lemmas.List.Elements.{All-head, All-tail}
use Rattle.venue_words.specs.Floors.{FloorMark}
use Rattle.venue_words.specs.Journals.{IfFull}
use Rattle.feed_work.specs.Feeds.{Asked, IsFor}
use Rattle.feed_work.proofs.Growing.{begin, turn, wait, finished}
use Rattle.feed_work.proofs.share.work_share.Goals as goal

pub loop-asked-init : goal.loop-asked-init
loop-asked-init g c =
    let e = c.into_iter-asked-iterator.ensures.into_iter_gives.0 in record {
      mark = refl;
      grew = begin c.args.share.feed (g.F.Floor.at c.args.share.floor);
      order = sym e;
      configured = subst (All (IsFor (g.F.Floor.mark c.args.share.floor).setup)) (sym e) c.requires;
      count = (let h = c.into_iter-asked-iterator.ensures.into_iter_gives.1 in let k = ap length e in let w = c.args.share.commands.ok in omega arith);
    }

pub loop-asked-preserved : goal.loop-asked-preserved
loop-asked-preserved g c =
    let inv = c.loop-asked.invariant in
    let next = c.next.new.self.rest.items in
    let yielded = c.loop-asked.yielded in
    let steps : c.loop-asked.asked-iterator.rest.items ≡ c.in-Some.asked ∷ next = c.in-Some.ensures.steps.0 in
    let setup = (g.F.Floor.mark c.args.share.floor).setup in record {
      mark = c.submit.ensures.mark ∙ inv.mark;
      grew = turn c.args.share.feed (g.F.Floor.at c.args.share.floor) (g.F.Floor.at c.loop-asked.floor) (g.F.Floor.at c.submit.new.floor)
          yielded c.in-Some.asked c.in-Ok.field-0 inv.grew c.submit.ensures.others c.in-Ok.ensures.ok;
      order = inv.order ∙ ap (λ (l : List Asked). yielded ++ l) steps ∙ sym (append_assoc yielded (c.in-Some.asked ∷ []) next);
      configured = All-tail (IsFor setup) c.in-Some.asked next (subst (All (IsFor setup)) steps inv.configured);
      count = (let h = ap length steps in let k = c.in-Some.ensures.steps.1 in let w = inv.count in omega arith);
    }

pub submit-requires : goal.submit-requires
submit-requires g c =
    let inv = c.loop-asked.invariant in
    let next = c.next.new.self.rest.items in
    let steps : c.loop-asked.asked-iterator.rest.items ≡ c.in-Some.asked ∷ next = c.in-Some.ensures.steps.0 in
    let setup = (g.F.Floor.mark c.args.share.floor).setup in
    subst (λ (m : FloorMark). IsFor m.setup c.in-Some.asked) (sym inv.mark)
    (All-head (IsFor setup) c.in-Some.asked next (subst (All (IsFor setup)) steps inv.configured))

pub returns : goal.returns
returns g c =
    let inv = c.loop-asked.invariant in record {
      mark_is = inv.mark;
      calls = finished c.args.share.feed (g.F.Floor.at c.args.share.floor) (g.F.Floor.at c.loop-asked.floor)
          c.args.share.commands.items c.loop-asked.yielded c.loop-asked.asked-iterator.rest.items inv.order
          (inv.count ∙ c.in-None.ensures.steps.0) inv.grew;
    }

pub returns-in-Err : goal.returns-in-Err
returns-in-Err g c =
    let inv = c.loop-asked.invariant in
    let next = c.next.new.self.rest.items in
    let yielded = c.loop-asked.yielded in
    let steps : c.loop-asked.asked-iterator.rest.items ≡ c.in-Some.asked ∷ next = c.in-Some.ensures.steps.0 in record {
      mark_is = c.submit.ensures.mark ∙ inv.mark;
      calls = record {
        first = yielded;
        next = c.in-Some.asked;
        left = next;
        commands_are = inv.order ∙ ap (λ (l : List Asked). yielded ++ l) steps;
        grew = wait c.args.share.feed (g.F.Floor.at c.args.share.floor) (g.F.Floor.at c.loop-asked.floor) (g.F.Floor.at c.submit.new.floor)
            yielded c.in-Some.asked.0 inv.grew c.submit.ensures.others c.in-Err.ensures.err;
        full = subst (λ (m : FloorMark). IfFull (λ found. (found ≡ length (g.F.Floor.at c.submit.new.floor c.in-Some.asked.0).journal)
            × (found ≡ slice_index m.setup.limits c.in-Some.asked.0)) c.in-Err.why) inv.mark c.in-Err.ensures.full;
      };
    }
