-- One more share has its number.
use Rattle.std.proofs.Common.{◌+◌, ◌∷◌, ◌++◌, [], List, length, refl, sym, ap, ◌∙◌, subst, append_assoc, length-append, arith, Vec}
use Rattle.std.specs.declared.alloc.Global.{Global}
use Rattle.feed_work.specs.Feeds.{Asked}
use Rattle.feed_work.specs.Working.{AreNumbered}
use Rattle.feed_work.proofs.Numbering.{numbered_length, numbered_snoc}
use Rattle.feed_work.proofs.Places.{all_of}
use Rattle.feed_work.proofs.share.numbered.Goals as goal

pub loop-share-init : goal.loop-share-init
loop-share-init g c =
    let e = c.into_iter-share-iterator.ensures.into_iter_gives.0 in (
      subst (AreNumbered 1 []) (sym c.in_ok-numbered.ensures.items) tt,
      sym e,
      (let h = c.into_iter-share-iterator.ensures.into_iter_gives.1 in let k = ap length e in let w = c.args.shares.ok in omega arith),
    )

pub returns : goal.returns
returns g c =
    let inv = c.loop-share.invariant in
    let all = all_of c.args.shares.items c.loop-share.yielded c.loop-share.share-iterator.rest.items inv.1
    (inv.2 ∙ c.in-None.ensures.steps.0) in
    subst (λ (l : List (_ × Vec Asked Global)). AreNumbered 1 l c.loop-share.numbered.items) (sym all) inv.0

pub overflow_cast-feed : goal.overflow_cast-feed
overflow_cast-feed g c =
    let inv = c.loop-share.invariant in
    let few = c.requires in
    omega (
      arith,
      c.len-in-loop-share.ensures,
      numbered_length 1 c.loop-share.yielded c.loop-share.numbered.items inv.0,
      ap length inv.1,
      length-append c.loop-share.yielded c.loop-share.share-iterator.rest.items,
    )

pub overflow_add-feed : goal.overflow_add-feed
overflow_add-feed g c =
    let inv = c.loop-share.invariant in
    let few = c.requires in
    omega (
      arith,
      c.len-in-loop-share.ensures,
      numbered_length 1 c.loop-share.yielded c.loop-share.numbered.items inv.0,
      ap length inv.1,
      length-append c.loop-share.yielded c.loop-share.share-iterator.rest.items,
    )

pub loop-share-preserved : goal.loop-share-preserved
loop-share-preserved g c =
    let inv = c.loop-share.invariant in
    let yielded = c.loop-share.yielded in
    let share = c.in-Some.share in
    let next = c.next.new.self.rest.items in
    let e = c.in-Some.ensures.steps.0 in
    let count = numbered_length 1 yielded c.loop-share.numbered.items inv.0 in
    let at = c.len-in-loop-share.result + 1 in (
      subst (AreNumbered 1 (yielded ++ share ∷ [])) (sym c.in_ok-push.ensures.items)
          (numbered_snoc 1 at yielded c.loop-share.numbered.items share (record { floor = share.0; feed = at; commands = share.1 }) inv.0
          (omega (arith, c.len-in-loop-share.ensures, count)) refl),
      inv.1 ∙ ap (λ (l : List (_ × Vec Asked Global)). yielded ++ l) e ∙ sym (append_assoc yielded (share ∷ []) next),
      (let h = ap length e in let k = c.in-Some.ensures.steps.1 in let w = inv.2 in omega arith),
    )
