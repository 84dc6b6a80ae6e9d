use Rattle.std.proofs.Common.{◌≡◌, ℕ, ◌+◌, ◌<◌, ◌++◌, min, List, Option, length, get_or, drop, take, refl, sym, ◌∙◌, append_assoc, arith, rules}
use Rattle.std.proofs.lemmas.Grind.{common_steps}
use Rattle.std.proofs.lemmas.List.{drop_more, length-take, get_or-take}
use Rattle.std.specs.Prelude.{ℤ}
use Rattle.session_core.specs.declared.message.Kept.{Kept}
use Rattle.session_core.specs.Resent.{frames_at, frames_from, run_behind}
use Rattle.session_core.proofs.resent.old_frames.Goals as goal

-- One more entry, by what its frames are and what is left, and behind the last entry the run that is open.

one_more : (member : List ℕ) (moment : ℤ) (run after : Option ℕ) (number i last : ℕ) (sent : List (Option Kept)) (entry : Option Kept) (before items : List (List ℕ)) →
    i < min last (length sent) → entry ≡ get_or sent i entry →
    items ≡ before ++ frames_at member moment run number entry → after ≡ run_behind run number entry →
    items ++ frames_from member moment after (number + 1) (drop (i + 1) (take last sent)) ≡ before ++ frames_from member moment run number (drop i (take last sent))
unfolding frames_from
one_more member moment run after number i last sent entry before items l e f r =
    let inside : i < length (take last sent) = rw (length-take last sent) l in
    let early : i < last = omega arith in
    let looked : get_or (take last sent) i entry ≡ entry = get_or-take last sent i entry early ∙ sym e in
    rw (f, r, drop_more (take last sent) i entry inside, looked, append_assoc) refl

pub loop-index-preserved : goal.loop-index-preserved
loop-index-preserved c = record {
  counted = omega arith;
  framed =
      let e = c.in_ok-run.ensures in
      let m = c.loop-index in
      one_more _ _ m.run c.in_ok-run.run' m.number m.index c.args.span.last c.args.sent.now c.get-entry.result m.frames.items c.push_entry.new.frames.items
      (omega arith) c.get-entry.ensures e.frames e.run
      ∙ m.invariant.framed;
}

pub loop-index-init : goal.loop-index-init
loop-index-init c = search rules

pub returns : goal.returns
unfolding frames_from
returns c = grind (arith, common_steps)
