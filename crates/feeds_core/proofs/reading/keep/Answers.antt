-- Line by line.
use Rattle.std.proofs.Common.{◌≡◌, ◌<◌, ◌==◌, ◌++◌, ◌∷◌, [], ℕ, true, false, List, length, refl, sym, ◌∙◌, ap, arith, rules, append_assoc}
use Rattle.std.proofs.lemmas.Bool.Decides.{nat_tests}
use Rattle.line_reader.specs.Reading.{Reading}
use Rattle.line_reader.specs.NextLaws.{gives_line, gives_end, gives_long, end_ahead, long_ahead}
use Rattle.feeds_core.proofs.Keeping.{lines_more}
use Rattle.feeds_core.proofs.Kept.{front_first, whole_none, front_more, line_bytes, line_within, line_past, if_told, kept_over, kept_whole, kept_unended, kept_long}
use Rattle.feeds_core.proofs.reading.keep.Goals as goal
use Rattle.feeds_core.proofs.reading.keep.Goals.{in-Line+in_ok-extend_from_slice-in-Line+in_ok-push-in-Line+else-not-is_over, in-End, in-End-2, in-TooLong}

empty_of : (xs : List ℕ) → (length xs == 0) ≡ true → xs ≡ []
empty_of [] e = refl
empty_of (x ∷ xs) e = grind (arith, nat_tests)

some_of : (xs ys : List ℕ) → ys ≡ xs → (length xs == 0) ≡ false → 0 < length ys
some_of xs ys e h = rw e (grind (arith, nat_tests))

pub loop-text-init : goal.loop-text-init
loop-text-init g c =
    let held = ap (λ (r : Reading). r.held) c.requires.start in
    let bytes = ap (λ (r : Reading). r.bytes) c.requires.start in
    let most = ap (λ (r : Reading). r.most) c.requires.start in
    let none : c.new-lines.result.items ≡ [] = c.new-lines.ensures.items in
    let size = ap (length {A = ℕ}) none in
    record {
      front = front_first _ _ _ held none;
      whole = whole_none _ none;
      bytes = omega arith;
      most = most;
      within = omega (arith, bytes, most, c.requires.within);
      told = refl;
      begun = c.requires.begun;
      later = omega arith;
      sure = λ sure. sure;
    }

pub loop-text-preserved : goal.loop-text-preserved
loop-text-preserved g c =
    let i = c.loop-text.invariant in
    let x = gives_line _ _ _ _ _ _ _ c.in-Line.is c.next.follows.holds-at-none in
    let lines = c.in_ok-push-in-Line.ensures.items ∙ ap (λ (ls : List ℕ). ls ++ 10 ∷ []) c.in_ok-extend_from_slice-in-Line.ensures.items ∙ append_assoc c.loop-text.lines.items c.in-Line.text.now (10 ∷ []) in
    let bytes = ap (λ (r : Reading). r.bytes) x.next in
    let most = ap (λ (r : Reading). r.most) x.next in
    record {
      front = λ text e. front_more _ _ _ _ _ _ _ text _ (i.front text e) x lines;
      whole = lines_more _ _ _ lines x.clear i.whole;
      bytes = line_bytes _ _ _ _ _ _ lines bytes i.bytes;
      most = most ∙ i.most;
      within = line_within _ _ _ _ _ _ x (search rules);
      told = c.in-Line.ensures.told ∙ i.told;
      begun = c.in-Line.ensures.begun;
      later = omega (arith, c.in-Line.ensures.later, i.later);
      sure = λ sure. (c.in-Line.ensures.sure (i.sure sure)).0;
    }

pub returns-in-loop-text-clause-keeps : goal.returns-in-loop-text-clause-keeps
returns-in-loop-text-clause-keeps g c = if_told _ _ (λ text e.
    let i = c.loop-text.invariant in
    let f = i.front text e in
    elim c.match-next.branch [
      | in-Line+in_ok-extend_from_slice-in-Line+in_ok-push-in-Line+else-not-is_over w ↦
          let x = gives_line _ _ _ _ _ _ _ w.in-Line.is c.next.follows.holds-at-none in
          let lines = w.in_ok-push-in-Line.ensures.items ∙ ap (λ (ls : List ℕ). ls ++ 10 ∷ []) w.in_ok-extend_from_slice-in-Line.ensures.items ∙ append_assoc c.loop-text.lines.items w.in-Line.text.now (10 ∷ []) in
          let m = front_more _ _ _ _ _ _ _ text _ f x lines in
          let past = line_past _ _ _ _ _ _ x (search rules) in
          let bytes = ap (λ (r : Reading). r.bytes) x.next in
          kept_over _ text c.loop-text.lines.items w.push.new.self.items w.in-Line.text.now m.more _ refl (search rules) w.end-is lines m.text_is x.clear i.whole
          (omega (arith, past, bytes, i.bytes, i.most))
      | in-End w ↦
          let x = gives_end _ _ _ _ _ _ w.in-End.is c.next.follows.holds-at-none in
          let all = end_ahead _ _ _ _ _ f.more x f.behind in
          kept_whole _ text c.loop-text.lines.items f.more _ refl (search rules) w.end-is i.whole f.text_is
          (all ∙ empty_of _ (sym w.is_empty.ensures ∙ w.if-is_empty.true)) (omega (arith, i.bytes, i.within, i.most))
      | in-End-2 w ↦
          let x = gives_end _ _ _ _ _ _ w.in-End.is c.next.follows.holds-at-none in
          let all = end_ahead _ _ _ _ _ f.more x f.behind in
          kept_unended _ text c.loop-text.lines.items f.more _ refl (search rules) w.end-is i.whole f.text_is
          (rw all x.clear) (some_of _ _ all (sym w.is_empty.ensures ∙ w.if-is_empty.false)) (rw all x.short)
      | in-TooLong w ↦
          let x = gives_long _ _ _ _ _ w.in-TooLong.is c.next.follows.holds-at-none in
          kept_long _ text c.loop-text.lines.items f.more _ refl (search rules) w.end-is i.whole f.text_is (long_ahead _ _ _ _ f.more x f.behind)
    ])
