use Rattle.std.proofs.Common.{◌≡◌, ◌+◌, ◌-◌, ◌<◌, ◌≤◌, ℕ, List, [], length, drop, get_or, nat_lt, false, refl, sym, ◌∙◌, ap, subst, arith}
use Rattle.std.proofs.lemmas.Bool.Decides.{nat_tests}
use Rattle.venue_words.specs.declared.limits.TheConstants.{MAX_SCRIPT_BYTES}
use Rattle.script_text.specs.Load.{load_lines}
use Rattle.replay_core.specs.Loading.{loaded, LoadsTo}
use Rattle.replay_core.proofs.Loads.{line_count, no_more, loads_first, loads_on, loads_fault, loads_stopped, line_stands, long_unworked, only_memory}
use Rattle.replay_core.proofs.loading.play_lines.Goals as goal

pub loop-done-init : goal.loop-done-init
loop-done-init g c = record {
  goes = loads_first g.F.Floor.at c.args.orders c.args.quotes c.args.steps.now _ c.begin_anew.ensures.stage;
  within = omega arith;
  ready = c.begin_anew.ensures.ready;
}

pub loop-done-preserved : goal.loop-done-preserved
loop-done-preserved g c =
    let lines = load_lines c.args.orders c.args.quotes in
    let count = line_count c.args.orders c.args.quotes in
    let inside : c.loop-done.done < length lines = omega arith in
    let same : c.loop-done.done + 1 - 1 ≡ c.loop-done.done = omega arith in
    let part : c.in-Ok.line.text.now ≡ get_or lines c.loop-done.done [] =
    c.in-Ok.ensures.ok.1 ∙ c.as_slice.ensures.value ∙ c.in_ok-line.ensures ∙ ap (λ (n : ℕ). get_or lines n []) same in
    let over : c.in-Ok.line.is_over ≡ nat_lt MAX_SCRIPT_BYTES (c.loop-done.bytes + length c.in-Ok.line.text.now + 1) =
    c.in-Ok.ensures.ok.3 ∙ ap (λ (t : List ℕ). nat_lt MAX_SCRIPT_BYTES (c.loop-done.bytes + length t + 1)) (sym c.in-Ok.ensures.ok.1) in
    let goes = c.loop-done.invariant.goes in
    let line = line_stands g.F.Floor.at _ _ _ _ _ _ c.loop-done.phase _ _ _ goes c.in-Ok.ensures.ok.0 over in
    let test : nat_lt MAX_SCRIPT_BYTES (c.loop-done.bytes + length c.in-Ok.line.text.now + 1) ≡ false = sym over ∙ c.in-Ok-work_line.ensures.within in
    let within : c.loop-done.bytes + length c.in-Ok.line.text.now + 1 ≤ MAX_SCRIPT_BYTES = grind (arith, nat_tests) in
    record {
      goes = loads_on g.F.Floor.at (loaded c.args.orders c.args.quotes) lines c.loop-done.done c.loop-done.bytes c.args.steps.now c.loop-done.steps
          c.work_line.new.steps c.loop-done.phase c.work_line.new.phase c.in-Ok.line.text.now c.work_line.new.out.items goes inside part
          (record {
            answer = c.in-Ok-work_line.ensures.answer goes.place goes.there line;
            steps = c.in-Ok-work_line.ensures.steps goes.place goes.there line;
          });
      within = omega (arith, within);
      ready = c.in-Ok-work_line.ensures.ready;
    }

pub returns-in-Err-clause-err : goal.returns-in-Err-clause-err
returns-in-Err-clause-err g c =
    let lines = load_lines c.args.orders c.args.quotes in
    let count = line_count c.args.orders c.args.quotes in
    let inside : c.loop-done.done < length lines = omega arith in
    let same : c.loop-done.done + 1 - 1 ≡ c.loop-done.done = omega arith in
    let part : c.as_slice.result.now ≡ get_or lines c.loop-done.done [] =
    c.as_slice.ensures.value ∙ c.in_ok-line.ensures ∙ ap (λ (n : ℕ). get_or lines n []) same in
    let goes = c.loop-done.invariant.goes in
    rw c.in-Err.ensures.err.0 (only_memory c.args.orders c.args.quotes _ (loads_fault g.F.Floor.at (loaded c.args.orders c.args.quotes) lines c.loop-done.done c.loop-done.bytes c.args.steps.now
    c.loop-done.steps c.loop-done.steps c.loop-done.phase c.as_slice.result.now _ goes inside part
    (long_unworked g.F.Floor.at _ _ _ _ _ _ c.loop-done.phase (c.loop-done.done + 1) _ goes refl c.in-Err.ensures.err.1))
    c.requires.orders c.requires.quotes)

pub returns-in-Err-work_line-clause-err : goal.returns-in-Err-work_line-clause-err
returns-in-Err-work_line-clause-err g c =
    let lines = load_lines c.args.orders c.args.quotes in
    let count = line_count c.args.orders c.args.quotes in
    let inside : c.loop-done.done < length lines = omega arith in
    let same : c.loop-done.done + 1 - 1 ≡ c.loop-done.done = omega arith in
    let part : c.in-Ok.line.text.now ≡ get_or lines c.loop-done.done [] =
    c.in-Ok.ensures.ok.1 ∙ c.as_slice.ensures.value ∙ c.in_ok-line.ensures ∙ ap (λ (n : ℕ). get_or lines n []) same in
    let over : c.in-Ok.line.is_over ≡ nat_lt MAX_SCRIPT_BYTES (c.loop-done.bytes + length c.in-Ok.line.text.now + 1) =
    c.in-Ok.ensures.ok.3 ∙ ap (λ (t : List ℕ). nat_lt MAX_SCRIPT_BYTES (c.loop-done.bytes + length t + 1)) (sym c.in-Ok.ensures.ok.1) in
    let goes = c.loop-done.invariant.goes in
    let line = line_stands g.F.Floor.at _ _ _ _ _ _ c.loop-done.phase _ _ _ goes c.in-Ok.ensures.ok.0 over in
    only_memory c.args.orders c.args.quotes _ (loads_fault g.F.Floor.at (loaded c.args.orders c.args.quotes) lines c.loop-done.done c.loop-done.bytes c.args.steps.now
    c.loop-done.steps c.work_line.new.steps c.loop-done.phase c.in-Ok.line.text.now c.in-Err-work_line.fault goes inside part
    (record {
      answer = c.in-Err-work_line.ensures.answer goes.place goes.there line;
      steps = c.in-Err-work_line.ensures.steps goes.place goes.there line;
    })) c.requires.orders c.requires.quotes

pub returns-in-Err-work_line-clause-steps : goal.returns-in-Err-work_line-clause-steps
returns-in-Err-work_line-clause-steps g c =
    let lines = load_lines c.args.orders c.args.quotes in
    let count = line_count c.args.orders c.args.quotes in
    let inside : c.loop-done.done < length lines = omega arith in
    let same : c.loop-done.done + 1 - 1 ≡ c.loop-done.done = omega arith in
    let part : c.in-Ok.line.text.now ≡ get_or lines c.loop-done.done [] =
    c.in-Ok.ensures.ok.1 ∙ c.as_slice.ensures.value ∙ c.in_ok-line.ensures ∙ ap (λ (n : ℕ). get_or lines n []) same in
    let over : c.in-Ok.line.is_over ≡ nat_lt MAX_SCRIPT_BYTES (c.loop-done.bytes + length c.in-Ok.line.text.now + 1) =
    c.in-Ok.ensures.ok.3 ∙ ap (λ (t : List ℕ). nat_lt MAX_SCRIPT_BYTES (c.loop-done.bytes + length t + 1)) (sym c.in-Ok.ensures.ok.1) in
    let goes = c.loop-done.invariant.goes in
    let line = line_stands g.F.Floor.at _ _ _ _ _ _ c.loop-done.phase _ _ _ goes c.in-Ok.ensures.ok.0 over in
    loads_stopped g.F.Floor.at (loaded c.args.orders c.args.quotes) lines c.loop-done.done c.loop-done.bytes c.args.steps.now
    c.loop-done.steps c.work_line.new.steps c.loop-done.phase c.in-Ok.line.text.now c.in-Err-work_line.fault goes inside part
    (record {
      answer = c.in-Err-work_line.ensures.answer goes.place goes.there line;
      steps = c.in-Err-work_line.ensures.steps goes.place goes.there line;
    })

pub returns-clause-ok : goal.returns-clause-ok
returns-clause-ok g c =
    let all : c.loop-done.done ≡ c.args.orders + c.args.quotes + 8 = omega arith in (
      c.loop-done.bytes,
      subst (λ (rest : List (List ℕ)). LoadsTo g.F.Floor.at (loaded c.args.orders c.args.quotes) rest c.args.steps.now c.loop-done.steps
          (c.args.orders + c.args.quotes + 8) c.loop-done.bytes c.loop-done.phase) (no_more c.loop-done.done c.args.orders c.args.quotes all)
          (subst (λ (n : ℕ). LoadsTo g.F.Floor.at (loaded c.args.orders c.args.quotes)
          (drop c.loop-done.done (load_lines c.args.orders c.args.quotes)) c.args.steps.now c.loop-done.steps n c.loop-done.bytes c.loop-done.phase)
          all c.loop-done.invariant.goes),
    )
