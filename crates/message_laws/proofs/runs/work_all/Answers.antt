-- One more input by its answer, and behind the last input no more answers.
use Rattle.std.proofs.Common.{◌≡◌, ℕ, ◌+◌, ◌<◌, ◌++◌, List, [], ◌∷◌, Result, length, get_or, drop, refl, subst, append_assoc, arith}
use Rattle.std.proofs.lemmas.List.{drop_all, drop_more, append-nil}
use Rattle.venue_words.specs.declared.refusal.NoMemory.{NoMemory}
use Rattle.session_core.specs.declared.runs.Input.{Input}
use Rattle.session_core.specs.declared.turn.Turn.{Turn}
use Rattle.session_core.specs.Machine.{Machine}
use Rattle.session_core.specs.Runs.{Answers, Follows, machine_behind}
use Rattle.message_laws.proofs.runs.work_all.Goals as goal

pub returns-clause-follows : goal.returns-clause-follows
returns-clause-follows c =
    let index = c.loop-input.input-index in
    let inputs = c.args.inputs.now in
    let answers = c.loop-input.answers.items in
    let session = c.loop-input.session in
    let none_left : drop index inputs ≡ [] = drop_all index inputs (omega arith) in
    let all_given : answers ++ [] ≡ answers = append-nil answers in
    let behind : Follows session (drop index inputs) [] session = rw none_left refl in
    rw all_given at (c.loop-input.invariant.follows [] session behind)

one_more : (machine behind : Machine) (inputs : List Input) (i : ℕ) (input : Input) (answer : Result Turn NoMemory) (more : List (Result Turn NoMemory)) (last : Machine) →
    i < length inputs → input ≡ get_or inputs i input → Answers machine input answer → behind ≡ machine_behind machine input answer →
    Follows behind (drop (i + 1) inputs) more last → Follows machine (drop i inputs) (answer ∷ more) last
one_more machine behind inputs i input answer more last l e a b f =
    rw (drop_more inputs i input l, ← e) (a, subst (λ (m : Machine). Follows m (drop (i + 1) inputs) more last) b f)

pub loop-input-preserved : goal.loop-input-preserved
loop-input-preserved c =
    let m = c.loop-input in
    let answer = c.work-answer.result in record {
      follows = λ more last f.
          rw (c.push_reserved.ensures.items, append_assoc)
          (m.invariant.follows (answer ∷ more) last
          (one_more m.session c.work-answer.new.session c.args.inputs.now m.input-index c.input-item.result answer more last
          c.loop-input-test.true c.input-item.is c.work-answer.ensures.answer c.work-answer.ensures.machine f));
      room = omega arith;
    }
