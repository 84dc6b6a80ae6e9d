-- An answer or a command; a refusal before either leaves all as it was.
use Rattle.std.proofs.Common.{◌≡◌, ◌++◌, ◌∷◌, List, [], Some, ◌∙◌, ap, rules}
use Rattle.std.proofs.lemmas.Result.{err_from_is_err_and}
use Rattle.std.specs.Option.{option_to_list}
use Rattle.member_gate.specs.Answering.{answer}
use Rattle.member_gate.proofs.Taking.{none_taken}
use Rattle.member_gate.proofs.working.work_request.Goals as goal

pub returns-in_err-reserve-clause-none : goal.returns-in_err-reserve-clause-none
returns-in_err-reserve-clause-none g c =
    let p = err_from_is_err_and c.from_residual.result c.from_residual.ensures.1 in
    rw (p.1, p.2) (none_taken g.F.Floor.at g.F.Floor.step_limit (g.F.Floor.mark c.args.floor.now) c.args.origin.feed c.args.origin.moment _ (c.args.floor.now, c.args.steps.now))

pub returns-in_err-reply-clause-none : goal.returns-in_err-reply-clause-none
returns-in_err-reply-clause-none g c =
    let p = err_from_is_err_and c.from_residual-in_err-reply.result c.from_residual-in_err-reply.ensures.1 in
    rw (p.1, p.2) c.in_err-reply.ensures.none

pub returns-in-None-clause-count : goal.returns-in-None-clause-count
returns-in-None-clause-count g c = search rules

pub returns-in-Some-2-clause-replies : goal.returns-in-Some-2-clause-replies
returns-in-Some-2-clause-replies g c =
    let origin = c.args.origin in
    let old = c.args.worked.now.replies.items in
    let reply : option_to_list (Some c.in-Some-2.reply) ≡ (answer origin.config.now origin.member origin.moment c.args.session.now c.args.request.now).replies = cc (c.in_ok-reply.ensures.reply, c.in-Some-2.is) in
    c.push_reserved.ensures.items ∙ ap (λ (xs : List (List _)). xs ++ c.in-Some-2.reply ∷ []) c.reserve.ensures.items ∙ ap (λ (xs : List (List _)). old ++ xs) reply
