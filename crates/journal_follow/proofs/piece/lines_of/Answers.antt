use Rattle.std.proofs.Common.{◌≡◌, ◌≤◌, ◌<◌, ℕ, List, length, take, subst, sym, ◌∙◌, ap, arith}
use Rattle.std.proofs.lemmas.List.{take-take, length-take-le}
use Rattle.std.proofs.lemmas.Result.{IfOk-weaker}
use Rattle.journal_follow.specs.Files.{IsRead}
use Rattle.journal_follow.specs.declared.piece.ReadAs.TheVariants.{Whole, Cut}
use Rattle.journal_follow.proofs.Pieces.{whole_found, whole_inside, damaged_found, no_shorter}
use Rattle.journal_follow.proofs.piece.lines_of.Goals as goal

pub returns-in-Whole-clause-found : goal.returns-in-Whole-clause-found
returns-in-Whole-clause-found c rest begins =
    let read : IsRead c.args.piece.now (Whole c.in-Whole.lines c.in-Whole.size) =
    subst (λ (l : List ℕ). IsRead l (Whole c.in-Whole.lines c.in-Whole.size)) c.in_ok-from_slice.ensures.items (subst (IsRead c.in_ok-from_slice.field-0.items) c.in-Whole.is c.in_ok-lines.ensures) in
    whole_found c.args.piece.now rest c.in-Whole.lines.items c.requires.some read.0 begins

pub returns-in-Whole-clause-size : goal.returns-in-Whole-clause-size
returns-in-Whole-clause-size c =
    let read : IsRead c.args.piece.now (Whole c.in-Whole.lines c.in-Whole.size) =
    subst (λ (l : List ℕ). IsRead l (Whole c.in-Whole.lines c.in-Whole.size)) c.in_ok-from_slice.ensures.items (subst (IsRead c.in_ok-from_slice.field-0.items) c.in-Whole.is c.in_ok-lines.ensures) in
    let within = whole_inside c.args.piece.now c.in-Whole.lines.items c.requires.some read.0 in
    (read.1, omega (arith, within, read.1))

pub returns-in-Cut-eq0-clause-found : goal.returns-in-Cut-eq0-clause-found
returns-in-Cut-eq0-clause-found c rest begins =
    let read : IsRead c.args.piece.now (Cut c.in-Cut-eq0.field-0) =
    subst (λ (l : List ℕ). IsRead l (Cut c.in-Cut-eq0.field-0)) c.in_ok-from_slice.ensures.items (subst (IsRead c.in_ok-from_slice.field-0.items) c.in-Cut-eq0.is c.in_ok-lines.ensures) in
    rw (c.nothing.ensures.0, c.nothing.ensures.2) (damaged_found c.args.piece.now rest c.requires.some read.0 (omega (arith, read.1, c.in-Cut-eq0.field-0-test)) begins)

pub returns-in-Cut-clause-found : goal.returns-in-Cut-clause-found
returns-in-Cut-clause-found c =
    let piece = c.args.piece.now in
    let n = c.min-front.result in
    let less : n < length piece = omega (arith, c.min-front.ensures, c.requires.some) in
    let front_length : length (take n piece) ≡ n = length-take-le n piece (omega (arith, less)) in
    IfOk-weaker c.lines_in_front.result _ _ (λ found there rest begins.
    let longer : length piece ≤ length rest = no_shorter rest piece begins in
    let begins_front : take (length (take n piece)) rest ≡ take n piece =
    ap (λ (k : ℕ). take k rest) front_length ∙ sym (take-take n (length piece) rest (omega (arith, less))) ∙ ap (λ (l : List ℕ). take n l) begins in
    there piece rest (omega (arith, front_length, less, longer)) begins_front) c.lines_in_front.ensures.found
