use Rattle.std.proofs.Common.{◌≤◌, ◌++◌, ◌∷◌, [], subst, arith}
use Rattle.day_journal.specs.Log.{size_of}
use Rattle.journal_follow.specs.Files.{IsRead}
use Rattle.journal_follow.proofs.Pieces.{front_found, front_inside}
use Rattle.journal_follow.proofs.piece.lines_in_front.Goals as goal

pub returns-in-Whole-clause-found : goal.returns-in-Whole-clause-found
returns-in-Whole-clause-found c piece rest longer begins =
    let read = subst (IsRead (c.args.front.now ++ 0 ∷ [])) c.in-Whole.is c.in_ok-lines.ensures in
    front_found c.args.front.now piece rest c.in-Whole.lines.items c.requires.some read.0 longer begins

pub returns-in-Whole-clause-size : goal.returns-in-Whole-clause-size
returns-in-Whole-clause-size c =
    let read = subst (IsRead (c.args.front.now ++ 0 ∷ [])) c.in-Whole.is c.in_ok-lines.ensures in
    let within : size_of c.in-Whole.lines.items ≤ _ = front_inside c.args.front.now c.in-Whole.lines.items c.requires.some read.0 in
    (read.1, omega (arith, within, read.1))
