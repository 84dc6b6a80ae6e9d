use Rattle.std.proofs.Common.{◌≡◌, ◌<◌, ◌==◌, true, ℕ, List, [], ◌∷◌, arith, length, refl, sym, ap, ◌∙◌}
use Rattle.std.proofs.lemmas.Bool.Decides.{nat_tests}
use Rattle.line_reader.specs.Reading.{Reading}
use Rattle.line_reader.specs.NextLaws.{gives_line, gives_end, gives_long, line_ahead, end_ahead, long_ahead}
use Rattle.line_reader.proofs.ConfigLines.{behind_line, behind_nothing, behind_rest, behind_long}
use Rattle.line_reader.proofs.config_file.read_end.Goals as goal

empty_of : (xs : List ℕ) → (length xs == 0) ≡ true → xs ≡ []
empty_of [] e = refl
empty_of (x ∷ xs) e = grind (arith, nat_tests)

pub returns-in-Line-clause-err : goal.returns-in-Line-clause-err
returns-in-Line-clause-err g c config text e =
    let x = gives_line _ _ _ _ _ _ _ c.in-Line.is c.next.follows.holds-at-none in
    let more = line_ahead _ _ _ _ _ _ text x e in
    rw (c.lines-line.ensures.lines, more.2) (behind_line c.args.reader.now.lines c.args.reader.now.bytes config c.in-Line.text.now more.0 x.clear x.short)

pub returns-then-is_empty-clause-ok : goal.returns-then-is_empty-clause-ok
returns-then-is_empty-clause-ok g c config text e =
    let x = gives_end _ _ _ _ _ _ c.in-End.is c.next.follows.holds-at-none in
    let none : c.in-End.rest.now ≡ [] = empty_of c.in-End.rest.now (sym c.is_empty.ensures ∙ c.if-is_empty.true) in
    let same : c.next.follows.lender-at-none.bytes ≡ c.args.reader.now.bytes = ap (λ (r : Reading). r.bytes) x.same in
    rw (end_ahead _ _ _ _ _ text x e, none, same) (behind_nothing c.args.reader.now.lines c.args.reader.now.bytes config)

pub returns-else-is_empty-clause-err : goal.returns-else-is_empty-clause-err
returns-else-is_empty-clause-err g c config text e =
    let x = gives_end _ _ _ _ _ _ c.in-End.is c.next.follows.holds-at-none in
    let all = end_ahead _ _ _ _ _ text x e in
    let some : 0 < length c.in-End.rest.now = grind (arith, nat_tests) in
    rw (c.lines-line.ensures.lines, all) (behind_rest c.args.reader.now.lines c.args.reader.now.bytes config c.in-End.rest.now x.clear some x.short)

pub returns-in-TooLong-clause-err : goal.returns-in-TooLong-clause-err
returns-in-TooLong-clause-err g c config text e =
    let x = gives_long _ _ _ _ _ c.in-TooLong.is c.next.follows.holds-at-none in
    rw c.lines-line.ensures.lines (behind_long c.args.reader.now.lines c.args.reader.now.bytes config text (long_ahead _ _ _ _ text x e))
