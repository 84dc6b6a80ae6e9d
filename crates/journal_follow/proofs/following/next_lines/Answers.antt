use Rattle.std.proofs.Common.{◌≡◌, ℕ, length, ◌∙◌, subst, arith}
use Rattle.journal_follow.specs.Files.{BeginsWith, IsPiece}
use Rattle.journal_follow.specs.Following.{IsFound}
use Rattle.journal_follow.proofs.Looking.{if_both, begins_later, rest_is, read_found}
use Rattle.journal_follow.proofs.following.next_lines.Goals as goal

pub returns-then-count-le1-clause-found : goal.returns-then-count-le1-clause-found
returns-then-count-le1-clause-found g c past gate begins =
    let told = g.J.JournalFile.told in
    let room = c.read_at.new.buffer in
    let count = c.in_ok-count.count in
    let size : length room ≡ 65536 = c.read_at.auto.buffer ∙ c.requires.room in
    if_both (told c.read_at.new.self) (IsPiece room count c.args.gate) (BeginsWith past) (IsFound past c.end_of.result.lines.items c.end_of.result.stop)
    (λ file piece begins. c.end_of.ensures.found file past gate begins (rest_is room file count c.args.gate size (omega (arith, c.if-count-le1.true)) piece))
    c.in_ok-count.ensures.piece
    (begins_later (told c.args.file.now) (told c.read_at.new.self) past c.in_ok-count.ensures.goes_on begins)

pub returns-clause-found : goal.returns-clause-found
returns-clause-found g c past gate begins =
    let told = g.J.JournalFile.told in
    let room = c.read_at.new.buffer in
    let count = c.in_ok-count.count in
    let lines = c.in_ok-lines_of.field-0.lines.items in
    let stop = c.in_ok-lines_of.field-0.stop in
    let size : length room ≡ 65536 = c.read_at.auto.buffer ∙ c.requires.room in
    if_both (told c.read_at.new.self) (IsPiece room count c.args.gate) (BeginsWith past) (IsFound past lines stop)
    (λ file piece begins. read_found room file count past lines stop size (omega (arith, c.if-count-le1.false)) c.in_ok-count.ensures.bound
    (subst (λ (n : ℕ). IsPiece room count n file) gate piece) begins c.in_ok-lines_of.ensures.found)
    c.in_ok-count.ensures.piece
    (begins_later (told c.args.file.now) (told c.read_at.new.self) past c.in_ok-count.ensures.goes_on begins)
