use Rattle.std.proofs.Common.{codes, refl}
use Rattle.program_words.proofs.Parsed.{raw_all}
use Rattle.program_words.proofs.matched_words.Goals as goal

-- src/lib.rt:75:1
pub returns-in-Some-clause-list : goal.returns-in-Some-clause-list
returns-in-Some-clause-list c = rw (raw_all (codes "word") _, ← c.in-Some.ensures) c.list_of.ensures.list

-- src/lib.rt:75:1
pub returns-in-None-clause-list : goal.returns-in-None-clause-list
returns-in-None-clause-list c = rw (raw_all (codes "word") _, ← c.in-None.ensures, c.new.ensures.items) refl
