-- The first words were added.
use Rattle.std.proofs.Common.{◌≡◌, ◌++◌, map, take}
use Rattle.program_words.specs.Words.{texts}
use Rattle.venue_server.proofs.asking.push_words.Given as goal

abbrev pub invariant-loop-word : goal.invariant-loop-word
invariant-loop-word l =
    texts l.list.items ≡ texts l.initial.list.items ++ map (λ word. word.now) (take l.word-index l.words)
