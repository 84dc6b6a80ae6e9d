-- The text is that of the words' status.
use Rattle.venue_server.proofs.running.refuse_words.Goals as goal

pub returns-in-BadWords-clause-told : goal.returns-in-BadWords-clause-told
returns-in-BadWords-clause-told g c = rw c.in-BadWords.is c.end_with.ensures.told

pub returns-in-NoMemory-clause-told : goal.returns-in-NoMemory-clause-told
returns-in-NoMemory-clause-told g c = rw c.in-NoMemory.is c.end_with-in-NoMemory.ensures.told
