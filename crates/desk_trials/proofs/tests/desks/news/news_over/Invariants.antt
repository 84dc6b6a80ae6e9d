-- The ledger of the steps, which nothing reads.
use Rattle.desk_trials.proofs.tests.desks.news.news_over.Given as goal

abbrev pub ghosts-news_of_order : goal.ghosts-news_of_order
ghosts-news_of_order a = record { name = a.blank.name; parts = a.blank.parts }
