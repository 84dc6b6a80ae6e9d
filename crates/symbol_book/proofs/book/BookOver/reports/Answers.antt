use Rattle.symbol_book.proofs.book.BookOver.reports.Goals as goal

pub returns-clause-within : goal.returns-clause-within
returns-clause-within g c = λ before event after e. c.trades_are_within_quote.ensures _ _ before event

pub returns-clause-answered : goal.returns-clause-answered
returns-clause-answered g c = λ before event after member id terms e command. c.new_is_answered_once.ensures _ _ before event member id terms command
