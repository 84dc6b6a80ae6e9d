use Rattle.market_laws.proofs.Agreeing.{book_is_sound}
use Rattle.market_laws.proofs.orders.book_is_sound.Goals as goal

pub returns : goal.returns
returns c = book_is_sound
