-- The book that was reached is the symbol's.
use Rattle.std.proofs.Common.{length, refl, rules}
use Rattle.std.proofs.lemmas.Option.{slice_get_read}
use Rattle.venue_core.proofs.plain_venue.submit_to.Goals as goal

pub returns : goal.returns
returns g c = let e = c.submit.ensures in record {
  old = c.index_mut-book.result.now;
  new = c.submit.new.self;
  was = slice_get_read c.args.books.now.items (length c.args.books.now.items) c.args.symbol c.index_mut-book.result.now refl c.requires.symbol c.index_mut-book.ensures.value;
  is = refl;
  limit = e.limit;
  setting = e.setting;
  number = e.number;
  journal = search rules;
  room = e.room;
  steps = search rules;
  err = e.err;
  full = e.full;
  idle = search rules;
}
