-- What a quote does to a symbol's book.
use Rattle.std.specs.Prelude.{ℕ, Bool, ◌&&◌, nat_eq, if◌then◌else◌, slice_set}
use Rattle.std.specs.Option.{option_eq}
use Rattle.venue_words.specs.declared.price.Best.{Best}
use Rattle.venue_words.specs.Best.{best_of}
use Rattle.venue_words.specs.Retime.{reprice}
use Rattle.eager_meaning.specs.State.{State, Outcome, with_no_notice}
use Rattle.eager_meaning.specs.Recheck.{recheck}
use Rattle.eager_meaning.specs.Trades.{trade_notices, orders_after_all}

-- the book after a new national quote: each row repriced and retimed, and then the book rechecked
unfoldable pub requote : ℕ → State → Outcome
requote event s =
    let best = best_of s.markets in
    let matched = recheck (reprice event best s.buys) (reprice event best s.sells) in
    record {
      state =
          record s { buys = matched.buys; sells = matched.sells; orders = orders_after_all matched.fills s.orders };
      notices = trade_notices matched.fills s.orders;
    }

-- whether two national quotes are the same
abbrev pub same_best : Best → Best → Bool
same_best x y = option_eq nat_eq x.bid y.bid && option_eq nat_eq x.offer y.offer

-- the state in which a market has a quote
abbrev pub with_quote : ℕ → Best → State → State
with_quote market quote s = record s { markets = slice_set s.markets market quote }

-- a market's quote: nothing else happens where the national one stays
unfoldable pub on_quote : ℕ → ℕ → Best → State → Outcome
on_quote event market quote s =
    let next = with_quote market quote s in
    if same_best (best_of s.markets) (best_of next.markets) then with_no_notice next else requote event next
