-- The three parts of a symbol's section, and their words.
use Rattle.std.specs.Prelude.{ℕ, List, codes}
use Rattle.audit_html.specs.Chunks.{Box}
use Rattle.audit_report.specs.declared.parts.Part.{Part}
use Rattle.audit_report.specs.declared.parts.Part.TheVariants.{Trades, Orders, Refusals}

abbrev pub title : Part → List ℕ
title Trades = codes "Trades"
title Orders = codes "Orders"
title Refusals = codes "Refused requests"

-- its rows
abbrev pub many : Part → List ℕ
many Trades = codes "trades"
many Orders = codes "orders"
many Refusals = codes "refused requests"

-- how all of them are had
abbrev pub how : Part → List ℕ
how Trades = codes "pegaudit trades CONFIG LISTING"
how Orders = codes "pegaudit order CONFIG LISTING SYMBOL EVENT"
how Refusals = codes "pegaudit summary CONFIG LISTING"

-- what can be searched
abbrev pub hint : Part → List ℕ
hint Trades = codes "Find a time, member or ClOrdID"
hint Orders = codes "Find an order, member, ClOrdID or end"
hint Refusals = codes "Find a member, ClOrdID or reason"

-- the letter of its anchor
abbrev pub letter : Part → List ℕ
letter Trades = codes "t"
letter Orders = codes "o"
letter Refusals = codes "r"

abbrev pub class : Part → List ℕ
class Trades = codes "box long"
class Orders = codes "orders"
class Refusals = codes "box long"

-- at most so many rows are on the page, over all symbols
abbrev pub most : Part → ℕ
most Trades = 50000
most Orders = 20000
most Refusals = 5000

-- how a box of its rows begins and ends
abbrev pub box : Part → Box
box Trades = record {
  begin = codes "<div class=\"chunk\"><table class=\"trades\"><colgroup><col class=\"c7\"><col class=\"c4\"><col class=\"c6\"><col class=\"c6\"><col class=\"c5\"><col class=\"c5\"><col class=\"c8\"><col><col class=\"c8\"><col><col class=\"c4\"></colgroup><thead><tr><th>Time<th>Event<th>Price<th>Shares<th>Bid<th>Offer<th>Buyer<th>ClOrdID<th>Seller<th>ClOrdID<th>Taker</thead><tbody>";
  end = codes "</tbody></table></div>";
}
box Orders = record { begin = codes "<div class=\"chunk\">"; end = codes "</div>" }
box Refusals = record {
  begin = codes "<div class=\"chunk\"><table class=\"refused\"><colgroup><col class=\"c7\"><col class=\"c4\"><col class=\"c8\"><col><col class=\"c8\"><col class=\"c20\"></colgroup><thead><tr><th>Time<th>Event<th>Member<th>ClOrdID<th>Request<th>Why</thead><tbody>";
  end = codes "</tbody></table></div>";
}
