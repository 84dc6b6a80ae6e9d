-- The codes of values on the wire.
use Rattle.std.specs.Prelude.{ℕ}
use Rattle.venue_words.specs.declared.price.Side.{Side}
use Rattle.venue_words.specs.declared.price.Side.TheVariants.{Buy, Sell}
use Rattle.venue_words.specs.declared.rule.Rule.{Rule}
use Rattle.venue_words.specs.declared.rule.Rule.TheVariants as rule
use Rattle.venue_words.specs.declared.report.OrderStatus.{OrderStatus}
use Rattle.venue_words.specs.declared.report.OrderStatus.TheVariants.{New, PartiallyFilled, Filled, Canceled}
use Rattle.venue_words.specs.declared.report.RefusedRequest.{RefusedRequest}
use Rattle.venue_words.specs.declared.report.RefusedRequest.TheVariants.{Cancel, Replace}

-- OrdStatus: `0`, `1`, `2` or `4`
unfoldable pub status_code : OrderStatus → ℕ
status_code New = 48
status_code PartiallyFilled = 49
status_code Filled = 50
status_code Canceled = 52

-- Side: `1` is a buy and `2` a sell
unfoldable pub side_code : Side → ℕ
side_code Buy = 49
side_code Sell = 50

-- CxlRejResponseTo: `1` for a cancel and `2` for a replace
unfoldable pub request_code : RefusedRequest → ℕ
request_code Cancel = 49
request_code Replace = 50

-- the reason for which a New is rejected
unfoldable pub reject_reason : Rule → ℕ
reject_reason rule.UnknownSymbol = 1
reject_reason rule.UsedId = 6
reject_reason rule.Quantity = 13
reject_reason rule.Minimum = 13
reject_reason rule.NoPrice = 99
reject_reason rule.Price = 99
reject_reason rule.PegOffset = 99
reject_reason _ = 11

-- the reason for which a Cancel or a Replace is refused
unfoldable pub refuse_reason : Rule → ℕ
refuse_reason rule.UnknownSymbol = 1
refuse_reason rule.UnknownOrder = 1
refuse_reason rule.UsedId = 6
refuse_reason _ = 99
