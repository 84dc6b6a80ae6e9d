-- The rules that an order may break: their numbers and their texts.
use Rattle.std.specs.Prelude.{ℕ, List, codes}
use Rattle.venue_words.specs.declared.rule.Rule.{Rule}
use Rattle.venue_words.specs.declared.rule.Rule.TheVariants as rule

-- RuleNumber (9702)
unfoldable pub rule_number : Rule → ℕ
rule_number rule.UnknownSymbol = 1
rule_number rule.UsedId = 2
rule_number rule.Quantity = 3
rule_number rule.Side = 4
rule_number rule.OrderType = 5
rule_number rule.TimeInForce = 6
rule_number rule.NoPrice = 7
rule_number rule.Price = 8
rule_number rule.PegPrice = 9
rule_number rule.PegMove = 10
rule_number rule.PegOffsetType = 11
rule_number rule.PegOffset = 12
rule_number rule.PegRounding = 13
rule_number rule.Minimum = 14
rule_number rule.MinimumMethod = 15
rule_number rule.UnknownOrder = 16
rule_number rule.OtherSide = 17
rule_number rule.TradedQuantity = 18

-- what the order did against it
unfoldable pub rule_text : Rule → List ℕ
rule_text rule.UnknownSymbol = codes "the symbol is not configured"
rule_text rule.UsedId = codes "the member used up this ClOrdID (11) in this symbol"
rule_text rule.Quantity = codes "OrderQty (38) is no whole number from 1 to 999999999"
rule_text rule.Side = codes "Side (54) is not 1 or 2"
rule_text rule.OrderType = codes "OrdType (40) is not 2 or P"
rule_text rule.TimeInForce = codes "TimeInForce (59) is not 0 or 3"
rule_text rule.NoPrice = codes "a limit order needs Price (44)"
rule_text rule.Price = codes "Price (44) is no whole number of ticks from 0.01 to 19999.99"
rule_text rule.PegPrice = codes "a pegged order needs PegPriceType (1094) of 2, 4 or 5"
rule_text rule.PegMove = codes "PegMoveType (835) is not 0"
rule_text rule.PegOffsetType = codes "PegOffsetType (836) is not 0 or 2"
rule_text rule.PegOffset = codes "PegOffsetValue (211) is no whole number of units or ticks, or is beyond 200 units"
rule_text rule.PegRounding = codes "PegRoundDirection (838) is not 1 or 2"
rule_text rule.Minimum = codes "MinQty (110) is no whole number from 0 to OrderQty (38)"
rule_text rule.MinimumMethod = codes "MinQtyMethod (1822) is not 1 or 2"
rule_text rule.UnknownOrder = codes "no live order of the member in this symbol has OrigClOrdID (41) as its ClOrdID"
rule_text rule.OtherSide = codes "Side (54) is not the order's"
rule_text rule.TradedQuantity = codes "OrderQty (38) is not above what the order has traded"
