-- What the reports of a history tell of its trades.
use Rattle.std.specs.Prelude.{◌≡◌, ℕ, ◌*◌, ◌≤◌, ◌==◌, if◌then◌else◌, List, [], ◌∷◌, ◌++◌, Some, sum_by}
use Rattle.std.specs.List.{AllByRecursion}
use Rattle.venue_words.specs.declared.command.Event.{Event}
use Rattle.venue_words.specs.declared.price.Best.{Best}
use Rattle.venue_words.specs.declared.price.Side.{Side}
use Rattle.venue_words.specs.declared.price.Side.TheVariants.{Buy, Sell}
use Rattle.venue_words.specs.declared.report.Execution.TheVariants.{Traded}
use Rattle.venue_words.specs.declared.report.Kind.{Kind}
use Rattle.venue_words.specs.declared.report.Kind.TheVariants.{Order}
use Rattle.venue_words.specs.declared.report.Report.{Report}
use Rattle.venue_words.specs.Best.{best_of}
use Rattle.venue_words.specs.Key.{side_number}
use Rattle.eager_meaning.specs.Step.{runs}
use Rattle.market_laws.specs.Replies.{AreToldBy}

-- ---- shares

-- a number of shares, where two sides are the same, and else 0
abbrev pub shares_if : Side → Side → ℕ → ℕ
shares_if side other shares = if side_number side == side_number other then shares else 0

-- the shares that a report tells as traded by an order of a side
abbrev pub shares_on : Side → Kind → ℕ
shares_on side (Order view (Traded quantity price)) = shares_if side view.side quantity
shares_on side _ = 0

-- all shares that orders of a side traded, by the reports
abbrev pub shares_traded : Side → List Report → ℕ
shares_traded side reports = sum_by (λ report. shares_on side report.kind) reports

-- after every history: the shares that its reports tell as bought are as many as those that they tell as sold
abbrev pub BoughtSharesAreSold : Type 0
BoughtSharesAreSold =
    (markets tick : ℕ) (history : List Event)
    → let reports = (runs markets tick history).reports in
    shares_traded Buy reports ≡ shares_traded Sell reports

-- ---- prices

-- the national quote has a bid and an offer that is not below it, and the price, in units of 0.005, is from twice the
-- bid to twice the offer, which are in cents
pub record IsWithinQuote (best : Best) (price : ℕ) : Type 0 where
  pub bid : ℕ
  pub offer : ℕ
  pub is_bid : best.bid ≡ Some bid
  pub is_offer : best.offer ≡ Some offer
  pub uncrossed : bid ≤ offer
  pub low : 2 * bid ≤ price
  pub high : price ≤ 2 * offer

-- a report of a trade tells a price within the quote
abbrev pub IsPricedWithin : Best → Kind → Type 0
IsPricedWithin best (Order view (Traded quantity price)) = IsWithinQuote best price
IsPricedWithin best _ = Unit {0}

-- for every history and one more event: each trade that it tells is priced within the national quote after the event
abbrev pub TradesAreWithinQuote : Type 0
TradesAreWithinQuote =
    (markets tick : ℕ) (history : List Event) (event : Event)
    → (told : List Report)
    × AreToldBy markets tick history event told
    × AllByRecursion
    (λ report. IsPricedWithin (best_of (runs markets tick (history ++ event ∷ [])).state.markets) report.kind) told
