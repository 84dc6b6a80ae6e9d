-- Reports of trades are taken two by two.
use Rattle.std.proofs.Common.{◌≡◌, ◌<◌, ◌≤◌, ℕ, ◌+◌, Bool, true, false, cond, List, [], ◌∷◌, ◌++◌, length, drop, get_or, Option, Some, None, refl, sym, ◌∙◌, ap, append_assoc, append-nil}
use Rattle.std.specs.Prelude.{filter}
use Rattle.std.proofs.lemmas.List.{drop_all, drop_more}
use Rattle.venue_words.specs.declared.config.Config.{Config}
use Rattle.venue_words.specs.declared.price.Best.{Best}
use Rattle.venue_words.specs.declared.report.Report.{Report}
use Rattle.listing.specs.Lines.{ended}
use Rattle.audit_tables.specs.Trades.{IsNextTraded, Trade, is_traded, trade_line, trade_lines, trade_of, trades_in, two_by_two}

-- those of some reports
abbrev traded : List Report → List Report
traded reports = filter is_traded reports

-- the report at a place is the first from there on
at_place : (reports : List Report) (i : ℕ) (report : Report) → i < length reports → report ≡ get_or reports i report
    → drop i reports ≡ report ∷ drop (i + 1) reports
at_place reports i report lt is =
    drop_more reports i report lt ∙ ap (λ (r : Report). r ∷ drop (i + 1) reports) (sym is)

-- one report stands at a place
same_place : (reports : List Report) (i : ℕ) (x y : Report) → i < length reports → x ≡ get_or reports i x → y ≡ get_or reports i y → x ≡ y
same_place reports i x y lt is other =
    let both : x ∷ drop (i + 1) reports ≡ y ∷ drop (i + 1) reports =
    sym (at_place reports i x lt is) ∙ at_place reports i y lt other in cc

traded_cons : (report : Report) (more : List Report) (b : Bool) → is_traded report ≡ b
    → traded (report ∷ more) ≡ cond b (report ∷ traded more) (traded more)
traded_cons report more b is = ap (λ (t : Bool). cond t (report ∷ traded more) (traded more)) is

-- a report of no trade is passed over
pub traded_not : (reports : List Report) (i : ℕ) (report : Report) → i < length reports → report ≡ get_or reports i report → is_traded report ≡ false
    → filter is_traded (drop i reports) ≡ filter is_traded (drop (i + 1) reports)
traded_not reports i report lt here not =
    ap (λ (l : List Report). traded l) (at_place reports i report lt here) ∙ traded_cons report (drop (i + 1) reports) false not

pub traded_none : (reports : List Report) (i : ℕ) → length reports ≤ i → filter is_traded (drop i reports) ≡ []
traded_none reports i le = ap (λ (l : List Report). traded l) (drop_all i reports le)

pub traded_here : (reports : List Report) (start place : ℕ) (report : Report)
    → filter is_traded (drop place reports) ≡ filter is_traded (drop start reports) → start ≤ place → place < length reports
    → report ≡ get_or reports place report → is_traded report ≡ true → IsNextTraded reports start place
traded_here reports start place report was le lt here is = record {
  behind = le;
  within = lt;
  report = report;
  here = here;
  rest = sym was
      ∙ ap (λ (l : List Report). traded l) (at_place reports place report lt here)
      ∙ traded_cons report (drop (place + 1) reports) true is;
}

-- the one at that place
rest_of : (reports : List Report) (start place : ℕ) (report : Report) → IsNextTraded reports start place → report ≡ get_or reports place report
    → traded (drop start reports) ≡ report ∷ traded (drop (place + 1) reports)
rest_of reports start place report next here =
    next.rest ∙ ap (λ (r : Report). r ∷ traded (drop (place + 1) reports)) (same_place reports place next.report report next.within next.here here)

pub none_of : (found : Option ℕ) → ((place : ℕ) → found ≡ Some place → ⊥) → found ≡ None
none_of None other = refl
none_of (Some place) other = absurd (other place refl)

-- ---- the trades that are still to come

-- one more trade
pub trades_on : (reports : List Report) (place first second : ℕ) (taker contra : Report) → IsNextTraded reports place first → IsNextTraded reports (first + 1) second
    → taker ≡ get_or reports first taker → contra ≡ get_or reports second contra
    → trades_in (drop place reports) ≡ trade_of taker contra ∷ trades_in (drop (second + 1) reports)
trades_on reports place first second taker contra a b taker_is contra_is =
    ap two_by_two (rest_of reports place first taker a taker_is ∙ ap (λ (l : List Report). taker ∷ l) (rest_of reports (first + 1) second contra b contra_is))

-- no more trades
pub trades_over : (reports : List Report) (place : ℕ) → filter is_traded (drop place reports) ≡ [] → trades_in (drop place reports) ≡ []
trades_over reports place none = ap two_by_two none

-- a report of a trade without another one
pub trades_odd : (reports : List Report) (place first : ℕ) → IsNextTraded reports place first → filter is_traded (drop (first + 1) reports) ≡ []
    → trades_in (drop place reports) ≡ []
trades_odd reports place first a none = ap two_by_two (a.rest ∙ ap (λ (l : List Report). a.report ∷ l) none)

-- ---- the lines

-- one more trade
pub lines_on : (config : Config) (symbol : ℕ) (best : Best) (reports : List Report) (place first second : ℕ) (taker contra : Report) (out more whole : List ℕ)
    → IsNextTraded reports place first → IsNextTraded reports (first + 1) second
    → taker ≡ get_or reports first taker → contra ≡ get_or reports second contra
    → more ≡ out ++ ended (trade_line config symbol best (trade_of taker contra))
    → out ++ trade_lines config symbol best (trades_in (drop place reports)) ≡ whole
    → more ++ trade_lines config symbol best (trades_in (drop (second + 1) reports)) ≡ whole
lines_on config symbol best reports place first second taker contra out more whole a b taker_is contra_is pushed was =
    let line = ended (trade_line config symbol best (trade_of taker contra)) in
    let rest = trade_lines config symbol best (trades_in (drop (second + 1) reports)) in
    ap (λ (o : List ℕ). o ++ rest) pushed
    ∙ append_assoc out line rest
    ∙ ap (λ (l : List Trade). out ++ trade_lines config symbol best l) (sym (trades_on reports place first second taker contra a b taker_is contra_is))
    ∙ was

-- no more trades
pub lines_over : (config : Config) (symbol : ℕ) (best : Best) (reports : List Report) (place : ℕ) (out whole : List ℕ)
    → trades_in (drop place reports) ≡ []
    → out ++ trade_lines config symbol best (trades_in (drop place reports)) ≡ whole → out ≡ whole
lines_over config symbol best reports place out whole none was =
    sym (append-nil out) ∙ ap (λ (l : List Trade). out ++ trade_lines config symbol best l) (sym none) ∙ was
