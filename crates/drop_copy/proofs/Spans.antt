-- The copies between two positions.
use Rattle.std.proofs.Common.{◌≡◌, ◌≤◌, ◌==◌, inl, inr, max, ℕ, zero, suc, List, [], ◌∷◌, ◌++◌, map, length, take, drop, filter, refl, sym, ◌∙◌, ap, arith}
use Rattle.std.proofs.Math.ListN.{drop_of_length-le}
use Rattle.std.proofs.lemmas.Bool.{cases_lt}
use Rattle.std.proofs.lemmas.List.{take-append-le, take_all, map-append, length-take}
use Rattle.std.proofs.lemmas.List.Elements.{filter-append}
use Rattle.venue_words.specs.declared.config.Config.{Config}
use Rattle.venue_words.specs.declared.report.Report.{Report}
use Rattle.venue_words.specs.Journals.{StartsWith, reports_of}
use Rattle.member_gate.specs.Answering.{name_at}
use Rattle.drop_copy.specs.Copies.{copy_of, copies}

abbrev of_member : ℕ → List Report → List Report
of_member member reports = filter (λ report. report.member == member) reports

-- nothing stands between a position and an earlier one
none_between : (from to : ℕ) (reports : List Report) → to ≤ from → drop from (take to reports) ≡ []
none_between from to reports h = drop_of_length-le (take to reports) (omega (arith, length-take to reports))

-- more reports behind them change nothing
same_span : (from to : ℕ) (reports more : List Report) → to ≤ max from (length reports)
    → drop from (take to (reports ++ more)) ≡ drop from (take to reports)
same_span from to reports more h = elim (cases_lt (length reports) to) [
  | inl over ↦
      let behind : to ≤ from = omega arith in
      none_between from to (reports ++ more) behind ∙ sym (none_between from to reports behind)
  | inr within ↦ ap (drop from) (take-append-le to reports more within)
]

pub copies_grown : (config : Config) (symbol : List ℕ) (member from to : ℕ) (reports later : List Report)
    → StartsWith later reports → to ≤ max from (length reports)
    → copies config symbol member from to later ≡ copies config symbol member from to reports
unfolding copies
copies_grown config symbol member from to reports later starts h =
    ap (λ (rs : List Report). map (copy_of (name_at config.members member) symbol) (of_member member rs))
    (ap (λ (l : List Report). drop from (take to l)) starts.1 ∙ same_span from to reports starts.0 h)

-- up to the end of all reports
pub copies_to_end : (config : Config) (symbol : List ℕ) (member from : ℕ) (reports : List Report)
    → map (copy_of (name_at config.members member) symbol) (reports_of member from reports)
    ≡ copies config symbol member from (max from (length reports)) reports
unfolding copies
copies_to_end config symbol member from reports =
    ap (λ (rs : List Report). map (copy_of (name_at config.members member) symbol) (of_member member (drop from rs)))
    (sym (take_all (max from (length reports)) reports (omega arith)))

join_span : (reports : List Report) (a b c : ℕ) → a ≤ b → b ≤ c
    → drop a (take b reports) ++ drop b (take c reports) ≡ drop a (take c reports)
join_span [] zero zero zero h k = refl
join_span [] zero zero (suc c) h k = refl
join_span [] zero (suc b) zero h k = absurd (omega arith)
join_span [] zero (suc b) (suc c) h k = refl
join_span [] (suc a) zero c h k = absurd (omega arith)
join_span [] (suc a) (suc b) zero h k = absurd (omega arith)
join_span [] (suc a) (suc b) (suc c) h k = refl
join_span (r ∷ rs) zero zero c h k = refl
join_span (r ∷ rs) zero (suc b) zero h k = absurd (omega arith)
join_span (r ∷ rs) zero (suc b) (suc c) h k = ap (λ (l : List Report). r ∷ l) (join_span rs zero b c (omega arith) (omega arith))
join_span (r ∷ rs) (suc a) zero c h k = absurd (omega arith)
join_span (r ∷ rs) (suc a) (suc b) zero h k = absurd (omega arith)
join_span (r ∷ rs) (suc a) (suc b) (suc c) h k = join_span rs a b c (omega arith) (omega arith)

-- the copies up to a position and those behind it
pub copies_join : (config : Config) (symbol : List ℕ) (member a b c : ℕ) (reports : List Report) → a ≤ b → b ≤ c
    → copies config symbol member a b reports ++ copies config symbol member b c reports ≡ copies config symbol member a c reports
unfolding copies
copies_join config symbol member a b c reports h k =
    let f = copy_of (name_at config.members member) symbol in
    let one = drop a (take b reports) in
    let two = drop b (take c reports) in
    sym (map-append f (of_member member one) (of_member member two))
    ∙ ap (map f) (sym (filter-append (λ report. report.member == member) one two) ∙ ap (of_member member) (join_span reports a b c h k))

pub copies_none : (config : Config) (symbol : List ℕ) (member a : ℕ) (reports : List Report) → copies config symbol member a a reports ≡ []
unfolding copies
copies_none config symbol member a reports =
    ap (λ (rs : List Report). map (copy_of (name_at config.members member) symbol) (of_member member rs)) (none_between a a reports (omega arith))
