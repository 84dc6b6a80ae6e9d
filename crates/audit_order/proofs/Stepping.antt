-- What is kept of the order behind one more event.
use Rattle.std.proofs.Common.{◌≡◌, ◌≤◌, ◌<◌, inl, inr, ℕ, zero, suc, ◌+◌, ◌-◌, ◌==◌, Bool, true, false, cond, List, [], ◌∷◌, ◌++◌, length, take, Option, Some, None, refl, sym, ◌∙◌, ap, subst, arith}
use Rattle.std.specs.Prelude.{nat_lt}
use Rattle.std.proofs.lemmas.Bool.{cases_order}
use Rattle.std.proofs.lemmas.List.{length-append, take-append-le, take_all}
use Rattle.venue_words.specs.declared.command.Event.{Event}
use Rattle.venue_words.specs.declared.config.Config.{Config}
use Rattle.venue_words.specs.declared.row.Priced.{Priced}
use Rattle.eager_meaning.specs.Step.{Run, runs}
use Rattle.symbol_book.specs.Book.{BookView}
use Rattle.audit_core.specs.Audited.{run_of}
use Rattle.audit_core.specs.Telling.{IsBookOf, IsNext}
use Rattle.audit_order.specs.Standing.{Keeps, before_after, number_after, number_at, order_count, rests_in, standing}
use Rattle.audit_order.specs.declared.following.Followed.{Followed}

lt_true : (a b : ℕ) → a < b → nat_lt a b ≡ true
lt_true a b h = grind arith

lt_false : (a b : ℕ) → b ≤ a → nat_lt a b ≡ false
lt_false a b h = grind arith

eq_true : (a b : ℕ) → a ≡ b → (a == b) ≡ true
eq_true a b h = grind arith

eq_false : (a b : ℕ) → b < a → (a == b) ≡ false
eq_false a b h = grind arith

-- nothing entered in a journal that ends before the event
number_early : (config : Config) (symbol : ℕ) (journal : List Event) (first : ℕ) → length journal < first → number_at config symbol journal first ≡ None
unfolding number_at
number_early config symbol journal first lt =
    let all : take first journal ≡ journal = take_all first journal (omega (arith, lt)) in
    let most : take (first - 1) journal ≡ journal = take_all (first - 1) journal (omega (arith, lt)) in
    let n = order_count config symbol journal in
    ap (λ (j : List Event). cond (nat_lt (order_count config symbol j) (order_count config symbol (take first journal))) (Some (order_count config symbol j)) None) most
    ∙ ap (λ (j : List Event). cond (nat_lt n (order_count config symbol j)) (Some n) None) all
    ∙ ap (λ (b : Bool). cond b (Some n) None) (lt_false n n (omega arith))

-- at the event itself it is seen whether one entered
number_here : (config : Config) (symbol : ℕ) (before journal : List Event) (first : ℕ) → take (first - 1) journal ≡ before → take first journal ≡ journal
    → number_at config symbol journal first ≡ cond (nat_lt (order_count config symbol before) (order_count config symbol journal)) (Some (order_count config symbol before)) None
unfolding number_at
number_here config symbol before journal first most all =
    ap (λ (j : List Event). cond (nat_lt (order_count config symbol j) (order_count config symbol (take first journal))) (Some (order_count config symbol j)) None) most
    ∙ ap (λ (j : List Event). cond (nat_lt (order_count config symbol before) (order_count config symbol j)) (Some (order_count config symbol before)) None) all

-- and later events don't change it
number_same : (config : Config) (symbol : ℕ) (before journal : List Event) (first : ℕ) → take (first - 1) journal ≡ take (first - 1) before
    → take first journal ≡ take first before → number_at config symbol journal first ≡ number_at config symbol before first
unfolding number_at
number_same config symbol before journal first most all =
    ap (λ (j : List Event). cond (nat_lt (order_count config symbol j) (order_count config symbol (take first journal))) (Some (order_count config symbol j)) None) most
    ∙ ap (λ (j : List Event). cond (nat_lt (order_count config symbol (take (first - 1) before)) (order_count config symbol j)) (Some (order_count config symbol (take (first - 1) before))) None) all

-- ---- one more event

record IsKept (config : Config) (symbol : ℕ) (journal : List Event) (first before : ℕ) (number : Option ℕ) : Type 0 where
  count : before ≡ order_count config symbol (take (first - 1) journal)
  place : number ≡ number_at config symbol journal first

module _ (config : Config) (symbol : ℕ) (before : List Event) (event : Event) (first : ℕ) (followed : Followed) (keeps : Keeps first followed config symbol before) where
  abbrev journal : List Event
  journal = before ++ event ∷ []

  abbrev orders : ℕ
  orders = order_count config symbol journal

  size : length journal ≡ length before + 1
  size = length-append before (event ∷ [])

  early : length journal < first → IsKept config symbol journal first orders None
  early lt = record {
    count = ap (order_count config symbol) (sym (take_all (first - 1) journal (omega (arith, lt))));
    place = sym (number_early config symbol journal first lt);
  }

  -- the events before this one
  front : (n : ℕ) → n ≤ length before → take n journal ≡ take n before
  front n le = take-append-le n before (event ∷ []) le

  here : length journal ≡ first → IsKept config symbol journal first followed.before (cond (nat_lt followed.before orders) (Some followed.before) None)
  here is =
      let most : take (first - 1) before ≡ before = take_all (first - 1) before (omega (arith, is, size)) in
      let all : take (first - 1) journal ≡ before = front (first - 1) (omega (arith, is, size)) ∙ most in
      let was : followed.before ≡ order_count config symbol before = keeps.before ∙ ap (order_count config symbol) most in record {
        count = was ∙ ap (order_count config symbol) (sym all);
        place = ap (λ (n : ℕ). cond (nat_lt n orders) (Some n) None) was
            ∙ sym (number_here config symbol before journal first all (take_all first journal (omega (arith, is))));
      }

  late : first < length journal → IsKept config symbol journal first followed.before followed.number
  late lt =
      let most = front (first - 1) (omega (arith, lt, size)) in record {
        count = keeps.before ∙ ap (order_count config symbol) (sym most);
        place = keeps.number ∙ sym (number_same config symbol before journal first most (front first (omega (arith, lt, size))));
      }

  abbrev next_before : ℕ
  next_before = before_after (length journal) first orders followed.before

  abbrev next_number : Option ℕ
  next_number = number_after (length journal) first orders followed.before followed.number

  abbrev entered : Option ℕ
  entered = cond (nat_lt followed.before orders) (Some followed.before) None

  abbrev kept_at : Bool → Bool → Type 0
  kept_at a b = IsKept config symbol journal first (cond a orders followed.before) (cond a None (cond b entered followed.number))

  kept_by : (a b : Bool) → nat_lt (length journal) first ≡ a → (length journal == first) ≡ b → kept_at a b → IsKept config symbol journal first next_before next_number
  kept_by a b is same k =
      subst (λ (t : Bool). kept_at t (length journal == first)) (sym is) (subst (λ (t : Bool). kept_at a t) (sym same) k)

  kept : IsKept config symbol journal first next_before next_number
  kept =
      elim (cases_order (length journal) first) [
        | inl is ↦ kept_by false true (lt_false (length journal) first (omega (arith, is))) (eq_true (length journal) first is) (here is)
        | inr other ↦ elim other [
          | inl lt ↦ kept_by true (length journal == first) (lt_true (length journal) first lt) refl (early lt)
          | inr lt ↦ kept_by false false (lt_false (length journal) first (omega (arith, lt))) (eq_false (length journal) first lt) (late lt)
        ]
      ]

-- what is kept behind the event, where how the order rests is looked up
follows : (config : Config) (symbol : ℕ) (before : List Event) (event : Event) (first : ℕ) (followed next : Followed) → Keeps first followed config symbol before
    → next.before ≡ before_after (length (before ++ event ∷ [])) first (order_count config symbol (before ++ event ∷ [])) followed.before
    → next.number ≡ number_after (length (before ++ event ∷ [])) first (order_count config symbol (before ++ event ∷ [])) followed.before followed.number
    → next.rests ≡ rests_in next.number (run_of config symbol (before ++ event ∷ [])).state
    → Keeps first next config symbol (before ++ event ∷ [])
unfolding standing
follows config symbol before event first followed next keeps before_is number_is rests_is =
    let k = kept config symbol before event first followed keeps in record {
      before = before_is ∙ k.count;
      number = number_is ∙ k.place;
      rests = rests_is ∙ ap (λ (n : Option ℕ). rests_in n (run_of config symbol (before ++ event ∷ [])).state) (number_is ∙ k.place);
    }

-- ---- of a book

run_same : (config : Config) (symbol : ℕ) (book : BookView) → IsBookOf config symbol book → runs book.markets book.tick book.journal ≡ run_of config symbol book.journal
run_same config symbol book of =
    ap (λ (m : ℕ). runs m book.tick book.journal) of.markets ∙ ap (λ (t : ℕ). runs (length config.markets) t book.journal) of.tick

-- what is kept behind the last event of a book, where how the order rests is looked up there
pub keeps_on : (config : Config) (symbol first : ℕ) (book : BookView) (kept : Followed) (shown : List Event) (count orders b : ℕ) (n : Option ℕ) (r : Option Priced)
    → IsNext (Keeps first kept) config symbol book → shown ≡ book.journal → count ≡ length shown
    → orders ≡ length (runs book.markets book.tick book.journal).state.orders → b ≡ before_after count first orders kept.before
    → n ≡ number_after count first orders kept.before kept.number → r ≡ rests_in n (runs book.markets book.tick book.journal).state
    → Keeps first (record { before = b; number = n; rests = r }) config symbol book.journal
keeps_on config symbol first book kept shown count orders b n r is list counts all before number rests =
    let same = run_same config symbol book is.of in
    let j = is.journal in
    let size : count ≡ length (is.before ++ is.event ∷ []) = counts ∙ ap (λ (l : List Event). length l) (list ∙ j) in
    let entered : orders ≡ order_count config symbol (is.before ++ is.event ∷ []) =
    all ∙ ap (λ (x : Run). length x.state.orders) same ∙ ap (order_count config symbol) j in
    subst (λ (l : List Event). Keeps first (record { before = b; number = n; rests = r }) config symbol l) (sym j)
    (follows config symbol is.before is.event first kept (record { before = b; number = n; rests = r }) is.heard
    (before ∙ ap (λ (c : ℕ). before_after c first orders kept.before) size
    ∙ ap (λ (o : ℕ). before_after (length (is.before ++ is.event ∷ [])) first o kept.before) entered)
    (number ∙ ap (λ (c : ℕ). number_after c first orders kept.before kept.number) size
    ∙ ap (λ (o : ℕ). number_after (length (is.before ++ is.event ∷ [])) first o kept.before kept.number) entered)
    (rests ∙ ap (λ (x : Run). rests_in n x.state) same ∙ ap (λ (l : List Event). rests_in n (run_of config symbol l).state) j))

front_of : (journal before : List Event) (event : Event) → journal ≡ before ++ event ∷ [] → before ≡ take (length journal - 1) journal
front_of journal before event is =
    let size : length (before ++ event ∷ []) ≡ length before + 1 = length-append before (event ∷ []) in
    let less : length (before ++ event ∷ []) - 1 ≡ length before = omega (arith, size) in
    sym (take_all (length before) before (omega arith))
    ∙ sym (take-append-le (length before) before (event ∷ []) (omega arith))
    ∙ ap (λ (n : ℕ). take n (before ++ event ∷ [])) (sym less)
    ∙ ap (λ (l : List Event). take (length l - 1) l) (sym is)

-- how the order rested before the last event of a book
pub rested : (config : Config) (symbol first : ℕ) (book : BookView) (followed : Followed) → IsNext (Keeps first followed) config symbol book
    → followed.rests ≡ standing config symbol (take (length book.journal - 1) book.journal) first
rested config symbol first book followed is =
    is.heard.rests ∙ ap (λ (l : List Event). standing config symbol l first) (front_of book.journal is.before is.event is.journal)

-- ---- before any event

abbrev none_yet : List Event
none_yet = []

no_events : (n : ℕ) → take n none_yet ≡ none_yet
no_events zero = refl
no_events (suc n) = refl

pub kept_first : (config : Config) (symbol first : ℕ) (followed : Followed) → followed.before ≡ 0 → followed.number ≡ None → followed.rests ≡ None
    → Keeps first followed config symbol []
unfolding number_at rests_in standing runs
kept_first config symbol first followed before number rests =
    let none : number_at config symbol [] first ≡ None = number_none first in record {
      before = before ∙ ap (order_count config symbol) (sym (no_events (first - 1)));
      number = number ∙ sym none;
      rests = rests ∙ ap (λ (n : Option ℕ). rests_in n (run_of config symbol []).state) (sym none);
    }
  where
    number_none : (first : ℕ) → number_at config symbol [] first ≡ None
    number_none first =
        ap (λ (l : List Event). cond (nat_lt (order_count config symbol (take (first - 1) [])) (order_count config symbol l)) (Some (order_count config symbol (take (first - 1) []))) None)
        (no_events first)
        ∙ ap (λ (l : List Event). cond (nat_lt (order_count config symbol l) 0) (Some (order_count config symbol l)) None) (no_events (first - 1))
