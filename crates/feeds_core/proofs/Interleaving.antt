-- Where each number of a journal stands in one feed's list, the events of a feed, in order, are its commands.
use Rattle.std.proofs.Common.{◌≡◌, ◌≢◌, ℕ, zero, suc, ◌+◌, ◌-◌, ◌<◌, ◌≤◌, eq-eqb, ne_eqb, List, [], ◌∷◌, length, sym, refl, ap, ◌∙◌, subst, arith, Some, slice_get}
use mathlib.Core.Logic.{dite}
use native.Mathlib.Decide.{ℕ_discrete}
use Rattle.std.specs.Prelude.{sum_by}
use Rattle.std.proofs.lemmas.List.Sums.{sum_by-cons}
use Rattle.venue_words.specs.declared.command.Event.{Event}
use Rattle.venue_words.specs.Journals.{event}
use Rattle.eager_meaning.specs.Interleaving.{Timed, commands_of, Interleaves}
use Rattle.turn_gate.specs.Numbers.{IncreasesWithin, times}
use Rattle.feed_work.specs.Working.{Stand}
use Rattle.feeds_core.specs.Joined.{HasTaken, AreIn}
use Rattle.feeds_core.proofs.Numbers.{times_other}

-- ---- one feed

-- `Stand` of the events behind the first p
abbrev StandsFrom : ℕ → ℕ → List Event → List ℕ → List Timed → Type 0
StandsFrom feed p es [] [] = Unit {0}
StandsFrom feed p es [] (c ∷ cs) = ⊥
StandsFrom feed p es (n ∷ ns) [] = ⊥
StandsFrom feed p es (n ∷ ns) (c ∷ cs) =
    (slice_get es (n - (p + 1)) ≡ Some (event n feed c.0 c.1)) × StandsFrom feed p es ns cs

least : (low : ℕ) (ns : List ℕ) (most : ℕ) → IncreasesWithin low most ns → low ≤ most
least low [] most r = r
least low (n ∷ ns) most r = omega (arith, r.0, least n ns most r.1)

not_below : (low : ℕ) (ns : List ℕ) (most m : ℕ) → IncreasesWithin low most ns → m ≤ low → times m ns ≡ 0
not_below low [] most m r h = refl
not_below low (n ∷ ns) most m r h =
    let l = r.0 in
    times_other m n ns (λ e. omega (arith, e, l, h)) ∙ not_below n ns most m r.1 (omega (arith, l, h))

one_on : (feed p : ℕ) (e : Event) (es : List Event) (ns : List ℕ) (cs : List Timed) (low most : ℕ) → p + 1 ≤ low
    → IncreasesWithin low most ns → StandsFrom feed p (e ∷ es) ns cs → StandsFrom feed (p + 1) es ns cs
one_on feed p e es [] [] low most h r s = tt
one_on feed p e es [] (c ∷ cs) low most h r s = s
one_on feed p e es (n ∷ ns) [] low most h r s = s
one_on feed p e es (n ∷ ns) (c ∷ cs) low most h r s =
    let a = r.0 in
    let step : suc (n - ((p + 1) + 1)) ≡ n - (p + 1) = omega arith in
    (ap (slice_get (e ∷ es)) step ∙ s.0, one_on feed p e es ns cs n most (omega arith) r.1 s.1)

takes_it : (feed : ℕ) (e : Event) (es : List Event) → e.feed ≡ feed
    → commands_of feed (e ∷ es) ≡ (e.moment, e.command) ∷ commands_of feed es
takes_it feed e es is = rw (eq-eqb e.feed feed is) refl

skips_it : (feed : ℕ) (e : Event) (es : List Event) → e.feed ≢ feed → commands_of feed (e ∷ es) ≡ commands_of feed es
skips_it feed e es not = rw (ne_eqb e.feed feed not) refl

-- an event whose number is none of the feed's has another feed
abbrev Others : ℕ → ℕ → List Event → List ℕ → Type 0
Others feed p es ns =
    (n : ℕ) (e : Event) → p < n → times n ns ≡ 0 → slice_get es (n - (p + 1)) ≡ Some e → e.feed ≢ feed

others_on : (feed p : ℕ) (e : Event) (es : List Event) (ns ms : List ℕ)
    → ((n : ℕ) → p + 1 < n → times n ms ≡ 0 → times n ns ≡ 0) → Others feed p (e ∷ es) ns → Others feed (p + 1) es ms
others_on feed p e es ns ms same o n x lt none at =
    let step : suc (n - ((p + 1) + 1)) ≡ n - (p + 1) = omega arith in
    o n x (omega arith) (same n lt none) (ap (slice_get (e ∷ es)) (sym step) ∙ at)

bounds : (low low' : ℕ) (ns : List ℕ) (most most' : ℕ) → low ≡ low' → most ≡ most' → IncreasesWithin low most ns
    → IncreasesWithin low' most' ns
bounds low low' ns most most' a b r = subst (λ (x : ℕ × ℕ). IncreasesWithin x.0 x.1 ns) (λ k. (a k, b k)) r

picks : (feed : ℕ) (es : List Event) (p : ℕ) (ns : List ℕ) (cs : List Timed) → IncreasesWithin p (p + length es) ns
    → StandsFrom feed p es ns cs → Others feed p es ns → commands_of feed es ≡ cs
picks feed [] p [] [] r s o = refl
picks feed [] p [] (c ∷ cs) r s o = absurd s
picks feed [] p (n ∷ ns) cs r s o =
    let a = r.0 in let b = least n ns (p + 0) r.1 in absurd (omega arith)
picks feed (e ∷ es) p [] [] r s o =
    let zero_at : (p + 1) - (p + 1) ≡ 0 = omega arith in
    let not = o (p + 1) e (omega arith) refl (ap (slice_get (e ∷ es)) zero_at) in
    skips_it feed e es not
    ∙ picks feed es (p + 1) [] [] (omega arith) tt (others_on feed p e es [] [] (λ n lt none. refl) o)
picks feed (e ∷ es) p [] (c ∷ cs) r s o = absurd s
picks feed (e ∷ es) p (n ∷ ns) [] r s o = absurd s
picks feed (e ∷ es) p (n ∷ ns) (c ∷ cs) r s o =
    let a = r.0 in
    let zero_at : (p + 1) - (p + 1) ≡ 0 = omega arith in
    dite (ℕ_discrete n (p + 1))
    (λ is.
    let first : e ≡ event n feed c.0 c.1 =
    (let at : slice_get (e ∷ es) 0 ≡ Some (event n feed c.0 c.1) =
    ap (slice_get (e ∷ es)) (sym (ap (λ (k : ℕ). k - (p + 1)) is ∙ zero_at)) ∙ s.0 in (cc)) in
    let more : IncreasesWithin (p + 1) ((p + 1) + length es) ns =
    bounds n (p + 1) ns (p + length (e ∷ es)) ((p + 1) + length es) is (omega arith) r.1 in
    takes_it feed e es (ap (λ (x : Event). x.feed) first)
    ∙ ((λ k. ((first k).moment, (first k).command) ∷ commands_of feed es)
    ∙ ap (λ (l : List Timed). (c.0, c.1) ∷ l)
    (picks feed es (p + 1) ns cs more (one_on feed p e es ns cs (p + 1) ((p + 1) + length es) (omega arith) more s.1)
    (others_on feed p e es (n ∷ ns) ns
    (λ m lt none. times_other m n ns (λ h. omega (arith, h, is, lt)) ∙ none) o))))
    (λ not.
    let more : IncreasesWithin (p + 1) ((p + 1) + length es) (n ∷ ns) =
    (omega arith, bounds n n ns (p + length (e ∷ es)) ((p + 1) + length es) refl (omega arith) r.1) in
    let other = o (p + 1) e (omega arith)
    (not_below (p + 1) (n ∷ ns) ((p + 1) + length es) (p + 1) more (omega arith)) (ap (slice_get (e ∷ es)) zero_at) in
    skips_it feed e es other
    ∙ picks feed es (p + 1) (n ∷ ns) (c ∷ cs) more
    (one_on feed p e es (n ∷ ns) (c ∷ cs) (p + 1) ((p + 1) + length es) (omega arith) more s)
    (others_on feed p e es (n ∷ ns) (n ∷ ns) (λ m lt none. none) o))

from_start : (feed : ℕ) (journal : List Event) (ns : List ℕ) (cs : List Timed) → Stand feed journal ns cs
    → StandsFrom feed 0 journal ns cs
from_start feed journal [] [] s = tt
from_start feed journal [] (c ∷ cs) s = s
from_start feed journal (n ∷ ns) [] s = s
from_start feed journal (n ∷ ns) (c ∷ cs) s = (s.0, from_start feed journal ns cs s.1)

-- ---- all feeds

-- an event at a number of the feed is of the feed
is_of : (feed : ℕ) (journal : List Event) (ns : List ℕ) (cs : List Timed) (n : ℕ) (e : Event) → Stand feed journal ns cs
    → (times n ns ≡ 0 → ⊥) → slice_get journal (n - 1) ≡ Some e → e.feed ≡ feed
is_of feed journal [] [] n e s some at = absurd (some refl)
is_of feed journal [] (c ∷ cs) n e s some at = absurd s
is_of feed journal (m ∷ ns) [] n e s some at = absurd s
is_of feed journal (m ∷ ns) (c ∷ cs) n e s some at =
    dite (ℕ_discrete n m)
    (λ is.
    let there : slice_get journal (n - 1) ≡ Some (event m feed c.0 c.1) = ap (λ (k : ℕ). slice_get journal (k - 1)) is ∙ s.0 in
    let same : e ≡ event m feed c.0 c.1 = (cc) in
    ap (λ (x : Event). x.feed) same)
    (λ not. is_of feed journal ns cs n e s.1 (λ none. some (times_other n m ns not ∙ none)) at)

-- the feed that an event is of, where its number stands in one of the lists
record Owner (feed : ℕ) (nss : List (List ℕ)) (n : ℕ) (e : Event) : Type 0 where
  k : ℕ
  numbers : List ℕ
  at : slice_get nss k ≡ Some numbers
  some : times n numbers ≡ 0 → ⊥
  is : e.feed ≡ feed + k

owner : (feed : ℕ) (journal : List Event) (nss : List (List ℕ)) (css : List (List Timed)) (n : ℕ) (e : Event)
    → AreIn feed journal nss css → 0 < sum_by (times n) nss → slice_get journal (n - 1) ≡ Some e → Owner feed nss n e
owner feed journal [] css n e are some there = absurd (omega (arith, some))
owner feed journal (ms ∷ nss) [] n e are some there = absurd are
owner feed journal (ms ∷ nss) (cs ∷ css) n e are some there =
    dite (ℕ_discrete (times n ms) 0)
    (λ none.
    let more : 0 < sum_by (times n) nss = omega (arith, sum_by-cons (times n) ms nss, none, some) in
    let later = owner (feed + 1) journal nss css n e are.1 more there in
    record { k = suc later.k; numbers = later.numbers; at = later.at; some = later.some; is = omega (arith, later.is) })
    (λ here. record {
      k = 0;
      numbers = ms;
      at = refl;
      some = here;
      is = omega (arith, is_of feed journal ms cs n e are.0.stand here there);
    })

-- it is not of a feed in whose list the number does not stand
not_of : (feed k : ℕ) (journal : List Event) (nss : List (List ℕ)) (css : List (List Timed)) (ns : List ℕ) (n : ℕ) (e : Event)
    → AreIn feed journal nss css → slice_get nss k ≡ Some ns → times n ns ≡ 0 → 0 < sum_by (times n) nss
    → slice_get journal (n - 1) ≡ Some e → e.feed ≢ feed + k
not_of feed k journal nss css ns n e are at none some there is =
    let o = owner feed journal nss css n e are some there in
    let same : o.k ≡ k = omega (arith, o.is, is) in
    let lists : Some o.numbers ≡ Some ns = sym o.at ∙ ap (slice_get nss) same ∙ at in
    let list : o.numbers ≡ ns = (cc) in
    o.some (ap (times n) list ∙ none)

-- the lists of one feed
record Found (feed k : ℕ) (journal : List Event) (nss : List (List ℕ)) (commands : List Timed) : Type 0 where
  numbers : List ℕ
  at : slice_get nss k ≡ Some numbers
  taken : HasTaken (feed + k) journal numbers commands

found : (feed k : ℕ) (journal : List Event) (nss : List (List ℕ)) (css : List (List Timed)) (commands : List Timed)
    → AreIn feed journal nss css → slice_get css k ≡ Some commands → Found feed k journal nss commands
found feed k journal [] [] commands are at = absurd (cc)
found feed k journal [] (cs ∷ css) commands are at = absurd are
found feed k journal (ns ∷ nss) [] commands are at = absurd are
found feed zero journal (ns ∷ nss) (cs ∷ css) commands are at =
    let same : cs ≡ commands = (cc) in
    let first : feed ≡ feed + 0 = omega arith in record {
      numbers = ns;
      at = refl;
      taken = subst (λ (x : ℕ × List Timed). HasTaken x.0 journal ns x.1) (λ i. (first i, same i)) are.0;
    }
found feed (suc k) journal (ns ∷ nss) (cs ∷ css) commands are at =
    let later = found (feed + 1) k journal nss css commands are.1 at in
    let next : feed + 1 + k ≡ feed + suc k = omega arith in record {
      numbers = later.numbers;
      at = later.at;
      taken = subst (λ (x : ℕ). HasTaken x journal later.numbers commands) next later.taken;
    }

count_stands : (feed : ℕ) (journal : List Event) (ns : List ℕ) (cs : List Timed) → Stand feed journal ns cs → length ns ≡ length cs
count_stands feed journal [] [] s = refl
count_stands feed journal [] (c ∷ cs) s = absurd s
count_stands feed journal (n ∷ ns) [] s = absurd s
count_stands feed journal (n ∷ ns) (c ∷ cs) s = ap suc (count_stands feed journal ns cs s.1)

-- there are as many numbers as commands
pub counts : (feed : ℕ) (journal : List Event) (nss : List (List ℕ)) (css : List (List Timed)) → AreIn feed journal nss css
    → sum_by (λ ns. length ns) nss ≡ sum_by (λ cs. length cs) css
counts feed journal [] [] are = refl
counts feed journal [] (cs ∷ css) are = absurd are
counts feed journal (ns ∷ nss) [] are = absurd are
counts feed journal (ns ∷ nss) (cs ∷ css) are =
    omega (
      arith,
      sum_by-cons (λ (l : List ℕ). length l) ns nss,
      sum_by-cons (λ (l : List Timed). length l) cs css,
      count_stands feed journal ns cs are.0.stand,
      counts (feed + 1) journal nss css are.1,
    )

within_journal : (journal : List Event) (n : ℕ) (e : Event) → slice_get journal n ≡ Some e → n < length journal
within_journal [] n e at = absurd (cc)
within_journal (x ∷ xs) zero e at = omega arith
within_journal (x ∷ xs) (suc n) e at = omega (arith, within_journal xs n e at)

-- a journal whose numbers each stand once in the lists interleaves the commands
pub interleaves : (journal : List Event) (nss : List (List ℕ)) (css : List (List Timed)) → AreIn 1 journal nss css
    → ((n : ℕ) → 0 < n → n ≤ length journal → sum_by (times n) nss ≡ 1)
    → sum_by (λ ns. length ns) nss ≡ length journal → Interleaves journal css
interleaves journal nss css are once all = record {
  counts = sym all ∙ counts 1 journal nss css are;
  each = λ k commands at.
      let f = found 1 k journal nss css commands are at in
      let feed : k + 1 ≡ 1 + k = omega arith in
      ap (λ (m : ℕ). commands_of m journal) feed
      ∙ picks (1 + k) journal 0 f.numbers commands
      (bounds 0 0 f.numbers (length journal) (0 + length journal) refl (omega arith) f.taken.rise) (from_start (1 + k) journal f.numbers commands f.taken.stand)
      (λ n e past none there.
      let there' : slice_get journal (n - 1) ≡ Some e = there in
      let inside = within_journal journal (n - 1) e there' in
      not_of 1 k journal nss css f.numbers n e are f.at none (omega (arith, once n past (omega (arith, inside, past)))) there');
}
