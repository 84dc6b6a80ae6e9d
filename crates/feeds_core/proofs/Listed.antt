-- What a listed command adds.
use Rattle.std.proofs.Common.{◌≡◌, ◌≢◌, ◌⊎◌, ℕ, zero, suc, ◌+◌, ◌<◌, ◌==◌, true, false, List, [], ◌∷◌, ◌++◌, length, get_or, slice_index, replicate, refl, sym, ◌∙◌, ap, subst, append-nil, length-append, inl, inr, arith}
use Rattle.std.proofs.Math.Nat.{add-zero}
use Rattle.std.proofs.Math.ListN.{set}
use Rattle.std.proofs.lemmas.Bool.Decides.{nat_tests}
use Rattle.std.proofs.lemmas.List.Elements.{filter-append, All-push}
use Rattle.std.specs.List.{All, range_with_len}
use Rattle.venue_words.specs.declared.command.Event.{Event}
use Rattle.venue_words.specs.Floors.{Records}
use Rattle.venue_words.specs.Journals.{event}
use Rattle.feed_work.specs.Feeds.{IsFor}
use Rattle.feeds_core.specs.Listings.{listing_setup, listed_of, events_from, view_of, asked_of, no_limit}
use Rattle.feeds_core.specs.declared.listing_floor.Listed.{Listed}

pub eq_or_not : (a b : ℕ) → (a ≡ b) ⊎ (a ≢ b)
eq_or_not zero zero = inl refl
eq_or_not zero (suc b) = inr (λ e. absurd (cc))
eq_or_not (suc a) zero = inr (λ e. absurd (cc))
eq_or_not (suc a) (suc b) = elim (eq_or_not a b) [ inl e ↦ inl (ap suc e) | inr n ↦ inr (λ e. n (cc)) ]

pub test_same : (a b : ℕ) → a ≡ b → (a == b) ≡ true
test_same a b e = grind (arith, nat_tests)

pub test_other : (a b : ℕ) → a ≢ b → (a == b) ≡ false
test_other a b n = grind (arith, nat_tests)

-- ---- of a symbol

pub listed_here : (symbol : ℕ) (xs : List Listed) (one : Listed) → one.symbol ≡ symbol
    → listed_of symbol (xs ++ one ∷ []) ≡ listed_of symbol xs ++ one ∷ []
listed_here symbol xs one e =
    let here = test_same one.symbol symbol e in
    filter-append (λ (x : Listed). x.symbol == symbol) xs (one ∷ []) ∙ rw here refl

pub listed_elsewhere : (symbol : ℕ) (xs : List Listed) (one : Listed) → one.symbol ≢ symbol
    → listed_of symbol (xs ++ one ∷ []) ≡ listed_of symbol xs
listed_elsewhere symbol xs one n =
    let elsewhere = test_other one.symbol symbol n in
    filter-append (λ (x : Listed). x.symbol == symbol) xs (one ∷ []) ∙ rw elsewhere (append-nil (listed_of symbol xs))

-- ---- as events

pub events_more : (n : ℕ) (xs : List Listed) (one : Listed)
    → events_from n (xs ++ one ∷ []) ≡ events_from n xs ++ event (n + length xs) one.feed one.moment one.command ∷ []
events_more n [] one = ap (λ (k : ℕ). event k one.feed one.moment one.command ∷ []) (sym (add-zero n))
events_more n (x ∷ xs) one =
    let next : (n + 1) + length xs ≡ n + length (x ∷ xs) = omega arith in
    ap (λ (es : List Event). event n x.feed x.moment x.command ∷ es)
    (events_more (n + 1) xs one ∙ ap (λ (k : ℕ). events_from (n + 1) xs ++ event k one.feed one.moment one.command ∷ []) next)

pub events_count : (n : ℕ) (xs : List Listed) → length (events_from n xs) ≡ length xs
events_count n [] = refl
events_count n (x ∷ xs) = let rest = events_count (n + 1) xs in omega arith

range_more : (a n : ℕ) → range_with_len a (suc n) ≡ range_with_len a n ++ (a + n) ∷ []
range_more a zero = ap (λ (k : ℕ). k ∷ []) (sym (add-zero a))
range_more a (suc n) =
    let e : (a + 1) + n ≡ a + suc n = omega arith in
    ap (λ (xs : List ℕ). a ∷ xs) (range_more (a + 1) n ∙ ap (λ (k : ℕ). range_with_len (a + 1) n ++ k ∷ []) e)

-- the view of what was listed of a symbol records one more
records_one : (xs : List Listed) (one : Listed) (number : ℕ) → number ≡ length xs + 1
    → Records (view_of xs) (view_of (xs ++ one ∷ [])) number one.feed one.moment one.command
records_one xs one number n =
    let journal = events_from 1 xs in
    let count : length journal ≡ length xs = events_count 1 xs in
    let last : 1 + length xs ≡ number = omega arith in
    let more : events_from 1 (xs ++ one ∷ []) ≡ journal ++ event number one.feed one.moment one.command ∷ [] =
    events_more 1 xs one ∙ ap (λ (k : ℕ). journal ++ event k one.feed one.moment one.command ∷ []) last in
    let long : length (events_from 1 (xs ++ one ∷ [])) ≡ suc (length journal) =
    ap (length {A = Event}) more ∙ length-append journal (event number one.feed one.moment one.command ∷ []) ∙ omega arith in
    let next : 1 + length journal ≡ number = omega arith in (
      [],
      more ∙ ap (λ (js : List Event). js ++ event number one.feed one.moment one.command ∷ []) (sym (append-nil journal)),
      omega (arith, long, count, n),
      ap (range_with_len 1) long ∙ range_more 1 (length journal) ∙ ap (λ (k : ℕ). range_with_len 1 (length journal) ++ k ∷ []) next,
    )

pub recorded_here : (xs ys : List Listed) (one : Listed) (number : ℕ) → ys ≡ xs ++ one ∷ []
    → number ≡ length (listed_of one.symbol xs) + 1
    → Records (view_of (listed_of one.symbol xs)) (view_of (listed_of one.symbol ys)) number one.feed one.moment one.command
recorded_here xs ys one number e n =
    subst (λ (zs : List Listed). Records (view_of (listed_of one.symbol xs)) (view_of zs) number one.feed one.moment one.command)
    (sym (ap (listed_of one.symbol) e ∙ listed_here one.symbol xs one refl))
    (records_one (listed_of one.symbol xs) one number n)

-- the journal behind it, as a call of `submit` asks for its steps
pub journal_behind : (xs ys : List Listed) (one : Listed) (number : ℕ) → ys ≡ xs ++ one ∷ []
    → number ≡ length (listed_of one.symbol xs) + 1
    → (view_of (listed_of one.symbol ys)).journal
    ≡ (view_of (listed_of one.symbol xs)).journal ++ event number one.feed one.moment one.command ∷ []
journal_behind xs ys one number e n =
    let last : 1 + length (listed_of one.symbol xs) ≡ number = omega arith in
    ap (λ (zs : List Listed). events_from 1 (listed_of one.symbol zs)) e
    ∙ ap (events_from 1) (listed_here one.symbol xs one refl)
    ∙ events_more 1 (listed_of one.symbol xs) one
    ∙ ap (λ (k : ℕ). events_from 1 (listed_of one.symbol xs) ++ event k one.feed one.moment one.command ∷ []) last

-- ---- counts

set_here : (xs : List ℕ) (i v : ℕ) → i < length xs → slice_index (set xs i v) i ≡ v
set_here [] i v l = absurd (omega arith)
set_here (x ∷ xs) zero v l = refl
set_here (x ∷ xs) (suc i) v l = set_here xs i v (omega arith)

set_elsewhere : (xs : List ℕ) (i j v : ℕ) → i ≢ j → slice_index (set xs i v) j ≡ slice_index xs j
set_elsewhere [] i j v n = refl
set_elsewhere (x ∷ xs) zero zero v n = absurd (n refl)
set_elsewhere (x ∷ xs) zero (suc j) v n = refl
set_elsewhere (x ∷ xs) (suc i) zero v n = refl
set_elsewhere (x ∷ xs) (suc i) (suc j) v n = set_elsewhere xs i j v (λ e. n (ap suc e))

pub set_length : (xs : List ℕ) (i v : ℕ) → length (set xs i v) ≡ length xs
set_length [] i v = refl
set_length (x ∷ xs) zero v = refl
set_length (x ∷ xs) (suc i) v = ap suc (set_length xs i v)

abbrev pub AreCounts : List Listed → List ℕ → Type 0
AreCounts listed counts = (symbol : ℕ) → symbol < length counts → slice_index counts symbol ≡ length (listed_of symbol listed)

pub counts_more : (xs ys : List Listed) (counts counts' : List ℕ) (one : Listed) (number : ℕ) → ys ≡ xs ++ one ∷ []
    → counts' ≡ set counts one.symbol number → one.symbol < length counts
    → number ≡ length (listed_of one.symbol xs) + 1 → AreCounts xs counts → AreCounts ys counts'
counts_more xs ys counts counts' one number e f inside n are symbol l =
    let size : length counts' ≡ length counts = ap (length {A = ℕ}) f ∙ set_length counts one.symbol number in
    elim (eq_or_not one.symbol symbol) [
      | inl same ↦
          let here : length (listed_of symbol ys) ≡ length (listed_of symbol xs) + 1 =
          ap (λ (zs : List Listed). length (listed_of symbol zs)) e ∙ ap (length {A = Listed}) (listed_here symbol xs one same)
          ∙ length-append (listed_of symbol xs) (one ∷ []) in
          let told : length (listed_of one.symbol xs) ≡ length (listed_of symbol xs) = ap (λ (s : ℕ). length (listed_of s xs)) same in
          ap (λ (zs : List ℕ). slice_index zs symbol) f
          ∙ ap (slice_index (set counts one.symbol number)) (sym same) ∙ set_here counts one.symbol number inside
          ∙ omega (arith, n, told, here)
      | inr other ↦
          let there : listed_of symbol ys ≡ listed_of symbol xs = ap (listed_of symbol) e ∙ listed_elsewhere symbol xs one other in
          ap (λ (zs : List ℕ). slice_index zs symbol) f ∙ set_elsewhere counts one.symbol symbol number other
          ∙ are symbol (omega (arith, size, l)) ∙ ap (length {A = Listed}) (sym there)
    ]

-- ---- what is asked

pub asked_more : (members markets symbols symbols' : ℕ) (xs ys : List Listed) (one : Listed) → ys ≡ xs ++ one ∷ [] → symbols' ≡ symbols
    → IsFor (listing_setup members markets symbols) (asked_of one)
    → All (λ x. IsFor (listing_setup members markets symbols) (asked_of x)) xs
    → All (λ x. IsFor (listing_setup members markets symbols') (asked_of x)) ys
asked_more members markets symbols symbols' xs ys one e s is all =
    subst (λ (n : ℕ). All (λ (x : Listed). IsFor (listing_setup members markets n) (asked_of x)) ys) (sym s)
    (subst (All (λ (x : Listed). IsFor (listing_setup members markets symbols) (asked_of x))) (sym e)
    (All-push (λ (x : Listed). IsFor (listing_setup members markets symbols) (asked_of x)) xs one all is))

pub limits_count : (symbols : ℕ) → length (replicate symbols no_limit) ≡ symbols
limits_count zero = refl
limits_count (suc symbols) = ap suc (limits_count symbols)

-- a number that was read at its place
pub read_within : (xs : List ℕ) (i d : ℕ) → i < length xs → d ≡ get_or xs i d → d ≡ slice_index xs i
read_within [] i d l e = absurd (omega arith)
read_within (x ∷ xs) zero d l e = e
read_within (x ∷ xs) (suc i) d l e = read_within xs i d (omega arith) e
