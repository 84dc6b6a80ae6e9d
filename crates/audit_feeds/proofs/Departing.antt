-- Nothing is told of a symbol's journal just where it interleaves what the feeds ask of the symbol.
use Rattle.std.proofs.Common.{◌≡◌, ◌≤◌, ℕ, zero, suc, ◌+◌, ◌==◌, Bool, true, false, cond, ◌&&◌, List, [], ◌∷◌, ◌++◌, length, map, slice_get, Option, Some, None, refl, sym, ◌∙◌, ap, arith, true≢false}
use Rattle.std.specs.Prelude.{option_map, sum_by, nat_le, nat_lt}
use Rattle.std.proofs.lemmas.Bool.Decides.{nat_tests}
use Rattle.std.proofs.lemmas.List.Sums.{sum_by-cons}
use Rattle.venue_words.specs.declared.command.Event.{Event}
use Rattle.venue_words.specs.declared.config.Config.{Config}
use Rattle.eager_meaning.specs.Interleaving.{Interleaves, Timed, commands_of}
use Rattle.feed_work.specs.Feeds.{Asked, commands_at}
use Rattle.listing.specs.Commands.{name_at}
use Rattle.listing.specs.Lines.{ended}
use Rattle.audit_feeds.specs.Alike.{is_command}
use Rattle.audit_feeds.specs.FeedsText.{outside_text, departure_line, departure_text, departures_from, departures_text}
use Rattle.audit_feeds.specs.Departures.{events_of, first_outside, first_departure, is_outside}
use Rattle.audit_feeds.specs.declared.departures.Departure.{Departure}
use Rattle.audit_feeds.proofs.Sameness.{is_command_Decides}

-- ---- one feed

abbrev timed_of : Event → Timed
timed_of event = (event.moment, event.command)

on_true : {A : Type 0} (b : Bool) (x y : A) → b ≡ true → cond b x y ≡ x
on_true true x y e = refl
on_true false x y e = absurd (true≢false (sym e))

is_true : {A : Type 0} (b : Bool) (x : Option A) (y : A) → cond b x (Some y) ≡ None → b ≡ true
is_true true x y e = refl
is_true false x y e = absurd (cc)

none_departure : (place : ℕ) (events : List Event) (commands : List Timed) → first_departure place events commands ≡ None → map timed_of events ≡ commands
unfolding first_departure
none_departure place [] [] e = refl
none_departure place [] (timed ∷ more) e = absurd (cc)
none_departure place (event ∷ later) [] e = absurd (cc)
none_departure place (event ∷ later) (timed ∷ more) e =
    let is : is_command event timed ≡ true = is_true (is_command event timed) (first_departure (place + 1) later more) _ e in
    let rest : first_departure (place + 1) later more ≡ None = sym (on_true (is_command event timed) (first_departure (place + 1) later more) _ is) ∙ e in
    let first : (event.moment, event.command) ≡ timed = (is_command_Decides event timed).0 is in
    let others : map timed_of later ≡ more = none_departure (place + 1) later more rest in
    λ k. first k ∷ others k

no_departure : (place : ℕ) (events : List Event) (commands : List Timed) → map timed_of events ≡ commands → first_departure place events commands ≡ None
unfolding first_departure
no_departure place [] [] e = refl
no_departure place [] (timed ∷ more) e = absurd (cc)
no_departure place (event ∷ later) [] e = absurd (cc)
no_departure place (event ∷ later) (timed ∷ more) e =
    let first : (event.moment, event.command) ≡ timed = cc in
    let others : map timed_of later ≡ more = cc in
    on_true (is_command event timed) (first_departure (place + 1) later more) _ ((is_command_Decides event timed).1 first)
    ∙ no_departure (place + 1) later more others

-- ---- all feeds

-- the events of each feed from one on are what it asks
abbrev Each : ℕ → List Event → ℕ → List (List Asked) → Type 0
Each symbol journal feed [] = Unit {0}
Each symbol journal feed (commands ∷ feeds) =
    (commands_of feed journal ≡ commands_at symbol commands) × Each symbol journal (feed + 1) feeds

ended_is : (line : List ℕ) → ended line ≡ [] → ⊥
ended_is [] e = absurd (cc)
ended_is (b ∷ line) e = absurd (cc)

first_none : (xs ys : List ℕ) → xs ++ ys ≡ [] → xs ≡ []
first_none [] ys e = refl
first_none (x ∷ xs) ys e = absurd (cc)

second_none : (xs ys : List ℕ) → xs ++ ys ≡ [] → ys ≡ []
second_none [] ys e = e
second_none (x ∷ xs) ys e = absurd (cc)

text_none : (name : List ℕ) (feed : ℕ) (found : Option Departure) → departure_text name feed found ≡ [] → found ≡ None
unfolding departure_text
text_none name feed None e = refl
text_none name feed (Some departure) e = absurd (ended_is (departure_line name feed departure) e)

no_text : (name : List ℕ) (feed : ℕ) (found : Option Departure) → found ≡ None → departure_text name feed found ≡ []
unfolding departure_text
no_text name feed None e = refl
no_text name feed (Some departure) e = absurd (cc)

each_is : (name : List ℕ) (symbol : ℕ) (journal : List Event) (feed : ℕ) (feeds : List (List Asked)) → departures_from name symbol journal feed feeds ≡ []
    → Each symbol journal feed feeds
each_is name symbol journal feed [] e = tt
each_is name symbol journal feed (commands ∷ feeds) e =
    let here = departure_text name feed (first_departure 0 (events_of feed journal) (commands_at symbol commands)) in
    let later = departures_from name symbol journal (feed + 1) feeds in (
      none_departure 0 (events_of feed journal) (commands_at symbol commands)
          (text_none name feed (first_departure 0 (events_of feed journal) (commands_at symbol commands)) (first_none here later e)),
      each_is name symbol journal (feed + 1) feeds (second_none here later e),
    )

none_from : (name : List ℕ) (symbol : ℕ) (journal : List Event) (feed : ℕ) (feeds : List (List Asked)) → Each symbol journal feed feeds
    → departures_from name symbol journal feed feeds ≡ []
none_from name symbol journal feed [] each = refl
none_from name symbol journal feed (commands ∷ feeds) each =
    ap (λ (text : List ℕ). text ++ departures_from name symbol journal (feed + 1) feeds)
    (no_text name feed (first_departure 0 (events_of feed journal) (commands_at symbol commands))
    (no_departure 0 (events_of feed journal) (commands_at symbol commands) each.0))
    ∙ none_from name symbol journal (feed + 1) feeds each.1

each_at : (symbol : ℕ) (journal : List Event) (feed : ℕ) (feeds : List (List Asked)) (k : ℕ) (commands : List Timed) → Each symbol journal feed feeds
    → slice_get (map (commands_at symbol) feeds) k ≡ Some commands → commands_of (feed + k) journal ≡ commands
each_at symbol journal feed [] k commands each at = absurd (cc)
each_at symbol journal feed (first ∷ feeds) zero commands each at =
    let same : commands_at symbol first ≡ commands = cc in
    let here : feed + 0 ≡ feed = omega arith in
    ap (λ (n : ℕ). commands_of n journal) here ∙ each.0 ∙ same
each_at symbol journal feed (first ∷ feeds) (suc k) commands each at =
    let place : feed + suc k ≡ (feed + 1) + k = omega arith in
    ap (λ (n : ℕ). commands_of n journal) place ∙ each_at symbol journal (feed + 1) feeds k commands each.1 at

each_from : (symbol : ℕ) (journal : List Event) (feed : ℕ) (feeds : List (List Asked))
    → ((k : ℕ) (commands : List Timed) → slice_get (map (commands_at symbol) feeds) k ≡ Some commands → commands_of (feed + k) journal ≡ commands)
    → Each symbol journal feed feeds
each_from symbol journal feed [] is = tt
each_from symbol journal feed (first ∷ feeds) is =
    let here : feed ≡ feed + 0 = omega arith in (
      ap (λ (n : ℕ). commands_of n journal) here ∙ is 0 (commands_at symbol first) refl,
      each_from symbol journal (feed + 1) feeds (λ k commands at.
          let place : (feed + 1) + k ≡ feed + suc k = omega arith in
          ap (λ (n : ℕ). commands_of n journal) place ∙ is (suc k) commands at),
    )

-- ---- every event is of a feed

-- how many events are of so many feeds from one on
abbrev counts : ℕ → ℕ → List Event → ℕ
counts feed zero journal = 0
counts feed (suc n) journal = length (commands_of feed journal) + counts (feed + 1) n journal

abbrev bit : Bool → ℕ
bit b = cond b 1 0

abbrev inside : ℕ → ℕ → ℕ → Bool
inside feed n x = nat_le feed x && nat_lt x (feed + n)

inside_none : (feed x : ℕ) → bit (inside feed 0 x) ≡ 0
inside_none feed x = grind (arith, nat_tests)

inside_more : (feed n x : ℕ) → bit (x == feed) + bit (inside (feed + 1) n x) ≡ bit (inside feed (suc n) x)
inside_more feed n x = grind (arith, nat_tests)

length_cons : (feed : ℕ) (event : Event) (journal : List Event) (b : Bool) → (event.feed == feed) ≡ b
    → length (commands_of feed (event ∷ journal)) ≡ bit b + length (commands_of feed journal)
length_cons feed event journal true e =
    let is : commands_of feed (event ∷ journal) ≡ timed_of event ∷ commands_of feed journal = rw e refl in
    omega (arith, ap (λ (l : List Timed). length l) is)
length_cons feed event journal false e =
    let is : commands_of feed (event ∷ journal) ≡ commands_of feed journal = rw e refl in
    omega (arith, ap (λ (l : List Timed). length l) is)

counts_cons : (feed n : ℕ) (event : Event) (journal : List Event) → counts feed n (event ∷ journal) ≡ bit (inside feed n event.feed) + counts feed n journal
counts_cons feed zero event journal = omega (arith, inside_none feed event.feed)
counts_cons feed (suc n) event journal =
    omega (
      arith,
      length_cons feed event journal (event.feed == feed) refl,
      counts_cons (feed + 1) n event journal,
      inside_more feed n event.feed,
    )

counts_nil : (feed n : ℕ) → counts feed n [] ≡ 0
counts_nil feed zero = refl
counts_nil feed (suc n) = omega (arith, counts_nil (feed + 1) n)

bit_most : (b : Bool) → bit b ≤ 1
bit_most true = omega arith
bit_most false = omega arith

counts_most : (n : ℕ) (journal : List Event) → counts 1 n journal ≤ length journal
counts_most n [] = omega (arith, counts_nil 1 n)
counts_most n (event ∷ journal) =
    omega (arith, counts_cons 1 n event journal, bit_most (inside 1 n event.feed), counts_most n journal)

inside_is : (n : ℕ) (event : Event) (b : Bool) → is_outside n event ≡ b → bit (inside 1 n event.feed) ≡ cond b 0 1
inside_is n event true e = grind (arith, nat_tests)
inside_is n event false e = grind (arith, nat_tests)

inside_step : (n : ℕ) (event : Event) (journal : List Event) (b : Bool) → is_outside n event ≡ b → cond b (Some event) (first_outside n journal) ≡ None
    → (first_outside n journal ≡ None → length journal ≡ counts 1 n journal) → length (event ∷ journal) ≡ counts 1 n (event ∷ journal)
inside_step n event journal true is none more = absurd (cc)
inside_step n event journal false is none more =
    omega (arith, counts_cons 1 n event journal, inside_is n event false is, more none)

all_inside : (n : ℕ) (journal : List Event) → first_outside n journal ≡ None → length journal ≡ counts 1 n journal
all_inside n [] e = sym (counts_nil 1 n)
all_inside n (event ∷ journal) e = inside_step n event journal (is_outside n event) refl e (all_inside n journal)

outside_step : (n : ℕ) (event : Event) (journal : List Event) (b : Bool) → is_outside n event ≡ b → length (event ∷ journal) ≡ counts 1 n (event ∷ journal)
    → (length journal ≡ counts 1 n journal → first_outside n journal ≡ None) → cond b (Some event) (first_outside n journal) ≡ None
outside_step n event journal true is e more =
    absurd (omega (arith, e, counts_cons 1 n event journal, inside_is n event true is, counts_most n journal))
outside_step n event journal false is e more =
    more (omega (arith, e, counts_cons 1 n event journal, inside_is n event false is))

none_outside : (n : ℕ) (journal : List Event) → length journal ≡ counts 1 n journal → first_outside n journal ≡ None
none_outside n [] e = refl
none_outside n (event ∷ journal) e = outside_step n event journal (is_outside n event) refl e (none_outside n journal)

counts_sum : (symbol : ℕ) (journal : List Event) (feed : ℕ) (feeds : List (List Asked)) → Each symbol journal feed feeds
    → counts feed (length feeds) journal ≡ sum_by (λ commands. length commands) (map (commands_at symbol) feeds)
counts_sum symbol journal feed [] each = refl
counts_sum symbol journal feed (commands ∷ feeds) each =
    let here : length (commands_of feed journal) ≡ length (commands_at symbol commands) = ap (λ (l : List Timed). length l) each.0 in
    omega (
      arith,
      here,
      counts_sum symbol journal (feed + 1) feeds each.1,
      sum_by-cons (λ (l : List Timed). length l) (commands_at symbol commands) (map (commands_at symbol) feeds),
    )

outside_none : (name : List ℕ) (found : Option Event) → outside_text name (option_map (λ event. event.number) found) ≡ [] → found ≡ None
unfolding outside_text
outside_none name None e = refl
outside_none name (Some event) e = absurd (ended_is _ e)

no_outside : (name : List ℕ) (found : Option Event) → found ≡ None → outside_text name (option_map (λ event. event.number) found) ≡ []
unfolding outside_text
no_outside name None e = refl
no_outside name (Some event) e = absurd (cc)

-- ---- a symbol

pub interleaves : (feeds : List (List Asked)) (config : Config) (symbol : ℕ) (journal : List Event) → departures_text feeds config symbol journal ≡ []
    → Interleaves journal (map (commands_at symbol) feeds)
unfolding departures_text
interleaves feeds config symbol journal e =
    let name = name_at config.symbols symbol in
    let outside = outside_text name (option_map (λ event. event.number) (first_outside (length feeds) journal)) in
    let departures = departures_from name symbol journal 1 feeds in
    let each = each_is name symbol journal 1 feeds (second_none outside departures e) in record {
      counts = all_inside (length feeds) journal (outside_none name (first_outside (length feeds) journal) (first_none outside departures e))
          ∙ counts_sum symbol journal 1 feeds each;
      each = λ k commands at.
          let place : k + 1 ≡ 1 + k = omega arith in
          ap (λ (n : ℕ). commands_of n journal) place ∙ each_at symbol journal 1 feeds k commands each at;
    }

pub nothing_told : (feeds : List (List Asked)) (config : Config) (symbol : ℕ) (journal : List Event) → Interleaves journal (map (commands_at symbol) feeds)
    → departures_text feeds config symbol journal ≡ []
unfolding departures_text
nothing_told feeds config symbol journal is =
    let name = name_at config.symbols symbol in
    let each = each_from symbol journal 1 feeds (λ k commands at.
    let place : 1 + k ≡ k + 1 = omega arith in
    ap (λ (n : ℕ). commands_of n journal) place ∙ is.each k commands at) in
    ap (λ (text : List ℕ). text ++ departures_from name symbol journal 1 feeds)
    (no_outside name (first_outside (length feeds) journal) (none_outside (length feeds) journal (is.counts ∙ sym (counts_sum symbol journal 1 feeds each))))
    ∙ none_from name symbol journal 1 feeds each
