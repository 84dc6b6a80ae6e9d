-- What a floor that lists has listed once it took commands.
use Rattle.std.proofs.Common.{◌≡◌, ◌≢◌, ◌⊎◌, ℕ, suc, ℤ, ◌+◌, ◌==◌, nat_lt, Bool, true, false, cond, List, [], ◌∷◌, ◌++◌, length, map, Option, refl, sym, ◌∙◌, ap, subst, append-nil, append_assoc, length-append, inl, inr, arith}
use Rattle.std.proofs.lemmas.List.{map-append}
use Rattle.std.proofs.lemmas.List.Elements.{filter-append, All-map, All-weaker}
use Rattle.std.proofs.lemmas.List.FromFn.{length-range_with_len}
use Rattle.std.specs.List.{All, filter, range_with_len}
use Rattle.venue_words.specs.declared.command.Command.{Command}
use Rattle.venue_words.specs.declared.command.Command.TheVariants.{Quote, New, Cancel, Replace, Status}
use Rattle.venue_words.specs.declared.command.Event.{Event}
use Rattle.venue_words.specs.declared.config.Config.{Config}
use Rattle.venue_words.specs.Conditions.{IsConfig}
use Rattle.venue_words.specs.Floors.{FloorMark, Setup, SymbolView, IsSetUpFor, Records, is_configured, setup_of}
use Rattle.venue_words.specs.Journals.{event}
use Rattle.eager_meaning.specs.Interleaving.{Timed}
use Rattle.member_gate.specs.Answering.{Submission}
use Rattle.member_gate.specs.Submitting.{TookOne, TookAll}
use Rattle.line_work.specs.Commands.{at_moment, commands_for}
use Rattle.feed_work.specs.Feeds.{Asked, IsFor, commands_at}
use Rattle.feeds_core.specs.Listings.{Listing, listed_of, events_from, listing_view, asked_of, timed_of, timed_at}
use Rattle.feeds_core.specs.declared.listing_floor.Listed.{Listed}
use Rattle.feeds_core.proofs.Listed.{eq_or_not, test_same, test_other}

empty : {A : Type 0} (xs : List A) → length xs ≡ 0 → xs ≡ []
empty [] e = refl
empty (x ∷ xs) e = absurd (omega arith)

-- where every event is an own one, what was recorded stands right behind what was there
own_next : (before after : SymbolView) (number feed : ℕ) (moment : ℤ) (command : Command)
    → before.mine ≡ range_with_len 1 (length before.journal) → after.mine ≡ range_with_len 1 (length after.journal)
    → Records before after number feed moment command → after.journal ≡ before.journal ++ event number feed moment command ∷ []
own_next before after number feed moment command old new r =
    let own : length (range_with_len 1 (length after.journal)) ≡ length (range_with_len 1 (length before.journal) ++ number ∷ []) =
    ap length (sym new ∙ r.3 ∙ ap (λ (xs : List ℕ). xs ++ number ∷ []) old) in
    let grew : length after.journal ≡ length before.journal + 1 = omega (arith, simp (length-append, length-range_with_len) at own) in
    let whole : length after.journal ≡ length ((before.journal ++ r.0) ++ event number feed moment command ∷ []) = ap length r.1 in
    let short : length r.0 ≡ 0 = omega (arith, simp length-append at whole) in
    let joined : before.journal ++ r.0 ≡ before.journal = ap (λ (xs : List Event). before.journal ++ xs) (empty r.0 short) ∙ append-nil before.journal in
    r.1 ∙ ap (λ (js : List Event). js ++ event number feed moment command ∷ []) joined

-- ---- moments and commands

abbrev timed_event : Event → Timed
timed_event e = (e.moment, e.command)

timed_events : (n : ℕ) (xs : List Listed) → map timed_event (events_from n xs) ≡ map timed_of xs
timed_events n [] = refl
timed_events n (x ∷ xs) = ap (λ (ts : List Timed). timed_of x ∷ ts) (timed_events (n + 1) xs)

-- one more event is one more command
timed_more : (xs ys : List Listed) (number feed : ℕ) (moment : ℤ) (command : Command)
    → events_from 1 ys ≡ events_from 1 xs ++ event number feed moment command ∷ []
    → map timed_of ys ≡ map timed_of xs ++ (moment, command) ∷ []
timed_more xs ys number feed moment command e =
    sym (timed_events 1 ys) ∙ ap (map timed_event) e ∙ map-append timed_event (events_from 1 xs) (event number feed moment command ∷ [])
    ∙ ap (λ (ts : List Timed). ts ++ (moment, command) ∷ []) (timed_events 1 xs)

-- the same journal has the same commands
timed_same : (xs ys : List Listed) → events_from 1 ys ≡ events_from 1 xs → map timed_of ys ≡ map timed_of xs
timed_same xs ys e = sym (timed_events 1 ys) ∙ ap (map timed_event) e ∙ timed_events 1 xs

command_here : (symbol : ℕ) (moment : ℤ) (one : Submission) (others : List Submission) → one.symbol ≡ symbol
    → commands_for symbol (at_moment moment (one ∷ others)) ≡ (moment, one.command) ∷ commands_for symbol (at_moment moment others)
command_here symbol moment one others e = let here = test_same one.symbol symbol e in rw here refl

command_elsewhere : (symbol : ℕ) (moment : ℤ) (one : Submission) (others : List Submission) → one.symbol ≢ symbol
    → commands_for symbol (at_moment moment (one ∷ others)) ≡ commands_for symbol (at_moment moment others)
command_elsewhere symbol moment one others n = let elsewhere = test_other one.symbol symbol n in rw elsewhere refl

abbrev pub Limit : Type 0
Limit = FloorMark → ℕ → List Event → Event → Option ℕ

took_one : (limit : Limit) (mark : FloorMark) (feed : ℕ) (moment : ℤ) (one : Submission) (before after : Listing × ℕ) (symbol : ℕ)
    (behind : List Timed) (all : List Timed)
    → TookOne listing_view limit mark feed moment one before after → (one.symbol ≡ symbol) ⊎ (one.symbol ≢ symbol)
    → all ≡ timed_at symbol after.0.listed ++ behind
    → ((one.symbol ≡ symbol) → all ≡ timed_at symbol before.0.listed ++ (moment, one.command) ∷ behind)
    × ((one.symbol ≢ symbol) → all ≡ timed_at symbol before.0.listed ++ behind)
took_one limit mark feed moment one before after symbol behind all t which e = (
  λ same.
      let next : events_from 1 (listed_of one.symbol after.0.listed) ≡ events_from 1 (listed_of one.symbol before.0.listed) ++ event t.number feed moment one.command ∷ [] =
      own_next (listing_view before.0 one.symbol) (listing_view after.0 one.symbol) t.number feed moment one.command refl refl t.records in
      let here : timed_at one.symbol after.0.listed ≡ timed_at one.symbol before.0.listed ++ (moment, one.command) ∷ [] =
      timed_more (listed_of one.symbol before.0.listed) (listed_of one.symbol after.0.listed) t.number feed moment one.command next in
      let there : timed_at symbol after.0.listed ≡ timed_at symbol before.0.listed ++ (moment, one.command) ∷ [] =
      subst (λ (s : ℕ). timed_at s after.0.listed ≡ timed_at s before.0.listed ++ (moment, one.command) ∷ []) same here in
      e ∙ ap (λ (ts : List Timed). ts ++ behind) there ∙ append_assoc (timed_at symbol before.0.listed) ((moment, one.command) ∷ []) behind,
  λ other.
      let kept : listing_view after.0 symbol ≡ listing_view before.0 symbol = t.others symbol (λ s. other (sym s)) in
      let same : timed_at symbol after.0.listed ≡ timed_at symbol before.0.listed =
      timed_same (listed_of symbol before.0.listed) (listed_of symbol after.0.listed) (ap (λ (v : SymbolView). v.journal) kept) in
      e ∙ ap (λ (ts : List Timed). ts ++ behind) same,
)

pub took_lists : (limit : Limit) (mark : FloorMark) (feed : ℕ) (moment : ℤ) (subs : List Submission) (before after : Listing × ℕ) (symbol : ℕ)
    → TookAll listing_view limit mark feed moment subs before after
    → timed_at symbol after.0.listed ≡ timed_at symbol before.0.listed ++ commands_for symbol (at_moment moment subs)
took_lists limit mark feed moment [] before after symbol t =
    ap (λ (x : Listing × ℕ). timed_at symbol x.0.listed) t ∙ sym (append-nil (timed_at symbol before.0.listed))
took_lists limit mark feed moment (one ∷ others) before after symbol t =
    let rest = took_lists limit mark feed moment others t.0 after symbol t.2 in
    let which = eq_or_not one.symbol symbol in
    let first = took_one limit mark feed moment one before t.0 symbol (commands_for symbol (at_moment moment others)) _ t.1 which rest in
    elim which [
      | inl same ↦ first.0 same ∙ ap (λ (ts : List Timed). timed_at symbol before.0.listed ++ ts) (sym (command_here symbol moment one others same))
      | inr other ↦ first.1 other ∙ ap (λ (ts : List Timed). timed_at symbol before.0.listed ++ ts) (sym (command_elsewhere symbol moment one others other))
    ]

pub commands_append : (symbol : ℕ) (xs ys : List (ℤ × Submission)) → commands_for symbol (xs ++ ys) ≡ commands_for symbol xs ++ commands_for symbol ys
commands_append symbol xs ys =
    let p : ℤ × Submission → Bool = λ one. one.1.symbol == symbol in
    let f : ℤ × Submission → ℤ × Command = λ one. (one.0, one.1.command) in
    ap (map f) (filter-append p xs ys) ∙ map-append f (filter p xs) (filter p ys)

-- ---- as what a feed asks

abbrev timed_asked : Asked → Timed
timed_asked a = (a.1, a.2)

abbrev is_at : ℕ → Asked → Bool
is_at symbol a = a.0 == symbol

pub asked_timed : (symbol : ℕ) (xs : List Listed) → commands_at symbol (map asked_of xs) ≡ timed_at symbol xs
asked_timed symbol [] = refl
asked_timed symbol (x ∷ xs) = pick (x.symbol == symbol) (asked_timed symbol xs)
  where
    pick : (b : Bool) → commands_at symbol (map asked_of xs) ≡ timed_at symbol xs
        → map timed_asked (cond b (asked_of x ∷ filter (is_at symbol) (map asked_of xs)) (filter (is_at symbol) (map asked_of xs)))
        ≡ map timed_of (cond b (x ∷ listed_of symbol xs) (listed_of symbol xs))
    pick true e = ap (λ (ts : List Timed). timed_of x ∷ ts) e
    pick false e = e

timed_count : (ls : List Listed) → length (map timed_of ls) ≡ length ls
timed_count [] = refl
timed_count (l ∷ ls) = ap suc (timed_count ls)

pub asked_count : (symbol : ℕ) (xs : List Listed) → length (commands_at symbol (map asked_of xs)) ≡ length (listed_of symbol xs)
asked_count symbol xs = ap (length {A = Timed}) (asked_timed symbol xs) ∙ timed_count (listed_of symbol xs)

configured_alike : (a b : Setup) (command : Command) → a.members ≡ b.members → a.markets ≡ b.markets
    → is_configured a command ≡ true → is_configured b command ≡ true
configured_alike a b (Quote market bid offer) m k e = subst (λ (n : ℕ). nat_lt market n ≡ true) k e
configured_alike a b (New member id terms) m k e = subst (λ (n : ℕ). nat_lt member n ≡ true) m e
configured_alike a b (Cancel member id orig) m k e = subst (λ (n : ℕ). nat_lt member n ≡ true) m e
configured_alike a b (Replace member id orig terms) m k e = subst (λ (n : ℕ). nat_lt member n ≡ true) m e
configured_alike a b (Status member id side) m k e = subst (λ (n : ℕ). nat_lt member n ≡ true) m e

-- what is for a floor's things is for those of its config
pub for_config : (config : Config) (setup : Setup) (asked : Asked) → IsConfig config → IsSetUpFor config setup → IsFor setup asked
    → IsFor (setup_of config) asked
for_config config setup asked is up x = record {
  symbol = omega (arith, x.symbol, up.symbols, is.limit_each);
  configured = configured_alike setup (setup_of config) asked.2 up.members up.markets x.configured;
  limits = x.limits;
}

pub all_for_config : (config : Config) (setup : Setup) (xs : List Listed) → IsConfig config → IsSetUpFor config setup
    → All (λ x. IsFor setup (asked_of x)) xs → All (IsFor (setup_of config)) (map asked_of xs)
all_for_config config setup xs is up all =
    All-map (IsFor (setup_of config)) asked_of xs
    (All-weaker (λ (x : Listed). IsFor setup (asked_of x)) (λ (x : Listed). IsFor (setup_of config) (asked_of x))
    (λ x k. for_config config setup (asked_of x) is up k) xs all)
