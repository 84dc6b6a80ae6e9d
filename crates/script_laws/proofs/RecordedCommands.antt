-- The commands of a line, recorded, are the next events of their journals.
use Rattle.std.proofs.Common.{◌≡◌, ◌≢◌, ◌⊎◌, ℕ, ℤ, ◌+◌, ◌<◌, ◌==◌, Bool, true, false, List, [], ◌∷◌, ◌++◌, length, map, refl, sym, ◌∙◌, ap, subst, append-nil, append_assoc, length-append, inl, inr, arith}
use Rattle.std.proofs.Math.Nat.{add-zero}
use Rattle.std.proofs.lemmas.Bool.Decides.{nat_tests}
use Rattle.std.proofs.lemmas.List.{map-append}
use Rattle.std.proofs.lemmas.List.Elements.{filter-append}
use Rattle.std.specs.List.{filter}
use Rattle.venue_words.specs.declared.command.Command.{Command}
use Rattle.venue_words.specs.declared.command.Event.{Event}
use Rattle.venue_words.specs.declared.config.Config.{Config}
use Rattle.venue_words.specs.Journals.{event}
use Rattle.member_gate.specs.Answering.{Submission}
use Rattle.line_work.specs.Commands.{at_moment, commands_for}
use Rattle.replay_core.specs.Playing.{journal_at}
use Rattle.replay_core.specs.Recording.{Recorded, has_room, next_event, with_event, recorded}
use Rattle.replay_core.proofs.FloorWork.{eq_or_not, journal_set_same, journal_set_other, length_set, recorded_first, full_first}
use Rattle.script_laws.specs.Histories.{events_from}

-- ---- lists of commands

events_append : (n : ℕ) (xs ys : List (ℤ × Command)) → events_from n (xs ++ ys) ≡ events_from n xs ++ events_from (n + length xs) ys
events_append n [] ys = ap (λ (k : ℕ). events_from k ys) (sym (add-zero n))
events_append n (x ∷ xs) ys =
    let next : (n + 1) + length xs ≡ n + length (x ∷ xs) = omega arith in
    ap (λ (es : List Event). event n 1 x.0 x.1 ∷ es)
    (events_append (n + 1) xs ys ∙ ap (λ (k : ℕ). events_from (n + 1) xs ++ events_from k ys) next)

pub events_count : (n : ℕ) (xs : List (ℤ × Command)) → length (events_from n xs) ≡ length xs
events_count n [] = refl
events_count n (x ∷ xs) = let rest = events_count (n + 1) xs in omega arith

pub commands_append : (symbol : ℕ) (xs ys : List (ℤ × Submission)) → commands_for symbol (xs ++ ys) ≡ commands_for symbol xs ++ commands_for symbol ys
commands_append symbol xs ys =
    let p : ℤ × Submission → Bool = λ one. one.1.symbol == symbol in
    let f : ℤ × Submission → ℤ × Command = λ one. (one.0, one.1.command) in
    ap (map f) (filter-append p xs ys) ∙ map-append f (filter p xs) (filter p ys)

test_same : (a b : ℕ) → a ≡ b → (a == b) ≡ true
test_same a b e = grind (arith, nat_tests)

test_other : (a b : ℕ) → a ≢ b → (a == b) ≡ false
test_other a b n = grind (arith, nat_tests)

command_here : (symbol : ℕ) (moment : ℤ) (one : Submission) (others : List Submission) → one.symbol ≡ symbol
    → commands_for symbol (at_moment moment (one ∷ others)) ≡ (moment, one.command) ∷ commands_for symbol (at_moment moment others)
command_here symbol moment one others e = let here = test_same one.symbol symbol e in rw here refl

command_elsewhere : (symbol : ℕ) (moment : ℤ) (one : Submission) (others : List Submission) → one.symbol ≢ symbol
    → commands_for symbol (at_moment moment (one ∷ others)) ≡ commands_for symbol (at_moment moment others)
command_elsewhere symbol moment one others n = let elsewhere = test_other one.symbol symbol n in rw elsewhere refl

-- ---- one journal

-- the journal behind commands is that before them and then their events
abbrev pub Continues : List Event → List Event → List (ℤ × Command) → Type 0
Continues before after given = after ≡ before ++ events_from (length before + 1) given

pub continues_none : (before : List Event) → Continues before before []
continues_none before = sym (append-nil before)

pub continues_on : (a b c : List Event) (xs ys : List (ℤ × Command)) → Continues a b xs → Continues b c ys → Continues a c (xs ++ ys)
continues_on a b c xs ys h k =
    let count : length b ≡ length a + length xs =
    ap (length {A = Event}) h ∙ length-append a (events_from (length a + 1) xs) ∙ ap (λ (n : ℕ). length a + n) (events_count (length a + 1) xs) in
    let number : length b + 1 ≡ (length a + 1) + length xs = omega arith in
    k ∙ ap (λ (n : ℕ). b ++ events_from n ys) number ∙ ap (λ (es : List Event). es ++ events_from ((length a + 1) + length xs) ys) h
    ∙ append_assoc a (events_from (length a + 1) xs) (events_from ((length a + 1) + length xs) ys)
    ∙ ap (λ (es : List Event). a ++ es) (sym (events_append (length a + 1) xs ys))

-- ---- the commands of a line

first_recorded : (moment : ℤ) (one : Submission) (others : List Submission) (journals : List (List Event)) (symbol : ℕ) (after : List Event)
    → symbol < length journals
    → Continues (journal_at (with_event moment one journals) symbol) after (commands_for symbol (at_moment moment others))
    → (one.symbol ≡ symbol) ⊎ (one.symbol ≢ symbol)
    → Continues (journal_at journals symbol) after (commands_for symbol (at_moment moment (one ∷ others)))
first_recorded moment one others journals symbol after l h (inl e) =
    let here : journal_at (with_event moment one journals) symbol ≡ journal_at journals symbol ++ event (length (journal_at journals symbol) + 1) 1 moment one.command ∷ [] =
    subst (λ (s : ℕ). journal_at (with_event moment one journals) s ≡ journal_at journals s ++ event (length (journal_at journals s) + 1) 1 moment one.command ∷ []) e
    (journal_set_same journals one.symbol (journal_at journals one.symbol ++ next_event moment one journals ∷ []) (rw e l)) in
    subst (Continues (journal_at journals symbol) after) (sym (command_here symbol moment one others e))
    (continues_on (journal_at journals symbol) (journal_at (with_event moment one journals) symbol) after ((moment, one.command) ∷ [])
    (commands_for symbol (at_moment moment others)) here h)
first_recorded moment one others journals symbol after l h (inr n) =
    let same : journal_at (with_event moment one journals) symbol ≡ journal_at journals symbol =
    journal_set_other journals one.symbol symbol (journal_at journals one.symbol ++ next_event moment one journals ∷ []) (λ e. n (sym e)) in
    subst (Continues (journal_at journals symbol) after) (sym (command_elsewhere symbol moment one others n))
    (subst (λ (before : List Event). Continues before after (commands_for symbol (at_moment moment others))) same h)

pub commands_recorded : (config : Config) (moment : ℤ) (subs : List Submission) (journals : List (List Event)) (symbol : ℕ)
    → symbol < length journals → (recorded config moment subs journals).is_full ≡ false
    → Continues (journal_at journals symbol) (journal_at (recorded config moment subs journals).journals symbol)
    (commands_for symbol (at_moment moment subs))
commands_recorded config moment [] journals symbol l room = continues_none (journal_at journals symbol)
commands_recorded config moment (one ∷ others) journals symbol l room =
    elim (has_room config journals one.symbol) as (λ b. has_room config journals one.symbol ≡ b
    → Continues (journal_at journals symbol) (journal_at (recorded config moment (one ∷ others) journals).journals symbol)
    (commands_for symbol (at_moment moment (one ∷ others)))) [
      | true ↦ λ e.
          let first = recorded_first config moment one others journals e in
          let count = length_set journals one.symbol (journal_at journals one.symbol ++ next_event moment one journals ∷ []) in
          let rest = commands_recorded config moment others (with_event moment one journals) symbol (omega (arith, count, l))
          (ap (λ (r : Recorded). r.is_full) (sym first) ∙ room) in
          subst (λ (r : Recorded). Continues (journal_at journals symbol) (journal_at r.journals symbol) (commands_for symbol (at_moment moment (one ∷ others)))) (sym first)
          (first_recorded moment one others journals symbol _ l rest (eq_or_not one.symbol symbol))
      | false ↦ λ e. absurd (let full : (recorded config moment (one ∷ others) journals).is_full ≡ true = full_first config moment one others journals e in cc)
    ] refl

pub count_recorded : (config : Config) (moment : ℤ) (subs : List Submission) (journals : List (List Event))
    → length (recorded config moment subs journals).journals ≡ length journals
count_recorded config moment [] journals = refl
count_recorded config moment (one ∷ others) journals =
    elim (has_room config journals one.symbol) as (λ b. has_room config journals one.symbol ≡ b
    → length (recorded config moment (one ∷ others) journals).journals ≡ length journals) [
      | true ↦ λ e. ap (λ (r : Recorded). length r.journals) (recorded_first config moment one others journals e)
          ∙ count_recorded config moment others (with_event moment one journals)
          ∙ length_set journals one.symbol (journal_at journals one.symbol ++ next_event moment one journals ∷ [])
      | false ↦ λ e. rw e refl
    ] refl
