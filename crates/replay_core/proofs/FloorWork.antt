-- What calls of a plain floor leave of its journals.
use Rattle.std.proofs.Common.{◌≡◌, ◌≢◌, ◌⊎◌, ℕ, zero, suc, ℤ, ◌+◌, ◌<◌, ◌≤◌, true, false, nat_lt, List, [], ◌∷◌, ◌++◌, length, slice_index, slice_set, Option, Some, IfSome, refl, sym, ◌∙◌, ap, subst, append-nil, length-append, inl, inr, arith}
use Rattle.std.proofs.lemmas.Bool.Decides.{nat_tests}
use Rattle.std.proofs.lemmas.List.{get_or_past}
use Rattle.std.proofs.lemmas.List.FromFn.{length-range_with_len}
use Rattle.std.specs.List.{range_with_len}
use Rattle.venue_words.specs.declared.command.Command.{Command}
use Rattle.venue_words.specs.declared.command.Event.{Event}
use Rattle.venue_words.specs.declared.config.Config.{Config}
use Rattle.venue_words.specs.declared.report.Report.{Report}
use Rattle.venue_words.specs.Floors.{FloorMark, Setup, SymbolView, Records, AddsNone}
use Rattle.venue_words.specs.Journals.{event}
use Rattle.eager_meaning.specs.State.{State}
use Rattle.member_gate.specs.declared.refusal.DeskRefusal.TheVariants.{Full}
use Rattle.member_gate.specs.Answering.{Submission}
use Rattle.member_gate.specs.Submitting.{TookOne, TookAll, TookNone, TookNoSteps, Waited}
use Rattle.replay_core.specs.PlainFloor.{IsPlain, ShowsJournals}
use Rattle.replay_core.specs.Playing.{journal_at, reports_in, reports_at}
use Rattle.venue_core.specs.Runs.{most_steps}
use Rattle.replay_core.specs.Pulling.{ShowsFronts}
use Rattle.replay_core.specs.Recording.{Recorded, has_room, next_event, with_event, recorded, recorded_behind}

empty : {A : Type 0} (xs : List A) → length xs ≡ 0 → xs ≡ []
empty [] e = refl
empty (x ∷ xs) e = absurd (omega arith)

last_same : {A : Type 0} (xs ys : List A) (a b : A) → xs ++ a ∷ [] ≡ ys ++ b ∷ [] → xs ≡ ys
last_same [] [] a b e = refl
last_same [] (y ∷ ys) a b e =
    let n : length (a ∷ []) ≡ length (y ∷ (ys ++ b ∷ [])) = ap length e in absurd (omega (arith, simp length-append at n))
last_same (x ∷ xs) [] a b e =
    let n : length (x ∷ (xs ++ a ∷ [])) ≡ length (b ∷ []) = ap length e in absurd (omega (arith, simp length-append at n))
last_same (x ∷ xs) (y ∷ ys) a b e =
    let first : x ≡ y = cc in
    let rest : xs ++ a ∷ [] ≡ ys ++ b ∷ [] = cc in
    rw (first, last_same xs ys a b rest) refl

pub eq_or_not : (a b : ℕ) → (a ≡ b) ⊎ (a ≢ b)
eq_or_not zero zero = inl refl
eq_or_not zero (suc b) = inr (λ e. absurd (cc))
eq_or_not (suc a) zero = inr (λ e. absurd (cc))
eq_or_not (suc a) (suc b) = elim (eq_or_not a b) [ inl e ↦ inl (ap suc e) | inr n ↦ inr (λ e. n (cc)) ]

pub less_or_not : (a b : ℕ) → (a < b) ⊎ (b ≤ a)
less_or_not a b = elim (nat_lt a b) as (λ t. nat_lt a b ≡ t → (a < b) ⊎ (b ≤ a)) [
  | true ↦ λ e. inl (grind (arith, nat_tests))
  | false ↦ λ e. inr (grind (arith, nat_tests))
] refl

-- ---- lists of journals

pub journal_set_same : (js : List (List Event)) (s : ℕ) (j : List Event) → s < length js → journal_at (slice_set js s j) s ≡ j
journal_set_same [] s j l = absurd (omega arith)
journal_set_same (j0 ∷ js) zero j l = refl
journal_set_same (j0 ∷ js) (suc s) j l = journal_set_same js s j (omega arith)

pub journal_set_other : (js : List (List Event)) (s o : ℕ) (j : List Event) → o ≢ s → journal_at (slice_set js s j) o ≡ journal_at js o
journal_set_other [] s o j n = refl
journal_set_other (j0 ∷ js) zero zero j n = absurd (n refl)
journal_set_other (j0 ∷ js) zero (suc o) j n = refl
journal_set_other (j0 ∷ js) (suc s) zero j n = refl
journal_set_other (j0 ∷ js) (suc s) (suc o) j n = journal_set_other js s o j (λ e. n (ap suc e))

pub length_set : (js : List (List Event)) (s : ℕ) (j : List Event) → length (slice_set js s j) ≡ length js
length_set [] s j = refl
length_set (j0 ∷ js) zero j = refl
length_set (j0 ∷ js) (suc s) j = ap suc (length_set js s j)

-- a number in a list stands within it
within : (xs : List ℕ) (i n : ℕ) → 0 < n → n ≤ slice_index xs i → i < length xs
within xs i n some most = elim (less_or_not i (length xs)) [
  | inl l ↦ l
  | inr past ↦ let none : slice_index xs i ≡ 0 = get_or_past xs i 0 past in absurd (omega arith)
]

-- ---- where every event is an own one

-- what was recorded stands right behind what was there
own_next : (before after : SymbolView) (number feed : ℕ) (moment : ℤ) (command : Command)
    → before.mine ≡ range_with_len 1 (length before.journal) → after.mine ≡ range_with_len 1 (length after.journal)
    → Records before after number feed moment command
    → (after.journal ≡ before.journal ++ event (length before.journal + 1) feed moment command ∷ [])
    × (number ≡ length before.journal + 1)
own_next before after number feed moment command old new r =
    let own : length (range_with_len 1 (length after.journal)) ≡ length (range_with_len 1 (length before.journal) ++ number ∷ []) =
    ap length (sym new ∙ r.3 ∙ ap (λ (xs : List ℕ). xs ++ number ∷ []) old) in
    let grew : length after.journal ≡ length before.journal + 1 = omega (arith, simp (length-append, length-range_with_len) at own) in
    let whole : length after.journal ≡ length ((before.journal ++ r.0) ++ event number feed moment command ∷ []) = ap length r.1 in
    let short : length r.0 ≡ 0 = omega (arith, simp length-append at whole) in
    let none : r.0 ≡ [] = empty r.0 short in
    let count : number ≡ length before.journal + 1 = r.2 ∙ grew in
    let joined : before.journal ++ r.0 ≡ before.journal = ap (λ (xs : List Event). before.journal ++ xs) none ∙ append-nil before.journal in (
      r.1 ∙ ap (λ (js : List Event). js ++ event number feed moment command ∷ []) joined
          ∙ ap (λ (n : ℕ). before.journal ++ event n feed moment command ∷ []) count,
      count,
    )

-- where nothing was recorded the journal stayed
pub own_kept : (before after : SymbolView) → before.mine ≡ range_with_len 1 (length before.journal)
    → after.mine ≡ range_with_len 1 (length after.journal) → AddsNone before after → after.journal ≡ before.journal
own_kept before after old new h =
    let own : length (range_with_len 1 (length after.journal)) ≡ length (range_with_len 1 (length before.journal)) =
    ap length (sym new ∙ h.1 ∙ old) in
    let same : length after.journal ≡ length before.journal = omega (arith, simp length-range_with_len at own) in
    let whole : length after.journal ≡ length (before.journal ++ h.0.0) = ap length h.0.1 in
    let short : length h.0.0 ≡ 0 = omega (arith, simp length-append at whole) in
    h.0.1 ∙ ap (λ (xs : List Event). before.journal ++ xs) (empty h.0.0 short) ∙ append-nil before.journal

-- ---- commands that a floor took

-- what is shown once commands were recorded, and the steps by then
pub record Took {F : Type 0} (at : F → ℕ → SymbolView) (config : Config) (r : Recorded) (before : ℕ) (after : F × ℕ) : Type 0 where
  pub room : r.is_full ≡ false
  pub shows : ShowsJournals at config after.0 r.journals
  pub each : length r.journals ≡ length config.symbols
  pub steps : after.1 ≤ before + r.steps

-- the same of one command
pub record TookFirst {F : Type 0} (at : F → ℕ → SymbolView) (config : Config) (moment : ℤ) (one : Submission) (journals : List (List Event)) (before : ℕ) (after : F × ℕ) : Type 0 where
  pub room : has_room config journals one.symbol ≡ true
  pub shows : ShowsJournals at config after.0 (with_event moment one journals)
  pub each : length (with_event moment one journals) ≡ length config.symbols
  pub steps : after.1 ≤ before + most_steps config one.symbol (journal_at journals one.symbol) (next_event moment one journals)

costs : (limit : Option ℕ) (most before after : ℕ) → limit ≡ Some most → IfSome limit (λ n. after ≤ before + n) → after ≤ before + most
costs limit most before after e h = subst (λ (o : Option ℕ). IfSome o (λ n. after ≤ before + n)) e h

has_room_for : (config : Config) (journals : List (List Event)) (symbol : ℕ)
    → length (journal_at journals symbol) < slice_index config.limits symbol → has_room config journals symbol ≡ true
unfolding has_room
has_room_for config journals symbol l = grind (arith, nat_tests)

has_no_room : (config : Config) (journals : List (List Event)) (symbol : ℕ)
    → slice_index config.limits symbol ≤ length (journal_at journals symbol) → has_room config journals symbol ≡ false
unfolding has_room
has_no_room config journals symbol l = grind (arith, nat_tests)

pub took_one : {F : Type 0} (mark_of : F → FloorMark) (at : F → ℕ → SymbolView) (limit : FloorMark → ℕ → List Event → Event → Option ℕ) (state : F → ℕ → State) (config : Config) (mark : FloorMark) (moment : ℤ) (one : Submission) (journals : List (List Event)) (before after : F × ℕ)
    → IsPlain mark_of at limit state config mark → length config.limits ≡ length config.symbols
    → length journals ≡ length config.symbols → ShowsJournals at config before.0 journals
    → TookOne at limit mark 1 moment one before after → TookFirst at config moment one journals before.1 after
took_one mark_of at limit state config mark moment one journals before after plain limits each shows t =
    let next = own_next (at before.0 one.symbol) (at after.0 one.symbol) t.number 1 moment one.command
    (plain.own before.0 one.symbol) (plain.own after.0 one.symbol) t.records in
    let most : t.number ≤ slice_index config.limits one.symbol =
    subst (λ (s : Setup). t.number ≤ slice_index s.limits one.symbol) plain.setup t.room in
    let some : 0 < t.number = omega (arith, next.1) in
    let inside : one.symbol < length config.symbols = omega (arith, within config.limits one.symbol t.number some most) in
    let here : (at before.0 one.symbol).journal ≡ journal_at journals one.symbol = shows one.symbol inside in
    let long : length (at before.0 one.symbol).journal ≡ length (journal_at journals one.symbol) = ap length here in
    let told : (at after.0 one.symbol).journal ≡ journal_at journals one.symbol ++ next_event moment one journals ∷ [] =
    next.0 ∙ ap (λ (j : List Event). j ++ event (length j + 1) 1 moment one.command ∷ []) here in
    let found : t.steps.0 ≡ journal_at journals one.symbol =
    last_same t.steps.0 (journal_at journals one.symbol) _ _ (sym t.steps.1 ∙ told) in
    let count : t.number ≡ length (journal_at journals one.symbol) + 1 = next.1 ∙ ap (λ (n : ℕ). n + 1) long in
    let known : limit mark one.symbol t.steps.0 (event t.number 1 moment one.command)
    ≡ Some (most_steps config one.symbol (journal_at journals one.symbol) (next_event moment one journals)) =
    ap (λ (j : List Event). limit mark one.symbol j (event t.number 1 moment one.command)) found
    ∙ ap (λ (n : ℕ). limit mark one.symbol (journal_at journals one.symbol) (event n 1 moment one.command)) count
    ∙ plain.steps one.symbol (journal_at journals one.symbol) (next_event moment one journals) inside in
    record {
      room = has_room_for config journals one.symbol (omega (arith, most, next.1));
      shows = λ symbol l. elim (eq_or_not symbol one.symbol) [
        | inl e ↦ rw e (told ∙ sym (journal_set_same journals one.symbol (journal_at journals one.symbol ++ next_event moment one journals ∷ []) (omega arith)))
        | inr n ↦ ap (λ (v : SymbolView). v.journal) (t.others symbol n) ∙ shows symbol l
            ∙ sym (journal_set_other journals one.symbol symbol (journal_at journals one.symbol ++ next_event moment one journals ∷ []) n)
      ];
      each = length_set journals one.symbol (journal_at journals one.symbol ++ next_event moment one journals ∷ []) ∙ each;
      steps = costs (limit mark one.symbol t.steps.0 (event t.number 1 moment one.command)) _ before.1 after.1 known t.steps.2;
    }

took_then : {F : Type 0} (at : F → ℕ → SymbolView) (config : Config) (moment : ℤ) (one : Submission) (others : List Submission) (journals : List (List Event)) (before : ℕ) (next after : F × ℕ)
    → TookFirst at config moment one journals before next
    → Took at config (recorded config moment others (with_event moment one journals)) next.1 after
    → Took at config (recorded config moment (one ∷ others) journals) before after
took_then at config moment one others journals before next after x y = rw x.room (record {
  room = y.room;
  shows = y.shows;
  each = y.each;
  steps = omega (arith, x.steps, y.steps);
})

pub took_all : {F : Type 0} (mark_of : F → FloorMark) (at : F → ℕ → SymbolView) (limit : FloorMark → ℕ → List Event → Event → Option ℕ) (state : F → ℕ → State) (config : Config) (mark : FloorMark) (moment : ℤ) (subs : List Submission) (journals : List (List Event)) (before after : F × ℕ)
    → IsPlain mark_of at limit state config mark → length config.limits ≡ length config.symbols
    → length journals ≡ length config.symbols → ShowsJournals at config before.0 journals
    → TookAll at limit mark 1 moment subs before after → Took at config (recorded config moment subs journals) before.1 after
took_all mark_of at limit state config mark moment [] journals before after plain limits each shows t = record {
  room = refl;
  shows = λ symbol l. ap (λ (x : _). (at x.0 symbol).journal) t ∙ shows symbol l;
  each = each;
  steps = let e : after.1 ≡ before.1 = ap (λ (x : _). x.1) t in omega arith;
}
took_all mark_of at limit state config mark moment (one ∷ others) journals before after plain limits each shows t =
    let first = took_one mark_of at limit state config mark moment one journals before t.0 plain limits each shows t.1 in
    took_then at config moment one others journals before.1 t.0 after first
    (took_all mark_of at limit state config mark moment others (with_event moment one journals) t.0 after plain limits first.each first.shows t.2)

-- ---- a refusal

same_at : (limit : Option ℕ) (most before after : ℕ) → limit ≡ Some most → IfSome limit (λ n. after ≡ before) → after ≡ before
same_at limit most before after e h = subst (λ (o : Option ℕ). IfSome o (λ n. after ≡ before)) e h

-- a refused command takes no step
pub no_steps : {F : Type 0} (mark_of : F → FloorMark) (at : F → ℕ → SymbolView) (limit : FloorMark → ℕ → List Event → Event → Option ℕ) (state : F → ℕ → State) (config : Config) (mark : FloorMark) (moment : ℤ) (left : List Submission) (before after : F × ℕ)
    → IsPlain mark_of at limit state config mark → TookNoSteps at limit mark 1 moment left before after → after.1 ≡ before.1
no_steps mark_of at limit state config mark moment [] before after plain h = h
no_steps mark_of at limit state config mark moment (one ∷ others) before after plain h =
    let known = plain.counted one.symbol (at after.0 one.symbol).journal
    (event (length (at after.0 one.symbol).journal + 1) 1 moment one.command) in
    same_at _ known.0 before.1 after.1 known.1 h

pub full_first : (config : Config) (moment : ℤ) (one : Submission) (others : List Submission) (journals : List (List Event))
    → has_room config journals one.symbol ≡ false → (recorded config moment (one ∷ others) journals).is_full ≡ true
full_first config moment one others journals e = rw e refl

-- where a journal was full the next command has no room
pub none_full : {F : Type 0} (mark_of : F → FloorMark) (at : F → ℕ → SymbolView) (limit : FloorMark → ℕ → List Event → Event → Option ℕ) (state : F → ℕ → State) (config : Config) (mark : FloorMark) (moment : ℤ) (symbol found : ℕ) (left : List Submission) (journals : List (List Event)) (before after : F × ℕ)
    → IsPlain mark_of at limit state config mark → length config.limits ≡ length config.symbols → ShowsJournals at config before.0 journals
    → TookNone at limit mark 1 moment (Full symbol found) left before after → (recorded config moment left journals).is_full ≡ true
none_full mark_of at limit state config mark moment symbol found [] journals before after plain limits shows t = absurd t.full.0
none_full mark_of at limit state config mark moment symbol found (one ∷ others) journals before after plain limits shows t =
    let most : found ≡ slice_index config.limits symbol = subst (λ (s : Setup). found ≡ slice_index s.limits symbol) plain.setup t.full.2 in
    let kept : (at after.0 symbol).journal ≡ (at before.0 symbol).journal =
    own_kept (at before.0 symbol) (at after.0 symbol) (plain.own before.0 symbol) (plain.own after.0 symbol) (t.next symbol t.full.0).none in
    let none : has_room config journals symbol ≡ false = elim (less_or_not symbol (length config.symbols)) [
      | inl l ↦ let long : length (at after.0 symbol).journal ≡ length (journal_at journals symbol) = ap length (kept ∙ shows symbol l) in
          has_no_room config journals symbol (omega (arith, long, t.full.1, most))
      | inr past ↦ let zero : slice_index config.limits symbol ≡ 0 = get_or_past config.limits symbol 0 (omega arith) in
          has_no_room config journals symbol (omega arith)
    ] in
    full_first config moment one others journals (rw t.full.0 none)

-- ---- commands in two parts

pub recorded_first : (config : Config) (moment : ℤ) (x : Submission) (zs : List Submission) (journals : List (List Event))
    → has_room config journals x.symbol ≡ true
    → recorded config moment (x ∷ zs) journals
    ≡ recorded_behind (most_steps config x.symbol (journal_at journals x.symbol) (next_event moment x journals))
    (recorded config moment zs (with_event moment x journals))
recorded_first config moment x zs journals room = rw room refl

-- what one part leaves, and then the other
pub record Parts (config : Config) (moment : ℤ) (xs ys : List Submission) (journals : List (List Event)) : Type 0 where
  pub full : (recorded config moment (xs ++ ys) journals).is_full
      ≡ (recorded config moment ys (recorded config moment xs journals).journals).is_full
  pub steps : (recorded config moment (xs ++ ys) journals).steps
      ≡ (recorded config moment xs journals).steps
      + (recorded config moment ys (recorded config moment xs journals).journals).steps

parts_more : (config : Config) (moment : ℤ) (x : Submission) (xs ys : List Submission) (journals : List (List Event))
    → has_room config journals x.symbol ≡ true → Parts config moment xs ys (with_event moment x journals)
    → Parts config moment (x ∷ xs) ys journals
parts_more config moment x xs ys journals room p =
    let both = recorded_first config moment x (xs ++ ys) journals room in
    let first = recorded_first config moment x xs journals room in
    let all : (recorded config moment (x ∷ (xs ++ ys)) journals).steps ≡ _ = ap (λ (r : Recorded). r.steps) both in
    let some : (recorded config moment (x ∷ xs) journals).steps ≡ _ = ap (λ (r : Recorded). r.steps) first in
    let rest : (recorded config moment ys (recorded config moment (x ∷ xs) journals).journals).steps ≡ _ =
    ap (λ (r : Recorded). (recorded config moment ys r.journals).steps) first in
    record {
      full = ap (λ (r : Recorded). r.is_full) both ∙ p.full
          ∙ sym (ap (λ (r : Recorded). (recorded config moment ys r.journals).is_full) first);
      steps = omega (arith, p.steps, all, some, rest);
    }

pub recorded_append : (config : Config) (moment : ℤ) (xs ys : List Submission) (journals : List (List Event))
    → (recorded config moment xs journals).is_full ≡ false → Parts config moment xs ys journals
recorded_append config moment [] ys journals e = record { full = refl; steps = omega arith }
recorded_append config moment (x ∷ xs) ys journals e =
    elim (has_room config journals x.symbol) as (λ b. has_room config journals x.symbol ≡ b → Parts config moment (x ∷ xs) ys journals) [
      | true ↦ λ room. parts_more config moment x xs ys journals room
          (recorded_append config moment xs ys (with_event moment x journals)
          (ap (λ (r : Recorded). r.is_full) (sym (recorded_first config moment x xs journals room)) ∙ e))
      | false ↦ λ none. absurd (let yes : (recorded config moment (x ∷ xs) journals).is_full ≡ true = full_first config moment x xs journals none in cc)
    ] refl

-- ---- looks

-- a look at a plain floor leaves its journals
pub shows_kept : {F : Type 0} (mark_of : F → FloorMark) (at : F → ℕ → SymbolView) (limit : FloorMark → ℕ → List Event → Event → Option ℕ) (state : F → ℕ → State) (config : Config) (mark : FloorMark) (old new : F)
    → IsPlain mark_of at limit state config mark → ((symbol : ℕ) → Waited (at old symbol) (at new symbol))
    → (journals : List (List Event)) → ShowsJournals at config old journals → ShowsJournals at config new journals
shows_kept mark_of at limit state config mark old new plain waited journals shows symbol l =
    own_kept (at old symbol) (at new symbol) (plain.own old symbol) (plain.own new symbol) (waited symbol).none ∙ shows symbol l

-- the reports that a plain floor shows are those of its journals
pub reports_shown : {F : Type 0} (mark_of : F → FloorMark) (at : F → ℕ → SymbolView) (limit : FloorMark → ℕ → List Event → Event → Option ℕ) (state : F → ℕ → State) (config : Config) (mark : FloorMark) (floor : F)
    → IsPlain mark_of at limit state config mark → mark_of floor ≡ mark
    → (journals : List (List Event)) → ShowsJournals at config floor journals
    → (symbol : ℕ) → symbol < length config.symbols → (at floor symbol).reports ≡ reports_at config journals symbol
reports_shown mark_of at limit state config mark floor plain same journals shows symbol l =
    plain.reports floor symbol same l ∙ ap (reports_in config symbol) (shows symbol l)

-- a look at a plain floor leaves how many reports there are
pub fronts_kept : {F : Type 0} (mark_of : F → FloorMark) (at : F → ℕ → SymbolView) (limit : FloorMark → ℕ → List Event → Event → Option ℕ) (state : F → ℕ → State) (config : Config) (mark : FloorMark) (old new : F) (fronts : List ℕ)
    → IsPlain mark_of at limit state config mark → mark_of old ≡ mark → mark_of new ≡ mark
    → ((symbol : ℕ) → Waited (at old symbol) (at new symbol))
    → ShowsFronts at config old fronts → ShowsFronts at config new fronts
fronts_kept mark_of at limit state config mark old new fronts plain before after waited fs = record {
  each = fs.each;
  read = λ symbol l. let journal = own_kept (at old symbol) (at new symbol) (plain.own old symbol) (plain.own new symbol) (waited symbol).none in
      fs.read symbol l
      ∙ ap (length {A = Report}) (plain.reports old symbol before l ∙ ap (reports_in config symbol) (sym journal) ∙ sym (plain.reports new symbol after l));
}
