-- What calls of a floor add to what it shows.
use Rattle.std.proofs.Common.{◌≡◌, ◌≢◌, ◌+◌, ◌-◌, ◌==◌, ◌++◌, ◌∷◌, [], zero, suc, ℕ, ℤ, true, false, List, length, Option, Some, None, slice_get, refl, sym, ◌∙◌, ap, subst, append-nil, append_assoc, length-append, arith, inl, inr}
use Rattle.std.specs.List.{AllZip}
use Rattle.std.proofs.lemmas.Bool.{cases_eq}
use Rattle.venue_words.specs.declared.command.Command.{Command}
use Rattle.venue_words.specs.declared.command.Event.{Event}
use Rattle.venue_words.specs.Floors.{FloorMark, SymbolView, Records, TurnsKept, TurnsRose}
use Rattle.venue_words.specs.Journals.{event, StartsWith}
use Rattle.member_gate.specs.Answering.{Submission}
use Rattle.member_gate.specs.Submitting.{TookAll, TookNone, Waited}
use Rattle.line_work.specs.Commands.{at_moment, commands_for}
use Rattle.serve_core.specs.Growing.{IsEventOf, Grew}

pub starts_self : {A : Type 0} (xs : List A) → StartsWith xs xs
starts_self xs = ([], sym (append-nil xs))

pub starts_then : {A : Type 0} (xs ys zs : List A) → StartsWith ys xs → StartsWith zs ys → StartsWith zs xs
starts_then xs ys zs p q = (p.0 ++ q.0, q.1 ∙ ap (λ (l : List _). l ++ q.0) p.1 ∙ append_assoc xs p.0 q.0)

kept_self : (a : Option ℕ) → TurnsKept a a
kept_self None = refl
kept_self (Some n) = (n, refl, omega arith)

kept_then : (a b c : Option ℕ) → TurnsKept a b → TurnsKept b c → TurnsKept a c
kept_then None b c p q = (subst (λ (x : Option ℕ). TurnsKept x c) p q)
kept_then (Some n) b c p q =
    let r : TurnsKept (Some p.0) c = subst (λ (x : Option ℕ). TurnsKept x c) p.1 q in
    (r.0, r.1, omega (arith, p.2, r.2))

rose_kept : (a b : Option ℕ) → TurnsRose a b → TurnsKept a b
rose_kept None b p = p
rose_kept (Some n) b p = (p.0, p.1, omega (arith, p.2))

pub kept_rose : (a b c : Option ℕ) → TurnsKept a b → TurnsRose b c → TurnsRose a c
kept_rose None b c p q = (subst (λ (x : Option ℕ). TurnsRose x c) p q)
kept_rose (Some n) b c p q =
    let r : TurnsRose (Some p.0) c = subst (λ (x : Option ℕ). TurnsRose x c) p.1 q in
    (r.0, r.1, omega (arith, p.2, r.2))

found_stays : {A : Type 0} (xs rest : List A) (k : ℕ) (x : A) → slice_get xs k ≡ Some x → slice_get (xs ++ rest) k ≡ Some x
found_stays [] rest k x at = absurd (cc)
found_stays (y ∷ xs) rest zero x at = at
found_stays (y ∷ xs) rest (suc k) x at = found_stays xs rest k x at

events_stay : (journal longer : List Event) (feed : ℕ) (numbers : List ℕ) (calls : List (ℤ × Command))
    → StartsWith longer journal → AllZip (IsEventOf journal feed) numbers calls → AllZip (IsEventOf longer feed) numbers calls
events_stay journal longer feed [] [] starts are = tt
events_stay journal longer feed [] (c ∷ calls) starts are = absurd are
events_stay journal longer feed (n ∷ numbers) [] starts are = absurd are
events_stay journal longer feed (n ∷ numbers) (c ∷ calls) starts are = (
  ap (λ (l : List Event). slice_get l (n - 1)) starts.1 ∙ found_stays journal starts.0 (n - 1) (event n feed c.0 c.1) are.0,
  events_stay journal longer feed numbers calls starts are.1,
)

events_then : (journal : List Event) (feed : ℕ) (ns ms : List ℕ) (cs ds : List (ℤ × Command))
    → AllZip (IsEventOf journal feed) ns cs → AllZip (IsEventOf journal feed) ms ds
    → AllZip (IsEventOf journal feed) (ns ++ ms) (cs ++ ds)
events_then journal feed [] ms [] ds p q = q
events_then journal feed [] ms (a ∷ cs) ds p q = absurd p
events_then journal feed (n ∷ ns) ms [] ds p q = absurd p
events_then journal feed (n ∷ ns) ms (a ∷ cs) ds p q = (p.0, events_then journal feed ns ms cs ds p.1 q)

pub grew_none : (feed : ℕ) (before after : SymbolView) → Waited before after → Grew feed [] before after
grew_none feed before after waited = record {
  numbers = [];
  mine = waited.none.1 ∙ sym (append-nil before.mine);
  are = tt;
  journal = waited.none.0;
  reports = waited.reports;
  turns = waited.turns;
}

pub grew_same : (feed : ℕ) (before after : SymbolView) → after ≡ before → Grew feed [] before after
grew_same feed before after e = subst (λ (v : SymbolView). Grew feed [] before v) (sym e) (record {
  numbers = [];
  mine = sym (append-nil before.mine);
  are = tt;
  journal = starts_self before.journal;
  reports = starts_self before.reports;
  turns = kept_self before.turns;
})

pub grew_then : (feed : ℕ) (cs ds : List (ℤ × Command)) (before mid after : SymbolView) → Grew feed cs before mid
    → Grew feed ds mid after → Grew feed (cs ++ ds) before after
grew_then feed cs ds before mid after p q = record {
  numbers = p.numbers ++ q.numbers;
  mine = q.mine ∙ ap (λ (l : List ℕ). l ++ q.numbers) p.mine ∙ append_assoc before.mine p.numbers q.numbers;
  are = events_then after.journal feed p.numbers q.numbers cs ds
      (events_stay mid.journal after.journal feed p.numbers cs q.journal p.are) q.are;
  journal = starts_then before.journal mid.journal after.journal p.journal q.journal;
  reports = starts_then before.reports mid.reports after.reports p.reports q.reports;
  turns = kept_then before.turns mid.turns after.turns p.turns q.turns;
}

last_found : {A : Type 0} (xs : List A) (x : A) → slice_get (xs ++ x ∷ []) (length xs) ≡ Some x
last_found [] x = refl
last_found (y ∷ xs) x = last_found xs x

grew_one : (feed number : ℕ) (moment : ℤ) (command : Command) (before after : SymbolView)
    → Records before after number feed moment command → StartsWith after.reports before.reports
    → TurnsRose before.turns after.turns → Grew feed ((moment, command) ∷ []) before after
grew_one feed number moment command before after r reports turns =
    let front = before.journal ++ r.0 in
    let e = event number feed moment command in
    let long : length after.journal ≡ length front + 1 = ap length r.1 ∙ length-append front (e ∷ []) in
    let place : number - 1 ≡ length front = omega (arith, r.2, long) in
    let found : slice_get after.journal (number - 1) ≡ Some e
    = ap (λ (k : ℕ). slice_get after.journal k) place ∙ ap (λ (l : List Event). slice_get l (length front)) r.1
    ∙ last_found front e in record {
      numbers = number ∷ [];
      mine = r.3;
      are = (found, tt);
      journal = (r.0 ++ e ∷ [], r.1 ∙ append_assoc before.journal r.0 (e ∷ []));
      reports = reports;
      turns = rose_kept before.turns after.turns turns;
    }

-- the commands of one symbol among those of a turn
here : (symbol : ℕ) (moment : ℤ) (one : Submission) (others : List Submission) → (one.symbol == symbol) ≡ true
    → commands_for symbol (at_moment moment (one ∷ others))
    ≡ (moment, one.command) ∷ commands_for symbol (at_moment moment others)
here symbol moment one others e = rw e refl

elsewhere : (symbol : ℕ) (moment : ℤ) (one : Submission) (others : List Submission) → (one.symbol == symbol) ≡ false
    → commands_for symbol (at_moment moment (one ∷ others)) ≡ commands_for symbol (at_moment moment others)
elsewhere symbol moment one others e = rw e refl

pub grew_all : {F : Type 0} (at : F → ℕ → SymbolView) (limit : FloorMark → ℕ → List Event → Event → Option ℕ) (mark : FloorMark)
    (feed : ℕ) (moment : ℤ) (submissions : List Submission) (before after : F × ℕ)
    → TookAll at limit mark feed moment submissions before after → (symbol : ℕ)
    → Grew feed (commands_for symbol (at_moment moment submissions)) (at before.0 symbol) (at after.0 symbol)
grew_all at limit mark feed moment [] before after took symbol =
    grew_same feed (at before.0 symbol) (at after.0 symbol) (ap (λ (p : _ × ℕ). at p.0 symbol) took)
grew_all at limit mark feed moment (one ∷ others) before after took symbol =
    let next = took.0 in
    let first = took.1 in
    let later = grew_all at limit mark feed moment others next after took.2 symbol in
    elim (cases_eq one.symbol symbol) [
      | inl same ↦
          let test : (one.symbol == symbol) ≡ true = grind arith in
          let mine : Grew feed ((moment, one.command) ∷ []) (at before.0 symbol) (at next.0 symbol)
          = subst (λ (s : ℕ). Grew feed ((moment, one.command) ∷ []) (at before.0 s) (at next.0 s)) same
          (grew_one feed first.number moment one.command (at before.0 one.symbol) (at next.0 one.symbol)
          first.records first.reports first.turns) in
          subst (λ (cs : List (ℤ × Command)). Grew feed cs (at before.0 symbol) (at after.0 symbol))
          (sym (here symbol moment one others test))
          (grew_then feed ((moment, one.command) ∷ []) (commands_for symbol (at_moment moment others)) (at before.0 symbol)
          (at next.0 symbol) (at after.0 symbol) mine later)
      | inr other ↦
          let test : (one.symbol == symbol) ≡ false = grind arith in
          let away : symbol ≢ one.symbol = λ e. other (sym e) in
          subst (λ (cs : List (ℤ × Command)). Grew feed cs (at before.0 symbol) (at after.0 symbol))
          (sym (elsewhere symbol moment one others test))
          (grew_then feed [] (commands_for symbol (at_moment moment others)) (at before.0 symbol) (at next.0 symbol)
          (at after.0 symbol) (grew_same feed (at before.0 symbol) (at next.0 symbol) (first.others symbol away)) later)
    ]

-- what was left at a refusal adds none
pub grew_left : {F : Type 0} (at : F → ℕ → SymbolView) (limit : FloorMark → ℕ → List Event → Event → Option ℕ) (mark : FloorMark)
    (feed : ℕ) (moment : ℤ) (refusal : _) (left : List Submission) (before after : F × ℕ)
    → TookNone at limit mark feed moment refusal left before after → (symbol : ℕ)
    → Grew feed [] (at before.0 symbol) (at after.0 symbol)
grew_left at limit mark feed moment refusal [] before after none symbol =
    grew_same feed (at before.0 symbol) (at after.0 symbol) (none.others symbol (λ e. e))
grew_left at limit mark feed moment refusal (one ∷ others) before after none symbol =
    elim (cases_eq one.symbol symbol) [
      | inl same ↦ grew_none feed (at before.0 symbol) (at after.0 symbol) (none.next symbol same)
      | inr other ↦ grew_same feed (at before.0 symbol) (at after.0 symbol) (none.others symbol other)
    ]
