-- How what a floor shows of a symbol goes on.
use Rattle.std.proofs.Common.{◌≤◌, ℕ, List, [], ◌++◌, Option, Some, None, length, length-append, refl, sym, ◌∙◌, ap, subst, append-nil, append_assoc, arith}
use Rattle.venue_words.specs.Floors.{SymbolView, TurnsKept, TurnsRose}
use Rattle.venue_words.specs.Journals.{StartsWith}
use Rattle.member_gate.specs.Submitting.{Waited}

pub starts_self : {A : Type 0} (xs : List A) → StartsWith xs xs
starts_self xs = ([], sym (append-nil xs))

pub starts_then : {A : Type 0} (xs ys zs : List A) → StartsWith ys xs → StartsWith zs ys → StartsWith zs xs
starts_then xs ys zs p q = (p.0 ++ q.0, q.1 ∙ ap (λ (l : List _). l ++ q.0) p.1 ∙ append_assoc xs p.0 q.0)

pub starts_length : {A : Type 0} (xs ys : List A) → StartsWith ys xs → length xs ≤ length ys
starts_length xs ys p = omega (arith, ap length p.1, length-append xs p.0)

kept_self : (a : Option ℕ) → TurnsKept a a
kept_self None = refl
kept_self (Some n) = (n, refl, omega arith)

pub kept_then : (a b c : Option ℕ) → TurnsKept a b → TurnsKept b c → TurnsKept a c
kept_then None b c p q = subst (λ (x : Option ℕ). TurnsKept x c) p q
kept_then (Some n) b c p q =
    let r : TurnsKept (Some p.0) c = subst (λ (x : Option ℕ). TurnsKept x c) p.1 q in
    (r.0, r.1, omega (arith, p.2, r.2))

pub kept_rose : (a b c : Option ℕ) → TurnsKept a b → TurnsRose b c → TurnsRose a c
kept_rose None b c p q = subst (λ (x : Option ℕ). TurnsRose x c) p q
kept_rose (Some n) b c p q =
    let r : TurnsRose (Some p.0) c = subst (λ (x : Option ℕ). TurnsRose x c) p.1 q in
    (r.0, r.1, omega (arith, p.2, r.2))

pub rose_kept : (a b c : Option ℕ) → TurnsRose a b → TurnsKept b c → TurnsRose a c
rose_kept None b c p q = subst (λ (x : Option ℕ). TurnsKept x c) p q
rose_kept (Some n) b c p q =
    let r : TurnsKept (Some p.0) c = subst (λ (x : Option ℕ). TurnsKept x c) p.1 q in
    (r.0, r.1, omega (arith, p.2, r.2))

pub waited_self : (view : SymbolView) → Waited view view
waited_self view = record {
  none = (starts_self view.journal, refl);
  reports = starts_self view.reports;
  turns = kept_self view.turns;
}

pub waited_then : (a b c : SymbolView) → Waited a b → Waited b c → Waited a c
waited_then a b c p q = record {
  none = (starts_then a.journal b.journal c.journal p.none.0 q.none.0, q.none.1 ∙ p.none.1);
  reports = starts_then a.reports b.reports c.reports p.reports q.reports;
  turns = kept_then a.turns b.turns c.turns p.turns q.turns;
}
