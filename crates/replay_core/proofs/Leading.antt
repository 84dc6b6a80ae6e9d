-- How what was told goes on from call to call.
use Rattle.std.proofs.Common.{◌≡◌, ◌+◌, ℕ, List, [], ◌++◌, Option, Some, None, sym, ◌∙◌, ap, append_assoc, append-nil, zero-add, arith}
use Rattle.std.specs.Io.KnownBytes.{Appends}
use Rattle.replay_core.specs.Play.{Played, onto}
use Rattle.replay_core.specs.Telling.{Seen, Leads}

pub appends_none : (t : Option (List ℕ)) → Appends t t []
appends_none None = tt
appends_none (Some xs) = sym (append-nil xs)

pub appends_trans : (a b c : Option (List ℕ)) (p q : List ℕ) → Appends a b p → Appends b c q → Appends a c (p ++ q)
appends_trans None b c p q h k = tt
appends_trans (Some xs) None c p q h k = absurd h
appends_trans (Some xs) (Some ys) None p q h k = absurd k
appends_trans (Some xs) (Some ys) (Some zs) p q h k = rw (k, h) (append_assoc xs p q)

-- nothing, and then the rest
pub onto_nothing : (x : Played) → x ≡ onto [] 0 x
onto_nothing x = ap (λ (n : ℕ). record { text = x.text; fault = x.fault; steps = n; last = x.last }) (sym (zero-add x.steps))

pub leads_none : (t : Seen) (f : List ℕ → Played) → Leads t t f f
leads_none t f = record { done = []; grew = appends_none t.told; spent = 0; counted = omega arith; goes = λ more. onto_nothing (f more) }

pub onto_onto : (p q : List ℕ) (m n : ℕ) (x : Played) → onto p m (onto q n x) ≡ onto (p ++ q) (m + n) x
onto_onto p q m n x =
    let sum : m + (n + x.steps) ≡ (m + n) + x.steps = omega arith in
    ap (λ (t : List ℕ). record { text = t; fault = x.fault; steps = m + (n + x.steps); last = x.last }) (sym (append_assoc p q x.text))
    ∙ ap (λ (k : ℕ). record { text = (p ++ q) ++ x.text; fault = x.fault; steps = k; last = x.last }) sum

pub leads_trans : (a b c : Seen) (f g h : List ℕ → Played) → Leads a b f g → Leads b c g h → Leads a c f h
leads_trans a b c f g h x y = record {
  done = x.done ++ y.done;
  grew = appends_trans a.told b.told c.told x.done y.done x.grew y.grew;
  spent = x.spent + y.spent;
  counted = omega (arith, x.counted, y.counted);
  goes = λ more. x.goes more ∙ ap (onto x.done x.spent) (y.goes more) ∙ onto_onto x.done y.done x.spent y.spent (h more);
}
