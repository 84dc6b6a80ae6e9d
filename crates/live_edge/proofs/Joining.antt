-- How what is due to the ports goes on.
use Rattle.std.proofs.Common.{◌≡◌, ◌≢◌, ◌⊎◌, inl, inr, ℕ, ◌==◌, Bool, true, false, cond, nat_eq, List, [], ◌∷◌, ◌++◌, refl, sym, ◌∙◌, ap, subst, append_assoc, append-nil, arith, None, Some}
use Rattle.std.proofs.lemmas.Grind.{common_steps}
use Rattle.std.proofs.lemmas.Bool.{cases_eq}
use Rattle.ports.specs.declared.slots.State.{State}
use Rattle.ports.specs.declared.slots.State.TheVariants.{Free, Unnamed, Named as IsNamed}
use Rattle.ports.specs.declared.table.Table.{Table}
use Rattle.ports.specs.History.{Event, Opened, Named, Put, Ended, state_of, due, is_of, handed}
use Rattle.ports.specs.Sound.{Sound, Stands, IsEarly}
use Rattle.ports.specs.Slots.{state_at, kept_at, port_of, waits_of}
use Rattle.ports.specs.Results as answers
use Rattle.ports.specs.Results.{IsNaming}
use Rattle.ports.specs.declared.answers.Opening.{Opening}
use Rattle.ports.specs.declared.answers.Opening.TheVariants as opening
use Rattle.ports.specs.declared.answers.Heard.{Heard}
use Rattle.ports.specs.declared.answers.Heard.TheVariants as heard
use Rattle.ports.specs.declared.answers.Naming.{Naming}
use Rattle.ports.specs.declared.answers.Naming.TheVariants as naming
use Rattle.ports.specs.declared.answers.Putting.{Putting}
use Rattle.ports.specs.declared.answers.Putting.TheVariants as putting
use Rattle.live_edge.specs.Steps.{put_or_ended}
use Rattle.ports.specs.Calls.{IsFront}
use Rattle.live_edge.proofs.Tables.{one_each, taken_front}
use Rattle.live_edge.specs.Joins.{IsBack, IsRun, IsDue, Joined, all_put}

cond_other : {A : Type 0} (p q : ℕ) (x y : A) → q ≢ p → cond (p == q) x y ≡ y
cond_other p q x y n = let e : nat_eq p q ≡ false = grind (arith, common_steps) in ap (λ b. cond b x y) e

cond_same : {A : Type 0} (p : ℕ) (x y : A) → cond (p == p) x y ≡ x
cond_same p x y = let e : nat_eq p p ≡ true = grind (arith, common_steps) in ap (λ b. cond b x y) e

same_or_not : (p q : ℕ) → (q ≡ p) ⊎ (q ≢ p)
same_or_not p q = cases_eq q p

by_port : (P : ℕ → Type 0) (port : ℕ) → P port → ((q : ℕ) → q ≢ port → P q) → (q : ℕ) → P q
by_port P port here others q = elim (same_or_not port q) [ inl e ↦ subst P (sym e) here | inr n ↦ others q n ]

-- nothing is a run of anything
none_due : (put : ℕ → List ℕ) → IsRun [] put
none_due put = (0, put 0, [], append-nil (put 0))

-- all that is due is a run
pub run_of : (s : State) (owed : List ℕ) (put : ℕ → List ℕ) → IsDue s owed put → IsRun owed put
run_of Free owed put h = h
run_of Unnamed owed put h = h
run_of (IsNamed m) owed put h = (m, h.0, [], ap (λ (l : List ℕ). h.0 ++ l) (append-nil owed) ∙ h.1)

ended : (past : List Event) (port : ℕ) → ((p : ℕ) → IsDue (state_of past p) (due past p) (all_put past))
    → (p : ℕ) → IsDue (state_of (Ended port ∷ past) p) (due (Ended port ∷ past) p) (all_put (Ended port ∷ past))
ended past port h =
    by_port (λ p. IsDue (cond (port == p) Free (state_of past p)) (due past p) (all_put past)) port
    (subst (λ (s : State). IsDue s (due past port) (all_put past)) (sym (cond_same port Free (state_of past port))) (run_of (state_of past port) (due past port) (all_put past) (h port)))
    (λ q n. subst (λ (s : State). IsDue s (due past q) (all_put past)) (sym (cond_other port q Free (state_of past q) n)) (h q))

opened : (past : List Event) (port : ℕ) → ((p : ℕ) → IsDue (state_of past p) (due past p) (all_put past))
    → (p : ℕ) → IsDue (state_of (Opened port ∷ past) p) (due (Opened port ∷ past) p) (all_put (Opened port ∷ past))
opened past port h =
    by_port (λ p. IsDue (cond (port == p) Unnamed (state_of past p)) (cond (port == p) [] (due past p)) (all_put past)) port
    (subst (λ (s : State). IsDue s (cond (port == port) [] (due past port)) (all_put past)) (sym (cond_same port Unnamed (state_of past port)))
    (subst (λ (d : List ℕ). IsRun d (all_put past)) (sym (cond_same port [] (due past port))) (none_due (all_put past))))
    (λ q n. subst (λ (s : State). IsDue s (cond (port == q) [] (due past q)) (all_put past)) (sym (cond_other port q Unnamed (state_of past q) n))
    (subst (λ (d : List ℕ). IsDue (state_of past q) d (all_put past)) (sym (cond_other port q [] (due past q) n)) (h q)))

named : (past : List Event) (port member : ℕ) → due past port ≡ [] → ((p : ℕ) → IsDue (state_of past p) (due past p) (all_put past))
    → (p : ℕ) → IsDue (state_of (Named port member ∷ past) p) (due (Named port member ∷ past) p) (all_put (Named port member ∷ past))
named past port member none h =
    by_port (λ p. IsDue (cond (port == p) (IsNamed member) (state_of past p)) (due past p) (all_put past)) port
    (subst (λ (s : State). IsDue s (due past port) (all_put past)) (sym (cond_same port (IsNamed member) (state_of past port)))
    (all_put past member, ap (λ (l : List ℕ). all_put past member ++ l) none ∙ append-nil (all_put past member)))
    (λ q n. subst (λ (s : State). IsDue s (due past q) (all_put past)) (sym (cond_other port q (IsNamed member) (state_of past q) n)) (h q))

more_at : (put : ℕ → List ℕ) (m n : ℕ) (bytes owed before after : List ℕ) → before ++ (owed ++ after) ≡ put n → (n ≡ m) ⊎ (n ≢ m)
    → IsRun owed (λ k. cond (m == k) (put k ++ bytes) (put k))
more_at put m n bytes owed before after is (inl e) =
    let all : cond (m == n) (put n ++ bytes) (put n) ≡ put n ++ bytes = subst (λ (x : ℕ). cond (x == n) (put n ++ bytes) (put n) ≡ put n ++ bytes) e (cond_same n (put n ++ bytes) (put n)) in
    (n, before, after ++ bytes, ap (λ (l : List ℕ). before ++ l) (sym (append_assoc owed after bytes)) ∙ sym (append_assoc before (owed ++ after) bytes) ∙ ap (λ (l : List ℕ). l ++ bytes) is ∙ sym all)
more_at put m n bytes owed before after is (inr o) =
    (n, before, after, is ∙ sym (cond_other m n (put n ++ bytes) (put n) o))

-- bytes of a member are put behind a run of some member's
more_of : (put : ℕ → List ℕ) (m : ℕ) (bytes owed : List ℕ) → IsRun owed put → IsRun owed (λ n. cond (m == n) (put n ++ bytes) (put n))
more_of put m bytes owed r = more_at put m r.0 bytes owed r.1 r.2 r.3 (same_or_not m r.0)

back_at : (put : ℕ → List ℕ) (m n : ℕ) (bytes owed before : List ℕ) → before ++ owed ≡ put n → (n ≡ m) ⊎ (n ≢ m)
    → IsBack (cond (n == m) (owed ++ bytes) owed) (cond (m == n) (put n ++ bytes) (put n))
back_at put m n bytes owed before is (inl e) =
    let same : cond (n == m) (owed ++ bytes) owed ≡ owed ++ bytes = subst (λ (x : ℕ). cond (n == x) (owed ++ bytes) owed ≡ owed ++ bytes) e (cond_same n (owed ++ bytes) owed) in
    let all : cond (m == n) (put n ++ bytes) (put n) ≡ put n ++ bytes = subst (λ (x : ℕ). cond (x == n) (put n ++ bytes) (put n) ≡ put n ++ bytes) e (cond_same n (put n ++ bytes) (put n)) in
    (before, ap (λ (l : List ℕ). before ++ l) same ∙ sym (append_assoc before owed bytes) ∙ ap (λ (l : List ℕ). l ++ bytes) is ∙ sym all)
back_at put m n bytes owed before is (inr o) =
    let same : cond (n == m) (owed ++ bytes) owed ≡ owed = cond_other n m (owed ++ bytes) owed (λ f. o (sym f)) in
    let all : cond (m == n) (put n ++ bytes) (put n) ≡ put n = cond_other m n (put n ++ bytes) (put n) o in
    (before, ap (λ (l : List ℕ). before ++ l) same ∙ is ∙ sym all)

put_due : (s : State) (put : ℕ → List ℕ) (m : ℕ) (bytes owed : List ℕ) → IsDue s owed put
    → IsDue s (cond (is_of m s) (owed ++ bytes) owed) (λ n. cond (m == n) (put n ++ bytes) (put n))
put_due Free put m bytes owed h = more_of put m bytes owed h
put_due Unnamed put m bytes owed h = more_of put m bytes owed h
put_due (IsNamed n) put m bytes owed h = back_at put m n bytes owed h.0 h.1 (same_or_not m n)

put : (past : List Event) (m : ℕ) (bytes : List ℕ) → ((p : ℕ) → IsDue (state_of past p) (due past p) (all_put past))
    → (p : ℕ) → IsDue (state_of (Put m bytes ∷ past) p) (due (Put m bytes ∷ past) p) (all_put (Put m bytes ∷ past))
put past m bytes h p = put_due (state_of past p) (all_put past) m bytes (due past p) (h p)

-- ---- what the answers of a table add

pub due_opened : (answer : Opening) (past : List Event) → ((p : ℕ) → IsDue (state_of past p) (due past p) (all_put past))
    → (p : ℕ) → IsDue (state_of (answers.opened answer past) p) (due (answers.opened answer past) p) (all_put (answers.opened answer past))
due_opened (opening.Opened port) past h = opened past port h
due_opened opening.Nobody past h = h
due_opened opening.Full past h = h
due_opened opening.Failed past h = h

pub due_read : (port : ℕ) (answer : Heard) (past : List Event) → ((p : ℕ) → IsDue (state_of past p) (due past p) (all_put past))
    → (p : ℕ) → IsDue (state_of (answers.read port answer past) p) (due (answers.read port answer past) p) (all_put (answers.read port answer past))
due_read port heard.Nothing past h = h
due_read port heard.Kept past h = h
due_read port heard.Held past h = h
due_read port (heard.Pieces member pieces) past h = h
due_read port (heard.Over why) past h = ended past port h

-- nothing is due to a connection without a name
none_early : (past : List Event) (t : Table) (c w : ℕ → List ℕ) (port : ℕ) → Sound past t c w → state_at t port ≡ Unnamed → due past port ≡ []
none_early past t c w port s is =
    let had : IsEarly (handed past port) (due past port) (kept_at t port) (c port) (w port) = subst (λ (x : State). Stands x (handed past port) (due past port) (kept_at t port) (c port) (w port) (waits_of t) (port_of t) port) is (s.each port) in
    had.due

pub due_named : (port member count : ℕ) (answer : Naming) (past : List Event) (t : Table) (c w : ℕ → List ℕ) → Sound past t c w → IsNaming (state_at t port) member count answer
    → ((p : ℕ) → IsDue (state_of past p) (due past p) (all_put past))
    → (p : ℕ) → IsDue (state_of (answers.named port member answer past) p) (due (answers.named port member answer past) p) (all_put (answers.named port member answer past))
due_named port member count naming.Nobody past t c w s n h = h
due_named port member count (naming.Named None pieces) past t c w s n h = named past port member (none_early past t c w port s n.0) h
due_named port member count (naming.Named (Some old) pieces) past t c w s n h = named (Ended old ∷ past) port member (none_early past t c w port s n.0) (ended past old h)

pub due_put : (member : ℕ) (bytes : List ℕ) (answer : Putting) (past : List Event) → ((p : ℕ) → IsDue (state_of past p) (due past p) (all_put past))
    → (p : ℕ) → IsDue (state_of (put_or_ended member bytes answer past) p) (due (put_or_ended member bytes answer past) p) (all_put (put_or_ended member bytes answer past))
due_put member bytes putting.Waits past h = put past member bytes h
due_put member bytes putting.Nobody past h = put past member bytes h
due_put member bytes (putting.Over port) past h = put (Ended port ∷ past) member bytes (ended past port h)

pub due_ended : (port : ℕ) (past : List Event) → ((p : ℕ) → IsDue (state_of past p) (due past p) (all_put past))
    → (p : ℕ) → IsDue (state_of (Ended port ∷ past) p) (due (Ended port ∷ past) p) (all_put (Ended port ∷ past))
due_ended port past h = ended past port h

-- ---- what was put to the members

pub put_opened : (answer : Opening) (past : List Event) (m : ℕ) → all_put (answers.opened answer past) m ≡ all_put past m
put_opened (opening.Opened port) past m = refl
put_opened opening.Nobody past m = refl
put_opened opening.Full past m = refl
put_opened opening.Failed past m = refl

pub put_read : (port : ℕ) (answer : Heard) (past : List Event) (m : ℕ) → all_put (answers.read port answer past) m ≡ all_put past m
put_read port heard.Nothing past m = refl
put_read port heard.Kept past m = refl
put_read port heard.Held past m = refl
put_read port (heard.Pieces member pieces) past m = refl
put_read port (heard.Over why) past m = refl

pub put_named : (port member : ℕ) (answer : Naming) (past : List Event) (m : ℕ) → all_put (answers.named port member answer past) m ≡ all_put past m
put_named port member naming.Nobody past m = refl
put_named port member (naming.Named None pieces) past m = refl
put_named port member (naming.Named (Some old) pieces) past m = refl

pub put_put : (member : ℕ) (bytes : List ℕ) (answer : Putting) (past : List Event) (m : ℕ)
    → all_put (put_or_ended member bytes answer past) m ≡ cond (member == m) (all_put past m ++ bytes) (all_put past m)
put_put member bytes putting.Waits past m = refl
put_put member bytes putting.Nobody past m = refl
put_put member bytes (putting.Over port) past m = refl

-- ---- a table as its history says

is_of_not : (m : ℕ) (s : State) → s ≢ IsNamed m → is_of m s ≡ false
is_of_not m Free n = refl
is_of_not m Unnamed n = refl
is_of_not m (IsNamed other) n = elim (same_or_not other m) [ inl e ↦ absurd (n (ap IsNamed (sym e))) | inr o ↦ (let e : nat_eq other m ≡ false = grind (arith, common_steps) in e) ]

-- bytes that are put to nobody change nothing
pub put_nobody : (past : List Event) (t : Table) (c w : ℕ → List ℕ) (m : ℕ) (bytes : List ℕ) → Sound past t c w → ((q : ℕ) → state_at t q ≢ IsNamed m) → Sound (Put m bytes ∷ past) t c w
put_nobody past t c w m bytes s none =
    record {
      states = s.states;
      each = λ p.
          let not : is_of m (state_of past p) ≡ false = is_of_not m (state_of past p) (λ e. none p (s.states p ∙ e)) in
          subst (λ (b : Bool). Stands (state_at t p) (handed past p) (cond b (due past p ++ bytes) (due past p)) (kept_at t p) (c p) (w p) (waits_of t) (port_of t) p) (sym not) (s.each p);
    }

free_is_not : (m : ℕ) → Free ≡ IsNamed m → ⊥
free_is_not m e = absurd (cc)

-- a member whose connection ended has none
pub nobody_left : (past : List Event) (t t' : Table) (c c' w w' : ℕ → List ℕ) (port m : ℕ) → Sound past t c w → Sound (Ended port ∷ past) t' c' w' → state_at t port ≡ IsNamed m
    → (q : ℕ) → state_at t' q ≢ IsNamed m
nobody_left past t t' c c' w w' port m s s' is q e =
    elim (same_or_not port q) [
      | inl same ↦ free_is_not m (sym (subst (λ (x : ℕ). cond (port == x) Free (state_of past x) ≡ Free) (sym same) (cond_same port Free (state_of past port))) ∙ sym (s'.states q) ∙ e)
      | inr other ↦ other (one_each past t c w s q port m (s.states q ∙ sym (cond_other port q Free (state_of past q) other) ∙ sym (s'.states q) ∙ e) is)
    ]

-- a table whose ports have given and taken the same
pub moved : (past : List Event) (t : Table) (c c' w w' : ℕ → List ℕ) → Joined past t c w → ((q : ℕ) → c' q ≡ c q) → ((q : ℕ) → w' q ≡ w q) → Joined past t c' w'
moved past t c c' w w' j ec ew =
    record {
      sound = record {
        states = j.sound.states;
        each = λ p. subst (λ (x : List ℕ). Stands (state_at t p) (handed past p) (due past p) (kept_at t p) (c' p) x (waits_of t) (port_of t) p) (sym (ew p))
            (subst (λ (x : List ℕ). Stands (state_at t p) (handed past p) (due past p) (kept_at t p) x (w p) (waits_of t) (port_of t) p) (sym (ec p)) (j.sound.each p));
      };
      due = j.due;
    }

-- ---- how an edge goes on

module _ {past past' : List Event} {t t' : Table} {c c' w w' : ℕ → List ℕ} where
  pub at_ended : (port : ℕ) → past' ≡ Ended port ∷ past → Sound (Ended port ∷ past) t' c' w' → Joined past t c w → Joined past' t' c' w'
  at_ended port e s j = subst (λ (x : List Event). Joined x t' c' w') (sym e) (record { sound = s; due = due_ended port past j.due })

  pub at_opened : (answer : Opening) → past' ≡ answers.opened answer past → Sound (answers.opened answer past) t' c' w' → Joined past t c w → Joined past' t' c' w'
  at_opened answer e s j = subst (λ (x : List Event). Joined x t' c' w') (sym e) (record { sound = s; due = due_opened answer past j.due })

  pub at_read : (port : ℕ) (answer : Heard) → past' ≡ answers.read port answer past → Sound (answers.read port answer past) t' c' w' → Joined past t c w → Joined past' t' c' w'
  at_read port answer e s j = subst (λ (x : List Event). Joined x t' c' w') (sym e) (record { sound = s; due = due_read port answer past j.due })

  pub at_named : (port member count : ℕ) (answer : Naming) → past' ≡ answers.named port member answer past → IsNaming (state_at t port) member count answer
      → Sound (answers.named port member answer past) t' c' w' → Joined past t c w → Joined past' t' c' w'
  at_named port member count answer e n s j =
      subst (λ (x : List Event). Joined x t' c' w') (sym e) (record { sound = s; due = due_named port member count answer past t c w j.sound n j.due })

sound_put : (past : List Event) (t t' : Table) (c c' w w' : ℕ → List ℕ) (member : ℕ) (bytes : List ℕ) (answer : Putting) → Sound past t c w → Sound (answers.put member bytes answer past) t' c' w'
    → ((p : ℕ) → answer ≡ putting.Over p → state_at t p ≡ IsNamed member) → Sound (put_or_ended member bytes answer past) t' c' w'
sound_put past t t' c c' w w' member bytes putting.Waits s s' over = s'
sound_put past t t' c c' w w' member bytes putting.Nobody s s' over = s'
sound_put past t t' c c' w w' member bytes (putting.Over port) s s' over =
    put_nobody (Ended port ∷ past) t' c' w' member bytes s' (nobody_left past t t' c c' w w' port member s s' (over port refl))

module _ {past past' : List Event} {t t' : Table} {c c' w w' : ℕ → List ℕ} where
  pub at_put : (member : ℕ) (bytes : List ℕ) (answer : Putting) → past' ≡ put_or_ended member bytes answer past → Sound (answers.put member bytes answer past) t' c' w'
      → ((p : ℕ) → answer ≡ putting.Over p → state_at t p ≡ IsNamed member) → Joined past t c w → Joined past' t' c' w'
  at_put member bytes answer e s over j =
      subst (λ (x : List Event). Joined x t' c' w') (sym e) (record { sound = sound_put past t t' c c' w w' member bytes answer j.sound s over; due = due_put member bytes answer past j.due })

-- what a port took is a run of the frames of one member
run_front : (w owed : List ℕ) (put frames : ℕ → List ℕ) → IsFront w owed → IsRun owed put → ((m : ℕ) → put m ≡ frames m) → IsRun w frames
run_front w owed put frames f r e =
    (r.0, r.1, f.0 ++ r.2, ap (λ (l : List ℕ). r.1 ++ l) (sym (append_assoc w f.0 r.2) ∙ ap (λ (l : List ℕ). l ++ r.2) f.1) ∙ r.3 ∙ e r.0)

pub took_run : (past : List Event) (t : Table) (c w : ℕ → List ℕ) (frames : ℕ → List ℕ) → Joined past t c w → ((m : ℕ) → all_put past m ≡ frames m) → (p : ℕ) → IsRun (w p) frames
took_run past t c w frames j e p =
    run_front (w p) (due past p) (all_put past) frames (taken_front past t c w j.sound p) (run_of (state_of past p) (due past p) (all_put past) (j.due p)) e

-- before the first connection
pub begins : (past : List Event) (t : Table) (c w : ℕ → List ℕ) → past ≡ [] → Sound [] t c w → Joined past t c w
begins past t c w e s = subst (λ (x : List Event). Joined x t c w) (sym e) (record { sound = s; due = λ p. none_due (all_put []) })
