-- Each step of a turn keeps the rule.
use Rattle.std.proofs.Common.{◌≡◌, ℕ, ◌+◌, ◌%◌, ◌^◌, ◌<◌, ◌≤◌, Bool, true, false, cond, eqb, eq-eqb, ne_eqb, inl, inr, List, [], ◌∷◌, ◌++◌, length, get_or, set, sym, refl, ap, ◌∙◌, subst, arith, length-append, Option, None, Some}
use mathlib.Core.Option as maybe
use mathlib.Core.Logic.{dite}
use native.Mathlib.Decide.{ℕ_discrete}
use lib.ListN.{get_elem?}
use lib.Seq.{set-get_or}
use prog.Atomic.{either}
use Rattle.std.proofs.Math.Nat.{mod-eq_of_lt}
use Rattle.atomic_table.specs.Table.{keeps, takes, gives, put_back, rest, step, stepped, Allows}
use Rattle.venue_words.specs.Journals.{StartsWith}
use Rattle.venue_words.specs.declared.command.Event.{Event}
use Rattle.turn_gate.specs.declared.view.SeatView.{SeatView}
use Rattle.turn_gate.specs.Rule.{EachNumberOnce}
use Rattle.turn_gate.specs.Steps.{SeatAndSlot, with_event, after_turn, journal_held, TakesEmptySlot, DrawsTicket, TakesTurn, RecordsEvent, PassesTurn, MarksSleepers}
use Rattle.turn_gate.proofs.Prefixes.{starts_more, starts_whole, starts_length, starts_trans}
use Rattle.turn_gate.proofs.Merges.{increases_more, increases_push}
use Rattle.turn_gate.proofs.OneSeat.{each_set, is_none, own_as_before, own_if_none, agrees_next, agrees_serving, agrees_history, order_as_before, order_ahead, once_set, once_more}
use Rattle.turn_gate.proofs.Moves.{Rule, Agrees, holder_is, home_is, others_wait, moved, out_with, value_stays, unmoved}

module _ {V : Type 0} (journal : V → List Event) (limit setting : V → ℕ) (made : V) where
  -- a ticket is drawn, or the word was not as expected
  pub draws : (slots id : ℕ) (me : SeatAndSlot V) (old : ℕ) → me.0.ticket ≡ None → me.0.history ≡ None → 0 < me.0.part → old + 1 < 2 ^ 64
      → Allows (Rule journal limit setting made) slots id me 0 (λ n. either (eqb n old) (old + 1) n) (DrawsTicket (step slots 0 old (old + 1) maybe.none) me)
  draws slots id me old none idle part small s r len at _ =
      let x : ℕ = get_or s.words 0 0 in
      let here : x ≡ r.next = ap (λ (ws : List ℕ). get_or ws 0 0) r.words in
      let a = r.seats id me.0 at in
      dite (ℕ_discrete x old)
      (λ hit.
      let new : SeatView = record me.0 { ticket = Some x } in
      let order : r.serving ≤ r.next = r.order in
      let own : Agrees journal limit setting made (old + 1) r.serving r.history new = record {
        spent = λ gone. absurd (omega arith);
        knows_limit = a.knows_limit;
        knows_setting = a.knows_setting;
        seen = a.seen;
        told = a.told;
        mine = a.mine;
        last = a.last;
        ticket = λ t is. let e : x ≡ t = (cc) in (omega arith, omega arith);
        turn = λ known is. absurd (cc);
      } in (
        new,
        keeps,
        tt,
        subst (λ b. Rule journal limit setting made (stepped s 0 (either b (old + 1) x) id me.1 new keeps)) (sym (eq-eqb x old hit))
            (moved journal limit setting made s r id me.0 new at (set s.words 0 (old + 1)) s.homes (old + 1) r.serving r.history r.sleepers
            (ap (λ (ws : List ℕ). set ws 0 (old + 1)) r.words) (omega arith) small r.room own
            (λ j other _ at'. agrees_next (limit made) (setting made) r.next r.serving (old + 1) r.history other (omega arith) (r.seats j other at'))
            (λ t is j other apart at' is'. let e : x ≡ t = (cc) in let g = (r.seats j other at').ticket t is' in let b = g.1 in absurd (omega arith))
            (order_as_before s.views id me.0 new r.looks at refl refl part (λ none. none))
            (value_stays journal limit setting made s r id me.0 new at refl refl) refl refl
            (once_set s.views id (length r.history) me.0 new at refl r.numbers)),
        ((λ _. refl), (λ no. absurd (no hit))),
      ))
      (λ miss. (
        me.0,
        keeps,
        tt,
        subst (λ b. Rule journal limit setting made (stepped s 0 (either b (old + 1) x) id me.1 me.0 keeps)) (sym (ne_eqb x old miss)) (unmoved journal limit setting made s r id 0 me.0 me.1 at part),
        ((λ hit. absurd (miss hit)), (λ _. refl)),
      ))

  -- the seat has the turn where its ticket is served
  pub takes_turn : (slots id : ℕ) (me : SeatAndSlot V) (t : ℕ) → me.0.ticket ≡ Some t → me.0.history ≡ None → me.0.opening ≡ false → me.1 ≡ [] → 0 < me.0.part
      → Allows (Rule journal limit setting made) slots id me 1 (λ n. n) (TakesTurn journal limit setting (step slots 1 0 0 maybe.none) me)
  takes_turn slots id me t is idle closed free part s r len at _ =
      let x : ℕ = get_or s.words 1 0 in
      let here : x ≡ r.serving = ap (λ (ws : List ℕ). get_or ws 1 0) r.words in
      let a = r.seats id me.0 at in
      dite (ℕ_discrete t x)
      (λ hit.
      let served : me.0.ticket ≡ Some r.serving = is ∙ ap (λ (z : ℕ). Some z) (hit ∙ here) in
      let home = home_is journal limit setting made s r id me.0 at idle served in
      let value_is = home.value_is in
      let new : SeatView = record me.0 { history = Some (journal home.value) } in
      let own : Agrees journal limit setting made r.next r.serving r.history new = record {
        spent = λ gone. absurd (omega arith);
        knows_limit = a.knows_limit;
        knows_setting = a.knows_setting;
        seen = a.seen;
        told = a.told;
        mine = a.mine;
        last = a.last;
        ticket = a.ticket;
        turn = λ known e. ((let j = value_is.journal in (cc)), served);
      } in (
        new,
        takes 0 (Some home.value),
        ap (λ (hs : List (maybe.Option (Option V))). get_elem? hs 0) home.slot,
        moved journal limit setting made s r id me.0 new at (set s.words 1 x) (set s.homes 0 maybe.none) r.next r.serving r.history r.sleepers
            (set-get_or s.words 1 0 ∙ r.words) r.order r.fits r.room own (λ j other _. r.seats j other)
            (own_as_before s.views id me.0 new r.tickets at refl)
            (order_as_before s.views id me.0 new r.looks at refl refl part (λ none. absurd (cc)))
            (inr (out_with journal limit setting made s r id me.0 new (journal home.value) (set s.homes 0 maybe.none) at refl
            (ap (λ (hs : List (maybe.Option (Option V))). set hs 0 maybe.none) home.slot ∙ ap (λ (b : Bool). cond b (maybe.some None) maybe.none ∷ []) (sym closed))))
            refl refl (once_set s.views id (length r.history) me.0 new at refl r.numbers),
        (
          (λ _. record {
            value = home.value;
            after_is = ap (λ (cs : List (ℕ × Option V)). (new, (0, Some home.value) ∷ cs)) free;
            limit = value_is.limit ∙ sym (a.knows_limit part);
            setting = value_is.setting ∙ sym (a.knows_setting part);
            seen = subst (λ (l : List Event). StartsWith l me.0.seen) (sym value_is.journal) a.seen;
            room = (let j : length (journal home.value) ≡ length r.history = ap length value_is.journal in let b = value_is.limit in let c = r.room in omega arith);
            later = λ ticket is'. let same : ticket ≡ t = (cc) in let l = a.last in omega arith;
          }),
          (λ no. absurd (no (is ∙ ap (λ (z : ℕ). Some z) hit))),
        ),
      ))
      (λ miss. (
        me.0,
        keeps,
        tt,
        unmoved journal limit setting made s r id 1 me.0 me.1 at part,
        ((λ hit. absurd (miss (cc))), (λ _. refl)),
      ))

  -- the first seat takes the empty slot
  pub takes_empty : (slots id : ℕ) (me : SeatAndSlot V) → me.0.history ≡ Some [] → me.0.opening ≡ true → me.1 ≡ [] → 0 < me.0.part
      → Allows (Rule journal limit setting made) slots id me 1 (λ n. n) (TakesEmptySlot (step slots 1 0 0 maybe.none) me)
  takes_empty slots id me has_turn first free part s r len at _ =
      let a = r.seats id me.0 at in
      let held = holder_is journal limit setting made s r id me.0 [] at has_turn in
      let slot : s.homes ≡ maybe.some None ∷ [] = held.2 ∙ ap (λ (b : Bool). cond b (maybe.some None) maybe.none ∷ []) first in
      let new : SeatView = record me.0 { opening = false } in
      let own : Agrees journal limit setting made r.next r.serving r.history new = record {
        spent = λ gone. absurd (omega arith);
        knows_limit = a.knows_limit;
        knows_setting = a.knows_setting;
        seen = a.seen;
        told = a.told;
        mine = a.mine;
        last = a.last;
        ticket = a.ticket;
        turn = a.turn;
      } in (
        new,
        takes 0 None,
        ap (λ (hs : List (maybe.Option (Option V))). get_elem? hs 0) slot,
        moved journal limit setting made s r id me.0 new at (set s.words 1 (get_or s.words 1 0)) (set s.homes 0 maybe.none) r.next r.serving r.history r.sleepers
            (set-get_or s.words 1 0 ∙ r.words) r.order r.fits r.room own (λ j other _. r.seats j other)
            (own_as_before s.views id me.0 new r.tickets at refl)
            (order_as_before s.views id me.0 new r.looks at refl refl part (λ none. none))
            (inr (out_with journal limit setting made s r id me.0 new [] (set s.homes 0 maybe.none) at has_turn (ap (λ (hs : List (maybe.Option (Option V))). set hs 0 maybe.none) slot)))
            refl refl (once_set s.views id (length r.history) me.0 new at refl r.numbers),
        ap (λ (cs : List (ℕ × Option V)). (new, (0, None) ∷ cs)) free,
      )

  -- the value's last event is recorded as the seat's own
  pub records : (slots id : ℕ) (me : SeatAndSlot V) (known : List Event) (e : Event) (x : V)
      → me.0.history ≡ Some known → me.0.opening ≡ false → me.1 ≡ (0, Some x) ∷ [] → journal x ≡ known ++ e ∷ [] → 0 < me.0.part
      → limit x ≡ me.0.limit → length known + 1 ≤ limit x → length known + 1 < 2 ^ 64
      → Allows (Rule journal limit setting made) slots id me 2 (λ n. (n + 1) % 2 ^ 64) (RecordsEvent journal (step slots 2 1 0 maybe.none) me)
  records slots id me known e x has_turn closed has is part lim_is room small s r len at _ =
      let n : ℕ = get_or s.words 2 0 in
      let here : n ≡ length r.history = ap (λ (ws : List ℕ). get_or ws 2 0) r.words in
      let a = r.seats id me.0 at in
      let held = holder_is journal limit setting made s r id me.0 known at has_turn in
      let J : List Event = journal_held journal me.1 in
      let grown : J ≡ r.history ++ e ∷ [] = ap (journal_held journal) has ∙ (is ∙ ap (λ (l : List Event). l ++ e ∷ []) held.0) in
      let long : length J ≡ length r.history + 1 = ap length grown ∙ length-append r.history (e ∷ []) in
      let same : length known ≡ length r.history = ap length held.0 in
      let N : (n + 1) % 2 ^ 64 ≡ length J = mod-eq_of_lt (omega arith) ∙ (omega arith) in
      let longer : (l : List Event) → StartsWith r.history l → StartsWith J l =
      λ l begins. subst (λ (all : List Event). StartsWith all l) (sym grown) (starts_more r.history l (e ∷ []) begins) in
      let new : SeatView = with_event J me.0 in
      let own : Agrees journal limit setting made r.next r.serving J new = record {
        spent = λ gone. absurd (omega arith);
        knows_limit = a.knows_limit;
        knows_setting = a.knows_setting;
        seen = starts_whole J;
        told = starts_trans J me.0.seen me.0.told (longer me.0.seen a.seen) a.told;
        mine = (let b = starts_length r.history me.0.seen a.seen in increases_push 0 (length me.0.seen) (length J) me.0.mine a.mine (omega arith));
        last = a.last;
        ticket = a.ticket;
        turn = λ k is'. ((cc), held.1);
      } in (
        new,
        keeps,
        tt,
        moved journal limit setting made s r id me.0 new at (set s.words 2 ((n + 1) % 2 ^ 64)) s.homes r.next r.serving J r.sleepers
            (ap (λ (ws : List ℕ). set ws 2 ((n + 1) % 2 ^ 64)) r.words ∙ ap (λ (k : ℕ). r.next ∷ r.serving ∷ k ∷ r.sleepers ∷ []) N) r.order r.fits
            (let l = a.knows_limit part in omega arith) own
            (λ j other apart at'. subst (λ (l : List Event). Agrees journal limit setting made r.next r.serving l other) (sym grown)
            (agrees_history (limit made) (setting made) r.next r.serving r.history (e ∷ []) other (others_wait journal limit setting made s r id me.0 at held.1 j other apart at') (r.seats j other at')))
            (own_as_before s.views id me.0 new r.tickets at refl)
            (order_ahead s.views id new r.looks (λ j other apart at'. longer other.seen (r.seats j other at').seen) (λ j other apart at' none. absurd (cc)))
            (inr (out_with journal limit setting made s r id me.0 new J s.homes at refl held.2)) refl refl
            (subst (EachNumberOnce (set s.views id new)) (sym long) (once_more s.views id (length r.history) me.0 new at (ap (λ (k : ℕ). me.0.mine ++ k ∷ []) long) r.numbers)),
        refl,
      )

  -- the value is back in its slot, and the next ticket is served
  pub passes : (slots id : ℕ) (me : SeatAndSlot V) (t : ℕ) (x : V)
      → me.0.ticket ≡ Some t → me.0.history ≡ Some (journal x) → me.1 ≡ (0, Some x) ∷ [] → 0 < me.0.part → me.0.opening ≡ false
      → limit x ≡ me.0.limit → setting x ≡ me.0.setting
      → Allows (Rule journal limit setting made) slots id me 1 (λ _. t + 1) (λ _. PassesTurn journal (step slots 1 (t + 1) 0 maybe.none) me (t + 1))
  passes slots id me t x is has_turn has part closed lim_is set_is s r len at _ =
      let a = r.seats id me.0 at in
      let held = holder_is journal limit setting made s r id me.0 (journal x) at has_turn in
      let J : List Event = journal_held journal me.1 in
      let all : J ≡ r.history = ap (journal_held journal) has ∙ held.0 in
      let long : length J ≡ length r.history = ap length all in
      let now : t ≡ r.serving = (let b = held.1 in (cc)) in
      let below = a.ticket t is in
      let new : SeatView = after_turn (t + 1) J me.0 in
      let whole : (l : List Event) → StartsWith r.history l → StartsWith J l = λ l begins. subst (λ (h : List Event). StartsWith h l) (sym all) begins in
      let slot : put_back s.homes me.1 ≡ maybe.some (Some x) ∷ [] =
      ap (put_back s.homes) has ∙ ap (λ (hs : List (maybe.Option (Option V))). set hs 0 (maybe.some (Some x))) (held.2 ∙ ap (λ (b : Bool). cond b (maybe.some None) maybe.none ∷ []) closed) in
      let next_is : t + 1 ≡ r.serving + 1 = ap (λ (z : ℕ). z + 1) now in
      let own : Agrees journal limit setting made r.next (t + 1) r.history new = record {
        spent = λ gone. absurd (omega arith);
        knows_limit = a.knows_limit;
        knows_setting = a.knows_setting;
        seen = subst (λ (l : List Event). StartsWith r.history l) (sym all) (starts_whole r.history);
        told = starts_trans J me.0.seen me.0.told (whole me.0.seen a.seen) a.told;
        mine = (let b = starts_length r.history me.0.seen a.seen in increases_more 0 (length me.0.seen) (length J) me.0.mine a.mine (omega arith));
        last = omega arith;
        ticket = λ u is'. absurd (cc);
        turn = λ k is'. absurd (cc);
      } in (
        new,
        gives,
        tt,
        moved journal limit setting made s r id me.0 new at (set s.words 1 (t + 1)) (put_back s.homes me.1) r.next (t + 1) r.history r.sleepers (ap (λ (ws : List ℕ). set ws 1 (t + 1)) r.words)
            (let b = below.1 in omega arith) r.fits r.room own
            (λ j other apart at'. subst (λ (z : ℕ). Agrees journal limit setting made r.next z r.history other) (sym next_is)
            (agrees_serving (limit made) (setting made) r.next r.serving r.history other (others_wait journal limit setting made s r id me.0 at held.1 j other apart at') (r.seats j other at')))
            (own_if_none s.views id new refl)
            (order_ahead s.views id new r.looks (λ j other apart at'. whole other.seen (r.seats j other at').seen)
            (λ j other apart at' none. let l = (r.seats j other at').last in omega arith))
            (inl record {
              value = x;
              slot = slot;
              value_is = record { journal = held.0; limit = lim_is ∙ a.knows_limit part; setting = set_is ∙ a.knows_setting part };
              no_turn = each_set (λ u. u.history ≡ None) s.views id new refl
                  (λ j other apart at'. is_none other.history (λ k is'. others_wait journal limit setting made s r id me.0 at held.1 j other apart at' ((r.seats j other at').turn k is').1));
            })
            refl (omega arith) (once_set s.views id (length r.history) me.0 new at refl r.numbers),
        ap (λ (cs : List (ℕ × Option V)). (new, rest cs)) has,
      )

  -- whatever is said of sleepers, all else stays
  pub marks : (slots id : ℕ) (me : SeatAndSlot V) (mark : ℕ) → 0 < me.0.part
      → Allows (Rule journal limit setting made) slots id me 3 (λ _. mark) (λ _. MarksSleepers (step slots 3 mark 0 maybe.none) me mark)
  marks slots id me mark part s r len at _ = (
    me.0,
    keeps,
    tt,
    moved journal limit setting made s r id me.0 me.0 at (set s.words 3 mark) s.homes r.next r.serving r.history mark
        (ap (λ (ws : List ℕ). set ws 3 mark) r.words) r.order r.fits r.room
        (r.seats id me.0 at) (λ j other _. r.seats j other) (own_as_before s.views id me.0 me.0 r.tickets at refl)
        (order_as_before s.views id me.0 me.0 r.looks at refl refl part (λ none. none))
        (value_stays journal limit setting made s r id me.0 me.0 at refl refl)
        refl refl (once_set s.views id (length r.history) me.0 me.0 at refl r.numbers),
    refl,
  )
