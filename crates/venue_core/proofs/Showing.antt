-- What a floor over seats shows after one seat has passed a turn.
use Rattle.std.proofs.Common.{◌≡◌, ◌≢◌, ℕ, ◌+◌, ◌≤◌, List, [], ◌∷◌, ◌++◌, map, length, get_or, sym, refl, ap, ◌∙◌, subst, arith, append_assoc, Option, Some, Result, IfOk, IfErr, OnErr, slice_get, ℤ}
use Rattle.venue_words.specs.Floors.{SymbolView, TurnsRose, TurnsKept, Records, AddsNone, CostsAtMost, CostsNothing}
use Rattle.venue_words.specs.Journals.{StartsWith, event, IfFull, reports_of}
use Rattle.venue_words.specs.declared.command.Command.{Command}
use Rattle.venue_words.specs.declared.command.Event.{Event}
use Rattle.venue_words.specs.declared.refusal.FloorRefusal.{FloorRefusal}
use Rattle.venue_words.specs.declared.refusal.NoMemory.{NoMemory}
use Rattle.venue_words.specs.declared.report.Look.{Look}
use Rattle.venue_words.specs.declared.report.Report.{Report}
use Rattle.turn_gate.specs.Seats.{GateId, SeatState, Extends}
use Rattle.venue_core.specs.Marks.{seat_mark, mark_of, setting_in, first_number}
use Rattle.venue_core.specs.Shown.{shown_by_seat}
use Rattle.venue_core.specs.Turns.{PassesTurn, Submits, Looks}
use Rattle.venue_core.specs.Venues.{VenueId, setup_in, AreSeatsOf}
use Rattle.venue_core.proofs.Answered.{map_ok, ok_both, err_both, either_way}
use Rattle.venue_core.proofs.Places.{map_same, set_here, set_elsewhere, index_map, get_map}

mark_same : (p q : SeatState) → q.gate ≡ p.gate → q.part ≡ p.part → seat_mark q ≡ seat_mark p
mark_same p q gate part = λ k.
    (gate k).setting ∷ part k ∷ (gate k).limit ∷ (gate k).table.words ∷ (gate k).table.slots ∷ (gate k).table.views_name
    ∷ (gate k).table.atom ∷ (gate k).table.block ∷ (gate k).table.offset ∷ (gate k).table.slot_names

limit_there : (gates : List GateId) (seats : List SeatState) (i : ℕ) (p : SeatState) → slice_get seats i ≡ Some p → map (λ (s : SeatState). s.gate) seats ≡ gates
    → get_or (map (λ (g : GateId). g.limit) gates) i 0 ≡ p.gate.limit
limit_there gates seats i p at are =
    index_map (λ (g : GateId). g.limit) gates i p.gate (ap (λ (gs : List GateId). slice_get gs i) (sym are) ∙ get_map (λ (s : SeatState). s.gate) seats i p at)

extended : (before after : List Event) (last : Event) → Extends before after last → StartsWith after before
extended before after last e = (e.0 ++ last ∷ [], e.1 ∙ append_assoc before e.0 (last ∷ []))

module _ (venue : VenueId) (before after : List SeatState) (i : ℕ) (p q : SeatState) (w : PassesTurn before after i p q) where
  pub fits : AreSeatsOf venue before → AreSeatsOf venue after
  fits are = ap (map (λ (s : SeatState). s.gate)) w.is ∙ (map_same (λ (s : SeatState). s.gate) before i p q w.was w.gate ∙ are)

  pub marked : mark_of venue after ≡ mark_of venue before
  marked = let e = ap (map seat_mark) w.is ∙ map_same seat_mark before i p q w.was (mark_same p q w.gate w.part) in
      λ k. record { setup = setup_in venue; seats = e k }

  pub limited : AreSeatsOf venue before → get_or (setup_in venue).limits i 0 ≡ p.gate.limit
  limited are = limit_there venue.gates before i p w.was are

  pub set_so : setting_in (mark_of venue before) i ≡ p.gate.setting
  set_so = ap first_number (get_map seat_mark before i p w.was)

  module _ (r : ℕ → List Event → List Report) where
    pub others : (s : ℕ) → s ≢ i → shown_by_seat r (slice_get after s) ≡ shown_by_seat r (slice_get before s)
    others s n = ap (shown_by_seat r) (ap (λ (ps : List SeatState). slice_get ps s) w.is ∙ set_elsewhere before i s q n)

    pub was : shown_by_seat r (slice_get before i) ≡ shown_by_seat r (Some p)
    was = ap (shown_by_seat r) w.was

    pub now : shown_by_seat r (slice_get after i) ≡ shown_by_seat r (Some q)
    now = ap (shown_by_seat r) (ap (λ (ps : List SeatState). slice_get ps i) w.is ∙ set_here before i p q w.was)

    -- a fact of the seat before and after is one of what the floor shows
    pub shown : (P : SymbolView → SymbolView → Type 0) → P (shown_by_seat r (Some p)) (shown_by_seat r (Some q))
        → P (shown_by_seat r (slice_get before i)) (shown_by_seat r (slice_get after i))
    shown P h = subst (λ (s : SymbolView). P s (shown_by_seat r (slice_get after i))) (sym was) (subst (λ (s : SymbolView). P (shown_by_seat r (Some p)) s) (sym now) h)

    pub rose : TurnsRose (shown_by_seat r (slice_get before i)).turns (shown_by_seat r (slice_get after i)).turns
    rose = let t = w.turns in shown (λ x y. TurnsRose x.turns y.turns) (q.turns, refl, omega arith)

    pub kept : TurnsKept (shown_by_seat r (slice_get before i)).turns (shown_by_seat r (slice_get after i)).turns
    kept = let t = w.turns in shown (λ x y. TurnsKept x.turns y.turns) (q.turns, refl, omega arith)

    pub grown : ((n : ℕ) (xs ys : List Event) → StartsWith (r n (xs ++ ys)) (r n xs)) → StartsWith q.seen p.seen
        → StartsWith (shown_by_seat r (slice_get after i)).reports (shown_by_seat r (slice_get before i)).reports
    grown grows s = shown (λ x y. StartsWith y.reports x.reports)
        (let e : r q.gate.setting q.seen ≡ r p.gate.setting (p.seen ++ s.0) = (λ k. r (w.gate k).setting (s.1 k)) in
        let g = grows p.gate.setting p.seen s.0 in (g.0, e ∙ g.1))

module _ (venue : VenueId) (before after : List SeatState) (i : ℕ) (result : Result ℕ FloorRefusal) (feed : ℕ) (moment : ℤ) (command : Command) (from to : ℕ)
    (limit : ℕ → List Event → Event → Option ℕ) (s : Submits limit before after i result feed moment command from to) (r : ℕ → List Event → List Report) where
  abbrev Old : SymbolView
  Old = shown_by_seat r (slice_get before i)

  abbrev New : SymbolView
  New = shown_by_seat r (slice_get after i)

  pub submit_seen : StartsWith s.new.seen s.old.seen
  submit_seen = either_way result (λ n. Extends s.old.seen s.new.seen (event n feed moment command)) (StartsWith s.new.seen s.old.seen) (StartsWith s.new.seen s.old.seen)
      (λ n e. extended s.old.seen s.new.seen (event n feed moment command) e) (λ e. e) s.event_is s.seen

  pub submit_records : IfOk result (λ n. Records Old New n feed moment command)
  submit_records = shown venue before after i s.old s.new s.turn r (λ x y. IfOk result (λ n. Records x y n feed moment command))
      (ok_both result (λ n. Extends s.old.seen s.new.seen (event n feed moment command)) (λ n. (n ≡ length s.new.seen) × (s.new.mine ≡ s.old.mine ++ n ∷ []))
      (λ n. Records (shown_by_seat r (Some s.old)) (shown_by_seat r (Some s.new)) n feed moment command) (λ n e h. (e.0, e.1, h.0, h.1)) s.event_is
      (ok_both result (λ n. n ≡ length s.new.seen) (λ n. s.new.mine ≡ s.old.mine ++ n ∷ []) (λ n. (n ≡ length s.new.seen) × (s.new.mine ≡ s.old.mine ++ n ∷ [])) (λ n a b. (a, b)) s.number s.mine))

  pub submit_room : AreSeatsOf venue before → IfOk result (λ n. n ≤ get_or (setup_in venue).limits i 0)
  submit_room are = let e = limited venue before after i s.old s.new s.turn are in
      map_ok result (λ n. n ≤ s.old.gate.limit) (λ n. n ≤ get_or (setup_in venue).limits i 0) (λ n h. omega arith) s.room

  pub submit_adds_none : OnErr result (AddsNone Old New)
  submit_adds_none = shown venue before after i s.old s.new s.turn r (λ x y. OnErr result (AddsNone x y))
      (err_both result (StartsWith s.new.seen s.old.seen) (s.new.mine ≡ s.old.mine) (StartsWith s.new.seen s.old.seen × (s.new.mine ≡ s.old.mine)) (λ a b. (a, b)) s.seen s.none_mine)

  pub submit_full : AreSeatsOf venue before → IfErr result (IfFull (λ found. (found ≡ length New.journal) × (found ≡ get_or (setup_in venue).limits i 0)))
  submit_full are = let e = limited venue before after i s.old s.new s.turn are in
      shown venue before after i s.old s.new s.turn r (λ x y. IfErr result (IfFull (λ found. (found ≡ length y.journal) × (found ≡ get_or (setup_in venue).limits i 0))))
      (subst (λ (most : ℕ). IfErr result (IfFull (λ found. (found ≡ length s.new.seen) × (found ≡ most)))) (sym e) s.full)

  pub submit_steps : IfOk result (λ n. CostsAtMost (limit (setting_in (mark_of venue before) i)) New.journal (event n feed moment command) from to)
  submit_steps = let e = set_so venue before after i s.old s.new s.turn in
      shown venue before after i s.old s.new s.turn r (λ x y. IfOk result (λ n. CostsAtMost (limit (setting_in (mark_of venue before) i)) y.journal (event n feed moment command) from to))
      (subst (λ (n : ℕ). IfOk result (λ m. CostsAtMost (limit n) s.new.seen (event m feed moment command) from to)) (sym e) s.steps)

  pub submit_idle : OnErr result (CostsNothing (limit (setting_in (mark_of venue before) i)) New.journal (event (length New.journal + 1) feed moment command) from to)
  submit_idle = let e = set_so venue before after i s.old s.new s.turn in
      shown venue before after i s.old s.new s.turn r (λ x y. OnErr result (CostsNothing (limit (setting_in (mark_of venue before) i)) y.journal (event (length y.journal + 1) feed moment command) from to))
      (subst (λ (n : ℕ). OnErr result (CostsNothing (limit n) s.new.seen (event (length s.new.seen + 1) feed moment command) from to)) (sym e) s.idle)

module _ (venue : VenueId) (before after : List SeatState) (i : ℕ) (result : Result Look NoMemory) (member from : ℕ) (r : ℕ → List Event → List Report)
    (s : Looks r before after i result member from) where
  same_reports : r s.old.gate.setting s.new.seen ≡ r s.new.gate.setting s.new.seen
  same_reports = λ k. r (sym s.turn.gate k).setting s.new.seen

  pub look_reports : IfOk result (λ look. look.reports ≡ reports_of member from (shown_by_seat r (slice_get after i)).reports)
  look_reports = shown venue before after i s.old s.new s.turn r (λ x y. IfOk result (λ look. look.reports ≡ reports_of member from y.reports))
      (subst (λ (rs : List Report). IfOk result (λ look. look.reports ≡ reports_of member from rs)) same_reports s.shown)

  pub look_front : IfOk result (λ look. look.front ≡ length (shown_by_seat r (slice_get after i)).reports)
  look_front = shown venue before after i s.old s.new s.turn r (λ x y. IfOk result (λ look. look.front ≡ length y.reports))
      (subst (λ (rs : List Report). IfOk result (λ look. look.front ≡ length rs)) same_reports s.front)
