-- What a floor over books shows after one book was given a command.
use Rattle.std.proofs.Common.{◌≡◌, ◌≢◌, ℕ, zero, suc, ◌+◌, ◌≤◌, Bool, List, [], ◌∷◌, ◌++◌, map, length, get_or, sym, refl, ap, ◌∙◌, subst, arith, length-append, Option, None, Some, Result, IfOk, IfErr, OnOk, OnErr, slice_get, ℤ}
use Rattle.std.specs.List.{All, range_with_len}
use Rattle.std.specs.Prelude.{IfSome}
use mathlib.Core.Logic.{dite}
use native.Mathlib.Decide.{ℕ_discrete}
use Rattle.std.proofs.lemmas.List.{append-nil}
use Rattle.std.proofs.lemmas.List.Elements.{All-set}
use Rattle.venue_words.specs.Floors.{Setup, SymbolView, TurnsRose, TurnsKept, Records, AddsNone, CostsAtMost, CostsNothing}
use Rattle.venue_words.specs.Journals.{StartsWith, event, IfFull}
use Rattle.venue_words.specs.declared.command.Command.{Command}
use Rattle.venue_words.specs.declared.command.Event.{Event}
use Rattle.venue_words.specs.declared.refusal.FloorRefusal.{FloorRefusal}
use Rattle.venue_words.specs.declared.report.Report.{Report}
use Rattle.venue_core.specs.Marks.{plain_mark, setting_in, first_number}
use Rattle.venue_core.specs.Plain.{SubmitsTo}
use Rattle.venue_core.specs.Shown.{shown_by_book}
use Rattle.venue_core.specs.Venues.{PlainState, plain_state, plain_setup, TakesConfigured}
use Rattle.venue_core.proofs.Answered.{map_ok, ok_both, on_ok, on_err, map_on_err, err_both, err_with, either_way}
use Rattle.venue_core.proofs.Places.{map_same, set_here, set_elsewhere, index_map, get_map, holds_at}

range_more : (a n : ℕ) → range_with_len a (suc n) ≡ range_with_len a n ++ (a + n) ∷ []
range_more a zero = let e : a ≡ a + 0 = omega arith in ap (λ (m : ℕ). m ∷ []) e
range_more a (suc n) = let e : (a + 1) + n ≡ a + suc n = omega arith in ap (λ (ms : List ℕ). a ∷ ms) (range_more (a + 1) n ∙ ap (λ (m : ℕ). range_with_len (a + 1) n ++ m ∷ []) e)

-- the numbers of a journal that has one event more
pub numbers_more : (old new : List Event) (last : Event) (number : ℕ) → number ≡ length old + 1 → new ≡ old ++ last ∷ []
    → range_with_len 1 (length new) ≡ range_with_len 1 (length old) ++ number ∷ []
numbers_more old new last number is grown =
    let e : length new ≡ suc (length old) = (let h = ap length grown in let k = length-append old (last ∷ []) in omega arith) in
    let f : 1 + length old ≡ number = omega arith in
    ap (range_with_len 1) e ∙ (range_more 1 (length old) ∙ ap (λ (m : ℕ). range_with_len 1 (length old) ++ m ∷ []) f)

module _ {V : Type 0} (journal_of : V → List Event) (limit_of setting_of : V → ℕ) (step_limit : ℕ → List Event → Event → Option ℕ) (r : ℕ → List Event → List Report)
    (members markets : ℕ) (ticks : List ℕ) (before after : List V) (i : ℕ) (result : Result ℕ FloorRefusal) (feed : ℕ) (moment : ℤ) (command : Command) (from to : ℕ)
    (s : SubmitsTo journal_of limit_of setting_of step_limit before after i result feed moment command from to) where
  abbrev Show : Option V → SymbolView
  Show = shown_by_book journal_of setting_of r

  abbrev Was : PlainState V
  Was = plain_state members markets ticks before

  abbrev Is : PlainState V
  Is = plain_state members markets ticks after

  limits_same : map limit_of after ≡ map limit_of before
  limits_same = ap (map limit_of) s.is ∙ map_same limit_of before i s.old s.new s.was s.limit

  pub plain_marked : plain_mark limit_of setting_of Is ≡ plain_mark limit_of setting_of Was
  plain_marked =
      let f : V → List ℕ = λ book. setting_of book ∷ [] in
      let e = ap (map f) s.is ∙ map_same f before i s.old s.new s.was (ap (λ (n : ℕ). n ∷ []) s.setting) in
      λ k. record { setup = record { members = members; markets = markets; limits = limits_same k; ticks = ticks }; seats = e k }

  pub plain_takes : (takes : ℕ → Command → Bool) → All (λ book. TakesConfigured takes (plain_setup limit_of Was) (setting_of book)) before
      → All (λ book. TakesConfigured takes (plain_setup limit_of Is) (setting_of book)) after
  plain_takes takes all =
      let P : Setup → V → Type 0 = λ setup book. TakesConfigured takes setup (setting_of book) in
      let same : plain_setup limit_of Was ≡ plain_setup limit_of Is = λ k. record { members = members; markets = markets; limits = sym limits_same k; ticks = ticks } in
      let new = subst (TakesConfigured takes (plain_setup limit_of Was)) (sym s.setting) (holds_at (P (plain_setup limit_of Was)) before i s.old s.was all) in
      subst (λ (setup : Setup). All (P setup) after) same
      (subst (All (P (plain_setup limit_of Was))) (sym s.is) (All-set (P (plain_setup limit_of Was)) before i s.new new all))

  pub plain_others : (other : ℕ) → other ≢ i → Show (slice_get after other) ≡ Show (slice_get before other)
  plain_others other n = ap Show (ap (λ (ps : List V). slice_get ps other) s.is ∙ set_elsewhere before i other s.new n)

  was : Show (slice_get before i) ≡ Show (Some s.old)
  was = ap Show s.was

  now : Show (slice_get after i) ≡ Show (Some s.new)
  now = ap Show (ap (λ (ps : List V). slice_get ps i) s.is ∙ set_here before i s.old s.new s.was)

  pub plain_shown : (P : SymbolView → SymbolView → Type 0) → P (Show (Some s.old)) (Show (Some s.new)) → P (Show (slice_get before i)) (Show (slice_get after i))
  plain_shown P h = subst (λ (v : SymbolView). P v (Show (slice_get after i))) (sym was) (subst (λ (v : SymbolView). P (Show (Some s.old)) v) (sym now) h)

  journal_grown : StartsWith (journal_of s.new) (journal_of s.old)
  journal_grown = either_way result (λ n. journal_of s.new ≡ journal_of s.old ++ event n feed moment command ∷ []) (journal_of s.new ≡ journal_of s.old) (StartsWith (journal_of s.new) (journal_of s.old))
      (λ n e. (event n feed moment command ∷ [], e)) (λ e. ([], e ∙ sym (append-nil (journal_of s.old)))) s.journal s.err

  pub plain_grown : ((n : ℕ) (xs ys : List Event) → StartsWith (r n (xs ++ ys)) (r n xs)) → StartsWith (Show (slice_get after i)).reports (Show (slice_get before i)).reports
  plain_grown grows = plain_shown (λ x y. StartsWith y.reports x.reports)
      (let e : r (setting_of s.new) (journal_of s.new) ≡ r (setting_of s.old) (journal_of s.old ++ journal_grown.0) = (λ k. r (s.setting k) (journal_grown.1 k)) in
      let g = grows (setting_of s.old) (journal_of s.old) journal_grown.0 in (g.0, e ∙ g.1))

  pub plain_records : IfOk result (λ n. Records (Show (slice_get before i)) (Show (slice_get after i)) n feed moment command)
  plain_records = plain_shown (λ x y. IfOk result (λ n. Records x y n feed moment command))
      (ok_both result (λ n. n ≡ length (journal_of s.old) + 1) (λ n. journal_of s.new ≡ journal_of s.old ++ event n feed moment command ∷ [])
      (λ n. Records (Show (Some s.old)) (Show (Some s.new)) n feed moment command)
      (λ n e h. (
        [],
        h ∙ ap (λ (es : List Event). es ++ event n feed moment command ∷ []) (sym (append-nil (journal_of s.old))),
        (let k = ap length h in let m = length-append (journal_of s.old) (event n feed moment command ∷ []) in omega arith),
        numbers_more (journal_of s.old) (journal_of s.new) (event n feed moment command) n e h,
      )) s.number s.journal)

  pub plain_room : IfOk result (λ n. n ≤ get_or (map limit_of before) i 0)
  plain_room = let e = index_map limit_of before i s.old s.was in map_ok result (λ n. n ≤ limit_of s.old) (λ n. n ≤ get_or (map limit_of before) i 0) (λ n h. omega arith) s.room

  pub plain_turns : OnOk result (TurnsRose (Show (slice_get before i)).turns (Show (slice_get after i)).turns)
  plain_turns = on_ok result _ (plain_shown (λ x y. TurnsRose x.turns y.turns) refl)

  pub plain_turns_kept : OnErr result (TurnsKept (Show (slice_get before i)).turns (Show (slice_get after i)).turns)
  plain_turns_kept = on_err result _ (plain_shown (λ x y. TurnsKept x.turns y.turns) refl)

  -- a refusal leaves all that is shown
  pub plain_kept : OnErr result (Show (slice_get after i) ≡ Show (slice_get before i))
  plain_kept = plain_shown (λ x y. OnErr result (y ≡ x))
      (map_on_err result (journal_of s.new ≡ journal_of s.old) (Show (Some s.new) ≡ Show (Some s.old))
      (λ e. λ k. record { journal = e k; reports = r (s.setting k) (e k); mine = range_with_len 1 (length (e k)); turns = None }) s.err)

  pub plain_adds_none : OnErr result (AddsNone (Show (slice_get before i)) (Show (slice_get after i)))
  plain_adds_none = map_on_err result (Show (slice_get after i) ≡ Show (slice_get before i)) (AddsNone (Show (slice_get before i)) (Show (slice_get after i)))
      (λ e. (([], ap (λ (v : SymbolView). v.journal) e ∙ sym (append-nil (Show (slice_get before i)).journal)), ap (λ (v : SymbolView). v.mine) e)) plain_kept

  pub plain_full : IfErr result (IfFull (λ found. (found ≡ length (Show (slice_get after i)).journal) × (found ≡ get_or (map limit_of before) i 0)))
  plain_full = let e = index_map limit_of before i s.old s.was in
      plain_shown (λ x y. IfErr result (IfFull (λ found. (found ≡ length y.journal) × (found ≡ get_or (map limit_of before) i 0))))
      (err_with result (IfFull (λ found. (found ≡ length (journal_of s.old)) × (found ≡ limit_of s.old)))
      (IfFull (λ found. (found ≡ length (journal_of s.new)) × (found ≡ get_or (map limit_of before) i 0))) (journal_of s.new ≡ journal_of s.old)
      (λ why h j. subst (λ (es : List Event). IfFull (λ found. (found ≡ length es) × (found ≡ get_or (map limit_of before) i 0)) why) (sym j)
      (subst (λ (most : ℕ). IfFull (λ found. (found ≡ length (journal_of s.old)) × (found ≡ most)) why) (sym e) h)) s.full s.err)

  set_so : setting_in (plain_mark limit_of setting_of Was) i ≡ setting_of s.old
  set_so = ap first_number (get_map (λ (book : V). setting_of book ∷ []) before i s.old s.was)

  pub plain_steps : IfOk result (λ n. CostsAtMost (step_limit (setting_in (plain_mark limit_of setting_of Was) i)) (Show (slice_get after i)).journal (event n feed moment command) from to)
  plain_steps =
      plain_shown (λ x y. IfOk result (λ n. CostsAtMost (step_limit (setting_in (plain_mark limit_of setting_of Was) i)) y.journal (event n feed moment command) from to))
      (subst (λ (n : ℕ). IfOk result (λ m. CostsAtMost (step_limit n) (journal_of s.new) (event m feed moment command) from to)) (sym set_so)
      (ok_both result (λ n. journal_of s.new ≡ journal_of s.old ++ event n feed moment command ∷ [])
      (λ n. IfSome (step_limit (setting_of s.old) (journal_of s.old) (event n feed moment command)) (λ most. to ≤ from + most))
      (λ n. CostsAtMost (step_limit (setting_of s.old)) (journal_of s.new) (event n feed moment command) from to)
      (λ n e h. (journal_of s.old, e, h)) s.journal s.steps))

  pub plain_idle : OnErr result (CostsNothing (step_limit (setting_in (plain_mark limit_of setting_of Was) i)) (Show (slice_get after i)).journal (event (length (Show (slice_get after i)).journal + 1) feed moment command) from to)
  plain_idle =
      plain_shown (λ x y. OnErr result (CostsNothing (step_limit (setting_in (plain_mark limit_of setting_of Was) i)) y.journal (event (length y.journal + 1) feed moment command) from to))
      (subst (λ (n : ℕ). OnErr result (CostsNothing (step_limit n) (journal_of s.new) (event (length (journal_of s.new) + 1) feed moment command) from to)) (sym set_so)
      (err_both result (journal_of s.new ≡ journal_of s.old) (CostsNothing (step_limit (setting_of s.old)) (journal_of s.old) (event (length (journal_of s.old) + 1) feed moment command) from to)
      (CostsNothing (step_limit (setting_of s.old)) (journal_of s.new) (event (length (journal_of s.new) + 1) feed moment command) from to)
      (λ e h. subst (λ (es : List Event). CostsNothing (step_limit (setting_of s.old)) es (event (length es + 1) feed moment command) from to) (sym e) h) s.err s.idle))

  -- the same, of the venue before the call
  module _ (venue : PlainState V) (view_is : Was ≡ venue) where
    pub floor_mark : plain_mark limit_of setting_of Is ≡ plain_mark limit_of setting_of venue
    floor_mark = plain_marked ∙ ap (plain_mark limit_of setting_of) view_is

    pub floor_others : (other : ℕ) → other ≢ i → Show (slice_get after other) ≡ Show (slice_get venue.books other)
    floor_others = subst (λ (v : PlainState V). (other : ℕ) → other ≢ i → Show (slice_get after other) ≡ Show (slice_get v.books other)) view_is plain_others

    pub floor_reports : ((n : ℕ) (xs ys : List Event) → StartsWith (r n (xs ++ ys)) (r n xs)) → StartsWith (Show (slice_get after i)).reports (Show (slice_get venue.books i)).reports
    floor_reports grows = subst (λ (v : PlainState V). StartsWith (Show (slice_get after i)).reports (Show (slice_get v.books i)).reports) view_is (plain_grown grows)

    pub floor_records : IfOk result (λ n. Records (Show (slice_get venue.books i)) (Show (slice_get after i)) n feed moment command)
    floor_records = subst (λ (v : PlainState V). IfOk result (λ n. Records (Show (slice_get v.books i)) (Show (slice_get after i)) n feed moment command)) view_is plain_records

    pub floor_room : IfOk result (λ n. n ≤ get_or (map limit_of venue.books) i 0)
    floor_room = subst (λ (v : PlainState V). IfOk result (λ n. n ≤ get_or (map limit_of v.books) i 0)) view_is plain_room

    pub floor_err : OnErr result (AddsNone (Show (slice_get venue.books i)) (Show (slice_get after i)))
    floor_err = subst (λ (v : PlainState V). OnErr result (AddsNone (Show (slice_get v.books i)) (Show (slice_get after i)))) view_is plain_adds_none

    pub floor_full : IfErr result (IfFull (λ found. (found ≡ length (Show (slice_get after i)).journal) × (found ≡ get_or (map limit_of venue.books) i 0)))
    floor_full = subst (λ (v : PlainState V). IfErr result (IfFull (λ found. (found ≡ length (Show (slice_get after i)).journal) × (found ≡ get_or (map limit_of v.books) i 0)))) view_is plain_full

    pub floor_steps : IfOk result (λ n. CostsAtMost (step_limit (setting_in (plain_mark limit_of setting_of venue) i)) (Show (slice_get after i)).journal (event n feed moment command) from to)
    floor_steps = subst (λ (v : PlainState V). IfOk result (λ n. CostsAtMost (step_limit (setting_in (plain_mark limit_of setting_of v) i)) (Show (slice_get after i)).journal (event n feed moment command) from to)) view_is plain_steps

    pub floor_idle : OnErr result (CostsNothing (step_limit (setting_in (plain_mark limit_of setting_of venue) i)) (Show (slice_get after i)).journal (event (length (Show (slice_get after i)).journal + 1) feed moment command) from to)
    floor_idle = subst (λ (v : PlainState V). OnErr result (CostsNothing (step_limit (setting_in (plain_mark limit_of setting_of v) i)) (Show (slice_get after i)).journal (event (length (Show (slice_get after i)).journal + 1) feed moment command) from to)) view_is plain_idle

    pub floor_kept : OnErr result ((other : ℕ) → Show (slice_get after other) ≡ Show (slice_get venue.books other))
    floor_kept = subst (λ (v : PlainState V). OnErr result ((other : ℕ) → Show (slice_get after other) ≡ Show (slice_get v.books other))) view_is
        (map_on_err result (Show (slice_get after i) ≡ Show (slice_get before i)) ((other : ℕ) → Show (slice_get after other) ≡ Show (slice_get before other))
        (λ same other. dite (ℕ_discrete other i) (λ is. subst (λ (k : ℕ). Show (slice_get after k) ≡ Show (slice_get before k)) (sym is) same) (λ n. plain_others other n)) plain_kept)
