-- One more turn of a connection.
use Rattle.std.proofs.Common.{◌≡◌, ◌<◌, ◌≤◌, ◌+◌, ◌++◌, ◌∷◌, [], inl, inr, ℕ, ℤ, Bool, true, false, cond, filter, List, Option, Some, None, map, length, length-append, get_or, refl, sym, ◌∙◌, ap, subst, arith, append-nil, append_assoc}
use Rattle.std.proofs.lemmas.Grind.{flat_map-append}
use Rattle.std.proofs.lemmas.List.{map-append}
use Rattle.std.proofs.lemmas.List.Elements.{All-append, All-cons, All-nil, filter-append}
use Rattle.venue_words.specs.declared.command.Event.{Event}
use Rattle.venue_words.specs.declared.config.Config.{Config}
use Rattle.venue_words.specs.declared.report.Report.{Report}
use Rattle.venue_words.specs.Floors.{SymbolView, TurnsKept, TurnsRose}
use Rattle.io_edge.specs.Links.{Told, Tells, WasPut}
use Rattle.session_core.specs.declared.message.Message.{Message}
use Rattle.session_core.specs.Machine.{Machine, IsUp, rests, on_send}
use Rattle.session_core.specs.Runs.{send_if_up}
use Rattle.session_core.specs.State.{is_up}
use Rattle.member_gate.specs.Answering.{name_at}
use Rattle.link_work.specs.Turns.{LinkTurn, Answered, GaveMoments, TurnsWere}
use Rattle.drop_copy.specs.Copies.{copies, copies_at, copies_past, cursor_of}
use Rattle.drop_copy.specs.Desks.{DropView}
use Rattle.drop_copy.specs.Looks.{AllWentOn}
use Rattle.drop_copy.specs.Rounds.{Round, IsRound, Follow, put_in, put_by, turns_of, copied_in, copied_by}
use Rattle.drop_copy.specs.Sessions.{AllRose, AllWaited, CopiedBetween, CursorsMoved, Ground, RoseBy, SoFar, TookTurn, ground, reports_at, turns_up}
use Rattle.drop_copy.proofs.Cursors.{went_then, last_then, stood_kept, stood_within, stood_up, went_up}
use Rattle.drop_copy.proofs.Spans.{copies_grown, copies_join, copies_none}
use Rattle.drop_copy.proofs.Views.{waited_self, waited_then}

-- ---- what is told

answered_more : (xs : List LinkTurn) (p : List ℕ) (turn : LinkTurn) (q : List ℕ) (a b c d : Option Told)
    → Tells (Answered xs p) a b → Tells (Answered (turn ∷ []) []) b c → Tells (WasPut q) c d
    → Tells (Answered (xs ++ turn ∷ []) (p ++ q)) a d
answered_more xs p turn q None b c d h k l = tt
answered_more xs p turn q (Some a) None c d h k l = absurd h
answered_more xs p turn q (Some a) (Some b) None d h k l = absurd k
answered_more xs p turn q (Some a) (Some b) (Some c) None h k l = absurd l
answered_more xs p turn q (Some a) (Some b) (Some c) (Some d) h k l = record {
  answers = ap (λ (t : Told). t.answers) l ∙ k.answers ∙ ap (λ (as0 : List _). as0 ++ turn.answer ∷ []) h.answers
      ∙ append_assoc a.answers (map (λ (t : LinkTurn). t.answer) xs) (turn.answer ∷ [])
      ∙ ap (λ (as0 : List _). a.answers ++ as0) (sym (map-append (λ (t : LinkTurn). t.answer) xs (turn ∷ [])));
  put_is = ap (λ (t : Told). t.put) l
      ∙ ap (λ (bytes : List ℕ). bytes ++ q) (k.put_is ∙ append-nil b.put ∙ h.put_is)
      ∙ append_assoc a.put p q;
}

moments_more : (xs ys : List ℤ) (a b c : Option (List ℤ)) → GaveMoments xs a b → GaveMoments ys b c → GaveMoments (xs ++ ys) a c
moments_more xs ys a b None h k = tt
moments_more xs ys a None (Some c) h k = absurd k
moments_more xs ys None (Some b) (Some c) h k = absurd h
moments_more xs ys (Some a) (Some b) (Some c) h k = k ∙ ap (λ (l : List ℤ). l ++ ys) h ∙ append_assoc a xs ys

told_more : (xs : List LinkTurn) (p : List ℕ) (turn : LinkTurn) (q : List ℕ) (a b c d : Option Told) (s t u : Option (List ℤ))
    → TurnsWere xs p a s b t → TurnsWere (turn ∷ []) [] b t c u → Tells (WasPut q) c d
    → TurnsWere (xs ++ turn ∷ []) (p ++ q) a s d u
told_more xs p turn q a b c d s t u h k l = record {
  link_told = answered_more xs p turn q a b c d h.link_told k.link_told l;
  clock_told = subst (λ (ms : List ℤ). GaveMoments ms s u) (sym (map-append (λ (x : LinkTurn). x.moment) xs (turn ∷ [])))
      (moments_more (map (λ (x : LinkTurn). x.moment) xs) (turn.moment ∷ []) s t u h.clock_told k.clock_told);
}

answered_none : (a : Option Told) → Tells (Answered [] []) a a
answered_none None = tt
answered_none (Some a) = record { answers = sym (append-nil a.answers); put_is = sym (append-nil a.put) }

moments_none : (a : Option (List ℤ)) → GaveMoments [] a a
moments_none None = tt
moments_none (Some a) = sym (append-nil a)

-- ---- rounds

follow_more : (start : DropView) (rounds : List Round) (stop : DropView) (round : Round) → Follow start rounds stop → round.before ≡ stop
    → Follow start (rounds ++ round ∷ []) round.after
follow_more start [] stop round follow same = (same ∙ follow, refl)
follow_more start (r ∷ rounds) stop round follow same = (follow.0, follow_more r.after rounds stop round follow.1 same)

-- ---- the session behind its copies is up only where it was before

up_before : (session : Machine) (messages : List Message) (moment : _) (after : Machine) → after ≡ (send_if_up session messages moment).machine
    → is_up session.state ≡ false → IsUp after → ⊥
up_before session messages moment after e down up =
    let same : (cond (is_up session.state) (on_send session messages moment) (rests session)).machine ≡ session
    = ap (λ (b : Bool). (cond b (on_send session messages moment) (rests session)).machine) down in
    let here : is_up session.state ≡ true = subst (λ (m : Machine). IsUp m) (e ∙ same) up in
    cc

-- ---- counts of turns

rose_self : (a : Option ℕ) → RoseBy 0 a a
rose_self None = refl
rose_self (Some n) = (n, refl, omega arith)

rose_more : (count : ℕ) (a b c : Option ℕ) → RoseBy count a b → TurnsRose b c → RoseBy (count + 1) a c
rose_more count None b c p q = subst (λ (x : Option ℕ). TurnsRose x c) p q
rose_more count (Some n) b c p q =
    let r : TurnsRose (Some p.0) c = subst (λ (x : Option ℕ). TurnsRose x c) p.1 q in
    (r.0, r.1, omega (arith, p.2, r.2))

rose_on : (count : ℕ) (a b c : Option ℕ) → RoseBy count a b → TurnsKept b c → RoseBy count a c
rose_on count None b c p q = subst (λ (x : Option ℕ). TurnsKept x c) p q
rose_on count (Some n) b c p q =
    let r : TurnsKept (Some p.0) c = subst (λ (x : Option ℕ). TurnsKept x c) p.1 q in
    (r.0, r.1, omega (arith, p.2, r.2))

abbrev ends_up : Round → Bool
ends_up round = is_up round.heard.session.state

one_up : (round : Round) (b : Bool) → ends_up round ≡ b → length (filter ends_up (round ∷ [])) ≡ cond b 1 0
one_up round true e = rw e refl
one_up round false e = rw e refl

up_more : (rounds : List Round) (round : Round) (b : Bool) → ends_up round ≡ b
    → turns_up (rounds ++ round ∷ []) ≡ turns_up rounds + cond b 1 0
up_more rounds round b e =
    ap length (filter-append ends_up rounds (round ∷ []))
    ∙ length-append (filter ends_up rounds) (filter ends_up (round ∷ []))
    ∙ ap (λ (n : ℕ). length (filter ends_up rounds) + n) (one_up round b e)

-- ---- so far

pub so_far_none : {F : Type 0} (at : F → ℕ → SymbolView) (made : ℕ → List Event → List Report) (config : Config) (start : DropView) (before : Ground F)
    → (IsUp start.session → ⊥) → SoFar at made config start start before before
so_far_none at made config start before down = record {
  rounds = [];
  are = record { each = All-nil (IsRound config); follow = refl };
  told = record { link_told = answered_none before.link; clock_told = moments_none before.clock };
  waited = λ symbol. waited_self (at before.floor symbol);
  members = refl;
  moved = record {
    each = λ symbol place h k. inl refl;
    up = λ up. absurd (down up);
    last = λ up. absurd (down up);
  };
  copied = λ symbol place h k.
      sym (copies_none config (name_at config.symbols symbol) (get_or start.members place 0) (cursor_of start.members start.cursors symbol place) (at before.floor symbol).reports);
  turns = λ some symbol h. rose_self (at before.floor symbol).turns;
}

module _ {F : Type 0} (at : F → ℕ → SymbolView) (made : ℕ → List Event → List Report) (config : Config) (start stop after : DropView) (first floor floor' : F) (turn : LinkTurn) (link link' : Option Told) (took : TookTurn at made config turn stop after floor floor' link link') where
  abbrev round : Round
  round = record { turn = turn; shown = reports_at at floor'; before = stop; heard = took.heard; after = after }

  abbrev mine : List ℕ → ℕ → ℕ → ℕ
  mine cursors symbol place = cursor_of start.members cursors symbol place

  -- whether the session was up behind the input decides whether cursors moved
  moves : (b : Bool) → is_up took.heard.session.state ≡ b → stop.members ≡ start.members → AllWaited at first floor
      → CursorsMoved at made (length config.symbols) start stop first floor
      → CursorsMoved at made (length config.symbols) start after first floor'
  moves true e same waited m =
      let went = subst (λ (ms : List ℕ). AllWentOn at made (length config.symbols) ms stop.cursors after.cursors floor floor') same (took.went_on e) in record {
        each = λ symbol place h k.
            inr (went_then (made symbol) (at first symbol) (at floor symbol) (at floor' symbol) (mine start.cursors symbol place) (mine stop.cursors symbol place) (mine after.cursors symbol place)
            (m.each symbol place h k) (waited symbol) (went.each symbol place h k));
        up = λ up symbol place h k.
            went_then (made symbol) (at first symbol) (at floor symbol) (at floor' symbol) (mine start.cursors symbol place) (mine stop.cursors symbol place) (mine after.cursors symbol place)
            (m.each symbol place h k) (waited symbol) (went.each symbol place h k);
        last = λ up symbol place h k.
            last_then (made symbol) (at first symbol) (at floor symbol) (at floor' symbol) (mine start.cursors symbol place) (mine stop.cursors symbol place) (mine after.cursors symbol place)
            (m.each symbol place h (omega (arith, k))) (took.waited symbol) (went.last symbol place h k);
      }
  moves false e same waited m =
      let down : IsUp took.heard.session → ⊥ = λ up. (cc) in
      let stood : after.cursors ≡ stop.cursors = took.round.sent.still down ∙ took.round.input.cursors in
      let never : IsUp after.session → ⊥
      = up_before took.heard.session (copies_past config took.heard.members took.heard.cursors after.cursors (reports_at at floor')) turn.moment after.session took.round.sent.session e in record {
        each = λ symbol place h k.
            stood_kept (made symbol) (at first symbol) (at floor symbol) (at floor' symbol) (mine start.cursors symbol place) (mine stop.cursors symbol place) (mine after.cursors symbol place)
            (m.each symbol place h k) (took.waited symbol) (ap (λ (cs : List ℕ). mine cs symbol place) stood);
        up = λ up. absurd (never up);
        last = λ up. absurd (never up);
      }

  -- no cursor goes back in a turn
  rises : (b : Bool) → is_up took.heard.session.state ≡ b → stop.members ≡ start.members
      → (symbol place : ℕ) → symbol < length config.symbols → place < length start.members → mine stop.cursors symbol place ≤ mine after.cursors symbol place
  rises true e same symbol place h k =
      let went = subst (λ (ms : List ℕ). AllWentOn at made (length config.symbols) ms stop.cursors after.cursors floor floor') same (took.went_on e) in
      went_up (made symbol) (at floor symbol) (at floor' symbol) (mine stop.cursors symbol place) (mine after.cursors symbol place) (went.each symbol place h k)
  rises false e same symbol place h k =
      let down : IsUp took.heard.session → ⊥ = λ up. (cc) in
      let stood : mine after.cursors symbol place ≡ mine stop.cursors symbol place
      = ap (λ (cs : List ℕ). mine cs symbol place) (took.round.sent.still down ∙ took.round.input.cursors) in
      omega (arith, stood)

  copied : (rounds : List Round) → stop.members ≡ start.members → CursorsMoved at made (length config.symbols) start stop first floor
      → CopiedBetween at config start rounds stop floor → CopiedBetween at config start (rounds ++ round ∷ []) after floor'
  copied rounds same m c symbol place h k =
      let name = name_at config.symbols symbol in
      let member = get_or start.members place 0 in
      let a = mine start.cursors symbol place in
      let b = mine stop.cursors symbol place in
      let d = mine after.cursors symbol place in
      let reports = (at floor' symbol).reports in
      let last : copied_in config symbol place round ≡ copies config name member b d reports
      = ap (λ (ms : List ℕ). copies_at config ms stop.cursors after.cursors (reports_at at floor') symbol place) same in
      flat_map-append (copied_in config symbol place) rounds (round ∷ [])
      ∙ ap (λ (ms : List Message). copied_by config symbol place rounds ++ ms) (append-nil (copied_in config symbol place round) ∙ last)
      ∙ ap (λ (ms : List Message). ms ++ copies config name member b d reports)
      (c symbol place h k ∙ sym (copies_grown config name member a b (at floor symbol).reports reports (took.waited symbol).reports
      (stood_within (made symbol) (at first symbol) (at floor symbol) a b (m.each symbol place h k))))
      ∙ copies_join config name member a b d reports (stood_up (made symbol) (at first symbol) (at floor symbol) a b (m.each symbol place h k))
      (rises (is_up took.heard.session.state) refl same symbol place h k)

  rose : (rounds : List Round) (b : Bool) → is_up took.heard.session.state ≡ b → stop.members ≡ start.members
      → AllRose at (length config.symbols) start rounds first floor → AllRose at (length config.symbols) start (rounds ++ round ∷ []) first floor'
  rose rounds true e same all some symbol h =
      let more : turns_up (rounds ++ round ∷ []) ≡ turns_up rounds + 1 = up_more rounds round true e in
      subst (λ (n : ℕ). RoseBy n (at first symbol).turns (at floor' symbol).turns) (sym more)
      (rose_more (turns_up rounds) (at first symbol).turns (at floor symbol).turns (at floor' symbol).turns (all some symbol h)
      (took.turns e (subst (λ (ms : List ℕ). 0 < length ms) (sym same) some) symbol h))
  rose rounds false e same all some symbol h =
      let more : turns_up (rounds ++ round ∷ []) ≡ turns_up rounds = omega (arith, up_more rounds round false e) in
      subst (λ (n : ℕ). RoseBy n (at first symbol).turns (at floor' symbol).turns) (sym more)
      (rose_on (turns_up rounds) (at first symbol).turns (at floor symbol).turns (at floor' symbol).turns (all some symbol h) (took.waited symbol).turns)

pub so_far_more : {F : Type 0} (at : F → ℕ → SymbolView) (made : ℕ → List Event → List Report) (config : Config) (start stop after : DropView)
    (before : Ground F) (floor floor' : F) (a b c : Option Told) (s t : Option (List ℤ)) (turn : LinkTurn)
    → SoFar at made config start stop before (ground floor a s) → TurnsWere (turn ∷ []) [] a s b t
    → TookTurn at made config turn stop after floor floor' b c
    → SoFar at made config start after before (ground floor' c t)
so_far_more at made config start stop after before floor floor' a b c s t turn so asked took =
    let round : Round = record { turn = turn; shown = reports_at at floor'; before = stop; heard = took.heard; after = after } in
    let up = is_up took.heard.session.state in record {
      rounds = so.rounds ++ round ∷ [];
      are = record {
        each = All-append (IsRound config) so.rounds (round ∷ []) so.are.each
            (All-cons (IsRound config) round [] took.round (All-nil (IsRound config)));
        follow = follow_more start so.rounds stop round so.are.follow refl;
      };
      told =
          subst (λ (ts : List LinkTurn). TurnsWere ts (put_by config (so.rounds ++ round ∷ [])) before.link before.clock c t)
          (sym (map-append (λ (r : Round). r.turn) so.rounds (round ∷ [])))
          (subst (λ (p : List ℕ). TurnsWere (turns_of so.rounds ++ turn ∷ []) p before.link before.clock c t)
          (ap (λ (q : List ℕ). put_by config so.rounds ++ q) (sym (append-nil (put_in config round)))
          ∙ sym (flat_map-append (put_in config) so.rounds (round ∷ [])))
          (told_more (turns_of so.rounds) (put_by config so.rounds) turn (put_in config round) before.link a b c before.clock s t
          so.told asked took.put));
      waited = λ symbol. waited_then (at before.floor symbol) (at floor symbol) (at floor' symbol) (so.waited symbol) (took.waited symbol);
      members = took.round.sent.members ∙ took.round.input.members ∙ so.members;
      moved = moves at made config start stop after before.floor floor floor' turn b c took up refl so.members so.waited so.moved;
      copied = copied at made config start stop after before.floor floor floor' turn b c took so.rounds so.members so.moved so.copied;
      turns = rose at made config start stop after before.floor floor floor' turn b c took so.rounds up refl so.members so.turns;
    }
