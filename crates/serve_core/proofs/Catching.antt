-- A member's cursors go on with each turn.
use Rattle.std.proofs.Common.{◌≡◌, ◌≤◌, ◌<◌, ℕ, ℤ, Bool, true, false, List, length, max, arith, refl, sym, ◌∙◌, ap, subst, inl, inr}
use Rattle.std.proofs.lemmas.List.{length-append}
use Rattle.venue_words.specs.declared.config.Config.{Config}
use Rattle.venue_words.specs.declared.report.Report.{Report}
use Rattle.venue_words.specs.Journals.{StartsWith}
use Rattle.venue_words.specs.Floors.{FloorMark, SymbolView}
use Rattle.session_core.specs.Machine.{IsUp, Machine}
use Rattle.session_core.specs.Runs.{send_if_up}
use Rattle.session_core.specs.State.{is_up}
use Rattle.session_core.specs.declared.message.Message.{Message}
use Rattle.member_gate.specs.Desks.{DeskView}
use Rattle.member_gate.specs.Reporting.{cursor_at, messages_past, MovedOn}
use Rattle.line_work.specs.FeedState.{Connection}
use Rattle.link_work.specs.Turns.{LinkTurn}
use Rattle.link_work.specs.declared.ends.LinkEnd.{LinkEnd}
use Rattle.link_work.specs.declared.ends.LinkEnd.TheVariants.{PeerEnd}
use Rattle.serve_core.specs.Catching.{HasCaught}
use Rattle.serve_core.specs.Connections.{Visits, served_by}
use Rattle.serve_core.specs.Rounds.{Served, IsSent, heard}
use Rattle.serve_core.specs.Sessions.{Ground, Session}
use Rattle.serve_core.specs.Turning.{StoppedTurn}

grows : {A : Type 0} (xs ys : List A) → StartsWith ys xs → length xs ≤ length ys
grows xs ys starts = omega (arith, ap length starts.1, length-append xs starts.0)

-- a cursor that went on at most to the reports of before goes on to those of now
further : (entry cursor old now : ℕ) → entry ≤ cursor → cursor ≤ max entry old → old ≤ now → max cursor now ≡ max entry now
further entry cursor old now least most grown = grind arith

not_less : (entry cursor next now : ℕ) → entry ≤ cursor → next ≡ max cursor now → entry ≤ next
not_less entry cursor next now least is = grind arith

not_more : (entry cursor old now : ℕ) → cursor ≤ max entry old → old ≤ now → cursor ≤ max entry now
not_more entry cursor old now most grown = grind arith

not_past : (entry cursor next old now : ℕ) → cursor ≤ max entry old → old ≤ now → next ≡ max cursor now → next ≤ max entry now
not_past entry cursor next old now most grown is = grind arith

nothing_sent : (machine : Machine) (messages : List Message) (moment : ℤ) → is_up machine.state ≡ false
    → (send_if_up machine messages moment).machine ≡ machine
nothing_sent machine messages moment e = rw e refl

-- a session that is down is not brought up by what is sent
still_down : (config : Config) (moment : ℤ) (mid : Served) (now : ℕ → List Report) (after : Served)
    → is_up mid.connection.session.state ≡ false → IsSent config moment now mid after → IsUp after.connection.session → ⊥
still_down config moment mid now after e sent up =
    let same : after.connection.session ≡ mid.connection.session = ap (λ (c : Connection). c.session) sent.connection
    ∙ nothing_sent mid.connection.session (messages_past config mid.connection.number mid.cursors now) moment e in
    let raised : is_up mid.connection.session.state ≡ true
    = subst (λ (m : Machine). is_up m.state ≡ true) same up in
    absurd (cc)

caught_by : (config : Config) (old now : ℕ → List Report) (moment : ℤ) (mid after : Served) (entry : List ℕ) (b : Bool)
    → is_up mid.connection.session.state ≡ b → ((symbol : ℕ) → length (old symbol) ≤ length (now symbol))
    → IsSent config moment now mid after
    → ((symbol : ℕ) → symbol < length config.symbols → cursor_at entry symbol ≤ cursor_at mid.cursors symbol)
    → ((symbol : ℕ) → symbol < length config.symbols → cursor_at mid.cursors symbol ≤ max (cursor_at entry symbol) (length (old symbol)))
    → ((symbol : ℕ) → length config.symbols ≤ symbol → cursor_at mid.cursors symbol ≡ cursor_at entry symbol)
    → HasCaught config now entry after
caught_by config old now moment mid after entry true e longer sent least most rest =
    let moved = sent.cursors e in record {
      least = λ symbol within. not_less (cursor_at entry symbol) (cursor_at mid.cursors symbol) (cursor_at after.cursors symbol)
          (length (now symbol)) (least symbol within) (moved.read symbol within);
      most = λ symbol within. not_past (cursor_at entry symbol) (cursor_at mid.cursors symbol) (cursor_at after.cursors symbol)
          (length (old symbol)) (length (now symbol)) (most symbol within) (longer symbol) (moved.read symbol within);
      rest = λ symbol outside. moved.rest symbol outside ∙ rest symbol outside;
      up = λ _. record {
        read = λ symbol within. moved.read symbol within
            ∙ further (cursor_at entry symbol) (cursor_at mid.cursors symbol) (length (old symbol)) (length (now symbol))
            (least symbol within) (most symbol within) (longer symbol);
        rest = λ symbol outside. moved.rest symbol outside ∙ rest symbol outside;
      };
    }
caught_by config old now moment mid after entry false e longer sent least most rest =
    let same : after.cursors ≡ mid.cursors = sent.still (λ up. absurd (cc)) in record {
      least = λ symbol within. subst (λ (cs : List ℕ). cursor_at entry symbol ≤ cursor_at cs symbol) (sym same) (least symbol within);
      most = λ symbol within. subst (λ (cs : List ℕ). cursor_at cs symbol ≤ max (cursor_at entry symbol) (length (now symbol))) (sym same)
          (not_more (cursor_at entry symbol) (cursor_at mid.cursors symbol) (length (old symbol)) (length (now symbol))
          (most symbol within) (longer symbol));
      rest = λ symbol outside. ap (λ (cs : List ℕ). cursor_at cs symbol) same ∙ rest symbol outside;
      up = λ up. absurd (still_down config moment mid now after e sent up);
    }

-- one more turn
pub caught_turn : (config : Config) (old now : ℕ → List Report) (turn : LinkTurn) (before after : Served) (entry : List ℕ)
    → ((symbol : ℕ) → StartsWith (now symbol) (old symbol)) → IsSent config turn.moment now (heard config turn before) after
    → HasCaught config old entry before → HasCaught config now entry after
caught_turn config old now turn before after entry grown sent caught =
    let mid = heard config turn before in
    caught_by config old now turn.moment mid after entry (is_up mid.connection.session.state) refl
    (λ symbol. grows (old symbol) (now symbol) (grown symbol)) sent caught.least caught.most caught.rest

-- a new connection
pub caught_first : (config : Config) (reports : ℕ → List Report) (desk : DeskView) → HasCaught config reports desk.cursors (served_by desk)
caught_first config reports desk = record {
  least = λ symbol within. omega arith;
  most = λ symbol within. grind arith;
  rest = λ symbol outside. refl;
  up = λ up. absurd (cc);
}

-- a session that went on behind cursors that had caught up
caught_last : {F : Type 0} (at : F → ℕ → SymbolView) (mark : FloorMark) (config : Config) (feed : ℕ) (start : Served) (end : LinkEnd)
    (desk : DeskView) (before after : Ground F) (entry : List ℕ) → Session at mark config feed start end desk before after
    → end ≡ PeerEnd → IsUp desk.session → HasCaught config (λ symbol. (at before.floor symbol).reports) entry start
    → MovedOn (length config.symbols) (λ symbol. (at after.floor symbol).reports) entry desk.cursors
caught_last {F = F} at mark config feed start end desk before after entry session is up first =
    let so = session.so_far in
    let caught = so.caught entry first in elim session.ends [
      | inl failed ↦ absurd (let e = failed.0 in cc)
      | inr last ↦ elim last.ends [
        | inl peer ↦
            let serves = peer.2 in
            let risen : IsUp so.stop.connection.session = subst IsUp serves.desk_is.session up in
            subst (λ (cs : List ℕ). MovedOn (length config.symbols) (λ symbol. (at after.floor symbol).reports) entry cs) (sym serves.cursors_are)
            (subst (λ (floor : F). MovedOn (length config.symbols) (λ symbol. (at floor symbol).reports) entry so.stop.cursors)
            (sym peer.3) (caught.up risen))
        | inr stopped ↦ absurd (subst (λ (e : LinkEnd). StoppedTurn at mark config feed last.turn so.stop e desk session.middle.floor after.floor last.asked after.link) is stopped)
      ]
    ]

-- where the peer ended, nothing more was done
pub caught_at_end : {F : Type 0} (at : F → ℕ → SymbolView) (mark : FloorMark) (config : Config) (feed : ℕ) (turn : LinkTurn) (desk last : DeskView)
    (end : LinkEnd) (before after : Ground F) → Visits at mark config feed turn (served_by desk) end last before after
    → end ≡ PeerEnd → IsUp last.session → MovedOn (length config.symbols) (λ symbol. (at after.floor symbol).reports) desk.cursors last.cursors
caught_at_end at mark config feed turn desk last end before after (inl stopped) is up =
    absurd (subst (λ (e : LinkEnd). StoppedTurn at mark config feed turn (served_by desk) e last before.floor after.floor before.link after.link) is stopped.1)
caught_at_end {F = F} at mark config feed turn desk last end before after (inr went) is up =
    let shown : F → ℕ → List Report = λ floor symbol. (at floor symbol).reports in
    let first = caught_turn config (shown before.floor) (shown went.middle.floor) turn (served_by desk) went.took.after desk.cursors
    (λ symbol. (went.took.grew symbol).reports) went.took.round (caught_first config (shown before.floor) desk) in
    caught_last at mark config feed went.took.after end last went.middle after desk.cursors went.session is up first
