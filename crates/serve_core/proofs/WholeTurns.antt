-- The parts of a turn make the turn.
use Rattle.std.proofs.Common.{◌≡◌, ◌<◌, ◌++◌, [], ℕ, ℤ, List, Option, Some, None, Result, Ok, Err, length, take, refl, sym, ◌∙◌, ap, subst, append-nil, arith, inl, inr}
use Rattle.std.proofs.lemmas.List.{take_all}
use Rattle.venue_words.specs.declared.config.Config.{Config}
use Rattle.venue_words.specs.declared.report.Report.{Report}
use Rattle.venue_words.specs.declared.command.Command.{Command}
use Rattle.venue_words.specs.Floors.{FloorMark, SymbolView, TurnsRose}
use Rattle.io_edge.specs.Links.{Told, Tells, WasPut}
use Rattle.io_edge.specs.Links.Answer.{piece, quiet}
use Rattle.session_core.specs.declared.state.EndCause.{EndCause}
use Rattle.session_core.specs.declared.state.EndCause.TheVariants as cause
use Rattle.session_core.specs.Machine.{IsUp, given_up}
use Rattle.session_core.specs.State.{cause_of}
use Rattle.member_gate.specs.Answering.{Submission}
use Rattle.member_gate.specs.Desks.{DeskView}
use Rattle.member_gate.specs.Submitting.{Waited}
use Rattle.member_gate.specs.declared.refusal.DeskRefusal.{DeskRefusal}
use Rattle.member_gate.specs.declared.refusal.DeskRefusal.TheVariants as refusal
use Rattle.line_work.specs.Commands.{commands_for}
use Rattle.link_work.specs.declared.ends.LinkEnd.{LinkEnd}
use Rattle.link_work.specs.declared.ends.LinkEnd.TheVariants.{Logout, PeerEnd, TooLow, NotLogon, BadLogon, NoNumber, WrongName, InUse, Silent, TooLong, Full, LinkFault, NoMemory}
use Rattle.link_work.specs.Ends.{end_of, refused}
use Rattle.link_work.specs.Turns.{LinkTurn, joined}
use Rattle.link_work.proofs.Frames.{put_more, put_none}
use Rattle.serve_core.specs.Growing.{Grew}
use Rattle.serve_core.specs.Rounds.{Served, Serves, heard, work_in, sent_to, replies_in, commands_in}
use Rattle.serve_core.specs.Turning.{GrewBy, TookTurn, EndedTurn, StoppedTurn, RefusedPiece, ReportsWere, PutTurn, PutLast, TurnWas}
use Rattle.serve_core.proofs.Grows.{grew_none, grew_same, grew_then, kept_rose}

-- ---- the reports behind the replies

pub turn_was : {T : Type 0} (config : Config) (moment : ℤ) (replies : List (List ℕ)) (looked : ℕ → List Report) (mid : Served)
    (desk : DeskView) (link link' link'' : Option Told) (result : Result T LinkEnd)
    → cause_of mid.connection.session.state.phase ≡ None → Tells (WasPut (joined replies)) link link'
    → ReportsWere config moment looked mid desk link' link'' result
    → TurnWas config moment replies looked mid desk link link'' result
turn_was config moment replies looked mid desk link link' link'' (Ok x) on put were = record {
  on = on;
  after = were.after;
  sent = were.sent;
  serves = were.serves;
  put = put_more (joined replies) (joined (sent_to config moment mid looked).turn.replies) link link' link'' put were.put;
}
turn_was config moment replies looked mid desk link link' link'' (Err LinkFault) on put were = inr (record {
  after = were.after;
  sent = were.sent;
  serves = were.serves;
  size = were.size;
  put = put_more (joined replies) (take were.size (joined (sent_to config moment mid looked).turn.replies)) link link' link'' put were.put;
})
turn_was config moment replies looked mid desk link link' link'' (Err NoMemory) on put were =
    (were.0, subst (λ (t : Option Told). Tells (WasPut (joined replies)) link t) (sym were.1) put)
turn_was config moment replies looked mid desk link link' link'' (Err Logout) on put were = absurd were
turn_was config moment replies looked mid desk link link' link'' (Err PeerEnd) on put were = absurd were
turn_was config moment replies looked mid desk link link' link'' (Err TooLow) on put were = absurd were
turn_was config moment replies looked mid desk link link' link'' (Err NotLogon) on put were = absurd were
turn_was config moment replies looked mid desk link link' link'' (Err BadLogon) on put were = absurd were
turn_was config moment replies looked mid desk link link' link'' (Err NoNumber) on put were = absurd were
turn_was config moment replies looked mid desk link link' link'' (Err WrongName) on put were = absurd were
turn_was config moment replies looked mid desk link link' link'' (Err InUse) on put were = absurd were
turn_was config moment replies looked mid desk link link' link'' (Err Silent) on put were = absurd were
turn_was config moment replies looked mid desk link link' link'' (Err TooLong) on put were = absurd were
turn_was config moment replies looked mid desk link link' link'' (Err (Full symbol found)) on put were = absurd were

-- the session ended the connection
ended_by : (T : Type 0) (config : Config) (moment : ℤ) (replies : List (List ℕ)) (looked : ℕ → List Report) (mid : Served)
    (desk : DeskView) (link link' : Option Told) (c : EndCause) → PutLast replies mid desk (end_of c) link link'
    → TurnWas {T = T} config moment replies looked mid desk link link' (Err (end_of c))
ended_by T config moment replies looked mid desk link link' cause.Logout last = last
ended_by T config moment replies looked mid desk link link' cause.TooLow last = last
ended_by T config moment replies looked mid desk link link' cause.NotLogon last = last
ended_by T config moment replies looked mid desk link link' cause.BadLogon last = last
ended_by T config moment replies looked mid desk link link' cause.NoNumber last = last
ended_by T config moment replies looked mid desk link link' cause.WrongName last = last
ended_by T config moment replies looked mid desk link link' cause.Silent last = last
ended_by T config moment replies looked mid desk link link' cause.TooLong last = last

pub turn_ended : (T : Type 0) (config : Config) (moment : ℤ) (replies : List (List ℕ)) (looked : ℕ → List Report) (mid : Served)
    (desk : DeskView) (link link' : Option Told) (c : EndCause) (end : LinkEnd) → end ≡ end_of c
    → cause_of mid.connection.session.state.phase ≡ Some c → Serves desk mid → Tells (WasPut (joined replies)) link link'
    → TurnWas {T = T} config moment replies looked mid desk link link' (Err end)
turn_ended T config moment replies looked mid desk link link' c end is phase serves put =
    subst (λ (e : LinkEnd). TurnWas {T = T} config moment replies looked mid desk link link' (Err e)) (sym is)
    (ended_by T config moment replies looked mid desk link link' c
    (record { cause = c; end_is = refl; cause_is = phase; serves = serves; put = put }))

-- ---- a whole turn

pub grew_on : {F : Type 0} (at : F → ℕ → SymbolView) (feed : ℕ) (commands : List (ℤ × Submission)) (floor floor' floor'' : F)
    → GrewBy at feed commands floor floor' → ((symbol : ℕ) → Waited (at floor' symbol) (at floor'' symbol))
    → GrewBy at feed commands floor floor''
grew_on at feed commands floor floor' floor'' grew waited symbol =
    subst (λ (cs : List (ℤ × Command)). Grew feed cs (at floor symbol) (at floor'' symbol)) (append-nil (commands_for symbol commands))
    (grew_then feed (commands_for symbol commands) [] (at floor symbol) (at floor' symbol) (at floor'' symbol)
    (grew symbol) (grew_none feed (at floor' symbol) (at floor'' symbol) (waited symbol)))

ended_turn : {F : Type 0} (at : F → ℕ → SymbolView) (config : Config) (feed : ℕ) (turn : LinkTurn) (before : Served)
    (end : LinkEnd) (desk : DeskView) (floor floor' : F) (link link' : Option Told)
    → GrewBy at feed (commands_in config turn before) floor floor'
    → PutLast (work_in config turn before.connection).replies (heard config turn before) desk end link link'
    → EndedTurn at config feed turn before end desk floor floor' link link'
ended_turn at config feed turn before end desk floor floor' link link' grew last = record {
  cause = last.cause;
  end_is = last.end_is;
  cause_is = last.cause_is;
  serves = last.serves;
  grew = grew;
  put = last.put;
}

pub stopped_turn : {F : Type 0} (T : Type 0) (at : F → ℕ → SymbolView) (mark : FloorMark) (config : Config) (feed : ℕ) (turn : LinkTurn)
    (before : Served) (end : LinkEnd) (desk : DeskView) (floor floor' : F) (link link' : Option Told)
    → GrewBy at feed (commands_in config turn before) floor floor'
    → TurnWas {T = T} config turn.moment (work_in config turn before.connection).replies (λ symbol. (at floor' symbol).reports)
    (heard config turn before) desk link link' (Err end)
    → StoppedTurn at mark config feed turn before end desk floor floor' link link'
stopped_turn T at mark config feed turn before PeerEnd desk floor floor' link link' grew was = was
stopped_turn T at mark config feed turn before InUse desk floor floor' link link' grew was = was
stopped_turn T at mark config feed turn before (Full symbol found) desk floor floor' link link' grew was = absurd was
stopped_turn T at mark config feed turn before LinkFault desk floor floor' link link' grew was = elim was [
  | inl few ↦ inl (record { serves = few.serves; grew = grew; size = few.size; put = few.put })
  | inr part ↦ inr (record { after = part.after; round = part.sent; serves = part.serves; grew = grew; size = part.size; put = part.put })
]
stopped_turn T at mark config feed turn before NoMemory desk floor floor' link link' grew was =
    let replies = replies_in config turn before in record {
      taken = (work_in config turn before.connection).submissions;
      left = [];
      parts = sym (append-nil (work_in config turn before.connection).submissions);
      grew = grew;
      full = tt;
      desk_is = inr (refl, was.0);
      size = length replies;
      put = subst (λ (bytes : List ℕ). Tells (WasPut bytes) link link') (sym (take_all (length replies) replies (omega arith))) was.1;
    }
stopped_turn T at mark config feed turn before Logout desk floor floor' link link' grew was = ended_turn at config feed turn before Logout desk floor floor' link link' grew was
stopped_turn T at mark config feed turn before TooLow desk floor floor' link link' grew was = ended_turn at config feed turn before TooLow desk floor floor' link link' grew was
stopped_turn T at mark config feed turn before NotLogon desk floor floor' link link' grew was = ended_turn at config feed turn before NotLogon desk floor floor' link link' grew was
stopped_turn T at mark config feed turn before BadLogon desk floor floor' link link' grew was = ended_turn at config feed turn before BadLogon desk floor floor' link link' grew was
stopped_turn T at mark config feed turn before NoNumber desk floor floor' link link' grew was = ended_turn at config feed turn before NoNumber desk floor floor' link link' grew was
stopped_turn T at mark config feed turn before WrongName desk floor floor' link link' grew was = ended_turn at config feed turn before WrongName desk floor floor' link link' grew was
stopped_turn T at mark config feed turn before Silent desk floor floor' link link' grew was = ended_turn at config feed turn before Silent desk floor floor' link link' grew was
stopped_turn T at mark config feed turn before TooLong desk floor floor' link link' grew was = ended_turn at config feed turn before TooLong desk floor floor' link link' grew was

-- a refused piece
pub cut_turn : {F : Type 0} (at : F → ℕ → SymbolView) (mark : FloorMark) (config : Config) (feed : ℕ) (moment : ℤ) (bytes : List ℕ)
    (before : Served) (r : DeskRefusal) (desk : DeskView) (floor floor' : F) (link link' : Option Told) → link' ≡ link
    → desk.member ≡ before.connection.number → desk.cursors ≡ before.cursors
    → RefusedPiece at mark config feed moment before.connection bytes r desk.session floor floor'
    → StoppedTurn at mark config feed (record { answer = piece bytes; moment = moment }) before (refused r) desk floor floor' link link'
cut_turn at mark config feed moment bytes before (refusal.Full symbol found) desk floor floor' link link' same member cursors cut = record {
  taken = cut.taken;
  left = cut.left;
  parts = cut.parts;
  grew = cut.grew;
  full = cut.full;
  desk_is = inl (record { member = member; session = cut.session; cursors = cursors });
  size = 0;
  put = subst (λ (t : Option Told). Tells (WasPut []) link t) (sym same) (put_none link);
}
cut_turn at mark config feed moment bytes before refusal.NoMemory desk floor floor' link link' same member cursors cut = record {
  taken = cut.taken;
  left = cut.left;
  parts = cut.parts;
  grew = cut.grew;
  full = tt;
  desk_is = inl (record { member = member; session = cut.session; cursors = cursors });
  size = 0;
  put = subst (λ (t : Option Told). Tells (WasPut []) link t) (sym same) (put_none link);
}

-- the input and the reports make the whole turn
pub took_turn : {F : Type 0} (at : F → ℕ → SymbolView) (config : Config) (feed : ℕ) (turn : LinkTurn) (before : Served)
    (desk : DeskView) (floor floor' floor'' : F) (link link' : Option Told) (replies : List (List ℕ))
    → replies ≡ (work_in config turn before.connection).replies → GrewBy at feed (commands_in config turn before) floor floor'
    → ((symbol : ℕ) → Waited (at floor' symbol) (at floor'' symbol))
    → (IsUp (heard config turn before).connection.session → (symbol : ℕ) → symbol < length config.symbols
    → TurnsRose (at floor' symbol).turns (at floor'' symbol).turns)
    → PutTurn config turn.moment replies (λ symbol. (at floor'' symbol).reports) (heard config turn before) desk link link'
    → TookTurn at config feed turn before desk floor floor'' link link'
took_turn at config feed turn before desk floor floor' floor'' link link' replies same grew waited rose was =
    let looked : ℕ → List Report = λ symbol. (at floor'' symbol).reports in record {
      on = was.on;
      after = was.after;
      round = was.sent;
      serves = was.serves;
      grew = grew_on at feed (commands_in config turn before) floor floor' floor'' grew waited;
      put =
          subst (λ (rs : List (List ℕ)). Tells (WasPut (joined rs ++ joined (sent_to config turn.moment (heard config turn before) looked).turn.replies)) link link')
          same was.put;
      turns = λ up symbol within. kept_rose (at floor symbol).turns (at floor' symbol).turns (at floor'' symbol).turns
          (grew symbol).turns (rose up symbol within);
    }

pub stopped_behind : {F : Type 0} (T : Type 0) (at : F → ℕ → SymbolView) (mark : FloorMark) (config : Config) (feed : ℕ) (turn : LinkTurn)
    (before : Served) (end : LinkEnd) (desk : DeskView) (floor floor' floor'' : F) (link link' : Option Told) (replies : List (List ℕ))
    → replies ≡ (work_in config turn before.connection).replies → GrewBy at feed (commands_in config turn before) floor floor'
    → ((symbol : ℕ) → Waited (at floor' symbol) (at floor'' symbol))
    → TurnWas {T = T} config turn.moment replies (λ symbol. (at floor'' symbol).reports) (heard config turn before) desk link link' (Err end)
    → StoppedTurn at mark config feed turn before end desk floor floor'' link link'
stopped_behind T at mark config feed turn before end desk floor floor' floor'' link link' replies same grew waited was =
    stopped_turn T at mark config feed turn before end desk floor floor'' link link'
    (grew_on at feed (commands_in config turn before) floor floor' floor'' grew waited)
    (subst (λ (rs : List (List ℕ)). TurnWas {T = T} config turn.moment rs (λ symbol. (at floor'' symbol).reports) (heard config turn before) desk link link' (Err end))
    same was)

-- memory was wanted at a tick: the session gave up, and nothing else was done
pub tick_cut : {F : Type 0} (at : F → ℕ → SymbolView) (mark : FloorMark) (config : Config) (feed : ℕ) (moment : ℤ) (before : Served)
    (old desk : DeskView) (floor : F) (link : Option Told) → Serves old before → desk ≡ record old { session = given_up old.session }
    → StoppedTurn at mark config feed (record { answer = quiet; moment = moment }) before NoMemory desk floor floor link link
tick_cut at mark config feed moment before old desk floor link serves gave = record {
  taken = [];
  left = [];
  parts = refl;
  grew = λ symbol. grew_same feed (at floor symbol) (at floor symbol) refl;
  full = tt;
  desk_is = inl (record {
    member = ap (λ (d : DeskView). d.member) gave ∙ serves.desk_is.number;
    session = (refl, ap (λ (d : DeskView). d.session) gave ∙ ap given_up serves.desk_is.session);
    cursors = ap (λ (d : DeskView). d.cursors) gave ∙ serves.cursors_are;
  });
  size = 0;
  put = put_none link;
}
