-- How a market data session goes on, frame by frame and piece by piece.
use Rattle.std.proofs.Common.{◌≡◌, ℕ, ℤ, true, List, [], ◌++◌, Option, Some, None, Result, Ok, Err, refl, sym, ◌∙◌, ap, subst, rules, append_assoc, append-nil}
use Rattle.std.specs.Option.{option_to_list}
use Rattle.std.specs.Prelude.{IsSome, IfOk}
use Rattle.venue_words.specs.declared.config.Config.{Config}
use Rattle.fix_frames.specs.Reading.{none_yet, reading_of}
use Rattle.fix_frames.specs.Streams.{Stream, HasGiven, HasWaited, HasExceeded}
use Rattle.fix_write.specs.declared.message_type.MessageType.{MessageType}
use Rattle.fix_write.specs.declared.message_type.MessageType.TheVariants.{MarketDataSnapshot}
use Rattle.session_core.specs.declared.message.Request.{Request}
use Rattle.session_core.specs.declared.state.EndCause.{EndCause}
use Rattle.session_core.specs.declared.state.Phase.{Phase}
use Rattle.session_core.specs.declared.state.Phase.TheVariants.{New, Up, Ended}
use Rattle.session_core.specs.declared.state.State.{State}
use Rattle.session_core.specs.declared.turn.Turn.{Turn}
use Rattle.session_core.specs.Alike.{AreAlike}
use Rattle.session_core.specs.AlikeLaws.{alike-self, sends-alike, rejects-alike}
use Rattle.session_core.specs.Machine.{Machine, IsOver, fresh, on_frame, on_overlong}
use Rattle.session_core.specs.State.{cause_of, is_over}
use Rattle.session_stream.specs.AnsweringLaws.{takes_frame, waits, exceeds}
use Rattle.session_stream.specs.Hearing.{IsUnderway, TakesFrame, Exceeds, Waits}
use Rattle.session_stream.specs.Laws.{OnlySends, HandOutAlike}
use Rattle.session_stream.specs.Work.{Work, then_work, work_of_reading}
use Rattle.session_stream.specs.WorkLaws.{work_of_turn, underway_fed, underway_more, underway_none, underway_reads, underway_waits, underway_whole, underway_settled, underway_over, underway_over_more, underway_long, underway_long_more, frame_cause, overlong_cause, reading_work-alike}
use Rattle.market_data.specs.Feeding.{Feeding, feeding_of, unfed, no_answer, HasTaken, IsFed, StandsFor, Adds}
use Rattle.market_data.specs.Lines.{handed_quotes, all_quotes, lines_from, last_moment, feed_lines}
use Rattle.market_data.specs.Market.{Market, answer_snapshot, answer_by_type, market_answer, market_by, market_of}
use Rattle.market_data.specs.Snapshots.{Meant}
use Rattle.market_data.proofs.LineSteps.{lines_more, last_more, lines_all}

-- ---- what the session would answer changes nothing

alike-snapshot : (moment : ℤ) (session : Machine) (request : Request) (meant : Meant) → AreAlike (answer_snapshot moment session request meant).machine session
alike-snapshot moment session request (Ok snapshot) = alike-self session
alike-snapshot moment session request (Err failed) =
    rejects-alike session session request.number request.kind failed.tag failed.reason moment (alike-self session)

alike-type : (kind : MessageType) (config : Config) (session : Machine) (request : Request) →
    AreAlike (answer_by_type kind config session request).machine session
alike-type MarketDataSnapshot config session request = alike-snapshot config.begin session request _
alike-type _ config session request = sends-alike session session _ config.begin (alike-self session)

market_only_sends : (config : Config) → OnlySends (market_answer config)
unfolding market_answer
market_only_sends config session request = alike-type request.kind config session request

no_answer_only_sends : OnlySends no_answer
no_answer_only_sends session request = alike-self session

same_market : (config : Config) (a b : Work) → HandOutAlike a b → market_by config a ≡ market_by config b
same_market config a b h =
    let cause : cause_of a.session.state.phase ≡ cause_of b.session.state.phase = ap (λ (s : State). cause_of s.phase) h.sessions.state in
    λ k. record { lines = feed_lines config (all_quotes config (h.requests k)); cause = cause k }

-- the work of a session that answers nothing
abbrev pub silent_work : Config → List ℕ → List ℕ → Work
silent_work config source bytes = work_of_reading no_answer config.begin (fresh source) (reading_of bytes)

pub market_is_silent : (config : Config) (source bytes : List ℕ) → market_of config source bytes ≡ market_by config (silent_work config source bytes)
unfolding market_of
market_is_silent config source bytes =
    same_market config _ _
    (reading_work-alike (market_answer config) no_answer config.begin (market_only_sends config) no_answer_only_sends (fresh source) (fresh source) (reading_of bytes) (alike-self (fresh source)))

reads_none : reading_of [] ≡ none_yet
unfolding reading_of
reads_none = refl

works_none : (config : Config) (source : List ℕ) → silent_work config source [] ≡ record { session = fresh source; replies = []; requests = [] }
unfolding work_of_reading
works_none config source = ap (work_of_reading no_answer config.begin (fresh source)) reads_none

module _ (config : Config) (source : List ℕ) where
  abbrev pub lines_by : List Request → List ℕ
  lines_by requests = feed_lines config (all_quotes config requests)

  lines_at : (bytes : List ℕ) (work : Work) → silent_work config source bytes ≡ work → (market_of config source bytes).lines ≡ lines_by work.requests
  lines_at bytes work e =
      ap (λ (m : Market). m.lines) (market_is_silent config source bytes) ∙ ap (λ (w : Work). lines_by w.requests) e

  cause_at : (bytes : List ℕ) (work : Work) → silent_work config source bytes ≡ work → (market_of config source bytes).cause ≡ cause_of work.session.state.phase
  cause_at bytes work e =
      ap (λ (m : Market). m.cause) (market_is_silent config source bytes) ∙ ap (λ (w : Work). cause_of w.session.state.phase) e

  settled : (bytes : List ℕ) (feeding : Feeding) (s : StandsFor config source bytes feeding) → silent_work config source bytes ≡ s.taken.work
  settled bytes feeding s = underway_settled no_answer config.begin (fresh source) bytes s.taken.work feeding.unread s.taken.underway s.none

  -- before the first byte
  pub stands_unfed : StandsFor config source [] (unfed source)
  stands_unfed = record {
    taken = record {
      work = record { session = fresh source; replies = []; requests = [] };
      underway = underway_none no_answer config.begin (fresh source) [];
      session = refl;
      last = refl;
    };
    none = reads_none;
    unended = refl;
  }

  pub lines_none : (market_of config source []).lines ≡ []
  lines_none = lines_at [] (record { session = fresh source; replies = []; requests = [] }) (works_none config source)

  -- the session has not ended
  pub stands_cause : (bytes : List ℕ) (feeding : Feeding) → StandsFor config source bytes feeding → (market_of config source bytes).cause ≡ None
  stands_cause bytes feeding s =
      cause_at bytes s.taken.work (settled bytes feeding s) ∙ ap (λ (m : Machine). cause_of m.state.phase) (sym s.taken.session) ∙ s.unended

  -- whatever follows, it only adds lines
  pub stands_more : (bytes more : List ℕ) (feeding : Feeding) → StandsFor config source bytes feeding
      → (added : List ℕ) × ((market_of config source (bytes ++ more)).lines ≡ (market_of config source bytes).lines ++ added)
  stands_more bytes more feeding s =
      let work = s.taken.work in
      let next = work_of_reading no_answer config.begin work.session (reading_of (feeding.unread ++ more)) in (
        lines_from config (last_moment None (all_quotes config work.requests)) (all_quotes config next.requests),
        lines_at (bytes ++ more) (then_work work next) (underway_reads no_answer config.begin (fresh source) bytes more work feeding.unread s.taken.underway)
            ∙ lines_all config work.requests next.requests
            ∙ ap (λ (r : List ℕ). r ++ lines_from config (last_moment None (all_quotes config work.requests)) (all_quotes config next.requests)) (sym (lines_at bytes work (settled bytes feeding s))),
      )

  -- in the middle of a piece behind some bytes: the lines of the frames that were taken stand in the text
  pub record Going (bytes piece old_text text : List ℕ) (feeding : Feeding) : Type 0 where
    pub taken : HasTaken config source (bytes ++ piece) feeding
    pub added : List ℕ
    pub text_is : text ≡ old_text ++ added
    pub lines : lines_by taken.work.requests ≡ (market_of config source bytes).lines ++ added

  pub stands_fed : (bytes piece : List ℕ) (before next : Feeding) → StandsFor config source bytes before
      → next.session ≡ before.session → next.unread ≡ before.unread ++ piece → next.last ≡ before.last
      → IsFed config source bytes piece next
  stands_fed bytes piece before next s session unread last = record {
    taken = record {
      work = s.taken.work;
      underway =
          subst (λ (u : List ℕ). IsUnderway no_answer config.begin (fresh source) (bytes ++ piece) s.taken.work u) (sym unread)
          (underway_fed no_answer config.begin (fresh source) bytes piece s.taken.work before.unread s.taken.underway);
      session = session ∙ s.taken.session;
      last = last ∙ s.taken.last;
    };
    lines = sym (lines_at bytes s.taken.work (settled bytes before s));
    unended = ap (λ (m : Machine). cause_of m.state.phase) session ∙ s.unended;
  }

  pub going_none : (bytes piece text : List ℕ) (feeding : Feeding) → IsFed config source bytes piece feeding
      → Going bytes piece text text feeding
  going_none bytes piece text feeding fed = record {
    taken = fed.taken;
    added = [];
    text_is = sym (append-nil text);
    lines = fed.lines ∙ sym (append-nil _);
  }

  -- the turn of a frame, with no answer
  turned_requests : (session : Machine) (replies : List (List ℕ)) (ended : Option EndCause) (request : Option Request)
      → (work_of_turn no_answer config.begin session (record { replies = replies; request = request; ended = ended })).requests ≡ option_to_list request
  turned_requests session replies ended None = refl
  turned_requests session replies ended (Some request) = refl

  turned_session : (session : Machine) (replies : List (List ℕ)) (ended : Option EndCause) (request : Option Request)
      → (work_of_turn no_answer config.begin session (record { replies = replies; request = request; ended = ended })).session ≡ session
  turned_session session replies ended None = refl
  turned_session session replies ended (Some request) = refl

  -- one more frame
  pub going_more : (bytes piece old_text text more : List ℕ) (feeding next : Feeding) (turn : Turn) → Going bytes piece old_text text feeding
      → TakesFrame config.begin feeding.session feeding.unread turn next.session next.unread
      → more ≡ text ++ lines_from config feeding.last (handed_quotes config turn.request)
      → next.last ≡ last_moment feeding.last (handed_quotes config turn.request)
      → Going bytes piece old_text more next
  going_more bytes piece old_text text more feeding next turn g takes text_more last_is =
      let work = g.taken.work in
      let one = work_of_turn no_answer config.begin next.session turn in
      let requests : (then_work work one).requests ≡ work.requests ++ option_to_list turn.request =
      ap (λ (r : List Request). work.requests ++ r) (turned_requests next.session turn.replies turn.ended turn.request) in
      let new_lines = lines_from config feeding.last (handed_quotes config turn.request) in record {
        taken = record {
          work = then_work work one;
          underway = underway_more no_answer config.begin (fresh source) (bytes ++ piece) work feeding.session next.session feeding.unread next.unread turn g.taken.underway (sym g.taken.session) takes;
          session = sym (turned_session next.session turn.replies turn.ended turn.request);
          last =
              last_is ∙ ap (λ (l : Option ℤ). last_moment l (handed_quotes config turn.request)) g.taken.last
              ∙ sym (last_more config work.requests turn.request) ∙ ap (λ (r : List Request). last_moment None (all_quotes config r)) (sym requests);
        };
        added = g.added ++ new_lines;
        text_is = text_more ∙ ap (λ (t : List ℕ). t ++ new_lines) g.text_is ∙ append_assoc old_text g.added new_lines;
        lines =
            ap (λ (r : List Request). lines_by r) requests ∙ lines_more config work.requests turn.request
            ∙ ap (λ (l : Option ℤ). lines_by work.requests ++ lines_from config l (handed_quotes config turn.request)) (sym g.taken.last)
            ∙ ap (λ (t : List ℕ). t ++ new_lines) g.lines ∙ append_assoc (market_of config source bytes).lines g.added new_lines;
      }

  over_by : (phase : Phase) (cause : EndCause) → cause_of phase ≡ Some cause → is_over phase ≡ true
  over_by New cause e = cc
  over_by Up cause e = cc
  over_by (Ended other) cause e = refl

  -- the session ended with the last frame
  pub adds_ended : (bytes piece old_text text : List ℕ) (feeding last : Feeding) (cause : EndCause) (g : Going bytes piece old_text text feeding) → cause_of feeding.session.state.phase ≡ Some cause
      → Adds config source bytes piece g.added (Some cause) last
  adds_ended bytes piece old_text text feeding last cause g ended =
      let work = g.taken.work in
      let at : cause_of work.session.state.phase ≡ Some cause = ap (λ (m : Machine). cause_of m.state.phase) (sym g.taken.session) ∙ ended in
      let over : IsOver work.session = over_by work.session.state.phase cause at in
      let whole : silent_work config source (bytes ++ piece) ≡ work = underway_over no_answer config.begin (fresh source) (bytes ++ piece) work feeding.unread g.taken.underway over in record {
        lines = lines_at (bytes ++ piece) work whole ∙ g.lines;
        cause = cause_at (bytes ++ piece) work whole ∙ at;
        stands = λ e. absurd (cc);
        over = λ other e more.
            market_is_silent config source ((bytes ++ piece) ++ more)
            ∙ ap (market_by config) (underway_over_more no_answer config.begin (fresh source) (bytes ++ piece) more work feeding.unread g.taken.underway over ∙ sym whole)
            ∙ sym (market_is_silent config source (bytes ++ piece));
      }

  -- the next frame is too long
  pub adds_long : (bytes piece old_text text : List ℕ) (feeding last : Feeding) (new : Machine) (turn : Turn) (cause : EndCause) (g : Going bytes piece old_text text feeding)
      → Exceeds config.begin feeding.session feeding.unread turn new → turn.ended ≡ Some cause
      → Adds config source bytes piece g.added (Some cause) last
  adds_long bytes piece old_text text feeding last new turn cause g x ended =
      let work = g.taken.work in
      let end : Work = record { session = new; replies = turn.replies; requests = [] } in
      let whole : silent_work config source (bytes ++ piece) ≡ then_work work end =
      underway_long no_answer config.begin (fresh source) (bytes ++ piece) work feeding.session new feeding.unread turn g.taken.underway (sym g.taken.session) x in
      let at : cause_of new.state.phase ≡ Some cause =
      ap (λ (m : Machine). cause_of m.state.phase) x.machine ∙ sym (overlong_cause config.begin feeding.session) ∙ ap (λ (t : Turn). t.ended) (sym x.turn_is) ∙ ended in record {
        lines = lines_at (bytes ++ piece) (then_work work end) whole ∙ ap (λ (r : List Request). lines_by r) (append-nil work.requests) ∙ g.lines;
        cause = cause_at (bytes ++ piece) (then_work work end) whole ∙ at;
        stands = λ e. absurd (cc);
        over = λ other e more.
            market_is_silent config source ((bytes ++ piece) ++ more)
            ∙ ap (market_by config) (underway_long_more no_answer config.begin (fresh source) (bytes ++ piece) more work feeding.session new feeding.unread turn g.taken.underway (sym g.taken.session) x)
            ∙ sym (market_is_silent config source (bytes ++ piece));
      }

  some_none : IsSome {T = EndCause} None → ⊥
  some_none h = search rules

  pub adds_long_any : (bytes piece old_text text : List ℕ) (feeding last : Feeding) (new : Machine) (turn : Turn) (ended : Option EndCause) (g : Going bytes piece old_text text feeding)
      → Exceeds config.begin feeding.session feeding.unread turn new → IsSome ended → turn.ended ≡ ended
      → Adds config source bytes piece g.added ended last
  adds_long_any bytes piece old_text text feeding last new turn None g x some e = absurd (some_none some)
  adds_long_any bytes piece old_text text feeding last new turn (Some cause) g x some e = adds_long bytes piece old_text text feeding last new turn cause g x e

  -- there is no further frame yet
  pub adds_whole : (bytes piece old_text text : List ℕ) (feeding last : Feeding) (g : Going bytes piece old_text text feeding) → cause_of feeding.session.state.phase ≡ None
      → Waits feeding.session feeding.unread last.session last.unread → last.last ≡ feeding.last
      → Adds config source bytes piece g.added None last
  adds_whole bytes piece old_text text feeding last g unended w same =
      let work = g.taken.work in
      let whole : silent_work config source (bytes ++ piece) ≡ work =
      underway_whole no_answer config.begin (fresh source) (bytes ++ piece) work feeding.session last.session feeding.unread last.unread g.taken.underway w in
      let at : cause_of work.session.state.phase ≡ None = ap (λ (m : Machine). cause_of m.state.phase) (sym g.taken.session) ∙ unended in record {
        lines = lines_at (bytes ++ piece) work whole ∙ g.lines;
        cause = cause_at (bytes ++ piece) work whole ∙ at;
        stands = λ _. record {
          taken = record {
            work = work;
            underway = underway_waits no_answer config.begin (fresh source) (bytes ++ piece) work feeding.session last.session feeding.unread last.unread g.taken.underway w;
            session = w.machine ∙ g.taken.session;
            last = same ∙ g.taken.last;
          };
          none = w.none;
          unended = ap (λ (m : Machine). cause_of m.state.phase) w.machine ∙ unended;
        };
        over = λ other e more. absurd (cc);
      }

  -- ---- by what the framer answers

  -- a frame was given, and worked
  pub going_frame : (bytes piece old_text text more : List ℕ) (old new : Machine) (stream rest : Stream) (last later : Option ℤ) (frame : List ℕ)
      → Going bytes piece old_text text (feeding_of old stream.kept last) → HasGiven stream rest frame
      → new ≡ (on_frame old frame config.begin).machine
      → more ≡ text ++ lines_from config last (handed_quotes config (on_frame old frame config.begin).turn.request)
      → later ≡ last_moment last (handed_quotes config (on_frame old frame config.begin).turn.request)
      → Going bytes piece old_text more (feeding_of new rest.kept later)
  going_frame bytes piece old_text text more old new stream rest last later frame g given machine text_more last_is =
      let turn = (on_frame old frame config.begin).turn in
      going_more bytes piece old_text text more (feeding_of old stream.kept last) (feeding_of new rest.kept later) turn g
      (takes_frame config.begin config.begin old new stream rest frame turn refl given machine refl) text_more last_is

  -- what its turn says of the end is what the session says
  pub frame_end : (old new : Machine) (frame : List ℕ) (ended : Option EndCause) → new ≡ (on_frame old frame config.begin).machine
      → ended ≡ (on_frame old frame config.begin).turn.ended → cause_of new.state.phase ≡ ended
  frame_end old new frame ended machine e =
      ap (λ (m : Machine). cause_of m.state.phase) machine ∙ sym (frame_cause config.begin old frame) ∙ sym e

  -- there is no further frame yet
  pub adds_waited : (bytes piece old_text text : List ℕ) (session : Machine) (stream rest : Stream) (last : Option ℤ)
      (g : Going bytes piece old_text text (feeding_of session stream.kept last)) → cause_of session.state.phase ≡ None
      → HasWaited stream rest → Adds config source bytes piece g.added None (feeding_of session rest.kept last)
  adds_waited bytes piece old_text text session stream rest last g unended waited =
      adds_whole bytes piece old_text text (feeding_of session stream.kept last) (feeding_of session rest.kept last) g unended
      (waits session stream rest waited) refl

  -- the next frame is too long
  pub adds_exceeded : (bytes piece old_text text : List ℕ) (old new : Machine) (stream rest : Stream) (last : Option ℤ) (ended : Option EndCause)
      (g : Going bytes piece old_text text (feeding_of old stream.kept last)) → HasExceeded stream rest
      → new ≡ (on_overlong old config.begin).machine → IsSome ended → (on_overlong old config.begin).turn.ended ≡ ended
      → Adds config source bytes piece g.added ended (feeding_of new rest.kept last)
  adds_exceeded bytes piece old_text text old new stream rest last ended g exceeded machine some e =
      let turn = (on_overlong old config.begin).turn in
      adds_long_any bytes piece old_text text (feeding_of old stream.kept last) (feeding_of new rest.kept last) new turn ended g
      (exceeds config.begin config.begin old new stream rest turn refl exceeded machine refl) some e

pub map_if_ok : {T E : Type 0} {P Q : T → Type 0} (r : Result T E) → ((x : T) → P x → Q x) → IfOk r P → IfOk r Q
map_if_ok (Ok x) f h = f x h
map_if_ok (Err e) f h = tt
