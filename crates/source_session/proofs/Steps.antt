-- How a connection to a source goes on, frame by frame and piece by piece.
use Rattle.std.proofs.Common.{◌≡◌, ◌+◌, ◌<◌, ℕ, suc, true, List, [], ◌∷◌, ◌++◌, Result, Ok, Err, OnOk, sym, ◌∙◌, ap, subst, append_assoc, append-nil, length, get_or, drop, drop-cons, add-one}
use Rattle.venue_words.specs.declared.command.Command.{Command}
use Rattle.venue_words.specs.declared.config.Config.{Config}
use Rattle.fix_frames.specs.declared.reading.Reading.{Reading}
use Rattle.fix_frames.specs.Reading.{none_yet, with_frames, reading_of}
use Rattle.fix_frames.specs.ReadingLaws.{reading-given, reading-waited, reading-none, reading-exceeded}
use Rattle.fix_frames.specs.Streams.{Stream, HasGiven, HasWaited, HasExceeded}
use Rattle.session_stream.specs.Hearing.{Reads}
use Rattle.quote_flow.specs.declared.quote.MarketQuote.{MarketQuote}
use Rattle.source_session.specs.declared.names.Names.{Names}
use Rattle.source_session.specs.declared.state.SourceState.{SourceState}
use Rattle.source_session.specs.Messages.{first, is_over}
use Rattle.source_session.specs.Quotes.{Heard, quote_by, quotes_by, hears_frame, heard_all, quotes_said}
use Rattle.source_session.specs.Hearing.{Hearing, hearing_of, StandsFor, IsFed, Adds}

-- ---- quotes of a snapshot

-- one more quote of a snapshot
pub quote_more : (symbol : ℕ) (whole quotes next : List MarketQuote) (commands : List Command) (i : ℕ) (command : Command)
    → i < length commands → command ≡ get_or commands i command
    → whole ≡ quotes ++ quotes_by symbol (drop i commands)
    → next ≡ quotes ++ quote_by symbol command
    → whole ≡ next ++ quotes_by symbol (drop (i + 1) commands)
quote_more symbol whole quotes next commands i command within is so more =
    let cut : drop i commands ≡ command ∷ drop (i + 1) commands =
    rw add-one (drop-cons commands i command within ∙ ap (λ (c : Command). c ∷ drop (suc i) commands) (sym is)) in
    so ∙ ap (λ (cs : List Command). quotes ++ quotes_by symbol cs) cut
    ∙ sym (append_assoc quotes (quote_by symbol command) (quotes_by symbol (drop (i + 1) commands)))
    ∙ ap (λ (q : List MarketQuote). q ++ quotes_by symbol (drop (i + 1) commands)) (sym more)

-- ---- streams

-- frames, and then others
with_more : (first second : List (List ℕ)) (reading : Reading) → with_frames first (with_frames second reading) ≡ with_frames (first ++ second) reading
with_more first second reading = ap (λ (f : List (List ℕ)). record { frames = f; too_long = reading.too_long }) (sym (append_assoc first second reading.frames))

-- a piece more is unread
reads_fed : (bytes piece : List ℕ) (frames : List (List ℕ)) (unread : List ℕ) → Reads bytes frames unread → Reads (bytes ++ piece) frames (unread ++ piece)
reads_fed bytes piece frames unread reads more =
    ap reading_of (append_assoc bytes piece more) ∙ reads (piece ++ more)
    ∙ ap (λ (r : List ℕ). with_frames frames (reading_of r)) (sym (append_assoc unread piece more))

reads_given : (bytes : List ℕ) (frames : List (List ℕ)) (frame : List ℕ) (old new : Stream) → Reads bytes frames old.kept → HasGiven old new frame
    → Reads bytes (frames ++ frame ∷ []) new.kept
reads_given bytes frames frame old new reads given more =
    reads more ∙ ap (with_frames frames) (reading-given old new frame more given)
    ∙ with_more frames (frame ∷ []) (reading_of (new.kept ++ more))

reads_waited : (bytes : List ℕ) (frames : List (List ℕ)) (old new : Stream) → Reads bytes frames old.kept → HasWaited old new → Reads bytes frames new.kept
reads_waited bytes frames old new reads waited more = reads more ∙ ap (with_frames frames) (reading-waited old new more waited)

none_waited : (old new : Stream) → HasWaited old new → reading_of new.kept ≡ none_yet
none_waited old new waited =
    let same : reading_of old.kept ≡ reading_of new.kept =
    ap reading_of (sym (append-nil old.kept)) ∙ reading-waited old new [] waited ∙ ap reading_of (append-nil new.kept) in
    sym same ∙ reading-none old new waited

-- the frames of bytes of which the unread ones have none
frames_of_whole : (bytes : List ℕ) (frames : List (List ℕ)) (unread : List ℕ) → Reads bytes frames unread → reading_of unread ≡ none_yet → (reading_of bytes).frames ≡ frames
frames_of_whole bytes frames unread reads none =
    ap (λ (r : Reading). r.frames)
    (ap reading_of (sym (append-nil bytes)) ∙ reads [] ∙ ap (λ (r : List ℕ). with_frames frames (reading_of r)) (append-nil unread) ∙ ap (with_frames frames) none)
    ∙ append-nil frames

frames_of_long : (bytes : List ℕ) (frames : List (List ℕ)) (old new : Stream) → Reads bytes frames old.kept → HasExceeded old new → (reading_of bytes).frames ≡ frames
frames_of_long bytes frames old new reads exceeded =
    ap (λ (r : Reading). r.frames)
    (ap reading_of (sym (append-nil bytes)) ∙ reads [] ∙ ap (with_frames frames) (reading-exceeded old new [] exceeded))
    ∙ append-nil frames

module _ (config : Config) (names : Names) where
  abbrev quotes_by_frames : List (List ℕ) → List MarketQuote
  quotes_by_frames frames = (heard_all config names first frames).quotes

  abbrev heard_of : SourceState → List MarketQuote → Heard
  heard_of state quotes = record { state = state; quotes = quotes }

  -- one more frame
  heard_more : (state : SourceState) (frames : List (List ℕ)) (frame : List ℕ) →
      let before = heard_all config names state frames in
      let one = hears_frame config names before.state frame in
      heard_all config names state (frames ++ frame ∷ []) ≡ heard_of one.state (before.quotes ++ one.quotes)
  heard_more state [] frame =
      let one = hears_frame config names state frame in
      ap (heard_of one.state) (append-nil one.quotes)
  heard_more state (other ∷ frames) frame =
      let begin = hears_frame config names state other in
      let before = heard_all config names begin.state frames in
      let one = hears_frame config names before.state frame in
      ap (λ (h : Heard). heard_of h.state (begin.quotes ++ h.quotes)) (heard_more begin.state frames frame)
      ∙ ap (heard_of one.state) (sym (append_assoc begin.quotes before.quotes one.quotes))

  said_at : (bytes : List ℕ) (frames : List (List ℕ)) → (reading_of bytes).frames ≡ frames → quotes_said config names bytes ≡ quotes_by_frames frames
  unfolding quotes_said
  said_at bytes frames e = ap quotes_by_frames e

  -- in the middle of a piece after some bytes: the quotes of the frames that were taken stand in the list
  pub record Going (bytes piece : List ℕ) (old_quotes quotes : List MarketQuote) (state : SourceState) (unread : List ℕ) : Type 0 where
    pub frames : List (List ℕ)
    pub reads : Reads (bytes ++ piece) frames unread
    pub state_is : state ≡ (heard_all config names first frames).state
    pub added : List MarketQuote
    pub list : quotes ≡ old_quotes ++ added
    pub said : quotes_by_frames frames ≡ quotes_said config names bytes ++ added

  pub fed : (bytes piece : List ℕ) (before : Hearing) (state : SourceState) (unread : List ℕ) → names ≡ before.names → StandsFor config bytes before
      → state ≡ before.state → unread ≡ before.unread ++ piece → IsFed config bytes piece (hearing_of names state unread)
  fed bytes piece before state unread same s state_is unread_is =
      let taken = s.taken in
      record {
        taken = record {
          frames = taken.frames;
          reads = subst (λ (u : List ℕ). Reads (bytes ++ piece) taken.frames u) (sym unread_is) (reads_fed bytes piece taken.frames before.unread taken.reads);
          state = state_is ∙ taken.state ∙ ap (λ (n : Names). (heard_all config n first taken.frames).state) (sym same);
        };
        quotes = sym (said_at bytes taken.frames (frames_of_whole bytes taken.frames before.unread taken.reads s.none));
      }

  pub going_none : (bytes piece : List ℕ) (quotes : List MarketQuote) (state : SourceState) (unread : List ℕ)
      → IsFed config bytes piece (hearing_of names state unread) → Going bytes piece quotes quotes state unread
  going_none bytes piece quotes state unread h = record {
    frames = h.taken.frames;
    reads = h.taken.reads;
    state_is = h.taken.state;
    added = [];
    list = sym (append-nil quotes);
    said = h.quotes ∙ sym (append-nil _);
  }

  pub going_frame : (bytes piece : List ℕ) (old_quotes quotes more : List MarketQuote) (state next : SourceState) (old new : Stream) (frame : List ℕ)
      → Going bytes piece old_quotes quotes state old.kept → HasGiven old new frame
      → next ≡ (hears_frame config names state frame).state
      → more ≡ quotes ++ (hears_frame config names state frame).quotes
      → Going bytes piece old_quotes more next new.kept
  going_frame bytes piece old_quotes quotes more state next old new frame g given next_is more_is =
      let one = hears_frame config names state frame in
      let before = heard_all config names first g.frames in
      let same : one ≡ hears_frame config names before.state frame = ap (λ (s : SourceState). hears_frame config names s frame) g.state_is in
      let all = heard_more first g.frames frame in record {
        frames = g.frames ++ frame ∷ [];
        reads = reads_given (bytes ++ piece) g.frames frame old new g.reads given;
        state_is = next_is ∙ ap (λ (h : Heard). h.state) same ∙ sym (ap (λ (h : Heard). h.state) all);
        added = g.added ++ one.quotes;
        list = more_is ∙ ap (λ (q : List MarketQuote). q ++ one.quotes) g.list ∙ append_assoc old_quotes g.added one.quotes;
        said =
            ap (λ (h : Heard). h.quotes) all ∙ ap (λ (h : Heard). before.quotes ++ h.quotes) (sym same)
            ∙ ap (λ (q : List MarketQuote). q ++ one.quotes) g.said ∙ append_assoc (quotes_said config names bytes) g.added one.quotes;
      }

  pub adds_waited : (bytes piece : List ℕ) (old_quotes quotes : List MarketQuote) (state : SourceState) (old new : Stream)
      (g : Going bytes piece old_quotes quotes state old.kept) → HasWaited old new
      → Adds config bytes piece g.added (hearing_of names state new.kept)
  adds_waited bytes piece old_quotes quotes state old new g waited =
      let reads = reads_waited (bytes ++ piece) g.frames old new g.reads waited in
      let none = none_waited old new waited in record {
        quotes = said_at (bytes ++ piece) g.frames (frames_of_whole (bytes ++ piece) g.frames new.kept reads none) ∙ g.said;
        stands = λ _. record { taken = record { frames = g.frames; reads = reads; state = g.state_is }; none = none };
      }

  pub adds_exceeded : (bytes piece : List ℕ) (old_quotes quotes : List MarketQuote) (state next : SourceState) (old new : Stream)
      (g : Going bytes piece old_quotes quotes state old.kept) → HasExceeded old new → is_over next.phase ≡ true
      → Adds config bytes piece g.added (hearing_of names next new.kept)
  adds_exceeded bytes piece old_quotes quotes state next old new g exceeded over = record {
    quotes = said_at (bytes ++ piece) g.frames (frames_of_long (bytes ++ piece) g.frames old new g.reads exceeded) ∙ g.said;
    stands = λ still. absurd (cc);
  }

pub map_on_ok : {T E : Type 0} {P Q : Type 0} (r : Result T E) → (P → Q) → OnOk r P → OnOk r Q
map_on_ok (Ok x) f h = f h
map_on_ok (Err e) f h = tt
