-- A market data session in the middle of its bytes.
use Rattle.std.specs.Prelude.{◌≡◌, ℕ, ℤ, List, [], ◌++◌, Option, Some, None}
use Rattle.venue_words.specs.declared.config.Config.{Config}
use Rattle.fix_frames.specs.Reading.{none_yet, reading_of}
use Rattle.session_core.specs.declared.message.Request.{Request}
use Rattle.session_core.specs.declared.state.EndCause.{EndCause}
use Rattle.session_core.specs.Machine.{Machine, Outcome, fresh, rests}
use Rattle.session_core.specs.State.{cause_of}
use Rattle.session_stream.specs.Hearing.{IsUnderway}
use Rattle.session_stream.specs.Work.{Work}
use Rattle.market_data.specs.Lines.{all_quotes, last_moment, feed_lines}
use Rattle.market_data.specs.Market.{market_of}

-- a feed that is written: the session, the bytes that are unread, and the moment that stands last
pub record Feeding : Type 0 where
  pub session : Machine
  pub unread : List ℕ
  pub last : Option ℤ

abbrev pub feeding_of : Machine → List ℕ → Option ℤ → Feeding
feeding_of session unread last = record { session = session; unread = unread; last = last }

-- before the first byte of a source
abbrev pub unfed : List ℕ → Feeding
unfed source = record { session = fresh source; unread = []; last = None }

-- no answer: what is sent reaches nobody
abbrev pub no_answer : Machine → Request → Outcome
no_answer session request = rests session

-- the work of a session over the bytes of a source, as far as its frames were taken, and what stands for it
pub record HasTaken (config : Config) (source bytes : List ℕ) (feeding : Feeding) : Type 0 where
  pub work : Work
  pub underway : IsUnderway no_answer config.begin (fresh source) bytes work feeding.unread
  pub session : feeding.session ≡ work.session
  pub last : feeding.last ≡ last_moment None (all_quotes config work.requests)

-- all frames of these bytes were taken, and the session has not ended
pub record StandsFor (config : Config) (source bytes : List ℕ) (feeding : Feeding) : Type 0 where
  pub taken : HasTaken config source bytes feeding
  pub none : reading_of feeding.unread ≡ none_yet
  pub unended : cause_of feeding.session.state.phase ≡ None

-- a piece came behind these bytes, of which no frame was taken yet
pub record IsFed (config : Config) (source bytes piece : List ℕ) (feeding : Feeding) : Type 0 where
  pub taken : HasTaken config source (bytes ++ piece) feeding
  pub lines : feed_lines config (all_quotes config taken.work.requests) ≡ (market_of config source bytes).lines
  pub unended : cause_of feeding.session.state.phase ≡ None

-- a piece behind these bytes: the lines that it adds, and why the session ended in it, where it did; then nothing that follows
-- changes anything
pub record Adds (config : Config) (source bytes piece added : List ℕ) (ended : Option EndCause) (new : Feeding) : Type 0 where
  pub lines : (market_of config source (bytes ++ piece)).lines ≡ (market_of config source bytes).lines ++ added
  pub cause : (market_of config source (bytes ++ piece)).cause ≡ ended
  pub stands : ended ≡ None → StandsFor config source (bytes ++ piece) new
  pub over : (end : EndCause) → ended ≡ Some end → (more : List ℕ)
      → market_of config source ((bytes ++ piece) ++ more) ≡ market_of config source (bytes ++ piece)
