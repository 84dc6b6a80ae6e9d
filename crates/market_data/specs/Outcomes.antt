-- What the bytes of an input say of the status with which a run ends, and of what was put by then.
use Rattle.std.specs.Prelude.{◌≡◌, ◌⊎◌, ℕ, Bool, if◌then◌else◌, nat_lt, List, [], ◌++◌, length, take, Option, Some, None, MatchOption, ⊤}
use Rattle.std.specs.Io.KnownBytes.{Appends}
use Rattle.io_edge.specs.Grows.{AppendsPrefix}
use Rattle.venue_words.specs.declared.config.Config.{Config}
use Rattle.session_core.specs.declared.state.EndCause.{EndCause}
use Rattle.market_data.specs.declared.input.TheConstants.{MAX_INPUT_BYTES}
use Rattle.market_data.specs.declared.status.MarketStatus.{MarketStatus}
use Rattle.market_data.specs.declared.status.MarketStatus.TheVariants.{Done, BadWords, BadConfig, LimitConfig, LimitBytes, Ended, ReadFault, WriteFault, NoMemory}
use Rattle.market_data.specs.Market.{market_of}
use Rattle.market_data.specs.Statuses.{ended_by}

-- the bytes of an input up to the limit
abbrev pub within : List ℕ → List ℕ
within bytes = take MAX_INPUT_BYTES bytes

-- the lines of a feed of so many bytes
abbrev pub lines_of : Config → List ℕ → List ℕ → List ℕ
lines_of config source bytes = (market_of config source (within bytes)).lines

-- the status by why the session ended up to the limit, and whether there are more bytes
abbrev pub status_by : Option EndCause → Bool → MarketStatus
status_by (Some cause) more = ended_by cause
status_by None more = if more then LimitBytes else Done

-- the status to which the bytes of an input lead
abbrev pub status_of : Config → List ℕ → List ℕ → MarketStatus
status_of config source bytes =
    status_by (market_of config source (within bytes)).cause (nat_lt MAX_INPUT_BYTES (length bytes))

-- the input was read as far as it counts: the whole feed was put, and the status is the one that the bytes lead to
pub record Whole (config : Config) (source bytes : List ℕ) (old new : Option (List ℕ)) (status : MarketStatus) : Type 0 where
  pub grew : Appends old new (lines_of config source bytes)
  pub status_is : status ≡ status_of config source bytes

-- these bytes of the input were given, and the rest is still there
pub record Gave (bytes given : List ℕ) (left : Option (List ℕ)) : Type 0 where
  pub rest : List ℕ
  pub whole : bytes ≡ given ++ rest
  pub place : MatchOption left (given ≡ []) (λ l. l ≡ rest)

-- the lines of the bytes that were given were put
pub record GaveUp (config : Config) (source bytes : List ℕ) (old new left : Option (List ℕ)) : Type 0 where
  pub given : List ℕ
  pub gave : Gave bytes given left
  pub grew : Appends old new (lines_of config source given)

-- a beginning of the lines of the bytes that were given was put
pub record Stopped (config : Config) (source bytes : List ℕ) (old new left : Option (List ℕ)) : Type 0 where
  pub given : List ℕ
  pub gave : Gave bytes given left
  pub grew : AppendsPrefix old new (lines_of config source given)

-- what an input says of the status, and of what was told and is left on the shelf
abbrev pub Ran : Config → List ℕ → List ℕ → Option (List ℕ) → Option (List ℕ) → Option (List ℕ) → MarketStatus → Type 0
Ran config source bytes old new left Done = Whole config source bytes old new Done
Ran config source bytes old new left (Ended cause) = Whole config source bytes old new (Ended cause)
Ran config source bytes old new left LimitBytes = Whole config source bytes old new LimitBytes
Ran config source bytes old new left ReadFault = GaveUp config source bytes old new left
Ran config source bytes old new left WriteFault = Stopped config source bytes old new left
Ran config source bytes old new left NoMemory = Stopped config source bytes old new left
Ran config source bytes old new left _ = ⊥

-- the statuses of an input that was begun
abbrev pub IsRunning : MarketStatus → Type 0
IsRunning BadWords = ⊥
IsRunning (BadConfig line cause) = ⊥
IsRunning (LimitConfig line which) = ⊥
IsRunning _ = ⊤

-- those of a piece that was not worked to its end
abbrev pub IsStop : MarketStatus → Type 0
IsStop status = (status ≡ WriteFault) ⊎ (status ≡ NoMemory)

-- a piece behind these bytes was not worked to its end, or its lines were not put: a beginning of them was
pub record StopsIn (config : Config) (source bytes piece : List ℕ) (old new : Option (List ℕ)) : Type 0 where
  pub added : List ℕ
  pub lines : (market_of config source (bytes ++ piece)).lines ≡ (market_of config source bytes).lines ++ added
  pub grew : AppendsPrefix old new added
