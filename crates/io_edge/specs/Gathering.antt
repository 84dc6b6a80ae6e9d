-- What a sink that gathers holds.
use Rattle.std.specs.Prelude.{ℕ, List, Option}
use Rattle.std.specs.Io.KnownBytes.{append_known}
use Rattle.io_edge.specs.declared.gathering.GatheringSink.{GatheringSink}

-- the bytes that were put and wait to be written
abbrev pub bytes_waiting : {W : Type 0} → GatheringSink W → List ℕ
bytes_waiting sink = sink.gathered.items

-- the bytes that the writer has, where it tells them
abbrev pub bytes_written : {W : Type 0} → (W → Option (List ℕ)) → GatheringSink W → Option (List ℕ)
bytes_written contents sink = contents sink.stream.inner

-- those and, behind them, the bytes that wait
abbrev pub bytes_in_all : {W : Type 0} → (W → Option (List ℕ)) → GatheringSink W → Option (List ℕ)
bytes_in_all contents sink = append_known (bytes_written contents sink) (bytes_waiting sink)
