-- What a snapshot says.
use Rattle.std.specs.Prelude.{◌≡◌, ℕ, ◌++◌, drop, List, Option, Some, None, Result, Ok, Err, unwrap_or, ⊤}
use Rattle.venue_words.specs.declared.config.Config.{Config}
use Rattle.fix_fields.specs.declared.field.Field.{Field}
use Rattle.session_core.specs.declared.checks.FailedCheck.{FailedCheck}
use Rattle.market_data.specs.declared.entries.EntryQuote.{EntryQuote}
use Rattle.market_data.specs.declared.snapshots.Snapshot.{Snapshot}
use Rattle.market_data.specs.declared.snapshots.SnapshotRefusal.{SnapshotRefusal}
use Rattle.market_data.specs.declared.snapshots.SnapshotRefusal.TheVariants.{Reject, NoMemory}
use Rattle.market_data.specs.Entries.{entries_of, used_quotes}
use Rattle.market_data.specs.Faults.{symbol_in, entries_fault, snapshot_fault}
use Rattle.market_data.specs.Quotes.{quotes_of}

-- a snapshot, or the first check that it fails
abbrev pub Meant : Type 0
Meant = Result Snapshot FailedCheck

-- what a snapshot without a fault says: its symbol, and the quotes of the markets that its used entries name
abbrev pub whole_snapshot : List Field → Config → Snapshot
whole_snapshot fields config =
    record {
      symbol = unwrap_or (symbol_in config.symbols fields) 0;
      quotes = quotes_of (used_quotes config.markets (entries_of fields));
    }

abbrev pub unless_fault : Option FailedCheck → Snapshot → Meant
unless_fault None snapshot = Ok snapshot
unless_fault (Some failed) snapshot = Err failed

-- what the fields of a message say as a snapshot
unfoldable pub snapshot_of : List Field → Config → Meant
snapshot_of fields config = unless_fault (snapshot_fault fields config) (whole_snapshot fields config)

-- a refusal is the one that is meant; memory may be wanted at any time
abbrev pub IsRefusal : Meant → SnapshotRefusal → Type 0
IsRefusal meant (Reject reason tag) = meant ≡ Err (record { reason = reason; tag = tag })
IsRefusal meant NoMemory = ⊤

-- a refusal is this fault, or memory was wanted
abbrev pub FailsFirst : Option FailedCheck → SnapshotRefusal → Type 0
FailsFirst fault (Reject reason tag) = fault ≡ Some (record { reason = reason; tag = tag })
FailsFirst fault NoMemory = ⊤

-- the entry that begins with the first of these fields, if one does, has no fault, and what it says was added
pub record PassesFirst (markets : List (List ℕ)) (fields : List Field) (old new : List EntryQuote) : Type 0 where
  pub fault : entries_fault markets (entries_of fields) ≡ entries_fault markets (entries_of (drop 1 fields))
  pub quotes : old ++ used_quotes markets (entries_of fields) ≡ new ++ used_quotes markets (entries_of (drop 1 fields))
