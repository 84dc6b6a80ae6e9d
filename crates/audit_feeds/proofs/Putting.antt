-- What was put is what is told.
use Rattle.std.proofs.Common.{◌≡◌, ℕ, List, [], ◌++◌, Option, Some, None, ◌∙◌, ap}
use Rattle.std.specs.Io.KnownBytes.{Appends}
use Rattle.io_edge.specs.Files.{Files}
use Rattle.feed_work.specs.Feeds.{Asked}
use Rattle.audit_core.specs.Telling.{Output}
use Rattle.audit_tables.specs.Tables.{PutsDay}
use Rattle.audit_feeds.specs.Days.{TellsDepartures}
use Rattle.audit_feeds.specs.FeedsText.{departures_telling}

put_is : (old new : Option (List ℕ)) (told departures : List ℕ) → old ≡ Some [] → new ≡ Some departures → Appends old new told → departures ≡ told
put_is None new told departures is out puts = absurd (cc)
put_is (Some xs) None told departures is out puts = absurd (cc)
put_is (Some xs) (Some ys) told departures is out puts =
    let none : xs ≡ [] = cc in
    let same : departures ≡ ys = cc in
    same ∙ puts ∙ ap (λ (l : List ℕ). l ++ told) none

pub tells : (feeds : List (List Asked)) (files : Files) (config listing departures : List ℕ) (old new : Output) → old ≡ record { told = Some []; held = [] }
    → new.told ≡ Some departures → PutsDay (departures_telling feeds) [] files config listing old new → TellsDepartures files config listing feeds departures
tells feeds files config listing departures old new is out puts =
    let held : old.held ≡ [] = ap (λ (o : Output). o.held) is in
    let told : departures ≡ old.held ++ puts.puts.told = put_is old.told new.told (old.held ++ puts.puts.told) departures (ap (λ (o : Output). o.told) is) out puts.puts.put in
    record {
      of = puts.of;
      says = puts.says;
      text = puts.text;
      found = puts.found;
      lists = record {
        parts = puts.puts.lists.parts;
        each = puts.puts.lists.each;
        made = puts.puts.lists.made;
        spelled = puts.puts.lists.spelled;
        tells = told ∙ ap (λ (l : List ℕ). l ++ puts.puts.told) held ∙ puts.puts.lists.tells;
      };
    }
