-- Where all reports of a symbol were gone through, there is no message of it.
use Rattle.std.proofs.Common.{◌≡◌, ℕ, ◌≤◌, List, [], length, refl}
use Rattle.std.proofs.Math.ListN.{drop_of_length-le}
use Rattle.venue_words.specs.declared.config.Config.{Config}
use Rattle.venue_words.specs.declared.report.Report.{Report}
use Rattle.member_gate.specs.Reporting.{messages_at}

pub none_behind : (config : Config) (member : ℕ) (symbol : List ℕ) (from : ℕ) (reports : List Report) → length reports ≤ from
    → messages_at config member symbol from reports ≡ []
unfolding messages_at
none_behind config member symbol from reports l = rw (drop_of_length-le reports l) refl
