-- Each field so far was noted.
use Rattle.std.proofs.Common.{◌≡◌, ◌≤◌, ◌<◌, ℕ, take, get_or, length, None}
use Rattle.session_core.specs.Lookup.{value_of}
use Rattle.session_core.specs.Starts.{start_of}
use Rattle.session_core.proofs.message_fields.starts_of.Given as goal

abbrev pub invariant-loop-place : goal.invariant-loop-place
invariant-loop-place l = record {
  in_time : (tag count : ℕ) → count ≤ start_of l.starts tag → count ≤ l.place → value_of tag (take count l.fields) ≡ None;
  fit : (k : ℕ) → get_or l.starts k 0 < 256;
  remainders : length l.starts ≡ 64;
}
