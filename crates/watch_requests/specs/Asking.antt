-- What a browser or a collector of metrics may ask for.
use Rattle.std.specs.Prelude.{◌≡◌, ◌≤◌, ℕ, ◌||◌, List, length, codes, if◌then◌else◌}
use Rattle.std.specs.Str.{bytes_eq}
use Rattle.httparse.specs.Grammar.{RequestHead, ReadsRequest, HasNoRequest}
use Rattle.watch_requests.specs.declared.reading.What.{What}
use Rattle.watch_requests.specs.declared.reading.What.TheVariants.{Page, Metrics, Nowhere, OtherMethod}
use Rattle.watch_requests.specs.declared.reading.Request.{Request}
use Rattle.watch_requests.specs.declared.reading.Reading.{Reading}
use Rattle.watch_requests.specs.declared.reading.Reading.TheVariants.{Whole, More, Bad}

abbrev pub what_at : List ℕ → What
what_at target =
    if bytes_eq target (codes "/") then Page
    else if bytes_eq target (codes "/metrics") then Metrics
    else Nowhere

-- Only GET and HEAD ask for something, and HEAD for its head alone.
unfoldable pub request_of : List ℕ → List ℕ → Request
request_of method target = record {
  what = if bytes_eq method (codes "GET") || bytes_eq method (codes "HEAD") then what_at target else OtherMethod;
  head_alone = bytes_eq method (codes "HEAD");
}

-- A whole request is that of the head at the front of the bytes, and more is waited for only where there is none.
abbrev pub IsReadOf : List ℕ → Reading → Type 0
IsReadOf bytes (Whole request) = (head : RequestHead) × (rest : List ℕ) × ReadsRequest bytes head rest × (request ≡ request_of head.method head.target)
IsReadOf bytes More = HasNoRequest bytes
IsReadOf bytes Bad = Unit {0}

-- A head of at most so many fields at the front of the bytes is read.
abbrev pub ReadsEach : ℕ → List ℕ → Reading → Type 0
ReadsEach most bytes reading = (head : RequestHead) (rest : List ℕ) → ReadsRequest bytes head rest → length head.fields ≤ most
    → reading ≡ Whole (request_of head.method head.target)
