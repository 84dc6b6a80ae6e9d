-- Lines that are taken one after the other, and the one that is not.
use Rattle.std.proofs.Common.{◌≡◌, ◌<◌, ℕ, ◌+◌, ◌⊎◌, inl, inr, ⊎_elim, Bool, false, List, [], ◌∷◌, ◌++◌, length, Option, Some, None, refl, sym, ◌∙◌, ap, subst, append_assoc, append-nil, arith}
use Rattle.std.specs.Prelude.{IfSome}
use Rattle.std.proofs.lemmas.List.{length-append}
use Rattle.std.proofs.lemmas.Grind.{flat_map-append}
use Rattle.io_edge.specs.Files.{Files, Opens, file_named}
use Rattle.venue_words.specs.declared.config.Config.{Config}
use Rattle.venue_words.specs.ListLaws.{all_append}
use Rattle.script_text.specs.Lines.{has_end}
use Rattle.line_reader.specs.Reading.{Reading, ahead}
use Rattle.line_reader.specs.NextLaws.{LongFront, line_ahead, end_ahead, long_ahead}
use Rattle.line_reader.specs.NextLines.{HandsOut, IsAllRead, IsTooLong}
use Rattle.listing.specs.Lines.{ended}
use Rattle.audit_core.specs.Differing.{AreLines, lines_text, DiffersAt, IsLongLine, AtLine}
use Rattle.audit_core.specs.Ahead.{Awaits, Takes, Refuses, StopsIn, Reaches, TakesLines, IsBehind, ReadsOn, EndsListing, TellsBefore, Stops}
use Rattle.audit_core.specs.Fronts.{IsFront, SaysBefore, SaysSome}
use Rattle.audit_core.specs.Progress.{Auditing, HasRead, OpenIf}
use Rattle.audit_core.specs.Telling.{Lists, ListsAndSays, Output, Says, Telling}
use Rattle.audit_core.proofs.Awaiting.{ended_more}
use Rattle.audit_core.proofs.Fronting.{front_stands}
use Rattle.audit_core.proofs.Saying.{says_none, says_both, begins_none, begins_second, reaches_none}
use Rattle.audit_core.proofs.Standing.{stands_at_start}

-- ---- lines

one_text : (line : List ℕ) → lines_text (line ∷ []) ≡ ended line
one_text line = append-nil (ended line)

takes_one : (telling : Telling) (old new : Auditing) (line told : List ℕ) → has_end line ≡ false → Takes telling old new line told
    → TakesLines telling old new (line ∷ []) told
takes_one telling old new line told clear takes = record {
  clear = (clear, tt);
  read = λ before said has. subst (λ (t : List ℕ). HasRead telling new (before ++ t) (said ++ told)) (sym (one_text line)) (takes.read before said has);
  awaited = λ more awaits. takes.awaited more (subst (λ (t : List ℕ). Awaits old (t ++ more)) (one_text line) awaits);
}

takes_none : (telling : Telling) (auditing : Auditing) → TakesLines telling auditing auditing [] []
takes_none telling auditing = record {
  clear = tt;
  read = λ before said has.
      subst (λ (b : List ℕ). HasRead telling auditing b (said ++ [])) (sym (append-nil before)) (subst (HasRead telling auditing before) (sym (append-nil said)) has);
  awaited = λ more awaits. awaits;
}

text_more : (xs ys : List (List ℕ)) (more : List ℕ) → lines_text (xs ++ ys) ++ more ≡ lines_text xs ++ (lines_text ys ++ more)
text_more xs ys more = ap (λ (t : List ℕ). t ++ more) (flat_map-append ended xs ys) ∙ append_assoc (lines_text xs) (lines_text ys) more

-- what was read behind some lines and then behind others was read behind all of them
read_more : (telling : Telling) (auditing : Auditing) (xs ys : List (List ℕ)) (before said first second : List ℕ)
    → HasRead telling auditing ((before ++ lines_text xs) ++ lines_text ys) ((said ++ first) ++ second)
    → HasRead telling auditing (before ++ lines_text (xs ++ ys)) (said ++ (first ++ second))
read_more telling auditing xs ys before said first second has =
    subst (λ (t : List ℕ). HasRead telling auditing t (said ++ (first ++ second)))
    (append_assoc before (lines_text xs) (lines_text ys) ∙ ap (λ (t : List ℕ). before ++ t) (sym (flat_map-append ended xs ys)))
    (subst (HasRead telling auditing ((before ++ lines_text xs) ++ lines_text ys)) (append_assoc said first second) has)

takes_more : (telling : Telling) (first between last : Auditing) (xs ys : List (List ℕ)) (one two : List ℕ) → TakesLines telling first between xs one
    → TakesLines telling between last ys two → TakesLines telling first last (xs ++ ys) (one ++ two)
takes_more telling first between last xs ys one two x y = record {
  clear = all_append (λ line. has_end line ≡ false) xs ys x.clear y.clear;
  read = λ before said has.
      read_more telling last xs ys before said one two (y.read (before ++ lines_text xs) (said ++ one) (x.read before said has));
  awaited = λ more awaits. y.awaited more (x.awaited (lines_text ys ++ more) (subst (Awaits first) (text_more xs ys more) awaits));
}

-- ---- what is ahead

pub reads_none : (telling : Telling) (auditing : Auditing) (reader : Reading) (before : Option (List ℕ)) (output : Output)
    → ReadsOn telling auditing auditing reader reader before before output output
reads_none telling auditing reader before output = record {
  lines = [];
  told = [];
  taken = takes_none telling auditing;
  count = omega arith;
  bytes = omega arith;
  rest = λ text e. (text, refl, e);
  said = says_none output output refl;
}

pub reads_more : (telling : Telling) (first between last : Auditing) (from at to : Reading) (before mid after : Option (List ℕ)) (a b c : Output)
    → ReadsOn telling first between from at before mid a b → ReadsOn telling between last at to mid after b c
    → ReadsOn telling first last from to before after a c
reads_more telling first between last from at to before mid after a b c x y = record {
  lines = x.lines ++ y.lines;
  told = x.told ++ y.told;
  taken = takes_more telling first between last x.lines y.lines x.told y.told x.taken y.taken;
  count = omega (arith, x.count, y.count, length-append x.lines y.lines);
  bytes = omega (arith, x.bytes, y.bytes, length-append (lines_text x.lines) (lines_text y.lines), ap length (flat_map-append ended x.lines y.lines));
  rest = λ text e.
      let one = x.rest text e in
      let two = y.rest one.0 one.2 in
      (two.0, one.1 ∙ ap (λ (t : List ℕ). lines_text x.lines ++ t) two.1 ∙ sym (text_more x.lines y.lines two.0), two.2);
  said = says_both a b c x.told y.told x.said y.said;
}

-- a line of a reader
reads_line : (telling : Telling) (old new : Auditing) (from to : Reading) (line told : List ℕ) (before after : Option (List ℕ)) (a b : Output) → has_end line ≡ false
    → Takes telling old new line told → Says a b told → to.lines ≡ from.lines + 1 → to.bytes ≡ from.bytes + length line + 1
    → ((text : List ℕ) → before ≡ Some text → (more : List ℕ) × (after ≡ Some more) × (text ≡ line ++ 10 ∷ more))
    → ReadsOn telling old new from to before after a b
reads_line telling old new from to line told before after a b clear takes said lines bytes ahead = record {
  lines = line ∷ [];
  told = told;
  taken = takes_one telling old new line told clear takes;
  count = lines;
  bytes = omega (arith, bytes, length-append line (10 ∷ []), ap length (one_text line));
  rest = λ text e.
      let found = ahead text e in
      (found.0, found.2 ∙ sym (ap (λ (t : List ℕ). t ++ found.0) (one_text line) ∙ ended_more line found.0), found.1);
  said = said;
}

-- ---- the end

-- what ends a listing ends the one that began before
pub ends_later : (telling : Telling) (first last : Auditing) (from to : Reading) (before after : Option (List ℕ)) (a b c : Output) → last.config ≡ first.config
    → ReadsOn telling first last from to before after a b → EndsListing telling last after b c → EndsListing telling first before a c
ends_later telling first last from to before after a b c config x y = record {
  told = x.told ++ y.told;
  said = says_both a b c x.told y.told x.said y.said;
  whole = λ read says text has e.
      let one = x.rest text e in
      let all : (read ++ lines_text x.lines) ++ one.0 ≡ read ++ text = append_assoc read (lines_text x.lines) one.0 ∙ ap (λ (t : List ℕ). read ++ t) (sym one.1) in
      subst (λ (k : Config). Lists telling k (read ++ text) (says ++ (x.told ++ y.told))) config
      (subst (λ (t : List ℕ). Lists telling last.config t (says ++ (x.told ++ y.told))) all
      (subst (Lists telling last.config ((read ++ lines_text x.lines) ++ one.0)) (append_assoc says x.told y.told)
      (y.whole (read ++ lines_text x.lines) (says ++ x.told) one.0 (x.taken.read read says has) one.2)));
}

-- ---- what lines tell

-- lines behind those that were taken
reaches_more : (telling : Telling) (first between : Auditing) (xs ys : List (List ℕ)) (one two : List ℕ) → between.config ≡ first.config
    → TakesLines telling first between xs one → Reaches telling between ys two → Reaches telling first (xs ++ ys) (one ++ two)
reaches_more telling first between xs ys one two config x y = record {
  new = y.new;
  config = y.config ∙ config;
  opened = y.opened;
  read = λ before said has.
      read_more telling y.new xs ys before said one two (y.read (before ++ lines_text xs) (said ++ one) (x.read before said has));
}

rest_more : (telling : Telling) (first between : Auditing) (from at : Reading) (before mid : Option (List ℕ)) (a b : Output) (ys : List (List ℕ))
    → (x : ReadsOn telling first between from at before mid a b) → IsBehind ys mid → IsBehind (x.lines ++ ys) before
rest_more telling first between from at before mid a b ys x rest text e =
    let one = x.rest text e in
    let two = rest one.0 one.2 in
    (two.0, one.1 ∙ ap (λ (t : List ℕ). lines_text x.lines ++ t) two.1 ∙ sym (text_more x.lines ys two.0))

pub tells_later : (telling : Telling) (first between : Auditing) (from at : Reading) (before mid : Option (List ℕ)) (line : ℕ) (a b c : Output)
    → between.config ≡ first.config → ReadsOn telling first between from at before mid a b → TellsBefore telling between at.lines mid line b c
    → TellsBefore telling first from.lines before line a c
tells_later telling first between from at before mid line a b c config x y = record {
  lines = x.lines ++ y.lines;
  told = x.told ++ y.told;
  place = omega (arith, y.place, x.count, length-append x.lines y.lines);
  clear = all_append (λ l. has_end l ≡ false) x.lines y.lines x.taken.clear y.clear;
  reached = reaches_more telling first between x.lines y.lines x.told y.told config x.taken y.reached;
  rest = rest_more telling first between from at before mid a b y.lines x y.rest;
  said = says_both a b c x.told y.told x.said y.said;
}

pub stops_later : (telling : Telling) (first between : Auditing) (from at : Reading) (before mid : Option (List ℕ)) (a b c : Output)
    → between.config ≡ first.config → ReadsOn telling first between from at before mid a b → Stops telling between mid b c
    → Stops telling first before a c
stops_later telling first between from at before mid a b c config x y = record {
  lines = x.lines ++ y.lines;
  told = x.told ++ y.told;
  clear = all_append (λ l. has_end l ≡ false) x.lines y.lines x.taken.clear y.clear;
  reached = reaches_more telling first between x.lines y.lines x.told y.told config x.taken y.reached;
  rest = rest_more telling first between from at before mid a b y.lines x y.rest;
  begun = begins_second a b c x.told y.told x.said y.begun;
}

-- where a reader stands, with nothing more told
none_behind : (before : Option (List ℕ)) → IsBehind [] before
none_behind before text e = (text, refl)

pub tells_here : (telling : Telling) (old : Auditing) (read line : ℕ) (before : Option (List ℕ)) (a b : Output) → OpenIf old.config old.symbol old.part
    → line ≡ read + 1 → b ≡ a → TellsBefore telling old read before line a b
tells_here telling old read line before a b opened place same = record {
  lines = [];
  told = [];
  place = omega (arith, place);
  clear = tt;
  reached = reaches_none telling old opened;
  rest = none_behind before;
  said = says_none a b same;
}

pub stops_here : (telling : Telling) (old : Auditing) (before : Option (List ℕ)) (a b : Output) → OpenIf old.config old.symbol old.part
    → b ≡ a → Stops telling old before a b
stops_here telling old before a b opened same = record {
  lines = [];
  told = [];
  clear = tt;
  reached = reaches_none telling old opened;
  rest = none_behind before;
  begun = begins_none a b [] same;
}

-- ---- the line that differs

-- a line that is refused is the first that differs
pub differs_here : (auditing : Auditing) (line text more : List ℕ) (expected : Option (List ℕ)) → has_end line ≡ false → Refuses auditing line expected
    → text ≡ line ++ 10 ∷ more → DiffersAt (Awaits auditing) text 1 expected
differs_here auditing line text more expected clear refuses whole = record {
  lines = [];
  rest = text;
  clear = tt;
  place = omega arith;
  whole = refl;
  wrong = inl (record { line = line; behind = more; clear = clear; whole = whole ∙ sym (ended_more line more); none = refuses.none });
  told = refuses.told;
}

-- so is the end, where no listing ends there
pub differs_at_end : (auditing : Auditing) (text : List ℕ) → has_end text ≡ false → (Awaits auditing text → ⊥) → DiffersAt (Awaits auditing) text 1 None
differs_at_end auditing text clear never = record {
  lines = [];
  rest = text;
  clear = tt;
  place = omega arith;
  whole = refl;
  wrong = inr (record { clear = clear; none = never });
  told = tt;
}

-- what a text is known to be behind some first lines
expected_later : (G H : List ℕ → Type 0) (xs ys : List (List ℕ)) (expected : Option (List ℕ)) → ((more : List ℕ) → G (lines_text xs ++ more) → H more)
    → IfSome expected (λ line. (more : List ℕ) → H (lines_text ys ++ more) → (behind : List ℕ) × (more ≡ ended line ++ behind))
    → IfSome expected (λ line. (more : List ℕ) → G (lines_text (xs ++ ys) ++ more) → (behind : List ℕ) × (more ≡ ended line ++ behind))
expected_later G H xs ys None f told = tt
expected_later G H xs ys (Some line) f told = λ more good. told more (f (lines_text ys ++ more) (subst G (text_more xs ys more) good))

pub differs_later : (G H : List ℕ → Type 0) (xs : List (List ℕ)) (text more : List ℕ) (number : ℕ) (expected : Option (List ℕ)) → AreLines xs
    → text ≡ lines_text xs ++ more → ((more : List ℕ) → G (lines_text xs ++ more) → H more) → DiffersAt H more number expected
    → DiffersAt G text (length xs + number) expected
differs_later G H xs text more number expected clear whole f x = record {
  lines = xs ++ x.lines;
  rest = x.rest;
  clear = all_append (λ line. has_end line ≡ false) xs x.lines clear x.clear;
  place = omega (arith, x.place, length-append xs x.lines);
  whole = whole ∙ ap (λ (t : List ℕ). lines_text xs ++ t) x.whole ∙ sym (text_more xs x.lines x.rest);
  wrong = ⊎_elim
      (λ w. inl (record {
        line = w.line;
        behind = w.behind;
        clear = w.clear;
        whole = w.whole;
        none = λ rest good. w.none rest (f (lines_text x.lines ++ (ended w.line ++ rest)) (subst G (text_more xs x.lines (ended w.line ++ rest)) good));
      }))
      (λ w. inr (record { clear = w.clear; none = λ good. w.none (f (lines_text x.lines ++ x.rest) (subst G (text_more xs x.lines x.rest) good)) }))
      x.wrong;
  told = expected_later G H xs x.lines expected f x.told;
}

-- where a text differs it is no good one
pub differs_whole : (G : List ℕ → Type 0) (text : List ℕ) (number : ℕ) (expected : Option (List ℕ)) → DiffersAt G text number expected → G text → ⊥
differs_whole G text number expected x good =
    let whole : G (lines_text x.lines ++ x.rest) = subst G x.whole good in
    ⊎_elim
    (λ w. w.none w.behind (subst (λ (t : List ℕ). G (lines_text x.lines ++ t)) w.whole whole))
    (λ w. w.none whole)
    x.wrong

-- where more texts are good, those that differ from them differ from the fewer
pub differs_fewer : (G H : List ℕ → Type 0) (text : List ℕ) (number : ℕ) (expected : Option (List ℕ)) → ((t : List ℕ) → G t → H t)
    → DiffersAt H text number expected → DiffersAt G text number expected
differs_fewer G H text number expected f x =
    let same : 0 + number ≡ number = omega arith in
    subst (λ (n : ℕ). DiffersAt G text n expected) same (differs_later G H [] text text number expected tt refl f x)

-- ---- lines that are too long

pub long_here : (text : List ℕ) → LongFront text → IsLongLine text 1
long_here text long = record { lines = []; rest = text; clear = tt; place = omega arith; whole = refl; long = long }

pub long_later : (xs : List (List ℕ)) (text more : List ℕ) (number : ℕ) → AreLines xs → text ≡ lines_text xs ++ more → IsLongLine more number
    → IsLongLine text (length xs + number)
long_later xs text more number clear whole x = record {
  lines = xs ++ x.lines;
  rest = x.rest;
  clear = all_append (λ line. has_end line ≡ false) xs x.lines clear x.clear;
  place = omega (arith, x.place, length-append xs x.lines);
  whole = whole ∙ ap (λ (t : List ℕ). lines_text xs ++ t) x.whole ∙ sym (text_more xs x.lines x.rest);
  long = x.long;
}

-- ---- of the line where the reader stands

-- what holds of a line that is counted from a later one
pub at_later : (telling : Telling) (first last : Auditing) (from to : Reading) (before after : Option (List ℕ)) (a b : Output) (line : ℕ)
    (P Q : List ℕ → ℕ → Type 0) → (x : ReadsOn telling first last from to before after a b)
    → ((text more : List ℕ) (number : ℕ) → text ≡ lines_text x.lines ++ more → Q more number → P text (length x.lines + number))
    → AtLine to.lines after line Q → AtLine from.lines before line P
at_later telling first last from to before after a b line P Q x f at = (
  length x.lines + at.0,
  omega (arith, at.1, x.count),
  λ text e. let one = x.rest text e in f text one.0 at.0 one.1 (at.2 one.0 one.2),
)

pub differs_at_later : (telling : Telling) (first last : Auditing) (from to : Reading) (before after : Option (List ℕ)) (a b : Output) (line : ℕ)
    (expected : Option (List ℕ)) → ReadsOn telling first last from to before after a b → AtLine to.lines after line (λ text number. DiffersAt (Awaits last) text number expected)
    → AtLine from.lines before line (λ text number. DiffersAt (Awaits first) text number expected)
differs_at_later telling first last from to before after a b line expected x at =
    at_later telling first last from to before after a b line (λ text number. DiffersAt (Awaits first) text number expected) (λ text number. DiffersAt (Awaits last) text number expected) x
    (λ text more number whole differs. differs_later (Awaits first) (Awaits last) x.lines text more number expected x.taken.clear whole x.taken.awaited differs) at

pub long_at_later : (telling : Telling) (first last : Auditing) (from to : Reading) (before after : Option (List ℕ)) (a b : Output) (line : ℕ)
    → ReadsOn telling first last from to before after a b → AtLine to.lines after line IsLongLine → AtLine from.lines before line IsLongLine
long_at_later telling first last from to before after a b line x at =
    at_later telling first last from to before after a b line IsLongLine IsLongLine x
    (λ text more number whole long. long_later x.lines text more number x.taken.clear whole long) at

-- a text that is too large behind some lines is too large
pub large_later : (telling : Telling) (first last : Auditing) (from to : Reading) (before after : Option (List ℕ)) (a b : Output) (most : ℕ)
    → ReadsOn telling first last from to before after a b → ((text : List ℕ) → after ≡ Some text → most < to.bytes + length text) → (text : List ℕ) → before ≡ Some text → most < from.bytes + length text
large_later telling first last from to before after a b most x large text e =
    let one = x.rest text e in
    omega (arith, large one.0 one.2, x.bytes, ap length one.1, length-append (lines_text x.lines) one.0)

-- ---- files

by_file : (file left : Option (List ℕ)) (P : List ℕ → Type 0) → left ≡ file → ((text : List ℕ) → left ≡ Some text → P text) → IfSome file P
by_file None left P e f = tt
by_file (Some text) left P e f = f text e

-- a fact of all that may be ahead holds of the file that was opened
pub told_file : (told : Option Files) (name : List ℕ) (left : Option (List ℕ)) (P : List ℕ → Type 0) → Opens told name left
    → ((text : List ℕ) → left ≡ Some text → P text) → IfSome told (λ files. IfSome (file_named files name) P)
told_file None name left P opens f = tt
told_file (Some files) name left P opens f = by_file (file_named files name) left P opens.1 f

-- ---- what a reader answers

lines_clear : (lines : List (List ℕ)) (line : List ℕ) → (lines ≡ []) ⊎ (lines ≡ line ∷ []) → has_end line ≡ false → AreLines lines
lines_clear lines line only clear =
    ⊎_elim (λ none. subst AreLines (sym none) tt) (λ one. subst AreLines (sym one) (clear, tt)) only

lines_behind : (lines : List (List ℕ)) (line : List ℕ) (before : Option (List ℕ)) → (lines ≡ []) ⊎ (lines ≡ line ∷ [])
    → IsBehind (line ∷ []) before → IsBehind lines before
lines_behind lines line before only behind =
    ⊎_elim
    (λ none. subst (λ (l : List (List ℕ)). IsBehind l before) (sym none) (none_behind before))
    (λ one. subst (λ (l : List (List ℕ)). IsBehind l before) (sym one) behind)
    only

pub line_stops : (telling : Telling) (old : Auditing) (from to : Reading) (before left : Option (List ℕ)) (line : List ℕ) (is_over : Bool) (a b : Output)
    → HandsOut from to before left line is_over → StopsIn telling old line a b → Stops telling old (ahead from.held before) a b
line_stops telling old from to before left line is_over a b x stops = record {
  lines = stops.lines;
  told = stops.told;
  clear = lines_clear stops.lines line stops.only x.clear;
  reached = stops.reached;
  rest = lines_behind stops.lines line (ahead from.held before) stops.only
      (λ text e.
      let more = line_ahead from to before left line is_over text x e in
      (more.0, more.2 ∙ sym (ap (λ (t : List ℕ). t ++ more.0) (one_text line) ∙ ended_more line more.0)));
  begun = stops.begun;
}

pub line_on : (telling : Telling) (old new : Auditing) (from to : Reading) (before left : Option (List ℕ)) (line told : List ℕ) (is_over : Bool) (a b : Output)
    → HandsOut from to before left line is_over → Takes telling old new line told → Says a b told
    → ReadsOn telling old new from to (ahead from.held before) (ahead to.held left) a b
line_on telling old new from to before left line told is_over a b x takes said =
    reads_line telling old new from to line told (ahead from.held before) (ahead to.held left) a b x.clear takes said (ap (λ (r : Reading). r.lines) x.next) (ap (λ (r : Reading). r.bytes) x.next)
    (λ text e. line_ahead from to before left line is_over text x e)

pub line_differs : (old : Auditing) (from to : Reading) (before left : Option (List ℕ)) (line : List ℕ) (is_over : Bool) (number : ℕ) (expected : Option (List ℕ))
    → HandsOut from to before left line is_over → number ≡ from.lines + 1 → Refuses old line expected
    → AtLine from.lines (ahead from.held before) number (λ text number. DiffersAt (Awaits old) text number expected)
line_differs old from to before left line is_over number expected x place refuses = (
  1,
  place,
  λ text e. let more = line_ahead from to before left line is_over text x e in differs_here old line text more.0 expected x.clear refuses more.2,
)

pub end_same : (telling : Telling) (old : Auditing) (from to : Reading) (before left : Option (List ℕ)) (rest : List ℕ) (a b : Output)
    → IsAllRead from to before left rest → b ≡ a
    → ((read told : List ℕ) → HasRead telling old read told → Lists telling old.config (read ++ rest) told)
    → EndsListing telling old (ahead from.held before) a b
end_same telling old from to before left rest a b x same ends = record {
  told = [];
  said = says_none a b same;
  whole = λ read says text has e.
      subst (λ (t : List ℕ). Lists telling old.config (read ++ t) (says ++ [])) (sym (end_ahead from to before left rest text x e))
      (subst (Lists telling old.config (read ++ rest)) (sym (append-nil says)) (ends read says has));
}

pub end_differs : (old : Auditing) (from to : Reading) (before left : Option (List ℕ)) (rest : List ℕ) (number : ℕ) (expected : Option (List ℕ))
    → IsAllRead from to before left rest → number ≡ from.lines + 1 → expected ≡ None → (Awaits old rest → ⊥)
    → AtLine from.lines (ahead from.held before) number (λ text number. DiffersAt (Awaits old) text number expected)
end_differs old from to before left rest number expected x place none never = (
  1,
  place,
  λ text e.
      let whole : rest ≡ text = sym (end_ahead from to before left rest text x e) in
      let ends : DiffersAt (Awaits old) rest 1 None = differs_at_end old rest x.clear never in
      subst (λ (t : List ℕ). DiffersAt (Awaits old) t 1 expected) whole (subst (DiffersAt (Awaits old) rest 1) (sym none) ends),
)

pub long_at : (from to : Reading) (before left : Option (List ℕ)) (number : ℕ) → IsTooLong from to before left → number ≡ from.lines + 1
    → AtLine from.lines (ahead from.held before) number IsLongLine
long_at from to before left number x place = (1, place, λ text e. long_here text (long_ahead from to before left text x e))

-- ---- the file that was opened

-- before a read all that is ahead is the file
fresh : (held : List ℕ) (left : Option (List ℕ)) (text : List ℕ) → held ≡ [] → left ≡ Some text → ahead held left ≡ Some text
fresh held left text none e = ap (λ (h : List ℕ). ahead h left) none ∙ ap (λ (l : Option (List ℕ)). ahead [] l) e

pub file_same : (telling : Telling) (told : Option Files) (name held : List ℕ) (left : Option (List ℕ)) (auditing : Auditing) (a b : Output)
    → Opens told name left → held ≡ [] → HasRead telling auditing [] [] → EndsListing telling auditing (ahead held left) a b
    → IfSome told (λ files. IfSome (file_named files name) (λ text. ListsAndSays telling auditing.config text a b))
file_same telling told name held left auditing a b opens none has ends =
    told_file told name left (λ text. ListsAndSays telling auditing.config text a b) opens (λ text e. record {
      told = ends.told;
      lists = ends.whole [] [] text has (fresh held left text none e);
      said = ends.said;
    })

-- the lines from the start on are a beginning of a listing
begins_listing : (telling : Telling) (start : Auditing) (lines : List (List ℕ)) (told : List ℕ) → HasRead telling start [] [] → Reaches telling start lines told
    → IsFront telling start.config (lines_text lines) told
begins_listing telling start lines told has reached =
    subst (λ (c : Config). IsFront telling c (lines_text lines) told) reached.config
    (front_stands telling reached.new.config reached.new.symbol reached.new.part (lines_text lines) told reached.opened (reached.read [] [] has))

pub file_before : (telling : Telling) (told : Option Files) (name held : List ℕ) (left : Option (List ℕ)) (start : Auditing) (read line : ℕ) (a b : Output)
    → Opens told name left → held ≡ [] → read ≡ 0 → HasRead telling start [] [] → TellsBefore telling start read (ahead held left) line a b
    → IfSome told (λ files. IfSome (file_named files name) (λ text. SaysBefore telling start.config text line a b))
file_before telling told name held left start read line a b opens none first has tells =
    told_file told name left (λ text. SaysBefore telling start.config text line a b) opens (λ text e.
    let more = tells.rest text (fresh held left text none e) in record {
      lines = tells.lines;
      rest = more.0;
      told = tells.told;
      clear = tells.clear;
      place = omega (arith, tells.place, first);
      whole = more.1;
      front = begins_listing telling start tells.lines tells.told has tells.reached;
      said = tells.said;
    })

some_of : (telling : Telling) (held : List ℕ) (left : Option (List ℕ)) (start : Auditing) (a b : Output) (text : List ℕ) → held ≡ [] → left ≡ Some text
    → HasRead telling start [] [] → Stops telling start (ahead held left) a b → SaysSome telling start.config text a b
some_of telling held left start a b text none e has stops =
    let more = stops.rest text (fresh held left text none e) in record {
      lines = stops.lines;
      rest = more.0;
      told = stops.told;
      clear = stops.clear;
      whole = more.1;
      front = begins_listing telling start stops.lines stops.told has stops.reached;
      begun = stops.begun;
    }

pub file_some : (telling : Telling) (told : Option Files) (name held : List ℕ) (left : Option (List ℕ)) (start : Auditing) (a b : Output)
    → Opens told name left → held ≡ [] → HasRead telling start [] [] → Stops telling start (ahead held left) a b
    → IfSome told (λ files. IfSome (file_named files name) (λ text. SaysSome telling start.config text a b))
file_some telling told name held left start a b opens none has stops =
    told_file told name left (λ text. SaysSome telling start.config text a b) opens
    (λ text e. some_of telling held left start a b text none e has stops)

-- where nothing was read nothing was said
pub file_none : (telling : Telling) (config : Config) (told : Option Files) (name : List ℕ) (a b : Output) → b ≡ a
    → IfSome told (λ files. IfSome (file_named files name) (λ text. SaysSome telling config text a b))
file_none telling config None name a b same = tt
file_none telling config (Some files) name a b same = by_file (file_named files name) (file_named files name) (λ text. SaysSome telling config text a b) refl (λ text e. record {
  lines = [];
  rest = text;
  told = [];
  clear = tt;
  whole = refl;
  front = front_stands telling config 0 None [] [] tt (stands_at_start telling config);
  begun = begins_none a b [] same;
})

-- a line of the file
pub file_line : (told : Option Files) (name held : List ℕ) (left : Option (List ℕ)) (from line : ℕ) (P : List ℕ → ℕ → Type 0) (Q : List ℕ → Type 0)
    → Opens told name left → held ≡ [] → from ≡ 0 → AtLine from (ahead held left) line P → ((text : List ℕ) → P text line → Q text)
    → IfSome told (λ files. IfSome (file_named files name) Q)
file_line told name held left from line P Q opens none first at f =
    let place : at.0 ≡ line = omega (arith, at.1, first) in
    told_file told name left Q opens (λ text e. f text (subst (P text) place (at.2 text (fresh held left text none e))))
