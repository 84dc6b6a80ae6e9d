-- From the middle of a file of quotes to its end.
use Rattle.std.proofs.Common.{◌≡◌, ℕ, ℤ, ◌+◌, Bool, true, false, cond, List, [], ◌∷◌, ◌++◌, length, map, Option, Some, None, Result, Ok, IfSome, MatchOption, refl, sym, ◌∙◌, ap, subst, append_assoc, append-nil, nat_lt, inl}
use Rattle.std.proofs.lemmas.List.{map-append}
use Rattle.std.specs.Io.KnownBytes.{Consumes, IsAtEnd}
use Rattle.std.proofs.KnownBytes.{Consumes-nil}
use Rattle.io_edge.specs.Files.{Files, file_named}
use Rattle.venue_words.specs.Floors.{FloorMark, SymbolView}
use Rattle.venue_words.specs.declared.config.Config.{Config}
use Rattle.venue_words.specs.declared.limits.TheConstants.{MAX_LINE_BYTES, MAX_SCRIPT_BYTES}
use Rattle.member_gate.specs.Answering.{Submission}
use Rattle.script_text.specs.declared.fault.LineFault.{LineFault}
use Rattle.script_text.specs.declared.fault.LineFault.TheVariants as fault
use Rattle.script_text.specs.Config.{unended}
use Rattle.script_text.specs.declared.fault.LineCause.TheVariants.{NoEnd}
use Rattle.script_text.specs.declared.fault.LimitCause.TheVariants.{Line}
use Rattle.line_reader.specs.Reading.{Reading, before_lines}
use Rattle.line_reader.specs.ReadingLaws.{taken_more}
use Rattle.line_reader.specs.NextLines.{HandsOut, IsAllRead, IsTooLong, IsCutOff}
use Rattle.line_reader.specs.NextLaws.{long_front}
use Rattle.link_work.specs.Turns.{GaveMoments}
use Rattle.serve_core.specs.QuoteFiles.{Quotes, after_quote, behind, file_quotes, nth_quote, quotes_in, rest_fault}
use Rattle.serve_core.specs.Quoting.{AskedOnce, InMiddle, LineEnds, Place, QuotesEnd, StopsAt, Submits, SubmitsSome, end_with, feed_behind, place}
use Rattle.serve_core.specs.declared.quotes.QuoteEnd.{QuoteEnd}
use Rattle.serve_core.specs.declared.quotes.QuoteEnd.TheVariants.{Done, BadLine, LimitLine, Full, ReadFault, NoMemory}
use Rattle.serve_core.proofs.Grows.{grew_same}
use Rattle.serve_core.proofs.QuoteLines.{first_line, last_rest, long_text}
use Rattle.serve_core.proofs.SessionLaws.{grew_more, moments_more, moments_none}

-- ---- what is submitted

pub submits_none : {F : Type 0} (at : F → ℕ → SymbolView) (feed : ℕ) (p : Place F) → Submits at feed [] p p
submits_none at feed p = record {
  timed = [];
  are = refl;
  moments = moments_none p.clock;
  grew = λ symbol. grew_same feed (at p.floor symbol) (at p.floor symbol) refl;
}

pub submits_then : {F : Type 0} (at : F → ℕ → SymbolView) (feed : ℕ) (quotes more : List Submission) (a b c : Place F)
    → Submits at feed quotes a b → Submits at feed more b c → Submits at feed (quotes ++ more) a c
submits_then at feed quotes more a b c x y = record {
  timed = x.timed ++ y.timed;
  are = map-append (λ (one : ℤ × Submission). one.1) x.timed y.timed
      ∙ ap (λ (qs : List Submission). qs ++ map (λ (one : ℤ × Submission). one.1) y.timed) x.are
      ∙ ap (λ (qs : List Submission). quotes ++ qs) y.are;
  moments = subst (λ (ms : List ℤ). GaveMoments ms a.clock c.clock) (sym (map-append (λ (one : ℤ × Submission). one.0) x.timed y.timed))
      (moments_more (map (λ (one : ℤ × Submission). one.0) x.timed) (map (λ (one : ℤ × Submission). one.0) y.timed)
      a.clock b.clock c.clock x.moments y.moments);
  grew = grew_more at feed x.timed y.timed a.floor b.floor c.floor x.grew y.grew;
}

-- ---- quotes behind quotes

-- some quotes, then one, and then the rest
behind_one : (quotes : List Submission) (quote : Submission) (later : Quotes)
    → behind quotes (after_quote (Ok quote) later) ≡ behind (quotes ++ quote ∷ []) later
behind_one quotes quote later =
    ap (λ (qs : List Submission). let q : Quotes = record { quotes = qs; fault = later.fault } in q)
    (sym (append_assoc quotes (quote ∷ []) later.quotes))

-- some quotes, and then an end
behind_end : (quotes : List Submission) (why : Option LineFault)
    → behind quotes (record { quotes = []; fault = why }) ≡ record { quotes = quotes; fault = why }
behind_end quotes why =
    ap (λ (qs : List Submission). let q : Quotes = record { quotes = qs; fault = why } in q) (append-nil quotes)

-- ---- in the middle

pub middle_start : {F : Type 0} (at : F → ℕ → SymbolView) (config : Config) (first : Option (List ℕ)) (reader : Reading) (p : Place F)
    → reader ≡ before_lines 0 MAX_SCRIPT_BYTES → InMiddle at config first first reader.lines reader.bytes reader.held p p
middle_start at config first reader p start =
    let Is = λ (r : Reading). InMiddle at config first first r.lines r.bytes r.held p p in
    subst Is (sym start) (record {
      quotes = [];
      submits = submits_none at (feed_behind config) p;
      worked = [];
      taken = Consumes-nil first;
      leads = λ more. refl;
    })

-- a line behind what was worked, and the rest
line_more : (worked line more : List ℕ) → (worked ++ (line ++ 10 ∷ [])) ++ more ≡ worked ++ (line ++ 10 ∷ more)
line_more worked line more =
    append_assoc worked (line ++ 10 ∷ []) more ∙ ap (λ (t : List ℕ). worked ++ t) (append_assoc line (10 ∷ []) more)

-- what the line that was handed out says
over_is : (reader next : Reading) (before left : Option (List ℕ)) (line : List ℕ) (is_over : Bool) → HandsOut reader next before left line is_over
    → reader.most ≡ MAX_SCRIPT_BYTES → is_over ≡ nat_lt MAX_SCRIPT_BYTES (reader.bytes + length line + 1)
over_is reader next before left line is_over h most =
    h.over ∙ ap (λ (k : ℕ). nat_lt k next.bytes) most ∙ ap (λ (r : Reading). nat_lt MAX_SCRIPT_BYTES r.bytes) h.next

-- what the text from a line on says
line_says : (config : Config) (reader next : Reading) (before left : Option (List ℕ)) (line : List ℕ) (is_over : Bool) (n : ℕ) (more : List ℕ)
    → HandsOut reader next before left line is_over → reader.most ≡ MAX_SCRIPT_BYTES → n ≡ reader.lines
    → quotes_in config reader.lines reader.bytes (line ++ 10 ∷ more)
    ≡ after_quote (nth_quote config (n + 1) is_over line) (quotes_in config next.lines next.bytes more)
line_says config reader next before left line is_over n more h most number =
    first_line config reader.lines reader.bytes line more h.clear
    ∙ ap (λ (b : Bool). after_quote (nth_quote config (reader.lines + 1) b line)
    (quotes_in config (reader.lines + 1) (reader.bytes + length line + 1) more)) (sym (over_is reader next before left line is_over h most))
    ∙ ap (λ (k : ℕ). after_quote (nth_quote config (k + 1) is_over line)
    (quotes_in config (reader.lines + 1) (reader.bytes + length line + 1) more)) (sym number)
    ∙ ap (λ (r : Reading). after_quote (nth_quote config (n + 1) is_over line) (quotes_in config r.lines r.bytes more)) (sym h.next)

pub middle_line : {F : Type 0} (at : F → ℕ → SymbolView) (config : Config) (first before left : Option (List ℕ)) (reader next : Reading)
    (line : List ℕ) (is_over : Bool) (n : ℕ) (quote : Submission) (a b c : Place F)
    → InMiddle at config first before reader.lines reader.bytes reader.held a b → HandsOut reader next before left line is_over
    → reader.most ≡ MAX_SCRIPT_BYTES → n ≡ reader.lines → nth_quote config (n + 1) is_over line ≡ Ok quote
    → Submits at (feed_behind config) (quote ∷ []) b c
    → InMiddle at config first left next.lines next.bytes next.held a c
middle_line at config first before left reader next line is_over n quote a b c x h most number says one = record {
  quotes = x.quotes ++ quote ∷ [];
  submits = submits_then at (feed_behind config) x.quotes (quote ∷ []) a b c x.submits one;
  worked = x.worked ++ (line ++ 10 ∷ []);
  taken = subst (Consumes first left) (sym (line_more x.worked line next.held))
      (taken_more first before left x.worked reader.held (line ++ 10 ∷ next.held) x.taken h.reads);
  leads = λ more.
      ap (file_quotes config) (line_more x.worked line more)
      ∙ x.leads (line ++ 10 ∷ more)
      ∙ ap (behind x.quotes) (line_says config reader next before left line is_over n more h most number
      ∙ ap (λ (r : Result Submission LineFault). after_quote r (quotes_in config next.lines next.bytes more)) says)
      ∙ behind_one x.quotes quote (quotes_in config next.lines next.bytes more);
}

-- ---- ends

-- what was taken of a told file, and the rest of it
record TakenOf (text : List ℕ) (left : Option (List ℕ)) (all : List ℕ) : Type 0 where
  rest : List ℕ
  left_is : left ≡ Some rest
  whole : text ≡ all ++ rest

taken_of : (text : List ℕ) (left : Option (List ℕ)) (all : List ℕ) → Consumes (Some text) left all → TakenOf text left all
taken_of text None all x = absurd x
taken_of text (Some rest) all x = record { rest = rest; left_is = refl; whole = x }

-- the quotes so far were all before an end
stops_at : {F : Type 0} (at : F → ℕ → SymbolView) (config : Config) (text : List ℕ) (quotes : List Submission) (why : Option LineFault) (a b : Place F)
    → file_quotes config text ≡ record { quotes = quotes; fault = why } → Submits at (feed_behind config) quotes a b
    → StopsAt at config text why a b
stops_at at config text quotes why a b e x = record {
  why_is = ap (λ (q : Quotes). q.fault) e;
  submits = subst (λ (qs : List Submission). Submits at (feed_behind config) qs a b) (sym (ap (λ (q : Quotes). q.quotes) e)) x;
}

-- an end by its cause
ends_with : {F : Type 0} (at : F → ℕ → SymbolView) (mark : FloorMark) (config : Config) (text : List ℕ) (left : Option (List ℕ)) (why : Option LineFault) (a b : Place F)
    → (why ≡ Some fault.NoMemory → ⊥) → StopsAt at config text why a b → QuotesEnd at mark config text left (end_with why) a b
ends_with at mark config text left None a b wanted x = x
ends_with at mark config text left (Some (fault.Bad n cause)) a b wanted x = x
ends_with at mark config text left (Some (fault.Limit n which)) a b wanted x = x
ends_with at mark config text left (Some fault.NoMemory) a b wanted x = absurd (wanted refl)

-- bytes behind the last line are no want of memory
either_fault : (b : Bool) (x y : LineFault) → (x ≡ fault.NoMemory → ⊥) → (y ≡ fault.NoMemory → ⊥) → cond b x y ≡ fault.NoMemory → ⊥
either_fault true x y f g e = f e
either_fault false x y f g e = g e

rest_known : (n : ℕ) (rest : List ℕ) → rest_fault n rest ≡ Some fault.NoMemory → ⊥
rest_known n [] e = cc
rest_known n (b ∷ rest) e =
    let k : unended n (b ∷ rest) ≡ fault.NoMemory = cc in
    either_fault (nat_lt MAX_LINE_BYTES (length (b ∷ rest))) (fault.Limit n Line) (fault.Bad n NoEnd) (λ e. cc) (λ e. cc) k

pub middle_ends : {F : Type 0} (at : F → ℕ → SymbolView) (mark : FloorMark) (config : Config) (first before left : Option (List ℕ))
    (reader next : Reading) (rest : List ℕ) (n : ℕ) (a b : Place F)
    → InMiddle at config first before reader.lines reader.bytes reader.held a b → IsAllRead reader next before left rest → n ≡ reader.lines
    → IfSome first (λ text. QuotesEnd at mark config text left (end_with (rest_fault (n + 1) rest)) a b)
middle_ends at mark config None before left reader next rest n a b x h number = tt
middle_ends at mark config (Some text) before left reader next rest n a b x h number =
    let taken = taken_of text left (x.worked ++ rest) (taken_more (Some text) before left x.worked reader.held rest x.taken h.reads) in
    let none : taken.rest ≡ [] = subst IsAtEnd taken.left_is h.ended in
    let all : text ≡ x.worked ++ rest = taken.whole ∙ ap (λ (r : List ℕ). (x.worked ++ rest) ++ r) none ∙ append-nil (x.worked ++ rest) in
    let says : file_quotes config text ≡ record { quotes = x.quotes; fault = rest_fault (n + 1) rest } =
    ap (file_quotes config) all ∙ x.leads rest ∙ ap (behind x.quotes) (last_rest config reader.lines reader.bytes rest h.clear)
    ∙ behind_end x.quotes (rest_fault (reader.lines + 1) rest)
    ∙ ap (λ (k : ℕ). let q : Quotes = record { quotes = x.quotes; fault = rest_fault (k + 1) rest } in q) (sym number) in
    ends_with at mark config text left (rest_fault (n + 1) rest) a b (rest_known (n + 1) rest)
    (stops_at at config text x.quotes (rest_fault (n + 1) rest) a b says x.submits)

pub middle_long : {F : Type 0} (at : F → ℕ → SymbolView) (mark : FloorMark) (config : Config) (first before left : Option (List ℕ))
    (reader next : Reading) (n : ℕ) (a b : Place F)
    → InMiddle at config first before reader.lines reader.bytes reader.held a b → IsTooLong reader next before left → n ≡ reader.lines
    → IfSome first (λ text. QuotesEnd at mark config text left (LimitLine (n + 1) Line) a b)
middle_long at mark config None before left reader next n a b x h number = tt
middle_long at mark config (Some text) before left reader next n a b x h number =
    let taken = taken_of text left (x.worked ++ next.held) (taken_more (Some text) before left x.worked reader.held next.held x.taken h.reads) in
    let long = long_front next.held taken.rest h.long in
    let says : file_quotes config text ≡ record { quotes = x.quotes; fault = Some (fault.Limit (n + 1) Line) } =
    ap (file_quotes config) (taken.whole ∙ append_assoc x.worked next.held taken.rest) ∙ x.leads (next.held ++ taken.rest)
    ∙ ap (behind x.quotes) (ap (quotes_in config reader.lines reader.bytes) long.whole
    ∙ long_text config reader.lines reader.bytes long.front long.behind long.clear long.long)
    ∙ behind_end x.quotes (Some (fault.Limit (reader.lines + 1) Line))
    ∙ ap (λ (k : ℕ). let q : Quotes = record { quotes = x.quotes; fault = Some (fault.Limit (k + 1) Line) } in q) (sym number) in
    stops_at at config text x.quotes (Some (fault.Limit (n + 1) Line)) a b says x.submits

pub middle_fails : {F : Type 0} (at : F → ℕ → SymbolView) (mark : FloorMark) (config : Config) (first before left : Option (List ℕ))
    (reader next : Reading) (a b : Place F)
    → InMiddle at config first before reader.lines reader.bytes reader.held a b → IsCutOff reader next before left
    → IfSome first (λ text. QuotesEnd at mark config text left ReadFault a b)
middle_fails at mark config None before left reader next a b x h = tt
middle_fails at mark config (Some text) before left reader next a b x h =
    let taken = taken_of text left (x.worked ++ next.held) (taken_more (Some text) before left x.worked reader.held next.held x.taken h.reads) in
    let says : file_quotes config (x.worked ++ next.held) ≡ record { quotes = x.quotes; fault = rest_fault (reader.lines + 1) next.held } =
    x.leads next.held ∙ ap (behind x.quotes) (last_rest config reader.lines reader.bytes next.held h.clear)
    ∙ behind_end x.quotes (rest_fault (reader.lines + 1) next.held) in
    record {
      given = x.worked ++ next.held;
      rest = taken.rest;
      whole = taken.whole;
      place_is = subst (λ (k : Option (List ℕ)). MatchOption k (x.worked ++ next.held ≡ []) (λ l. l ≡ taken.rest)) (sym taken.left_is) refl;
      submits = subst (λ (qs : List Submission). Submits at (feed_behind config) qs a b) (sym (ap (λ (q : Quotes). q.quotes) says)) x.submits;
    }

-- none of the quotes that are left was submitted
some_then : {F : Type 0} (at : F → ℕ → SymbolView) (feed : ℕ) (all quotes left : List Submission) (a b c : Place F) → all ≡ quotes ++ left
    → Submits at feed quotes a b → Submits at feed [] b (place c.floor b.clock) → AskedOnce b.clock c.clock → SubmitsSome at feed all a c
some_then at feed all quotes left a b c parts x none asked = record {
  taken = quotes;
  left = left;
  parts = parts;
  between = b.clock;
  submits = subst (λ (qs : List Submission). Submits at feed qs a (place c.floor b.clock)) (append-nil quotes)
      (submits_then at feed quotes [] a b (place c.floor b.clock) x none);
  asked = asked;
}

-- a line ended the file that says this, and then the rest
refused_told : {F : Type 0} (at : F → ℕ → SymbolView) (mark : FloorMark) (config : Config) (text : List ℕ) (left : Option (List ℕ))
    (quotes : List Submission) (meant : Result Submission LineFault) (later : Quotes) (end : QuoteEnd) (a b c : Place F)
    → file_quotes config text ≡ behind quotes (after_quote meant later) → Submits at (feed_behind config) quotes a b
    → LineEnds at mark (feed_behind config) meant end b c → QuotesEnd at mark config text left end a c
unfolding some_then
refused_told at mark config text left quotes meant later Done a b c says x y = absurd y
refused_told at mark config text left quotes meant later ReadFault a b c says x y = absurd y
refused_told at mark config text left quotes meant later (BadLine n cause) a b c says x y =
    let why : Option LineFault = Some (fault.Bad n cause) in
    stops_at at config text quotes why a c
    (says ∙ ap (λ (r : Result Submission LineFault). behind quotes (after_quote r later)) y.0 ∙ behind_end quotes why)
    (subst (Submits at (feed_behind config) quotes a) (sym y.1) x)
refused_told at mark config text left quotes meant later (LimitLine n which) a b c says x y =
    let why : Option LineFault = Some (fault.Limit n which) in
    stops_at at config text quotes why a c
    (says ∙ ap (λ (r : Result Submission LineFault). behind quotes (after_quote r later)) y.0 ∙ behind_end quotes why)
    (subst (Submits at (feed_behind config) quotes a) (sym y.1) x)
refused_told at mark config text left quotes meant later (Full symbol found) a b c says x y =
    let parts : (file_quotes config text).quotes ≡ quotes ++ (y.0 ∷ later.quotes) =
    ap (λ (q : Quotes). q.quotes) (says ∙ ap (λ (r : Result Submission LineFault). behind quotes (after_quote r later)) y.1) in
    record {
      some = some_then at (feed_behind config) (file_quotes config text).quotes quotes (y.0 ∷ later.quotes) a b c parts x y.2.none y.2.asked;
      next = y.2.next;
      found_is = y.2.found_is;
      limit = y.2.limit;
    }
refused_told at mark config text left quotes meant later NoMemory a b c says x y =
    some_then at (feed_behind config) (file_quotes config text).quotes quotes (after_quote meant later).quotes a b c
    (ap (λ (q : Quotes). q.quotes) says) x y.0 y.1

pub middle_refused : {F : Type 0} (at : F → ℕ → SymbolView) (mark : FloorMark) (config : Config) (first before left : Option (List ℕ))
    (reader next : Reading) (line : List ℕ) (is_over : Bool) (n : ℕ) (end : QuoteEnd) (a b c : Place F)
    → InMiddle at config first before reader.lines reader.bytes reader.held a b → HandsOut reader next before left line is_over
    → reader.most ≡ MAX_SCRIPT_BYTES → n ≡ reader.lines
    → LineEnds at mark (feed_behind config) (nth_quote config (n + 1) is_over line) end b c
    → IfSome first (λ text. QuotesEnd at mark config text left end a c)
middle_refused at mark config None before left reader next line is_over n end a b c x h most number y = tt
middle_refused at mark config (Some text) before left reader next line is_over n end a b c x h most number y =
    let taken = taken_of text left (x.worked ++ (line ++ 10 ∷ next.held))
    (taken_more (Some text) before left x.worked reader.held (line ++ 10 ∷ next.held) x.taken h.reads) in
    let more = next.held ++ taken.rest in
    let all : text ≡ x.worked ++ (line ++ 10 ∷ more) =
    taken.whole ∙ append_assoc x.worked (line ++ 10 ∷ next.held) taken.rest
    ∙ ap (λ (t : List ℕ). x.worked ++ t) (append_assoc line (10 ∷ next.held) taken.rest) in
    refused_told at mark config text left x.quotes (nth_quote config (n + 1) is_over line) (quotes_in config next.lines next.bytes more) end a b c
    (ap (file_quotes config) all ∙ x.leads (line ++ 10 ∷ more)
    ∙ ap (behind x.quotes) (line_says config reader next before left line is_over n more h most number)) x.submits y

-- ---- before a line was read

-- no file was begun
not_begun : {F : Type 0} (at : F → ℕ → SymbolView) (mark : FloorMark) (config : Config) (first : Option (List ℕ)) (p : Place F)
    → IfSome first (λ text. QuotesEnd at mark config text None ReadFault p p)
not_begun at mark config None p = tt
not_begun at mark config (Some text) p = record {
  given = [];
  rest = text;
  whole = refl;
  place_is = refl;
  submits = subst (λ (qs : List Submission). Submits at (feed_behind config) qs p p)
      (sym (ap (λ (q : Quotes). q.quotes) (last_rest config 0 0 [] refl))) (submits_none at (feed_behind config) p);
}

pub not_begun_named : {F : Type 0} (at : F → ℕ → SymbolView) (mark : FloorMark) (config : Config) (told : Option Files) (name : List ℕ)
    (left : Option (List ℕ)) (p : Place F) → left ≡ None
    → IfSome told (λ files. IfSome (file_named files name) (λ text. QuotesEnd at mark config text left ReadFault p p))
not_begun_named at mark config None name left p e = tt
not_begun_named at mark config (Some files) name left p e = rw e (not_begun at mark config (file_named files name) p)

no_room : {F : Type 0} (at : F → ℕ → SymbolView) (mark : FloorMark) (config : Config) (first left : Option (List ℕ)) (p : Place F)
    → IfSome first (λ text. QuotesEnd at mark config text left NoMemory p p)
no_room at mark config None left p = tt
no_room at mark config (Some text) left p = record {
  taken = [];
  left = (file_quotes config text).quotes;
  parts = refl;
  between = p.clock;
  submits = submits_none at (feed_behind config) p;
  asked = inl refl;
}

pub no_room_named : {F : Type 0} (at : F → ℕ → SymbolView) (mark : FloorMark) (config : Config) (told : Option Files) (name : List ℕ)
    (left : Option (List ℕ)) (p : Place F)
    → IfSome told (λ files. IfSome (file_named files name) (λ text. QuotesEnd at mark config text left NoMemory p p))
no_room_named at mark config None name left p = tt
no_room_named at mark config (Some files) name left p = no_room at mark config (file_named files name) left p
