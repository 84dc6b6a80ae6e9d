-- What was read stands as far as the next line goes.
use Rattle.std.proofs.Common.{◌≡◌, ◌≤◌, ◌<◌, ℕ, suc, ◌+◌, ◌==◌, Bool, true, false, if◌then◌else◌, List, [], ◌∷◌, ◌++◌, length, drop, Some, None, refl, sym, ◌∙◌, ap, subst, append_assoc, append-nil, arith}
use Rattle.std.specs.Prelude.{◌&&◌}
use Rattle.std.proofs.lemmas.Bool.{and_parts, and_from, eqb-true, eq-eqb}
use Rattle.std.proofs.lemmas.List.{length-append, drop_all}
use Rattle.venue_words.specs.declared.config.Config.{Config}
use Rattle.venue_words.specs.declared.command.Event.{Event}
use Rattle.venue_words.specs.declared.report.Report.{Report}
use Rattle.listing.specs.Commands.{name_at}
use Rattle.symbol_book.specs.Book.{BookView}
use Rattle.listing.specs.Lines.{symbol_line, event_line, ended}
use Rattle.listing.specs.Listing.{Part, listing, listing_from, part_text}
use Rattle.audit_core.specs.declared.part.OpenPart.{OpenPart}
use Rattle.audit_core.specs.Audited.{IsPart, AreParts}
use Rattle.audit_core.specs.Progress.{IsOpen, IsRead, Grows, Stands, ReadsPart, report_lines, part_front, is_read, Auditing, OpenIf, HasRead, behind_part, end_text}
use Rattle.audit_core.specs.Telling.{Telling, Lists, day_text, day_text_from, events_text, journal_text}

-- ---- the start and the end

pub stands_at_start : (telling : Telling) (config : Config) → Stands telling config 0 None [] []
stands_at_start telling config = record {
  parts = [];
  behind = [];
  count = refl;
  made = tt;
  reads = refl;
  whole = refl;
  tells = refl;
}

pub whole_listing : (telling : Telling) (config : Config) (symbol : ℕ) (text told : List ℕ) → symbol ≡ length config.symbols
    → Stands telling config symbol None text told → Lists telling config text told
whole_listing telling config symbol text told last stands = record {
  parts = stands.parts;
  each = stands.count ∙ last;
  made = stands.made;
  spelled = stands.whole ∙ ap (λ (rest : List ℕ). listing config stands.parts ++ rest) stands.reads ∙ append-nil (listing config stands.parts);
  tells = stands.tells ∙ append-nil (day_text telling config stands.parts);
}

-- ---- lines

-- a line behind what was read
line_behind : (listed behind before line : List ℕ) → before ≡ listed ++ behind → before ++ line ≡ listed ++ (behind ++ line)
line_behind listed behind before line whole = ap (λ (b : List ℕ). b ++ line) whole ∙ append_assoc listed behind line

-- the line of a symbol begins its part
pub symbol_stands : (telling : Telling) (config : Config) (symbol : ℕ) (part : OpenPart) (before said text : List ℕ)
    → part.told ≡ 0 → part.book.journal ≡ [] → part.book.reports ≡ []
    → symbol_line (name_at config.symbols symbol) part.counts.events part.counts.reports ≡ text
    → Stands telling config symbol None before said → Stands telling config symbol (Some part) (before ++ ended text) said
symbol_stands telling config symbol part before said text told journal reports line stands = record {
  parts = stands.parts;
  behind = ended text;
  count = stands.count;
  made = stands.made;
  reads = rw (told, journal, reports, line) refl;
  whole = line_behind (listing config stands.parts) stands.behind before (ended text) stands.whole
      ∙ ap (λ (b : List ℕ). listing config stands.parts ++ (b ++ ended text)) stands.reads;
  tells = stands.tells ∙ ap (λ (j : List Event). day_text telling config stands.parts ++ events_text telling config symbol [] j) (sym journal);
}

reads_line : (behind line rest front : List ℕ) → behind ++ (line ++ rest) ≡ front → (behind ++ line) ++ rest ≡ front
reads_line behind line rest front e = append_assoc behind line rest ∙ e

-- the line of the report that comes next
pub report_stands : (telling : Telling) (config : Config) (symbol : ℕ) (part next : OpenPart) (before said line : List ℕ)
    → next.book ≡ part.book → next.counts ≡ part.counts
    → report_lines config symbol (drop part.told part.book.reports) ≡ ended line ++ report_lines config symbol (drop next.told part.book.reports)
    → Stands telling config symbol (Some part) before said → Stands telling config symbol (Some next) (before ++ ended line) said
report_stands telling config symbol part next before said line book counts told stands = record {
  parts = stands.parts;
  behind = stands.behind ++ ended line;
  count = stands.count;
  made = stands.made;
  reads = rw (book, counts) (reads_line stands.behind (ended line) (report_lines config symbol (drop next.told part.book.reports)) (part_front config symbol part)
      (ap (λ (l : List ℕ). stands.behind ++ l) (sym told) ∙ stands.reads));
  whole = line_behind (listing config stands.parts) stands.behind before (ended line) stands.whole;
  tells = stands.tells ∙ ap (λ (b : BookView). day_text telling config stands.parts ++ events_text telling config symbol [] b.journal) (sym book);
}

-- all reports of the events were read
pub all_read : (config : Config) (symbol : ℕ) (part : OpenPart) (behind : List ℕ) → part.told ≡ length part.book.reports
    → ReadsPart config symbol (Some part) behind → behind ≡ part_front config symbol part
all_read config symbol part behind told reads =
    let none : drop part.told part.book.reports ≡ [] = drop_all part.told part.book.reports (omega (arith, told)) in
    sym (append-nil behind) ∙ ap (λ (r : List Report). behind ++ report_lines config symbol r) (sym none) ∙ reads

-- one more event is told of behind those before
pub told_more : (telling : Telling) (config : Config) (symbol : ℕ) (before events : List Event) (event : Event)
    → events_text telling config symbol before (events ++ event ∷ [])
    ≡ events_text telling config symbol before events ++ telling.event config symbol (before ++ (events ++ event ∷ []))
told_more telling config symbol before [] event = append-nil (telling.event config symbol (before ++ event ∷ []))
told_more telling config symbol before (e ∷ events) event =
    let here = telling.event config symbol (before ++ e ∷ []) in
    ap (λ (t : List ℕ). here ++ t) (told_more telling config symbol (before ++ e ∷ []) events event)
    ∙ sym (append_assoc here (events_text telling config symbol (before ++ e ∷ []) events) (telling.event config symbol ((before ++ e ∷ []) ++ (events ++ event ∷ []))))
    ∙ ap (λ (j : List Event). (here ++ events_text telling config symbol (before ++ e ∷ []) events) ++ telling.event config symbol j)
    (append_assoc before (e ∷ []) (events ++ event ∷ []))

tells_event : (telling : Telling) (config : Config) (symbol : ℕ) (parts said : List ℕ) (old new : List Event) (event : Event) → new ≡ old ++ event ∷ []
    → said ≡ parts ++ events_text telling config symbol [] old
    → said ++ telling.event config symbol new ≡ parts ++ events_text telling config symbol [] new
tells_event telling config symbol parts said old new event journal tells =
    ap (λ (t : List ℕ). t ++ telling.event config symbol new) tells
    ∙ append_assoc parts (events_text telling config symbol [] old) (telling.event config symbol new)
    ∙ ap (λ (j : List Event). parts ++ (events_text telling config symbol [] old ++ telling.event config symbol j)) journal
    ∙ ap (λ (t : List ℕ). parts ++ t) (sym (told_more telling config symbol [] old event))
    ∙ ap (λ (j : List Event). parts ++ events_text telling config symbol [] j) (sym journal)

-- the line of an event
pub event_stands : (telling : Telling) (config : Config) (symbol : ℕ) (part next : OpenPart) (event : Event) (before said text : List ℕ)
    → part.told ≡ length part.book.reports → event_line config symbol event ≡ text → next.book.journal ≡ part.book.journal ++ event ∷ []
    → Grows config symbol part next event → Stands telling config symbol (Some part) before said
    → Stands telling config symbol (Some next) (before ++ ended text) (said ++ telling.event config symbol next.book.journal)
event_stands telling config symbol part next event before said text told line journal grows stands = record {
  parts = stands.parts;
  behind = stands.behind ++ ended text;
  count = stands.count;
  made = stands.made;
  reads = reads_line stands.behind (ended text) (report_lines config symbol (drop next.told next.book.reports)) (part_front config symbol next)
      (ap (λ (b : List ℕ). b ++ (ended text ++ report_lines config symbol (drop next.told next.book.reports))) (all_read config symbol part stands.behind told stands.reads)
      ∙ ap (λ (t : List ℕ). part_front config symbol part ++ (ended t ++ report_lines config symbol (drop next.told next.book.reports))) (sym line)
      ∙ sym grows.front);
  whole = line_behind (listing config stands.parts) stands.behind before (ended text) stands.whole;
  tells = tells_event telling config symbol (day_text telling config stands.parts) said part.book.journal next.book.journal event journal stands.tells;
}

-- ---- a part that was read

add_suc : (n : ℕ) (parts : List Part) → (n + 1) + length parts ≡ n + suc (length parts)
add_suc n parts = omega arith

plus_nothing : (n : ℕ) → n + 0 ≡ n
plus_nothing n = omega arith

listed_more : (config : Config) (n : ℕ) (parts : List Part) (part : Part)
    → listing_from config n (parts ++ part ∷ []) ≡ listing_from config n parts ++ part_text config (n + length parts) part.journal part.reports
listed_more config n [] part =
    append-nil (part_text config n part.journal part.reports) ∙ ap (λ (k : ℕ). part_text config k part.journal part.reports) (sym (plus_nothing n))
listed_more config n (p ∷ parts) part =
    ap (λ (l : List ℕ). part_text config n p.journal p.reports ++ l) (listed_more config (n + 1) parts part)
    ∙ ap (λ (k : ℕ). part_text config n p.journal p.reports ++ (listing_from config (n + 1) parts ++ part_text config k part.journal part.reports)) (add_suc n parts)
    ∙ sym (append_assoc (part_text config n p.journal p.reports) (listing_from config (n + 1) parts) (part_text config (n + suc (length parts)) part.journal part.reports))

parts_more : (config : Config) (n : ℕ) (parts : List Part) (part : Part) → AreParts config n parts → IsPart config (n + length parts) part
    → AreParts config n (parts ++ part ∷ [])
parts_more config n [] part made is = (subst (λ (k : ℕ). IsPart config k part) (plus_nothing n) is, tt)
parts_more config n (p ∷ parts) part made is =
    (made.0, parts_more config (n + 1) parts part made.1 (subst (λ (k : ℕ). IsPart config k part) (sym (add_suc n parts)) is))

-- the part of a book whose events are all that its line counts
pub is_part : (config : Config) (symbol : ℕ) (part : OpenPart) → IsOpen config symbol part → IsRead part
    → IsPart config symbol (record { journal = part.book.journal; reports = part.book.reports })
is_part config symbol part opened read = record {
  numbered = opened.numbered;
  fits = opened.fits;
  few = omega (arith, opened.few, opened.counted);
  reports = opened.reports;
}

front_whole : (config : Config) (symbol : ℕ) (part : OpenPart) → IsRead part
    → part_front config symbol part ≡ part_text config symbol part.book.journal part.book.reports
unfolding part_text
front_whole config symbol part read = rw (read.events, read.reports) refl

told_all : (telling : Telling) (config : Config) (n : ℕ) (parts : List Part) (part : Part)
    → day_text_from telling config n (parts ++ part ∷ [])
    ≡ day_text_from telling config n parts ++ journal_text telling config (n + length parts) part.journal
told_all telling config n [] part =
    append-nil (journal_text telling config n part.journal) ∙ ap (λ (k : ℕ). journal_text telling config k part.journal) (sym (plus_nothing n))
told_all telling config n (p ∷ parts) part =
    ap (λ (l : List ℕ). journal_text telling config n p.journal ++ l) (told_all telling config (n + 1) parts part)
    ∙ ap (λ (k : ℕ). journal_text telling config n p.journal ++ (day_text_from telling config (n + 1) parts ++ journal_text telling config k part.journal)) (add_suc n parts)
    ∙ sym (append_assoc (journal_text telling config n p.journal) (day_text_from telling config (n + 1) parts) (journal_text telling config (n + suc (length parts)) part.journal))

pub part_stands : (telling : Telling) (config : Config) (symbol : ℕ) (part : OpenPart) (text said : List ℕ) → IsOpen config symbol part → IsRead part
    → Stands telling config symbol (Some part) text said
    → Stands telling config (symbol + 1) None text (said ++ telling.end config symbol part.book.journal)
part_stands telling config symbol part text said opened read stands =
    let p : Part = record { journal = part.book.journal; reports = part.book.reports } in
    let all = all_read config symbol part stands.behind read.told stands.reads ∙ front_whole config symbol part read in
    let place : 0 + length stands.parts ≡ symbol = omega (arith, stands.count) in
    let day = day_text telling config stands.parts in
    let events = events_text telling config symbol [] part.book.journal in
    let end = telling.end config symbol part.book.journal in record {
      parts = stands.parts ++ p ∷ [];
      behind = [];
      count = omega (arith, length-append stands.parts (p ∷ []), stands.count);
      made = parts_more config 0 stands.parts p stands.made (subst (λ (k : ℕ). IsPart config k p) (sym place) (is_part config symbol part opened read));
      reads = refl;
      whole = stands.whole ∙ ap (λ (b : List ℕ). listing config stands.parts ++ b) all
          ∙ ap (λ (k : ℕ). listing config stands.parts ++ part_text config k p.journal p.reports) (sym place)
          ∙ sym (listed_more config 0 stands.parts p) ∙ sym (append-nil (listing config (stands.parts ++ p ∷ [])));
      tells = ap (λ (t : List ℕ). t ++ end) stands.tells ∙ append_assoc day events end
          ∙ ap (λ (k : ℕ). day ++ journal_text telling config k p.journal) (sym place)
          ∙ sym (told_all telling config 0 stands.parts p) ∙ sym (append-nil (day_text telling config (stands.parts ++ p ∷ [])));
    }

-- ---- behind a line of a part

pub read_of : (part : OpenPart) → part.told ≤ length part.book.reports → is_read part ≡ true → IsRead part
read_of part within is =
    let both = and_parts ((length part.book.journal == part.counts.events) && (length part.book.reports == part.counts.reports)) (part.told == part.counts.reports) is in
    let counts = and_parts (length part.book.journal == part.counts.events) (length part.book.reports == part.counts.reports) both.0 in
    let reports : length part.book.reports ≡ part.counts.reports = eqb-true _ _ counts.1 in
    let told : part.told ≡ part.counts.reports = eqb-true _ _ both.1 in record {
      events = eqb-true _ _ counts.0;
      reports = reports;
      told = told ∙ sym reports;
    }

pub read_is : (part : OpenPart) → IsRead part → is_read part ≡ true
read_is part read =
    and_from ((length part.book.journal == part.counts.events) && (length part.book.reports == part.counts.reports)) (part.told == part.counts.reports)
    (and_from (length part.book.journal == part.counts.events) (length part.book.reports == part.counts.reports) (eq-eqb _ _ read.events) (eq-eqb _ _ read.reports))
    (eq-eqb _ _ (read.told ∙ read.reports))

-- what was read of a part stands behind it, and its end is told
pub part_behind : (telling : Telling) (config : Config) (symbol : ℕ) (part : OpenPart) (text said : List ℕ) → IsOpen config symbol part
    → Stands telling config symbol (Some part) text said
    → HasRead telling (behind_part config symbol part) text (said ++ end_text telling config symbol part)
part_behind telling config symbol part text said opened stands = by_case (is_read part) refl
  where
    by_case : (b : Bool) → is_read part ≡ b
        → HasRead telling (if b then (record { config = config; symbol = symbol + 1; part = None }) else (record { config = config; symbol = symbol; part = Some part }))
        text (said ++ (if b then telling.end config symbol part.book.journal else []))
    by_case true is = part_stands telling config symbol part text said opened (read_of part opened.told is) stands
    by_case false is = subst (Stands telling config symbol (Some part) text) (sym (append-nil said)) stands

pub opened_behind : (config : Config) (symbol : ℕ) (part : OpenPart) → IsOpen config symbol part
    → OpenIf (behind_part config symbol part).config (behind_part config symbol part).symbol (behind_part config symbol part).part
opened_behind config symbol part opened = by_case (is_read part)
  where
    next : Bool → Auditing
    next b = if b then (record { config = config; symbol = symbol + 1; part = None }) else (record { config = config; symbol = symbol; part = Some part })

    by_case : (b : Bool) → OpenIf (next b).config (next b).symbol (next b).part
    by_case true = tt
    by_case false = opened

pub config_behind : (config : Config) (symbol : ℕ) (part : OpenPart) → (behind_part config symbol part).config ≡ config
config_behind config symbol part = by_case (is_read part)
  where
    by_case : (b : Bool)
        → (let next : Auditing = if b then (record { config = config; symbol = symbol + 1; part = None }) else (record { config = config; symbol = symbol; part = Some part }) in next).config ≡ config
    by_case true = refl
    by_case false = refl

-- with one more report told the part is open
pub report_opens : (config : Config) (symbol : ℕ) (part : OpenPart) → IsOpen config symbol part → part.told < length part.book.reports
    → IsOpen config symbol (record { counts = part.counts; book = part.book; told = part.told + 1 })
report_opens config symbol part opened more = record {
  within = opened.within;
  markets = opened.markets;
  tick = opened.tick;
  limit = opened.limit;
  reports = opened.reports;
  numbered = opened.numbered;
  fits = opened.fits;
  told = omega (arith, more);
  few = opened.few;
  counted = opened.counted;
}
