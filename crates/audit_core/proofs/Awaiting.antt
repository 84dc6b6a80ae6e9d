-- What is awaited is what comes, line by line.
use Rattle.std.proofs.Common.{◌≡◌, ◌≤◌, ◌<◌, ℕ, zero, suc, ◌+◌, Bool, true, false, List, [], ◌∷◌, ◌++◌, length, drop, get_or, Option, Some, None, refl, sym, ◌∙◌, ap, subst, append_assoc, append-nil, arith}
use Rattle.std.specs.Prelude.{◌||◌, ◌==◌}
use Rattle.std.specs.List.{AllByRecursion}
use Rattle.std.proofs.lemmas.Bool.{or_parts}
use Rattle.std.proofs.lemmas.List.{length-append, length-drop, drop_all}
use Rattle.std.proofs.lemmas.List.Folds.{list_any-append}
use Rattle.venue_words.specs.Conditions.{IsConfig, IsEventLimit}
use Rattle.venue_words.specs.declared.limits.TheConstants.{MAX_EVENTS}
use Rattle.venue_words.specs.declared.config.Config.{Config}
use Rattle.venue_words.specs.declared.command.Event.{Event}
use Rattle.venue_words.specs.declared.report.Report.{Report}
use Rattle.script_text.specs.Lines.{has_end}
use Rattle.listing.specs.Commands.{name_at}
use Rattle.listing.specs.Lines.{symbol_line, event_line, report_line, ended}
use Rattle.listing.specs.Listing.{Part, listing_from, part_text, reports_for}
use Rattle.audit_core.specs.declared.part.OpenPart.{OpenPart}
use Rattle.audit_core.specs.Audited.{limit_at, run_of}
use Rattle.audit_core.specs.Ahead.{CountsAre, Completes, CompletesFrom, GoesOn, event_lines}
use Rattle.audit_core.specs.Progress.{IsOpen, IsRead, OpenIf, report_lines}
use Rattle.audit_core.proofs.Growing.{text_of_event}

-- ---- the first line of a text

line_is : (a b x y : List ℕ) → has_end a ≡ false → has_end b ≡ false → a ++ 10 ∷ x ≡ b ++ 10 ∷ y → (a ≡ b) × (x ≡ y)
line_is [] [] x y ca cb e = (refl, cc)
line_is [] (b ∷ ds) x y ca cb e =
    let here : b ≡ 10 = cc in
    let never : true ≡ false = subst (λ (k : ℕ). has_end (k ∷ ds) ≡ false) here cb in
    absurd (cc)
line_is (a ∷ cs) [] x y ca cb e =
    let here : a ≡ 10 = cc in
    let never : true ≡ false = subst (λ (k : ℕ). has_end (k ∷ cs) ≡ false) here ca in
    absurd (cc)
line_is (a ∷ cs) (b ∷ ds) x y ca cb e =
    let here : a ≡ b = cc in
    let there : cs ++ 10 ∷ x ≡ ds ++ 10 ∷ y = cc in
    let more = line_is cs ds x y (later a cs ca) (later b ds cb) there in
    (ap (λ (k : ℕ). k ∷ cs) here ∙ ap (λ (l : List ℕ). b ∷ l) more.0, more.1)
  where
    or_right : (p q : Bool) → (p || q) ≡ false → q ≡ false
    or_right true q h = absurd (cc)
    or_right false q h = h

    later : (c : ℕ) (cs : List ℕ) → has_end (c ∷ cs) ≡ false → has_end cs ≡ false
    later c cs h = or_right (c == 10) (has_end cs) h

pub ended_more : (line more : List ℕ) → ended line ++ more ≡ line ++ 10 ∷ more
ended_more line more = append_assoc line (10 ∷ []) more

-- two texts that begin with a line each and are the same have the same line, and the same behind it
pub same_line : (a b x y : List ℕ) → has_end a ≡ false → has_end b ≡ false → ended a ++ x ≡ ended b ++ y → (a ≡ b) × (x ≡ y)
same_line a b x y ca cb e = line_is a b x y ca cb (sym (ended_more a x) ∙ e ∙ ended_more b y)

pub ends_here : (line more : List ℕ) → has_end (line ++ 10 ∷ more) ≡ true
ends_here [] more = refl
ends_here (b ∷ line) more = or_true (b == 10) (has_end (line ++ 10 ∷ more)) (ends_here line more)
  where
    or_true : (p q : Bool) → q ≡ true → (p || q) ≡ true
    or_true true q h = refl
    or_true false q h = h

-- what begins with a line is no text in which no line ends
pub no_line : (line more text : List ℕ) → text ≡ ended line ++ more → has_end text ≡ false → ⊥
no_line line more text e clear =
    let never : true ≡ false = sym (ends_here line more) ∙ ap has_end (sym (e ∙ ended_more line more)) ∙ clear in
    absurd (cc)

-- ---- the parts behind the one that is read

-- the part of the first of these symbols
pub front_of_part : (config : Config) (symbol : ℕ) (part : Part) (parts : List Part)
    → listing_from config symbol (part ∷ parts)
    ≡ ended (symbol_line (name_at config.symbols symbol) (length part.journal) (length part.reports))
    ++ (event_lines config symbol part.journal part.reports ++ listing_from config (symbol + 1) parts)
unfolding part_text
front_of_part config symbol part parts =
    append_assoc (ended (symbol_line (name_at config.symbols symbol) (length part.journal) (length part.reports)))
    (event_lines config symbol part.journal part.reports) (listing_from config (symbol + 1) parts)

-- with no line ahead no symbol is
pub no_more_parts : (config : Config) (symbol : ℕ) (text : List ℕ) → CompletesFrom config symbol text → has_end text ≡ false
    → (symbol ≡ length config.symbols) × (text ≡ [])
no_more_parts config symbol text completes clear =
    elim completes.parts as (λ (parts : List Part). symbol + length parts ≡ length config.symbols → text ≡ listing_from config symbol parts
    → (symbol ≡ length config.symbols) × (text ≡ [])) [
      | [] ↦ λ each spelled. (omega (arith, each), spelled)
      | (part ∷ parts) ↦ λ each spelled. absurd (no_line _ _ text (spelled ∙ front_of_part config symbol part parts) clear)
    ] completes.each completes.spelled

-- ---- the part that is read

-- an event's lines, with others behind them
pub event_front : (config : Config) (symbol : ℕ) (event : Event) (later : List Event) (reports : List Report) (more : List ℕ)
    → event_lines config symbol (event ∷ later) reports ++ more
    ≡ ended (event_line config symbol event)
    ++ (report_lines config symbol (reports_for event reports) ++ (event_lines config symbol later reports ++ more))
event_front config symbol event later reports more =
    let line = ended (event_line config symbol event) in
    let told = report_lines config symbol (reports_for event reports) in
    let rest = event_lines config symbol later reports in
    ap (λ (t : List ℕ). (t ++ rest) ++ more) (text_of_event config symbol event (reports_for event reports))
    ∙ append_assoc (line ++ told) rest more
    ∙ append_assoc line told (rest ++ more)

-- where no event is to come, and all reports were told, the part was read
pub all_was_read : (config : Config) (symbol : ℕ) (part : OpenPart) → IsOpen config symbol part → CountsAre config symbol part []
    → part.told ≡ length part.book.reports → IsRead part
all_was_read config symbol part opened counts told =
    let same : part.book.journal ++ [] ≡ part.book.journal = append-nil part.book.journal in
    record {
      events = sym (counts.events ∙ ap length same);
      reports = ap length opened.reports ∙ sym (counts.reports ∙ ap (λ (j : List Event). length (run_of config symbol j).reports) same);
      told = told;
    }

-- where the part was read no event is to come
none_later : (config : Config) (symbol : ℕ) (part : OpenPart) (later : List Event) → IsRead part → CountsAre config symbol part later → later ≡ []
none_later config symbol part [] read counts = refl
none_later config symbol part (event ∷ later) read counts =
    absurd (omega (arith, read.events, counts.events, length-append part.book.journal (event ∷ later)))

-- a part that was read is followed by the next one
pub part_awaited : (config : Config) (symbol : ℕ) (part : OpenPart) (text : List ℕ) → IsRead part → Completes config symbol part text
    → CompletesFrom config (symbol + 1) text
part_awaited config symbol part text read completes =
    let none : completes.later ≡ [] = none_later config symbol part completes.later read completes.counts in
    let told : drop part.told part.book.reports ≡ [] = drop_all part.told part.book.reports (omega (arith, read.told)) in
    record {
      parts = completes.parts;
      each = completes.each;
      made = completes.made;
      spelled = completes.spelled
          ∙ ap (λ (r : List Report). report_lines config symbol r
          ++ (event_lines config symbol completes.later (run_of config symbol (part.book.journal ++ completes.later)).reports ++ listing_from config (symbol + 1) completes.parts)) told
          ∙ ap (λ (l : List Event). event_lines config symbol l (run_of config symbol (part.book.journal ++ completes.later)).reports ++ listing_from config (symbol + 1) completes.parts) none;
    }

-- ---- the end

clear_parts : (a b : List ℕ) → has_end (a ++ b) ≡ false → (has_end a ≡ false) × (has_end b ≡ false)
clear_parts a b h = or_parts (has_end a) (has_end b) (sym (list_any-append (λ c. c == 10) a b) ∙ h)

no_events : (config : Config) (symbol : ℕ) (part : OpenPart) (later : List Event) (more : List ℕ) → IsOpen config symbol part → (IsRead part → ⊥)
    → part.told ≡ length part.book.reports → CountsAre config symbol part later
    → has_end (event_lines config symbol later (run_of config symbol (part.book.journal ++ later)).reports ++ more) ≡ false → ⊥
no_events config symbol part [] more opened unread told counts clear = unread (all_was_read config symbol part opened counts told)
no_events config symbol part (event ∷ later) more opened unread told counts clear =
    no_line _ _ _ (event_front config symbol event later (run_of config symbol (part.book.journal ++ event ∷ later)).reports more) clear

no_reports : (config : Config) (symbol : ℕ) (reports : List Report) → has_end (report_lines config symbol reports) ≡ false → reports ≡ []
no_reports config symbol [] clear = refl
no_reports config symbol (report ∷ reports) clear =
    absurd (no_line (report_line config symbol report) (report_lines config symbol reports) (report_lines config symbol (report ∷ reports)) refl clear)

all_dropped : (n : ℕ) (reports : List Report) → drop n reports ≡ [] → length reports ≤ n
all_dropped n reports none = omega (arith, length-drop n reports, ap length none)

-- while a part is not read, a line is to come
part_unfinished : (config : Config) (symbol : ℕ) (part : OpenPart) (rest : List ℕ) → IsOpen config symbol part → (IsRead part → ⊥)
    → Completes config symbol part rest → has_end rest ≡ false → ⊥
part_unfinished config symbol part rest opened unread completes clear =
    let parts = clear_parts (report_lines config symbol (drop part.told part.book.reports))
    (event_lines config symbol completes.later (run_of config symbol (part.book.journal ++ completes.later)).reports ++ listing_from config (symbol + 1) completes.parts)
    (ap has_end (sym completes.spelled) ∙ clear) in
    let none = no_reports config symbol (drop part.told part.book.reports) parts.0 in
    let few : length part.book.reports ≤ part.told = all_dropped part.told part.book.reports none in
    let told : part.told ≡ length part.book.reports = omega (arith, few, opened.told) in
    no_events config symbol part completes.later (listing_from config (symbol + 1) completes.parts) opened unread told completes.counts parts.1

-- where no line is awaited, all was read
pub awaits_end : (config : Config) (symbol : ℕ) (part : Option OpenPart) (rest : List ℕ) → OpenIf config symbol part → has_end rest ≡ false
    → GoesOn config symbol part rest → (part ≡ None) × (symbol ≡ length config.symbols) × (rest ≡ [])
awaits_end config symbol None rest opened clear awaits = let none = no_more_parts config symbol rest awaits clear in (refl, none.0, none.1)
awaits_end config symbol (Some part) rest opened clear awaits = absurd (part_unfinished config symbol part rest opened awaits.1 awaits.0 clear)

-- ---- the line of a symbol

symbol_limit : (limits : List ℕ) (symbol : ℕ) → AllByRecursion IsEventLimit limits → symbol < length limits → get_or limits symbol 0 ≤ MAX_EVENTS
symbol_limit [] symbol all l = absurd (omega arith)
symbol_limit (limit ∷ limits) zero all l = all.0.1
symbol_limit (limit ∷ limits) (suc symbol) all l = symbol_limit limits symbol all.1 (omega arith)

pub limit_small : (config : Config) (symbol : ℕ) → IsConfig config → symbol < length config.symbols → limit_at config symbol ≤ MAX_EVENTS
limit_small config symbol is l = symbol_limit config.limits symbol is.limits (omega (arith, is.limit_each))
