-- The line that comes next is taken, and any other is refused.
use Rattle.std.proofs.Common.{◌≡◌, ℕ, ◌+◌, Bool, true, false, if◌then◌else◌, List, [], ◌∷◌, ◌++◌, length, drop, Option, Some, None, refl, sym, ◌∙◌, ap, subst, append_assoc, arith}
use Rattle.venue_words.specs.Conditions.{IsConfig}
use Rattle.venue_words.specs.declared.config.Config.{Config}
use Rattle.venue_words.specs.declared.command.Event.{Event}
use Rattle.market_laws.specs.Reports.{ReportsAreFew}
use Rattle.script_text.specs.Lines.{has_end}
use Rattle.listing.specs.Commands.{name_at}
use Rattle.listing.specs.Lines.{symbol_line, event_line, ended}
use Rattle.listing.specs.Listing.{RunsAreInOrder}
use Rattle.listing_reader.specs.Fitting.{fits_event, fits_number}
use Rattle.audit_core.specs.declared.part.OpenPart.{OpenPart}
use Rattle.audit_core.specs.Audited.{IsListing}
use Rattle.audit_core.specs.Names.{has_line_names}
use Rattle.audit_core.specs.Ahead.{CountsAre, Completes, CompletesFrom, GoesOn, Awaits, Takes, Refuses, with_part}
use Rattle.audit_core.specs.Progress.{Auditing, IsOpen, Works, Grows, HasRead, Stands, report_lines, is_read, behind_part, end_text}
use Rattle.audit_core.specs.Telling.{Telling}
use Rattle.audit_core.proofs.Coming.{SymbolComes, symbol_comes, report_expected, report_comes, EventComes, event_comes}
use Rattle.audit_core.proofs.Standing.{symbol_stands, report_stands, event_stands, part_behind, read_of, read_is}
use Rattle.audit_core.proofs.Awaiting.{part_awaited}

pub some_is : {A : Type 0} (x y : A) → Some x ≡ Some y → x ≡ y
some_is x y e = cc

-- what was read of a part stands in the auditor, which told this more, and what completes it is awaited
pub record Opens (telling : Telling) (old new : Auditing) (part : OpenPart) (told : List ℕ) : Type 0 where
  pub stands : (text said : List ℕ) → Stands telling old.config old.symbol (Some part) text said → HasRead telling new text (said ++ told)
  pub awaited : (more : List ℕ) → Completes old.config old.symbol part more → Awaits new more

awaited_behind : (config : Config) (symbol : ℕ) (part : OpenPart) (more : List ℕ) → IsOpen config symbol part → Completes config symbol part more
    → Awaits (behind_part config symbol part) more
awaited_behind config symbol part more opened completes = by_case (is_read part) refl
  where
    by_case : (b : Bool) → is_read part ≡ b
        → Awaits (if b then (record { config = config; symbol = symbol + 1; part = None }) else (record { config = config; symbol = symbol; part = Some part })) more
    by_case true is = part_awaited config symbol part more (read_of part opened.told is) completes
    by_case false is = (completes, λ read. let never : true ≡ false = sym (read_is part read) ∙ is in absurd (cc))

-- so they do behind the part
pub opens_behind : (telling : Telling) (old new : Auditing) (part : OpenPart) → IsOpen old.config old.symbol part → new ≡ behind_part old.config old.symbol part
    → Opens telling old new part (end_text telling old.config old.symbol part)
opens_behind telling old new part opened is = record {
  stands = λ text said stands.
      subst (λ (a : Auditing). HasRead telling a text (said ++ end_text telling old.config old.symbol part)) (sym is)
      (part_behind telling old.config old.symbol part text said opened stands);
  awaited = λ more completes.
      subst (λ (a : Auditing). Awaits a more) (sym is) (awaited_behind old.config old.symbol part more opened completes);
}

pub awaits_at_start : (config : Config) (text : List ℕ) → IsListing config text → CompletesFrom config 0 text
awaits_at_start config text is = record { parts = is.parts; each = omega (arith, is.each); made = is.made; spelled = is.spelled }

-- ---- the line of a symbol

between_parts : (old : Auditing) (text : List ℕ) → old.part ≡ None → Awaits old text → CompletesFrom old.config old.symbol text
between_parts old text none awaits = subst (λ (part : Option OpenPart). GoesOn old.config old.symbol part text) none awaits

read_parts : (telling : Telling) (old : Auditing) (text said : List ℕ) → old.part ≡ None → HasRead telling old text said
    → Stands telling old.config old.symbol None text said
read_parts telling old text said none has = subst (λ (part : Option OpenPart). Stands telling old.config old.symbol part text said) none has

-- the part behind the line of a symbol
pub record IsNew (old : Auditing) (part : OpenPart) (text : List ℕ) : Type 0 where
  pub told : part.told ≡ 0
  pub journal : part.book.journal ≡ []
  pub reports : part.book.reports ≡ []
  pub line : symbol_line (name_at old.config.symbols old.symbol) part.counts.events part.counts.reports ≡ text
  pub only : (events reports : ℕ) → fits_number events ≡ true → fits_number reports ≡ true
      → symbol_line (name_at old.config.symbols old.symbol) events reports ≡ text
      → Some part.counts ≡ Some (record { events = events; reports = reports })

pub symbol_takes : (telling : Telling) (old new : Auditing) (part : OpenPart) (text told : List ℕ) → ReportsAreFew → IsConfig old.config
    → has_line_names old.config ≡ true → has_end text ≡ false → old.part ≡ None → IsNew old part text → Opens telling old new part told
    → Takes telling old new text told
symbol_takes telling old new part text told are_few is names clear none made opens = record {
  read = λ before said has.
      opens.stands (before ++ ended text) said
      (symbol_stands telling old.config old.symbol part before said text made.told made.journal made.reports made.line (read_parts telling old before said none has));
  awaited = λ more awaits.
      let comes = symbol_comes old.config old.symbol text more are_few is names clear (between_parts old (ended text ++ more) none awaits) in
      let counts : part.counts ≡ comes.counts = some_is _ _ (made.only comes.counts.events comes.counts.reports comes.few comes.short comes.line) in
      opens.awaited more (comes.next part counts made.told made.journal made.reports);
}

pub symbol_refuses : (old : Auditing) (text : List ℕ) → ReportsAreFew → IsConfig old.config → has_line_names old.config ≡ true
    → has_end text ≡ false → old.part ≡ None → ((more : List ℕ) → SymbolComes old.config old.symbol text more → ⊥) → Refuses old text None
symbol_refuses old text are_few is names clear none never = record {
  none = λ more awaits. never more (symbol_comes old.config old.symbol text more are_few is names clear (between_parts old (ended text ++ more) none awaits));
  told = tt;
}

-- ---- the line of a report

pub report_takes : (telling : Telling) (old new : Auditing) (part next : OpenPart) (line text told : List ℕ)
    → next.book ≡ part.book → next.counts ≡ part.counts → next.told ≡ part.told + 1
    → report_lines old.config old.symbol (drop part.told part.book.reports) ≡ ended line ++ report_lines old.config old.symbol (drop (part.told + 1) part.book.reports)
    → line ≡ text → has_end text ≡ false → Opens telling old new next told → Takes telling (with_part old part) new text told
report_takes telling old new part next line text told book counts next_told lines same clear opens =
    let clear_line : has_end line ≡ false = ap has_end same ∙ clear in
    let told_lines : report_lines old.config old.symbol (drop part.told part.book.reports) ≡ ended text ++ report_lines old.config old.symbol (drop next.told part.book.reports) =
    rw (next_told, ← same) lines in record {
      read = λ before said has.
          opens.stands (before ++ ended text) said (report_stands telling old.config old.symbol part next before said text book counts told_lines has);
      awaited = λ more awaits.
          opens.awaited more (report_comes old.config old.symbol part next line text more book counts next_told lines clear_line clear awaits.0).1;
    }

pub report_refuses : (old : Auditing) (part : OpenPart) (line text : List ℕ)
    → report_lines old.config old.symbol (drop part.told part.book.reports) ≡ ended line ++ report_lines old.config old.symbol (drop (part.told + 1) part.book.reports)
    → has_end line ≡ false → has_end text ≡ false → (line ≡ text → ⊥) → Refuses (with_part old part) text (Some line)
report_refuses old part line text lines clear_line clear other = record {
  none = λ more awaits.
      other (sym (report_comes old.config old.symbol part (record part { told = part.told + 1 }) line text more refl refl refl lines clear_line clear awaits.0).0);
  told = λ more awaits. (_, report_expected old.config old.symbol part line more lines awaits.0);
}

-- ---- the line of an event

-- what every line of an event stands behind
pub record IsTold (old : Auditing) (part : OpenPart) (text : List ℕ) : Type 0 where
  pub in_order : RunsAreInOrder
  pub names : has_line_names old.config ≡ true
  pub opened : IsOpen old.config old.symbol part
  pub told : part.told ≡ length part.book.reports
  pub clear : has_end text ≡ false

comes_next : (old : Auditing) (part : OpenPart) (text more : List ℕ) → IsTold old part text → Awaits (with_part old part) (ended text ++ more)
    → EventComes old.config old.symbol part text more
comes_next old part text more is awaits =
    event_comes is.in_order old.config old.symbol part text more is.names is.opened is.told is.clear awaits.1 awaits.0

pub event_takes : (telling : Telling) (old new : Auditing) (part next : OpenPart) (event : Event) (text told : List ℕ) → IsTold old part text
    → event_line old.config old.symbol event ≡ text
    → ((other : Event) → fits_event old.config other ≡ true → event_line old.config old.symbol other ≡ text → Some event ≡ Some other)
    → Works part next event → Grows old.config old.symbol part next event → Opens telling old new next told
    → Takes telling (with_part old part) new text (telling.event old.config old.symbol next.book.journal ++ told)
event_takes telling old new part next event text told is line only works grows opens = record {
  read = λ before said has.
      subst (HasRead telling new (before ++ ended text)) (append_assoc said (telling.event old.config old.symbol next.book.journal) told)
      (opens.stands (before ++ ended text) (said ++ telling.event old.config old.symbol next.book.journal)
      (event_stands telling old.config old.symbol part next event before said text is.told line works.journal grows has));
  awaited = λ more awaits.
      let comes = comes_next old part text more is awaits in
      let same : event ≡ comes.event = some_is _ _ (only comes.event comes.fits comes.line) in
      opens.awaited more (comes.next next (subst (λ (e : Event). Works part next e) same works));
}

pub event_refuses : (old : Auditing) (part : OpenPart) (text : List ℕ) → IsTold old part text
    → ((event : Event) (later : List Event) → fits_event old.config event ≡ true → event_line old.config old.symbol event ≡ text
    → CountsAre old.config old.symbol part (event ∷ later) → ⊥)
    → Refuses (with_part old part) text None
event_refuses old part text is never = record {
  none = λ more awaits.
      let comes = comes_next old part text more is awaits in
      never comes.event comes.later comes.fits comes.line comes.counts;
  told = tt;
}
