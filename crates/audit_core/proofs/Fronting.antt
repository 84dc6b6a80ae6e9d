-- What was read of a listing is a beginning of it.
use Rattle.std.proofs.Common.{ℕ, ◌+◌, inl, inr, List, [], ◌++◌, drop, Option, Some, None, refl, sym, ◌∙◌, ap, subst}
use Rattle.venue_words.specs.declared.config.Config.{Config}
use Rattle.venue_words.specs.declared.report.Report.{Report}
use Rattle.listing.specs.Commands.{name_at}
use Rattle.listing.specs.Lines.{symbol_line, ended}
use Rattle.audit_core.specs.declared.part.OpenPart.{OpenPart}
use Rattle.audit_core.specs.Ahead.{event_lines}
use Rattle.audit_core.specs.Fronts.{BeginsPart, IsFront}
use Rattle.audit_core.specs.Progress.{IsOpen, OpenIf, ReadsPart, Stands}
use Rattle.audit_core.specs.Telling.{Telling, day_text, events_text}

part_begins : (config : Config) (symbol : ℕ) (part : OpenPart) (text : List ℕ) → IsOpen config symbol part → ReadsPart config symbol (Some part) text
    → BeginsPart config symbol part.book.journal text
part_begins config symbol part text opened reads = record {
  within = opened.within;
  numbered = opened.numbered;
  fits = opened.fits;
  event_count = part.counts.events;
  report_count = part.counts.reports;
  later = drop part.told part.book.reports;
  whole = reads ∙ ap (λ (r : List Report). ended (symbol_line (name_at config.symbols symbol) part.counts.events part.counts.reports)
      ++ event_lines config symbol part.book.journal r) opened.reports;
}

pub front_stands : (telling : Telling) (config : Config) (symbol : ℕ) (part : Option OpenPart) (text told : List ℕ) → OpenIf config symbol part
    → Stands telling config symbol part text told → IsFront telling config text told
front_stands telling config symbol None text told opened stands = record {
  parts = stands.parts;
  events = [];
  behind = stands.behind;
  made = stands.made;
  begins = inl (refl, stands.reads);
  whole = stands.whole;
  tells = stands.tells;
}
front_stands telling config symbol (Some part) text told opened stands = record {
  parts = stands.parts;
  events = part.book.journal;
  behind = stands.behind;
  made = stands.made;
  begins = inr (subst (λ (n : ℕ). BeginsPart config n part.book.journal stands.behind) (sym stands.count) (part_begins config symbol part stands.behind opened stands.reads));
  whole = stands.whole;
  tells = stands.tells ∙ ap (λ (n : ℕ). day_text telling config stands.parts ++ events_text telling config n [] part.book.journal) (sym stands.count);
}
