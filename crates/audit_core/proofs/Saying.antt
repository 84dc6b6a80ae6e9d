-- What is said at a line, and where it stops.
use Rattle.std.proofs.Common.{◌≡◌, ◌+◌, inl, inr, Bool, true, false, if◌then◌else◌, List, [], ◌∷◌, ◌++◌, Some, None, refl, sym, ◌∙◌, subst, append-nil}
use Rattle.std.specs.Prelude.{ℕ}
use Rattle.listing.specs.Lines.{ended}
use Rattle.listing.proofs.Handed.{appends_none, hands_none, hands_trans, stops_after, stops_early}
use Rattle.venue_words.specs.declared.config.Config.{Config}
use Rattle.venue_words.specs.declared.command.Event.{Event}
use Rattle.audit_core.specs.declared.part.OpenPart.{OpenPart}
use Rattle.audit_core.specs.declared.reading.Auditor.{Auditor}
use Rattle.audit_core.specs.Ahead.{GoesBehind, IsHeard, Reaches, StopsIn, Takes, at}
use Rattle.audit_core.proofs.Standing.{config_behind, opened_behind}
use Rattle.audit_core.proofs.Taking.{Opens, opens_behind}
use Rattle.audit_core.specs.Progress.{Auditing, HasRead, IsOpen, OpenIf, behind_part, end_text, is_read}
use Rattle.audit_core.specs.Telling.{Begins, Output, Says, Telling}

-- ---- nothing more

pub says_none : (from to : Output) → to ≡ from → Says from to []
says_none from to same = subst (λ (o : Output). Says from o []) (sym same) (hands_none from.told from.held from.held [] (sym (append-nil from.held)))

pub begins_none : (from to : Output) (text : List ℕ) → to ≡ from → Begins from to text
begins_none from to text same = subst (λ (o : Output). Begins from o text) (sym same) (0, appends_none from.told)

pub reaches_none : (telling : Telling) (old : Auditing) → OpenIf old.config old.symbol old.part → Reaches telling old [] []
reaches_none telling old opened = record {
  new = old;
  config = refl;
  opened = opened;
  read = λ before said has.
      subst (λ (b : List ℕ). HasRead telling old b (said ++ [])) (sym (append-nil before)) (subst (HasRead telling old before) (sym (append-nil said)) has);
}

-- telling stopped before the line was taken
pub stops_before : (telling : Telling) (old : Auditing) (line : List ℕ) (from to : Output) → OpenIf old.config old.symbol old.part → to ≡ from
    → StopsIn telling old line from to
stops_before telling old line from to opened same = record {
  lines = [];
  only = inl refl;
  told = [];
  reached = reaches_none telling old opened;
  begun = begins_none from to [] same;
}

-- ---- at a line

pub reaches_line : (telling : Telling) (old new : Auditing) (line told : List ℕ) → new.config ≡ old.config → OpenIf new.config new.symbol new.part
    → Takes telling old new line told → Reaches telling old (line ∷ []) told
reaches_line telling old new line told config opened takes = record {
  new = new;
  config = config;
  opened = opened;
  read = λ before said has.
      subst (λ (t : List ℕ). HasRead telling new (before ++ t) (said ++ told)) (sym (append-nil (ended line))) (takes.read before said has);
}

-- telling stopped at the line
pub stops_at : (telling : Telling) (old new : Auditing) (line told : List ℕ) (from to : Output) → new.config ≡ old.config
    → OpenIf new.config new.symbol new.part → Takes telling old new line told → Begins from to told → StopsIn telling old line from to
stops_at telling old new line told from to config opened takes begun = record {
  lines = line ∷ [];
  only = inr refl;
  told = told;
  reached = reaches_line telling old new line told config opened takes;
  begun = begun;
}

-- ---- one text behind another

pub says_both : (from mid to : Output) (first second : List ℕ) → Says from mid first → Says mid to second → Says from to (first ++ second)
says_both from mid to first second p q = hands_trans from.told mid.told to.told from.held mid.held to.held first second p q

-- it stopped in the second
pub begins_second : (from mid to : Output) (first second : List ℕ) → Says from mid first → Begins mid to second → Begins from to (first ++ second)
begins_second from mid to first second p q = stops_after from.told mid.told to.told from.held mid.held first second p q

-- it stopped in the first
pub begins_first : (from to : Output) (first second : List ℕ) → Begins from to first → Begins from to (first ++ second)
begins_first from to first second p = stops_early from.told to.told from.held first second p

-- ---- behind a line of a part

-- the end of a part that was read
pub goes_whole : (telling : Telling) (Heard : Config → ℕ → List Event → Type 0) (config : Config) (symbol : ℕ) (part : OpenPart) (auditor : Auditor)
    (from to : Output) → is_read part ≡ true → IsHeard Heard config auditor → auditor.symbol ≡ symbol + 1 → auditor.part ≡ None
    → Says from to (telling.end config symbol part.book.journal) → GoesBehind telling Heard config symbol part auditor from to
goes_whole telling Heard config symbol part auditor from to is stands next none said = record {
  stands = stands;
  behind = subst
      (λ (b : Bool). at config auditor ≡ (if b then (record { config = config; symbol = symbol + 1; part = None }) else (record { config = config; symbol = symbol; part = Some part })))
      (sym is) (rw (next, none) refl);
  said = subst (λ (b : Bool). Says from to (if b then telling.end config symbol part.book.journal else [])) (sym is) said;
}

-- a part that goes on
pub goes_on : (telling : Telling) (Heard : Config → ℕ → List Event → Type 0) (config : Config) (symbol : ℕ) (part : OpenPart) (auditor : Auditor)
    (from : Output) → is_read part ≡ false → IsHeard Heard config auditor → auditor.symbol ≡ symbol → auditor.part ≡ Some part
    → GoesBehind telling Heard config symbol part auditor from from
goes_on telling Heard config symbol part auditor from is stands same some = record {
  stands = stands;
  behind = subst
      (λ (b : Bool). at config auditor ≡ (if b then (record { config = config; symbol = symbol + 1; part = None }) else (record { config = config; symbol = symbol; part = Some part })))
      (sym is) (rw (same, some) refl);
  said = subst (λ (b : Bool). Says from from (if b then telling.end config symbol part.book.journal else [])) (sym is) (says_none from from refl);
}

pub end_begins : (telling : Telling) (config : Config) (symbol : ℕ) (part : OpenPart) (from to : Output) → is_read part ≡ true
    → Begins from to (telling.end config symbol part.book.journal) → Begins from to (end_text telling config symbol part)
end_begins telling config symbol part from to is begun =
    subst (λ (b : Bool). Begins from to (if b then telling.end config symbol part.book.journal else [])) (sym is) begun

-- ---- what a line is seen to be

-- with the part behind which it stands, what opens it
pub opens_of : (telling : Telling) (Heard : Config → ℕ → List Event → Type 0) (config : Config) (symbol : ℕ) (old : Auditing) (part : OpenPart)
    (auditor : Auditor) (from to : Output) → old.config ≡ config → old.symbol ≡ symbol → IsOpen config symbol part
    → GoesBehind telling Heard config symbol part auditor from to → Opens telling old (at config auditor) part (end_text telling old.config old.symbol part)
opens_of telling Heard config symbol old part auditor from to same_config same_symbol opened goes =
    opens_behind telling old (at config auditor) part (rw (same_config, same_symbol) opened) (rw (same_config, same_symbol) goes.behind)

-- what opens the state behind a part, though the auditor does not stand there
pub opens_there : (telling : Telling) (old : Auditing) (part : OpenPart) → IsOpen old.config old.symbol part
    → Opens telling old (behind_part old.config old.symbol part) part (end_text telling old.config old.symbol part)
opens_there telling old part opened = opens_behind telling old (behind_part old.config old.symbol part) part opened refl

-- telling stopped at a line behind which the part stands
pub stops_behind : (telling : Telling) (old : Auditing) (start : Auditing) (part : OpenPart) (line told : List ℕ) (from to : Output)
    → start.config ≡ old.config → IsOpen old.config old.symbol part → Takes telling start (behind_part old.config old.symbol part) line told
    → Begins from to told → StopsIn telling start line from to
stops_behind telling old start part line told from to same opened takes begun =
    stops_at telling start (behind_part old.config old.symbol part) line told from to
    (config_behind old.config old.symbol part ∙ sym same) (opened_behind old.config old.symbol part opened) takes begun
