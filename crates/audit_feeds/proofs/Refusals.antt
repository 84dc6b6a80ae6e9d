-- Why the feeds of a config that is refused are not taken.
use Rattle.std.proofs.Common.{◌≡◌, ◌⊎◌, inl, inr, ℕ, List, Option, Some, None, refl, sym, ◌∙◌, ap, subst}
use Rattle.std.specs.Prelude.{Result, Ok, Err, IfOk, IfSome}
use Rattle.io_edge.specs.Files.{Files}
use Rattle.script_text.specs.declared.fault.LineFault.{LineFault}
use Rattle.script_text.specs.declared.fault.LineFault.TheVariants as line_fault
use Rattle.line_reader.specs.declared.config_file.ConfigFault.{ConfigFault}
use Rattle.venue_words.specs.declared.limits.TheConstants.{MAX_CONFIG_BYTES}
use Rattle.line_reader.specs.ConfigFile.{Answer, config_file}
use Rattle.feeds_core.specs.FeedRuns.{Texts}
use Rattle.feeds_core.specs.Statuses.{refused_at}
use Rattle.feeds_core.specs.declared.status.FeedsStatus.{FeedsStatus}
use Rattle.feeds_core.specs.declared.status.FeedsStatus.TheVariants as status
use Rattle.audit_core.specs.declared.audit.AuditRefusal.{AuditRefusal}
use Rattle.audit_core.specs.declared.audit.AuditRefusal.TheVariants.{Config as BadConfig, SplitName, Listing}
use Rattle.audit_core.specs.declared.verdict.AuditFault.TheVariants.{LongLine, TooLarge, ReadFault, WriteFault, NoMemory}
use Rattle.audit_core.specs.declared.verdict.Verdict.{Verdict}
use Rattle.audit_core.specs.declared.verdict.Verdict.TheVariants.{Differs}
use Rattle.audit_feeds.specs.declared.telling.Found.{Found}
use Rattle.audit_feeds.specs.Days.{IsAuditCause, StopsFor}

refused : (fault : LineFault) (feeds : List (List ℕ)) → StopsFor (Err fault) feeds (refused_at 0 fault)
refused (line_fault.Bad line cause) feeds = refl
refused (line_fault.Limit line which) feeds = refl
refused line_fault.NoMemory feeds = tt

pub why_refused : (answer : Answer) (fault : LineFault) (feeds : List (List ℕ)) (end : FeedsStatus) → answer ≡ Err fault → end ≡ refused_at 0 fault
    → StopsFor answer feeds end
why_refused answer fault feeds end is told =
    subst (λ (a : Answer). StopsFor a feeds end) (sym is) (subst (λ (s : FeedsStatus). StopsFor (Err fault) feeds s) (sym told) (refused fault feeds))

pub no_memory : (answer : Answer) (feeds : List (List ℕ)) → StopsFor answer feeds status.NoMemory
no_memory (Ok read) feeds = tt
no_memory (Err meant) feeds = tt

pub if_some : {A : Type 0} (P : A → Type 0) (found : Option A) → ((x : A) → P x) → IfSome found P
if_some P None all = tt
if_some P (Some x) all = all x

pub always_stops : (told : Option Files) (named : Files → Option Texts) (end : FeedsStatus) → ((answer : Answer) (feeds : List (List ℕ)) → StopsFor answer feeds end)
    → IfSome told (λ files. IfSome (named files) (λ texts. StopsFor (config_file MAX_CONFIG_BYTES texts.config) texts.feeds end))
always_stops told named end why =
    if_some (λ files. IfSome (named files) (λ texts. StopsFor (config_file MAX_CONFIG_BYTES texts.config) texts.feeds end)) told
    (λ files. if_some (λ texts. StopsFor (config_file MAX_CONFIG_BYTES texts.config) texts.feeds end) (named files)
    (λ texts. why (config_file MAX_CONFIG_BYTES texts.config) texts.feeds))

module _ (told : Option Files) (config listing : List ℕ) {R : Type 0} (result : Result R AuditRefusal) where
  -- the causes that an audit tells
  pub cause_is : (refusal : AuditRefusal) → result ≡ Err refusal
      → ((fault : ConfigFault) → result ≡ Err (BadConfig fault) → IfSome told (λ all. IsAuditCause all config listing (BadConfig fault)))
      → (result ≡ Err SplitName → IfSome told (λ all. IsAuditCause all config listing SplitName))
      → ((line : ℕ) → result ≡ Err (Listing (LongLine line)) → IfSome told (λ all. IsAuditCause all config listing (Listing (LongLine line))))
      → (result ≡ Err (Listing TooLarge) → IfSome told (λ all. IsAuditCause all config listing (Listing TooLarge)))
      → IfSome told (λ all. IsAuditCause all config listing refusal)
  cause_is (BadConfig fault) is bad split long large = bad fault is
  cause_is SplitName is bad split long large = split is
  cause_is (Listing (LongLine line)) is bad split long large = long line is
  cause_is (Listing TooLarge) is bad split long large = large is
  cause_is (Listing ReadFault) is bad split long large = if_some (λ all. IsAuditCause all config listing (Listing ReadFault)) told (λ all. tt)
  cause_is (Listing WriteFault) is bad split long large = if_some (λ all. IsAuditCause all config listing (Listing WriteFault)) told (λ all. tt)
  cause_is (Listing NoMemory) is bad split long large = if_some (λ all. IsAuditCause all config listing (Listing NoMemory)) told (λ all. tt)

-- nothing in the files is the cause of a want of memory
pub memory_is : (told : Option Files) (config listing : List ℕ) (before after : AuditRefusal) → (after ≡ before) ⊎ (after ≡ Listing NoMemory)
    → IfSome told (λ all. IsAuditCause all config listing before) → IfSome told (λ all. IsAuditCause all config listing after)
memory_is told config listing before after (inl same) why =
    subst (λ (r : AuditRefusal). IfSome told (λ all. IsAuditCause all config listing r)) (sym same) why
memory_is told config listing before after (inr none) why =
    subst (λ (r : AuditRefusal). IfSome told (λ all. IsAuditCause all config listing r)) (sym none)
    (if_some (λ all. IsAuditCause all config listing (Listing NoMemory)) told (λ all. tt))

-- a line that differs, of the verdict that was found
pub differs_is : {E F : Type 0} (Q : ℕ → Option (List ℕ) → Type 0) (result : Result Verdict E) (verdict : Verdict) (found : Result Found F) → result ≡ Ok verdict
    → IfOk found (λ one. one.verdict ≡ verdict) → ((line : ℕ) (expected : Option (List ℕ)) → result ≡ Ok (Differs line expected) → Q line expected)
    → (line : ℕ) (expected : Option (List ℕ)) → IfOk found (λ one. one.verdict ≡ Differs line expected → Q line expected)
differs_is Q result verdict (Err e) is same all line expected = tt
differs_is Q result verdict (Ok one) is same all line expected =
    λ differs. all line expected (is ∙ ap (λ (v : Verdict). Ok v) (sym same ∙ differs))
