-- A run over a config and one feed that was done has listed what the feed asks for.
use Rattle.std.proofs.Common.{◌≡◌, ℕ, List, [], ◌∷◌, ◌++◌, Option, Some, None, Ok, Err, inl, inr, refl, sym, ◌∙◌, ap, subst}
use Rattle.io_edge.specs.Files.{Files}
use Rattle.venue_words.specs.declared.limits.TheConstants.{MAX_CONFIG_BYTES}
use Rattle.script_text.specs.declared.fault.LineFault.TheVariants as fault
use Rattle.line_reader.specs.ConfigFile.{Answer, config_file}
use Rattle.line_reader.specs.Endings.{after_failure}
use Rattle.feeds_core.specs.FeedFiles.{texts_named}
use Rattle.feeds_core.specs.FeedRuns.{Ends, Outcome}
use Rattle.feeds_core.specs.Statuses.{IsTold, yields}
use Rattle.feeds_core.specs.declared.status.FeedsStatus.{FeedsStatus}
use Rattle.feeds_core.specs.declared.status.FeedsStatus.TheVariants.{Done, BadWords, BadFeed, LimitFeed, Full, ReadFault, WriteFault, NoMemory}
use Rattle.audit_journal.specs.declared.making.TheConstants.{CONFIG, FEED}
use Rattle.audit_journal.specs.Days.{IsListingOf}

-- the config and the feed as files
abbrev pub inputs : List ℕ → List ℕ → Files
inputs config feed = (CONFIG.now, config) ∷ (FEED.now, feed) ∷ []

-- a run that was told to be done was done
done_only : (status : FeedsStatus) → Done ≡ after_failure (yields status) status WriteFault → status ≡ Done
done_only Done e = refl
done_only BadWords e = absurd (cc)
done_only (BadFeed file line cause) e = absurd (cc)
done_only (LimitFeed file line which) e = absurd (cc)
done_only (Full symbol) e = absurd (cc)
done_only ReadFault e = absurd (cc)
done_only WriteFault e = absurd (cc)
done_only NoMemory e = absurd (cc)

told_done : (name : List ℕ) (status : FeedsStatus) (old new : Option (List ℕ)) (before now : ℕ) → IsTold name status Done old new before now → status ≡ Done
told_done name status old new before now (inl t) = sym t.0
told_done name status old new before now (inr t) = done_only status t.0

by_answer : (answer : Answer) (config feed listing name : List ℕ) → config_file MAX_CONFIG_BYTES config ≡ answer
    → Outcome answer (feed ∷ []) (Some []) (Some listing) name Done → IsListingOf config feed listing
by_answer (Ok read) config feed listing name e out = record {
  config = read.0;
  already = read.1;
  read = e;
  journals = out.journals;
  are = out.are;
  listed = out.grew;
}
by_answer (Err (fault.Bad line cause)) config feed listing name e out = absurd (let odd = out.0 in cc)
by_answer (Err (fault.Limit line which)) config feed listing name e out = absurd (let odd = out.0 in cc)
by_answer (Err fault.NoMemory) config feed listing name e out = absurd (let odd = out.0 in cc)

-- what a run is worth that was done
pub listed : (told : Option Files) (words : List (List ℕ)) (first put : Option (List ℕ)) (config feed listing : List ℕ) (old new : Option (List ℕ)) (before now : ℕ)
    → told ≡ Some (inputs config feed) → words ≡ CONFIG.now ∷ FEED.now ∷ [] → first ≡ Some [] → put ≡ Some listing
    → ((ended : FeedsStatus) × (name : List ℕ) × Ends told words first put name ended × IsTold name ended Done old new before now)
    → IsListingOf config feed listing
unfolding texts_named
listed told words first put config feed listing old new before now t w f p run =
    let done_is : run.0 ≡ Done = told_done run.1 run.0 old new before now run.3 in
    let ends : Ends (Some (inputs config feed)) (CONFIG.now ∷ FEED.now ∷ []) (Some []) (Some listing) run.1 Done =
    subst (λ (s : FeedsStatus). Ends (Some (inputs config feed)) (CONFIG.now ∷ FEED.now ∷ []) (Some []) (Some listing) run.1 s) done_is
    (subst (λ (o : Option (List ℕ)). Ends (Some (inputs config feed)) (CONFIG.now ∷ FEED.now ∷ []) (Some []) o run.1 run.0) p
    (subst (λ (o : Option (List ℕ)). Ends (Some (inputs config feed)) (CONFIG.now ∷ FEED.now ∷ []) o put run.1 run.0) f
    (subst (λ (ws : List (List ℕ)). Ends (Some (inputs config feed)) ws first put run.1 run.0) w
    (subst (λ (all : Option Files). Ends all words first put run.1 run.0) t run.2)))) in
    by_answer (config_file MAX_CONFIG_BYTES config) config feed listing run.1 refl ends.files
