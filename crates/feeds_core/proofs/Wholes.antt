-- What is whole is run to its end.
use Rattle.std.proofs.Common.{◌≡◌, ◌⊎◌, ◌≢◌, ℕ, List, [], ◌∷◌, Option, None, Some, IfSome, Ok, Err, option_map, option_and_then, inl, inr, refl, sym, ◌∙◌, arith}
use Rattle.io_edge.specs.Files.{Files, HasFile, file_named}
use Rattle.venue_words.specs.Causes.{Rose}
use Rattle.venue_words.specs.declared.limits.TheConstants.{MAX_CONFIG_BYTES}
use Rattle.line_reader.specs.ConfigFile.{Answer, config_file}
use Rattle.line_reader.specs.Endings.{after_failure}
use Rattle.feeds_core.specs.FeedFiles.{HasAll, texts_named}
use Rattle.feeds_core.specs.FeedPlan.{Named, plan_of}
use Rattle.feeds_core.specs.FeedRuns.{Ends, FeedsOutcome, HasFiles, HasNamed, IsSound, IsWhole, Outcome, Run, Texts, run_of, texts_told, with_feeds}
use Rattle.feeds_core.specs.Statuses.{IsTold, yields}
use Rattle.feeds_core.specs.declared.status.FeedsStatus.{FeedsStatus}
use Rattle.feeds_core.specs.declared.status.FeedsStatus.TheVariants.{Done, BadWords, BadFeed, LimitFeed, Full, ReadFault, WriteFault, NoMemory}

-- ---- the status

-- the end, or a fault, or want of memory
data Ending : FeedsStatus → Type 0 where
  done : Ending Done
  read : Ending ReadFault
  write : Ending WriteFault
  memory : Ending NoMemory

sound_ends : (run : Run) (old new : Option (List ℕ)) (name : List ℕ) (status : FeedsStatus) → IsSound run
    → FeedsOutcome run old new name status → Ending status
sound_ends run old new name Done sound out = done
sound_ends run old new name BadWords sound out = absurd out
sound_ends run old new name (BadFeed file line cause) sound out = let odd = sym out.first ∙ sound.clear in absurd (cc)
sound_ends run old new name (LimitFeed file line which) sound out = let odd = sym out.first ∙ sound.clear in absurd (cc)
sound_ends run old new name (Full symbol) sound out = let odd = sym out.first ∙ sound.room in absurd (cc)
sound_ends run old new name ReadFault sound out = read
sound_ends run old new name WriteFault sound out = write
sound_ends run old new name NoMemory sound out = memory

whole_ends : (answer : Answer) (feeds : List (List ℕ)) (old new : Option (List ℕ)) (name : List ℕ) (status : FeedsStatus)
    → IsWhole answer feeds → Outcome answer feeds old new name status → Ending status
whole_ends (Ok x) feeds old new name status whole out = sound_ends (run_of x.0 x.1 feeds) old new name status whole out
whole_ends (Err why) feeds old new name status whole out = absurd whole

-- a failed put leaves these statuses
stays : (status : FeedsStatus) → Ending status → after_failure (yields status) status WriteFault ≡ status
stays _ done = refl
stays _ read = refl
stays _ write = refl
stays _ memory = refl

told_ends : (name : List ℕ) (status result : FeedsStatus) (old new : Option (List ℕ)) (before now : ℕ) → Ending status
    → IsTold name status result old new before now → result ≡ status
told_ends name status result old new before now e (inl t) = t.0
told_ends name status result old new before now e (inr t) = t.0 ∙ stays status e

left_over : (status result : FeedsStatus) → Ending status → result ≡ status → result ≢ ReadFault → result ≢ WriteFault
    → (result ≡ Done) ⊎ (result ≡ NoMemory)
left_over _ result done e no_read no_write = inl e
left_over _ result read e no_read no_write = absurd (no_read e)
left_over _ result write e no_read no_write = absurd (no_write e)
left_over _ result memory e no_read no_write = inr e

texts_end : (texts : Option Texts) (old new : Option (List ℕ)) (name : List ℕ) (status result : FeedsStatus) (before now : ℕ)
    (told told' : Option (List ℕ))
    → IfSome texts (λ t. Outcome (config_file MAX_CONFIG_BYTES t.config) t.feeds old new name status)
    → IsTold name status result told told' before now → ((t : Texts) → texts ≡ Some t → result ≢ ReadFault) → result ≢ WriteFault
    → IfSome texts (λ t. IsWhole (config_file MAX_CONFIG_BYTES t.config) t.feeds → (result ≡ Done) ⊎ (result ≡ NoMemory))
texts_end None old new name status result before now told told' out is no_read no_write = tt
texts_end (Some t) old new name status result before now told told' out is no_read no_write = λ whole.
    let e = whole_ends (config_file MAX_CONFIG_BYTES t.config) t.feeds old new name status whole out in
    left_over status result e (told_ends name status result told told' before now e is) (no_read t refl) no_write

-- what is whole is run to its end, where no fault was answered
pub whole_run : (files : Option Files) (words : List (List ℕ)) (old new told told' : Option (List ℕ)) (result : FeedsStatus) (before now : ℕ)
    → ((ended : FeedsStatus) × (name : List ℕ) × Ends files words old new name ended × IsTold name ended result told told' before now)
    → ((t : Texts) → texts_told files (plan_of words) ≡ Some t → result ≢ ReadFault) → result ≢ WriteFault
    → IfSome (texts_told files (plan_of words)) (λ t.
    IsWhole (config_file MAX_CONFIG_BYTES t.config) t.feeds → (result ≡ Done) ⊎ (result ≡ NoMemory))
whole_run files words old new told told' result before now run no_read no_write =
    texts_end (texts_told files (plan_of words)) old new run.1 run.0 result before now told told' run.2.files run.3 no_read no_write

-- ---- files that never fail

one_there : (files : Files) (name text : List ℕ) → file_named files name ≡ Some text → HasFile (Some files) name
one_there files name text e = rw e refl

all_there : (files : Files) (name : List ℕ) (names texts : List (List ℕ)) (a : Option (List ℕ)) (b : Option (List (List ℕ)))
    → file_named files name ≡ a → texts_named files names ≡ b
    → ((ts : List (List ℕ)) → b ≡ Some ts → HasAll (Some files) names)
    → option_and_then (λ t. option_map (λ ts. t ∷ ts) b) a ≡ Some texts → HasAll (Some files) (name ∷ names)
all_there files name names texts None b e f more k = absurd (cc)
all_there files name names texts (Some t) None e f more k = absurd (cc)
all_there files name names texts (Some t) (Some ts) e f more k = (one_there files name t e, more ts refl)

named_there : (files : Files) (names texts : List (List ℕ)) → texts_named files names ≡ Some texts → HasAll (Some files) names
unfolding texts_named
named_there files [] texts e = tt
named_there files (n ∷ ns) texts e =
    all_there files n ns texts (file_named files n) (texts_named files ns) refl refl (λ ts k. named_there files ns ts k) e

both_there : (files : Files) (named : Named) (texts : Texts) (a : Option (List ℕ)) (b : Option (List (List ℕ)))
    → file_named files named.config ≡ a → texts_named files named.feeds ≡ b → with_feeds a b ≡ Some texts → HasNamed (Some files) named
both_there files named texts None b e f k = absurd (cc)
both_there files named texts (Some c) None e f k = absurd (cc)
both_there files named texts (Some c) (Some ts) e f k = (one_there files named.config c e, named_there files named.feeds ts f)

-- where the texts are told that the words name, their files are there
pub has_files : (told : Option Files) (plan : Option Named) (texts : Texts) → texts_told told plan ≡ Some texts → HasFiles told plan
has_files None plan texts e = absurd (cc)
has_files (Some files) None texts e = absurd (cc)
has_files (Some files) (Some named) texts e =
    both_there files named texts (file_named files named.config) (texts_named files named.feeds) refl refl e

pub none_rises : Rose 0 0 → ⊥
none_rises r = absurd (omega (arith, r))
