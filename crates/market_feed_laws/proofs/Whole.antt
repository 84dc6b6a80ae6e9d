-- A run in which nothing failed ends as the input's bytes say.
use Rattle.std.proofs.Common.{◌≡◌, ◌⊎◌, inl, inr, ℕ, List, Option, Some, None, Ok, Err, IfSome, refl, ◌∙◌, ap, subst}
use Rattle.io_edge.specs.Files.{Files, file_named}
use Rattle.line_reader.specs.ConfigFile.{Answer, config_file}
use Rattle.venue_words.specs.Causes.{Rose}
use Rattle.venue_words.specs.declared.config.Config.{Config}
use Rattle.venue_words.specs.declared.limits.TheConstants.{MAX_CONFIG_BYTES}
use Rattle.market_data.specs.declared.status.MarketStatus.{MarketStatus}
use Rattle.market_data.specs.declared.status.MarketStatus.TheVariants.{Done, BadWords, BadConfig, LimitConfig, LimitBytes, Ended, ReadFault, WriteFault, NoMemory}
use Rattle.market_data.specs.Outcomes.{Ran, status_of}
use Rattle.market_data.specs.Plan.{Named}
use Rattle.market_data.specs.Runs.{Runs, RunsConfig, RunsInput, RunsText, Unread}
use Rattle.market_data.specs.Statuses.{IsTold}
use Rattle.market_feed_laws.specs.Complete.{IsWhole}

abbrev EndsSo : MarketStatus → Config → List ℕ → List ℕ → Type 0
EndsSo status config source bytes = (status ≡ status_of config source bytes) ⊎ (status ≡ NoMemory)

ran_so : (config : Config) (source bytes : List ℕ) (old new left : Option (List ℕ)) (status : MarketStatus)
    → (status ≡ ReadFault → ⊥) → (status ≡ WriteFault → ⊥) → Ran config source bytes old new left status → EndsSo status config source bytes
ran_so config source bytes old new left Done read write r = inl r.status_is
ran_so config source bytes old new left (Ended cause) read write r = inl r.status_is
ran_so config source bytes old new left LimitBytes read write r = inl r.status_is
ran_so config source bytes old new left ReadFault read write r = absurd (read refl)
ran_so config source bytes old new left WriteFault read write r = absurd (write refl)
ran_so config source bytes old new left NoMemory read write r = inr refl
ran_so config source bytes old new left BadWords read write r = absurd r
ran_so config source bytes old new left (BadConfig line cause) read write r = absurd r
ran_so config source bytes old new left (LimitConfig line which) read write r = absurd r

unread_so : (config : Config) (source bytes : List ℕ) (old new : Option (List ℕ)) (status : MarketStatus) → (status ≡ ReadFault → ⊥)
    → Unread old new status → EndsSo status config source bytes
unread_so config source bytes old new status read u = elim u.0 [ inl e ↦ absurd (read e) | inr e ↦ inr e ]

input_so : (config : Config) (source : List ℕ) (input : Option (List ℕ)) (bytes : List ℕ) (old new left : Option (List ℕ)) (status : MarketStatus)
    → (status ≡ ReadFault → ⊥) → (status ≡ WriteFault → ⊥) → input ≡ Some bytes → RunsInput config source input old new left status
    → EndsSo status config source bytes
input_so config source None bytes old new left status read write e r = absurd (cc)
input_so config source (Some found) bytes old new left status read write e r =
    let same : found ≡ bytes = cc in
    subst (λ (bs : List ℕ). EndsSo status config source bs) same (elim r [
      | inl ran ↦ ran_so config source found old new left status read write ran
      | inr u ↦ unread_so config source found old new status read u
    ])

config_so : (answer : Answer) (config : Config) (size : ℕ) (source : List ℕ) (input : Option (List ℕ)) (bytes : List ℕ) (old new left : Option (List ℕ)) (status : MarketStatus)
    → (status ≡ ReadFault → ⊥) → (status ≡ WriteFault → ⊥) → answer ≡ Ok (config, size) → input ≡ Some bytes → RunsConfig answer source input old new left status
    → EndsSo status config source bytes
config_so (Err fault) config size source input bytes old new left status read write a e r = absurd (cc)
config_so (Ok found) config size source input bytes old new left status read write a e r =
    let same : found ≡ (config, size) = cc in
    subst (λ (k : Config). EndsSo status k source bytes) (ap (λ (p : Config × ℕ). p.0) same)
    (input_so found.0 source input bytes old new left status read write e r)

text_so : (file : Option (List ℕ)) (text : List ℕ) (config : Config) (size : ℕ) (source : List ℕ) (input : Option (List ℕ)) (bytes : List ℕ) (old new left : Option (List ℕ)) (status : MarketStatus)
    → (status ≡ ReadFault → ⊥) → (status ≡ WriteFault → ⊥) → file ≡ Some text → config_file MAX_CONFIG_BYTES text ≡ Ok (config, size) → input ≡ Some bytes
    → RunsText file source input old new left status → EndsSo status config source bytes
text_so None text config size source input bytes old new left status read write f a e r = absurd (cc)
text_so (Some found) text config size source input bytes old new left status read write f a e r =
    let same : found ≡ text = cc in
    config_so (config_file MAX_CONFIG_BYTES found) config size source input bytes old new left status read write
    (ap (config_file MAX_CONFIG_BYTES) same ∙ a) e r

-- the status that is answered is the one with which the run ended, since no put of its text failed
pub ended_is : (ended result : MarketStatus) (old new : Option (List ℕ)) (before now : ℕ) → (Rose before now → ⊥)
    → IsTold ended result old new before now → result ≡ ended
ended_is ended result old new before now calm told = elim told [ inl t ↦ t.0 | inr t ↦ absurd (calm t.2) ]

pub whole_so : (files : Files) (plan : Named) (old new left : Option (List ℕ)) (status : MarketStatus)
    → (status ≡ ReadFault → ⊥) → (status ≡ WriteFault → ⊥)
    → RunsText (file_named files plan.config) plan.source (file_named files plan.input) old new left status → IsWhole files plan status
whole_so files plan old new left status read write r text bytes config size f e a =
    text_so (file_named files plan.config) text config size plan.source (file_named files plan.input) bytes old new left status read write f a e r

-- the same where the shelf tells its files and the words name some
pub all_whole : (told : Option Files) (plan : Option Named) (old new left : Option (List ℕ)) (status : MarketStatus)
    → (status ≡ ReadFault → ⊥) → (status ≡ WriteFault → ⊥)
    → IfSome told (λ files. IfSome plan (λ p. Runs files p old new left status)) → IfSome told (λ files. IfSome plan (λ p. IsWhole files p status))
all_whole None plan old new left status read write r = tt
all_whole (Some files) None old new left status read write r = tt
all_whole (Some files) (Some p) old new left status read write r = whole_so files p old new left status read write r
