-- What the words, the config and the input make of a run.
use Rattle.std.proofs.Common.{◌≡◌, ◌⊎◌, ℕ, List, Option, Some, None, Result, Ok, Err, IfSome, rules, refl, sym, subst, inl, inr}
use Rattle.std.specs.Prelude.{IsNone, IsSome}
use Rattle.io_edge.specs.Files.{Files, file_named, Opens}
use Rattle.venue_words.specs.declared.config.Config.{Config}
use Rattle.venue_words.specs.declared.limits.TheConstants.{MAX_CONFIG_BYTES}
use Rattle.program_words.specs.declared.WordFault.{WordFault}
use Rattle.program_words.specs.declared.WordFault.TheVariants as word
use Rattle.line_reader.specs.ConfigFile.{Answer, config_file, IsMeant, MeetsConfig}
use Rattle.line_reader.specs.declared.config_file.ConfigFile.{ConfigFile}
use Rattle.line_reader.specs.declared.config_file.ConfigFault.{ConfigFault}
use Rattle.line_reader.specs.declared.config_file.ConfigFault.TheVariants.{Bad, Limit, ReadFault, NoMemory}
use Rattle.market_data.specs.declared.status.MarketStatus.{MarketStatus}
use Rattle.market_data.specs.declared.status.MarketStatus.TheVariants as status
use Rattle.market_data.specs.Outcomes.{Ran}
use Rattle.market_data.specs.Plan.{Named, plan_of}
use Rattle.market_data.specs.Runs.{Unread, RunsInput, RunsConfig, RunsText, Runs, Ends}
use Rattle.market_data.specs.Statuses.{refused, refusal_of}

module _ (source : List ℕ) (input old left : Option (List ℕ)) where
  unread_input : (config : Config) (bytes : Option (List ℕ)) (s : MarketStatus) → Unread old old s → RunsInput config source bytes old old left s
  unread_input config None s h = h
  unread_input config (Some bytes) s h = inr h

  unread_config : (meant : Answer) (s : MarketStatus) → Unread old old s → RunsConfig meant source input old old left s
  unread_config (Ok config) s h = unread_input config.0 input s h
  unread_config (Err fault) s h = inr h

  pub unread_text : (text : Option (List ℕ)) (s : MarketStatus) → Unread old old s → RunsText text source input old old left s
  unread_text None s h = h
  unread_text (Some text) s h = unread_config (config_file MAX_CONFIG_BYTES text) s h

  meant_refused : (meant : Answer) (fault : ConfigFault) → IsMeant meant fault → RunsConfig meant source input old old left (refused fault)
  meant_refused meant (Bad line cause) e = subst (λ (m : Answer). RunsConfig m source input old old left (status.BadConfig line cause)) (sym e) (inl (refl, refl))
  meant_refused meant (Limit line which) e = subst (λ (m : Answer). RunsConfig m source input old old left (status.LimitConfig line which)) (sym e) (inl (refl, refl))
  meant_refused meant ReadFault e = unread_config meant status.ReadFault (inl refl, refl)
  meant_refused meant NoMemory e = unread_config meant status.NoMemory (inr refl, refl)

  lost : (fault : ConfigFault) → (fault ≡ ReadFault) ⊎ (fault ≡ NoMemory) → Unread old old (refused fault)
  lost fault (inl e) = subst (λ (f : ConfigFault). Unread old old (refused f)) (sym e) (inl refl, refl)
  lost fault (inr e) = subst (λ (f : ConfigFault). Unread old old (refused f)) (sym e) (inr refl, refl)

  text_refused : (text : Option (List ℕ)) (fault : ConfigFault) → IfSome text (λ t. MeetsConfig (config_file MAX_CONFIG_BYTES t) (Err fault)) → (IsNone text → (fault ≡ ReadFault) ⊎ (fault ≡ NoMemory))
      → RunsText text source input old old left (refused fault)
  text_refused None fault read missing = lost fault (missing refl_none)
    where
      refl_none : IsNone {T = List ℕ} None
      refl_none = search rules
  text_refused (Some text) fault read missing = meant_refused (config_file MAX_CONFIG_BYTES text) fault read

-- nothing was read
pub unread : (told : Option Files) (plan : Named) (old left : Option (List ℕ)) (s : MarketStatus) → Unread old old s → IfSome told (λ files. Runs files plan old old left s)
unread None plan old left s h = tt
unread (Some files) plan old left s h = unread_text plan.source (file_named files plan.input) old left (file_named files plan.config) s h

-- the input was begun
fed_input : (config : Config) (source : List ℕ) (named first old new left : Option (List ℕ)) (s : MarketStatus) → IsSome named → first ≡ named
    → IfSome first (λ bytes. Ran config source bytes old new left s) → RunsInput config source named old new left s
fed_input config source None first old new left s some e h = absurd (none_some some)
  where
    none_some : IsSome {T = List ℕ} None → ⊥
    none_some x = search rules
fed_input config source (Some bytes) first old new left s some e h =
    inl (subst (λ (f : Option (List ℕ)). IfSome f (λ bytes. Ran config source bytes old new left s)) e h)

fed_text : (file : ConfigFile) (source : List ℕ) (text named first old new left : Option (List ℕ)) (s : MarketStatus)
    → IfSome text (λ t. config_file MAX_CONFIG_BYTES t ≡ Ok (file.config, file.bytes)) → (IsNone text → ⊥)
    → RunsInput file.config source named old new left s → RunsText text source named old new left s
fed_text file source None named first old new left s meant there h = absurd (there refl_none)
  where
    refl_none : IsNone {T = List ℕ} None
    refl_none = search rules
fed_text file source (Some text) named first old new left s meant there h =
    subst (λ (m : Answer). RunsConfig m source named old new left s) (sym meant) h

ok_err : (file : ConfigFile) (fault : ConfigFault) → (let x : Result ConfigFile ConfigFault = Ok file in x) ≡ Err fault → ⊥
ok_err file fault e = cc

never : (file : ConfigFile) → ((let x : Result ConfigFile ConfigFault = Ok file in x) ≡ Err ReadFault) ⊎ ((let x : Result ConfigFile ConfigFault = Ok file in x) ≡ Err NoMemory) → ⊥
never file (inl e) = ok_err file ReadFault e
never file (inr e) = ok_err file NoMemory e

pub input_fed : (told now : Option Files) (plan : Named) (file : ConfigFile) (first old new left : Option (List ℕ)) (s : MarketStatus) → now ≡ told
    → IfSome told (λ files. IfSome (file_named files plan.config) (λ text. MeetsConfig (config_file MAX_CONFIG_BYTES text) (Ok file)))
    → IfSome told (λ files. IsNone (file_named files plan.config) → ((let x : Result ConfigFile ConfigFault = Ok file in x) ≡ Err ReadFault) ⊎ ((let x : Result ConfigFile ConfigFault = Ok file in x) ≡ Err NoMemory))
    → Opens now plan.input first → IfSome first (λ bytes. Ran file.config plan.source bytes old new left s)
    → IfSome told (λ files. Runs files plan old new left s)
input_fed None now plan file first old new left s e read missing opens ran = tt
input_fed (Some files) now plan file first old new left s e read missing opens ran =
    let here : Opens (Some files) plan.input first = subst (λ (t : Option Files). Opens t plan.input first) e opens in
    fed_text file plan.source (file_named files plan.config) (file_named files plan.input) first old new left s read (λ none. never file (missing none))
    (fed_input file.config plan.source (file_named files plan.input) first old new left s here.0 here.1 ran)

-- ---- words

none_told : {A : Type 0} (o : Option A) (P : A → Type 0) → o ≡ None → IfSome o P
none_told None P e = tt
none_told (Some x) P e = absurd (cc)

no_runs : (told : Option Files) (words : List (List ℕ)) (old new left : Option (List ℕ)) (s : MarketStatus) → plan_of words ≡ None
    → IfSome told (λ files. IfSome (plan_of words) (λ plan. Runs files plan old new left s))
no_runs None words old new left s e = tt
no_runs (Some files) words old new left s e = none_told (plan_of words) (λ plan. Runs files plan old new left s) e

pub no_form : (told : Option Files) (words : List (List ℕ)) (old left : Option (List ℕ)) → plan_of words ≡ None → Ends told words old old left status.BadWords
no_form told words old left e = record {
  runs = no_runs told words old old left status.BadWords e;
  bad_words = λ _. e;
  other_words = λ _. (inl refl, refl);
}

any_plan : (told : Option Files) (plan : Option Named) (old left : Option (List ℕ)) → IfSome told (λ files. IfSome plan (λ p. Runs files p old old left status.NoMemory))
any_plan None plan old left = tt
any_plan (Some files) None old left = tt
any_plan (Some files) (Some plan) old left = unread (Some files) plan old left status.NoMemory (inr refl, refl)

no_memory : (told : Option Files) (words : List (List ℕ)) (old left : Option (List ℕ)) → Ends told words old old left status.NoMemory
no_memory told words old left = record {
  runs = any_plan told (plan_of words) old left;
  bad_words = λ e. absurd (cc);
  other_words = λ _. (inr refl, refl);
}

pub words_refused : (told : Option Files) (words : List (List ℕ)) (old left : Option (List ℕ)) (why : WordFault)
    → (why ≡ word.BadWords → plan_of words ≡ None) → Ends told words old old left (refusal_of why)
words_refused told words old left word.BadWords h = no_form told words old left (h refl)
words_refused told words old left word.NoMemory h = no_memory told words old left
