-- What was asked for is what was split off.
use Rattle.std.proofs.Common.{◌≡◌, ◌⊎◌, ◌<◌, ◌≤◌, ◌++◌, ◌∷◌, ℕ, nat_le, true, false, List, Option, Some, None, Result, Ok, Err, IfOk, IfSome, IsNone, string_bytes, length, option_and_then, sym, ap, subst, inl, inr, ◌∙◌, arith, length-append}
use Rattle.std.specs.Prelude.{String}
use Rattle.std.specs.declared.alloc.Global.{Global}
use Rattle.std.proofs.lemmas.Bool.{le-leb}
use Rattle.std.proofs.lemmas.Bool.Decides.{nat_tests}
use Rattle.std.proofs.lemmas.List.{length-map, take_all, take-append-le}
use Rattle.std.proofs.lemmas.Option.{IfSome_then}
use Rattle.io_edge.specs.Files.{Files, file_named}
use Rattle.line_reader.specs.ConfigFile.{Answer, config_file}
use Rattle.program_words.specs.Words.{remaining, texts}
use Rattle.venue_words.specs.Conditions.{IsConfig}
use Rattle.venue_words.specs.declared.config.Config.{Config}
use Rattle.venue_words.specs.declared.limits.TheConstants.{MAX_CONFIG_BYTES}
use Rattle.drop_copy.specs.declared.plan.DropPlan.{DropPlan}
use Rattle.serve_core.specs.Plans.{IsRefusedFor, MeetsSetup, Plan, form_of, plan_of}
use Rattle.serve_core.specs.declared.plan.ServePlan.{ServePlan}
use Rattle.serve_core.specs.declared.setup.SetupFault.{SetupFault}
use Rattle.serve_core.specs.declared.setup.SetupFault.TheVariants.{BadWords, BadLine, LimitLine, ReadFault, NoMemory}
use Rattle.venue_server.specs.Asking.{AreBadWords, ArePlanned, AsksFor, AsksUnlawfully, IsRefusedAs, IsUnlawful, MeetsFile, Splits, asked_plan, plan_words, venue_part}
use Rattle.venue_server.specs.declared.asking.Copies.{Copies}
use Rattle.venue_server.specs.declared.asking.Setup.{Setup}
use Rattle.venue_server.specs.declared.asking.Split.{Split}

-- ---- the plan

-- of at least seven words the first four ask for the venue
first_four : (venue rest : List (List ℕ)) → length venue ≡ 4 → 3 ≤ length rest → venue_part (venue ++ rest) ≡ venue
first_four venue rest four many =
    let seven : nat_le 7 (length (venue ++ rest)) ≡ true = le-leb 7 (length (venue ++ rest)) (omega (arith, length-append venue rest)) in
    rw seven (take-append-le 4 venue rest (omega arith) ∙ take_all 4 venue (omega arith))

-- of fewer words all do
all_words : (words : List (List ℕ)) → length words < 7 → venue_part words ≡ words
all_words words few = let less : nat_le 7 (length words) ≡ false = grind (arith, nat_tests) in rw less

-- the words of a plan of a drop session are at least three
three_words : (split : Split) → 0 < length split.plan.members.items → 3 ≤ length (plan_words split.plan)
three_words split some = omega (arith, length-map split.plan.members.items (λ (word : _). string_bytes word))

form_split : (words : Option (List (List ℕ))) (split : Split) → Splits words (Some split)
    → ((form : List (List ℕ) → Option Plan) → option_and_then (λ words. form (venue_part words)) words ≡ option_and_then form (remaining (texts split.venue.items)))
form_split None split is form = absurd is
form_split (Some words) split is form =
    ap (λ (l : List (List ℕ)). form (venue_part l)) is.all
    ∙ ap form (first_four is.venue (plan_words split.plan) is.four (three_words split is.somebody))
    ∙ sym (ap (λ (l : List (List ℕ)). option_and_then form (remaining l)) is.kept)

form_whole : (words : Option (List (List ℕ))) → Splits words None
    → ((form : List (List ℕ) → Option Plan) → option_and_then (λ words. form (venue_part words)) words ≡ option_and_then form words)
form_whole None few form = absurd few
form_whole (Some words) few form = ap form (all_words words few)

-- the plan is that of the words that were split off
pub asked_split : {slice : List (String Global)} (words : List (List ℕ)) (split : Split) → Splits (remaining words) (Some split)
    → slice ≡ split.venue.items → asked_plan words ≡ plan_of (texts slice)
unfolding asked_plan
asked_split words split is same =
    form_split (remaining words) split is form_of ∙ ap (λ (l : List (String Global)). plan_of (texts l)) (sym same)

-- or of all words
pub asked_whole : (words : List (List ℕ)) → Splits (remaining words) None → asked_plan words ≡ plan_of words
unfolding asked_plan
asked_whole words few = form_whole (remaining words) few form_of

-- or there is none
pub asked_none : (words : List (List ℕ)) → remaining words ≡ None → asked_plan words ≡ None
unfolding asked_plan
asked_none words none = ap (option_and_then (λ (words : List (List ℕ)). form_of (venue_part words))) none

-- ---- the drop session

asks : (config : Config) (words : Option (List (List ℕ))) (split : Split) (copies : Option Copies) → Splits words (Some split)
    → ArePlanned config (Some split.plan) copies → AsksFor config words copies
asks config None split copies is has = absurd is
asks config (Some words) split None is has = absurd has
asks config (Some words) split (Some copies) is has = record {
  venue = is.venue;
  name = string_bytes split.plan.name;
  members = texts split.plan.members.items;
  four = is.four;
  all = is.all ∙ ap (λ (a : _). is.venue ++ (string_bytes a ∷ (string_bytes split.plan.name ∷ texts split.plan.members.items))) (sym has.0);
  somebody = (let n = is.somebody in omega (arith, length-map split.plan.members.items (λ (word : _). string_bytes word)));
  desk = has.1;
}

pub asks_ok : (words : Option (List (List ℕ))) (split : Split) (result : Result Setup SetupFault) → Splits words (Some split)
    → IfOk result (λ setup. ArePlanned setup.config (Some split.plan) setup.copies)
    → IfOk result (λ setup. AsksFor setup.config words setup.copies)
asks_ok words split (Ok setup) is has = asks setup.config words split setup.copies is has
asks_ok words split (Err fault) is has = tt

asks_nobody : (config : Config) (words : Option (List (List ℕ))) (copies : Option Copies) → Splits words None
    → ArePlanned config None copies → AsksFor config words copies
asks_nobody config None copies few has = absurd few
asks_nobody config (Some words) None few has = few
asks_nobody config (Some words) (Some copies) few has = absurd has

pub asks_nobody_ok : (words : Option (List (List ℕ))) (result : Result Setup SetupFault) → Splits words None
    → IfOk result (λ setup. ArePlanned setup.config None setup.copies)
    → IfOk result (λ setup. AsksFor setup.config words setup.copies)
asks_nobody_ok words (Ok setup) few has = asks_nobody setup.config words setup.copies few has
asks_nobody_ok words (Err fault) few has = tt

-- the words ask for what the plan of the session may not have
pub asks_unlawfully : (config : Config) (words : Option (List (List ℕ))) (split : Split) → Splits words (Some split)
    → IsUnlawful config (Some split.plan) → AsksUnlawfully config words
asks_unlawfully config None split is unlawful = absurd is
asks_unlawfully config (Some words) split is unlawful = record {
  venue = is.venue;
  address = string_bytes split.plan.address;
  name = string_bytes split.plan.name;
  members = texts split.plan.members.items;
  four = is.four;
  all = is.all;
  somebody = (let n = is.somebody in omega (arith, length-map split.plan.members.items (λ (word : _). string_bytes word)));
  nobody = unlawful;
}

-- ---- refusals

-- the words are bad, since others are that stand for them
pub bad_as : (words : List (List ℕ)) (asked : Option Plan) (session : Option DropPlan) → asked_plan words ≡ asked
    → ((config : Config) → IsUnlawful config session → AsksUnlawfully config (remaining words))
    → (asked ≡ None) ⊎ ((config : Config) × IsConfig config × IsUnlawful config session) → AreBadWords words
bad_as words asked session same unlawful (inl none) = inl (same ∙ none)
bad_as words asked session same unlawful (inr bad) = inr (bad.0, bad.1, unlawful bad.0 bad.2)

refused_as : (wanted fault : SetupFault) → IsRefusedFor wanted (Err fault) → IsRefusedAs wanted (Err fault)
refused_as wanted fault (inl e) = let same : fault ≡ wanted = cc in inl (ap Err same)
refused_as wanted fault (inr e) = let same : fault ≡ NoMemory = cc in inr (ap Err same)

none_ready : (wanted : SetupFault) (ready : ServePlan × Config) → IsRefusedFor wanted (Ok ready) → ⊥
none_ready wanted ready (inl e) = absurd (cc)
none_ready wanted ready (inr e) = absurd (cc)

-- the file is missing
pub missing_as : (told : Option Files) (name : List ℕ) (fault : SetupFault)
    → IfSome told (λ files. IsNone (file_named files name) → IsRefusedFor ReadFault (Err fault))
    → IfSome told (λ files. IsNone (file_named files name) → IsRefusedAs ReadFault (Err fault))
missing_as None name fault missing = tt
missing_as (Some files) name fault missing = λ none. refused_as ReadFault fault (missing none)

-- it is not missing, since there is a config
pub not_missing : (told : Option Files) (name : List ℕ) (ready : ServePlan × Config) (result : Result Setup SetupFault)
    → IfSome told (λ files. IsNone (file_named files name) → IsRefusedFor ReadFault (Ok ready))
    → IfSome told (λ files. IsNone (file_named files name) → IsRefusedAs ReadFault result)
not_missing None name ready result missing = tt
not_missing (Some files) name ready result missing = λ none. absurd (none_ready ReadFault ready (missing none))

-- ---- the config's file

-- what follows of the bytes of a told file
pub of_file : (told : Option Files) (name : List ℕ) (P Q : List ℕ → Type 0) → ((text : List ℕ) → P text → Q text)
    → IfSome told (λ files. IfSome (file_named files name) P) → IfSome told (λ files. IfSome (file_named files name) Q)
of_file None name P Q on has = tt
of_file (Some files) name P Q on has = IfSome_then (file_named files name) has on

-- another way to be unlawful
pub meets_as : (P Q : Config → Type 0) (meant : Answer) (result : Result Setup SetupFault)
    → ((config : Config) → P config → Q config) → MeetsFile P meant result → MeetsFile Q meant result
meets_as P Q meant (Ok setup) on meets = meets
meets_as P Q meant (Err BadWords) on meets = (meets.0, meets.1, meets.2, on meets.0 meets.3)
meets_as P Q meant (Err (BadLine line cause)) on meets = meets
meets_as P Q meant (Err (LimitLine line which)) on meets = meets
meets_as P Q meant (Err ReadFault) on meets = tt
meets_as P Q meant (Err NoMemory) on meets = tt

-- there is no config
pub meets_fault : (P : Config → Type 0) (meant : Answer) (fault : SetupFault) → MeetsSetup meant (Err fault) → MeetsFile P meant (Err fault)
meets_fault P meant BadWords meets = absurd meets
meets_fault P meant (BadLine line cause) meets = meets
meets_fault P meant (LimitLine line which) meets = meets
meets_fault P meant ReadFault meets = tt
meets_fault P meant NoMemory meets = tt

-- there is a config, and no desk
pub meets_refused : (P : Config → Type 0) (meant : Answer) (config : Config) (bytes : ℕ) (fault : SetupFault) → meant ≡ Ok (config, bytes)
    → (fault ≡ NoMemory) ⊎ ((fault ≡ BadWords) × P config) → MeetsFile P meant (Err fault)
meets_refused P meant config bytes fault is (inl e) = subst (λ (f : SetupFault). MeetsFile P meant (Err f)) (sym e) tt
meets_refused P meant config bytes fault is (inr bad) =
    subst (λ (f : SetupFault). MeetsFile P meant (Err f)) (sym bad.0) (config, bytes, is, bad.1)

-- what a told file means for a session that words ask for
pub told_as : (told : Option Files) (name : List ℕ) (words : Option (List (List ℕ))) (session : Option DropPlan) (result : Result Setup SetupFault)
    → ((config : Config) → IsUnlawful config session → AsksUnlawfully config words)
    → IfSome told (λ files. IfSome (file_named files name) (λ text. MeetsFile (λ config. IsUnlawful config session) (config_file MAX_CONFIG_BYTES text) result))
    → IfSome told (λ files. IfSome (file_named files name) (λ text. MeetsFile (λ config. AsksUnlawfully config words) (config_file MAX_CONFIG_BYTES text) result))
told_as told name words session result on has =
    of_file told name
    (λ text. MeetsFile (λ config. IsUnlawful config session) (config_file MAX_CONFIG_BYTES text) result)
    (λ text. MeetsFile (λ config. AsksUnlawfully config words) (config_file MAX_CONFIG_BYTES text) result)
    (λ text meets. meets_as (λ config. IsUnlawful config session) (λ config. AsksUnlawfully config words) (config_file MAX_CONFIG_BYTES text) result on meets)
    has
