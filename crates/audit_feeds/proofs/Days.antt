-- What is told of all symbols is nothing just where each journal interleaves what the feeds ask of its symbol.
use Rattle.std.proofs.Common.{◌≡◌, ◌⊎◌, inl, inr, ℕ, zero, suc, ◌+◌, List, [], ◌∷◌, ◌++◌, length, map, slice_get, Option, Some, None, refl, sym, ◌∙◌, ap, subst, arith}
use Rattle.std.specs.Prelude.{Result, Ok, Err, IfSome}
use Rattle.std.proofs.lemmas.List.{length-map}
use Rattle.io_edge.specs.Files.{Files, file_named}
use Rattle.venue_words.specs.declared.limits.TheConstants.{MAX_CONFIG_BYTES}
use Rattle.line_reader.specs.ConfigFile.{Answer, config_file}
use Rattle.venue_words.specs.declared.command.Event.{Event}
use Rattle.venue_words.specs.declared.config.Config.{Config}
use Rattle.eager_meaning.specs.Interleaving.{Interleaves, Timed}
use Rattle.line_work.specs.Commands.{commands}
use Rattle.feed_work.specs.Feeds.{Asked, commands_at}
use Rattle.market_laws.specs.Reports.{ReportsAreFew}
use Rattle.listing.specs.Listing.{Part, RunsAreInOrder, listing_from}
use Rattle.listing_reader.specs.Fitting.{has_word_names}
use Rattle.feeds_core.specs.FeedFiles.{texts_named}
use Rattle.feeds_core.specs.FeedLists.{asked_in}
use Rattle.feeds_core.specs.FeedRuns.{AreJournalsOf, IsWhole, texts_of, with_feeds}
use Rattle.feeds_core.specs.declared.feed_list.FeedList.{FeedList}
use Rattle.feeds_core.specs.declared.status.FeedsStatus.{FeedsStatus}
use Rattle.audit_core.specs.Audited.{AreParts, HasConfig}
use Rattle.audit_core.specs.Names.{has_line_names}
use Rattle.audit_core.specs.Telling.{day_text_from, events_text, journal_text}
use Rattle.audit_feeds.specs.Days.{AreListsOf, AreSoundFeeds, HasPlainNames, IsDay, IsDayOfFeeds, DepartsFromFeeds, LacksFeeds, TellsDepartures, TellsOfFeeds}
use Rattle.audit_feeds.specs.declared.auditing.FeedsRefusal.{FeedsRefusal}
use Rattle.audit_feeds.specs.declared.auditing.FeedsRefusal.TheVariants.{Feeds as BadFeeds}
use Rattle.audit_feeds.specs.FeedsText.{departures_telling, departures_text}
use Rattle.audit_feeds.proofs.Departing.{interleaves, nothing_told}
use Rattle.audit_feeds.proofs.Uniqueness.{one_listing}

abbrev journal_of : Part → List Event
journal_of part = part.journal

events_none : (feeds : List (List Asked)) (config : Config) (symbol : ℕ) (before events : List Event) → events_text (departures_telling feeds) config symbol before events ≡ []
events_none feeds config symbol before [] = refl
events_none feeds config symbol before (event ∷ later) = events_none feeds config symbol (before ++ event ∷ []) later

journal_is : (feeds : List (List Asked)) (config : Config) (symbol : ℕ) (journal : List Event)
    → journal_text (departures_telling feeds) config symbol journal ≡ departures_text feeds config symbol journal
journal_is feeds config symbol journal =
    ap (λ (text : List ℕ). text ++ departures_text feeds config symbol journal) (events_none feeds config symbol [] journal)

first_none : (xs ys : List ℕ) → xs ++ ys ≡ [] → xs ≡ []
first_none [] ys e = refl
first_none (x ∷ xs) ys e = absurd (cc)

second_none : (xs ys : List ℕ) → xs ++ ys ≡ [] → ys ≡ []
second_none [] ys e = e
second_none (x ∷ xs) ys e = absurd (cc)

told_at : (feeds : List (List Asked)) (config : Config) (symbol : ℕ) (parts : List Part) → day_text_from (departures_telling feeds) config symbol parts ≡ []
    → (k : ℕ) (journal : List Event) → slice_get (map journal_of parts) k ≡ Some journal → departures_text feeds config (symbol + k) journal ≡ []
told_at feeds config symbol [] e k journal at = absurd (cc)
told_at feeds config symbol (part ∷ parts) e zero journal at =
    let same : part.journal ≡ journal = cc in
    let place : symbol + 0 ≡ symbol = omega arith in
    ap (λ (s : ℕ). departures_text feeds config s journal) place
    ∙ ap (λ (j : List Event). departures_text feeds config symbol j) (sym same)
    ∙ sym (journal_is feeds config symbol part.journal)
    ∙ first_none (journal_text (departures_telling feeds) config symbol part.journal) (day_text_from (departures_telling feeds) config (symbol + 1) parts) e
told_at feeds config symbol (part ∷ parts) e (suc k) journal at =
    let place : symbol + suc k ≡ (symbol + 1) + k = omega arith in
    ap (λ (s : ℕ). departures_text feeds config s journal) place
    ∙ told_at feeds config (symbol + 1) parts
    (second_none (journal_text (departures_telling feeds) config symbol part.journal) (day_text_from (departures_telling feeds) config (symbol + 1) parts) e) k journal at

told_from : (feeds : List (List Asked)) (config : Config) (symbol : ℕ) (parts : List Part)
    → ((k : ℕ) (journal : List Event) → slice_get (map journal_of parts) k ≡ Some journal → departures_text feeds config (symbol + k) journal ≡ [])
    → day_text_from (departures_telling feeds) config symbol parts ≡ []
told_from feeds config symbol [] none = refl
told_from feeds config symbol (part ∷ parts) none =
    let place : symbol ≡ symbol + 0 = omega arith in
    ap (λ (text : List ℕ). text ++ day_text_from (departures_telling feeds) config (symbol + 1) parts)
    (journal_is feeds config symbol part.journal ∙ ap (λ (s : ℕ). departures_text feeds config s part.journal) place ∙ none 0 part.journal refl)
    ∙ told_from feeds config (symbol + 1) parts (λ k journal at.
    let next : (symbol + 1) + k ≡ symbol + suc k = omega arith in
    ap (λ (s : ℕ). departures_text feeds config s journal) next ∙ none (suc k) journal at)

module _ (feeds : List (List Asked)) (config : Config) (texts : List (List ℕ)) (parts : List Part) (lists : (symbol : ℕ) → map (commands_at symbol) feeds ≡ map (λ text. commands config text symbol) texts) where
  -- where nothing is told
  pub all_interleave : length parts ≡ length config.symbols → day_text_from (departures_telling feeds) config 0 parts ≡ []
      → AreJournalsOf config texts (map (λ part. part.journal) parts)
  all_interleave each none = record {
    each = length-map parts journal_of ∙ each;
    interleaved = λ symbol journal at.
        subst (λ (l : List (List Timed)). Interleaves journal l) (lists symbol) (interleaves feeds config symbol journal
        (let here : symbol ≡ 0 + symbol = omega arith in
        ap (λ (s : ℕ). departures_text feeds config s journal) here ∙ told_at feeds config 0 parts none symbol journal at));
  }

  -- and where something is
  pub none_interleaves : (AreJournalsOf config texts (map (λ part. part.journal) parts)) → day_text_from (departures_telling feeds) config 0 parts ≡ []
  none_interleaves are =
      told_from feeds config 0 parts (λ symbol journal at.
      let here : 0 + symbol ≡ symbol = omega arith in
      ap (λ (s : ℕ). departures_text feeds config s journal) here
      ∙ nothing_told feeds config symbol journal
      (subst (λ (l : List (List Timed)). Interleaves journal l) (sym (lists symbol)) (are.interleaved symbol journal at)))

-- ---- of files

some_is : {A : Type 0} (found : Option A) (x y : A) → found ≡ Some x → found ≡ Some y → x ≡ y
some_is None x y a b = absurd (cc)
some_is (Some z) x y a b =
    let one : z ≡ x = cc in
    let other : z ≡ y = cc in
    sym one ∙ other

pair_is : {E : Type 0} (answer : Result (Config × ℕ) E) (x y : Config × ℕ) → answer ≡ Ok x → answer ≡ Ok y → x ≡ y
pair_is (Ok z) x y a b =
    let one : z ≡ x = cc in
    let other : z ≡ y = cc in
    sym one ∙ other
pair_is (Err e) x y a b = absurd (cc)

-- one file says one config
one_config : (files : Files) (name text : List ℕ) (of other : Config) (bytes : ℕ) → file_named files name ≡ Some text
    → config_file MAX_CONFIG_BYTES text ≡ Ok (of, bytes) → HasConfig files name other → other ≡ of
one_config files name text of other bytes found says has =
    let same : has.text ≡ text = (let both : Some has.text ≡ Some text = sym has.found ∙ found in (cc)) in
    let again : config_file MAX_CONFIG_BYTES text ≡ Ok (other, has.bytes) = ap (config_file MAX_CONFIG_BYTES) (sym same) ∙ has.says in
    let pair : (other, has.bytes) ≡ (of, bytes) = pair_is (config_file MAX_CONFIG_BYTES text) (other, has.bytes) (of, bytes) again says in
    ap (λ (p : Config × ℕ). p.0) pair

module _ (files : Files) (config listing_name : List ℕ) (feeds : List (List ℕ)) (lists : List FeedList) (are : AreListsOf files config feeds lists) where
  day : (Holds : Config → List (List ℕ) → List (List Event) → Type 0) (told : List ℕ) (tells : TellsDepartures files config listing_name (asked_in lists) told)
      → Holds are.of are.texts (map (λ part. part.journal) tells.lists.parts) → IsDay Holds files config listing_name feeds
  day Holds told tells holds =
      let one : tells.of ≡ are.of = one_config files config are.text are.of tells.of are.bytes are.found are.says tells.says in record {
        of = tells.of;
        says = tells.says;
        texts = are.texts;
        found_feeds = are.found_feeds;
        text = tells.text;
        found = tells.found;
        parts = tells.lists.parts;
        each = tells.lists.each;
        made = tells.lists.made;
        spelled = tells.lists.spelled;
        holds = subst (λ (c : Config). Holds c are.texts (map (λ part. part.journal) tells.lists.parts)) (sym one) holds;
      }

  -- what is told is told of the lists' config
  told_of : (told : List ℕ) (tells : TellsDepartures files config listing_name (asked_in lists) told)
      → told ≡ day_text_from (departures_telling (asked_in lists)) are.of 0 tells.lists.parts
  told_of told tells =
      tells.lists.tells
      ∙ ap (λ (c : Config). day_text_from (departures_telling (asked_in lists)) c 0 tells.lists.parts)
      (one_config files config are.text are.of tells.of are.bytes are.found are.says tells.says)

  pub day_of : TellsDepartures files config listing_name (asked_in lists) [] → IsDayOfFeeds files config listing_name feeds
  day_of tells =
      let one : tells.of ≡ are.of = one_config files config are.text are.of tells.of are.bytes are.found are.says tells.says in
      day AreJournalsOf [] tells
      (all_interleave (asked_in lists) are.of are.texts tells.lists.parts are.commands (tells.lists.each ∙ ap (λ (c : Config). length c.symbols) one)
      (sym (told_of [] tells)))

  pub departures_of : (told : List ℕ) → (told ≡ [] → ⊥) → TellsDepartures files config listing_name (asked_in lists) told → DepartsFromFeeds files config listing_name feeds
  departures_of told some tells =
      day (λ of texts journals. AreJournalsOf of texts journals → ⊥) told tells
      (λ journals. some (told_of told tells ∙ none_interleaves (asked_in lists) are.of are.texts tells.lists.parts are.commands journals))

-- the journals of a listing are those of no other
module _ (in_order : RunsAreInOrder) (few : ReportsAreFew) (files : Files) (config listing_name : List ℕ) (feeds : List (List ℕ)) (lists : List FeedList) (are : AreListsOf files config feeds lists) where
  no_day : (told : List ℕ) → (told ≡ [] → ⊥) → TellsDepartures files config listing_name (asked_in lists) told → (of : Config) → HasConfig files config of → HasPlainNames of
      → IsDayOfFeeds files config listing_name feeds → ⊥
  no_day told some tells of has names day =
      let config_is : of ≡ are.of = one_config files config are.text are.of of are.bytes are.found are.says has in
      let tells_is : tells.of ≡ are.of = one_config files config are.text are.of tells.of are.bytes are.found are.says tells.says in
      let day_is : day.of ≡ are.of = one_config files config are.text are.of day.of are.bytes are.found are.says day.says in
      let texts_are : day.texts ≡ are.texts = some_is (texts_named files feeds) day.texts are.texts day.found_feeds are.found_feeds in
      let text_is : tells.text ≡ day.text = some_is (file_named files listing_name) tells.text day.text tells.found day.found in
      let listed : listing_from are.of 0 tells.lists.parts ≡ listing_from are.of 0 day.parts =
      ap (λ (c : Config). listing_from c 0 tells.lists.parts) (sym tells_is) ∙ sym tells.lists.spelled ∙ text_is ∙ day.spelled
      ∙ ap (λ (c : Config). listing_from c 0 day.parts) day_is in
      let same : map journal_of tells.lists.parts ≡ map journal_of day.parts =
      one_listing in_order few are.of are.is (ap has_word_names (sym config_is) ∙ names.words) (ap has_line_names (sym config_is) ∙ names.lines)
      tells.lists.parts day.parts (tells.lists.each ∙ ap (λ (c : Config). length c.symbols) tells_is) (day.each ∙ ap (λ (c : Config). length c.symbols) day_is)
      (subst (λ (c : Config). AreParts c 0 tells.lists.parts) tells_is tells.lists.made) (subst (λ (c : Config). AreParts c 0 day.parts) day_is day.made) listed in
      let holds : AreJournalsOf are.of are.texts (map journal_of tells.lists.parts) =
      subst (λ (j : List (List Event)). AreJournalsOf are.of are.texts j) (sym same)
      (subst (λ (t : List (List ℕ)). AreJournalsOf are.of t (map journal_of day.parts)) texts_are
      (subst (λ (c : Config). AreJournalsOf c day.texts (map journal_of day.parts)) day_is day.holds)) in
      some (told_of files config listing_name feeds lists are told tells
      ∙ none_interleaves (asked_in lists) are.of are.texts tells.lists.parts are.commands holds)

-- feeds whose commands are listed have no refused line
sound_of : (files : Files) (config : List ℕ) (feeds : List (List ℕ)) (lists : List FeedList) → AreListsOf files config feeds lists → AreSoundFeeds files config feeds
sound_of files config feeds lists are = record {
  texts = texts_of are.text are.texts;
  found = ap (λ (c : Option (List ℕ)). with_feeds c (texts_named files feeds)) are.found ∙ ap (λ (t : Option (List (List ℕ))). with_feeds (Some are.text) t) are.found_feeds;
  sound = subst (λ (a : Answer). IsWhole a are.texts) (sym are.says) are.sound;
}

-- of a shelf that tells its files
module _ (config listing_name : List ℕ) (feeds : List (List ℕ)) (lists : List FeedList) where
  pub if_day : (told later : Option Files) (shown : List FeedList) (departures : List ℕ) → later ≡ told → shown ≡ lists
      → IfSome told (λ files. AreListsOf files config feeds lists) → IfSome later (λ files. TellsDepartures files config listing_name (asked_in shown) departures)
      → departures ≡ [] → IfSome told (λ files. IsDayOfFeeds files config listing_name feeds)
  if_day None later shown departures same is are tells none = tt
  if_day (Some files) later shown departures same is are tells none =
      day_of files config listing_name feeds lists are
      (subst (λ (s : List ℕ). TellsDepartures files config listing_name (asked_in lists) s) none
      (subst (λ (l : List FeedList). TellsDepartures files config listing_name (asked_in l) departures) is
      (subst (λ (t : Option Files). IfSome t (λ files. TellsDepartures files config listing_name (asked_in shown) departures)) same tells)))

  pub if_departures : (told later : Option Files) (shown : List FeedList) (departures : List ℕ) → later ≡ told → shown ≡ lists
      → IfSome told (λ files. AreListsOf files config feeds lists) → IfSome later (λ files. TellsDepartures files config listing_name (asked_in shown) departures)
      → (departures ≡ [] → ⊥) → IfSome told (λ files. DepartsFromFeeds files config listing_name feeds)
  if_departures None later shown departures same is are tells some = tt
  if_departures (Some files) later shown departures same is are tells some =
      departures_of files config listing_name feeds lists are departures some
      (subst (λ (l : List FeedList). TellsDepartures files config listing_name (asked_in l) departures) is
      (subst (λ (t : Option Files). IfSome t (λ files. TellsDepartures files config listing_name (asked_in shown) departures)) same tells))

  pub if_other : (in_order : RunsAreInOrder) (few : ReportsAreFew) (told later : Option Files) (shown : List FeedList) (departures : List ℕ) → later ≡ told → shown ≡ lists
      → IfSome told (λ files. AreListsOf files config feeds lists) → IfSome later (λ files. TellsDepartures files config listing_name (asked_in shown) departures)
      → (departures ≡ [] → ⊥)
      → IfSome told (λ files. (of : Config) → HasConfig files config of → HasPlainNames of → IsDayOfFeeds files config listing_name feeds → ⊥)
  if_other in_order few None later shown departures same is are tells some = tt
  if_other in_order few (Some files) later shown departures same is are tells some =
      no_day in_order few files config listing_name feeds lists are departures some
      (subst (λ (l : List FeedList). TellsDepartures files config listing_name (asked_in l) departures) is
      (subst (λ (t : Option Files). IfSome t (λ files. TellsDepartures files config listing_name (asked_in shown) departures)) same tells))

  pub if_told : (told later : Option Files) (shown : List FeedList) (departures text : List ℕ) → later ≡ told → shown ≡ lists
      → IfSome told (λ files. AreListsOf files config feeds lists) → IfSome later (λ files. TellsDepartures files config listing_name (asked_in shown) departures)
      → departures ≡ text → IfSome told (λ files. TellsOfFeeds files config listing_name feeds text)
  if_told None later shown departures text same is are tells text_is = tt
  if_told (Some files) later shown departures text same is are tells text_is = record {
    lists = lists;
    are = are;
    tells =
        subst (λ (s : List ℕ). TellsDepartures files config listing_name (asked_in lists) s) text_is
        (subst (λ (l : List FeedList). TellsDepartures files config listing_name (asked_in l) departures) is
        (subst (λ (t : Option Files). IfSome t (λ files. TellsDepartures files config listing_name (asked_in shown) departures)) same tells));
  }

  pub if_sound : (told : Option Files) (Q : Type 0) → IfSome told (λ files. AreListsOf files config feeds lists)
      → IfSome told (λ files. Q ⊎ AreSoundFeeds files config feeds)
  if_sound None Q are = tt
  if_sound (Some files) Q are = inr (sound_of files config feeds lists are)

-- the answer is that the feeds were not taken
pub if_refused : {T : Type 0} (told : Option Files) (config : List ℕ) (feeds : List (List ℕ)) (status : FeedsStatus) (result : Result T FeedsRefusal)
    → result ≡ Err (BadFeeds status) → IfSome told (λ files. LacksFeeds result ⊎ AreSoundFeeds files config feeds)
if_refused None config feeds status result is = tt
if_refused (Some files) config feeds status result is = inl (status, is)
