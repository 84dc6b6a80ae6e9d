-- The results are the lists of the feeds at their places.
use Rattle.std.proofs.Common.{◌≡◌, ℕ, suc, ◌<◌, List, [], ◌∷◌, length, map, Result, Ok, IfOk, sym, ◌∙◌, ap, arith}
use Rattle.std.specs.Prelude.{slice_index_or}
use Rattle.std.specs.List.{All, AllZip}
use Rattle.std.proofs.lemmas.List.Elements.{All-nil, All-cons}
use Rattle.std.proofs.lemmas.List.{length-map}
use Rattle.venue_words.specs.declared.config.Config.{Config}
use Rattle.venue_words.specs.declared.refusal.NoMemory.{NoMemory}
use Rattle.feeds_core.specs.FeedLists.{ListsKept, IsCounted}
use Rattle.feeds_core.specs.declared.feed_list.FeedList.{FeedList}
use Rattle.feeds_core.specs.declared.feed_text.FeedText.{FeedText}
use Rattle.feeds_core.proofs.feed_lists.list_feeds.Goals as goal

-- what holds of each result at its place holds of the lists
at_places : {T L E : Type 0} (R : T → L → Type 0) (texts : List T) (lists : List L) → length lists ≡ length texts
    → ((i : ℕ) (t : T) (r : Result L E) → i < length texts → t ≡ slice_index_or texts i t
    → r ≡ slice_index_or (map (λ list. Ok list) lists) i r → IfOk r (R t))
    → AllZip R texts lists
at_places R [] [] same each = tt
at_places R [] (l ∷ ls) same each = absurd (omega (arith, same))
at_places R (t ∷ ts) [] same each = absurd (omega (arith, same))
at_places {T} {L} {E} R (t ∷ ts) (l ∷ ls) same each = (
  each 0 t (Ok l) (omega arith) (cc) (cc),
  at_places {E = E} R ts ls (omega (arith, same)) (λ i u r less p q. each (suc i) u r (omega (arith, less)) p q),
)

second_of : {T L : Type 0} (P : T → L → Type 0) (Q : L → Type 0) (texts : List T) (lists : List L)
    → AllZip (λ t l. P t l × Q l) texts lists → All Q lists
second_of P Q [] [] all = All-nil Q
second_of P Q [] (l ∷ ls) all = absurd all
second_of P Q (t ∷ ts) [] all = absurd all
second_of P Q (t ∷ ts) (l ∷ ls) all = All-cons Q l ls all.0.1 (second_of P Q ts ls all.1)

first_of_both : {T L : Type 0} (P : T → L → Type 0) (Q : L → Type 0) (texts : List T) (lists : List L)
    → AllZip (λ t l. P t l × Q l) texts lists → AllZip P texts lists
first_of_both P Q [] [] all = tt
first_of_both P Q [] (l ∷ ls) all = absurd all
first_of_both P Q (t ∷ ts) [] all = absurd all
first_of_both P Q (t ∷ ts) (l ∷ ls) all = (all.0.0, first_of_both P Q ts ls all.1)

paired : (config : Config) (texts : List FeedText) (results : List (Result FeedList NoMemory)) (lists : List FeedList)
    → results ≡ map (λ list. Ok list) lists → length results ≡ length texts
    → ((i : ℕ) (t : FeedText) (r : Result FeedList NoMemory) → i < length texts → t ≡ slice_index_or texts i t
    → r ≡ slice_index_or results i r → IfOk r (λ list. ListsKept config t list × IsCounted config list))
    → AllZip (λ t list. ListsKept config t list × IsCounted config list) texts lists
paired config texts results lists e same each =
    let count : length results ≡ length lists = ap (length {A = Result FeedList NoMemory}) e ∙ length-map lists (let as_result : FeedList → Result FeedList NoMemory = λ list. Ok list in as_result) in
    at_places {E = NoMemory} (λ t list. ListsKept config t list × IsCounted config list) texts lists (omega (arith, count, same))
    (λ i t r less p q. each i t r less p (q ∙ ap (λ (rs : List (Result FeedList NoMemory)). slice_index_or rs i r) (sym e)))

pub returns-clause-count : goal.returns-clause-count
returns-clause-count g c =
    let texts = c.args.texts in
    let results = c.in_ok-results.results in
    let count = c.in_ok-results.ensures.len in
    let n = texts.ok in
    let m = results.ok in
    let same = ap (length {A = Result FeedList NoMemory}) c.in_ok-lists.ensures in
    let size = length-map c.in_ok-lists.lists.items (let as_result : FeedList → Result FeedList NoMemory = λ list. Ok list in as_result) in
    omega (arith, same, size, count)

pub returns-clause-lists : goal.returns-clause-lists
returns-clause-lists g c =
    let texts = c.args.texts in
    let results = c.in_ok-results.results in
    let count = c.in_ok-results.ensures.len in
    let n = texts.ok in
    let m = results.ok in
    first_of_both (ListsKept c.args.config.now) (IsCounted c.args.config.now) texts.items c.in_ok-lists.lists.items
    (paired c.args.config.now texts.items results.items c.in_ok-lists.lists.items c.in_ok-lists.ensures (omega arith)
    (λ i t r less p q. c.in_ok-results.ensures.each i t r (omega arith) p q))

pub returns-clause-counted : goal.returns-clause-counted
returns-clause-counted g c =
    let texts = c.args.texts in
    let results = c.in_ok-results.results in
    let count = c.in_ok-results.ensures.len in
    let n = texts.ok in
    let m = results.ok in
    second_of (ListsKept c.args.config.now) (IsCounted c.args.config.now) texts.items c.in_ok-lists.lists.items
    (paired c.args.config.now texts.items results.items c.in_ok-lists.lists.items c.in_ok-lists.ensures (omega arith)
    (λ i t r less p q. c.in_ok-results.ensures.each i t r (omega arith) p q))
