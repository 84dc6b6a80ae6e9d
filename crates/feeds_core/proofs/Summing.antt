-- The first symbol that has too many commands.
use Rattle.std.proofs.Common.{◌≡◌, ℕ, zero, suc, ◌+◌, ◌<◌, ◌≤◌, nat_lt, Bool, true, false, cond, List, [], ◌∷◌, length, map, slice_index, None, Some, is_none, refl, sym, ◌∙◌, ap, subst, arith}
use Rattle.std.proofs.lemmas.Bool.Decides.{nat_tests}
use Rattle.std.proofs.lemmas.List.Elements.{All-head, All-tail}
use Rattle.std.proofs.lemmas.List.Sums.{sum_by-cons}
use Rattle.std.specs.List.{All}
use Rattle.venue_words.specs.declared.config.Config.{Config}
use Rattle.line_work.specs.Commands.{commands}
use Rattle.feed_work.specs.Feeds.{Asked, commands_at}
use Rattle.feeds_core.specs.Books.{count_at}
use Rattle.feeds_core.specs.FeedLists.{ListsAll, asked_in}
use Rattle.feeds_core.specs.FeedSums.{first_over, first_full, commands_in}
use Rattle.feeds_core.specs.declared.feed_list.FeedList.{FeedList}

-- ---- the first

first_from : (n : ℕ) (limits : List ℕ) (count : ℕ → ℕ) (k : ℕ) → k < length limits
    → ((j : ℕ) → j < k → count (n + j) ≤ slice_index limits j) → slice_index limits k < count (n + k)
    → first_over n limits count ≡ Some (n + k)
first_from n [] count k l below here = absurd (omega arith)
first_from n (limit ∷ limits) count zero l below here =
    let same : n + 0 ≡ n = omega arith in
    let at : count (n + 0) ≡ count n = ap count same in
    let e : nat_lt limit (count n) ≡ true = grind (arith, nat_tests) in
    rw e (ap Some (sym same))
first_from n (limit ∷ limits) count (suc k) l below here =
    let same : n + 0 ≡ n = omega arith in
    let at : count (n + 0) ≡ count n = ap count same in
    let first = below 0 (omega arith) in
    let e : nat_lt limit (count n) ≡ false = grind (arith, nat_tests) in
    let next : (n + 1) + k ≡ n + suc k = omega arith in
    rw e (first_from (n + 1) limits count k (omega arith)
    (λ j small. let move : (n + 1) + j ≡ n + suc j = omega arith in
    let there = below (suc j) (omega arith) in
    let at : count ((n + 1) + j) ≡ count (n + suc j) = ap count move in omega (arith, there, at))
    (let at : count ((n + 1) + k) ≡ count (n + suc k) = ap count next in omega (arith, here, at))
    ∙ ap Some next)

none_from : (n : ℕ) (limits : List ℕ) (count : ℕ → ℕ) → ((j : ℕ) → j < length limits → count (n + j) ≤ slice_index limits j)
    → first_over n limits count ≡ None
none_from n [] count below = refl
none_from n (limit ∷ limits) count below =
    let same : n + 0 ≡ n = omega arith in
    let at : count (n + 0) ≡ count n = ap count same in
    let first = below 0 (omega arith) in
    let e : nat_lt limit (count n) ≡ false = grind (arith, nat_tests) in
    rw e (none_from (n + 1) limits count
    (λ j small. let move : (n + 1) + j ≡ n + suc j = omega arith in
    let there = below (suc j) (omega arith) in
    let at : count ((n + 1) + j) ≡ count (n + suc j) = ap count move in omega (arith, there, at)))

zero_plus : (count : ℕ → ℕ) (j : ℕ) → count (0 + j) ≡ count j
zero_plus count j = let e : 0 + j ≡ j = omega arith in ap count e

pub over_first : (limits : List ℕ) (count : ℕ → ℕ) (k : ℕ) → k < length limits → ((j : ℕ) → j < k → count j ≤ slice_index limits j)
    → slice_index limits k < count k → Some k ≡ first_over 0 limits count
over_first limits count k l below here =
    let e : 0 + k ≡ k = omega arith in
    sym (first_from 0 limits count k l (λ j small. let there = below j small in let at = zero_plus count j in omega (arith, there, at))
    (let at = zero_plus count k in omega (arith, here, at)) ∙ ap Some e)

pub over_none : (limits : List ℕ) (count : ℕ → ℕ) (k : ℕ) → length limits ≤ k → ((j : ℕ) → j < k → count j ≤ slice_index limits j)
    → None ≡ first_over 0 limits count
over_none limits count k l below =
    sym (none_from 0 limits count (λ j small. let there = below j (omega arith) in let at = zero_plus count j in omega (arith, there, at)))

pub over_alike : (n : ℕ) (limits : List ℕ) (f g : ℕ → ℕ) → ((k : ℕ) → f k ≡ g k) → first_over n limits f ≡ first_over n limits g
over_alike n [] f g same = refl
over_alike n (limit ∷ limits) f g same =
    ap (λ (m : ℕ). cond (nat_lt limit m) (Some n) (first_over (n + 1) limits f)) (same n)
    ∙ ap (cond (nat_lt limit (g n)) (Some n)) (over_alike (n + 1) limits f g same)

-- ---- how many

-- whole feeds have the commands of their texts
pub counts_of : (config : Config) (already : ℕ) (texts : List (List ℕ)) (lists : List FeedList) (symbol : ℕ)
    → ListsAll config true already texts lists → All (λ list. list.fault ≡ None) lists
    → count_at symbol (asked_in lists) ≡ commands_in config texts symbol
counts_of config already [] [] symbol h clear = refl
counts_of config already [] (x ∷ xs) symbol h clear = absurd h
counts_of config already (t ∷ ts) [] symbol h clear = absurd h
counts_of config already (t ∷ ts) (x ∷ xs) symbol h clear =
    let own : x.fault ≡ None = All-head (λ (y : FeedList). y.fault ≡ None) x xs clear in
    let live : is_none x.fault ≡ true = ap is_none own in
    let rest = counts_of config (already + length t) ts xs symbol
    (subst (λ (b : Bool). ListsAll config b (already + length t) ts xs) live h.1) (All-tail (λ (y : FeedList). y.fault ≡ None) x xs clear) in
    let here : length (commands_at symbol x.commands.items) ≡ length (commands config t symbol) = ap length (h.0.commands own symbol) in
    let left = sum_by-cons (λ (asked : List Asked). length (commands_at symbol asked)) x.commands.items (asked_in xs) in
    let right = sum_by-cons (λ (text : List ℕ). length (commands config text symbol)) t ts in
    omega (arith, left, right, rest, here)

pub lists_of : (config : Config) (already : ℕ) (texts : List (List ℕ)) (lists : List FeedList) (symbol : ℕ)
    → ListsAll config true already texts lists → All (λ list. list.fault ≡ None) lists
    → map (commands_at symbol) (asked_in lists) ≡ map (λ text. commands config text symbol) texts
lists_of config already [] [] symbol h clear = refl
lists_of config already [] (x ∷ xs) symbol h clear = absurd h
lists_of config already (t ∷ ts) [] symbol h clear = absurd h
lists_of config already (t ∷ ts) (x ∷ xs) symbol h clear =
    let own : x.fault ≡ None = All-head (λ (y : FeedList). y.fault ≡ None) x xs clear in
    let live : is_none x.fault ≡ true = ap is_none own in
    let rest = lists_of config (already + length t) ts xs symbol
    (subst (λ (b : Bool). ListsAll config b (already + length t) ts xs) live h.1) (All-tail (λ (y : FeedList). y.fault ≡ None) x xs clear) in
    rw (h.0.commands own symbol, rest) refl

pub full_of : (config : Config) (already : ℕ) (texts : List (List ℕ)) (lists : List FeedList)
    → ListsAll config true already texts lists → All (λ list. list.fault ≡ None) lists
    → first_full config texts ≡ first_over 0 config.limits (λ symbol. count_at symbol (asked_in lists))
unfolding first_full
full_of config already texts lists h clear =
    sym (over_alike 0 config.limits (λ symbol. count_at symbol (asked_in lists)) (commands_in config texts)
    (λ symbol. counts_of config already texts lists symbol h clear))
