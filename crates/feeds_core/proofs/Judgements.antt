-- The first refused line, found among the lists of feeds.
use Rattle.std.proofs.Common.{◌≡◌, ℕ, zero, suc, ◌+◌, ◌<◌, ◌≤◌, ◌||◌, Bool, true, false, cond, List, [], ◌∷◌, ◌++◌, length, drop, get_or, Option, None, Some, is_none, refl, sym, ◌∙◌, ap, subst, length-append, add-one, arith}
use Rattle.std.proofs.lemmas.List.{drop_all}
use Rattle.std.specs.List.{AllZip, list_any}
use Rattle.venue_words.specs.declared.config.Config.{Config}
use Rattle.line_work.specs.Commands.{commands}
use Rattle.script_text.specs.declared.fault.LineFault.{LineFault}
use Rattle.feeds_core.specs.FeedFaults.{at_file, feeds_fault}
use Rattle.feeds_core.specs.FeedLines.{feed_fault, names, name_one, or_else}
use Rattle.feeds_core.specs.FeedLists.{ListsFeed, ListsKept, ListsAll}
use Rattle.feeds_core.specs.FeedTexts.{Keeps, KeepsAll, is_whole}
use Rattle.feeds_core.specs.Judging.{Judged, is_among}
use Rattle.feeds_core.specs.Naming.{has_name, first_shared, shared_fault, refused_by}
use Rattle.feeds_core.specs.declared.feed_list.FeedList.{FeedList}
use Rattle.feeds_core.specs.declared.feed_text.FeedText.{FeedText}
use Rattle.feeds_core.specs.declared.feed_text.FeedEnd.{FeedEnd}
use Rattle.feeds_core.specs.declared.feed_text.FeedEnd.TheVariants.{Whole}
use Rattle.feeds_core.specs.declared.naming.Naming.{Naming}
use Rattle.feeds_core.proofs.Namings.{or_assoc}

-- ---- members that are taken, by two tests that agree

find_alike : (p q : ℕ → Bool) (named : List Naming) → ((m : ℕ) → p m ≡ q m) → first_shared p named ≡ first_shared q named
find_alike p q [] same = refl
find_alike p q (x ∷ xs) same = pick (p x.member) (q x.member) (same x.member) (find_alike p q xs same)
  where
    pick : (a b : Bool) → a ≡ b → first_shared p xs ≡ first_shared q xs
        → cond a (Some x) (first_shared p xs) ≡ cond b (Some x) (first_shared q xs)
    pick true true e rest = refl
    pick true false e rest = absurd (cc)
    pick false true e rest = absurd (cc)
    pick false false e rest = rest

pub refused_alike : (p q : ℕ → Bool) (named : List Naming) (fault : Option LineFault) → ((m : ℕ) → p m ≡ q m)
    → refused_by p named fault ≡ refused_by q named fault
refused_alike p q named fault same = ap (λ (one : Option Naming). or_else (shared_fault one) fault) (find_alike p q named same)

-- ---- the lists of whole files

whole_true : (end : FeedEnd) → end ≡ Whole → is_whole end ≡ true
whole_true end e = ap is_whole e

none_of : (fault : Option LineFault) → is_none fault ≡ true → fault ≡ None
none_of None e = refl
none_of (Some fault) e = absurd (cc)

list_of_file : (config : Config) (already : ℕ) (text : List ℕ) (kept : FeedText) (list : FeedList)
    → Keeps already text kept → ListsKept config kept list → ListsFeed config already text list
list_of_file config already text kept list k l = record {
  refused = λ taken. l.refused taken ∙ k.fault config taken;
  names = λ none member. l.names none member ∙ ap (λ (t : List ℕ). names config t member) (sym (k.whole (l.whole none)).0);
  commands = λ none symbol. l.commands none symbol
      ∙ ap (λ (t : List ℕ). commands config t symbol) (sym (k.whole (l.whole none)).0);
}

same_count : (config : Config) (kepts : List FeedText) (lists : List FeedList) → AllZip (ListsKept config) kepts lists → length kepts ≡ length lists
same_count config [] [] h = refl
same_count config [] (l ∷ ls) h = absurd h
same_count config (k ∷ ks) [] h = absurd h
same_count config (k ∷ ks) (l ∷ ls) h = ap suc (same_count config ks ls h.1)

keeps_count : (b : Bool) (already : ℕ) (texts : List (List ℕ)) (kepts : List FeedText) → KeepsAll b already texts kepts → length texts ≡ length kepts
keeps_count false already texts kepts h = h
keeps_count true already [] [] h = refl
keeps_count true already [] (k ∷ ks) h = absurd h
keeps_count true already (t ∷ ts) [] h = absurd h
keeps_count true already (t ∷ ts) (k ∷ ks) h = ap suc (keeps_count (is_whole k.end) (already + length t) ts ks h.1)

-- lists of what is kept of files are lists of the files
pub lists_all : (config : Config) (a b : Bool) (already : ℕ) (texts : List (List ℕ)) (kepts : List FeedText) (lists : List FeedList)
    → (b ≡ true → a ≡ true) → KeepsAll a already texts kepts → AllZip (ListsKept config) kepts lists
    → ListsAll config b already texts lists
lists_all config a false already texts kepts lists f k l = keeps_count a already texts kepts k ∙ same_count config kepts lists l
lists_all config false true already texts kepts lists f k l = absurd (let no : false ≡ true = f refl in cc)
lists_all config true true already [] [] [] f k l = tt
lists_all config true true already [] [] (x ∷ xs) f k l = absurd l
lists_all config true true already [] (y ∷ ys) lists f k l = absurd k
lists_all config true true already (t ∷ ts) [] lists f k l = absurd k
lists_all config true true already (t ∷ ts) (y ∷ ys) [] f k l = absurd l
lists_all config true true already (t ∷ ts) (y ∷ ys) (x ∷ xs) f k l = (
  list_of_file config already t y x k.0 l.0,
  lists_all config (is_whole y.end) (is_none x.fault) (already + length t) ts ys xs
      (λ e. whole_true y.end (l.0.whole (none_of x.fault e))) k.1 l.1,
)

-- ---- feed by feed

fault_alike : (config : Config) (p q : ℕ → Bool) (already : ℕ) (text : List ℕ) (list : FeedList)
    → ListsFeed config already text list → ((m : ℕ) → p m ≡ q m) → refused_by p list.named.items list.fault ≡ feed_fault config q already text
fault_alike config p q already text list x same = refused_alike p q list.named.items list.fault same ∙ x.refused q

heads : (ys : List FeedList) (k : ℕ) (d : FeedList) → k < length ys → d ≡ get_or ys k d → drop k ys ≡ d ∷ drop (suc k) ys
heads [] k d l e = absurd (omega arith)
heads (y ∷ ys) zero d l e = ap (λ (z : FeedList). z ∷ ys) (sym e)
heads (y ∷ ys) (suc k) d l e = heads ys k d (omega arith) e

drop_head : (xs : List FeedList) (n : ℕ) (d : FeedList) → n < length xs → d ≡ get_or xs n d → drop n xs ≡ d ∷ drop (n + 1) xs
drop_head xs n d l e = rw (add-one) (heads xs n d l e)

-- what is left begins with this list
left_first : (config : Config) (bytes : ℕ) (rest : List (List ℕ)) (lists left : List FeedList) (list : FeedList) → lists ≡ list ∷ left
    → ListsAll config true bytes rest lists
    → (text : List ℕ) × (texts : List (List ℕ)) × (rest ≡ text ∷ texts) × ListsFeed config bytes text list
    × ListsAll config (is_none list.fault) (bytes + length text) texts left
left_first config bytes [] lists left list e all = absurd (subst (ListsAll config true bytes []) e all)
left_first config bytes (text ∷ texts) lists left list e all =
    let h = subst (ListsAll config true bytes (text ∷ texts)) e all in (text, texts, refl, h.0, h.1)

pub judged_first : (config : Config) (already : ℕ) (texts : List (List ℕ)) (lists : List FeedList)
    → ListsAll config true already texts lists → Judged config already texts lists 0 []
judged_first config already texts lists all = record {
  others = [];
  rest = texts;
  bytes = already;
  count_is = refl;
  same = refl;
  taken_is = λ member. refl;
  left = all;
}

feeds_first : (config : Config) (others : List (List ℕ)) (bytes : ℕ) (text : List ℕ) (texts : List (List ℕ)) (fault : Option LineFault)
    → feed_fault config (name_one config others) bytes text ≡ fault
    → feeds_fault config others bytes (text ∷ texts)
    ≡ or_else (at_file (length others + 1) fault) (feeds_fault config (others ++ text ∷ []) (bytes + length text) texts)
unfolding feeds_fault
feeds_first config others bytes text texts fault e =
    ap (λ (f : Option LineFault). or_else (at_file (length others + 1) f) (feeds_fault config (others ++ text ∷ []) (bytes + length text) texts)) e

-- the next feed has a refused line
pub judged_stops : (config : Config) (already : ℕ) (texts : List (List ℕ)) (lists : List FeedList) (count : ℕ) (taken : List ℕ) (list : FeedList)
    (fault : LineFault) → count < length lists → list ≡ get_or lists count list → Judged config already texts lists count taken
    → refused_by (is_among taken) list.named.items list.fault ≡ Some fault
    → feeds_fault config [] already texts ≡ Some (count + 1, fault)
judged_stops config already texts lists count taken list fault l at x e =
    let first = left_first config x.bytes x.rest (drop count lists) (drop (count + 1) lists) list (drop_head lists count list l at) x.left in
    let here : feed_fault config (name_one config x.others) x.bytes first.0 ≡ Some fault =
    sym (fault_alike config (is_among taken) (name_one config x.others) x.bytes first.0 list first.3 x.taken_is) ∙ e in
    x.same ∙ ap (feeds_fault config x.others x.bytes) first.2
    ∙ feeds_first config x.others x.bytes first.0 first.1 (Some fault) here
    ∙ ap (λ (n : ℕ). Some (n + 1, fault)) x.count_is

none_by : (shared : Option Naming) (fault : Option LineFault) → or_else (shared_fault shared) fault ≡ None → fault ≡ None
none_by None fault e = e
none_by (Some one) fault e = absurd (cc)

pub none_own : (p : ℕ → Bool) (named : List Naming) (fault : Option LineFault) → refused_by p named fault ≡ None → fault ≡ None
none_own p named fault e = none_by (first_shared p named) fault e

any_one_more : (p : List ℕ → Bool) (xs : List (List ℕ)) (x : List ℕ) → list_any p (xs ++ x ∷ []) ≡ (list_any p xs || p x)
any_one_more p [] x = or_last (p x)
  where
    or_last : (b : Bool) → (b || false) ≡ b
    or_last true = refl
    or_last false = refl
any_one_more p (y ∷ ys) x = ap (λ (b : Bool). p y || b) (any_one_more p ys x) ∙ sym (or_assoc (p y) (list_any p ys) (p x))

-- the next feed has none, and its members are taken
pub judged_goes : (config : Config) (already : ℕ) (texts : List (List ℕ)) (lists : List FeedList) (count : ℕ) (taken taken' : List ℕ) (list : FeedList)
    → count < length lists → list ≡ get_or lists count list → Judged config already texts lists count taken
    → refused_by (is_among taken) list.named.items list.fault ≡ None
    → ((member : ℕ) → is_among taken' member ≡ (is_among taken member || has_name list.named.items member))
    → Judged config already texts lists (count + 1) taken'
judged_goes config already texts lists count taken taken' list l at x e more =
    let first = left_first config x.bytes x.rest (drop count lists) (drop (count + 1) lists) list (drop_head lists count list l at) x.left in
    let here : feed_fault config (name_one config x.others) x.bytes first.0 ≡ None =
    sym (fault_alike config (is_among taken) (name_one config x.others) x.bytes first.0 list first.3 x.taken_is) ∙ e in
    let own : list.fault ≡ None = none_own (is_among taken) list.named.items list.fault e in
    let live : is_none list.fault ≡ true = ap is_none own in
    record {
      others = x.others ++ first.0 ∷ [];
      rest = first.1;
      bytes = x.bytes + length first.0;
      count_is = length-append x.others (first.0 ∷ []) ∙ ap (λ (n : ℕ). n + 1) x.count_is;
      same = x.same ∙ ap (feeds_fault config x.others x.bytes) first.2 ∙ feeds_first config x.others x.bytes first.0 first.1 None here;
      taken_is = λ member. more member
          ∙ ap (λ (b : Bool). b || has_name list.named.items member) (x.taken_is member)
          ∙ ap (λ (b : Bool). name_one config x.others member || b) (first.3.names own member)
          ∙ sym (any_one_more (λ (t : List ℕ). names config t member) x.others first.0);
      left = subst (λ (b : Bool). ListsAll config b (x.bytes + length first.0) first.1 (drop (count + 1) lists)) live first.4;
    }

-- no feed is left
pub judged_ends : (config : Config) (already : ℕ) (texts : List (List ℕ)) (lists : List FeedList) (count : ℕ) (taken : List ℕ)
    → length lists ≤ count → Judged config already texts lists count taken → feeds_fault config [] already texts ≡ None
unfolding feeds_fault
judged_ends config already texts lists count taken l x =
    x.same ∙ ap (feeds_fault config x.others x.bytes) (all_done x.rest (subst (ListsAll config true x.bytes x.rest) (drop_all count lists l) x.left))
  where
    all_done : (rest : List (List ℕ)) → ListsAll config true x.bytes rest [] → rest ≡ []
    all_done [] h = refl
    all_done (text ∷ rest) h = absurd h
