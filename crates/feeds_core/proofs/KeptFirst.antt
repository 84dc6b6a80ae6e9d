-- Feeds that are read one behind the other.
use Rattle.std.proofs.Common.{◌≡◌, ℕ, zero, suc, ◌+◌, ◌<◌, ◌≤◌, Bool, true, false, List, [], ◌∷◌, ◌++◌, length, map, take, get_or, rules, Option, None, Some, IfSome, IsNone, option_map, option_and_then, refl, sym, ◌∙◌, ap, subst, append-nil, append_assoc, add-one, arith}
use Rattle.std.proofs.lemmas.List.{take_all}
use denote.Ref.{Bor}
use Rattle.io_edge.specs.Files.{Files, HasFile, file_named}
use Rattle.feeds_core.specs.FeedFiles.{texts_named, HasAll}
use Rattle.feeds_core.specs.FeedTexts.{Keeps, KeepsAll, bytes_behind, is_whole}
use Rattle.feeds_core.specs.Reading.{KeepsFirst}
use Rattle.feeds_core.specs.declared.feed_text.FeedText.{FeedText}
use Rattle.feeds_core.specs.declared.feed_text.FeedEnd.{FeedEnd}
use Rattle.feeds_core.specs.declared.feed_text.FeedEnd.TheVariants.{Whole, Unended, TooLong, Over}

pub keeps_none : (files : Files) (names : List (List ℕ)) (already : ℕ) → KeepsFirst files names 0 already already []
unfolding texts_named
keeps_none files names already = record {
  texts = [];
  named = refl;
  is_live = true;
  now = already;
  now_is = λ e. refl;
  goes = λ ts ks k. k;
}

-- ---- one more name

take_more : (names : List (List ℕ)) (count : ℕ) (name : List ℕ) → count < length names → get_or names count name ≡ name
    → take (suc count) names ≡ take count names ++ name ∷ []
take_more [] count name l e = absurd (omega arith)
take_more (n ∷ ns) zero name l e = ap (λ (x : List ℕ). x ∷ []) e
take_more (n ∷ ns) (suc count) name l e = ap (λ (xs : List (List ℕ)). n ∷ xs) (take_more ns count name (omega arith) e)

named_then : (files : Files) (ns : List (List ℕ)) (name text : List ℕ) (texts : List (List ℕ)) (a : Option (List ℕ)) (b : Option (List (List ℕ)))
    → texts_named files ns ≡ b → ((ts : List (List ℕ)) → b ≡ Some ts → texts_named files (ns ++ name ∷ []) ≡ Some (ts ++ text ∷ []))
    → option_and_then (λ t. option_map (λ ts. t ∷ ts) b) a ≡ Some texts
    → option_and_then (λ t. option_map (λ ts. t ∷ ts) (texts_named files (ns ++ name ∷ []))) a ≡ Some (texts ++ text ∷ [])
named_then files ns name text texts None b h more k = absurd (cc)
named_then files ns name text texts (Some t) None h more k = absurd (cc)
named_then files ns name text texts (Some t) (Some ts) h more k =
    let all : texts ≡ t ∷ ts = cc in
    rw (more ts refl, all) refl

named_more : (files : Files) (names : List (List ℕ)) (name text : List ℕ) (texts : List (List ℕ)) → texts_named files names ≡ Some texts
    → file_named files name ≡ Some text → texts_named files (names ++ name ∷ []) ≡ Some (texts ++ text ∷ [])
unfolding texts_named
named_more files [] name text texts e f =
    let none : texts ≡ [] = cc in rw (f, none) refl
named_more files (n ∷ ns) name text texts e f =
    named_then files ns name text texts (file_named files n) (texts_named files ns) refl (λ ts k. named_more files ns name text ts k f) e

abbrev live_both : Bool → Bool → Bool
live_both true b = b
live_both false b = false

keeps_on : (live : Bool) (now : ℕ) (text : List ℕ) (kept : FeedText) (ts : List (List ℕ)) (ks : List FeedText)
    → (live ≡ true → Keeps now text kept) → KeepsAll (live_both live (is_whole kept.end)) (now + length text) ts ks
    → KeepsAll live now (text ∷ ts) (kept ∷ ks)
keeps_on true now text kept ts ks x k = (x refl, k)
keeps_on false now text kept ts ks x k = ap suc k

whole_of : (end : FeedEnd) → is_whole end ≡ true → end ≡ Whole
whole_of Whole e = refl
whole_of Unended e = absurd (cc)
whole_of TooLong e = absurd (cc)
whole_of Over e = absurd (cc)

both_live : (a b : Bool) → live_both a b ≡ true → (a ≡ true) × (b ≡ true)
both_live true b e = (refl, e)
both_live false b e = absurd (cc)

pub keeps_next : (files : Files) (names : List (List ℕ)) (count already bytes : ℕ) (kepts kepts' : List FeedText) (name text : List ℕ) (kept : FeedText)
    → KeepsFirst files names count already bytes kepts → count < length names → get_or names count name ≡ name
    → file_named files name ≡ Some text → Keeps bytes text kept → kepts' ≡ kepts ++ kept ∷ []
    → KeepsFirst files names (count + 1) already (bytes_behind kept) kepts'
keeps_next files names count already bytes kepts kepts' name text kept x l at f k e =
    let taken : take (count + 1) names ≡ take count names ++ name ∷ [] = rw add-one (take_more names count name l at) in
    record {
      texts = x.texts ++ text ∷ [];
      named = ap (texts_named files) taken ∙ named_more files (take count names) name text x.texts x.named f;
      is_live = live_both x.is_live (is_whole kept.end);
      now = x.now + length text;
      now_is = λ live.
          let both = both_live x.is_live (is_whole kept.end) live in
          (k.whole (whole_of kept.end both.1)).1 ∙ ap (λ (n : ℕ). n + length text) (x.now_is both.0);
      goes = λ ts ks all.
          let here : KeepsAll x.is_live x.now (text ∷ ts) (kept ∷ ks) =
          keeps_on x.is_live x.now text kept ts ks (λ live. subst (λ (n : ℕ). Keeps n text kept) (x.now_is live) k) all in
          let front : KeepsAll true already (x.texts ++ text ∷ ts) (kepts ++ kept ∷ ks) = x.goes (text ∷ ts) (kept ∷ ks) here in
          let texts : x.texts ++ text ∷ ts ≡ (x.texts ++ text ∷ []) ++ ts = sym (append_assoc x.texts (text ∷ []) ts) in
          let lists : kepts ++ kept ∷ ks ≡ kepts' ++ ks = sym (append_assoc kepts (kept ∷ []) ks) ∙ ap (λ (y : List FeedText). y ++ ks) (sym e) in
          subst (λ (y : List FeedText). KeepsAll true already ((x.texts ++ text ∷ []) ++ ts) y) lists
          (subst (λ (t : List (List ℕ)). KeepsAll true already t (kepts ++ kept ∷ ks)) texts front);
    }

-- ---- all names

end_live : (live : Bool) (now : ℕ) → KeepsAll live now [] []
end_live true now = tt
end_live false now = refl

-- all files were read
pub record KeptAll (files : Files) (names : List (List ℕ)) (already : ℕ) (kepts : List FeedText) : Type 0 where
  pub texts : List (List ℕ)
  pub named : texts_named files names ≡ Some texts
  pub keeps : KeepsAll true already texts kepts

pub keeps_last : (files : Files) (names : List (List ℕ)) (count already bytes : ℕ) (kepts : List FeedText)
    → KeepsFirst files names count already bytes kepts → length names ≤ count → KeptAll files names already kepts
keeps_last files names count already bytes kepts x l = record {
  texts = x.texts;
  named = subst (λ (ns : List (List ℕ)). texts_named files ns ≡ Some x.texts) (take_all count names l) x.named;
  keeps = subst (λ (ts : List (List ℕ)). KeepsAll true already ts kepts) (append-nil x.texts)
      (subst (KeepsAll true already (x.texts ++ [])) (append-nil kepts) (x.goes [] [] (end_live x.is_live x.now)));
}

-- a name of all these has its file
pub has_one : (told : Option Files) (names : List (List ℕ)) (count : ℕ) (name : List ℕ) → count < length names → get_or names count name ≡ name
    → HasAll told names → HasFile told name
has_one told [] count name l e all = absurd (omega arith)
has_one told (n ∷ ns) zero name l e all = subst (HasFile told) e all.0
has_one told (n ∷ ns) (suc count) name l e all = has_one told ns count name (omega arith) e all.1

-- ---- as they are read

pub name_at_place : (names : List (Bor (List ℕ))) (i : ℕ) (d : Bor (List ℕ)) → i < length names
    → get_or (map (λ (n : Bor (List ℕ)). n.now) names) i (get_or names i d).now ≡ (get_or names i d).now
name_at_place [] i d l = absurd (omega arith)
name_at_place (n ∷ ns) zero d l = refl
name_at_place (n ∷ ns) (suc i) d l = name_at_place ns i d (omega arith)

-- a file that was read is there
pub record OneRead (files : Files) (name : List ℕ) (bytes : ℕ) (kept : FeedText) : Type 0 where
  pub text : List ℕ
  pub named : file_named files name ≡ Some text
  pub keeps : Keeps bytes text kept

read_there : (files : Files) (name : List ℕ) (bytes : ℕ) (kept : FeedText) (file : Option (List ℕ)) → file_named files name ≡ file
    → IfSome file (λ text. Keeps bytes text kept) → (IsNone file → ⊥) → OneRead files name bytes kept
read_there files name bytes kept None e k there = absurd (there (search rules))
read_there files name bytes kept (Some text) e k there = record { text = text; named = e; keeps = k }

pub one_read : (told : Option Files) (files : Files) (name : List ℕ) (bytes : ℕ) (kept : FeedText) → told ≡ Some files
    → IfSome told (λ files. IfSome (file_named files name) (λ text. Keeps bytes text kept))
    → IfSome told (λ files. IsNone (file_named files name) → ⊥) → OneRead files name bytes kept
one_read told files name bytes kept e k there =
    read_there files name bytes kept (file_named files name) refl
    (subst (λ (t : Option Files). IfSome t (λ files. IfSome (file_named files name) (λ text. Keeps bytes text kept))) e k)
    (subst (λ (t : Option Files). IfSome t (λ files. IsNone (file_named files name) → ⊥)) e there)

pub all_named : (told : Option Files) (names : List (List ℕ)) (already : ℕ) (kepts : List FeedText)
    → ((files : Files) → told ≡ Some files → KeptAll files names already kepts)
    → IfSome told (λ files. IfSome (texts_named files names) (λ texts. KeepsAll true already texts kepts))
all_named None names already kepts h = tt
all_named (Some files) names already kepts h =
    let x = h files refl in
    subst (λ (o : Option (List (List ℕ))). IfSome o (λ texts. KeepsAll true already texts kepts)) (sym x.named) x.keeps

pub none_missing : (told : Option Files) (names : List (List ℕ)) (already : ℕ) (kepts : List FeedText) (P : Type 0)
    → ((files : Files) → told ≡ Some files → KeptAll files names already kepts)
    → IfSome told (λ files. texts_named files names ≡ None → P)
none_missing None names already kepts P h = tt
none_missing (Some files) names already kepts P h =
    λ e. let x = h files refl in
    let no : Some x.texts ≡ None = sym x.named ∙ e in absurd (cc)
