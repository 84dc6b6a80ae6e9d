-- Lines that begin others, and a journal's lines beside those that were worked.
use Rattle.std.proofs.Common.{◌≡◌, ◌≢◌, ℕ, suc, ◌+◌, ◌≤◌, ◌<◌, List, [], ◌∷◌, ◌++◌, length, take, drop, Some, slice_get, refl, sym, ◌∙◌, ap, subst, append-nil, append_assoc, arith, length-append}
use Rattle.std.proofs.lemmas.List.{take_all, take_more, nil_from_length, length-take-le, append_cancel_left}
use Rattle.std.proofs.lemmas.Option.{get_or_from_slice_get, slice_get_within}
use Rattle.std.proofs.Math.ListN.{drop_of_length-le}
use Rattle.std.proofs.Math.Seq.{drop-cons}
use Rattle.day_core.specs.Agreement.{IsFront, kept}

pub front_all : (lines : List (List ℕ)) → IsFront lines lines
front_all lines = ([], sym (append-nil lines))

pub front_none : (lines : List (List ℕ)) → IsFront [] lines
front_none lines = (lines, refl)

pub front_trans : (a b c : List (List ℕ)) → IsFront a b → IsFront b c → IsFront a c
front_trans a b c x y =
    (x.0 ++ y.0, y.1 ∙ ap (λ (l : List (List ℕ)). l ++ y.0) x.1 ∙ append_assoc a x.0 y.0)

pub front_push : (a b more : List (List ℕ)) → IsFront a b → IsFront a (b ++ more)
front_push a b more x = front_trans a b (b ++ more) x (more, refl)

-- first lines of the same number are the same
pub same_front : (a b : List (List ℕ)) → IsFront a b → length b ≡ length a → b ≡ a
same_front a b x e =
    let sum : length b ≡ length a + length x.0 = ap length x.1 ∙ length-append a x.0 in
    let none : x.0 ≡ [] = nil_from_length x.0 (omega (arith, sum, e)) in
    x.1 ∙ ap (λ (l : List (List ℕ)). a ++ l) none ∙ append-nil a

pub take_next : (lines : List (List ℕ)) (k : ℕ) (line : List ℕ) → slice_get lines k ≡ Some line → take (k + 1) lines ≡ take k lines ++ line ∷ []
take_next lines k line e =
    take_more lines k [] (slice_get_within lines k line e)
    ∙ ap (λ (l : List ℕ). take k lines ++ l ∷ []) (get_or_from_slice_get lines k line [] e)

pub drop_next : (lines : List (List ℕ)) (k : ℕ) (line : List ℕ) → slice_get lines k ≡ Some line → drop k lines ≡ line ∷ drop (k + 1) lines
drop_next lines k line e =
    let more : suc k ≡ k + 1 = omega arith in
    drop-cons lines k [] (slice_get_within lines k line e)
    ∙ ap (λ (l : List ℕ). l ∷ drop (suc k) lines) (get_or_from_slice_get lines k line [] e)
    ∙ ap (λ (n : ℕ). line ∷ drop n lines) more

-- ---- a journal that has a line at the place behind those that were worked

-- up to there it has those that were worked
pub had_front : (journal worked : List (List ℕ)) (line : List ℕ) → IsFront (take (length worked) journal) worked
    → slice_get journal (length worked) ≡ Some line → worked ≡ take (length worked) journal
had_front journal worked line x e =
    let inside = slice_get_within journal (length worked) line e in
    same_front (take (length worked) journal) worked x (sym (length-take-le (length worked) journal (omega (arith, inside))))

pub had_next : (journal worked : List (List ℕ)) (line : List ℕ) → IsFront (take (length worked) journal) worked
    → slice_get journal (length worked) ≡ Some line → take (length worked + 1) journal ≡ worked ++ line ∷ []
had_next journal worked line x e =
    take_next journal (length worked) line e
    ∙ ap (λ (l : List (List ℕ)). l ++ line ∷ []) (sym (had_front journal worked line x e))

-- it is the line that was worked
pub kept_same : (journal worked : List (List ℕ)) (line : List ℕ) → slice_get journal (length worked) ≡ Some line
    → kept journal (worked ++ line ∷ []) ≡ kept journal worked
kept_same journal worked line e =
    let count : length (worked ++ line ∷ []) ≡ length worked + 1 = length-append worked (line ∷ []) in
    append_assoc worked (line ∷ []) (drop (length (worked ++ line ∷ [])) journal)
    ∙ ap (λ (n : ℕ). worked ++ (line ∷ drop n journal)) count
    ∙ ap (λ (l : List (List ℕ)). worked ++ l) (sym (drop_next journal (length worked) line e))

-- it is another one than the script has there
pub had_other : (journal worked : List (List ℕ)) (line other : List ℕ) (more : List (List ℕ)) → IsFront (take (length worked) journal) worked
    → slice_get journal (length worked) ≡ Some other → other ≢ line → IsFront (take (length worked + 1) journal) (worked ++ line ∷ more) → ⊥
had_other journal worked line other more x e differ y =
    let both : worked ++ (line ∷ more) ≡ worked ++ (other ∷ y.0) =
    y.1 ∙ ap (λ (l : List (List ℕ)). l ++ y.0) (had_next journal worked other x e) ∙ append_assoc worked (other ∷ []) y.0 in
    let next : line ∷ more ≡ other ∷ y.0 = append_cancel_left worked (line ∷ more) (other ∷ y.0) both in
    let same : other ≡ line = cc in
    differ same

-- the script has no line there
pub had_more : (journal worked : List (List ℕ)) → length worked < length journal
    → IsFront (take (length worked + 1) journal) worked → ⊥
had_more journal worked inside y =
    let size : length (take (length worked + 1) journal) ≡ length worked + 1 = length-take-le (length worked + 1) journal (omega (arith, inside)) in
    let sum : length worked ≡ length (take (length worked + 1) journal) + length y.0 = ap length y.1 ∙ length-append (take (length worked + 1) journal) y.0 in
    absurd (omega (arith, size, sum))

-- ---- a journal that has no line there

pub past_take : (journal : List (List ℕ)) (n : ℕ) → length journal ≤ n → take n journal ≡ journal
past_take journal n le = take_all n journal le

-- all its lines were worked
pub past_front : (journal worked : List (List ℕ)) → IsFront (take (length worked) journal) worked → length journal ≤ length worked → IsFront journal worked
past_front journal worked x le = subst (λ (l : List (List ℕ)). IsFront l worked) (past_take journal (length worked) le) x

pub kept_past : (journal worked : List (List ℕ)) → length journal ≤ length worked → kept journal worked ≡ worked
kept_past journal worked le =
    ap (λ (l : List (List ℕ)). worked ++ l) (drop_of_length-le journal le) ∙ append-nil worked

pub kept_none : (journal : List (List ℕ)) → kept journal [] ≡ journal
kept_none journal = refl
