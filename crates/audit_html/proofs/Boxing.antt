-- One more row.
use Rattle.std.proofs.Common.{◌≡◌, ◌<◌, ◌≤◌, ℕ, zero, suc, ◌+◌, List, [], ◌∷◌, ◌++◌, length, take, refl, sym, ◌∙◌, ap, subst, append_assoc, append-nil, arith}
use Rattle.std.proofs.lemmas.List.{length-append, take-append-le, take_all}
use Rattle.audit_html.specs.declared.chunks.Chunks.{Chunks}
use Rattle.audit_html.specs.Chunks.{Adds, Box, Holds, boxed, chunked, opening}

chunked_more : (box : Box) (n : ℕ) (rows : List (List ℕ)) (row : List ℕ)
    → chunked box n (rows ++ row ∷ []) ≡ chunked box n rows ++ (opening box (n + length rows) ++ row)
chunked_more box n [] row =
    let here : n + 0 ≡ n = omega arith in
    append-nil (opening box n ++ row) ∙ ap (λ (k : ℕ). opening box k ++ row) (sym here)
chunked_more box n (first ∷ rows) row =
    let next : (n + 1) + length rows ≡ n + suc (length rows) = omega arith in
    ap (λ (t : List ℕ). (opening box n ++ first) ++ t) (chunked_more box (n + 1) rows row)
    ∙ ap (λ (k : ℕ). (opening box n ++ first) ++ (chunked box (n + 1) rows ++ (opening box k ++ row))) next
    ∙ sym (append_assoc (opening box n ++ first) (chunked box (n + 1) rows) (opening box (n + suc (length rows)) ++ row))

few : (most : ℕ) (rows : List (List ℕ)) → length (take most rows) < most → length rows < most
few zero rows lt = absurd (omega (arith, lt))
few (suc most) [] lt = omega arith
few (suc most) (row ∷ rows) lt = let h = few most rows (omega (arith, lt)) in omega (arith, h)

-- there is room for one more
held_more : (box : Box) (rows : List (List ℕ)) (row : List ℕ) (old new : Chunks) (opened : List ℕ) → Holds box rows old → old.shown < old.most → new.most ≡ old.most
    → opened ≡ old.text.items ++ opening box old.shown → new.text.items ≡ opened ++ row → new.shown ≡ old.shown + 1 → new.all ≡ old.all + 1
    → Holds box (rows ++ row ∷ []) new
held_more box rows row old new opened holds room most begins text shown all =
    let lt : length rows < old.most = few old.most rows (omega (arith, holds.shown, room)) in
    let was : take old.most rows ≡ rows = take_all old.most rows (omega (arith, lt)) in
    let size : length (rows ++ row ∷ []) ≡ length rows + 1 = length-append rows (row ∷ []) in
    let now : take new.most (rows ++ row ∷ []) ≡ rows ++ row ∷ [] = ap (λ (n : ℕ). take n (rows ++ row ∷ [])) most ∙ take_all old.most (rows ++ row ∷ []) (omega (arith, size, lt)) in
    let count : old.shown ≡ length rows = holds.shown ∙ ap (λ (l : List (List ℕ)). length l) was in
    let here : old.shown ≡ 0 + length rows = omega (arith, count) in record {
      text = text
          ∙ ap (λ (t : List ℕ). t ++ row) begins
          ∙ append_assoc old.text.items (opening box old.shown) row
          ∙ ap (λ (t : List ℕ). t ++ (opening box old.shown ++ row)) (holds.text ∙ ap (λ (l : List (List ℕ)). chunked box 0 l) was)
          ∙ ap (λ (k : ℕ). chunked box 0 rows ++ (opening box k ++ row)) here
          ∙ sym (chunked_more box 0 rows row)
          ∙ ap (λ (l : List (List ℕ)). chunked box 0 l) (sym now);
      shown = omega (arith, shown, count, size, ap (λ (l : List (List ℕ)). length l) now);
      all = omega (arith, all, holds.all, size);
    }

full_take : (most : ℕ) (rows : List (List ℕ)) (row : List ℕ) → most ≤ length rows → take most (rows ++ row ∷ []) ≡ take most rows
full_take most rows row le = take-append-le most rows (row ∷ []) le

many : (most : ℕ) (rows : List (List ℕ)) → most ≤ length (take most rows) → most ≤ length rows
many zero rows le = omega arith
many (suc most) [] le = absurd (omega (arith, le))
many (suc most) (row ∷ rows) le = let h = many most rows (omega (arith, le)) in omega (arith, h)

-- there is none
held_full : (box : Box) (rows : List (List ℕ)) (row : List ℕ) (old new : Chunks) → Holds box rows old → old.most ≤ old.shown
    → new ≡ record old { all = old.all + 1 } → Holds box (rows ++ row ∷ []) new
held_full box rows row old new holds full is =
    let le = many old.most rows (omega (arith, holds.shown, full)) in
    let same = sym (full_take old.most rows row le) in
    subst (Holds box (rows ++ row ∷ [])) (sym is) (record {
      text = holds.text ∙ ap (λ (l : List (List ℕ)). chunked box 0 l) same;
      shown = holds.shown ∙ ap (λ (l : List (List ℕ)). length l) same;
      all = omega (arith, holds.all, length-append rows (row ∷ []));
    })

-- ---- rows that are added

pub added_held : (box : Box) (row : List ℕ) (old new : Chunks) (opened : List ℕ) → old.shown < old.most → new.most ≡ old.most
    → opened ≡ old.text.items ++ opening box old.shown → new.text.items ≡ opened ++ row → new.shown ≡ old.shown + 1 → new.all ≡ old.all + 1
    → Adds box (row ∷ []) old new
added_held box row old new opened room most begins text shown all = record {
  rows = λ rows holds. held_more box rows row old new opened holds room most begins text shown all;
  most = most;
}

pub added_full : (box : Box) (row : List ℕ) (old new : Chunks) → old.most ≤ old.shown → new ≡ record old { all = old.all + 1 } → Adds box (row ∷ []) old new
added_full box row old new full is = record {
  rows = λ rows holds. held_full box rows row old new holds full is;
  most = ap (λ (chunks : Chunks). chunks.most) is;
}

-- no rows are added
pub added_none : (box : Box) (chunks : Chunks) → Adds box [] chunks chunks
added_none box chunks = record { rows = λ rows holds. subst (λ (l : List (List ℕ)). Holds box l chunks) (sym (append-nil rows)) holds; most = refl }

-- some, and then others
pub added_then : (box : Box) (one other both : List (List ℕ)) (first second third : Chunks) → Adds box one first second → Adds box other second third
    → both ≡ one ++ other → Adds box both first third
added_then box one other both first second third a b is = record {
  rows = λ rows holds. subst (λ (l : List (List ℕ)). Holds box l third)
      (append_assoc rows one other ∙ ap (λ (l : List (List ℕ)). rows ++ l) (sym is)) (b.rows (rows ++ one) (a.rows rows holds));
  most = b.most ∙ a.most;
}

-- ---- rows in their boxes

-- no rows, and some
boxed_none : (box : Box) (rows : List (List ℕ)) → length rows ≡ 0 → boxed box rows ≡ []
boxed_none box [] none = refl
boxed_none box (row ∷ rows) none = absurd (omega (arith, none))

boxed_some : (box : Box) (rows : List (List ℕ)) → 0 < length rows → boxed box rows ≡ chunked box 0 rows ++ box.end
boxed_some box [] lt = absurd (omega (arith, lt))
boxed_some box (row ∷ rows) lt = refl

-- nothing is put of no rows
pub none_boxed : (box : Box) (rows : List (List ℕ)) (chunks : Chunks) (out : List ℕ) → Holds box rows chunks → chunks.shown ≡ 0
    → out ≡ out ++ boxed box (take chunks.most rows)
none_boxed box rows chunks out holds none =
    sym (append-nil out) ∙ ap (λ (t : List ℕ). out ++ t) (sym (boxed_none box (take chunks.most rows) (sym holds.shown ∙ none)))

-- the text and the last box's end are put of some
pub some_boxed : (box : Box) (rows : List (List ℕ)) (chunks : Chunks) (end old now new : List ℕ) → Holds box rows chunks → 0 < chunks.shown → end ≡ box.end
    → now ≡ old ++ chunks.text.items → new ≡ now ++ end → new ≡ old ++ boxed box (take chunks.most rows)
some_boxed box rows chunks end old now new holds some ends text more =
    let shown : 0 < length (take chunks.most rows) = omega (arith, holds.shown, some) in
    more
    ∙ ap (λ (t : List ℕ). t ++ end) text
    ∙ append_assoc old chunks.text.items end
    ∙ ap (λ (t : List ℕ). old ++ (t ++ end)) holds.text
    ∙ ap (λ (t : List ℕ). old ++ (chunked box 0 (take chunks.most rows) ++ t)) ends
    ∙ ap (λ (t : List ℕ). old ++ t) (sym (boxed_some box (take chunks.most rows) shown))
