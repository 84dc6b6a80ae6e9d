-- What is wrong with a field that no data is due before.
use Rattle.std.proofs.Common.{◌≡◌, ℕ, suc, ◌+◌, ◌<◌, ◌≤◌, Bool, true, false, not, ◌&&◌, cond, ltb, List, [], ◌∷◌, ◌++◌, length, take, Option, Some, None, Err, ◌⊎◌, inl, inr, refl, sym, ◌∙◌, ap, arith}
use Rattle.std.specs.Prelude.{decimal, is_none, IsSome}
use Rattle.std.specs.List.{position, position_or_len, list_any}
use Rattle.std.proofs.lemmas.Bool.{ltb-false, eqb-true, or_parts}
use Rattle.std.proofs.lemmas.Bool.Decides.{nat_tests}
use Rattle.std.proofs.lemmas.List.{take_at}
use Rattle.std.proofs.lemmas.List.Folds.{list_any-append}
use Rattle.fix_fields.specs.declared.field.Field.{Field}
use Rattle.fix_fields.specs.declared.field.FieldFault.{FieldFault}
use Rattle.fix_fields.specs.declared.field.FieldFault.TheVariants.{NoEquals, BadTag, NoEnd, DataShort, NoMemory}
use Rattle.fix_fields.specs.Forms.{tag_of, number_of}
use Rattle.fix_fields.specs.Fields.{is_end, is_equals, is_length, plain_cut}
use Rattle.fix_fields.specs.Marks.{first_of, position-first}
use Rattle.fix_fields.specs.Tags.{tag_found, tag_again}
use Rattle.fix_fields.specs.Spelling.{spelling, IsPlain}
use Rattle.message_laws.specs.Faults.{IsLine, HasNoEquals, HasBadTag, HasBadLength, place_of}
use Rattle.message_laws.proofs.Cutting.{regroup, tagged}

-- ---- where nothing is found

no_place : (p : ℕ → Bool) (xs : List ℕ) → length xs ≤ position_or_len p xs → list_any p xs ≡ false
no_place p [] h = refl
no_place p (x ∷ xs) h =
    elim (p x) as (λ b. (p x ≡ b) → suc (length xs) ≤ cond (not b) (1 + position_or_len p xs) 0 → list_any p (x ∷ xs) ≡ false) [
      | true ↦ λ e l. absurd (omega arith)
      | false ↦ λ e l. rw e (no_place p xs (omega arith))
    ] refl h

not_some : (b : Bool) (n : ℕ) → cond b (Some n) None ≡ None → b ≡ false
not_some true n h = absurd (cc)
not_some false n h = refl

none_found : (p : ℕ → Bool) (xs : List ℕ) → position p xs ≡ None → list_any p xs ≡ false
none_found p xs h =
    no_place p xs (ltb-false (position_or_len p xs) (length xs) (not_some (ltb (position_or_len p xs) (length xs)) (position_or_len p xs) h))

at_length : (p : ℕ → Bool) (xs : List ℕ) → list_any p xs ≡ false → position_or_len p xs ≡ length xs
at_length p [] h = refl
at_length p (x ∷ xs) h =
    let f = or_parts (p x) (list_any p xs) h in
    let here : p x ≡ false = f.0 in
    let more : position_or_len p xs ≡ length xs = at_length p xs f.1 in
    rw here (omega arith)

not_below : (n : ℕ) → ltb n n ≡ false
not_below n = grind (arith, nat_tests)

position-none : (p : ℕ → Bool) (xs : List ℕ) → list_any p xs ≡ false → position p xs ≡ None
position-none p xs h = let at : position_or_len p xs ≡ length xs = at_length p xs h in rw (at, not_below (length xs)) refl

-- ---- the field or the fault

-- what is wrong with bytes where a field begins
abbrev pub WrongHere : FieldFault → List ℕ → Type 0
WrongHere (NoEnd at) rest = list_any is_end rest ≡ false
WrongHere (NoEquals at) rest = HasNoEquals rest
WrongHere (BadTag at) rest = HasBadTag rest
WrongHere (DataShort at) rest = HasBadLength rest
WrongHere NoMemory rest = ⊥

pub record BeginsPlain (rest : List ℕ) : Type 0 where
  pub field : Field
  pub behind : List ℕ
  pub good : IsPlain field
  pub whole : rest ≡ spelling field ++ behind

pub record CutsWrong (at : ℕ) (rest : List ℕ) : Type 0 where
  pub fault : FieldFault
  pub cut : plain_cut at rest ≡ Err fault
  pub place : place_of fault ≡ at
  pub wrong : WrongHere fault rest

some_number : (b : Bool) (o : Option ℕ) → (b && is_none o) ≡ false → b ≡ true → IsSome o
some_number true (Some n) h e = refl
some_number true None h e = absurd (cc)
some_number false o h e = absurd (cc)

bad_number : (b : Bool) (o : Option ℕ) → (b && is_none o) ≡ true → (b ≡ true) × (o ≡ None)
bad_number true (Some n) h = absurd (cc)
bad_number true None h = (refl, refl)
bad_number false o h = absurd (cc)

-- a line with a tag
with_tag : (at tag : ℕ) (value rest : List ℕ) → 0 < tag → tag < 100000 → IsLine (decimal tag ++ 61 ∷ value) rest → list_any is_end value ≡ false → BeginsPlain rest ⊎ CutsWrong at rest
with_tag at tag value rest low high line none =
    let cut = ap (plain_cut at) line.whole ∙ tagged at tag value line.behind low high none in
    elim (is_length tag && is_none (number_of value)) as (λ b. ((is_length tag && is_none (number_of value)) ≡ b) → BeginsPlain rest ⊎ CutsWrong at rest) [
      | true ↦ λ e.
          let bad = bad_number (is_length tag) (number_of value) e in
          inr (record {
            fault = DataShort at;
            cut = cut ∙ rw e refl;
            place = refl;
            wrong = record { tag = tag; value = value; first = line; low = low; high = high; length = bad.0; bad = bad.1 };
          })
      | false ↦ λ e. inl (record {
        field = record { tag = tag; bytes = value };
        behind = line.behind;
        good = record { low = low; high = high; value = none; number = some_number (is_length tag) (number_of value) e };
        whole = line.whole ∙ sym (regroup (decimal tag) value line.behind);
      })
    ] refl

cut_bad_tag : (at : ℕ) (front value rest : List ℕ) → IsLine (front ++ 61 ∷ value) rest → list_any is_equals front ≡ false → tag_of front ≡ None → plain_cut at rest ≡ Err (BadTag at)
unfolding plain_cut
cut_bad_tag at front value rest line none bad =
    let whole = front ++ 61 ∷ value in
    let p1 : position is_end (whole ++ 1 ∷ line.behind) ≡ Some (length whole) = position-first is_end whole 1 line.behind line.none refl in
    let e1 : take (length whole) (whole ++ 1 ∷ line.behind) ≡ whole = take_at whole (1 ∷ line.behind) (length whole) refl in
    let p2 : position is_equals whole ≡ Some (length front) = position-first is_equals front 61 value none refl in
    let e2 : take (length front) whole ≡ front = take_at front (61 ∷ value) (length front) refl in
    ap (plain_cut at) line.whole ∙ rw (p1, e1, p2, e2, bad) refl

-- a line with `=`
with_equals : (at : ℕ) (front value rest : List ℕ) → IsLine (front ++ 61 ∷ value) rest → list_any is_equals front ≡ false → BeginsPlain rest ⊎ CutsWrong at rest
with_equals at front value rest line none =
    elim (tag_of front) as (λ o. (tag_of front ≡ o) → BeginsPlain rest ⊎ CutsWrong at rest) [
      | None ↦ λ e. inr (record {
        fault = BadTag at;
        cut = cut_bad_tag at front value rest line none e;
        place = refl;
        wrong = record { front = front; value = value; first = line; none = none; bad = λ tag low high same. let x : Some tag ≡ None = sym (tag_again tag low high) ∙ ap tag_of (sym same) ∙ e in cc };
      })
      | Some tag ↦ λ e.
          let t = tag_found front tag e in
          let same : front ++ 61 ∷ value ≡ decimal tag ++ 61 ∷ value = ap (λ (x : List ℕ). x ++ 61 ∷ value) (sym t.0) in
          let parts = or_parts (list_any is_end front) (list_any is_end (61 ∷ value)) (sym (list_any-append is_end front (61 ∷ value)) ∙ line.none) in
          with_tag at tag value rest t.1 t.2
          (record { behind = line.behind; whole = line.whole ∙ ap (λ (x : List ℕ). x ++ 1 ∷ line.behind) same; none = ap (list_any is_end) (sym same) ∙ line.none }) parts.1
    ] refl

cut_no_equals : (at : ℕ) (line rest : List ℕ) → IsLine line rest → list_any is_equals line ≡ false → plain_cut at rest ≡ Err (NoEquals at)
unfolding plain_cut
cut_no_equals at line rest first none =
    let p1 : position is_end (line ++ 1 ∷ first.behind) ≡ Some (length line) = position-first is_end line 1 first.behind first.none refl in
    let e1 : take (length line) (line ++ 1 ∷ first.behind) ≡ line = take_at line (1 ∷ first.behind) (length line) refl in
    let p2 : position is_equals line ≡ None = position-none is_equals line none in
    ap (plain_cut at) first.whole ∙ rw (p1, e1, p2) refl

-- a line
with_line : (at : ℕ) (line rest : List ℕ) → IsLine line rest → BeginsPlain rest ⊎ CutsWrong at rest
with_line at line rest first =
    elim (position is_equals line) as (λ o. (position is_equals line ≡ o) → BeginsPlain rest ⊎ CutsWrong at rest) [
      | None ↦ λ e.
          let none = none_found is_equals line e in
          inr (record { fault = NoEquals at; cut = cut_no_equals at line rest first none; place = refl; wrong = record { line = line; first = first; none = none } })
      | Some equals ↦ λ e.
          let p = first_of is_equals line equals e in
          let sign : p.mark ≡ 61 = eqb-true p.mark 61 p.passes in
          let same : line ≡ take equals line ++ 61 ∷ p.rest = p.whole ∙ ap (λ (x : ℕ). take equals line ++ x ∷ p.rest) sign in
          with_equals at (take equals line) p.rest rest
          (record { behind = first.behind; whole = first.whole ∙ ap (λ (x : List ℕ). x ++ 1 ∷ first.behind) same; none = ap (list_any is_end) (sym same) ∙ first.none }) p.before
    ] refl

cut_no_end : (at : ℕ) (rest : List ℕ) → list_any is_end rest ≡ false → plain_cut at rest ≡ Err (NoEnd at)
unfolding plain_cut
cut_no_end at rest none = rw (position-none is_end rest none) refl

pub plain_or_wrong : (at : ℕ) (rest : List ℕ) → BeginsPlain rest ⊎ CutsWrong at rest
plain_or_wrong at rest =
    elim (position is_end rest) as (λ o. (position is_end rest ≡ o) → BeginsPlain rest ⊎ CutsWrong at rest) [
      | None ↦ λ e. let none = none_found is_end rest e in inr (record { fault = NoEnd at; cut = cut_no_end at rest none; place = refl; wrong = none })
      | Some end ↦ λ e.
          let p = first_of is_end rest end e in
          let soh : p.mark ≡ 1 = eqb-true p.mark 1 p.passes in
          with_line at (take end rest) rest (record { behind = p.rest; whole = p.whole ∙ ap (λ (x : ℕ). take end rest ++ x ∷ p.rest) soh; none = p.before })
    ] refl

-- ---- what is wrong is answered

cut_bad_length : (at : ℕ) (rest : List ℕ) → HasBadLength rest → plain_cut at rest ≡ Err (DataShort at)
cut_bad_length at rest h =
    let parts = or_parts (list_any is_end (decimal h.tag)) (list_any is_end (61 ∷ h.value)) (sym (list_any-append is_end (decimal h.tag) (61 ∷ h.value)) ∙ h.first.none) in
    let long : is_length h.tag ≡ true = h.length in
    let bad : number_of h.value ≡ None = h.bad in
    ap (plain_cut at) h.first.whole ∙ tagged at h.tag h.value h.first.behind h.low h.high parts.1 ∙ rw (long, bad) refl

no_tag : (front : List ℕ) → ((tag : ℕ) → 0 < tag → tag < 100000 → front ≡ decimal tag → ⊥) → tag_of front ≡ None
no_tag front bad =
    elim (tag_of front) as (λ o. (tag_of front ≡ o) → tag_of front ≡ None) [
      | None ↦ λ e. e
      | Some tag ↦ λ e. let t = tag_found front tag e in absurd (bad tag t.1 t.2 (sym t.0))
    ] refl

pub wrong_is_cut : (at : ℕ) (fault : FieldFault) (rest : List ℕ) → place_of fault ≡ at → WrongHere fault rest → plain_cut at rest ≡ Err fault
wrong_is_cut at (NoEnd k) rest place none = ap (λ (n : ℕ). plain_cut n rest) (sym place) ∙ cut_no_end k rest none
wrong_is_cut at (NoEquals k) rest place h = ap (λ (n : ℕ). plain_cut n rest) (sym place) ∙ cut_no_equals k h.line rest h.first h.none
wrong_is_cut at (BadTag k) rest place h = ap (λ (n : ℕ). plain_cut n rest) (sym place) ∙ cut_bad_tag k h.front h.value rest h.first h.none (no_tag h.front h.bad)
wrong_is_cut at (DataShort k) rest place h = ap (λ (n : ℕ). plain_cut n rest) (sym place) ∙ cut_bad_length k rest h
wrong_is_cut at NoMemory rest place h = absurd h
