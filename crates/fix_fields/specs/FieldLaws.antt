-- The split is the one list of fields that spells the bytes.
use Rattle.std.proofs.Common.{◌≡◌, ℕ, zero, suc, ◌+◌, ◌-◌, ◌<◌, Bool, true, false, ◌&&◌, ◌||◌, cond, eqb, List, [], ◌∷◌, ◌++◌, length, take, drop, get_or, Option, Some, None, Result, Ok, Err, ◌⊎◌, inl, inr, refl, sym, ◌∙◌, ap, subst, arith, append_assoc, length-append, length-drop}
use Rattle.std.specs.Prelude.{decimal, is_none, IsSome}
use Rattle.std.specs.Option.{ok_or, option_map}
use Rattle.std.specs.Fmt.{digits}
use Rattle.std.specs.List.{position, list_any, starts_with}
use Rattle.std.proofs.lemmas.Bool.{cases_lt, eqb-true, and_parts, or_parts}
use Rattle.std.proofs.Math.Seq.{take-add}
use Rattle.std.proofs.lemmas.List.{take-append-drop, take_at, drop_at, drop_more, get_or_past, length-take-le, drop-drop, get_or_at, get_or-append-add}
use Rattle.std.proofs.lemmas.List.Folds.{list_any-append}
use lib.Pointwise.{bytes_decides}
use Rattle.fix_fields.specs.declared.field.Field.{Field}
use Rattle.fix_fields.specs.declared.field.FieldFault.{FieldFault}
use Rattle.fix_fields.specs.declared.field.FieldFault.TheVariants.{NoEquals, BadTag, NoEnd, DataShort}
use Rattle.fix_fields.specs.declared.splitting.Due.{Due}
use Rattle.fix_fields.specs.Forms.{tag_of, number_of}
use Rattle.fix_fields.specs.Fields.{◌>>=◌, is_end, is_equals, is_length, data_behind, Cut, data_front, plain_cut, data_cut, cut_at, with_first, split_from, split}
use Rattle.fix_fields.specs.Marks.{first_of, position-first}
use Rattle.fix_fields.specs.Tags.{tag_found, tag_again, tag_no_end, tag_no_equals}
use Rattle.fix_fields.specs.Spelling.{spelling, spellings, IsPlain, IsData, AreFields}

bind_ok : {A B : Type 0} (r : Result A FieldFault) (f : A → Result B FieldFault) (y : B) → (r >>= f) ≡ Ok y → (x : A) × (r ≡ Ok x) × (f x ≡ Ok y)
bind_ok (Ok x) f y h = (x, refl, h)
bind_ok (Err e) f y h = absurd (cc)

ok_or_found : (o : Option ℕ) (e : FieldFault) (x : ℕ) → ok_or o e ≡ Ok x → o ≡ Some x
ok_or_found None e x h = absurd (cc)
ok_or_found (Some y) e x h = let same : y ≡ x = cc in ap (λ (z : ℕ). Some z) same

guard_ok : (b : Bool) (e : FieldFault) (x y : Cut) → cond b (Err e) (Ok x) ≡ Ok y → (b ≡ false) × (x ≡ y)
guard_ok true e x y h = absurd (cc)
guard_ok false e x y h = (refl, cc)

test_ok : (b : Bool) (e : FieldFault) (x y : Cut) → cond b (Ok x) (Err e) ≡ Ok y → (b ≡ true) × (x ≡ y)
test_ok true e x y h = (refl, cc)
test_ok false e x y h = absurd (cc)

any_drop : (p : ℕ → Bool) (n : ℕ) (xs : List ℕ) → list_any p xs ≡ false → list_any p (drop n xs) ≡ false
any_drop p zero xs h = h
any_drop p (suc n) [] h = refl
any_drop p (suc n) (x ∷ xs) h = any_drop p n xs (or_parts (p x) (list_any p xs) h).1

some_number : (b : Bool) (o : Option ℕ) → (b && is_none o) ≡ false → b ≡ true → IsSome o
some_number true (Some n) h e = refl
some_number true None h e = absurd (cc)
some_number false o h e = absurd (cc)

no_guard : (b : Bool) (o : Option ℕ) → (b ≡ true → IsSome o) → (b && is_none o) ≡ false
no_guard true (Some n) h = refl
no_guard true None h = let e : false ≡ true = h refl in absurd (cc)
no_guard false o h = refl

-- a tag, `=`, a value and SOH before the rest
regroup : (t b d : List ℕ) → (t ++ 61 ∷ (b ++ 1 ∷ [])) ++ d ≡ (t ++ 61 ∷ b) ++ 1 ∷ d
regroup t b d = append_assoc t (61 ∷ (b ++ 1 ∷ [])) d ∙ ap (λ (x : List ℕ). t ++ 61 ∷ x) (append_assoc b (1 ∷ []) d) ∙ sym (append_assoc t (61 ∷ b) (1 ∷ d))

-- a field that was cut from the front is as it must be, and is spelled there
pub record IsCut (IsGood : Field → Type 0) (rest : List ℕ) (cut : Cut) : Type 0 where
  pub good : IsGood cut.field
  pub whole : rest ≡ spelling cut.field ++ drop cut.size rest

plain_found : (at : ℕ) (rest : List ℕ) (cut : Cut) → plain_cut at rest ≡ Ok cut → IsCut IsPlain rest cut
unfolding plain_cut
plain_found at rest cut h =
    let b1 = bind_ok (ok_or (position is_end rest) (NoEnd at)) _ cut h in
    let end = b1.0 in
    let line = take end rest in
    let b2 = bind_ok (ok_or (position is_equals line) (NoEquals at)) _ cut b1.2 in
    let equals = b2.0 in
    let b3 = bind_ok (ok_or (tag_of (take equals line)) (BadTag at)) _ cut b2.2 in
    let tag = b3.0 in
    let bytes = drop (equals + 1) line in
    let made : Cut = record { field = record { tag = tag; bytes = bytes }; size = end + 1 } in
    let g = guard_ok (is_length tag && is_none (number_of bytes)) (DataShort at) made cut b3.2 in
    let p1 = first_of is_end rest end (ok_or_found (position is_end rest) (NoEnd at) end b1.1) in
    let p2 = first_of is_equals line equals (ok_or_found (position is_equals line) (NoEquals at) equals b2.1) in
    let t = tag_found (take equals line) tag (ok_or_found (tag_of (take equals line)) (BadTag at) tag b3.1) in
    let soh : p1.mark ≡ 1 = eqb-true p1.mark 1 p1.passes in
    let sign : p2.mark ≡ 61 = eqb-true p2.mark 61 p2.passes in
    let front : line ≡ decimal tag ++ 61 ∷ bytes = p2.whole ∙ ap (λ (x : ℕ). take equals line ++ x ∷ p2.rest) sign ∙ ap (λ (x : List ℕ). take equals line ++ 61 ∷ x) p2.behind ∙ ap (λ (x : List ℕ). x ++ 61 ∷ bytes) (sym t.0) in
    let all : rest ≡ (decimal tag ++ 61 ∷ bytes) ++ 1 ∷ drop (end + 1) rest = p1.whole ∙ ap (λ (x : ℕ). line ++ x ∷ p1.rest) soh ∙ ap (λ (x : List ℕ). line ++ 1 ∷ x) p1.behind ∙ ap (λ (x : List ℕ). x ++ 1 ∷ drop (end + 1) rest) front in
    let found : IsCut IsPlain rest made = record {
      good = record { low = t.1; high = t.2; value = any_drop is_end (equals + 1) line p1.before; number = some_number (is_length tag) (number_of bytes) g.0 };
      whole = all ∙ sym (regroup (decimal tag) bytes (drop (end + 1) rest));
    } in
    subst (λ (c : Cut). IsCut IsPlain rest c) g.1 found

-- the tags of data
abbrev pub HasTag : Due → Type 0
HasTag due = (due.tag ≡ 96) ⊎ (due.tag ≡ 355)

front_is : (due : Due) → HasTag due → data_front due.tag ≡ decimal due.tag ++ 61 ∷ []
unfolding digits
front_is due (inl h) = rw h refl
front_is due (inr h) = rw h refl

front_of : (front rest : List ℕ) → starts_with eqb rest front ≡ true → take (length front) rest ≡ front
front_of front rest h = sym ((bytes_decides front (take (length front) rest)).0 h)

-- a list with a byte that is not 0 at a place
at_mark : (xs : List ℕ) (n : ℕ) → get_or xs n 0 ≡ 1 → (n < length xs) × (xs ≡ take n xs ++ 1 ∷ drop (n + 1) xs)
at_mark xs n h =
    let l : n < length xs = elim (cases_lt n (length xs)) [ inl a ↦ a | inr b ↦ absurd (let z : get_or xs n 0 ≡ 0 = get_or_past xs n 0 b in omega arith) ] in
    (l, sym (take-append-drop n xs) ∙ ap (λ (x : List ℕ). take n xs ++ x) (drop_more xs n 0 l ∙ ap (λ (x : ℕ). x ∷ drop (n + 1) xs) h))

data_found : (at : ℕ) (due : Due) (rest : List ℕ) (cut : Cut) → HasTag due → data_cut at due rest ≡ Ok cut → IsCut (IsData due) rest cut
unfolding data_cut
data_found at due rest cut tag h =
    let front = data_front due.tag in
    let many = length front + due.size in
    let bytes = take due.size (drop (length front) rest) in
    let made : Cut = record { field = record { tag = due.tag; bytes = bytes }; size = many + 1 } in
    let g = test_ok (starts_with eqb rest front && eqb (get_or rest many 0) 1) (DataShort at) made cut h in
    let f = and_parts (starts_with eqb rest front) (eqb (get_or rest many 0) 1) g.0 in
    let m = at_mark rest many (eqb-true _ 1 f.1) in
    let two : take many rest ≡ decimal due.tag ++ 61 ∷ bytes = take-add (length front) due.size rest ∙ ap (λ (x : List ℕ). x ++ bytes) (front_of front rest f.0 ∙ front_is due tag) ∙ append_assoc (decimal due.tag) (61 ∷ []) bytes in
    let found : IsCut (IsData due) rest made = record {
      good = record { tag = refl; size = length-take-le due.size (drop (length front) rest) (omega (arith, m.0, length-drop (length front) rest)) };
      whole = m.1 ∙ ap (λ (x : List ℕ). x ++ 1 ∷ drop (many + 1) rest) two ∙ sym (regroup (decimal due.tag) bytes (drop (many + 1) rest));
    } in
    subst (λ (c : Cut). IsCut (IsData due) rest c) g.1 found

-- a cut of either kind
abbrev pub IsNext : Option Due → Field → Type 0
IsNext None field = IsPlain field
IsNext (Some due) field = IsData due field

abbrev pub HasTags : Option Due → Type 0
HasTags None = Unit {0}
HasTags (Some due) = HasTag due

cut_found : (at : ℕ) (due : Option Due) (rest : List ℕ) (cut : Cut) → HasTags due → cut_at at due rest ≡ Ok cut → IsCut (IsNext due) rest cut
cut_found at None rest cut tags h = plain_found at rest cut h
cut_found at (Some due) rest cut tags h = data_found at due rest cut tags h

data_behind-tags : (tag : ℕ) (bytes : List ℕ) → HasTags (data_behind tag bytes)
unfolding data_behind
data_behind-tags tag bytes =
    elim (eqb tag 95) as (λ b. (eqb tag 95 ≡ b) → HasTags (cond (b || eqb tag 354) (option_map (λ size. record { tag = tag + 1; size = size }) (number_of bytes)) None)) [
      | true ↦ λ e. elim (number_of bytes) as (λ o. HasTags (option_map (λ size. record { tag = tag + 1; size = size }) o)) [ None ↦ tt | Some n ↦ inl (omega (arith, eqb-true tag 95 e)) ]
      | false ↦ λ _. elim (eqb tag 354) as (λ b. (eqb tag 354 ≡ b) → HasTags (cond b (option_map (λ size. record { tag = tag + 1; size = size }) (number_of bytes)) None)) [
        | true ↦ λ e. elim (number_of bytes) as (λ o. HasTags (option_map (λ size. record { tag = tag + 1; size = size }) o)) [ None ↦ tt | Some n ↦ inr (omega (arith, eqb-true tag 354 e)) ]
        | false ↦ λ _. tt
      ] refl
    ] refl

joined : (due : Option Due) (field : Field) (fields : List Field) → IsNext due field → AreFields (data_behind field.tag field.bytes) fields → AreFields due (field ∷ fields)
joined None field fields h rest = (h, rest)
joined (Some due) field fields h rest = (h, rest)

with_first-ok : (field : Field) (r : Result (List Field) FieldFault) (fields : List Field) → with_first field r ≡ Ok fields → (more : List Field) × (r ≡ Ok more) × (fields ≡ field ∷ more)
with_first-ok field (Ok more) fields h = (more, refl, cc)
with_first-ok field (Err e) fields h = absurd (cc)

abbrev Found : ℕ → ℕ → Type 0
Found fuel total = (due : Option Due) (rest : List ℕ) (fields : List Field) → HasTags due → split_from fuel total due rest ≡ Ok fields → AreFields due fields × (rest ≡ spellings fields)

-- one step of it
found_step : (fuel total : ℕ) → Found fuel total → (due : Option Due) (rest : List ℕ) (fields : List Field) → HasTags due → (cut_at (total - length rest) due rest >>= λ cut. with_first cut.field (split_from fuel total (data_behind cut.field.tag cut.field.bytes) (drop cut.size rest))) ≡ Ok fields → AreFields due fields × (rest ≡ spellings fields)
found_step fuel total more due rest fields tags h =
    let b = bind_ok (cut_at (total - length rest) due rest) _ fields h in
    let cut = b.0 in
    let p = with_first-ok cut.field (split_from fuel total (data_behind cut.field.tag cut.field.bytes) (drop cut.size rest)) fields b.2 in
    let c = cut_found (total - length rest) due rest cut tags b.1 in
    let m = more (data_behind cut.field.tag cut.field.bytes) (drop cut.size rest) p.0 (data_behind-tags cut.field.tag cut.field.bytes) p.1 in
    let whole : rest ≡ spellings (cut.field ∷ p.0) = c.whole ∙ ap (λ (x : List ℕ). spelling cut.field ++ x) m.1 in
    subst (λ (fs : List Field). AreFields due fs × (rest ≡ spellings fs)) (sym p.2) (joined due cut.field p.0 c.good m.0, whole)

found_from : (fuel total : ℕ) → Found fuel total
found_from zero total due rest fields tags h = absurd (cc)
found_from (suc fuel) total None [] fields tags h =
    let e : fields ≡ [] = cc in
    subst (λ (fs : List Field). AreFields None fs × ([] ≡ spellings fs)) (sym e) (tt, refl)
found_from (suc fuel) total None (x ∷ xs) fields tags h = found_step fuel total (found_from fuel total) None (x ∷ xs) fields tags h
found_from (suc fuel) total (Some due) [] fields tags h = found_step fuel total (found_from fuel total) (Some due) [] fields tags h
found_from (suc fuel) total (Some due) (x ∷ xs) fields tags h = found_step fuel total (found_from fuel total) (Some due) (x ∷ xs) fields tags h

-- the fields that bytes are split into are fields, and spell the bytes
pub split_found : (bytes : List ℕ) (fields : List Field) → split bytes ≡ Ok fields → AreFields None fields × (bytes ≡ spellings fields)
unfolding split
split_found bytes fields h = found_from (suc (length bytes)) (length bytes) None bytes fields tt h

plain_value : (at : ℕ) (rest : List ℕ) (end : ℕ) (line : List ℕ) (equals : ℕ) (front : List ℕ) (tag : ℕ) (bytes : List ℕ) → position is_end rest ≡ Some end → take end rest ≡ line → position is_equals line ≡ Some equals → take equals line ≡ front → tag_of front ≡ Some tag → drop (equals + 1) line ≡ bytes → (is_length tag && is_none (number_of bytes)) ≡ false → plain_cut at rest ≡ Ok (record { field = record { tag = tag; bytes = bytes }; size = end + 1 })
unfolding plain_cut
plain_value at rest end line equals front tag bytes p1 e1 p2 e2 p3 e3 g = rw (p1, e1, p2, e2, p3, e3, g) refl

spelling_long : (field : Field) → length (spelling field) ≡ length (decimal field.tag ++ 61 ∷ field.bytes) + 1
spelling_long field = omega (arith, length-append (decimal field.tag) (61 ∷ (field.bytes ++ 1 ∷ [])), length-append field.bytes (1 ∷ []), length-append (decimal field.tag) (61 ∷ field.bytes))

-- a field as it was cut
abbrev cut_of : Field → Result Cut FieldFault
cut_of field = Ok (record { field = field; size = length (spelling field) })

plain_again : (at : ℕ) (field : Field) (rest : List ℕ) → IsPlain field → plain_cut at (spelling field ++ rest) ≡ cut_of field
plain_again at field rest good =
    let t = decimal field.tag in
    let b = field.bytes in
    let line = t ++ 61 ∷ b in
    let e : spelling field ++ rest ≡ line ++ 1 ∷ rest = regroup t b rest in
    let no_end : list_any is_end line ≡ false = list_any-append is_end t (61 ∷ b) ∙ (rw (tag_no_end field.tag good.high) good.value) in
    let p1 : position is_end (line ++ 1 ∷ rest) ≡ Some (length line) = position-first is_end line 1 rest no_end refl in
    let e1 : take (length line) (line ++ 1 ∷ rest) ≡ line = take_at line (1 ∷ rest) (length line) refl in
    let p2 : position is_equals line ≡ Some (length t) = position-first is_equals t 61 b (tag_no_equals field.tag good.high) refl in
    let e2 : take (length t) line ≡ t = take_at t (61 ∷ b) (length t) refl in
    let e3 : drop (length t + 1) line ≡ b = sym (drop-drop 1 (length t) line) ∙ ap (drop 1) (drop_at t (61 ∷ b) (length t) refl) in
    let g : (is_length field.tag && is_none (number_of b)) ≡ false = no_guard (is_length field.tag) (number_of b) good.number in
    ap (plain_cut at) e ∙ plain_value at (line ++ 1 ∷ rest) (length line) line (length t) t field.tag b p1 e1 p2 e2 (tag_again field.tag good.low good.high) e3 g
    ∙ ap (λ (n : ℕ). Ok (record { field = field; size = n })) (sym (spelling_long field))

data_value : (at : ℕ) (due : Due) (rest front bytes : List ℕ) → data_front due.tag ≡ front → starts_with eqb rest front ≡ true → eqb (get_or rest (length front + due.size) 0) 1 ≡ true → take due.size (drop (length front) rest) ≡ bytes → data_cut at due rest ≡ Ok (record { field = record { tag = due.tag; bytes = bytes }; size = length front + due.size + 1 })
unfolding data_cut
data_value at due rest front bytes f s m e = rw (f, s, m, e) refl

data_again : (at : ℕ) (due : Due) (field : Field) (rest : List ℕ) → HasTag due → IsData due field → data_cut at due (spelling field ++ rest) ≡ cut_of field
data_again at due field rest tag good =
    let t = decimal due.tag in
    let b = field.bytes in
    let front = t ++ 61 ∷ [] in
    let named : decimal field.tag ≡ t = ap decimal good.tag in
    let e : spelling field ++ rest ≡ front ++ (b ++ 1 ∷ rest) =
    regroup (decimal field.tag) b rest ∙ ap (λ (x : List ℕ). (x ++ 61 ∷ b) ++ 1 ∷ rest) named ∙ append_assoc t (61 ∷ b) (1 ∷ rest) ∙ sym (append_assoc t (61 ∷ []) (b ++ 1 ∷ rest)) in
    let all = front ++ (b ++ 1 ∷ rest) in
    let s : starts_with eqb all front ≡ true = (bytes_decides front (take (length front) all)).1 (sym (take_at front (b ++ 1 ∷ rest) (length front) refl)) in
    let mark : get_or all (length front + due.size) 0 ≡ 1 = get_or-append-add front (b ++ 1 ∷ rest) due.size 0 ∙ get_or_at b 1 rest 0 due.size good.size in
    let m : eqb (get_or all (length front + due.size) 0) 1 ≡ true = rw mark refl in
    let v : take due.size (drop (length front) all) ≡ b = ap (take due.size) (drop_at front (b ++ 1 ∷ rest) (length front) refl) ∙ take_at b (1 ∷ rest) due.size good.size in
    let long : length front + due.size + 1 ≡ length (spelling field) = omega (arith, spelling_long field, length-append t (61 ∷ []), length-append (decimal field.tag) (61 ∷ b), ap length named, good.size) in
    ap (data_cut at due) e ∙ data_value at due all front b (front_is due tag) s m v
    ∙ ap (λ (n : ℕ). Ok (record { field = record { tag = due.tag; bytes = b }; size = n })) long
    ∙ ap (λ (n : ℕ). Ok (record { field = record { tag = n; bytes = b }; size = length (spelling field) })) (sym good.tag)

cut_again : (at : ℕ) (due : Option Due) (field : Field) (rest : List ℕ) → HasTags due → IsNext due field → cut_at at due (spelling field ++ rest) ≡ cut_of field
cut_again at None field rest tags good = plain_again at field rest good
cut_again at (Some due) field rest tags good = data_again at due field rest tags good

split_step : (fuel total : ℕ) (due : Option Due) (rest : List ℕ) → 0 < length rest → split_from (suc fuel) total due rest ≡ (cut_at (total - length rest) due rest >>= λ cut. with_first cut.field (split_from fuel total (data_behind cut.field.tag cut.field.bytes) (drop cut.size rest)))
split_step fuel total due [] h = absurd (omega arith)
split_step fuel total None (x ∷ xs) h = refl
split_step fuel total (Some due) (x ∷ xs) h = refl

parted : (due : Option Due) (field : Field) (fields : List Field) → AreFields due (field ∷ fields) → IsNext due field × AreFields (data_behind field.tag field.bytes) fields
parted None field fields h = h
parted (Some due) field fields h = h

only_from : (fuel total : ℕ) (due : Option Due) (fields : List Field) → HasTags due → length (spellings fields) < fuel → AreFields due fields → split_from fuel total due (spellings fields) ≡ Ok fields
only_from zero total due fields tags room h = absurd (omega arith)
only_from (suc fuel) total None [] tags room h = refl
only_from (suc fuel) total (Some due) [] tags room h = absurd h
only_from (suc fuel) total due (field ∷ fields) tags room h =
    let parts = parted due field fields h in
    let rest = spelling field ++ spellings fields in
    let long : length rest ≡ length (spelling field) + length (spellings fields) = length-append (spelling field) (spellings fields) in
    let some : 0 < length (spelling field) = omega (arith, spelling_long field) in
    let cut = cut_again (total - length rest) due field (spellings fields) tags parts.0 in
    let behind : drop (length (spelling field)) rest ≡ spellings fields = drop_at (spelling field) (spellings fields) (length (spelling field)) refl in
    let more = only_from fuel total (data_behind field.tag field.bytes) fields (data_behind-tags field.tag field.bytes) (omega arith) parts.1 in
    split_step fuel total due rest (omega arith)
    ∙ ap (λ (r : Result Cut FieldFault). r >>= λ cut. with_first cut.field (split_from fuel total (data_behind cut.field.tag cut.field.bytes) (drop cut.size rest))) cut
    ∙ ap (λ (r : List ℕ). with_first field (split_from fuel total (data_behind field.tag field.bytes) r)) behind
    ∙ ap (with_first field) more

-- bytes that fields spell are split into these fields
pub split_only : (fields : List Field) → AreFields None fields → split (spellings fields) ≡ Ok fields
unfolding split
split_only fields h = only_from (suc (length (spellings fields))) (length (spellings fields)) None fields tt (omega arith) h
