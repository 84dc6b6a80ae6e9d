-- A field that is spelled at the front of bytes is cut from there, and what is cut is one.
use Rattle.std.proofs.Common.{◌≡◌, ℕ, ◌+◌, ◌<◌, Bool, true, false, ◌&&◌, ◌||◌, cond, eqb, List, [], ◌∷◌, ◌++◌, length, take, drop, get_or, Option, Some, None, Result, Ok, Err, ◌⊎◌, inl, inr, refl, sym, ◌∙◌, ap, arith, append_assoc, length-append, length-drop}
use Rattle.std.specs.Prelude.{decimal, is_none, IsSome}
use Rattle.std.specs.Option.{option_map}
use Rattle.std.specs.Fmt.{digits}
use Rattle.std.specs.List.{position, list_any, starts_with}
use Rattle.std.proofs.lemmas.Bool.{cases_lt, eqb-true, and_parts}
use Rattle.std.proofs.Math.Seq.{take-add}
use Rattle.std.proofs.lemmas.List.{take-append-drop, take_at, drop_at, drop_more, get_or_past, length-take-le, drop-drop, get_or_at, get_or-append-add}
use Rattle.std.proofs.lemmas.List.Folds.{list_any-append}
use lib.Pointwise.{bytes_decides}
use Rattle.fix_fields.specs.declared.field.Field.{Field}
use Rattle.fix_fields.specs.declared.field.FieldFault.{FieldFault}
use Rattle.fix_fields.specs.declared.field.FieldFault.TheVariants.{DataShort}
use Rattle.fix_fields.specs.FieldLaws.{HasTag, HasTags, IsNext}
use Rattle.fix_fields.specs.Forms.{tag_of, number_of}
use Rattle.fix_fields.specs.Fields.{is_end, is_equals, is_length, data_behind, Cut, data_front, plain_cut, data_cut, cut_at}
use Rattle.fix_fields.specs.Marks.{position-first}
use Rattle.fix_fields.specs.Tags.{tag_again, tag_no_end, tag_no_equals}
use Rattle.fix_fields.specs.Spelling.{spelling, IsPlain, IsData}

no_guard : (b : Bool) (o : Option ℕ) → (b ≡ true → IsSome o) → (b && is_none o) ≡ false
no_guard true (Some n) h = refl
no_guard true None h = let e : false ≡ true = h refl in absurd (cc)
no_guard false o h = refl

-- a tag, `=`, a value and SOH before the rest
pub regroup : (t b d : List ℕ) → (t ++ 61 ∷ (b ++ 1 ∷ [])) ++ d ≡ (t ++ 61 ∷ b) ++ 1 ∷ d
regroup t b d = append_assoc t (61 ∷ (b ++ 1 ∷ [])) d ∙ ap (λ (x : List ℕ). t ++ 61 ∷ x) (append_assoc b (1 ∷ []) d) ∙ sym (append_assoc t (61 ∷ b) (1 ∷ d))

front_is : (due : _) → HasTag due → data_front due.tag ≡ decimal due.tag ++ 61 ∷ []
unfolding digits
front_is due (inl h) = rw h refl
front_is due (inr h) = rw h refl

front_of : (front rest : List ℕ) → starts_with eqb rest front ≡ true → take (length front) rest ≡ front
front_of front rest h = sym ((bytes_decides front (take (length front) rest)).0 h)

at_mark : (xs : List ℕ) (n : ℕ) → get_or xs n 0 ≡ 1 → (n < length xs) × (xs ≡ take n xs ++ 1 ∷ drop (n + 1) xs)
at_mark xs n h =
    let l : n < length xs = elim (cases_lt n (length xs)) [ inl a ↦ a | inr b ↦ absurd (let z : get_or xs n 0 ≡ 0 = get_or_past xs n 0 b in omega arith) ] in
    (l, sym (take-append-drop n xs) ∙ ap (λ (x : List ℕ). take n xs ++ x) (drop_more xs n 0 l ∙ ap (λ (x : ℕ). x ∷ drop (n + 1) xs) h))

-- where data is cut, it stands there; where it isn't, it is short
pub data_or_short : (at : ℕ) (due : _) (rest : List ℕ) → HasTag due → ((field : Field) × (behind : List ℕ) × IsData due field × (rest ≡ spelling field ++ behind)) ⊎ (data_cut at due rest ≡ Err (DataShort at))
unfolding data_cut
data_or_short at due rest tag =
    let front = data_front due.tag in
    let many = length front + due.size in
    let bytes = take due.size (drop (length front) rest) in
    let field : Field = record { tag = due.tag; bytes = bytes } in
    elim (starts_with eqb rest front && eqb (get_or rest many 0) 1) as (λ b. ((starts_with eqb rest front && eqb (get_or rest many 0) 1) ≡ b) → ((field : Field) × (behind : List ℕ) × IsData due field × (rest ≡ spelling field ++ behind)) ⊎ (data_cut at due rest ≡ Err (DataShort at))) [
      | true ↦ λ e.
          let f = and_parts (starts_with eqb rest front) (eqb (get_or rest many 0) 1) e in
          let m = at_mark rest many (eqb-true _ 1 f.1) in
          let two : take many rest ≡ decimal due.tag ++ 61 ∷ bytes = take-add (length front) due.size rest ∙ ap (λ (x : List ℕ). x ++ bytes) (front_of front rest f.0 ∙ front_is due tag) ∙ append_assoc (decimal due.tag) (61 ∷ []) bytes in
          inl (
            field,
            drop (many + 1) rest,
            record { tag = refl; size = length-take-le due.size (drop (length front) rest) (omega (arith, m.0, length-drop (length front) rest)) },
            m.1 ∙ ap (λ (x : List ℕ). x ++ 1 ∷ drop (many + 1) rest) two ∙ sym (regroup (decimal due.tag) bytes (drop (many + 1) rest)),
          )
      | false ↦ λ e. inr (rw e refl)
    ] refl

pub plain_value : (at : ℕ) (rest : List ℕ) (end : ℕ) (line : List ℕ) (equals : ℕ) (front : List ℕ) (tag : ℕ) (bytes : List ℕ) → position is_end rest ≡ Some end → take end rest ≡ line → position is_equals line ≡ Some equals → take equals line ≡ front → tag_of front ≡ Some tag → drop (equals + 1) line ≡ bytes → plain_cut at rest ≡ cond (is_length tag && is_none (number_of bytes)) (Err (DataShort at)) (Ok (record { field = record { tag = tag; bytes = bytes }; size = end + 1 }))
unfolding plain_cut
plain_value at rest end line equals front tag bytes p1 e1 p2 e2 p3 e3 = rw (p1, e1, p2, e2, p3, e3) refl

pub spelling_long : (field : Field) → length (spelling field) ≡ length (decimal field.tag ++ 61 ∷ field.bytes) + 1
spelling_long field = omega (arith, length-append (decimal field.tag) (61 ∷ (field.bytes ++ 1 ∷ [])), length-append field.bytes (1 ∷ []), length-append (decimal field.tag) (61 ∷ field.bytes))

-- a field as it was cut
abbrev pub cut_of : Field → Result Cut FieldFault
cut_of field = Ok (record { field = field; size = length (spelling field) })

-- a line with a tag
pub tagged : (at : ℕ) (tag : ℕ) (b rest : List ℕ) → 0 < tag → tag < 100000 → list_any is_end b ≡ false → plain_cut at ((decimal tag ++ 61 ∷ b) ++ 1 ∷ rest) ≡ cond (is_length tag && is_none (number_of b)) (Err (DataShort at)) (Ok (record { field = record { tag = tag; bytes = b }; size = length (decimal tag ++ 61 ∷ b) + 1 }))
tagged at tag b rest low high value =
    let t = decimal tag in
    let line = t ++ 61 ∷ b in
    let no_end : list_any is_end line ≡ false = list_any-append is_end t (61 ∷ b) ∙ (rw (tag_no_end tag high) value) in
    let p1 : position is_end (line ++ 1 ∷ rest) ≡ Some (length line) = position-first is_end line 1 rest no_end refl in
    let e1 : take (length line) (line ++ 1 ∷ rest) ≡ line = take_at line (1 ∷ rest) (length line) refl in
    let p2 : position is_equals line ≡ Some (length t) = position-first is_equals t 61 b (tag_no_equals tag high) refl in
    let e2 : take (length t) line ≡ t = take_at t (61 ∷ b) (length t) refl in
    let e3 : drop (length t + 1) line ≡ b = sym (drop-drop 1 (length t) line) ∙ ap (drop 1) (drop_at t (61 ∷ b) (length t) refl) in
    plain_value at (line ++ 1 ∷ rest) (length line) line (length t) t tag b p1 e1 p2 e2 (tag_again tag low high) e3

plain_again : (at : ℕ) (field : Field) (rest : List ℕ) → IsPlain field → plain_cut at (spelling field ++ rest) ≡ cut_of field
plain_again at field rest good =
    let g : (is_length field.tag && is_none (number_of field.bytes)) ≡ false = no_guard (is_length field.tag) (number_of field.bytes) good.number in
    ap (plain_cut at) (regroup (decimal field.tag) field.bytes rest)
    ∙ tagged at field.tag field.bytes rest good.low good.high good.value
    ∙ ap (λ (b : Bool). cond b (Err (DataShort at)) (Ok (record { field = field; size = length (decimal field.tag ++ 61 ∷ field.bytes) + 1 }))) g
    ∙ ap (λ (n : ℕ). Ok (record { field = field; size = n })) (sym (spelling_long field))

data_value : (at : ℕ) (due : _) (rest front bytes : List ℕ) → HasTag due → data_front due.tag ≡ front → starts_with eqb rest front ≡ true → eqb (get_or rest (length front + due.size) 0) 1 ≡ true → take due.size (drop (length front) rest) ≡ bytes → data_cut at due rest ≡ Ok (record { field = record { tag = due.tag; bytes = bytes }; size = length front + due.size + 1 })
unfolding data_cut
data_value at due rest front bytes tag f s m e = rw (f, s, m, e) refl

data_again : (at : ℕ) (due : _) (field : Field) (rest : List ℕ) → HasTag due → IsData due field → data_cut at due (spelling field ++ rest) ≡ cut_of field
data_again at due field rest tag good =
    let t = decimal due.tag in
    let b = field.bytes in
    let front = t ++ 61 ∷ [] in
    let named : decimal field.tag ≡ t = ap decimal good.tag in
    let e : spelling field ++ rest ≡ front ++ (b ++ 1 ∷ rest) =
    regroup (decimal field.tag) b rest ∙ ap (λ (x : List ℕ). (x ++ 61 ∷ b) ++ 1 ∷ rest) named ∙ append_assoc t (61 ∷ b) (1 ∷ rest) ∙ sym (append_assoc t (61 ∷ []) (b ++ 1 ∷ rest)) in
    let all = front ++ (b ++ 1 ∷ rest) in
    let s : starts_with eqb all front ≡ true = (bytes_decides front (take (length front) all)).1 (sym (take_at front (b ++ 1 ∷ rest) (length front) refl)) in
    let mark : get_or all (length front + due.size) 0 ≡ 1 = get_or-append-add front (b ++ 1 ∷ rest) due.size 0 ∙ get_or_at b 1 rest 0 due.size good.size in
    let m : eqb (get_or all (length front + due.size) 0) 1 ≡ true = rw mark refl in
    let v : take due.size (drop (length front) all) ≡ b = ap (take due.size) (drop_at front (b ++ 1 ∷ rest) (length front) refl) ∙ take_at b (1 ∷ rest) due.size good.size in
    let long : length front + due.size + 1 ≡ length (spelling field) = omega (arith, spelling_long field, length-append t (61 ∷ []), length-append (decimal field.tag) (61 ∷ b), ap length named, good.size) in
    ap (data_cut at due) e ∙ data_value at due all front b tag (front_is due tag) s m v
    ∙ ap (λ (n : ℕ). Ok (record { field = record { tag = due.tag; bytes = b }; size = n })) long
    ∙ ap (λ (n : ℕ). Ok (record { field = record { tag = n; bytes = b }; size = length (spelling field) })) (sym good.tag)

pub cut_again : (at : ℕ) (due : _) (field : Field) (rest : List ℕ) → HasTags due → IsNext due field → cut_at at due (spelling field ++ rest) ≡ cut_of field
cut_again at None field rest tags good = plain_again at field rest good
cut_again at (Some due) field rest tags good = data_again at due field rest tags good

pub data_behind-tags : (tag : ℕ) (bytes : List ℕ) → HasTags (data_behind tag bytes)
unfolding data_behind
data_behind-tags tag bytes =
    elim (eqb tag 95) as (λ b. (eqb tag 95 ≡ b) → HasTags (cond (b || eqb tag 354) (option_map (λ size. record { tag = tag + 1; size = size }) (number_of bytes)) None)) [
      | true ↦ λ e. elim (number_of bytes) as (λ o. HasTags (option_map (λ size. record { tag = tag + 1; size = size }) o)) [ None ↦ tt | Some n ↦ inl (omega (arith, eqb-true tag 95 e)) ]
      | false ↦ λ _. elim (eqb tag 354) as (λ b. (eqb tag 354 ≡ b) → HasTags (cond b (option_map (λ size. record { tag = tag + 1; size = size }) (number_of bytes)) None)) [
        | true ↦ λ e. elim (number_of bytes) as (λ o. HasTags (option_map (λ size. record { tag = tag + 1; size = size }) o)) [ None ↦ tt | Some n ↦ inr (omega (arith, eqb-true tag 354 e)) ]
        | false ↦ λ _. tt
      ] refl
    ] refl
