-- A fault that is answered is the first, and the first is answered.
use Rattle.std.proofs.Common.{◌≡◌, ℕ, zero, suc, ◌-◌, ◌<◌, List, [], ◌∷◌, ◌++◌, length, drop, replicate, Some, None, Result, Ok, Err, ◌⊎◌, inl, inr, refl, sym, ◌∙◌, ap, subst, arith, append_assoc, length-append}
use Rattle.std.proofs.lemmas.List.{drop_at, length-replicate}
use Rattle.fix_fields.specs.declared.field.Field.{Field}
use Rattle.fix_fields.specs.declared.field.FieldFault.{FieldFault}
use Rattle.fix_fields.specs.declared.field.FieldFault.TheVariants.{NoEquals, BadTag, NoEnd, DataShort, NoMemory}
use Rattle.fix_fields.specs.FieldLaws.{HasTags, IsNext}
use Rattle.fix_fields.specs.Fields.{◌>>=◌, data_behind, Cut, cut_at, with_first, split_from, split}
use Rattle.fix_fields.specs.Spelling.{spelling, spellings, AreFields}
use Rattle.message_laws.specs.Faults.{GoesOn, IsWrong, place_of, IsFirstFault, FaultIsFirst, FirstIsAnswered}
use Rattle.message_laws.proofs.Cutting.{data_or_short, spelling_long, cut_again, data_behind-tags}
use Rattle.message_laws.proofs.Places.{WrongHere, plain_or_wrong, wrong_is_cut}

-- ---- what is due behind fields

abbrev due_behind : {A : Type 0} → (ℕ → List ℕ → A) → A → List Field → A
due_behind behind due [] = due
due_behind behind due (field ∷ fields) = due_behind behind (behind field.tag field.bytes) fields

parted : (due : _) (field : Field) (fields : List Field) → AreFields due (field ∷ fields) → IsNext due field × AreFields (data_behind field.tag field.bytes) fields
parted None field fields h = h
parted (Some due) field fields h = h

joined : (due : _) (field : Field) (fields : List Field) → IsNext due field → AreFields (data_behind field.tag field.bytes) fields → AreFields due (field ∷ fields)
joined None field fields h rest = (h, rest)
joined (Some due) field fields h rest = (h, rest)

rest_are : (due : _) (before more : List Field) → AreFields due (before ++ more) → AreFields (due_behind data_behind due before) more
rest_are due [] more h = h
rest_are due (field ∷ fields) more h = rest_are (data_behind field.tag field.bytes) fields more (parted due field (fields ++ more) h).1

tags_behind : (due : _) (before : List Field) → HasTags due → HasTags (due_behind data_behind due before)
tags_behind due [] tags = tags
tags_behind due (field ∷ fields) tags = tags_behind (data_behind field.tag field.bytes) fields (data_behind-tags field.tag field.bytes)

none_behind : (due : _) (before : List Field) → AreFields due before → due_behind data_behind due before ≡ None
none_behind None [] h = refl
none_behind (Some due) [] h = absurd h
none_behind due (field ∷ fields) h = none_behind (data_behind field.tag field.bytes) fields (parted due field fields h).1

-- fields behind which nothing is due are a list of fields
whole : (due : _) (before more : List Field) → AreFields due (before ++ more) → due_behind data_behind due before ≡ None → AreFields due before
whole None [] more h e = tt
whole (Some due) [] more h e = absurd (cc)
whole due (field ∷ fields) more h e =
    let parts = parted due field (fields ++ more) h in
    joined due field fields parts.0 (whole (data_behind field.tag field.bytes) fields more parts.1 e)

-- some fields may follow
completes : (due : _) → HasTags due → (more : List Field) × AreFields due more
unfolding data_behind
completes None tags = ([], tt)
completes (Some due) (inl tag) =
    let none : List ℕ = replicate due.size 0 in
    (record { tag = due.tag; bytes = none } ∷ [], (record { tag = refl; size = length-replicate due.size 0 }, rw tag tt))
completes (Some due) (inr tag) =
    let none : List ℕ = replicate due.size 0 in
    (record { tag = due.tag; bytes = none } ∷ [], (record { tag = refl; size = length-replicate due.size 0 }, rw tag tt))

-- ---- a field or a fault at a place

-- a field stands there, or the fault is answered
next_or_wrong : (at : ℕ) (due : _) (rest : List ℕ) → HasTags due →
    ((field : Field) × (behind : List ℕ) × IsNext due field × (rest ≡ spelling field ++ behind))
    ⊎ ((fault : FieldFault) × (cut_at at due rest ≡ Err fault) × (place_of fault ≡ at) × (((due ≡ None) × WrongHere fault rest) ⊎ ((due ≡ None → ⊥) × (fault ≡ DataShort at))))
next_or_wrong at None rest tags =
    elim (plain_or_wrong at rest) [
      | inl p ↦ inl (p.field, p.behind, p.good, p.whole)
      | inr w ↦ inr (w.fault, w.cut, w.place, inl (refl, w.wrong))
    ]
next_or_wrong at (Some due) rest tags =
    elim (data_or_short at due rest tags) [
      | inl p ↦ inl (p.0, p.1, p.2, p.3)
      | inr short ↦ inr (DataShort at, short, refl, inr ((λ e. cc), refl))
    ]

-- ---- the first fault

split_step : (fuel total : ℕ) (due : _) (rest : List ℕ) → (due ≡ None → rest ≡ [] → ⊥) → split_from (suc fuel) total due rest ≡ (cut_at (total - length rest) due rest >>= λ cut. with_first cut.field (split_from fuel total (data_behind cut.field.tag cut.field.bytes) (drop cut.size rest)))
split_step fuel total None [] goes = absurd (goes refl refl)
split_step fuel total None (x ∷ xs) goes = refl
split_step fuel total (Some due) [] goes = refl
split_step fuel total (Some due) (x ∷ xs) goes = refl

-- behind a field that was cut
split_on : (fuel total : ℕ) (due : _) (field : Field) (behind : List ℕ) → HasTags due → IsNext due field → split_from (suc fuel) total due (spelling field ++ behind) ≡ with_first field (split_from fuel total (data_behind field.tag field.bytes) behind)
split_on fuel total due field behind tags good =
    let rest = spelling field ++ behind in
    let some : rest ≡ [] → ⊥ = λ e. omega (arith, ap length e, length-append (spelling field) behind, spelling_long field) in
    split_step fuel total due rest (λ _ e. some e)
    ∙ ap (λ (r : Result Cut FieldFault). r >>= λ cut. with_first cut.field (split_from fuel total (data_behind cut.field.tag cut.field.bytes) (drop cut.size rest))) (cut_again (total - length rest) due field behind tags good)
    ∙ ap (λ (r : List ℕ). with_first field (split_from fuel total (data_behind field.tag field.bytes) r)) (drop_at (spelling field) behind (length (spelling field)) refl)

with_first-err : (field : Field) (r : Result (List Field) FieldFault) (fault : FieldFault) → with_first field r ≡ Err fault → r ≡ Err fault
with_first-err field (Ok fields) fault h = absurd (cc)
with_first-err field (Err other) fault h = h

-- where no field is cut the split ends
stops : (fuel total : ℕ) (due : _) (rest : List ℕ) (fault : FieldFault) → (due ≡ None → rest ≡ [] → ⊥) → cut_at (total - length rest) due rest ≡ Err fault → split_from (suc fuel) total due rest ≡ Err fault
stops fuel total due rest fault goes cut =
    split_step fuel total due rest goes ∙ ap (λ (r : Result Cut FieldFault). r >>= λ c. with_first c.field (split_from fuel total (data_behind c.field.tag c.field.bytes) (drop c.size rest))) cut

-- one more field is spelled
spelled_more : (field : Field) (before : List Field) (rest behind tail : List ℕ) → rest ≡ spelling field ++ behind → behind ≡ spellings before ++ tail → rest ≡ spellings (field ∷ before) ++ tail
spelled_more field before rest behind tail same more =
    same ∙ ap (λ (x : List ℕ). spelling field ++ x) more ∙ sym (append_assoc (spelling field) (spellings before) tail)

-- an end is no fault
ended : (fuel total : ℕ) (due : _) (rest : List ℕ) (fault : FieldFault) → split_from (suc fuel) total due rest ≡ Err fault → due ≡ None → rest ≡ [] → ⊥
ended fuel total due rest fault h none nil =
    let x = sym h ∙ ap (λ d. split_from (suc fuel) total d rest) none ∙ ap (λ (r : List ℕ). split_from (suc fuel) total None r) nil in cc

first_fault : (fuel total : ℕ) (due : _) (rest : List ℕ) (fault : FieldFault) → HasTags due → length rest < fuel → split_from fuel total due rest ≡ Err fault →
    (before : List Field) × (tail : List ℕ) × (rest ≡ spellings before ++ tail)
    × ((more : List Field) → AreFields (due_behind data_behind due before) more → AreFields due (before ++ more))
    × (due_behind data_behind due before ≡ None → tail ≡ [] → ⊥)
    × (cut_at (total - length tail) (due_behind data_behind due before) tail ≡ Err fault)
first_fault zero total due rest fault tags room h = absurd (omega arith)
first_fault (suc fuel) total due rest fault tags room h =
    elim (next_or_wrong (total - length rest) due rest tags) [
      | inl n ↦
          let field = n.0 in
          let behind = n.1 in
          let same : rest ≡ spelling field ++ behind = n.3 in
          let on : with_first field (split_from fuel total (data_behind field.tag field.bytes) behind) ≡ Err fault = sym (split_on fuel total due field behind tags n.2) ∙ ap (split_from (suc fuel) total due) (sym same) ∙ h in
          let later = with_first-err field (split_from fuel total (data_behind field.tag field.bytes) behind) fault on in
          let few : length behind < fuel = omega (arith, ap length same, length-append (spelling field) behind, spelling_long field) in
          let f = first_fault fuel total (data_behind field.tag field.bytes) behind fault (data_behind-tags field.tag field.bytes) few later in (
            field ∷ f.0,
            f.1,
            spelled_more field f.0 rest behind f.1 same f.2,
            λ more are. joined due field (f.0 ++ more) n.2 (f.3 more are),
            f.4,
            f.5,
          )
      | inr w ↦
          let cut = w.1 in
          let goes = ended fuel total due rest fault h in
          let x : Err w.0 ≡ Err fault = sym (stops fuel total due rest w.0 goes cut) ∙ h in
          let same : w.0 ≡ fault = cc in
          ([], rest, refl, λ more are. are, goes, cut ∙ ap (λ (e : FieldFault). Err e) same)
    ]

is_wrong : (fault : FieldFault) (before : List Field) (rest : List ℕ) → AreFields None before → WrongHere fault rest → IsWrong fault before rest
is_wrong (NoEnd at) before rest are here = (are, here)
is_wrong (NoEquals at) before rest are here = (are, here)
is_wrong (BadTag at) before rest are here = (are, here)
is_wrong (DataShort at) before rest are here = inl (are, here)
is_wrong NoMemory before rest are here = absurd here

short_is_wrong : (fault : FieldFault) (at : ℕ) (before : List Field) (rest : List ℕ) → (AreFields None before → ⊥) → fault ≡ DataShort at → IsWrong fault before rest
short_is_wrong fault at before rest other same = subst (λ (f : FieldFault). IsWrong f before rest) (sym same) (inr other)

-- no field that may follow stands where none was cut
no_field : (at : ℕ) (before : List Field) (rest : List ℕ) (fault : FieldFault) → cut_at at (due_behind data_behind None before) rest ≡ Err fault → GoesOn before rest → ⊥
no_field at before rest fault cut goes =
    let next = parted (due_behind data_behind None before) goes.field goes.more (rest_are None before (goes.field ∷ goes.more) goes.are) in
    let again = cut_again at (due_behind data_behind None before) goes.field goes.behind (tags_behind None before tt) next.0 in
    let x = sym cut ∙ ap (cut_at at (due_behind data_behind None before)) goes.there ∙ again in
    cc

what_is_wrong : (at : ℕ) (before more : List Field) (rest : List ℕ) (fault : FieldFault) → AreFields None (before ++ more) → cut_at at (due_behind data_behind None before) rest ≡ Err fault → (place_of fault ≡ at) × IsWrong fault before rest
what_is_wrong at before more rest fault are cut =
    let tags = tags_behind None before tt in
    elim (next_or_wrong at (due_behind data_behind None before) rest tags) [
      | inl n ↦
          let again = cut_again at (due_behind data_behind None before) n.0 n.1 tags n.2 in
          let x = sym cut ∙ ap (cut_at at (due_behind data_behind None before)) n.3 ∙ again in
          absurd (cc)
      | inr w ↦
          let x = sym w.1 ∙ cut in
          let same : w.0 ≡ fault = cc in
          let wrong : IsWrong w.0 before rest = elim w.3 [
            | inl here ↦ is_wrong w.0 before rest (whole None before more are here.0) here.1
            | inr short ↦ short_is_wrong w.0 at before rest (λ all. short.0 (none_behind None before all)) short.1
          ] in
          subst (λ (f : FieldFault). (place_of f ≡ at) × IsWrong f before rest) same (w.2, wrong)
    ]

pub fault_is_first : FaultIsFirst
unfolding split
fault_is_first bytes fault h =
    let f = first_fault (suc (length bytes)) (length bytes) None bytes fault tt (omega arith) h in
    let before = f.0 in
    let rest = f.1 in
    let some = completes (due_behind data_behind None before) (tags_behind None before tt) in
    let are = f.3 some.0 some.1 in
    let place : length bytes - length rest ≡ length (spellings before) = omega (arith, ap length f.2, length-append (spellings before) rest) in
    let wrong = what_is_wrong (length bytes - length rest) before some.0 rest fault are f.5 in
    record {
      before = before;
      rest = rest;
      spelled = f.2;
      beginning = record { more = some.0; are = are };
      place = wrong.0 ∙ place;
      no_end = λ all. f.4 (none_behind None before all);
      no_field = no_field (length bytes - length rest) before rest fault f.5;
      wrong = wrong.1;
    }

-- ---- and back

-- fields that may follow a beginning, whatever may follow it
others_follow : (due : _) (before more others : List Field) → AreFields due (before ++ more) → AreFields (due_behind data_behind due before) others → AreFields due (before ++ others)
others_follow due [] more others h o = o
others_follow due (field ∷ fields) more others h o =
    let parts = parted due field (fields ++ more) h in
    joined due field (fields ++ others) parts.0 (others_follow (data_behind field.tag field.bytes) fields more others parts.1 o)

reaches : (fuel total : ℕ) (due : _) (before more : List Field) (rest : List ℕ) (fault : FieldFault) → HasTags due → AreFields due (before ++ more) → length (spellings before ++ rest) < fuel → (due_behind data_behind due before ≡ None → rest ≡ [] → ⊥) → cut_at (total - length rest) (due_behind data_behind due before) rest ≡ Err fault → split_from fuel total due (spellings before ++ rest) ≡ Err fault
reaches zero total due before more rest fault tags are room goes cut = absurd (omega arith)
reaches (suc fuel) total due [] more rest fault tags are room goes cut = stops fuel total due rest fault goes cut
reaches (suc fuel) total due (field ∷ fields) more rest fault tags are room goes cut =
    let parts = parted due field (fields ++ more) are in
    let same = append_assoc (spelling field) (spellings fields) rest in
    let few : length (spellings fields ++ rest) < fuel = omega (arith, ap length same, length-append (spelling field) (spellings fields ++ rest), spelling_long field) in
    ap (split_from (suc fuel) total due) same
    ∙ split_on fuel total due field (spellings fields ++ rest) tags parts.0
    ∙ ap (with_first field) (reaches fuel total (data_behind field.tag field.bytes) fields more rest fault (data_behind-tags field.tag field.bytes) parts.1 few goes cut)

here_wrong : (fault : FieldFault) (before : List Field) (rest : List ℕ) → AreFields None before → IsWrong fault before rest → WrongHere fault rest
here_wrong (NoEnd at) before rest all wrong = wrong.1
here_wrong (NoEquals at) before rest all wrong = wrong.1
here_wrong (BadTag at) before rest all wrong = wrong.1
here_wrong (DataShort at) before rest all (inl wrong) = wrong.1
here_wrong (DataShort at) before rest all (inr other) = absurd (other all)
here_wrong NoMemory before rest all wrong = absurd wrong

-- where data is due it is short
short_wrong : (fault : FieldFault) (at : ℕ) (before : List Field) (rest : List ℕ) → (AreFields None before → ⊥) → place_of fault ≡ at → IsWrong fault before rest → fault ≡ DataShort at
short_wrong (NoEnd k) at before rest due place wrong = absurd (due wrong.0)
short_wrong (NoEquals k) at before rest due place wrong = absurd (due wrong.0)
short_wrong (BadTag k) at before rest due place wrong = absurd (due wrong.0)
short_wrong (DataShort k) at before rest due place wrong = ap (λ (n : ℕ). DataShort n) place
short_wrong NoMemory at before rest due place wrong = absurd wrong

is_cut : (bytes : List ℕ) (fault : FieldFault) (at : ℕ) (f : IsFirstFault bytes fault) → place_of fault ≡ at → cut_at at (due_behind data_behind None f.before) f.rest ≡ Err fault
is_cut bytes fault at f place =
    let tags = tags_behind None f.before tt in
    elim (next_or_wrong at (due_behind data_behind None f.before) f.rest tags) [
      | inl n ↦
          let field = n.0 in
          let some = completes (data_behind field.tag field.bytes) (data_behind-tags field.tag field.bytes) in
          let are = joined (due_behind data_behind None f.before) field some.0 n.2 some.1 in
          absurd (f.no_field (record { field = field; more = some.0; behind = n.1; are = others_follow None f.before f.beginning.more (field ∷ some.0) f.beginning.are are; there = n.3 }))
      | inr w ↦ elim w.3 [
        | inl here ↦
            let all = whole None f.before f.beginning.more f.beginning.are here.0 in
            ap (λ d. cut_at at d f.rest) here.0 ∙ wrong_is_cut at fault f.rest place (here_wrong fault f.before f.rest all f.wrong)
        | inr short ↦
            w.1 ∙ ap (λ (e : FieldFault). Err e) (short.1 ∙ sym (short_wrong fault at f.before f.rest (λ all. short.0 (none_behind None f.before all)) place f.wrong))
      ]
    ]

pub first_is_answered : FirstIsAnswered
unfolding split
first_is_answered bytes fault f =
    let at = length bytes - length f.rest in
    let place : length (spellings f.before) ≡ at = omega (arith, ap length f.spelled, length-append (spellings f.before) f.rest) in
    let room : length (spellings f.before ++ f.rest) < suc (length bytes) = omega (arith, ap length f.spelled) in
    ap (split_from (suc (length bytes)) (length bytes) None) f.spelled
    ∙ reaches (suc (length bytes)) (length bytes) None f.before f.beginning.more f.rest fault tt f.beginning.are room (λ none. f.no_end (whole None f.before f.beginning.more f.beginning.are none)) (is_cut bytes fault at f (f.place ∙ place))
