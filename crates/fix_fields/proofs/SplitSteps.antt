-- One more field of the split, and its end.
use Rattle.std.proofs.Common.{◌≡◌, ℕ, zero, suc, ◌+◌, ◌-◌, ◌<◌, ◌≤◌, true, false, List, [], ◌∷◌, ◌++◌, length, take, drop, Option, Some, None, Result, Ok, Err, ◌⊎◌, inl, inr, refl, sym, ◌∙◌, ap, subst, arith, append_assoc, length-drop}
use Rattle.std.specs.Prelude.{is_some}
use Rattle.std.proofs.lemmas.List.{take_rest, drop-drop, append-nil, drop_all}
use Rattle.fix_fields.specs.declared.field.Field.{Field}
use Rattle.fix_fields.specs.declared.field.FieldFault.{FieldFault}
use Rattle.fix_fields.specs.declared.field.FieldFault.TheVariants.{NoEquals, BadTag, NoEnd, DataShort, NoMemory}
use Rattle.fix_fields.specs.declared.splitting.Due.{Due}
use Rattle.fix_fields.specs.Fields.{Cut, ◌>>=◌, cut_at, with_first, with_front, split_from, data_behind, Fails}

abbrev all_fields : List Field → Result (List Field) FieldFault
all_fields fields = Ok fields

abbrev is_cut : Result Cut FieldFault → Cut → Type 0
is_cut r cut = r ≡ Ok cut

abbrev is_fault : Result Cut FieldFault → FieldFault → Type 0
is_fault r fault = r ≡ Err fault

-- something is left to read
abbrev pub IsMore : Option Due → List ℕ → Type 0
IsMore due rest = (true ≡ is_some due) ⊎ (0 < length rest)

step : (fuel total : ℕ) (due : Option Due) (rest : List ℕ) → IsMore due rest → split_from (suc fuel) total due rest ≡ (cut_at (total - length rest) due rest >>= λ cut. with_first cut.field (split_from fuel total (data_behind cut.field.tag cut.field.bytes) (drop cut.size rest)))
step fuel total None [] (inl h) = cc
step fuel total None [] (inr h) = absurd (omega arith)
step fuel total None (x ∷ xs) h = refl
step fuel total (Some due) [] h = refl
step fuel total (Some due) (x ∷ xs) h = refl

with_front-with_first : (front : List Field) (field : Field) (rest : Result (List Field) FieldFault) → with_front front (with_first field rest) ≡ with_front (front ++ field ∷ []) rest
with_front-with_first front field (Ok fields) = ap all_fields (sym (append_assoc front (field ∷ []) fields))
with_front-with_first front field (Err fault) = refl

pub front_none : (rest : Result (List Field) FieldFault) → with_front [] rest ≡ rest
front_none (Ok fields) = refl
front_none (Err fault) = refl

pub go_on : (bytes : List ℕ) (at : ℕ) (due : Option Due) (found : List Field) (field : Field) (size : ℕ) (meant : Result (List Field) FieldFault) (fuel : ℕ) → at ≤ length bytes → IsMore due (drop at bytes) → length bytes - at < fuel → with_front found (split_from fuel (length bytes) due (drop at bytes)) ≡ meant → cut_at at due (take (length bytes - at) (drop at bytes)) ≡ Ok (record { field = field; size = size }) → 0 < size → at + size ≤ length bytes → (x : ℕ) × (length bytes - (at + size) < x) × (with_front (found ++ field ∷ []) (split_from x (length bytes) (data_behind field.tag field.bytes) (drop (at + size) bytes)) ≡ meant)
go_on bytes at due found field size meant zero inside more room e cut positive fits = absurd (omega arith)
go_on bytes at due found field size meant (suc fuel) inside more room e cut positive fits =
    let rest = drop at bytes in
    let place : length bytes - length rest ≡ at = omega (arith, length-drop at bytes) in
    let whole : take (length bytes - at) rest ≡ rest = take_rest bytes at in
    let cut' : cut_at (length bytes - length rest) due rest ≡ Ok (record { field = field; size = size }) = rw (place) (subst (λ (r : List ℕ). is_cut (cut_at at due r) (record { field = field; size = size })) whole cut) in
    let next : split_from (suc fuel) (length bytes) due rest ≡ with_first field (split_from fuel (length bytes) (data_behind field.tag field.bytes) (drop size rest)) = step fuel (length bytes) due rest more ∙ ap (λ (r : Result Cut FieldFault). r >>= λ cut. with_first cut.field (split_from fuel (length bytes) (data_behind cut.field.tag cut.field.bytes) (drop cut.size rest))) cut' in
    let dropped : drop size rest ≡ drop (at + size) bytes = drop-drop size at bytes in (
      fuel,
      omega arith,
      sym (with_front-with_first found field (split_from fuel (length bytes) (data_behind field.tag field.bytes) (drop (at + size) bytes)))
          ∙ ap (λ (r : List ℕ). with_front found (with_first field (split_from fuel (length bytes) (data_behind field.tag field.bytes) r))) (sym dropped)
          ∙ ap (λ (r : Result (List Field) FieldFault). with_front found r) (sym next) ∙ e,
    )

stop : (bytes : List ℕ) (at : ℕ) (due : Option Due) (found : List Field) (fault : FieldFault) (meant : Result (List Field) FieldFault) (fuel : ℕ) → at ≤ length bytes → IsMore due (drop at bytes) → length bytes - at < fuel → with_front found (split_from fuel (length bytes) due (drop at bytes)) ≡ meant → cut_at at due (take (length bytes - at) (drop at bytes)) ≡ Err fault → meant ≡ Err fault
stop bytes at due found fault meant zero inside more room e cut = absurd (omega arith)
stop bytes at due found fault meant (suc fuel) inside more room e cut =
    let rest = drop at bytes in
    let place : length bytes - length rest ≡ at = omega (arith, length-drop at bytes) in
    let whole : take (length bytes - at) rest ≡ rest = take_rest bytes at in
    let cut' : cut_at (length bytes - length rest) due rest ≡ Err fault = rw (place) (subst (λ (r : List ℕ). is_fault (cut_at at due r) fault) whole cut) in
    let next : split_from (suc fuel) (length bytes) due rest ≡ Err fault = step fuel (length bytes) due rest more ∙ ap (λ (r : Result Cut FieldFault). r >>= λ cut. with_first cut.field (split_from fuel (length bytes) (data_behind cut.field.tag cut.field.bytes) (drop cut.size rest))) cut' in
    sym e ∙ ap (λ (r : Result (List Field) FieldFault). with_front found r) next

-- a fault of the next field is the fault of the whole
pub fails_on : (bytes : List ℕ) (at : ℕ) (due : Option Due) (found : List Field) (fault : FieldFault) (meant : Result (List Field) FieldFault) (fuel : ℕ) → at ≤ length bytes → IsMore due (drop at bytes) → length bytes - at < fuel → with_front found (split_from fuel (length bytes) due (drop at bytes)) ≡ meant → Fails fault (cut_at at due (take (length bytes - at) (drop at bytes))) → Fails fault meant
fails_on bytes at due found (NoEquals place) meant fuel inside more room e cut = stop bytes at due found (NoEquals place) meant fuel inside more room e cut
fails_on bytes at due found (BadTag place) meant fuel inside more room e cut = stop bytes at due found (BadTag place) meant fuel inside more room e cut
fails_on bytes at due found (NoEnd place) meant fuel inside more room e cut = stop bytes at due found (NoEnd place) meant fuel inside more room e cut
fails_on bytes at due found (DataShort place) meant fuel inside more room e cut = stop bytes at due found (DataShort place) meant fuel inside more room e cut
fails_on bytes at due found NoMemory meant fuel inside more room e cut = tt

-- nothing is left
pub at_end : (bytes : List ℕ) (at : ℕ) (due : Option Due) (found : List Field) (meant : Result (List Field) FieldFault) (fuel : ℕ) → length bytes ≤ at → false ≡ is_some due → length bytes - at < fuel → with_front found (split_from fuel (length bytes) due (drop at bytes)) ≡ meant → meant ≡ Ok found
at_end bytes at due found meant zero l none room e = absurd (omega arith)
at_end bytes at (Some due) found meant (suc fuel) l none room e = cc
at_end bytes at None found meant (suc fuel) l none room e =
    let empty : drop at bytes ≡ [] = drop_all at bytes l in
    sym e ∙ ap (λ (r : List ℕ). with_front found (split_from (suc fuel) (length bytes) None r)) empty ∙ ap all_fields (append-nil found)

-- the same for a list and data that equal the new ones
pub goes_on : (bytes : List ℕ) (at : ℕ) (due : Option Due) (found : List Field) (field : Field) (size : ℕ) (meant : Result (List Field) FieldFault) (fuel : ℕ) (more : List Field) (next : Option Due) → at ≤ length bytes → IsMore due (drop at bytes) → length bytes - at < fuel → with_front found (split_from fuel (length bytes) due (drop at bytes)) ≡ meant → cut_at at due (take (length bytes - at) (drop at bytes)) ≡ Ok (record { field = field; size = size }) → 0 < size → at + size ≤ length bytes → more ≡ found ++ field ∷ [] → next ≡ data_behind field.tag field.bytes → (x : ℕ) × (length bytes - (at + size) < x) × (with_front more (split_from x (length bytes) next (drop (at + size) bytes)) ≡ meant)
goes_on bytes at due found field size meant fuel more next inside is_more room e cut positive fits m n =
    rw (m, n) (go_on bytes at due found field size meant fuel inside is_more room e cut positive fits)
