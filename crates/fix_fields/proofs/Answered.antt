-- What the exact answer says of fields that spell the bytes.
use Rattle.std.proofs.Common.{◌≡◌, ℕ, List, None, Result, Ok, Err, ◌∙◌, ap, subst}
use Rattle.std.specs.Prelude.{IfOk}
use Rattle.std.specs.declared.vec.Vec.{Vec}
use Rattle.std.specs.declared.alloc.Global.{Global}
use Rattle.fix_fields.specs.declared.field.Field.{Field}
use Rattle.fix_fields.specs.declared.field.FieldFault.{FieldFault}
use Rattle.fix_fields.specs.Fields.{split, SplitsAs}
use Rattle.fix_fields.specs.FieldLaws.{split_found, split_only}
use Rattle.fix_fields.specs.Spelling.{AreFields, spellings}

pub found_of : (r : Result (Vec Field Global) FieldFault) (bytes : List ℕ) → SplitsAs r (split bytes) → IfOk r (λ v. AreFields None v.items × (bytes ≡ spellings v.items))
found_of (Ok v) bytes h = split_found bytes v.items h
found_of (Err e) bytes h = tt

pub only_of : (r : Result (Vec Field Global) FieldFault) (bytes : List ℕ) (fields : List Field) → SplitsAs r (split bytes) → AreFields None fields → bytes ≡ spellings fields → SplitsAs r (Ok fields)
only_of r bytes fields h are e = subst (λ (m : Result (List Field) FieldFault). SplitsAs r m) (ap split e ∙ split_only fields are) h
