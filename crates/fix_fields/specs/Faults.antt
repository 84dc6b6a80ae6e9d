-- The faults of fields, in words.
use Rattle.std.specs.Prelude.{ℕ, List, codes}
use Rattle.fix_fields.specs.declared.field.FieldFault.{FieldFault}
use Rattle.fix_fields.specs.declared.field.FieldFault.TheVariants as fault

unfoldable pub fault_text : FieldFault → List ℕ
fault_text (fault.NoEquals at) = codes "a field has no ="
fault_text (fault.BadTag at) = codes "what stands before an = is no tag"
fault_text (fault.NoEnd at) = codes "the last field does not end"
fault_text (fault.DataShort at) = codes "a field of data is shorter than its length field says"
fault_text fault.NoMemory = codes "out of memory"
