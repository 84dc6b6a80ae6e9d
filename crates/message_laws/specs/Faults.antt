-- The first fault of bytes that are no list of fields.
use Rattle.std.specs.Prelude.{◌≡◌, ℕ, ◌<◌, true, false, List, [], ◌∷◌, ◌++◌, length, decimal, None, Err, ◌⊎◌}
use Rattle.std.specs.List.{list_any}
use Rattle.fix_fields.specs.declared.field.Field.{Field}
use Rattle.fix_fields.specs.declared.field.FieldFault.{FieldFault}
use Rattle.fix_fields.specs.declared.field.FieldFault.TheVariants.{NoEquals, BadTag, NoEnd, DataShort, NoMemory}
use Rattle.fix_fields.specs.Fields.{is_end, is_equals, is_length, split}
use Rattle.fix_fields.specs.Forms.{number_of}
use Rattle.fix_fields.specs.Spelling.{spelling, spellings, AreFields}

-- fields with which some list of fields begins
pub record IsBeginning (fields : List Field) : Type 0 where
  pub more : List Field
  pub are : AreFields None (fields ++ more)

-- behind these fields the bytes go on with a field that may follow them
pub record GoesOn (before : List Field) (rest : List ℕ) : Type 0 where
  pub field : Field
  pub more : List Field
  pub behind : List ℕ
  pub are : AreFields None (before ++ field ∷ more)
  pub there : rest ≡ spelling field ++ behind

-- the bytes before the first SOH
pub record IsLine (line rest : List ℕ) : Type 0 where
  pub behind : List ℕ
  pub whole : rest ≡ line ++ 1 ∷ behind
  pub none : list_any is_end line ≡ false

-- a line without `=`
pub record HasNoEquals (rest : List ℕ) : Type 0 where
  pub line : List ℕ
  pub first : IsLine line rest
  pub none : list_any is_equals line ≡ false

-- a line in which the first `=` stands behind no tag
pub record HasBadTag (rest : List ℕ) : Type 0 where
  pub front : List ℕ
  pub value : List ℕ
  pub first : IsLine (front ++ 61 ∷ value) rest
  pub none : list_any is_equals front ≡ false
  pub bad : (tag : ℕ) → 0 < tag → tag < 100000 → front ≡ decimal tag → ⊥

-- a line with the length of data, which is no number
pub record HasBadLength (rest : List ℕ) : Type 0 where
  pub tag : ℕ
  pub value : List ℕ
  pub first : IsLine (decimal tag ++ 61 ∷ value) rest
  pub low : 0 < tag
  pub high : tag < 100000
  pub length : is_length tag ≡ true
  pub bad : number_of value ≡ None

-- what is wrong with bytes that stand behind these fields. These are a list of fields, and no data is due, but with the last
-- of the faults: there either a length is no number, or the last field is a length whose data must follow
abbrev pub IsWrong : FieldFault → List Field → List ℕ → Type 0
IsWrong (NoEnd at) before rest = AreFields None before × (list_any is_end rest ≡ false)
IsWrong (NoEquals at) before rest = AreFields None before × HasNoEquals rest
IsWrong (BadTag at) before rest = AreFields None before × HasBadTag rest
IsWrong (DataShort at) before rest = (AreFields None before × HasBadLength rest) ⊎ (AreFields None before → ⊥)
IsWrong NoMemory before rest = ⊥

abbrev pub place_of : FieldFault → ℕ
place_of (NoEnd at) = at
place_of (NoEquals at) = at
place_of (BadTag at) = at
place_of (DataShort at) = at
place_of NoMemory = 0

-- bytes spell fields up to the fault's place, there they neither end nor go on with a field, and the fault says what is wrong
pub record IsFirstFault (bytes : List ℕ) (fault : FieldFault) : Type 0 where
  pub before : List Field
  pub rest : List ℕ
  pub spelled : bytes ≡ spellings before ++ rest
  pub beginning : IsBeginning before
  pub place : place_of fault ≡ length (spellings before)
  pub no_end : AreFields None before → rest ≡ [] → ⊥
  pub no_field : GoesOn before rest → ⊥
  pub wrong : IsWrong fault before rest

-- a fault that is answered is the first
abbrev pub FaultIsFirst : Type 0
FaultIsFirst = (bytes : List ℕ) (fault : FieldFault) → split bytes ≡ Err fault → IsFirstFault bytes fault

-- the first fault is answered
abbrev pub FirstIsAnswered : Type 0
FirstIsAnswered = (bytes : List ℕ) (fault : FieldFault) → IsFirstFault bytes fault → split bytes ≡ Err fault
