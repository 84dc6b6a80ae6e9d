-- What is framed and what is read of the frame.
use Rattle.std.specs.Prelude.{◌≡◌, ℕ, ◌<◌, ◌^◌, false, List, [], ◌∷◌, ◌++◌, length, Option, Some, None, Ok, ℤ, codes, decimal}
use Rattle.std.specs.List.{list_any}
use Rattle.fix_fields.specs.declared.field.Field.{Field}
use Rattle.fix_fields.specs.Fields.{is_end, split}
use Rattle.fix_fields.specs.Spelling.{spellings, AreFields}
use Rattle.fix_write.specs.declared.tags.TheConstants.{MSG_TYPE, SENDER_COMP_ID, TARGET_COMP_ID, MSG_SEQ_NUM, SENDING_TIME, POSS_DUP_FLAG, ORIG_SENDING_TIME}
use Rattle.fix_write.specs.Moments.{moment_text}
use Rattle.fix_write.specs.Framing.{wrapped, frame_of}
use Rattle.fix_frames.specs.Frames.{IsFrame}
use Rattle.fix_fields.specs.Content.{content_of}

-- the content of a frame is read as it stands in the frame, and what is wrapped into a frame is its content
pub record ContentComesBack : Type 0 where
  pub frame : (frame : List ℕ) (is : IsFrame frame) → content_of frame ≡ is.content
  pub wrapped : (content : List ℕ) → length content < 2 ^ 64 → content_of (wrapped content) ≡ content

abbrev pub field : ℕ → List ℕ → Field
field tag bytes = record { tag = tag; bytes = bytes }

-- the fields that say that a message is sent again, and when it was sent first
abbrev pub first_sent_fields : Option ℤ → List Field
first_sent_fields None = []
first_sent_fields (Some moment) = field POSS_DUP_FLAG (codes "Y") ∷ field ORIG_SENDING_TIME (moment_text moment) ∷ []

-- the fields of the head of a message, in their order
abbrev pub head_fields : ℕ → List ℕ → List ℕ → ℕ → ℤ → Option ℤ → List Field
head_fields kind sender target number moment first_sent =
    field MSG_TYPE (kind ∷ []) ∷ field SENDER_COMP_ID sender ∷ field TARGET_COMP_ID target
    ∷ field MSG_SEQ_NUM (decimal number) ∷ field SENDING_TIME (moment_text moment) ∷ first_sent_fields first_sent

-- a text without the byte that ends a field
abbrev pub IsText : List ℕ → Type 0
IsText bytes = list_any is_end bytes ≡ false

-- a message is split into the fields of its head and those that its body spells
abbrev pub FieldsComeBack : Type 0
FieldsComeBack =
    (kind : ℕ) (sender target : List ℕ) (number : ℕ) (moment : ℤ) (first_sent : Option ℤ) (fields : List Field) →
    IsText (kind ∷ []) → IsText sender → IsText target → number < 2 ^ 64 → AreFields None fields →
    length (frame_of kind sender target number moment first_sent (spellings fields)) < 2 ^ 64 →
    split (content_of (frame_of kind sender target number moment first_sent (spellings fields)))
    ≡ Ok (head_fields kind sender target number moment first_sent ++ fields)
