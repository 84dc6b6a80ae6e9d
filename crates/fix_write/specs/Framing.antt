-- The bytes of frames that are sent.
use Rattle.std.specs.Prelude.{ℕ, ◌%◌, List, [], ◌∷◌, ◌++◌, length, sum, codes, decimal, ℤ, Option, Some, None}
use Rattle.fix_write.specs.declared.tags.TheConstants.{BEGIN_STRING, BODY_LENGTH, CHECK_SUM, MSG_TYPE, SENDER_COMP_ID, TARGET_COMP_ID, MSG_SEQ_NUM, SENDING_TIME, POSS_DUP_FLAG, ORIG_SENDING_TIME}
use Rattle.fix_write.specs.Digits.{three_digits}
use Rattle.fix_write.specs.Fields.{field}
use Rattle.fix_write.specs.Moments.{moment_text}

-- what stands before a content of so many bytes
unfoldable pub opening : ℕ → List ℕ
opening size =
    field BEGIN_STRING (codes "FIXT.1.1")
    ++ field BODY_LENGTH (decimal size)

-- bytes with their sum modulo 256 behind them
unfoldable pub closed : List ℕ → List ℕ
closed bytes = bytes ++ field CHECK_SUM (three_digits (sum bytes % 256))

-- a frame round its content
unfoldable pub wrapped : List ℕ → List ℕ
wrapped content = closed (opening (length content) ++ content)

-- on what is sent again: that it is, and when it was sent first
abbrev pub first_sent_text : Option ℤ → List ℕ
first_sent_text None = []
first_sent_text (Some moment) =
    field POSS_DUP_FLAG (codes "Y")
    ++ field ORIG_SENDING_TIME (moment_text moment)

-- the head of a message, field by field
unfoldable pub head_text : ℕ → List ℕ → List ℕ → ℕ → ℤ → Option ℤ → List ℕ
head_text kind sender target number moment first_sent =
    field MSG_TYPE (kind ∷ [])
    ++ field SENDER_COMP_ID sender
    ++ field TARGET_COMP_ID target
    ++ field MSG_SEQ_NUM (decimal number)
    ++ field SENDING_TIME (moment_text moment)
    ++ first_sent_text first_sent

-- a frame that is sent, from the parts of its head and its body
unfoldable pub frame_of : ℕ → List ℕ → List ℕ → ℕ → ℤ → Option ℤ → List ℕ → List ℕ
frame_of kind sender target number moment first_sent body =
    wrapped (head_text kind sender target number moment first_sent ++ body)
