-- What a call of `next` says of what is ahead.
use Rattle.std.proofs.Common.{◌≡◌, ℕ, ◌+◌, ◌<◌, Bool, List, ◌∷◌, ◌++◌, Option, Some, None, false, length, take, drop, arith, length-take, sym, ◌∙◌, ap, subst, append_assoc}
use Rattle.std.proofs.lemmas.List.{take-append-drop}
use denote.Ref.{Bor}
use Rattle.venue_words.specs.declared.limits.TheConstants.{MAX_LINE_BYTES}
use Rattle.script_text.specs.Lines.{has_end}
use Rattle.line_reader.specs.Reading.{Reading, BeginsTooLong, ahead}
use Rattle.line_reader.specs.ReadingLaws.{ahead_read, ahead_line, ahead_end}
use Rattle.line_reader.specs.NextLines.{HandsOut, IsAllRead, IsTooLong, IsCutOff, Gives}
use Rattle.line_reader.specs.declared.reader.NextLine.{NextLine}
use Rattle.line_reader.specs.declared.reader.NextLine.TheVariants.{Line, End, TooLong, ReadFault}

pub gives_line : (old new : Reading) (before left : Option (List ℕ)) (result : NextLine) (text : Bor (List ℕ)) (is_over : Bool)
    → result ≡ Line text is_over → Gives old before new left result → HandsOut old new before left text.now is_over
gives_line old new before left result text is_over is x = subst (Gives old before new left) is x

pub gives_end : (old new : Reading) (before left : Option (List ℕ)) (result : NextLine) (rest : Bor (List ℕ))
    → result ≡ End rest → Gives old before new left result → IsAllRead old new before left rest.now
gives_end old new before left result rest is x = subst (Gives old before new left) is x

pub gives_long : (old new : Reading) (before left : Option (List ℕ)) (result : NextLine)
    → result ≡ TooLong → Gives old before new left result → IsTooLong old new before left
gives_long old new before left result is x = subst (Gives old before new left) is x

pub gives_fault : (old new : Reading) (before left : Option (List ℕ)) (result : NextLine)
    → result ≡ ReadFault → Gives old before new left result → IsCutOff old new before left
gives_fault old new before left result is x = subst (Gives old before new left) is x

-- the line was ahead, and what stands behind it is ahead now
pub line_ahead : (old new : Reading) (before left : Option (List ℕ)) (line : List ℕ) (is_over : Bool) (text : List ℕ)
    → HandsOut old new before left line is_over → ahead old.held before ≡ Some text
    → (more : List ℕ) × (ahead new.held left ≡ Some more) × (text ≡ line ++ 10 ∷ more)
line_ahead old new before left line is_over text x e =
    ahead_line left line new.held text (ahead_read before left old.held (line ++ 10 ∷ new.held) text e x.reads)

-- the rest was all that was ahead
pub end_ahead : (old new : Reading) (before left : Option (List ℕ)) (rest text : List ℕ)
    → IsAllRead old new before left rest → ahead old.held before ≡ Some text → text ≡ rest
end_ahead old new before left rest text x e = ahead_end left rest text (ahead_read before left old.held rest text e x.reads) x.ended

-- bytes without an end of line that are more than a line may have, and what stands behind them
pub record LongFront (text : List ℕ) : Type 0 where
  pub front : List ℕ
  pub behind : List ℕ
  pub whole : text ≡ front ++ behind
  pub clear : has_end front ≡ false
  pub long : MAX_LINE_BYTES < length front

pub long_front : (held more : List ℕ) → BeginsTooLong held → LongFront (held ++ more)
long_front held more x = record {
  front = take (MAX_LINE_BYTES + 1) held;
  behind = drop (MAX_LINE_BYTES + 1) held ++ more;
  whole = ap (λ (h : List ℕ). h ++ more) (sym (take-append-drop (MAX_LINE_BYTES + 1) held))
      ∙ append_assoc (take (MAX_LINE_BYTES + 1) held) (drop (MAX_LINE_BYTES + 1) held) more;
  clear = x.clear;
  long = omega (arith, length-take (MAX_LINE_BYTES + 1) held, x.long);
}

held_long : (left : Option (List ℕ)) (held text : List ℕ) → BeginsTooLong held → ahead held left ≡ Some text → LongFront text
held_long None held text x e = absurd (cc)
held_long (Some ys) held text x e =
    let same : held ++ ys ≡ text = cc in
    subst LongFront same (long_front held ys x)

-- a line that is too long was ahead
pub long_ahead : (old new : Reading) (before left : Option (List ℕ)) (text : List ℕ)
    → IsTooLong old new before left → ahead old.held before ≡ Some text → LongFront text
long_ahead old new before left text x e = held_long left new.held text x.long (ahead_read before left old.held new.held text e x.reads)
