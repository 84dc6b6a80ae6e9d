-- A feed's file in the middle, and feeds one behind the other, as they are read.
use Rattle.std.specs.Prelude.{◌≡◌, ℕ, ◌+◌, Bool, true, List, [], ◌∷◌, ◌++◌, length, take, Option, Some}
use Rattle.io_edge.specs.Files.{Files}
use Rattle.script_text.specs.Lines.{cut}
use Rattle.line_reader.specs.Reading.{ahead}
use Rattle.feeds_core.specs.FeedFiles.{texts_named}
use Rattle.feeds_core.specs.FeedTexts.{KeepsAll}
use Rattle.feeds_core.specs.declared.feed_text.FeedText.{FeedText}

-- the bytes of lines with their ends
abbrev pub size_of : List (List ℕ) → ℕ
size_of [] = 0
size_of (line ∷ lines) = (length line + 1) + size_of lines

-- bytes that are whole lines, whatever stands behind them
pub record AreWholeLines (lines : List ℕ) : Type 0 where
  pub rest : (more : List ℕ) → (cut (lines ++ more)).rest ≡ (cut more).rest
  pub front : (more : List ℕ) → (cut (lines ++ more)).lines ≡ (cut lines).lines ++ (cut more).lines
  pub size : size_of (cut lines).lines ≡ length lines

-- whole lines of a text were kept, and what stands behind them is ahead
pub record KeepsFront (text lines held : List ℕ) (left : Option (List ℕ)) : Type 0 where
  pub more : List ℕ
  pub behind : ahead held left ≡ Some more
  pub text_is : text ≡ lines ++ more

-- the first of these files were read and kept, and so many bytes stand behind them
pub record KeepsFirst (files : Files) (names : List (List ℕ)) (count already bytes : ℕ) (kepts : List FeedText) : Type 0 where
  pub texts : List (List ℕ)
  pub named : texts_named files (take count names) ≡ Some texts
  pub is_live : Bool
  pub now : ℕ
  pub now_is : is_live ≡ true → bytes ≡ now
  pub goes : (ts : List (List ℕ)) (ks : List FeedText) → KeepsAll is_live now ts ks → KeepsAll true already (texts ++ ts) (kepts ++ ks)
