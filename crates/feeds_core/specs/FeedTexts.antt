-- What is kept of a feed's file stands for the whole of it.
use Rattle.std.specs.Prelude.{◌≡◌, ℕ, ◌+◌, Bool, true, false, List, [], ◌∷◌, length, min, Option, Some, None}
use Rattle.venue_words.specs.declared.limits.TheConstants.{MAX_CONFIG_BYTES}
use Rattle.venue_words.specs.declared.config.Config.{Config}
use Rattle.script_text.specs.Lines.{cut}
use Rattle.script_text.specs.declared.fault.LineFault.{LineFault}
use Rattle.script_text.specs.declared.fault.LineFault.TheVariants.{Bad, Limit}
use Rattle.script_text.specs.declared.fault.LineCause.TheVariants.{NoEnd}
use Rattle.script_text.specs.declared.fault.LimitCause.TheVariants.{Line, Bytes}
use Rattle.feeds_core.specs.FeedLines.{lines_fault, feed_fault}
use Rattle.feeds_core.specs.declared.feed_text.FeedText.{FeedText}
use Rattle.feeds_core.specs.declared.feed_text.FeedEnd.{FeedEnd}
use Rattle.feeds_core.specs.declared.feed_text.FeedEnd.TheVariants.{Whole, Unended, TooLong, Over}

-- why the line behind n whole lines is refused
abbrev pub end_fault : FeedEnd → ℕ → Option LineFault
end_fault Whole n = None
end_fault Unended n = Some (Bad (n + 1) NoEnd)
end_fault TooLong n = Some (Limit (n + 1) Line)
end_fault Over n = Some (Limit (n + 1) Bytes)

-- the first refused line of what is kept
unfoldable pub kept_fault : Config → (ℕ → Bool) → FeedText → Option LineFault
kept_fault config taken kept = lines_fault config taken 0 kept.already (cut kept.lines.items).lines (end_fault kept.end)

-- the bytes up to the end of a file that is within the limit
abbrev pub bytes_behind : FeedText → ℕ
bytes_behind kept = min (kept.already + length kept.lines.items) MAX_CONFIG_BYTES

-- the first refused line of a file is that of what is kept of it, and a file that was kept whole is kept byte for byte
pub record Keeps (already : ℕ) (text : List ℕ) (kept : FeedText) : Type 0 where
  pub already_is : kept.already ≡ already
  pub fault : (config : Config) (taken : ℕ → Bool) → kept_fault config taken kept ≡ feed_fault config taken already text
  pub whole : kept.end ≡ Whole → (text ≡ kept.lines.items) × (bytes_behind kept ≡ already + length text)

abbrev pub is_whole : FeedEnd → Bool
is_whole Whole = true
is_whole _ = false

-- files one behind the other; behind a file that is refused on its own account nothing is told
abbrev pub KeepsAll : Bool → ℕ → List (List ℕ) → List FeedText → Type 0
KeepsAll false already texts kepts = length texts ≡ length kepts
KeepsAll true already [] [] = Unit {0}
KeepsAll true already [] (kept ∷ kepts) = ⊥
KeepsAll true already (text ∷ texts) [] = ⊥
KeepsAll true already (text ∷ texts) (kept ∷ kepts) =
    Keeps already text kept × KeepsAll (is_whole kept.end) (already + length text) texts kepts
