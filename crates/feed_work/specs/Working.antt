-- What comes of commands that go through a floor.
use Rattle.std.specs.Prelude.{◌≡◌, ℕ, ◌+◌, ◌-◌, ◌++◌, List, [], ◌∷◌, length, slice_get, slice_index, Option, Some, None, Vec}
use Rattle.std.specs.declared.alloc.Global.{Global}
use Rattle.venue_words.specs.Floors.{FloorMark, Setup, SymbolView}
use Rattle.venue_words.specs.Journals.{StartsWith, IfFull, event}
use Rattle.venue_words.specs.declared.command.Event.{Event}
use Rattle.venue_words.specs.declared.refusal.FloorRefusal.{FloorRefusal}
use Rattle.eager_meaning.specs.Interleaving.{Timed}
use Rattle.turn_gate.specs.Numbers.{IncreasesWithin}
use Rattle.feed_work.specs.Feeds.{Asked, commands_at}
use Rattle.feed_work.specs.declared.share.Share.{Share}
use Rattle.feed_work.specs.declared.share.Worked.{Worked}

-- the events of a journal with these numbers are these commands of the feed
abbrev pub Stand : ℕ → List Event → List ℕ → List Timed → Type 0
Stand feed journal [] [] = Unit {0}
Stand feed journal [] (command ∷ commands) = ⊥
Stand feed journal (number ∷ numbers) [] = ⊥
Stand feed journal (number ∷ numbers) (command ∷ commands) =
    (slice_get journal (number - 1) ≡ Some (event number feed command.0 command.1)) × Stand feed journal numbers commands

-- at a symbol the own calls grew by exactly these commands of the feed, in their order, behind all that had been seen
pub record Grew (feed : ℕ) (before after : SymbolView) (commands : List Timed) : Type 0 where
  pub numbers : List ℕ
  pub mine : after.mine ≡ before.mine ++ numbers
  pub stand : Stand feed after.journal numbers commands
  pub rise : IncreasesWithin (length before.journal) (length after.journal) numbers
  pub seen : StartsWith after.journal before.journal

-- at every symbol they grew by the feed's commands for it
abbrev pub GrewByAll : ℕ → (ℕ → SymbolView) → (ℕ → SymbolView) → List Asked → Type 0
GrewByAll feed before after commands =
    (symbol : ℕ) → Grew feed (before symbol) (after symbol) (commands_at symbol commands)

-- a command was refused: the own calls grew by those before it. Where its symbol's journal was full, the journal that was
-- found, which the floor has seen, holds the limit
pub record Stopped (setup : Setup) (feed : ℕ) (before after : ℕ → SymbolView) (commands : List Asked) (why : FloorRefusal) : Type 0 where
  pub first : List Asked
  pub next : Asked
  pub left : List Asked
  pub commands_are : commands ≡ first ++ next ∷ left
  pub grew : GrewByAll feed before after first
  pub full : IfFull (λ found. (found ≡ length (after next.0).journal) × (found ≡ slice_index setup.limits next.0)) why

-- all commands were taken, or those before a refused one
abbrev pub Works : Setup → ℕ → (ℕ → SymbolView) → (ℕ → SymbolView) → List Asked → Option FloorRefusal → Type 0
Works setup feed before after commands None = GrewByAll feed before after commands
Works setup feed before after commands (Some why) = Stopped setup feed before after commands why

module _ {F : Type 0} (mark : F → FloorMark) (at : F → ℕ → SymbolView) where
  -- what came of a share: its floor's mark is as before, and its commands were worked
  pub record IsWorked (feed : ℕ) (floor : F) (commands : List Asked) (worked : Worked F) : Type 0 where
    pub mark_is : mark worked.floor ≡ mark floor
    pub calls : Works (mark floor).setup feed (at floor) (at worked.floor) commands worked.refused

  -- each answer is that of the share at its place; the first share is of this feed, the next one of the next feed
  abbrev pub AreWorked : ℕ → List (F × Vec Asked Global) → List (Worked F) → Type 0
  AreWorked feed [] [] = Unit {0}
  AreWorked feed [] (worked ∷ others) = ⊥
  AreWorked feed (share ∷ shares) [] = ⊥
  AreWorked feed (share ∷ shares) (worked ∷ others) =
      IsWorked feed share.0 share.1.items worked × AreWorked (feed + 1) shares others

-- each share with the number of its feed
abbrev pub AreNumbered : {F : Type 0} → ℕ → List (F × Vec Asked Global) → List (Share F) → Type 0
AreNumbered feed [] [] = Unit {0}
AreNumbered feed [] (numbered ∷ others) = ⊥
AreNumbered feed (share ∷ shares) [] = ⊥
AreNumbered feed (share ∷ shares) (numbered ∷ others) =
    (numbered ≡ record { floor = share.0; feed = feed; commands = share.1 }) × AreNumbered (feed + 1) shares others
