-- What has been worked of a journal that grows.
use Rattle.std.specs.Prelude.{◌≡◌, ℕ, true, List, ◌++◌, Option, IfSome}
use Rattle.day_journal.specs.Log.{reading, intact, size_of}
use Rattle.journal_follow.specs.declared.piece.Stop.{Stop}
use Rattle.journal_follow.specs.declared.piece.Stop.TheVariants as stops
use Rattle.live_core.specs.Lines.{Yields, kept, output, AreNotTaken}
use Rattle.journal_follow.specs.Files.{BeginsWith}
use Rattle.journal_follow.specs.declared.following.FollowFault.{FollowFault}
use Rattle.journal_follow.specs.declared.following.FollowFault.TheVariants.{ReadFault, Damaged, Refused, TooLong, NoMemory}
use Rattle.journal_follow.specs.declared.following.Looked.{Looked}
use Rattle.journal_follow.specs.declared.following.Looked.TheVariants.{AtEnd, Worked}

-- what a follower has: its machine, the place after the lines that it has worked, those that it worked last, and what these yielded
pub record FollowView (M : Type 0) : Type 0 where
  pub machine : M
  pub size : ℕ
  pub lines : List (List ℕ)
  pub text : List ℕ

-- Exactly these lines were worked, each once and in order, and the file begins with them.
pub record HasFollowed (has_taken : List (List ℕ) → Type 0) (told : Option (List ℕ)) (place : ℕ) (past : List (List ℕ)) : Type 0 where
  pub taken : has_taken past
  pub size : place ≡ size_of past
  pub front : IfSome told (λ file. BeginsWith past file)

-- at the end there are no lines but those that were worked, and no damage
abbrev pub IsAll : Option (List ℕ) → List (List ℕ) → Looked → Type 0
IsAll told past AtEnd = IfSome told (λ file. reading file ≡ intact past)
IsAll told past Worked = Unit {0}

-- After some lines of a file these were found next: the file begins with all of them, and where the gate after them is closed, or
-- damage stands there, nothing else is read.
pub record IsFound (past lines : List (List ℕ)) (stop : Stop) (file : List ℕ) : Type 0 where
  pub front : BeginsWith (past ++ lines) file
  pub closed : stop ≡ stops.Closed → reading file ≡ intact (past ++ lines)
  pub damaged : stop ≡ stops.Damaged → reading file ≡ record { lines = past ++ lines; damaged = true }

-- After these lines some more were worked, and this is what they yield.
pub record GoesFurther (yields : Yields) (past lines : List (List ℕ)) (said : List ℕ) : Type 0 where
  pub each : kept yields past lines ≡ lines
  pub text : said ≡ output yields past lines

-- why a journal is followed no further, after these lines
abbrev pub FollowCause : Yields → Option (List ℕ) → ℕ → List (List ℕ) → FollowFault → Type 0
FollowCause yields told size past (Damaged at) = IfSome told (λ file. ((reading file).damaged ≡ true) × ((reading file).lines ≡ past) × (at ≡ size))
FollowCause yields told size past (Refused line) = (lines : List (List ℕ)) × AreNotTaken yields past lines × IfSome told (λ file. BeginsWith (past ++ lines) file)
FollowCause yields told size past ReadFault = Unit {0}
FollowCause yields told size past TooLong = Unit {0}
FollowCause yields told size past NoMemory = Unit {0}

-- damage and a file that can't be read leave the follower where it was, and what is worked next are the lines after those
abbrev pub MayGoOn : FollowFault → Type 0
MayGoOn ReadFault = Unit {0}
MayGoOn (Damaged at) = Unit {0}
MayGoOn TooLong = Unit {0}
MayGoOn (Refused line) = ⊥
MayGoOn NoMemory = ⊥
