-- What contracts see of an edge, and what holds of it at any moment.
use Rattle.std.specs.Prelude.{◌≡◌, ℕ, List}
use Rattle.ports.specs.declared.table.Table.{Table}
use Rattle.live_edge.specs.Stories.{Story}
use Rattle.live_edge.specs.Joins.{Joined, all_put}
use Rattle.live_words.specs.Frames.{frames_of}

-- all lines that it brought, all lines of transcripts that were put, how often a call has failed, the rounds that are left, and the
-- names of the members
pub record Edged : Type 0 where
  pub brought : List (List ℕ)
  pub told : List (List ℕ)
  pub faults : ℕ
  pub left : ℕ
  pub names : List (List ℕ)

-- Its table is as its history says, and all that was put to a member is the frames that the lines which were put have for him.
pub record IsEdge (story : Story) (names : List (List ℕ)) (table : Table) (came went : ℕ → List ℕ) : Type 0 where
  pub joined : Joined story.past table came went
  pub put : (m : ℕ) → all_put story.past m ≡ frames_of names m story.told
