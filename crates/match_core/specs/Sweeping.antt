-- Where a sweep stands between two takers.
use Rattle.std.specs.Prelude.{◌≡◌, ℕ, ◌+◌, ◌<◌, ◌≤◌, nat_lt, Bool, true, false, List, length, if◌then◌else◌, vec_len}
use Rattle.std.specs.List.{AllByRecursion}
use Rattle.std.specs.Vec.{vec_capacity}
use Rattle.venue_words.specs.declared.row.Priced.{Priced}
use Rattle.venue_words.specs.Priority.{in_priority}
use Rattle.eager_meaning.specs.declared.trade.Fill.{Fill}
use Rattle.eager_meaning.specs.Recheck.{Sides, sweep}
use Rattle.eager_meaning.specs.Work.{examined_in_sweep}
use Rattle.match_core.specs.Aside.{AreOut, HasLeaves, put_filled, taken_rows}
use Rattle.match_core.specs.declared.scratch.Scratch.{Scratch}

-- 1 where shares are left
abbrev pub one_if_left : ℕ → ℕ
one_if_left shares = if nat_lt 0 shares then 1 else 0

-- the takers that have walked, the rows of their side without them, those of the other side, and the trades
pub record Stage : Type 0 where
  pub tried : List Priced
  pub own : List Priced
  pub others : List Priced
  pub fills : List Fill

-- the same, for the takers and trades of a scratch
abbrev pub stage_of : List Priced → List Priced → Scratch → Stage
stage_of own others scratch =
    record { tried = taken_rows scratch.tried.items; own = own; others = others; fills = scratch.fills.items }

-- both sides of a book and the trades of a scratch
abbrev pub sides_of : List Priced → List Priced → Scratch → Sides
sides_of own others scratch = record { own = own; others = others; fills = scratch.fills.items }

-- both sides, with the takers that have walked in their places
abbrev pub sides_at : Stage → Sides
sides_at stage =
    record { own = put_filled stage.tried stage.own; others = stage.others; fills = stage.fills }

-- what is left of the sweep
abbrev pub rest_of_sweep : Stage → Sides
rest_of_sweep stage = sweep (in_priority stage.own) (sides_at stage)

-- how many orders the rest of the sweep examines
abbrev pub rest_of_work : Stage → ℕ
rest_of_work stage = examined_in_sweep (in_priority stage.own) (sides_at stage)

-- the trades and the rows of both sides together
abbrev pub fills_and_rows : Stage → ℕ
fills_and_rows stage = length stage.fills + (length (put_filled stage.tried stage.own) + length stage.others)

-- each row has shares left, and none stands twice
pub record IsStage (stage : Stage) : Type 0 where
  pub out : AreOut stage.tried stage.own
  pub own_full : AllByRecursion HasLeaves stage.own
  pub others_full : AllByRecursion HasLeaves stage.others

-- one taker more has walked, and the sweep goes on; or it is done
pub record Turned (goes_on : Bool) (old new : Stage) : Type 0 where
  pub is : IsStage new
  pub few : fills_and_rows new ≤ fills_and_rows old
  pub more : length old.fills ≤ length new.fills
  pub others_fewer : length new.others ≤ length old.others
  pub on : goes_on ≡ true → rest_of_sweep old ≡ rest_of_sweep new
  pub shorter : goes_on ≡ true → length new.own < length old.own
  pub done : goes_on ≡ false → rest_of_sweep old ≡ sides_at new

-- room for what is left of a sweep
pub record HasStageRoom (own others : List Priced) (scratch : Scratch) : Type 0 where
  pub fills : fills_and_rows (stage_of own others scratch) ≤ vec_capacity scratch.fills
  pub aside : length others ≤ vec_capacity scratch.aside
  pub tried : vec_len scratch.tried + length own ≤ vec_capacity scratch.tried
