-- How a taker goes through the orders of the other side.
use Rattle.std.specs.Prelude.{ℕ, ◌-◌, min, Bool, ◌&&◌, nat_le, nat_lt, if◌then◌else◌, Option, Some, None, unwrap_or, List, [], ◌∷◌, sum_by}
use Rattle.venue_words.specs.declared.row.Row.{Row}
use Rattle.venue_words.specs.declared.row.Priced.{Priced}
use Rattle.venue_words.specs.Price.{crosses}
use Rattle.eager_meaning.specs.declared.trade.Take.{Take}
use Rattle.eager_meaning.specs.Floor.{floor, is_once}

-- the least that a taker with shares left takes from one contra: its minimum, where each trade has to meet it
abbrev pub least_fill : Row → ℕ → ℕ
least_fill taker left = if is_once taker.method then 0 else min taker.minimum left

-- the shares that a taker with shares left takes from a contra, where both minimums allow it
unfoldable pub may_fill : Row → Row → ℕ → Option ℕ
may_fill taker contra left =
    let most = min left contra.leaves in
    if nat_le (floor contra) most && nat_le (least_fill taker left) most then Some most else None

-- the same, and 0 where the contra is passed over
unfoldable pub taken_from : Row → ℕ → Row → ℕ
taken_from taker left contra = unwrap_or (may_fill taker contra left) 0

-- each contra that is gone through, with the shares taken from it: the longest prefix that crosses while shares are left
unfoldable pub walk : Priced → ℕ → List Priced → List Take
walk taker left [] = []
walk taker left (contra ∷ contras) =
    let shares = taken_from taker.row left contra.row in
    if crosses taker contra && nat_lt 0 left
    then record { contra = contra; shares = shares } ∷ walk taker (left - shares) contras
    else []

-- all shares taken
abbrev pub total_of : List Take → ℕ
total_of takes = sum_by (λ take. take.shares) takes

-- the least that a whole walk takes: the floor of a taker whose minimum has to be met once
abbrev pub least_walk : Row → ℕ
least_walk taker = if is_once taker.method then floor taker else 0

-- whether a walk stands: something is taken, and at least that
unfoldable pub stands : Row → List Take → Bool
stands taker takes = nat_lt 0 (total_of takes) && nat_le (least_walk taker) (total_of takes)
