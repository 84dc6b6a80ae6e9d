-- Rows in order, and parts of them.
use Rattle.std.proofs.Common.{◌≡◌, ◌<◌, List, [], ◌∷◌, ◌++◌, length, refl, ap, append_assoc, length-append, arith}
use Rattle.std.specs.List.{AllByRecursion}
use Rattle.venue_words.specs.declared.row.Row.{Row}
use Rattle.venue_words.specs.ListLaws.{all_parts}
use Rattle.limit_tree.specs.Order.{row_rank, IsOrdered}

pub all_front : (P : Row → Type 0) (front back : List Row) → AllByRecursion P (front ++ back) → AllByRecursion P front
all_front P front back a = (all_parts P front back a).0

pub all_back : (P : Row → Type 0) (front back : List Row) → AllByRecursion P (front ++ back) → AllByRecursion P back
all_back P front back a = (all_parts P front back a).1

pub ordered_front : (front back : List Row) → IsOrdered (front ++ back) → IsOrdered front
ordered_front [] back o = tt
ordered_front (row ∷ front) back o = (o.0, all_front (λ later. row_rank row < row_rank later) front back o.1, ordered_front front back o.2)

pub ordered_back : (front back : List Row) → IsOrdered (front ++ back) → IsOrdered back
ordered_back [] back o = o
ordered_back (row ∷ front) back o = ordered_back front back o.2

-- the parts of ((a, x, b), y, c)
pub ordered_right : (a : List Row) (x : Row) (b : List Row) (y : Row) (c : List Row) → IsOrdered ((a ++ x ∷ b) ++ y ∷ c) → IsOrdered (b ++ y ∷ c)
ordered_right a x b y c o = (ordered_back a (x ∷ (b ++ y ∷ c)) (rw append_assoc at o)).2

-- the parts of (a, x, (b, y, c))
pub ordered_left : (a : List Row) (x : Row) (b : List Row) (y : Row) (c : List Row) → IsOrdered (a ++ x ∷ (b ++ y ∷ c)) → IsOrdered (a ++ x ∷ b)
ordered_left a x b y c o = ordered_front (a ++ x ∷ b) (y ∷ c) (rw append_assoc o)

-- what stands behind a row
pub ordered_behind : (front : List Row) (row : Row) (back : List Row) → IsOrdered (front ++ row ∷ back) → IsOrdered back
ordered_behind front row back o = (ordered_back front (row ∷ back) o).2

-- with one row in all there is none beside it
pub alone : (front : List Row) (row other : Row) (back : List Row) → front ++ row ∷ back ≡ row ∷ [] → front ++ other ∷ back ≡ other ∷ []
alone [] row other [] h = refl
alone [] row other (next ∷ back) h = absurd (let n = ap length h in omega (arith, n))
alone (first ∷ front) row other back h = absurd (let n = ap length h in omega (arith, n, length-append front (row ∷ back)))
