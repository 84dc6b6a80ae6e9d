-- Which takes stand.
use Rattle.std.proofs.Common.{◌≡◌, nat_lt, nat_le, true, false, ◌&&◌, List, [], filter, refl}
use Rattle.venue_words.specs.declared.row.Priced.{Priced}
use Rattle.venue_words.specs.Priority.{in_priority}
use Rattle.eager_meaning.specs.declared.trade.Take.{Take}
use Rattle.eager_meaning.specs.Walk.{walk, total_of, least_walk, stands}
use Rattle.eager_meaning.specs.Matching.{takes_of}

pub takes_stand : (t : Priced) (rows : List Priced) (w : List Take) → walk t t.row.leaves (in_priority rows) ≡ w → (nat_lt 0 (total_of w) && nat_le (least_walk t.row) (total_of w)) ≡ true → takes_of t rows ≡ filter (λ take. nat_lt 0 take.shares) w
unfolding takes_of stands
takes_stand t rows w e h = rw (e, h) refl

pub takes_fall : (t : Priced) (rows : List Priced) (w : List Take) → walk t t.row.leaves (in_priority rows) ≡ w → (nat_lt 0 (total_of w) && nat_le (least_walk t.row) (total_of w)) ≡ false → takes_of t rows ≡ []
unfolding takes_of stands
takes_fall t rows w e h = rw (e, h) refl
