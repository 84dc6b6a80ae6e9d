-- Groups that need no pass: each has a row, or each has room.
use Rattle.std.proofs.Common.{◌≡◌, ℕ, suc, ◌<◌, Bool, true, false, not, cond, ltb, List, [], ◌∷◌, ◌++◌, length, filter, Option, refl, ap, ◌∙◌, arith, inl, inr}
use Rattle.limit_tree.specs.Order.{is_empty, insert_row, row_rank}
use Rattle.venue_words.specs.declared.price.Best.{Best}
use Rattle.venue_words.specs.declared.row.Key.{Key}
use Rattle.venue_words.specs.declared.row.Row.{Row}
use Rattle.peg_groups.specs.Groups.{EntersGroup, HaveRoom, HaveRows, IsMoved, IsRoomier, PairedBy, ReservesGroups, has_rows, with_rows}
use Rattle.peg_groups.specs.declared.group.Group.{Group}
use Rattle.peg_groups.proofs.GroupSteps.{each_set}
use Rattle.peg_groups.proofs.Repricing.{each_used, paired_length}

-- a group that a row enters has a row
inserted : (row : Row) (rows : List Row) → is_empty (insert_row row rows) ≡ false
inserted row [] = refl
inserted row (first ∷ rows) = elim (ltb (row_rank row) (row_rank first)) as (λ b. is_empty (cond b (row ∷ first ∷ rows) (first ∷ insert_row row rows)) ≡ false) [ true ↦ refl | false ↦ refl ]

pub rows_enter : (key : Key) (row : Row) (old new : List (Key × Group)) → EntersGroup key row old new → HaveRows old → HaveRows new
rows_enter key row old new e a = rw e.left (each_set (λ _ group. is_empty group.tree ≡ false) old e.i (with_rows e.group (insert_row row e.group.tree)) (λ k g h p. inserted row e.group.tree) a)

-- where the rows stay, each group has a row still
pub rows_paired : (R : Key → Group → Group → Type 0) → ((key : Key) → (old new : Group) → R key old new → new.tree ≡ old.tree) → (olds news : List (Key × Group)) → PairedBy R olds news → HaveRows olds → HaveRows news
rows_paired R same [] [] p a = tt
rows_paired R same [] (e ∷ es) p a = absurd p
rows_paired R same (o ∷ os) [] p a = absurd p
rows_paired R same (o ∷ os) (e ∷ es) p a = (ap is_empty (same o.0 o.1 e.1 p.1) ∙ a.0, rows_paired R same os es p.2 a.1)

pub rows_moved : (event : ℕ) (best : Best) (olds news : List (Key × Group)) → PairedBy (IsMoved event best) olds news → HaveRows olds → HaveRows news
rows_moved event best olds news p a = rows_paired (IsMoved event best) (λ key old new m. m.tree) olds news p a

-- where a reservation makes no group more, each has a row still
pub rows_reserved : (best : Best) (key : Option Key) (olds news : List (Key × Group)) → ReservesGroups best key olds news → length news ≡ length olds → HaveRows olds → HaveRows news
rows_reserved best key olds news r same a = elim r.grown [
  | inl e ↦ rw e (rows_paired (λ _ old new. IsRoomier old new) (λ k old new m. m.tree) olds r.middle r.roomier a)
  | inr n ↦ absurd (omega (arith, same, ap length n.2.left, longer r.middle (n.0, n.2.group), paired_length (λ _ old new. IsRoomier old new) olds r.middle r.roomier))
] where
  longer : (es : List (Key × Group)) (e : Key × Group) → length (es ++ e ∷ []) ≡ suc (length es)
  longer [] e = refl
  longer (x ∷ es) e = ap suc (longer es e)

-- room that is there needs no call
pub roomier_same : (es : List (Key × Group)) → PairedBy (λ _ old new. IsRoomier old new) es es
roomier_same [] = tt
roomier_same (e ∷ es) = (refl, record { tree = refl; moves = refl; room = omega arith }, roomier_same es)

-- where each group has a row, none is dropped
pub all_used : (es : List (Key × Group)) → HaveRows es → filter has_rows es ≡ es
all_used [] a = refl
all_used (e ∷ es) a = rw (not_empty (is_empty e.1.tree) a.0) (ap (λ (all : List (Key × Group)). e ∷ all) (all_used es a.1)) where
  not_empty : (b : Bool) → b ≡ false → not b ≡ true
  not_empty b h = rw h refl

-- those that are left each have a row
pub used_left : (es : List (Key × Group)) → HaveRows (filter has_rows es)
used_left [] = tt
used_left (e ∷ es) =
    elim (is_empty e.1.tree) as (λ b. is_empty e.1.tree ≡ b → HaveRows (cond (not b) (e ∷ filter has_rows es) (filter has_rows es))) [
      | true ↦ λ h. used_left es
      | false ↦ λ h. (h, used_left es)
    ] refl

pub room_left : (es : List (Key × Group)) → HaveRoom es → HaveRoom (filter has_rows es)
room_left es a = each_used (λ _ group. 0 < group.moves.room) es a
