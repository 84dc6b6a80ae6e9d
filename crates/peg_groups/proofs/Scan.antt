-- The best row of the first groups.
use Rattle.std.proofs.Common.{◌≡◌, ℕ, zero, suc, ◌+◌, ◌<◌, min, true, false, List, [], ◌∷◌, length, Option, Some, None, refl, arith, slice_get, add-one}
use Rattle.std.proofs.lemmas.Bool.{ne_eqb}
use Rattle.std.proofs.lemmas.Bool.Decides.{nat_tests}
use Rattle.venue_words.specs.declared.row.Key.{Key}
use Rattle.venue_words.specs.declared.row.Row.{Row}
use Rattle.venue_words.specs.Peg.{row_value}
use Rattle.venue_words.specs.Priority.{is_ahead, is_ahead_if_active}
use Rattle.std.specs.List.{AllByRecursion}
use Rattle.std.specs.Option.{IsSomeAnd}
use Rattle.move_history.specs.Staircase.{Staircase}
use Rattle.peg_groups.proofs.GroupBest.{lower_value}
use Rattle.venue_words.specs.ListLaws.{all_weaken}
use Rattle.peg_groups.specs.Group.{time_in, IsGroupBest, value_from}
use Rattle.peg_groups.specs.Groups.{EachGroup, EachUpTo, NoneBefore, NoneActiveIn, IsBestUpTo, BestUpTo, BestIn}
use Rattle.peg_groups.specs.declared.group.Group.{Group}
use Rattle.peg_groups.specs.declared.group.Candidate.{Candidate}
use Rattle.peg_groups.proofs.BestGroup.{before_better}
use Rattle.peg_groups.proofs.GroupSteps.{there}

not_before_chain : (v t e w s f x u g : ℕ) → is_ahead v t e w s f ≡ false → is_ahead w s f x u g ≡ false → is_ahead v t e x u g ≡ false
not_before_chain v t e w s f x u g h k = grind (arith, nat_tests)

pub each_more : (P : Key → Group → Type 0) (entries : List (Key × Group)) (i : ℕ) (key : Key) (group : Group) → EachUpTo P i entries → slice_get entries i ≡ Some (key, group) → P key group → EachUpTo P (suc i) entries
each_more P [] i key group a h p = tt
each_more P (e ∷ es) zero key group a h p = let t = there e h in (rw (t.key_is, t.group_is) p, tt)
each_more P (e ∷ es) (suc i) key group a h p = (a.0, each_more P es i key group a.1 h p)

pub upto_map : (P Q : Key → Group → Type 0) → ((key : Key) → (group : Group) → P key group → Q key group) → (n : ℕ) (entries : List (Key × Group)) → EachUpTo P n entries → EachUpTo Q n entries
upto_map P Q f zero entries a = tt
upto_map P Q f (suc n) [] a = tt
upto_map P Q f (suc n) (e ∷ es) a = (f e.0 e.1 a.0, upto_map P Q f n es a.1)

pub upto_all : (P : Key → Group → Type 0) (entries : List (Key × Group)) → EachUpTo P (length entries) entries → EachGroup P entries
upto_all P [] a = tt
upto_all P (e ∷ es) a = (a.0, upto_all P es a.1)

inactive_rows : (best : Candidate) (key : Key) (group : Group) → NoneActiveIn key group → NoneBefore best key group
inactive_rows best key group a =
    all_weaken {A = Row} (λ row. row_value (value_from group.moves.current) row.cap ≡ None) (λ row. is_ahead_if_active (row_value (value_from group.moves.current) row.cap) (time_in group.moves row.cap row.entry) row.entry (Some best.value) best.time best.entry ≡ false) (λ row e. rw e refl) group.tree a

best_rows : (best : Candidate) (key : Key) (group : Group) → 0 < group.moves.current → IsGroupBest group.moves group.tree best.value best.time best.cap best.entry → NoneBefore best key group
best_rows best key group active b =
    rw (ne_eqb group.moves.current 0 (omega arith)) b.first

-- what doesn't go before one doesn't go before what that one doesn't go before
behind_both : (best old : Candidate) (key : Key) (group : Group) → is_ahead best.value best.time best.entry old.value old.time old.entry ≡ false → NoneBefore best key group → NoneBefore old key group
behind_both best old key group never a =
    all_weaken {A = Row} (λ row. is_ahead_if_active (row_value (value_from group.moves.current) row.cap) (time_in group.moves row.cap row.entry) row.entry (Some best.value) best.time best.entry ≡ false) (λ row. is_ahead_if_active (row_value (value_from group.moves.current) row.cap) (time_in group.moves row.cap row.entry) row.entry (Some old.value) old.time old.entry ≡ false)
    (λ row h. go (row_value (value_from group.moves.current) row.cap) (time_in group.moves row.cap row.entry) row.entry h) group.tree a where
      go : (o : Option ℕ) (t e : ℕ) → is_ahead_if_active o t e (Some best.value) best.time best.entry ≡ false → is_ahead_if_active o t e (Some old.value) old.time old.entry ≡ false
      go None t e h = refl
      go (Some v) t e h = not_before_chain v t e best.value best.time best.entry old.value old.time old.entry h never

behind_better : (new old : Candidate) (key : Key) (group : Group) → is_ahead new.value new.time new.entry old.value old.time old.entry ≡ true → NoneBefore old key group → NoneBefore new key group
behind_better new old key group does a =
    all_weaken {A = Row} (λ row. is_ahead_if_active (row_value (value_from group.moves.current) row.cap) (time_in group.moves row.cap row.entry) row.entry (Some old.value) old.time old.entry ≡ false) (λ row. is_ahead_if_active (row_value (value_from group.moves.current) row.cap) (time_in group.moves row.cap row.entry) row.entry (Some new.value) new.time new.entry ≡ false)
    (λ row h. go (row_value (value_from group.moves.current) row.cap) (time_in group.moves row.cap row.entry) row.entry h) group.tree a where
      go : (o : Option ℕ) (t e : ℕ) → is_ahead_if_active o t e (Some old.value) old.time old.entry ≡ false → is_ahead_if_active o t e (Some new.value) new.time new.entry ≡ false
      go None t e h = refl
      go (Some v) t e h = before_better v t e new.value new.time new.entry old.value old.time old.entry h does

-- a group without an active row
pub keep_best : (entries : List (Key × Group)) (i : ℕ) (key : Key) (group : Group) (best : Option (ℕ × Candidate)) → slice_get entries i ≡ Some (key, group) → BestIn group None → BestUpTo entries i best → BestUpTo entries (i + 1) best
keep_best entries i key group None h none b = rw add-one (each_more NoneActiveIn entries i key group b h none)
keep_best entries i key group (Some (j, best)) h none b = record {
  key = b.key;
  group = b.group;
  at = b.at;
  held = b.held;
  active = b.active;
  value_is = b.value_is;
  time_is = b.time_is;
  first = rw add-one (each_more (NoneBefore best) entries i key group b.first h (inactive_rows best key group none));
}

-- the first group with an active row
pub first_best : (entries : List (Key × Group)) (i : ℕ) (key : Key) (group : Group) (new : Candidate) → slice_get entries i ≡ Some (key, group) → BestIn group (Some new) → BestUpTo entries i None → IsBestUpTo entries (i + 1) i new
first_best entries i key group new h is b = record {
  key = key;
  group = group;
  at = h;
  held = is.1.held;
  active = is.0;
  value_is = is.1.value_is;
  time_is = is.1.time_is;
  first = rw add-one (each_more (NoneBefore new) entries i key group (upto_map NoneActiveIn (NoneBefore new) (λ k g a. inactive_rows new k g a) i entries b) h (best_rows new key group is.0 is.1));
}

-- a group with a better row
pub next_best : (entries : List (Key × Group)) (i j : ℕ) (key : Key) (group : Group) (new old : Candidate) → slice_get entries i ≡ Some (key, group) → BestIn group (Some new) → IsBestUpTo entries i j old → is_ahead new.value new.time new.entry old.value old.time old.entry ≡ true → IsBestUpTo entries (i + 1) i new
next_best entries i j key group new old h is b does = record {
  key = key;
  group = group;
  at = h;
  held = is.1.held;
  active = is.0;
  value_is = is.1.value_is;
  time_is = is.1.time_is;
  first = rw add-one (each_more (NoneBefore new) entries i key group (upto_map (NoneBefore old) (NoneBefore new) (λ k g a. behind_better new old k g does a) i entries b.first) h (best_rows new key group is.0 is.1));
}

-- a group whose best row isn't better
pub same_best : (entries : List (Key × Group)) (i j : ℕ) (key : Key) (group : Group) (new old : Candidate) → slice_get entries i ≡ Some (key, group) → BestIn group (Some new) → IsBestUpTo entries i j old → is_ahead new.value new.time new.entry old.value old.time old.entry ≡ false → IsBestUpTo entries (i + 1) j old
same_best entries i j key group new old h is b never = record {
  key = b.key;
  group = b.group;
  at = b.at;
  held = b.held;
  active = b.active;
  value_is = b.value_is;
  time_is = b.time_is;
  first = rw add-one (each_more (NoneBefore old) entries i key group b.first h (behind_both new old key group never (best_rows new key group is.0 is.1)));
}

-- a group of a lower value has no row that goes before
lower_rows : (value time entry : ℕ) (m : Staircase) (rows : List Row) → m.current < value → AllByRecursion (λ row. is_ahead_if_active (row_value (value_from m.current) row.cap) (time_in m row.cap row.entry) row.entry (Some value) time entry ≡ false) rows
lower_rows value time entry m [] less = tt
lower_rows value time entry m (row ∷ rows) less = (go m.current row.cap (time_in m row.cap row.entry) row.entry less, lower_rows value time entry m rows less) where
  go : (current cap t e : ℕ) → current < value → is_ahead_if_active (row_value (value_from current) cap) t e (Some value) time entry ≡ false
  go zero cap t e h = refl
  go (suc n) cap t e h = rw (ne_eqb (suc n) 0 (omega arith)) (lower_value (min (suc n) cap) t e value time entry (omega arith))

pub keep_higher : (entries : List (Key × Group)) (i : ℕ) (key : Key) (group : Group) (best : Option (ℕ × Candidate)) → slice_get entries i ≡ Some (key, group) → IsSomeAnd best (λ b. group.moves.current < b.1.value) → BestUpTo entries i best → BestUpTo entries (i + 1) best
keep_higher entries i key group None h less b = absurd less
keep_higher entries i key group (Some (j, best)) h less b = record {
  key = b.key;
  group = b.group;
  at = b.at;
  held = b.held;
  active = b.active;
  value_is = b.value_is;
  time_is = b.time_is;
  first = rw add-one (each_more (NoneBefore best) entries i key group b.first h (lower_rows best.value best.time best.entry group.moves group.tree less));
}
