-- A side of groups after a quote, after a reservation and after it was tidied.
use Rattle.std.proofs.Common.{Ok, Err, ◌≡◌, ◌⊎◌, ℕ, zero, suc, ◌+◌, ◌<◌, ◌≤◌, min, max, not, Bool, true, false, cond, eqb, List, [], ◌∷◌, ◌++◌, map, filter, length, Option, Some, None, refl, ap, sym, ◌∙◌, subst, arith, inl, inr}
use Rattle.std.proofs.lemmas.Bool.{ne_eqb, eq-eqb, eqb-true, cases_eq}
use Rattle.venue_words.specs.Conditions.{IsKey}
use Rattle.venue_words.specs.Peg.{row_value, peg_value, value_under}
use Rattle.venue_words.specs.Retime.{retime, reprice}
use Rattle.venue_words.specs.declared.price.Best.{Best}
use Rattle.venue_words.specs.declared.row.Key.{Key}
use Rattle.venue_words.specs.declared.row.Row.{Row}
use Rattle.venue_words.specs.declared.row.Priced.{Priced}
use Rattle.std.specs.List.{AllByRecursion}
use Rattle.std.specs.Option.{option_eq}
use Rattle.std.specs.Prelude.{nat_eq}
use Rattle.venue_words.specs.ListLaws.{all_both}
use Rattle.limit_tree.specs.Order.{is_empty}
use Rattle.move_history.specs.Staircase.{Staircase, last_change}
use Rattle.peg_groups.specs.Side.{Standing, IsLaterThan}
use Rattle.venue_words.specs.Rows.{IsAbsent, insert_by_entry}
use Rattle.peg_groups.specs.Group.{priced_in, value_from}
use Rattle.peg_groups.specs.Groups.{merged, rows_of, EachGroup, IsRowOf, IsGroup, AreGroups, IsGroupSide, GroupsView, groups_state, HasMoves, HasGroup, HaveRoom, FitsGroup, IsMoved, IsRoomier, PairedBy, IsFresh, HasNew, ReservesGroups, has_rows}
use Rattle.peg_groups.specs.declared.group.Group.{Group}
use Rattle.peg_groups.specs.Merge.{map-insert}
use Rattle.peg_groups.proofs.Merged.{each_merged, merged_each, apart_kept}
use Rattle.peg_groups.proofs.GroupSteps.{fits_kept}
use Rattle.peg_groups.proofs.SideSteps.{entries_before}
use Rattle.peg_groups.proofs.Positive.{peg_number}

-- whether a row's value differs is whether the lesser of value and cap does
value_suc : (b : ℕ) → value_from (suc b) ≡ Some (suc b)
value_suc b = rw (ne_eqb (suc b) 0 (omega arith)) refl

eqb_turned : (m n : ℕ) → eqb m n ≡ eqb n m
eqb_turned m n = elim (cases_eq m n) [
  | inl same ↦ eq-eqb m n same ∙ sym (eq-eqb n m (sym same))
  | inr other ↦ ne_eqb m n other ∙ sym (ne_eqb n m (λ e. other (sym e)))
]

same_test : (a b n : ℕ) → 1 ≤ n → option_eq nat_eq (row_value (value_from b) n) (row_value (value_from a) n) ≡ eqb (min a n) (min b n)
same_test zero zero n h = sym (eq-eqb (min 0 n) (min 0 n) refl)
same_test zero (suc b) n h = rw (value_suc b) (sym (ne_eqb (min 0 n) (min (suc b) n) (omega arith)))
same_test (suc a) zero n h = rw (value_suc a) (sym (ne_eqb (min (suc a) n) (min 0 n) (omega arith)))
same_test (suc a) (suc b) n h = rw (value_suc a, value_suc b) (eqb_turned (min (suc b) n) (min (suc a) n))

same_values : (a b n : ℕ) → 1 ≤ n → min a n ≡ min b n → row_value (value_from b) n ≡ row_value (value_from a) n
same_values zero zero n h e = refl
same_values zero (suc b) n h e = absurd (omega arith)
same_values (suc a) zero n h e = absurd (omega arith)
same_values (suc a) (suc b) n h e = rw (value_suc a, value_suc b) (ap Some (sym e))

-- the row with another value, and the event's number as its time where it differs
abbrev retime_to : ℕ → Option ℕ → Priced → Priced
retime_to event value x = cond (option_eq nat_eq value x.value) x (record { row = x.row; value = value; time = event })

-- a row of the group, priced by the moves with one more
row_repriced : (event : ℕ) (best : Best) (key : Key) (old new : Group) (row : Row) → IsMoved event best key old new → IsRowOf key row → row.entry < event → priced_in new.moves row ≡ retime event best (priced_in old.moves row)
unfolding retime value_under
row_repriced event best key old new row m r early =
    let value : row_value (value_from new.moves.current) row.cap ≡ row_value (peg_value row.key best) row.cap = ap (λ (o : Option ℕ). row_value o row.cap) (ap value_from m.current ∙ peg_number key best ∙ ap (λ (k : Key). peg_value k best) (sym r.key_is)) in
    let least : 1 ≤ row.cap = r.least in
    subst (λ (v : Option ℕ). priced_in new.moves row ≡ retime_to event v (priced_in old.moves row)) value
    (subst (λ (b : Bool). priced_in new.moves row ≡ cond b (priced_in old.moves row) (record { row = row; value = row_value (value_from new.moves.current) row.cap; time = event })) (sym (same_test old.moves.current new.moves.current row.cap least))
    ((elim (eqb (min old.moves.current row.cap) (min new.moves.current row.cap)) as (λ b. eqb (min old.moves.current row.cap) (min new.moves.current row.cap) ≡ b → last_change new.moves row.cap ≡ cond b (last_change old.moves row.cap) event → priced_in new.moves row ≡ cond b (priced_in old.moves row) (record { row = row; value = row_value (value_from new.moves.current) row.cap; time = event })) [
      | true ↦ λ e c.
          let v = same_values old.moves.current new.moves.current row.cap least (eqb-true _ _ e) in
          λ i. record { row = row; value = v i; time = max row.entry (c i) }
      | false ↦ λ e c.
          let t : max row.entry (last_change new.moves row.cap) ≡ event = omega arith in
          λ i. record { row = row; value = row_value (value_from new.moves.current) row.cap; time = t i }
    ]) refl (m.changes row.cap)))

pub retime_entry : (event : ℕ) (best : Best) (p : Priced) → (retime event best p).row.entry ≡ p.row.entry
unfolding retime
retime_entry event best p = elim (option_eq nat_eq (value_under best p.row) p.value) as (λ b. (cond b p (record { row = p.row; value = value_under best p.row; time = event })).row.entry ≡ p.row.entry) [ true ↦ refl | false ↦ refl ]

merged_mapped : (f : Priced → Priced) → ((p : Priced) → (f p).row.entry ≡ p.row.entry) → (m n : Staircase) (rows : List Row) (others news : List Priced) → AllByRecursion (λ row. priced_in n row ≡ f (priced_in m row)) rows → news ≡ map f others → merged n rows news ≡ map f (merged m rows others)
merged_mapped f keeps m n [] others news a e = e
merged_mapped f keeps m n (row ∷ rows) others news a e =
    ap (λ (all : List Priced). insert_by_entry (priced_in n row) all) (merged_mapped f keeps m n rows others news a.1 e)
    ∙ ap (λ (p : Priced). insert_by_entry p (map f (merged m rows others))) a.0
    ∙ sym (map-insert f keeps (priced_in m row) (merged m rows others))

pub rows_repriced : (event : ℕ) (best was : Best) (before : ℕ) (olds news : List (Key × Group)) → PairedBy (IsMoved event best) olds news → AreGroups was before olds → AllByRecursion (λ p. p.row.entry < event) (rows_of olds) → rows_of news ≡ reprice event best (rows_of olds)
unfolding reprice
rows_repriced event best was before [] [] p a l = refl
rows_repriced event best was before [] (n ∷ ns) p a l = absurd p
rows_repriced event best was before (o ∷ os) [] p a l = absurd p
rows_repriced event best was before (o ∷ os) (n ∷ ns) p a l =
    let m = p.1 in
    let e = merged_each (λ q. q.row.entry < event) o.1.moves o.1.tree (rows_of os) l in
    rw m.tree (merged_mapped (retime event best) (retime_entry event best) o.1.moves n.1.moves o.1.tree (rows_of os) (rows_of ns)
    (all_both {A = Row} (IsRowOf o.0) (λ row. row.entry < event) (λ row. priced_in n.1.moves row ≡ retime event best (priced_in o.1.moves row)) (λ row r x. row_repriced event best o.0 o.1 n.1 row m r x) o.1.tree a.0.rows e.0)
    (rows_repriced event best was before os ns p.2 a.3 e.1))

-- no entry comes in where the trees stay
absent_paired : (R : Key → Group → Group → Type 0) → ((key : Key) → (old new : Group) → R key old new → new.tree ≡ old.tree) → (olds news : List (Key × Group)) (n : ℕ) → PairedBy R olds news → IsAbsent n (rows_of olds) → IsAbsent n (rows_of news)
absent_paired R trees [] [] n p a = tt
absent_paired R trees [] (e ∷ es) n p a = absurd p
absent_paired R trees (o ∷ os) [] n p a = absurd p
absent_paired R trees (o ∷ os) (e ∷ es) n p a =
    let x = merged_each (λ q. q.row.entry ≡ n → ⊥) o.1.moves o.1.tree (rows_of os) a in
    rw (trees o.0 o.1 e.1 p.1) (each_merged (λ q. q.row.entry ≡ n → ⊥) e.1.moves o.1.tree (rows_of es) x.0 (absent_paired R trees os es n p.2 x.1))

keys_paired : (R : Key → Group → Group → Type 0) (P : Key → Type 0) (olds news : List (Key × Group)) → PairedBy R olds news → EachGroup (λ k _. P k) olds → EachGroup (λ k _. P k) news
keys_paired R P [] [] p a = tt
keys_paired R P [] (e ∷ es) p a = absurd p
keys_paired R P (o ∷ os) [] p a = absurd p
keys_paired R P (o ∷ os) (e ∷ es) p a = (subst P (sym p.0) a.0, keys_paired R P os es p.2 a.1)

pub groups_paired : (R : Key → Group → Group → Type 0) (was best : Best) (before event : ℕ) → ((key : Key) → (old new : Group) → R key old new → new.tree ≡ old.tree) → ((key : Key) → (old new : Group) → R key old new → IsGroup was before key old → IsGroup best event key new) → (olds news : List (Key × Group)) → PairedBy R olds news → AreGroups was before olds → AreGroups best event news
groups_paired R was best before event trees f [] [] p a = tt
groups_paired R was best before event trees f [] (e ∷ es) p a = absurd p
groups_paired R was best before event trees f (o ∷ os) [] p a = absurd p
groups_paired R was best before event trees f (o ∷ os) (e ∷ es) p a = (
  subst (λ (k : Key). IsGroup best event k e.1) (sym p.0) (f o.0 o.1 e.1 p.1 a.0),
  rw (trees o.0 o.1 e.1 p.1) (apart_kept o.1.moves e.1.moves o.1.tree (rows_of os) (rows_of es) (λ n x. absent_paired R trees os es n p.2 x) a.1),
  subst (λ (x : Key). EachGroup (λ k _. k ≡ x → ⊥) es) (sym p.0) (keys_paired R (λ k. k ≡ o.0 → ⊥) os es p.2 a.2),
  groups_paired R was best before event trees f os es p.2 a.3,
)

moved_group : (event : ℕ) (best was : Best) (before : ℕ) → before < event → (key : Key) (old new : Group) → IsMoved event best key old new → IsGroup was before key old → IsGroup best event key new
moved_group event best was before less key old new m g = record {
  fits = g.fits;
  current = m.current;
  latest = let e : new.moves.latest ≡ event = m.latest in omega arith;
  changes = λ n. go n (eqb (min old.moves.current n) (min new.moves.current n)) (m.changes n);
  rows = rw m.tree g.rows;
} where
  go : (n : ℕ) (b : Bool) → last_change new.moves n ≡ cond b (last_change old.moves n) event → last_change new.moves n ≤ event
  go n true e = let h : last_change old.moves n ≤ before = g.changes n in omega arith
  go n false e = omega arith

pub groups_repriced : (event : ℕ) (best was : Best) (before : ℕ) (olds news : List (Key × Group)) → before < event → PairedBy (IsMoved event best) olds news → AreGroups was before olds → AreGroups best event news
groups_repriced event best was before olds news less p a = groups_paired (IsMoved event best) was best before event (λ k o n m. m.tree) (λ k o n m g. moved_group event best was before less k o n m g) olds news p a

pub side_repriced : (side : GroupsView) (event : ℕ) (best : Best) (news : List (Key × Group)) → IsGroupSide side → IsLaterThan (groups_state side) event → PairedBy (IsMoved event best) side.entries news → IsGroupSide (record { entries = news; best = best; event = event }) × (rows_of news ≡ reprice event best (rows_of side.entries))
side_repriced side event best news s later p = (
  record { groups = groups_repriced event best side.best side.event side.entries news later.pricing p s.groups },
  rows_repriced event best side.best side.event side.entries news p s.groups (entries_before side.entries event later.times),
)

pub room_for_event : (was : Best) (before event : ℕ) (entries : List (Key × Group)) → AreGroups was before entries → HaveRoom entries → before < event → EachGroup (λ key group. IsKey key × (0 < group.moves.room) × (group.moves.latest < event)) entries
room_for_event was before event [] a r l = tt
room_for_event was before event (e ∷ es) a r l = let h : e.1.moves.latest ≤ before = a.0.latest in ((a.0.fits, r.0, omega arith), room_for_event was before event es a.3 r.1 l)

pub paired_has : (R : Key → Group → Group → Type 0) (key : Key) (m : Staircase) (olds news : List (Key × Group)) → PairedBy R olds news → HasMoves key m olds → HasGroup key news
paired_has R key m [] [] p h = absurd h
paired_has R key m [] (e ∷ es) p h = absurd p
paired_has R key m (o ∷ os) [] p h = absurd p
paired_has R key m (o ∷ os) (e ∷ es) p (inl h) = (e.1.moves, inl (p.0 ∙ h.0, refl))
paired_has R key m (o ∷ os) (e ∷ es) p (inr h) = let x = paired_has R key m os es p.2 h in (x.0, inr x.1)

pub paired_length : (R : Key → Group → Group → Type 0) (olds news : List (Key × Group)) → PairedBy R olds news → length news ≡ length olds
paired_length R [] [] p = refl
paired_length R [] (e ∷ es) p = absurd p
paired_length R (o ∷ os) [] p = absurd p
paired_length R (o ∷ os) (e ∷ es) p = ap suc (paired_length R os es p.2)

abbrev Roomier : Key → Group → Group → Type 0
Roomier _ old new = IsRoomier old new

roomier_rows : (m n : Staircase) (rows : List Row) (others : List Priced) → n ≡ record { current = m.current; latest = m.latest; kept = m.kept; room = n.room } → merged n rows others ≡ merged m rows others
roomier_rows m n [] others e = refl
roomier_rows m n (row ∷ rows) others e =
    let here : priced_in n row ≡ priced_in m row = ap (λ (x : Staircase). priced_in x row) e in
    ap (λ (p : Priced). insert_by_entry p (merged n rows others)) here ∙ ap (λ (all : List Priced). insert_by_entry (priced_in m row) all) (roomier_rows m n rows others e)

pub rows_roomier : (olds news : List (Key × Group)) → PairedBy Roomier olds news → rows_of news ≡ rows_of olds
rows_roomier [] [] p = refl
rows_roomier [] (e ∷ es) p = absurd p
rows_roomier (o ∷ os) [] p = absurd p
rows_roomier (o ∷ os) (e ∷ es) p =
    rw p.1.tree (roomier_rows o.1.moves e.1.moves o.1.tree (rows_of es) p.1.moves ∙ ap (λ (all : List Priced). merged o.1.moves o.1.tree all) (rows_roomier os es p.2))

roomier_group : (best : Best) (event : ℕ) (key : Key) (old new : Group) → IsRoomier old new → IsGroup best event key old → IsGroup best event key new
roomier_group best event key old new r g = record {
  fits = g.fits;
  current = ap (λ (m : Staircase). m.current) r.moves ∙ g.current;
  latest = let e : new.moves.latest ≡ old.moves.latest = ap (λ (m : Staircase). m.latest) r.moves in let h : old.moves.latest ≤ event = g.latest in omega arith;
  changes = λ n. let e : last_change new.moves n ≡ last_change old.moves n = ap (λ (m : Staircase). last_change m n) r.moves in let h : last_change old.moves n ≤ event = g.changes n in omega arith;
  rows = rw r.tree g.rows;
}

pub record HasRoomier (key : Key) (m : Staircase) (news : List (Key × Group)) : Type 0 where
  pub moves : Staircase
  pub has : HasMoves key moves news
  pub current : moves.current ≡ m.current
  pub changes : (n : ℕ) → last_change moves n ≡ last_change m n

has_roomier : (key : Key) (m : Staircase) (olds news : List (Key × Group)) → PairedBy Roomier olds news → HasMoves key m olds → HasRoomier key m news
has_roomier key m [] [] p h = absurd h
has_roomier key m [] (e ∷ es) p h = absurd p
has_roomier key m (o ∷ os) [] p h = absurd p
has_roomier key m (o ∷ os) (e ∷ es) p (inl h) = record {
  moves = e.1.moves;
  has = inl (p.0 ∙ h.0, refl);
  current = ap (λ (x : Staircase). x.current) p.1.moves ∙ ap (λ (x : Staircase). x.current) h.1;
  changes = λ n. ap (λ (x : Staircase). last_change x n) p.1.moves ∙ ap (λ (x : Staircase). last_change x n) h.1;
}
has_roomier key m (o ∷ os) (e ∷ es) p (inr h) =
    let x = has_roomier key m os es p.2 h in
    record { moves = x.moves; has = inr x.has; current = x.current; changes = x.changes }

fits_roomier : (olds news : List (Key × Group)) (standing : Standing) → PairedBy Roomier olds news → FitsGroup olds standing → FitsGroup news standing
fits_roomier olds news standing p f =
    let x = has_roomier standing.key f.moves olds news p f.has in
    record {
      moves = x.moves;
      has = x.has;
      least = f.least;
      value = f.value ∙ ap (λ (n : ℕ). row_value (value_from n) standing.cap) (sym x.current);
      time = f.time ∙ ap (λ (n : ℕ). max standing.entry n) (sym (x.changes standing.cap));
    }

room_roomier : (olds news : List (Key × Group)) → PairedBy Roomier olds news → HaveRoom olds → HaveRoom news
room_roomier [] [] p r = tt
room_roomier [] (e ∷ es) p r = absurd p
room_roomier (o ∷ os) [] p r = absurd p
room_roomier (o ∷ os) (e ∷ es) p r = let h : o.1.moves.room ≤ e.1.moves.room = p.1.room in let k : 0 < o.1.moves.room = r.0 in (omega arith, room_roomier os es p.2 r.1)

-- a group without rows behind the others
rows_last : (es : List (Key × Group)) (key : Key) (group : Group) → group.tree ≡ [] → rows_of (es ++ (key, group) ∷ []) ≡ rows_of es
rows_last [] key group e = rw e refl
rows_last (x ∷ es) key group e = ap (λ (all : List Priced). merged x.1.moves x.1.tree all) (rows_last es key group e)

each_last : (P : Key → Group → Type 0) (es : List (Key × Group)) (key : Key) (group : Group) → EachGroup P es → P key group → EachGroup P (es ++ (key, group) ∷ [])
each_last P [] key group a p = (p, tt)
each_last P (e ∷ es) key group a p = (a.0, each_last P es key group a.1 p)

groups_last : (best : Best) (event : ℕ) (es : List (Key × Group)) (key : Key) (group : Group) → AreGroups best event es → EachGroup (λ k _. k ≡ key → ⊥) es → IsGroup best event key group → group.tree ≡ [] → AreGroups best event (es ++ (key, group) ∷ [])
groups_last best event [] key group a f g e = (g, rw e tt, tt, tt)
groups_last best event (x ∷ es) key group a f g e =
    (a.0, rw (rows_last es key group e) a.1, each_last (λ k _. k ≡ x.0 → ⊥) es key group a.2 (λ h. f.0 (sym h)), groups_last best event es key group a.3 f.1 g e)

has_last_too : (key : Key) (m : Staircase) (es more : List (Key × Group)) → HasMoves key m es → HasMoves key m (es ++ more)
has_last_too key m [] more h = absurd h
has_last_too key m (e ∷ es) more (inl h) = inl h
has_last_too key m (e ∷ es) more (inr h) = inr (has_last_too key m es more h)

fresh_group : (best : Best) (event : ℕ) (key : Key) (group : Group) → IsKey key → IsFresh best key group → IsGroup best event key group
fresh_group best event key group k f = record {
  fits = k;
  current = f.current;
  latest = let e : group.moves.latest ≡ 0 = f.latest in omega arith;
  changes = λ n. let e : last_change group.moves n ≡ 0 = f.changes n in omega arith;
  rows = rw f.tree tt;
}

-- what a reservation leaves
pub record IsReserved (side : GroupsView) (news : List (Key × Group)) : Type 0 where
  pub is : IsGroupSide (record { entries = news; best = side.best; event = side.event })
  pub rows : rows_of news ≡ rows_of side.entries
  pub fits : (standing : Standing) → FitsGroup side.entries standing → FitsGroup news standing
  pub has : (key : Key) → HasGroup key side.entries → HasGroup key news
  pub room : HaveRoom side.entries → HaveRoom news
  pub width : length news ≤ length side.entries + 1

pub side_reserved : (side : GroupsView) (key : Option Key) (news : List (Key × Group)) → IsGroupSide side → ((k : Key) → key ≡ Some k → IsKey k) → ReservesGroups side.best key side.entries news → IsReserved side news
side_reserved side key news s keys r = elim r.grown [
  | inl e ↦ rw e middle
  | inr n ↦
      let g = fresh_group side.best side.event n.0 n.2.group (keys n.0 n.1) n.2.fresh in
      rw n.2.left (record {
        is = record { groups = groups_last side.best side.event r.middle n.0 n.2.group middle.is.groups n.2.is_new g n.2.fresh.tree };
        rows = rows_last r.middle n.0 n.2.group n.2.fresh.tree ∙ middle.rows;
        fits = λ standing f. fits_kept r.middle _ standing (λ m h. has_last_too standing.key m r.middle _ h) (middle.fits standing f);
        has = λ k h. let x = middle.has k h in (x.0, has_last_too k x.0 r.middle _ x.1);
        room = λ h. each_last (λ _ g. 0 < g.moves.room) r.middle n.0 n.2.group (middle.room h) n.2.fresh.room;
        width = omega (arith, length_last r.middle (n.0, n.2.group), paired_length Roomier side.entries r.middle r.roomier);
      })
] where
  length_last : (es : List (Key × Group)) (e : Key × Group) → length (es ++ e ∷ []) ≡ suc (length es)
  length_last [] e = refl
  length_last (x ∷ es) e = ap suc (length_last es e)

  middle : IsReserved side r.middle
  middle = record {
    is = record { groups = groups_paired Roomier side.best side.best side.event side.event (λ k o n m. m.tree) (λ k o n m g. roomier_group side.best side.event k o n m g) side.entries r.middle r.roomier s.groups };
    rows = rows_roomier side.entries r.middle r.roomier;
    fits = λ standing f. fits_roomier side.entries r.middle standing r.roomier f;
    has = λ k h. paired_has Roomier k h.0 side.entries r.middle r.roomier h.1;
    room = λ h. room_roomier side.entries r.middle r.roomier h;
    width = omega (arith, paired_length Roomier side.entries r.middle r.roomier);
  }

-- without the empty groups
no_rows_left : (rows : List Row) → is_empty rows ≡ true → rows ≡ []
no_rows_left [] h = refl
no_rows_left (row ∷ rows) h = cc

pub rows_used : (es : List (Key × Group)) → rows_of (filter has_rows es) ≡ rows_of es
rows_used [] = refl
rows_used (e ∷ es) =
    elim (is_empty e.1.tree) as (λ b. is_empty e.1.tree ≡ b → rows_of (cond (not b) (e ∷ filter has_rows es) (filter has_rows es)) ≡ rows_of (e ∷ es)) [
      | true ↦ λ h. rows_used es ∙ rw (no_rows_left e.1.tree h) refl
      | false ↦ λ h. ap (λ (all : List Priced). merged e.1.moves e.1.tree all) (rows_used es)
    ] refl

pub each_used : (P : Key → Group → Type 0) (es : List (Key × Group)) → EachGroup P es → EachGroup P (filter has_rows es)
each_used P [] a = tt
each_used P (e ∷ es) a =
    elim (has_rows e) as (λ b. EachGroup P (cond b (e ∷ filter has_rows es) (filter has_rows es))) [ true ↦ (a.0, each_used P es a.1) | false ↦ each_used P es a.1 ]

pub groups_used : (best : Best) (event : ℕ) (es : List (Key × Group)) → AreGroups best event es → AreGroups best event (filter has_rows es)
groups_used best event [] a = tt
groups_used best event (e ∷ es) a =
    elim (has_rows e) as (λ b. AreGroups best event (cond b (e ∷ filter has_rows es) (filter has_rows es))) [
      | true ↦ (a.0, rw (rows_used es) a.1, each_used (λ k _. k ≡ e.0 → ⊥) es a.2, groups_used best event es a.3)
      | false ↦ groups_used best event es a.3
    ]

pub length_used : (es : List (Key × Group)) → length (filter has_rows es) ≤ length es
length_used [] = omega arith
length_used (e ∷ es) =
    let h : length (filter has_rows es) ≤ length es = length_used es in
    elim (has_rows e) as (λ b. length (cond b (e ∷ filter has_rows es) (filter has_rows es)) ≤ suc (length es)) [ true ↦ omega arith | false ↦ omega arith ]

pub any_ok : {T E P : Type 0} (r : Rattle.std.specs.declared.result.Result.Result T E) → P → Rattle.std.specs.Result.OnOk r P
any_ok (Ok v) p = p
any_ok (Err v) p = tt

pub any_err : {T E P : Type 0} (r : Rattle.std.specs.declared.result.Result.Result T E) → P → Rattle.std.specs.Result.OnErr r P
any_err (Ok v) p = tt
any_err (Err v) p = p

pub room_grown : (best : Best) (key : Key) (olds news : List (Key × Group)) → HaveRoom olds → (news ≡ olds) ⊎ HasNew best key olds news → HaveRoom news
room_grown best key olds news r (inl e) = rw e r
room_grown best key olds news r (inr n) = rw n.left (each_last (λ _ g. 0 < g.moves.room) olds key n.group r n.fresh.room)

-- no key, no group more
pub reserved_none : (best : Best) (key : Option Key) (olds news : List (Key × Group)) → key ≡ None → ReservesGroups best key olds news → length news ≡ length olds
reserved_none best key olds news none r = elim r.grown [
  | inl e ↦ ap length e ∙ paired_length Roomier olds r.middle r.roomier
  | inr n ↦ absurd (clash key none n.1)
] where
  clash : {k : Key} (o : Option Key) → o ≡ None → o ≡ Some k → ⊥
  clash None h e = cc
  clash (Some x) h e = cc
