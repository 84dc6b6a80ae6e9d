-- A side of groups when a row enters or leaves it.
use Rattle.std.proofs.Common.{◌≡◌, ℕ, zero, suc, ◌<◌, ◌≤◌, min, max, false, List, [], ◌∷◌, length, Option, Some, None, refl, ap, sym, ◌∙◌, subst, arith, inl, inr, slice_get, ◌^◌}
use Rattle.std.proofs.lemmas.Bool.{ne_eqb}
use Rattle.indexmap.specs.IndexMap.{set_value_at}
use Rattle.venue_words.specs.Peg.{row_value, peg_value, value_under}
use Rattle.peg_groups.specs.Side.{priced_at, IsLaterThan, IsRowAt, IsHeldAt, NoneAt, standing_of}
use Rattle.venue_words.specs.Priority.{is_ahead_if_active}
use Rattle.venue_words.specs.declared.price.Best.{Best}
use Rattle.venue_words.specs.declared.row.Key.{Key}
use Rattle.venue_words.specs.declared.row.Row.{Row}
use Rattle.venue_words.specs.declared.row.Priced.{Priced}
use Rattle.std.specs.List.{AllByRecursion}
use Rattle.venue_words.specs.ListLaws.{all_both, all_weaken}
use Rattle.limit_tree.specs.Order.{row_at}
use Rattle.move_history.specs.Staircase.{Staircase, last_change}
use Rattle.venue_words.specs.Rows.{IsAbsent, insert_by_entry, row_by_entry, without_entry}
use Rattle.venue_words.specs.FirstRow.{IsFirst, NoneActive}
use Rattle.peg_groups.specs.Group.{priced_in, time_in, value_from}
use Rattle.peg_groups.specs.Groups.{rows_of, EachGroup, IsRowOf, IsGroup, AreGroups, IsGroupSide, GroupsView, groups_state, HasMoves, FitsGroup, KeepsMoves, with_rows, NoneIn, EntersGroup, LeavesGroup, PricesRow, TakesFirst, NoneBefore, NoneActiveIn}
use Rattle.peg_groups.specs.declared.group.Group.{Group}
use Rattle.peg_groups.specs.declared.group.Candidate.{Candidate}
use Rattle.peg_groups.proofs.Merged.{each_merged}
use Rattle.peg_groups.proofs.GroupSteps.{there, each_set, groups_map, group_in, rows_put, groups_put, rows_cut, groups_cut, row_of_cut, has_set, has_found, only_moves, fits_kept}
use Rattle.peg_groups.proofs.Pairs.{held_of, held_row, row_at_is, row_at_all, no_row_at}
use Rattle.peg_groups.proofs.Positive.{peg_number}

length_set : (entries : List (Key × Group)) (i : ℕ) (new : Group) → length (set_value_at entries i new) ≡ length entries
length_set [] i new = refl
length_set (e ∷ es) zero new = refl
length_set (e ∷ es) (suc i) new = ap suc (length_set es i new)

pub keeps_set : (entries : List (Key × Group)) (i : ℕ) (key : Key) (group : Group) (rows : List Row) → slice_get entries i ≡ Some (key, group) → KeepsMoves entries (set_value_at entries i (with_rows group rows))
keeps_set entries i key group rows h =
    let same : (k : Key) → (g : Group) → slice_get entries i ≡ Some (k, g) → group.moves ≡ g.moves = λ k g e. ap (λ (x : Group). x.moves) (sym (there (k, g) (sym e ∙ h)).group_is) in
    record {
      len = length_set entries i _;
      fits = λ standing f. fits_kept entries _ standing (λ m has. has_set standing.key m entries i (with_rows group rows) same has) f;
      rows = λ k has. (has.0, has_set k has.0 entries i (with_rows group rows) same has.1);
      room = λ r. each_set (λ _ g. 0 < g.moves.room) entries i (with_rows group rows) (λ k g e p. rw (same k g e) p) r;
    }

pub keeps_same : (entries : List (Key × Group)) → KeepsMoves entries entries
keeps_same entries = record { len = refl; fits = λ s f. f; rows = λ k h. h; room = λ r. r }

pub keeps_enter : (key : Key) (row : Row) (old new : List (Key × Group)) → EntersGroup key row old new → KeepsMoves old new
keeps_enter key row old new e = rw e.left (keeps_set old e.i key e.group _ e.at)

pub keeps_leave : (key : Key) (cap entry : ℕ) (row : Row) (old new : List (Key × Group)) → LeavesGroup key cap entry row old new → KeepsMoves old new
keeps_leave key cap entry row old new e = rw e.left (keeps_set old e.i key e.group _ e.at)

-- no row is older than its entry
early : (m : Staircase) (rows : List Row) → AllByRecursion (λ row. row.entry ≤ time_in m row.cap row.entry) rows
early m [] = tt
early m (row ∷ rows) = (omega arith, early m rows)

pub early_rows : (entries : List (Key × Group)) → AllByRecursion (λ p. p.row.entry ≤ p.time) (rows_of entries)
early_rows [] = tt
early_rows (e ∷ es) = each_merged (λ p. p.row.entry ≤ p.time) e.1.moves e.1.tree (rows_of es) (early e.1.moves e.1.tree) (early_rows es)

pub absent_later : (entries : List (Key × Group)) (n : ℕ) → AllByRecursion (λ p. p.time < n) (rows_of entries) → IsAbsent n (rows_of entries)
absent_later entries n a = all_both {A = Priced} (λ p. p.time < n) (λ p. p.row.entry ≤ p.time) (λ p. p.row.entry ≡ n → ⊥) (λ p x y z. omega arith) (rows_of entries) a (early_rows entries)

pub entries_before : (entries : List (Key × Group)) (n : ℕ) → AllByRecursion (λ p. p.time < n) (rows_of entries) → AllByRecursion (λ p. p.row.entry < n) (rows_of entries)
entries_before entries n a = all_both {A = Priced} (λ p. p.time < n) (λ p. p.row.entry ≤ p.time) (λ p. p.row.entry < n) (λ p x y. omega arith) (rows_of entries) a (early_rows entries)

-- a row that enters is priced as the quote says, with its entry as time
entered_is : (best : Best) (event : ℕ) (key : Key) (group : Group) (row : Row) → IsGroup best event key group → row.key ≡ key → event < row.entry → priced_in group.moves row ≡ priced_at best row
unfolding value_under
entered_is best event key group row g same later =
    let value : row_value (value_from group.moves.current) row.cap ≡ row_value (peg_value row.key best) row.cap = ap (λ (o : Option ℕ). row_value o row.cap) (ap value_from g.current ∙ peg_number key best ∙ ap (λ (k : Key). peg_value k best) (sym same)) in
    let low : last_change group.moves row.cap ≤ event = g.changes row.cap in
    let time : max row.entry (last_change group.moves row.cap) ≡ row.entry = omega arith in
    λ i. record { row = row; value = value i; time = time i }

pub side_enters : (side : GroupsView) (key : Key) (row : Row) (p : Priced) (new : List (Key × Group)) → IsGroupSide side → EntersGroup key row side.entries new → IsAbsent row.entry (rows_of side.entries) → IsRowOf key row → ((group : Group) → HasMoves key group.moves side.entries → IsGroup side.best side.event key group → priced_in group.moves row ≡ p) → IsGroupSide (record { entries = new; best = side.best; event = side.event }) × (rows_of new ≡ insert_by_entry p (rows_of side.entries))
side_enters side key row p new s e absent is f =
    let put : rows_of new ≡ insert_by_entry (priced_in e.group.moves row) (rows_of side.entries) = ap rows_of e.left ∙ rows_put side.best side.event side.entries e.i key e.group row s.groups e.at absent in (
      record { groups = rw e.left (groups_put side.best side.event side.entries e.i key e.group row s.groups e.at absent is) },
      put ∙ ap (λ (q : Priced). insert_by_entry q (rows_of side.entries)) (f e.group (has_found key side.entries e.i e.group e.at) (group_in side.best side.event side.entries e.i key e.group s.groups e.at)),
    )

pub side_put : (side : GroupsView) (row : Row) (new : List (Key × Group)) → IsGroupSide side → EntersGroup row.key row side.entries new → IsLaterThan (groups_state side) row.entry → 1 ≤ row.cap → row.entry < 2 ^ 32 → IsGroupSide (record { entries = new; best = side.best; event = side.event }) × (rows_of new ≡ insert_by_entry (priced_at side.best row) (rows_of side.entries))
side_put side row new s e later least small =
    side_enters side row.key row (priced_at side.best row) new s e (absent_later side.entries row.entry later.times) (record { key_is = refl; least = least; small = small }) (λ group has g. entered_is side.best side.event row.key group row g refl later.pricing)

back_is : (entries : List (Key × Group)) (p : Priced) (group : Group) (best : Best) (event : ℕ) → FitsGroup entries (standing_of p) → ((m : Staircase) → HasMoves p.row.key m entries → group.moves ≡ m) → priced_in group.moves p.row ≡ p
back_is entries p group best event f only =
    let e : group.moves ≡ f.moves = only f.moves f.has in
    rw e (λ i. record { row = p.row; value = sym f.value i; time = sym f.time i })

pub side_back : (side : GroupsView) (p : Priced) (new : List (Key × Group)) → IsGroupSide side → EntersGroup p.row.key p.row side.entries new → IsAbsent p.row.entry (rows_of side.entries) → FitsGroup side.entries (standing_of p) → p.row.entry < 2 ^ 32 → IsGroupSide (record { entries = new; best = side.best; event = side.event }) × (rows_of new ≡ insert_by_entry p (rows_of side.entries))
side_back side p new s e absent f small =
    let put : rows_of new ≡ insert_by_entry (priced_in e.group.moves p.row) (rows_of side.entries) = ap rows_of e.left ∙ rows_put side.best side.event side.entries e.i p.row.key e.group p.row s.groups e.at absent in (
      record { groups = rw e.left (groups_put side.best side.event side.entries e.i p.row.key e.group p.row s.groups e.at absent (record { key_is = refl; least = f.least; small = small })) },
      put ∙ ap (λ (q : Priced). insert_by_entry q (rows_of side.entries)) (back_is side.entries p e.group side.best side.event f (λ m has. only_moves side.best side.event p.row.key m side.entries e.i e.group s.groups has e.at)),
    )

-- a row that leaves
pub side_leaves : (side : GroupsView) (key : Key) (cap entry : ℕ) (row : Row) (new : List (Key × Group)) → IsGroupSide side → LeavesGroup key cap entry row side.entries new → IsGroupSide (record { entries = new; best = side.best; event = side.event }) × (rows_of new ≡ without_entry entry (rows_of side.entries))
side_leaves side key cap entry row new s e =
    let held = held_of cap entry e.group.tree row e.row_is in (
      record { groups = rw e.left (groups_cut side.best side.event side.entries e.i key e.group cap entry s.groups e.at held) },
      ap rows_of e.left ∙ rows_cut side.best side.event side.entries e.i key e.group cap entry s.groups e.at held,
    )

pub record IsPricedBy (side : GroupsView) (key : Key) (cap entry : ℕ) (row : Row) (m : Staircase) : Type 0 where
  pub held : row_by_entry entry (rows_of side.entries) ≡ Some (priced_in m row)
  pub placed : IsRowAt key cap entry (priced_in m row)
  pub least : 1 ≤ row.cap

pub leaving_row : (side : GroupsView) (key : Key) (cap entry : ℕ) (row : Row) (i : ℕ) (group : Group) → IsGroupSide side → slice_get side.entries i ≡ Some (key, group) → row_at cap entry group.tree ≡ Some row → IsPricedBy side key cap entry row group.moves
leaving_row side key cap entry row i group s at is =
    let held = held_of cap entry group.tree row is in
    let g = group_in side.best side.event side.entries i key group s.groups at in
    let r = row_at_all (IsRowOf key) cap entry group.tree row g.rows is in
    let a = row_at_is cap entry group.tree row is in
    record {
      held = row_of_cut side.best side.event side.entries i key group cap entry row s.groups at held is;
      placed = record { key_is = r.key_is; cap_is = a.cap_is; entry_is = a.entry_is };
      least = r.least;
    }

-- what left fits
pub left_fits : (side : GroupsView) (key : Key) (cap entry : ℕ) (row : Row) (new : List (Key × Group)) → IsGroupSide side → (e : LeavesGroup key cap entry row side.entries new) → (p : Priced) → IsHeldAt key cap entry (rows_of side.entries) p → FitsGroup new (standing_of p)
left_fits side key cap entry row new s e p h =
    let r = leaving_row side key cap entry row e.i e.group s e.at e.row_is in
    let same : p ≡ priced_in e.group.moves row = some_priced (sym h.held ∙ r.held) in
    let has : HasMoves row.key e.group.moves side.entries = subst (λ (k : Key). HasMoves k e.group.moves side.entries) (sym r.placed.key_is) (has_found key side.entries e.i e.group e.at) in
    (keeps_leave key cap entry row side.entries new e).fits (standing_of p)
    (rw same (record { moves = e.group.moves; has = has; least = r.least; value = refl; time = refl })) where
      some_priced : {x y : Priced} → Some x ≡ Some y → x ≡ y
      some_priced k = cc

-- no row stands there
pub other_keys : (best : Best) (event : ℕ) (key : Key) (entries : List (Key × Group)) → AreGroups best event entries → EachGroup (λ k _. k ≡ key → ⊥) entries → AllByRecursion (λ p. p.row.key ≡ key → ⊥) (rows_of entries)
other_keys best event key [] a f = tt
other_keys best event key (e ∷ es) a f =
    each_merged (λ p. p.row.key ≡ key → ⊥) e.1.moves e.1.tree (rows_of es) (all_weaken {A = Row} (IsRowOf e.0) (λ row. row.key ≡ key → ⊥) (λ row r x. f.0 (sym r.key_is ∙ x)) e.1.tree a.0.rows) (other_keys best event key es a.3 f.1)

no_placed : (best : Best) (event : ℕ) (key : Key) (cap entry : ℕ) (entries : List (Key × Group)) (i : ℕ) (group : Group) → AreGroups best event entries → slice_get entries i ≡ Some (key, group) → row_at cap entry group.tree ≡ None → NoneAt key cap entry (rows_of entries)
no_placed best event key cap entry [] i group a h n = tt
no_placed best event key cap entry (e ∷ es) zero group a h n =
    let t = there e h in
    each_merged (λ p. IsRowAt key cap entry p → ⊥) e.1.moves e.1.tree (rows_of es)
    (all_weaken {A = Row} (λ row. row.cap ≡ cap → row.entry ≡ entry → ⊥) (λ row. IsRowAt key cap entry (priced_in e.1.moves row) → ⊥) (λ row f x. f x.cap_is x.entry_is) e.1.tree (no_row_at cap entry e.1.tree (rw (← t.group_is) at n)))
    (all_weaken {A = Priced} (λ p. p.row.key ≡ key → ⊥) (λ p. IsRowAt key cap entry p → ⊥) (λ p f x. f x.key_is) (rows_of es) (other_keys best event key es a.3 (groups_map (λ k _. k ≡ e.0 → ⊥) (λ k _. k ≡ key → ⊥) (λ k g f x. f (x ∙ sym t.key_is)) es a.2)))
no_placed best event key cap entry (e ∷ es) (suc i) group a h n =
    each_merged (λ p. IsRowAt key cap entry p → ⊥) e.1.moves e.1.tree (rows_of es)
    (all_weaken {A = Row} (IsRowOf e.0) (λ row. IsRowAt key cap entry (priced_in e.1.moves row) → ⊥) (λ row r x. differs (sym r.key_is ∙ x.key_is)) e.1.tree a.0.rows)
    (no_placed best event key cap entry es i group a.3 h n) where
      at_differs : (x : Key) (others : List (Key × Group)) (j : ℕ) → EachGroup (λ k _. k ≡ x → ⊥) others → slice_get others j ≡ Some (key, group) → x ≡ key → ⊥
      at_differs x [] j f k y = cc
      at_differs x (o ∷ os) zero f k y = f.0 ((there o k).key_is ∙ sym y)
      at_differs x (o ∷ os) (suc j) f k y = at_differs x os j f.1 k y

      differs : e.0 ≡ key → ⊥
      differs y = at_differs e.0 es i a.2 h y

pub none_placed : (side : GroupsView) (key : Key) (cap entry : ℕ) → IsGroupSide side → NoneIn key cap entry side.entries → NoneAt key cap entry (rows_of side.entries)
none_placed side key cap entry s (inl f) = all_weaken {A = Priced} (λ p. p.row.key ≡ key → ⊥) (λ p. IsRowAt key cap entry p → ⊥) (λ p f x. f x.key_is) (rows_of side.entries) (other_keys side.best side.event key side.entries s.groups f)
none_placed side key cap entry s (inr n) = no_placed side.best side.event key cap entry side.entries n.0 n.1 s.groups n.2 n.3

-- the value and time of a held row
pub priced_row : (side : GroupsView) (key : Key) (cap entry : ℕ) (value : Option ℕ) (time : ℕ) → IsGroupSide side → PricesRow key cap entry side.entries value time → (p : Priced) × IsHeldAt key cap entry (rows_of side.entries) p × (p.value ≡ value) × (p.time ≡ time)
priced_row side key cap entry value time s r =
    let found = held_row cap entry r.group.tree r.held in
    let l = leaving_row side key cap entry found.0 r.i r.group s r.at found.1 in
    (priced_in r.group.moves found.0, record { held = l.held; placed = l.placed }, ap (λ (n : ℕ). row_value (value_from r.group.moves.current) n) l.placed.cap_is ∙ sym r.value_is, rw (l.placed.cap_is, l.placed.entry_is) (sym r.time_is))

-- no row is active
pub none_active : (entries : List (Key × Group)) → EachGroup NoneActiveIn entries → NoneActive (rows_of entries)
none_active [] a = tt
none_active (e ∷ es) a = each_merged (λ p. p.value ≡ None) e.1.moves e.1.tree (rows_of es) a.0 (none_active es a.1)

none_before : (best : Candidate) (entries : List (Key × Group)) → EachGroup (NoneBefore best) entries → AllByRecursion (λ p. is_ahead_if_active p.value p.time p.row.entry (Some best.value) best.time best.entry ≡ false) (rows_of entries)
none_before best [] a = tt
none_before best (e ∷ es) a = each_merged (λ p. is_ahead_if_active p.value p.time p.row.entry (Some best.value) best.time best.entry ≡ false) e.1.moves e.1.tree (rows_of es) a.0 (none_before best es a.1)

-- the row that was taken as the first one
pub record IsTakenFirst (side : GroupsView) (row : Row) (best : Candidate) (new : List (Key × Group)) : Type 0 where
  pub best_is : IsFirst (rows_of side.entries) (record { row = row; value = Some best.value; time = best.time })
  pub entry_is : row.entry ≡ best.entry
  pub fits : FitsGroup new (standing_of (record { row = row; value = Some best.value; time = best.time }))

pub first_taken : (side : GroupsView) (row : Row) (best : Candidate) (new : List (Key × Group)) → IsGroupSide side → TakesFirst row best side.entries new → IsTakenFirst side row best new
first_taken side row best new s t =
    let e = t.leaves in
    let l = leaving_row side t.key best.cap best.entry row e.i e.group s e.at e.row_is in
    let least : 1 ≤ row.cap = l.least in
    let cap : row.cap ≡ best.cap = l.placed.cap_is in
    let entry : row.entry ≡ best.entry = l.placed.entry_is in
    let value_is : best.value ≡ min e.group.moves.current best.cap = t.value_is in
    let active : 0 < e.group.moves.current = t.active in
    let own : row_value (value_from e.group.moves.current) row.cap ≡ Some best.value = rw (ne_eqb e.group.moves.current 0 (omega arith)) (ap Some (ap (λ (n : ℕ). min e.group.moves.current n) cap ∙ sym value_is)) in
    let time : time_in e.group.moves row.cap row.entry ≡ best.time = rw (cap, entry) (sym t.time_is) in
    let same : priced_in e.group.moves row ≡ record { row = row; value = Some best.value; time = best.time } = λ i. record { row = row; value = own i; time = time i } in
    let held : row_by_entry best.entry (rows_of side.entries) ≡ Some (record { row = row; value = Some best.value; time = best.time }) = l.held ∙ ap Some same in
    record {
      best_is = record {
        active = (best.value, refl);
        held = subst (λ (n : ℕ). row_by_entry n (rows_of side.entries) ≡ Some (record { row = row; value = Some best.value; time = best.time })) (sym entry) held;
        first = rw entry (none_before best side.entries t.first);
      };
      entry_is = entry;
      fits = left_fits side t.key best.cap best.entry row new s e (record { row = row; value = Some best.value; time = best.time }) (record { held = held; placed = record { key_is = l.placed.key_is; cap_is = cap; entry_is = entry } });
    }
