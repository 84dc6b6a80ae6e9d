-- A row is looked up, taken out, or gets other leaves.
use Rattle.std.proofs.Common.{◌≡◌, ℕ, ◌<◌, true, false, cond, eqb, List, [], ◌∷◌, ◌++◌, map, Option, Some, None, refl, ap, sym, ◌∙◌, subst, arith, append-nil}
use Rattle.std.specs.Prelude.{MatchOption, IsNone, not}
use Rattle.std.specs.List.{AllByRecursion}
use Rattle.std.specs.declared.alloc.Global.{Global}
use Rattle.std.specs.declared.boxed.Box.{Box}
use Rattle.std.proofs.lemmas.Bool.{eqb-true, ne_eqb, le-ltb, lt-ltb}
use Rattle.limit_tree.specs.Part.{Part}
use Rattle.venue_words.specs.declared.row.Key.{Key}
use Rattle.venue_words.specs.declared.row.Row.{Row}
use Rattle.venue_words.specs.declared.row.Priced.{Priced}
use Rattle.venue_words.specs.ListLaws.{all_weaken}
use Rattle.venue_words.specs.Rows.{IsByEntry, IsAbsent, insert_by_entry, row_by_entry, without_entry}
use Rattle.eager_meaning.specs.Changing.{without, with_leaves}
use Rattle.eager_meaning.specs.Matching.{unfilled}
use Rattle.peg_groups.specs.ByEntry.{later_found, insert_first, absent_without}
use Rattle.peg_groups.specs.Side.{SideState, IsRowAt, IsHeldAt, NoneAt, IsCut, with_row}

pub all_found : (P : Priced → Type 0) (entry : ℕ) (rows : List Priced) (x : Priced) → AllByRecursion P rows → row_by_entry entry rows ≡ Some x → P x
all_found P entry [] x a h = cc
all_found P entry (y ∷ rows) x a h =
    (elim (eqb y.row.entry entry) as (λ b. cond b (Some y) (row_by_entry entry rows) ≡ Some x → P x) [
      | true ↦ λ k. let same : y ≡ x = cc in subst P same a.0
      | false ↦ λ k. all_found P entry rows x a.1 k
    ]) h

-- a held row isn't missing
pub held_is_there : {A : Type 0} (key : Key) (cap entry : ℕ) (rows : List Priced) → ((x : Priced) × IsHeldAt key cap entry rows x) → NoneAt key cap entry rows → A
held_is_there key cap entry rows h none = absurd (all_found (λ row. IsRowAt key cap entry row → ⊥) entry rows h.0 none h.1.held h.1.placed)

pub without_absent : (entry : ℕ) (rows : List Priced) → IsAbsent entry rows → without entry rows ≡ rows
without_absent entry [] a = refl
without_absent entry (x ∷ rows) a = rw (ne_eqb x.row.entry entry a.0) (ap (λ (others : List Priced). x ∷ others) (without_absent entry rows a.1))

later_absent : (x : Priced) (entry : ℕ) (rows : List Priced) → x.row.entry ≡ entry → AllByRecursion (λ later. x.row.entry < later.row.entry) rows → IsAbsent entry rows
later_absent x entry rows same a = all_weaken (λ later. x.row.entry < later.row.entry) (λ later. later.row.entry ≡ entry → ⊥) (λ later h k. omega (arith, same, h, k)) rows a

-- where no entry stands twice, one row is left out
pub without_is : (entry : ℕ) (rows : List Priced) → IsByEntry rows → without entry rows ≡ without_entry entry rows
without_is entry [] o = refl
without_is entry (x ∷ rows) o =
    elim (eqb x.row.entry entry) as (λ b. eqb x.row.entry entry ≡ b → cond (not b) (x ∷ without entry rows) (without entry rows) ≡ cond b rows (x ∷ without_entry entry rows)) [
      | true ↦ λ e. without_absent entry rows (later_absent x entry rows (eqb-true x.row.entry entry e) o.0)
      | false ↦ λ e. ap (λ (others : List Priced). x ∷ others) (without_is entry rows o.1)
    ] refl

pub cut_out : (key : Key) (cap entry : ℕ) (old new : SideState) (r : Option (Box Part Global)) → ((x : Priced) × IsHeldAt key cap entry old.rows x) → IsByEntry old.rows → MatchOption r (new ≡ old) (λ node. IsCut key cap entry old new node.value.row) → (IsNone r → NoneAt key cap entry old.rows) → new.rows ≡ without entry old.rows
cut_out key cap entry old new None held o found none = held_is_there key cap entry old.rows held (none refl)
cut_out key cap entry old new (Some node) held o found none = ap (λ (s : SideState). s.rows) found.left ∙ sym (without_is entry old.rows o)

abbrev lowered : ℕ → Priced → Priced
lowered leaves x = record x { row = record x.row { leaves = leaves } }

pub leaves_absent : (entry leaves : ℕ) (rows : List Priced) → IsAbsent entry rows → map (with_leaves entry leaves) rows ≡ rows
leaves_absent entry leaves [] a = refl
leaves_absent entry leaves (x ∷ rows) a = rw (ne_eqb x.row.entry entry a.0) (ap (λ (others : List Priced). x ∷ others) (leaves_absent entry leaves rows a.1))

lowered_is : (entry leaves : ℕ) (rows : List Priced) (x : Priced) → IsByEntry rows → row_by_entry entry rows ≡ Some x → insert_by_entry (lowered leaves x) (without_entry entry rows) ≡ map (with_leaves entry leaves) rows
lowered_is entry leaves [] x o h = cc
lowered_is entry leaves (y ∷ rows) x o h =
    (elim (eqb y.row.entry entry) as (λ b. eqb y.row.entry entry ≡ b → cond b (Some y) (row_by_entry entry rows) ≡ Some x → insert_by_entry (lowered leaves x) (cond b rows (y ∷ without_entry entry rows)) ≡ cond b (lowered leaves y) y ∷ map (with_leaves entry leaves) rows) [
      | true ↦ λ e k.
          let same : y ≡ x = cc in
          let rest = leaves_absent entry leaves rows (later_absent y entry rows (eqb-true y.row.entry entry e) o.0) in
          subst (λ (z : Priced). insert_by_entry (lowered leaves z) rows ≡ lowered leaves y ∷ map (with_leaves entry leaves) rows) same
          (insert_first (lowered leaves y) rows o.0 ∙ ap (λ (others : List Priced). lowered leaves y ∷ others) (sym rest))
      | false ↦ λ e k.
          let later : y.row.entry < x.row.entry = later_found y.row.entry entry rows x o.0 k in
          rw (le-ltb x.row.entry y.row.entry (omega (arith, later))) (ap (λ (others : List Priced). y ∷ others) (lowered_is entry leaves rows x o.1 k))
    ] refl) h

some_same : {x y : Priced} {o : Option Priced} → o ≡ Some x → o ≡ Some y → x ≡ y
some_same h k = let e = sym h ∙ k in cc

-- a row that was taken out can be put back with other leaves
pub absent_out : (key : Key) (cap entry leaves : ℕ) (old mid : SideState) (row after : Row) → IsByEntry old.rows → IsCut key cap entry old mid row → after ≡ record row { leaves = leaves } → IsAbsent after.entry mid.rows
absent_out key cap entry leaves old mid row after o cut e =
    let same : after.entry ≡ entry = ap (λ (r : Row). r.entry) e ∙ ap (λ (r : Row). r.entry) (sym cut.is) ∙ cut.held.placed.entry_is in
    subst (λ (n : ℕ). IsAbsent n mid.rows) (sym same) (subst (λ (s : SideState). IsAbsent entry s.rows) (sym cut.left) (absent_without entry old.rows o))

pub lower_out : (key : Key) (cap entry leaves : ℕ) (old mid new : SideState) (x : Priced) (value : Option ℕ) (time : ℕ) (row after : Row) → IsByEntry old.rows → IsHeldAt key cap entry old.rows x → IsCut key cap entry old mid row → after ≡ record row { leaves = leaves } → x.value ≡ value → x.time ≡ time → new ≡ with_row (record { row = after; value = value; time = time }) mid → new.rows ≡ map (with_leaves entry leaves) old.rows
lower_out key cap entry leaves old mid new x value time row after o held cut is v t e =
    let same : cut.taken ≡ x = some_same cut.held.held held.held in
    let row_is : after ≡ record x.row { leaves = leaves } = is ∙ ap (λ (r : Row). record r { leaves = leaves }) (sym cut.is ∙ ap (λ (z : Priced). z.row) same) in
    let y_is : ◌≡◌ {A = Priced} (record { row = after; value = value; time = time }) (lowered leaves x) = λ i. record { row = row_is i; value = (sym v) i; time = (sym t) i } in
    ap (λ (s : SideState). s.rows) e
    ∙ ap (λ (z : Priced). insert_by_entry z mid.rows) y_is
    ∙ ap (λ (s : SideState). insert_by_entry (lowered leaves x) s.rows) cut.left
    ∙ lowered_is entry leaves old.rows x o held.held

-- ---- a row that enters stands last

insert_last : (x : Priced) (rows : List Priced) → AllByRecursion (λ y. y.row.entry < x.row.entry) rows → insert_by_entry x rows ≡ rows ++ x ∷ []
insert_last x [] a = refl
insert_last x (y ∷ rows) a = rw (le-ltb x.row.entry y.row.entry (omega (arith, a.0))) (ap (λ (others : List Priced). y ∷ others) (insert_last x rows a.1))

pub left_none : (x : Priced) (rows : List Priced) → x.row.leaves ≡ 0 → rows ≡ rows ++ unfilled (x ∷ [])
left_none x rows e = rw (le-ltb 0 x.row.leaves (omega (arith, e))) (sym (append-nil rows))

pub left_some : (x : Priced) (rows : List Priced) → (x.row.leaves ≡ 0 → ⊥) → AllByRecursion (λ y. y.row.entry < x.row.entry) rows → insert_by_entry x rows ≡ rows ++ unfilled (x ∷ [])
left_some x rows h a = rw (lt-ltb 0 x.row.leaves (omega (arith, h))) (insert_last x rows a)
