-- How the number of keys changes where a row enters, and what it is for groups of keys.
use Rattle.std.proofs.Common.{◌≡◌, ℕ, ◌+◌, Bool, true, false, not, cond, ltb, ◌||◌, List, [], ◌∷◌, length, filter, refl, ap, sym, ◌∙◌, subst, arith}
use Rattle.std.specs.List.{AllByRecursion}
use Rattle.venue_words.specs.Key.{same_key}
use Rattle.venue_words.specs.KeyLaws.{same_key-equal, same_key-self}
use Rattle.venue_words.specs.declared.price.Best.{Best}
use Rattle.venue_words.specs.declared.row.Key.{Key}
use Rattle.venue_words.specs.declared.row.Priced.{Priced}
use Rattle.venue_words.specs.declared.row.Row.{Row}
use Rattle.venue_words.specs.Rows.{insert_by_entry}
use Rattle.limit_tree.specs.Order.{is_empty}
use Rattle.move_history.specs.Staircase.{Staircase}
use Rattle.peg_groups.specs.Group.{priced_in}
use Rattle.peg_groups.specs.Groups.{merged, rows_of, IsRowOf, AreGroups, has_rows}
use Rattle.peg_groups.specs.KeyCount.{has_key, key_count}
use Rattle.peg_groups.specs.declared.group.Group.{Group}
use Rattle.peg_groups.proofs.SideSteps.{other_keys}

both_tests : (x y : Bool) → (x ≡ true → y ≡ true) → (y ≡ true → x ≡ true) → x ≡ y
both_tests true y f g = sym (f refl)
both_tests false true f g = g refl
both_tests false false f g = refl

-- the test of two keys is the same in either order
same_turned : (a b : Key) → same_key a b ≡ same_key b a
same_turned a b = both_tests (same_key a b) (same_key b a) (λ e. subst (λ (k : Key). same_key k a ≡ true) (same_key-equal a b e) (same_key-self a)) (λ e. subst (λ (k : Key). same_key k b ≡ true) (same_key-equal b a e) (same_key-self b))

or_turned : (a b c : Bool) → (a || (b || c)) ≡ (b || (a || c))
or_turned true true c = refl
or_turned true false c = refl
or_turned false true c = refl
or_turned false false c = refl

pub has_insert : (key : Key) (p : Priced) (rows : List Priced) → has_key key (insert_by_entry p rows) ≡ (same_key key p.row.key || has_key key rows)
has_insert key p [] = refl
has_insert key p (f ∷ rows) =
    elim (ltb p.row.entry f.row.entry) as (λ v. has_key key (cond v (p ∷ f ∷ rows) (f ∷ insert_by_entry p rows)) ≡ (same_key key p.row.key || (same_key key f.row.key || has_key key rows))) [
      | true ↦ refl
      | false ↦ ap (λ (b : Bool). same_key key f.row.key || b) (has_insert key p rows) ∙ or_turned (same_key key f.row.key) (same_key key p.row.key) (has_key key rows)
    ]

-- a row's key counts where it is new, whichever of two rows came first
count_two : (s a b : Bool) (n : ℕ) → (s ≡ true → a ≡ b) → cond (s || a) (cond b n (1 + n)) (1 + cond b n (1 + n)) ≡ cond (s || b) (cond a n (1 + n)) (1 + cond a n (1 + n))
count_two true a b n same = rw (same refl) refl
count_two false true true n same = refl
count_two false true false n same = refl
count_two false false true n same = refl
count_two false false false n same = refl

pub count_insert : (p : Priced) (rows : List Priced) → key_count (insert_by_entry p rows) ≡ cond (has_key p.row.key rows) (key_count rows) (1 + key_count rows)
count_insert p [] = refl
count_insert p (f ∷ rows) =
    elim (ltb p.row.entry f.row.entry) as (λ v. key_count (cond v (p ∷ f ∷ rows) (f ∷ insert_by_entry p rows)) ≡ cond (has_key p.row.key (f ∷ rows)) (key_count (f ∷ rows)) (1 + key_count (f ∷ rows))) [
      | true ↦ refl
      | false ↦
          let count = count_insert p rows in
          let has = has_insert f.row.key p rows in
          let turned : same_key f.row.key p.row.key ≡ same_key p.row.key f.row.key = same_turned f.row.key p.row.key in
          let alike : same_key p.row.key f.row.key ≡ true → has_key f.row.key rows ≡ has_key p.row.key rows = λ e. ap (λ (k : Key). has_key k rows) (sym (same_key-equal p.row.key f.row.key e)) in
          ap (λ (n : ℕ). cond (has_key f.row.key (insert_by_entry p rows)) n (1 + n)) count
          ∙ ap (λ (b : Bool). cond b (cond (has_key p.row.key rows) (key_count rows) (1 + key_count rows)) (1 + cond (has_key p.row.key rows) (key_count rows) (1 + key_count rows))) (has ∙ ap (λ (b : Bool). b || has_key f.row.key rows) turned)
          ∙ count_two (same_key p.row.key f.row.key) (has_key f.row.key rows) (has_key p.row.key rows) (key_count rows) alike
    ]

-- no row has the key
none_has : (key : Key) (rows : List Priced) → AllByRecursion (λ p. p.row.key ≡ key → ⊥) rows → has_key key rows ≡ false
none_has key [] a = refl
none_has key (p ∷ rows) a =
    (elim (same_key key p.row.key) as (λ b. same_key key p.row.key ≡ b → (b || has_key key rows) ≡ false) [
      | true ↦ λ e. absurd (a.0 (sym (same_key-equal key p.row.key e)))
      | false ↦ λ e. none_has key rows a.1
    ]) refl

-- the rows of one key among rows of other ones
merged_has : (key : Key) (m : Staircase) (row : Row) (rows : List Row) (others : List Priced) → row.key ≡ key → has_key key (merged m (row ∷ rows) others) ≡ true
merged_has key m row rows others same =
    has_insert key (priced_in m row) (merged m rows others)
    ∙ ap (λ (b : Bool). b || has_key key (merged m rows others)) (subst (λ (k : Key). same_key key k ≡ true) (sym same) (same_key-self key))

count_merged : (key : Key) (m : Staircase) (rows : List Row) (others : List Priced) → AllByRecursion (IsRowOf key) rows → has_key key others ≡ false → key_count (merged m rows others) ≡ cond (is_empty rows) (key_count others) (1 + key_count others)
count_merged key m [] others a none = refl
count_merged key m (row ∷ []) others a none =
    count_insert (priced_in m row) others ∙ ap (λ (b : Bool). cond b (key_count others) (1 + key_count others)) (ap (λ (k : Key). has_key k others) a.0.key_is ∙ none)
count_merged key m (row ∷ next ∷ rows) others a none =
    count_insert (priced_in m row) (merged m (next ∷ rows) others)
    ∙ ap (λ (b : Bool). cond b (key_count (merged m (next ∷ rows) others)) (1 + key_count (merged m (next ∷ rows) others))) (ap (λ (k : Key). has_key k (merged m (next ∷ rows) others)) a.0.key_is ∙ merged_has key m next rows others a.1.0.key_is)
    ∙ count_merged key m (next ∷ rows) others a.1 none

count_step : (b : Bool) (n k : ℕ) (e : Key × Group) (es : List (Key × Group)) → n ≡ length es → cond b n (1 + n) ≡ length (cond (not b) (e ∷ es) es)
count_step true n k e es h = h
count_step false n k e es h = omega arith

-- the keys of a side of groups are those of its groups with a row
pub key_count_used : (best : Best) (event : ℕ) (es : List (Key × Group)) → AreGroups best event es → key_count (rows_of es) ≡ length (filter has_rows es)
key_count_used best event [] a = refl
key_count_used best event (e ∷ es) a =
    count_merged e.0 e.1.moves e.1.tree (rows_of es) a.0.rows (none_has e.0 (rows_of es) (other_keys best event e.0 es a.3 a.2))
    ∙ count_step (is_empty e.1.tree) (key_count (rows_of es)) 0 e (filter has_rows es) (key_count_used best event es a.3)
