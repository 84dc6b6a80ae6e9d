-- A write that is made in parts.
use Rattle.std.proofs.Common.{◌≡◌, ℕ, ◌+◌, ◌≤◌, List, ◌++◌, length, take, drop, sym, ◌∙◌, ap, subst, arith, append_assoc, length-append}
use Rattle.std.proofs.lemmas.List.{take_all, take_at, drop_at, take-take, drop-drop, length-take-le}
use Rattle.std.proofs.Math.Seq.{take-add}
use Rattle.day_journal.specs.Disk.{Told, Torn, TornFrom, LeavesOnly, overwritten}
use Rattle.day_journal.specs.DiskLaws.{stays, goes_on}
use Rattle.day_journal.proofs.Recorded.{torn_self}

pub length-overwritten : (file bytes : List ℕ) (at : ℕ) → at ≤ length file → at + length bytes ≤ length (overwritten file at bytes)
length-overwritten file bytes at le =
    omega (arith, length-take-le at file le, length-append (take at file) (bytes ++ drop (at + length bytes) file), length-append bytes (drop (at + length bytes) file))

-- bytes that are written right after others
overwritten_on : (file xs ys : List ℕ) (at : ℕ) → at ≤ length file → overwritten (overwritten file at xs) (at + length xs) ys ≡ overwritten file at (xs ++ ys)
overwritten_on file xs ys at le =
    let m = at + length xs in
    let rest = drop m file in
    let last = drop (at + length (xs ++ ys)) file in
    let front : length (take at file ++ xs) ≡ m = omega (arith, length-take-le at file le, length-append (take at file) xs) in
    let first : overwritten file at xs ≡ (take at file ++ xs) ++ rest = sym (append_assoc (take at file) xs rest) in
    let head : take m (overwritten file at xs) ≡ take at file ++ xs = ap (λ (l : List ℕ). take m l) first ∙ take_at (take at file ++ xs) rest m front in
    let behind : drop m (overwritten file at xs) ≡ rest = ap (λ (l : List ℕ). drop m l) first ∙ drop_at (take at file ++ xs) rest m front in
    let end : m + length ys ≡ at + length (xs ++ ys) = omega (arith, length-append xs ys) in
    let tail : drop (m + length ys) (overwritten file at xs) ≡ last =
    sym (drop-drop (length ys) m (overwritten file at xs)) ∙ ap (λ (l : List ℕ). drop (length ys) l) behind ∙ drop-drop (length ys) m file ∙ ap (λ (k : ℕ). drop k file) end in
    ap (λ (l : List ℕ). l ++ (ys ++ drop (m + length ys) (overwritten file at xs))) head
    ∙ ap (λ (l : List ℕ). (take at file ++ xs) ++ (ys ++ l)) tail
    ∙ append_assoc (take at file) xs (ys ++ last)
    ∙ ap (λ (l : List ℕ). take at file ++ l) (sym (append_assoc xs ys last))

-- one part more
pub part_written : (file mid new bytes : List ℕ) (at done count : ℕ) → at ≤ length file → done ≤ length bytes
    → mid ≡ overwritten file at (take done bytes) → new ≡ overwritten mid (at + done) (take count (drop done bytes)) → new ≡ overwritten file at (take (done + count) bytes)
part_written file mid new bytes at done count le within first second =
    let size : length (take done bytes) ≡ done = length-take-le done bytes within in
    second
    ∙ ap (λ (l : List ℕ). overwritten l (at + done) (take count (drop done bytes))) first
    ∙ ap (λ (k : ℕ). overwritten (overwritten file at (take done bytes)) (at + k) (take count (drop done bytes))) (sym size)
    ∙ overwritten_on file (take done bytes) (take count (drop done bytes)) at le
    ∙ ap (λ (l : List ℕ). overwritten file at l) (sym (take-add done count bytes))

-- where the next part is written the file does not end before
pub part_inside : (file mid bytes : List ℕ) (at done : ℕ) → at ≤ length file → done ≤ length bytes → mid ≡ overwritten file at (take done bytes) → at + done ≤ length mid
part_inside file mid bytes at done le within is =
    omega (arith, ap length is, length-overwritten file (take done bytes) at le, length-take-le done bytes within)

torn_again : (at n next left : ℕ) (file mid new : List ℕ) → at ≤ next → next + left ≡ at + n → Torn at n file mid → Torn next left mid new → Torn at n file new
torn_again at n next left file mid new le is first second = record {
  before = sym (take-take at next new le) ∙ ap (λ (l : List ℕ). take at l) second.before ∙ take-take at next mid le ∙ first.before;
  after = subst (λ (k : ℕ). drop k new ≡ drop k mid) is second.after ∙ first.after;
  no_shorter = omega (arith, first.no_shorter, second.no_shorter);
  no_longer = omega (arith, first.no_longer, second.no_longer, is);
}

pub part_torn : (old mid new : Told) (at n next left : ℕ) → at ≤ next → next + left ≡ at + n → ((c : List ℕ) → mid.may_leave c → mid.left_since old.moment c)
    → LeavesOnly old mid (TornFrom at n old.may_leave) → LeavesOnly mid new (TornFrom next left mid.may_leave) → LeavesOnly old new (TornFrom at n old.may_leave)
part_torn old mid new at n next left le is counts first second = goes_on old mid new _ _ first second (λ c torn.
    let was = first.each torn.0 (counts torn.0 torn.1) in
    (was.0, was.1, torn_again at n next left was.0 torn.0 c le is was.2 torn.2))

-- before the first part
pub none_torn : (old : Told) (at n : ℕ) → ((c : List ℕ) → old.left_since old.moment c → old.may_leave c) → LeavesOnly old old (TornFrom at n old.may_leave)
none_torn old at n only = stays old _ (λ c left. (c, only c left, torn_self at n c))

-- all of the parts
pub all_written : (file new bytes : List ℕ) (at done : ℕ) → length bytes ≤ done → new ≡ overwritten file at (take done bytes) → new ≡ overwritten file at bytes
all_written file new bytes at done all is = is ∙ ap (λ (l : List ℕ). overwritten file at l) (take_all done bytes all)
