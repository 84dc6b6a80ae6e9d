-- An id that is placed.
use Rattle.std.proofs.Common.{◌≡◌, ℕ, List}
use Rattle.symbol_book.specs.Ids.{UsedId, IsPlaced}

-- it is named by its copies too
pub placed_as : (member member' : ℕ) (id id' : List ℕ) (order order' : ℕ) (placed : List UsedId) → member' ≡ member → id' ≡ id → order ≡ order' → IsPlaced member id order placed → IsPlaced member' id' order' placed
placed_as member member' id id' order order' placed owner own number is = rw (owner, own, ← number) is
