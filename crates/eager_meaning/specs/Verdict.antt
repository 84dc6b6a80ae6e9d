-- The rules that an order may break, in the order in which they are tested.
use Rattle.std.specs.Prelude.{ℕ, Bool, false, not, ◌&&◌, ◌==◌, nat_le, if◌then◌else◌, List, [], ◌∷◌, ◌++◌, Option, Some, None, is_some, is_none, codes}
use Rattle.std.specs.Option.{option_map_or}
use Rattle.venue_words.specs.declared.price.Side.{Side}
use Rattle.venue_words.specs.declared.price.Side.TheVariants.{Buy, Sell}
use Rattle.venue_words.specs.declared.rule.Rule.{Rule}
use Rattle.venue_words.specs.declared.rule.Rule.TheVariants as rule
use Rattle.venue_words.specs.declared.terms.Terms.{Terms}
use Rattle.venue_words.specs.declared.command.Command.{Command}
use Rattle.venue_words.specs.declared.command.Command.TheVariants.{Quote, New, Cancel, Replace, Status}
use Rattle.eager_meaning.specs.declared.known.Known.{Known}
use Rattle.eager_meaning.specs.Terms.{passes, is_among, is_pegged, quantity_in, quantity_of, price_in, offset_in, minimum_in}

-- whether it is there and fails a test
abbrev pub fails : {T : Type 0} → (T → Bool) → Option T → Bool
fails test found = option_map_or (λ x. not (test x)) found false

-- the code of a side
abbrev pub side_code : Side → ℕ
side_code Buy = 49
side_code Sell = 50

-- a rule, and before it whether it is broken
abbrev pub Test : Type 0
Test = Bool × Rule

-- the rules on kind, time in force, price, peg and minimum that a New and a Replace have in common
unfoldable pub terms_tests : ℕ → Terms → List Test
terms_tests tick terms =
    let pegged = is_pegged terms in
    (not (is_among (codes "2P") terms.kind), rule.OrderType)
    ∷ (fails (is_among (codes "03")) terms.force, rule.TimeInForce)
    ∷ (not pegged && is_none terms.price, rule.NoPrice)
    ∷ (fails (λ amount. is_some (price_in tick amount)) terms.price, rule.Price)
    ∷ (pegged && not (passes (is_among (2 ∷ 4 ∷ 5 ∷ [])) terms.peg), rule.PegPrice)
    ∷ (pegged && fails (is_among (0 ∷ [])) terms.moves, rule.PegMove)
    ∷ (pegged && fails (is_among (0 ∷ 2 ∷ [])) terms.offset_kind, rule.PegOffsetType)
    ∷ (pegged && fails (λ amount. is_some (offset_in tick terms.offset_kind amount)) terms.offset, rule.PegOffset)
    ∷ (pegged && fails (is_among (1 ∷ 2 ∷ [])) terms.round, rule.PegRounding)
    ∷ (fails (λ amount. is_some (minimum_in (quantity_of terms) amount)) terms.minimum, rule.Minimum)
    ∷ (fails (is_among (1 ∷ 2 ∷ [])) terms.method, rule.MinimumMethod)
    ∷ []

-- the tests of a New before those of its other terms
abbrev pub new_tests : Terms → Known → List Test
new_tests terms known =
    (known.used, rule.UsedId)
    ∷ (is_none (quantity_in terms.quantity), rule.Quantity)
    ∷ (not (is_among (codes "12") terms.side), rule.Side)
    ∷ []

-- the tests of a Replace before those of its other terms
abbrev pub replace_tests : Terms → Known → List Test
replace_tests terms known =
    (known.used, rule.UsedId)
    ∷ (not known.live, rule.UnknownOrder)
    ∷ (not (terms.side == side_code known.side), rule.OtherSide)
    ∷ (is_none (quantity_in terms.quantity), rule.Quantity)
    ∷ []

-- the tests of a command, in their order
abbrev pub tests_of : Command → Known → List Test
tests_of (Quote market bid offer) known = []
tests_of (New member id terms) known = new_tests terms known ++ terms_tests known.tick terms
tests_of (Cancel member id orig) known = (known.used, rule.UsedId) ∷ (not known.live, rule.UnknownOrder) ∷ []
tests_of (Replace member id orig terms) known =
    replace_tests terms known
    ++ (terms_tests known.tick terms ++ (nat_le (quantity_of terms) known.cum, rule.TradedQuantity) ∷ [])
tests_of (Status member id side) known = []

-- the first rule that is broken, or none
unfoldable pub first_broken : List Test → Option Rule
first_broken [] = None
first_broken (test ∷ tests) = if test.0 then Some test.1 else first_broken tests

-- the first rule that the command breaks, or none
unfoldable pub verdict : Command → Known → Option Rule
verdict command known = first_broken (tests_of command known)
