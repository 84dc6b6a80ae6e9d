-- One more command is listed.
use Rattle.std.proofs.Common.{◌≡◌, ℕ, ℤ, ◌+◌, ◌<◌, List, [], ◌∷◌, ◌++◌, length, slice_index, replicate, refl, sym, ◌∙◌, ap, subst, arith, rules, w64, to_z, of_z}
use Rattle.venue_words.specs.declared.command.Command.{Command}
use Rattle.venue_words.specs.Floors.{Records}
use Rattle.feed_work.specs.Feeds.{IsFor}
use Rattle.feeds_core.specs.Listings.{Listing, asked_of, events_from, listed_of, listing_setup, no_limit, view_of}
use Rattle.feeds_core.specs.declared.listing_floor.Listed.{Listed}
use Rattle.feeds_core.proofs.Listed.{counts_more, asked_more, set_length, limits_count, read_within, recorded_here, journal_behind}
use Rattle.feeds_core.proofs.listing_floor.ListingFloorFloor.submit.Goals as goal

-- what is listed is the command at its moment
same_listed : (xs ys : List Listed) (symbol feed : ℕ) (moment told : ℤ) (command copy : Command)
    → ys ≡ xs ++ record { symbol = symbol; feed = feed; moment = told; command = copy } ∷ [] → told ≡ moment → copy ≡ command
    → ys ≡ xs ++ record { symbol = symbol; feed = feed; moment = moment; command = command } ∷ []
same_listed xs ys symbol feed moment told command copy e m k = rw (← m, ← k) e

pub invariant_of-self-2 : goal.invariant_of-self-2
invariant_of-self-2 g c =
    let one : Listed = record { symbol = c.args.symbol; feed = c.args.feed; moment = c.args.moment; command = c.args.command.now } in
    let told : to_z w64 (of_z w64 c.args.moment) ≡ c.args.moment = search rules in
    let first = c.push_reserved.ensures.items ∙ ap (λ (ls : List Listed). ls ++ record { symbol = c.args.symbol; feed = c.args.feed; moment = to_z w64 (of_z w64 c.args.moment); command = c.in-Ok.command } ∷ []) c.reserve.ensures.items in
    let listed : c.push_reserved.new.self.items ≡ c.self.inside.listed.items ++ one ∷ [] =
    same_listed _ _ _ _ _ _ _ _ first told c.in-Ok.ensures in
    let size = set_length c.self.inside.counts.items c.args.symbol (c.index-count.result.now + 1) in
    let limits : length (replicate (length c.self.inside.counts.items) no_limit) ≡ length c.self.inside.counts.items = limits_count (length c.self.inside.counts.items) in
    let symbol : c.args.symbol < length (replicate (length c.self.inside.counts.items) no_limit) =
    subst (λ (f : Listing). c.args.symbol < length (replicate (length f.counts) no_limit)) (sym c.self.view_is) c.requires.symbol in
    let within : c.args.symbol < length c.self.inside.counts.items = omega arith in
    let count = c.self.invariant.counts c.args.symbol within in
    let read : c.index-count.result.now ≡ slice_index c.self.inside.counts.items c.args.symbol = read_within c.self.inside.counts.items c.args.symbol c.index-count.result.now within c.index-count.ensures in
    let next : c.index-count.result.now + 1 ≡ length (listed_of c.args.symbol c.self.inside.listed.items) + 1 = ap (λ (n : ℕ). n + 1) (read ∙ count) in
    record {
      counts = counts_more c.self.inside.listed.items c.push_reserved.new.self.items c.self.inside.counts.items _ one (c.index-count.result.now + 1) listed refl within next c.self.invariant.counts;
      asked = asked_more c.self.inside.members c.self.inside.markets (length c.self.inside.counts.items) _ c.self.inside.listed.items c.push_reserved.new.self.items one listed size
          (subst (λ (f : Listing). IsFor (listing_setup f.members f.markets (length f.counts)) (asked_of one)) (sym c.self.view_is)
          (record { symbol = c.requires.symbol; configured = c.requires.configured; limits = c.requires.limits })) c.self.invariant.asked;
    }

pub returns-clause-records : goal.returns-clause-records
returns-clause-records g c =
    let one : Listed = record { symbol = c.args.symbol; feed = c.args.feed; moment = c.args.moment; command = c.args.command.now } in
    let told : to_z w64 (of_z w64 c.args.moment) ≡ c.args.moment = search rules in
    let first = c.push_reserved.ensures.items ∙ ap (λ (ls : List Listed). ls ++ record { symbol = c.args.symbol; feed = c.args.feed; moment = to_z w64 (of_z w64 c.args.moment); command = c.in-Ok.command } ∷ []) c.reserve.ensures.items in
    let listed : c.push_reserved.new.self.items ≡ c.self.inside.listed.items ++ one ∷ [] =
    same_listed _ _ _ _ _ _ _ _ first told c.in-Ok.ensures in
    let limits : length (replicate (length c.self.inside.counts.items) no_limit) ≡ length c.self.inside.counts.items = limits_count (length c.self.inside.counts.items) in
    let symbol : c.args.symbol < length (replicate (length c.self.inside.counts.items) no_limit) =
    subst (λ (f : Listing). c.args.symbol < length (replicate (length f.counts) no_limit)) (sym c.self.view_is) c.requires.symbol in
    let within : c.args.symbol < length c.self.inside.counts.items = omega arith in
    let count = c.self.invariant.counts c.args.symbol within in
    let read : c.index-count.result.now ≡ slice_index c.self.inside.counts.items c.args.symbol = read_within c.self.inside.counts.items c.args.symbol c.index-count.result.now within c.index-count.ensures in
    let next : c.index-count.result.now + 1 ≡ length (listed_of c.args.symbol c.self.inside.listed.items) + 1 = ap (λ (n : ℕ). n + 1) (read ∙ count) in
    subst (λ (f : Listing). Records (view_of (listed_of c.args.symbol f.listed)) (view_of (listed_of c.args.symbol c.push_reserved.new.self.items)) (c.index-count.result.now + 1) c.args.feed c.args.moment c.args.command.now)
    c.self.view_is (recorded_here c.self.inside.listed.items c.push_reserved.new.self.items one (c.index-count.result.now + 1) listed next)

pub returns-clause-steps : goal.returns-clause-steps
returns-clause-steps g c =
    let one : Listed = record { symbol = c.args.symbol; feed = c.args.feed; moment = c.args.moment; command = c.args.command.now } in
    let told : to_z w64 (of_z w64 c.args.moment) ≡ c.args.moment = search rules in
    let first = c.push_reserved.ensures.items ∙ ap (λ (ls : List Listed). ls ++ record { symbol = c.args.symbol; feed = c.args.feed; moment = to_z w64 (of_z w64 c.args.moment); command = c.in-Ok.command } ∷ []) c.reserve.ensures.items in
    let listed : c.push_reserved.new.self.items ≡ c.self.inside.listed.items ++ one ∷ [] =
    same_listed _ _ _ _ _ _ _ _ first told c.in-Ok.ensures in
    let limits : length (replicate (length c.self.inside.counts.items) no_limit) ≡ length c.self.inside.counts.items = limits_count (length c.self.inside.counts.items) in
    let symbol : c.args.symbol < length (replicate (length c.self.inside.counts.items) no_limit) =
    subst (λ (f : Listing). c.args.symbol < length (replicate (length f.counts) no_limit)) (sym c.self.view_is) c.requires.symbol in
    let within : c.args.symbol < length c.self.inside.counts.items = omega arith in
    let count = c.self.invariant.counts c.args.symbol within in
    let read : c.index-count.result.now ≡ slice_index c.self.inside.counts.items c.args.symbol = read_within c.self.inside.counts.items c.args.symbol c.index-count.result.now within c.index-count.ensures in
    let next : c.index-count.result.now + 1 ≡ length (listed_of c.args.symbol c.self.inside.listed.items) + 1 = ap (λ (n : ℕ). n + 1) (read ∙ count) in
    (events_from 1 (listed_of c.args.symbol c.self.inside.listed.items), journal_behind c.self.inside.listed.items c.push_reserved.new.self.items one (c.index-count.result.now + 1) listed next, tt)
