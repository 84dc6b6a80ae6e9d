-- What was worked through floors that had seen nothing.
use Rattle.std.proofs.Common.{◌≡◌, ℕ, zero, suc, ◌+◌, ◌<◌, List, [], ◌∷◌, ◌++◌, length, map, slice_get, slice_index, Option, Some, None, refl, sym, ap, ◌∙◌, subst, arith, Vec}
use Rattle.std.specs.List.{All}
use Rattle.std.specs.declared.alloc.Global.{Global}
use Rattle.std.proofs.lemmas.List.{length-map}
use Rattle.std.proofs.lemmas.List.Elements.{All-nil, All-cons, All-head, All-tail}
use Rattle.venue_words.specs.Floors.{FloorMark, Setup, SymbolView}
use Rattle.venue_words.specs.Journals.{IfFull}
use Rattle.venue_words.specs.declared.command.Event.{Event}
use Rattle.venue_words.specs.declared.refusal.FloorRefusal.{FloorRefusal}
use Rattle.venue_words.specs.declared.refusal.FloorRefusal.TheVariants.{Full, NoMemory}
use Rattle.venue_words.specs.declared.report.Report.{Report}
use Rattle.eager_meaning.specs.Interleaving.{Timed}
use Rattle.turn_gate.specs.Numbers.{IncreasesWithin}
use Rattle.turn_gate.specs.Seats.{GateId, SeatState}
use Rattle.venue_core.specs.Marks.{mark_of}
use Rattle.venue_core.specs.SeatLaws.{same_mark_gates, same_mark_parts}
use Rattle.venue_core.specs.Shown.{shown_by_seat}
use Rattle.venue_core.specs.Venues.{VenueId, AreSeatsOf, setup_in}
use Rattle.feed_work.specs.declared.share.Worked.{Worked}
use Rattle.feed_work.specs.Feeds.{Asked, IsFor, commands_at}
use Rattle.feed_work.specs.Working.{Stand, Grew, GrewByAll, Works, IsWorked, AreWorked}
use Rattle.feeds_core.specs.Joined.{IsIdle, AreIdleSeats, HasTaken, HaveTaken, HaveWorked, Outcome, outcome_of, AreOneParts, AllWorked}
use Rattle.feeds_core.proofs.Joins.{idle_parts}
use Rattle.feeds_core.proofs.Zips.{held}

-- ---- one floor

module _ (reports : ℕ → List Event → List Report) where
  abbrev View : List SeatState → ℕ → SymbolView
  View seats symbol = shown_by_seat reports (slice_get seats symbol)

  idle_at : (parts : ℕ) (seats : List SeatState) (symbol : ℕ) → All (IsIdle parts) seats
      → ((View seats symbol).journal ≡ []) × ((View seats symbol).mine ≡ [])
  idle_at parts [] symbol all = (refl, refl)
  idle_at parts (seat ∷ seats) zero all = let is = All-head (IsIdle parts) seat seats all in (is.seen, is.mine)
  idle_at parts (seat ∷ seats) (suc symbol) all = idle_at parts seats symbol (All-tail (IsIdle parts) seat seats all)

  taken_of : (feed : ℕ) (before after : SymbolView) (seat : SeatState) (commands : List Timed)
      → before.journal ≡ [] → before.mine ≡ [] → after.journal ≡ seat.seen → after.mine ≡ seat.mine
      → Grew feed before after commands → HasTaken feed seat.seen seat.mine commands
  taken_of feed before after seat commands none own seen mine g =
      let numbers : g.numbers ≡ seat.mine = ap (λ (l : List ℕ). l ++ g.numbers) (sym own) ∙ sym g.mine ∙ mine in record {
        stand = subst (λ (x : List Event × List ℕ). Stand feed x.0 x.1 commands) (λ k. (seen k, numbers k)) g.stand;
        rise = subst (λ (x : List Event × List Event × List ℕ). IncreasesWithin (length x.0) (length x.1) x.2)
            (λ k. (none k, seen k, numbers k)) g.rise;
      }

  have_taken : (parts feed : ℕ) (before after : List SeatState) (commands : List Asked) → All (IsIdle parts) before
      → GrewByAll feed (View before) (View after) commands → HaveTaken feed after commands
  have_taken parts feed before after commands idle g symbol seat at =
      let was = idle_at parts before symbol idle in
      let shown : View after symbol ≡ shown_by_seat reports (Some seat) = ap (shown_by_seat reports) at in
      taken_of feed (View before symbol) (View after symbol) seat (commands_at symbol commands) was.0 was.1
      (ap (λ (v : SymbolView). v.journal) shown) (ap (λ (v : SymbolView). v.mine) shown) (g symbol)

  is_for_next : (setup : Setup) (commands first : List Asked) (next : Asked) (left : List Asked) → commands ≡ first ++ next ∷ left
      → All (IsFor setup) commands → IsFor setup next
  is_for_next setup commands [] next left are all =
      All-head (IsFor setup) next left (subst (All (IsFor setup)) are all)
  is_for_next setup commands (x ∷ first) next left are all =
      is_for_next setup (first ++ next ∷ left) first next left refl
      (All-tail (IsFor setup) x (first ++ next ∷ left) (subst (All (IsFor setup)) are all))

  full_at : (setup : Setup) (after : List SeatState) (next : Asked) (why : FloorRefusal) → next.0 < length after
      → IfFull (λ found. (found ≡ length (View after next.0).journal) × (found ≡ slice_index setup.limits next.0)) why
      → IfFull (λ found. (seat : SeatState) × (slice_get after next.0 ≡ Some seat)
      × (found ≡ length seat.seen) × (found ≡ slice_index setup.limits next.0)) why
  full_at setup after next NoMemory lt full = tt
  full_at setup after next (Full found) lt full =
      let h = held after next.0 lt in
      (h.item, h.at, full.0 ∙ ap (λ (v : SymbolView). length v.journal) (ap (shown_by_seat reports) h.at), full.1)

  have_worked : (venue : VenueId) (feed : ℕ) (before after : List SeatState) (commands : List Asked)
      (refused : Option FloorRefusal) → AreIdleSeats venue 1 before → AreSeatsOf venue after
      → All (IsFor (setup_in venue)) commands
      → Works (setup_in venue) feed (View before) (View after) commands refused
      → HaveWorked (setup_in venue) feed after commands refused
  have_worked venue feed before after commands None idle are all works =
      have_taken 1 feed before after commands idle.idle works
  have_worked venue feed before after commands (Some why) idle are all stopped =
      let next = is_for_next (setup_in venue) commands stopped.first stopped.next stopped.left stopped.commands_are all in
      let count = length-map venue.gates (λ (gate : GateId). gate.limit) in
      let seats = length-map after (λ (seat : SeatState). seat.gate) in record {
        first = stopped.first;
        next = stopped.next;
        left = stopped.left;
        commands_are = stopped.commands_are;
        taken = have_taken 1 feed before after stopped.first idle.idle stopped.grew;
        full = full_at (setup_in venue) after stopped.next why
            (omega (arith, next.symbol, count, seats, ap length are)) stopped.full;
      }

  -- ---- all floors

  module _ {F : Type 0} (venue_of : F → VenueId) (seats_of : F → List SeatState) where
    abbrev Mark : F → FloorMark
    Mark floor = mark_of (venue_of floor) (seats_of floor)

    abbrev At : F → ℕ → SymbolView
    At floor = View (seats_of floor)

    abbrev Share : Type 0
    Share = F × Vec Asked Global

    abbrev IsFresh : VenueId → Share → Type 0
    IsFresh venue share = (venue_of share.0 ≡ venue) × AreIdleSeats venue 1 (seats_of share.0)

    abbrev OutcomeOf : Worked F → Outcome
    OutcomeOf worked = outcome_of (seats_of worked.floor) worked.refused

    one_part : (venue : VenueId) (feed : ℕ) (share : Share) (worked : Worked F) → IsFresh venue share
        → IsWorked Mark At feed share.0 share.1.items worked → AreOneParts venue (OutcomeOf worked)
    one_part venue feed share worked fresh is =
        let mark : mark_of (venue_of worked.floor) (seats_of worked.floor) ≡ mark_of venue (seats_of share.0) =
        is.mark_is ∙ ap (λ (v : VenueId). mark_of v (seats_of share.0)) fresh.0 in record {
          are = same_mark_gates (venue_of worked.floor) venue (seats_of worked.floor) (seats_of share.0) mark fresh.1.are;
          parts = same_mark_parts (venue_of worked.floor) venue 1 (seats_of worked.floor) (seats_of share.0) mark
              (idle_parts 1 (seats_of share.0) fresh.1.idle);
        }

    one_worked : (venue : VenueId) (feed : ℕ) (share : Share) (worked : Worked F) → IsFresh venue share
        → All (IsFor (setup_in venue)) share.1.items → IsWorked Mark At feed share.0 share.1.items worked
        → HaveWorked (setup_in venue) feed (seats_of worked.floor) share.1.items worked.refused
    one_worked venue feed share worked fresh all is =
        have_worked venue feed (seats_of share.0) (seats_of worked.floor) share.1.items worked.refused fresh.1
        (one_part venue feed share worked fresh is).are all
        (subst (λ (v : VenueId). Works (setup_in v) feed (At share.0) (At worked.floor) share.1.items worked.refused)
        fresh.0 is.calls)

    pub all_parts : (venue : VenueId) (feed : ℕ) (shares : List Share) (others : List (Worked F)) → All (IsFresh venue) shares
        → AreWorked Mark At feed shares others → All (λ worked. AreOneParts venue (OutcomeOf worked)) others
    all_parts venue feed [] [] fresh are = All-nil (λ (w : Worked F). AreOneParts venue (OutcomeOf w))
    all_parts venue feed [] (worked ∷ others) fresh are = absurd are
    all_parts venue feed (share ∷ shares) [] fresh are = absurd are
    all_parts venue feed (share ∷ shares) (worked ∷ others) fresh are =
        All-cons (λ (w : Worked F). AreOneParts venue (OutcomeOf w)) worked others
        (one_part venue feed share worked (All-head (IsFresh venue) share shares fresh) are.0)
        (all_parts venue (feed + 1) shares others (All-tail (IsFresh venue) share shares fresh) are.1)

    abbrev AreFor : Setup → Share → Type 0
    AreFor setup share = All (IsFor setup) share.1.items

    pub all_worked : (venue : VenueId) (feed : ℕ) (shares : List Share) (others : List (Worked F)) → All (IsFresh venue) shares
        → All (AreFor (setup_in venue)) shares → AreWorked Mark At feed shares others
        → AllWorked (setup_in venue) feed (map (λ share. share.1.items) shares) (map OutcomeOf others)
    all_worked venue feed [] [] fresh all are = tt
    all_worked venue feed [] (worked ∷ others) fresh all are = absurd are
    all_worked venue feed (share ∷ shares) [] fresh all are = absurd are
    all_worked venue feed (share ∷ shares) (worked ∷ others) fresh all are =
        let setup = setup_in venue in (
          one_worked venue feed share worked (All-head (IsFresh venue) share shares fresh) (All-head (AreFor setup) share shares all) are.0,
          all_worked venue (feed + 1) shares others (All-tail (IsFresh venue) share shares fresh)
              (All-tail (AreFor setup) share shares all) are.1,
        )

    pub length_worked : (feed : ℕ) (shares : List Share) (others : List (Worked F)) → AreWorked Mark At feed shares others
        → length others ≡ length shares
    length_worked feed [] [] are = refl
    length_worked feed [] (worked ∷ others) are = absurd are
    length_worked feed (share ∷ shares) [] are = absurd are
    length_worked feed (share ∷ shares) (worked ∷ others) are = ap suc (length_worked (feed + 1) shares others are.1)

    -- each share's commands are for its floor
    pub shares_for : (venue : VenueId) (shares : List Share) (feeds : List (Vec Asked Global)) → All (IsFresh venue) shares
        → map (λ (share : Share). share.1.items) shares ≡ map (λ (commands : Vec Asked Global). commands.items) feeds
        → All (λ commands. All (IsFor (setup_in venue)) commands.items) feeds
        → All (λ share. All (IsFor (Mark share.0).setup) share.1.items) shares
    shares_for venue [] feeds fresh same all = All-nil (λ (share : Share). All (IsFor (Mark share.0).setup) share.1.items)
    shares_for venue (share ∷ shares) [] fresh same all = absurd (cc)
    shares_for venue (share ∷ shares) (commands ∷ feeds) fresh same all =
        let first : commands.items ≡ share.1.items = (cc) in
        let rest : map (λ (share : Share). share.1.items) shares ≡ map (λ (commands : Vec Asked Global). commands.items) feeds = (cc) in
        let Was = λ (commands : Vec Asked Global). All (IsFor (setup_in venue)) commands.items in
        let venue_is : venue ≡ venue_of share.0 = sym (All-head (IsFresh venue) share shares fresh).0 in
        All-cons (λ (s : Share). All (IsFor (Mark s.0).setup) s.1.items) share shares
        (subst (λ (x : VenueId × List Asked). All (IsFor (setup_in x.0)) x.1) (λ k. (venue_is k, first k)) (All-head Was commands feeds all))
        (shares_for venue shares feeds (All-tail (IsFresh venue) share shares fresh) rest (All-tail Was commands feeds all))

    -- the same with the venue's own things
    pub shares_of_venue : (venue : VenueId) (shares : List Share) (feeds : List (Vec Asked Global))
        → map (λ (share : Share). share.1.items) shares ≡ map (λ (commands : Vec Asked Global). commands.items) feeds
        → All (λ commands. All (IsFor (setup_in venue)) commands.items) feeds → All (AreFor (setup_in venue)) shares
    shares_of_venue venue [] feeds same all = All-nil (AreFor (setup_in venue))
    shares_of_venue venue (share ∷ shares) [] same all = absurd (cc)
    shares_of_venue venue (share ∷ shares) (commands ∷ feeds) same all =
        let first : commands.items ≡ share.1.items = (cc) in
        let rest : map (λ (share : Share). share.1.items) shares ≡ map (λ (commands : Vec Asked Global). commands.items) feeds = (cc) in
        let Was = λ (commands : Vec Asked Global). All (IsFor (setup_in venue)) commands.items in
        All-cons (AreFor (setup_in venue)) share shares (subst (All (IsFor (setup_in venue))) first (All-head Was commands feeds all))
        (shares_of_venue venue shares feeds rest (All-tail Was commands feeds all))
