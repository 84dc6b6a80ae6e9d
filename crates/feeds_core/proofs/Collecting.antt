-- What joined seats have taken, feed by feed.
use Rattle.std.proofs.Common.{◌≡◌, ℕ, ◌+◌, ◌<◌, ◌≤◌, List, [], ◌∷◌, ◌++◌, length, map, slice_get, slice_index, Option, Some, None, refl, sym, ap, ◌∙◌, subst, arith, length-append}
use Rattle.std.specs.Prelude.{sum_by}
use Rattle.std.specs.Option.{option_or}
use Rattle.std.specs.List.{AllZip}
use Rattle.std.proofs.lemmas.List.{map-append, length-map}
use Rattle.std.proofs.lemmas.List.Sums.{sum_by-cons, sum_by-append}
use Rattle.venue_words.specs.Floors.{Setup}
use Rattle.venue_words.specs.Journals.{StartsWith}
use Rattle.venue_words.specs.declared.command.Event.{Event}
use Rattle.venue_words.specs.declared.refusal.FloorRefusal.{FloorRefusal}
use Rattle.venue_words.specs.declared.refusal.FloorRefusal.TheVariants.{Full, NoMemory}
use Rattle.eager_meaning.specs.Interleaving.{Timed}
use Rattle.turn_gate.specs.Numbers.{times, merge_of}
use Rattle.turn_gate.specs.Seats.{SeatState}
use Rattle.venue_core.specs.Joining.{HasSeenNoLess, after_join, all_joined}
use Rattle.feed_work.specs.Feeds.{Asked, commands_at}
use Rattle.feeds_core.specs.Books.{count_at}
use Rattle.feeds_core.specs.Joined.{HasTaken, HaveTaken, HaveStopped, HaveWorked, AreIn, Gathers, LacksOne, Collects}
use Rattle.feed_work.proofs.Commands.{commands_append, first_here}
use Rattle.feed_work.proofs.Growing.{stand_more, rises_more, starts_long}
use Rattle.feeds_core.proofs.Numbers.{times_merge, length_merge}
use Rattle.feed_work.proofs.Places.{within}
use Rattle.feeds_core.proofs.Zips.{Held, held, zip_at, joins, length_joined}

-- ---- journals

taken_more : (feed : ℕ) (j j' : List Event) (ns : List ℕ) (cs : List Timed) → StartsWith j' j → HasTaken feed j ns cs → HasTaken feed j' ns cs
taken_more feed j j' ns cs on taken = record {
  stand = stand_more feed j j' ns cs on taken.stand;
  rise = rises_more 0 ns (length j) (length j') taken.rise (starts_long j j' on);
}

pub in_more : (feed : ℕ) (j j' : List Event) (nss : List (List ℕ)) (css : List (List Timed)) → StartsWith j' j
    → AreIn feed j nss css → AreIn feed j' nss css
in_more feed j j' [] [] on are = tt
in_more feed j j' [] (cs ∷ css) on are = are
in_more feed j j' (ns ∷ nss) [] on are = are
in_more feed j j' (ns ∷ nss) (cs ∷ css) on are =
    (taken_more feed j j' ns cs on are.0, in_more (feed + 1) j j' nss css on are.1)

in_snoc : (feed at : ℕ) (j : List Event) (nss : List (List ℕ)) (css : List (List Timed)) (ns : List ℕ) (cs : List Timed)
    → AreIn feed j nss css → at ≡ feed + length css → HasTaken at j ns cs → AreIn feed j (nss ++ ns ∷ []) (css ++ cs ∷ [])
in_snoc feed at j [] [] ns cs are is taken =
    let first : at ≡ feed = omega (arith, is) in (subst (λ (f : ℕ). HasTaken f j ns cs) first taken, tt)
in_snoc feed at j [] (ds ∷ css) ns cs are is taken = absurd are
in_snoc feed at j (ms ∷ nss) [] ns cs are is taken = absurd are
in_snoc feed at j (ms ∷ nss) (ds ∷ css) ns cs are is taken =
    (are.0, in_snoc (feed + 1) at j nss css ns cs are.1 (omega (arith, is)) taken)

-- ---- one more feed

sum_snoc : {A : Type 0} (f : A → ℕ) (xs : List A) (x : A) → sum_by f (xs ++ x ∷ []) ≡ sum_by f xs + f x
sum_snoc f xs x = omega (arith, sum_by-append f xs (x ∷ []), sum_by-cons f x [])

gathers_more : (joined seat other : SeatState) (css : List (List Timed)) (cs : List Timed) → joined ≡ after_join seat other
    → StartsWith joined.seen seat.seen → StartsWith joined.seen other.seen → Gathers seat css
    → HasTaken (1 + length css) other.seen other.mine cs → Gathers joined (css ++ cs ∷ [])
gathers_more joined seat other css cs is on other_on g taken =
    let mine : joined.mine ≡ merge_of seat.mine other.mine = ap (λ (s : SeatState). s.mine) is in record {
      numbers = g.numbers ++ other.mine ∷ [];
      are_in = in_snoc 1 (1 + length css) joined.seen g.numbers css other.mine cs
          (in_more 1 seat.seen joined.seen g.numbers css on g.are_in) refl
          (taken_more (1 + length css) other.seen joined.seen other.mine cs other_on taken);
      once = λ n.
          ap (times n) mine
          ∙ omega (arith, times_merge n seat.mine other.mine, g.once n, sum_snoc (times n) g.numbers other.mine);
      count =
          ap length mine
          ∙ omega (arith, length_merge seat.mine other.mine, g.count, sum_snoc (λ (l : List ℕ). length l) g.numbers other.mine);
    }

-- the seats of all feeds so far, those of the next one, and what a join makes of them
pub record Step (old other new : List SeatState) : Type 0 where
  pub same : length old ≡ length other
  pub is : new ≡ all_joined old other
  pub seen : AllZip HasSeenNoLess old new
  pub other_seen : AllZip HasSeenNoLess other new

count_snoc : (symbol : ℕ) (feeds : List (List Asked)) (commands : List Asked)
    → count_at symbol (feeds ++ commands ∷ []) ≡ count_at symbol feeds + length (commands_at symbol commands)
count_snoc symbol feeds commands = sum_snoc (λ (c : List Asked). length (commands_at symbol c)) feeds commands

module _ (old other new : List SeatState) (step : Step old other new) where
  more_at : (taken : List (List Asked)) (commands : List Asked) (symbol : ℕ) (joined : SeatState)
      → slice_get new symbol ≡ Some joined
      → ((symbol : ℕ) (seat : SeatState) → slice_get old symbol ≡ Some seat → Gathers seat (map (commands_at symbol) taken))
      → HaveTaken (1 + length taken) other commands
      → Gathers joined (map (commands_at symbol) (taken ++ commands ∷ []))
  more_at taken commands symbol joined at gathers has =
      let j = joins old other symbol joined step.same (ap (λ (l : List SeatState). slice_get l symbol) (sym step.is) ∙ at) in
      let count : 1 + length taken ≡ 1 + length (map (commands_at symbol) taken) = omega (arith, length-map taken (commands_at symbol)) in
      subst (Gathers joined) (sym (map-append (commands_at symbol) taken (commands ∷ [])))
      (gathers_more joined j.seat j.other (map (commands_at symbol) taken) (commands_at symbol commands) j.is
      (zip_at HasSeenNoLess old new symbol j.seat joined step.seen j.at at)
      (zip_at HasSeenNoLess other new symbol j.other joined step.other_seen j.other_at at)
      (gathers symbol j.seat j.at)
      (subst (λ (f : ℕ). HasTaken f j.other.seen j.other.mine (commands_at symbol commands)) count (has symbol j.other j.other_at)))

  -- the seat of a symbol behind the join
  new_at : (symbol : ℕ) → symbol < length old → Held new symbol
  new_at symbol lt =
      held new symbol (omega (arith, lt, ap length step.is, length_joined old other step.same))

  lacks_still : (setup : Setup) (taken feeds : List (List Asked)) (first commands : List Asked) (found : ℕ)
      → ((symbol : ℕ) → length (commands_at symbol first) ≤ length (commands_at symbol commands))
      → LacksOne setup taken feeds old found → LacksOne setup (taken ++ first ∷ []) (feeds ++ commands ∷ []) new found
  lacks_still setup taken feeds first commands found fewer lacks =
      let behind = new_at lacks.symbol (within old lacks.symbol lacks.seat lacks.at) in
      let on = zip_at HasSeenNoLess old new lacks.symbol lacks.seat behind.item step.seen lacks.at behind.at in record {
        symbol = lacks.symbol;
        seat = behind.item;
        at = behind.at;
        limit = lacks.limit;
        seen = omega (arith, lacks.seen, starts_long lacks.seat.seen behind.item.seen on);
        lacks = omega (arith, lacks.lacks, fewer lacks.symbol, count_snoc lacks.symbol taken first, count_snoc lacks.symbol feeds commands);
      }

  -- a symbol at which a feed left a command out, since its journal was full
  record Missing (setup : Setup) (first commands : List Asked) (found : ℕ) : Type 0 where
    symbol : ℕ
    seat : SeatState
    at : slice_get other symbol ≡ Some seat
    seen : found ≡ length seat.seen
    limit : found ≡ slice_index setup.limits symbol
    lacks : length (commands_at symbol first) < length (commands_at symbol commands)

  -- the part of a feed that was taken
  record Part (setup : Setup) (feed : ℕ) (commands : List Asked) (why : Option FloorRefusal) : Type 0 where
    first : List Asked
    has : HaveTaken feed other first
    fewer : (symbol : ℕ) → length (commands_at symbol first) ≤ length (commands_at symbol commands)
    whole : why ≡ None → first ≡ commands
    full : (found : ℕ) → why ≡ Some (Full found) → Missing setup first commands found

  fewer_at : (symbol : ℕ) (commands first : List Asked) (next : Asked) (left : List Asked) → commands ≡ first ++ next ∷ left
      → length (commands_at symbol first) ≤ length (commands_at symbol commands)
  fewer_at symbol commands first next left are =
      omega (
        arith,
        ap (λ (c : List Asked). length (commands_at symbol c)) are,
        ap length (commands_append symbol first (next ∷ left)),
        length-append (commands_at symbol first) (commands_at symbol (next ∷ left)),
      )

  one_less : (commands first : List Asked) (next : Asked) (left : List Asked) → commands ≡ first ++ next ∷ left
      → length (commands_at next.0 first) < length (commands_at next.0 commands)
  one_less commands first next left are =
      omega (
        arith,
        ap (λ (c : List Asked). length (commands_at next.0 c)) are,
        ap length (commands_append next.0 first (next ∷ left)),
        length-append (commands_at next.0 first) (commands_at next.0 (next ∷ left)),
        ap length (first_here next left),
      )

  part_stopped : (setup : Setup) (feed : ℕ) (commands : List Asked) (refusal : FloorRefusal)
      → HaveStopped setup feed other commands refusal → Part setup feed commands (Some refusal)
  part_stopped setup feed commands NoMemory stopped = record {
    first = stopped.first;
    has = stopped.taken;
    fewer = λ symbol. fewer_at symbol commands stopped.first stopped.next stopped.left stopped.commands_are;
    whole = λ none. absurd (cc);
    full = λ found full. absurd (cc);
  }
  part_stopped setup feed commands (Full found) stopped = record {
    first = stopped.first;
    has = stopped.taken;
    fewer = λ symbol. fewer_at symbol commands stopped.first stopped.next stopped.left stopped.commands_are;
    whole = λ none. absurd (cc);
    full = λ number full.
        let same : number ≡ found = (cc) in record {
          symbol = stopped.next.0;
          seat = stopped.full.0;
          at = stopped.full.1;
          seen = same ∙ stopped.full.2;
          limit = same ∙ stopped.full.3;
          lacks = one_less commands stopped.first stopped.next stopped.left stopped.commands_are;
        };
  }

  part_of : (setup : Setup) (feed : ℕ) (commands : List Asked) (why : Option FloorRefusal)
      → HaveWorked setup feed other commands why → Part setup feed commands why
  part_of setup feed commands None worked = record {
    first = commands;
    has = worked;
    fewer = λ symbol. omega arith;
    whole = λ none. refl;
    full = λ found full. absurd (cc);
  }
  part_of setup feed commands (Some refusal) worked = part_stopped setup feed commands refusal worked

  lacks_now : (setup : Setup) (taken feeds : List (List Asked)) (first commands : List Asked) (found : ℕ) → taken ≡ feeds
      → Missing setup first commands found → LacksOne setup (taken ++ first ∷ []) (feeds ++ commands ∷ []) new found
  lacks_now setup taken feeds first commands found same missing =
      let behind = new_at missing.symbol (omega (arith, within other missing.symbol missing.seat missing.at, step.same)) in
      let on = zip_at HasSeenNoLess other new missing.symbol missing.seat behind.item step.other_seen missing.at behind.at in record {
        symbol = missing.symbol;
        seat = behind.item;
        at = behind.at;
        limit = missing.limit;
        seen = omega (arith, missing.seen, starts_long missing.seat.seen behind.item.seen on);
        lacks = omega (
          arith,
          missing.lacks,
          ap (count_at missing.symbol) same,
          count_snoc missing.symbol taken first,
          count_snoc missing.symbol feeds commands,
        );
      }

  built : (setup : Setup) (feeds : List (List Asked)) (commands : List Asked) (refused why combined : Option FloorRefusal)
      → (c : Collects setup feeds old refused) (p : Part setup (1 + length c.taken) commands why)
      → (combined ≡ None → (refused ≡ None) × (why ≡ None))
      → ((found : ℕ) → combined ≡ Some (Full found)
      → LacksOne setup (c.taken ++ p.first ∷ []) (feeds ++ commands ∷ []) new found)
      → Collects setup (feeds ++ commands ∷ []) new combined
  built setup feeds commands refused why combined c p none full = record {
    taken = c.taken ++ p.first ∷ [];
    size = omega (arith, length-append c.taken (p.first ∷ []), length-append feeds (commands ∷ []), c.size);
    gathers = λ symbol seat at. more_at c.taken p.first symbol seat at c.gathers p.has;
    whole = λ e. λ k. c.whole (none e).0 k ++ p.whole (none e).1 k ∷ [];
    within = λ symbol.
        omega (arith, count_snoc symbol c.taken p.first, count_snoc symbol feeds commands, c.within symbol, p.fewer symbol);
    full = full;
  }

  pub collect : (setup : Setup) (feeds : List (List Asked)) (commands : List Asked) (refused why : Option FloorRefusal)
      → Collects setup feeds old refused → HaveWorked setup (1 + length feeds) other commands why
      → Collects setup (feeds ++ commands ∷ []) new (option_or refused why)
  collect setup feeds commands None why c worked =
      let at : 1 + length feeds ≡ 1 + length c.taken = omega (arith, c.size) in
      let p = part_of setup (1 + length c.taken) commands why
      (subst (λ (f : ℕ). HaveWorked setup f other commands why) at worked) in
      built setup feeds commands None why why c p (λ e. (refl, e))
      (λ found e. lacks_now setup c.taken feeds p.first commands found (c.whole refl) (p.full found e))
  collect setup feeds commands (Some refusal) why c worked =
      let at : 1 + length feeds ≡ 1 + length c.taken = omega (arith, c.size) in
      let p = part_of setup (1 + length c.taken) commands why
      (subst (λ (f : ℕ). HaveWorked setup f other commands why) at worked) in
      built setup feeds commands (Some refusal) why (Some refusal) c p (λ e. absurd (cc))
      (λ found e. lacks_still setup c.taken feeds p.first commands found p.fewer (c.full found e))
