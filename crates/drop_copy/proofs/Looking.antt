-- Look by look the copies are gathered.
use Rattle.std.proofs.Common.{◌≡◌, ◌≢◌, ◌<◌, ◌≤◌, ◌+◌, ◌-◌, ◌*◌, max, ℕ, List, [], ◌∷◌, ◌++◌, map, length, drop, get_or, refl, sym, ◌∙◌, ap, subst, arith, append-nil, append_assoc, length-append}
use Rattle.std.specs.List.{flat_map, range_with_len}
use Rattle.std.proofs.lemmas.List.{get_or_append_left, get_or-append_right, get_or-drop}
use Rattle.std.proofs.Math.Seq.{get_or-append_seam}
use mathlib.Core.Logic.{dite}
use native.Mathlib.Decide.{ℕ_discrete}
use Rattle.venue_words.specs.declared.command.Event.{Event}
use Rattle.venue_words.specs.declared.config.Config.{Config}
use Rattle.venue_words.specs.declared.report.Report.{Report}
use Rattle.venue_words.specs.Floors.{SymbolView, TurnsRose}
use Rattle.venue_words.specs.Journals.{reports_of}
use Rattle.session_core.specs.declared.message.Message.{Message}
use Rattle.member_gate.specs.Answering.{name_at}
use Rattle.member_gate.specs.Reporting.{cursor_at}
use Rattle.member_gate.specs.Submitting.{Waited}
use Rattle.member_gate.proofs.Looking.{waited_on, ahead_on, all_seen}
use Rattle.drop_copy.specs.Copies.{copy_of, copies, copies_at, symbol_copies, copies_past, cursor_of}
use Rattle.drop_copy.specs.Looks.{WentOn, AllWentOn, LookedSoFar, LookedRow, row_copies}
use Rattle.drop_copy.proofs.Spans.{copies_grown, copies_to_end}
use Rattle.drop_copy.proofs.Cursors.{went_now, went_kept, went_within}
use Rattle.drop_copy.proofs.Ranges.{flat_next, flat_same, place_before, next_row}
use Rattle.drop_copy.proofs.Views.{waited_self, kept_rose}

-- ---- the listed members of one symbol

module _ (made : List Event → List Report) (config : Config) (symbol : ℕ) (members cursors : List ℕ) (before : SymbolView) (messages : List Message) (moved : List ℕ) where
  abbrev pub Looked : SymbolView → List Message → List ℕ → ℕ → Type 0
  Looked now messages' moved' count = LookedSoFar made config symbol members cursors before now messages messages' moved moved' count

  pub row_none : Looked before messages moved 0
  row_none = record {
    row = [];
    moved_are = sym (append-nil moved);
    many = refl;
    messages_are = sym (append-nil messages);
    each = λ place h. absurd (omega arith);
    last = λ place h. absurd (omega arith);
    turns = λ h. absurd (omega arith);
  }

  abbrev copies_of_row : List ℕ → List Report → ℕ → List Message
  copies_of_row row reports place = row_copies config symbol members cursors (length moved) row reports place

  -- one look more, for the next member
  pub row_more : (now next : SymbolView) (messages' more : List Message) (moved' further : List ℕ) (count from front member : ℕ)
      → Looked now messages' moved' count → Waited before now → Waited now next → TurnsRose now.turns next.turns
      → next.reports ≡ made next.journal → member ≡ get_or members count 0
      → from ≡ cursor_at cursors (length moved') → front ≡ length next.reports
      → more ≡ messages' ++ map (copy_of (name_at config.members member) (name_at config.symbols symbol)) (reports_of member from next.reports)
      → further ≡ moved' ++ max from front ∷ []
      → Looked next more further (count + 1)
  row_more now next messages' more moved' further count from front member l p q rose m is f e r s =
      let row = l.row ++ max from front ∷ [] in
      let width : length moved' ≡ length moved + count = ap length l.moved_are ∙ length-append moved l.row ∙ ap (λ (n : ℕ). length moved + n) l.many in
      let start : from ≡ cursor_at cursors (length moved + count) = f ∙ ap (cursor_at cursors) width in
      let step : max from front ≡ max (cursor_at cursors (length moved + count)) (length next.reports) = rw (e, start) refl in
      let here : get_or row count 0 ≡ max from front
      = ap (λ (n : ℕ). get_or row n 0) (sym l.many) ∙ get_or-append_seam l.row (max from front) [] 0 in
      let there : (place : ℕ) → place < count → get_or row place 0 ≡ get_or l.row place 0
      = λ place h. get_or_append_left l.row (max from front ∷ []) 0 place (omega (arith, l.many)) in
      let old : (place : ℕ) → place < count → copies_of_row row next.reports place ≡ copies_of_row l.row now.reports place
      = λ place h.
      ap (λ (to : ℕ). copies config (name_at config.symbols symbol) (get_or members place 0) (cursor_at cursors (length moved + place)) to next.reports) (there place h)
      ∙ copies_grown config (name_at config.symbols symbol) (get_or members place 0) (cursor_at cursors (length moved + place)) (get_or l.row place 0) now.reports next.reports q.reports
      (went_within made before now (cursor_at cursors (length moved + place)) (get_or l.row place 0) (l.each place h)) in
      let new : copies_of_row row next.reports count ≡ map (copy_of (name_at config.members member) (name_at config.symbols symbol)) (reports_of member from next.reports)
      = ap (λ (to : ℕ). copies config (name_at config.symbols symbol) (get_or members count 0) (cursor_at cursors (length moved + count)) to next.reports) (here ∙ step)
      ∙ sym (copies_to_end config (name_at config.symbols symbol) (get_or members count 0) (cursor_at cursors (length moved + count)) next.reports)
      ∙ ap (λ (n : ℕ). map (copy_of (name_at config.members n) (name_at config.symbols symbol)) (reports_of n (cursor_at cursors (length moved + count)) next.reports)) (sym is)
      ∙ ap (λ (n : ℕ). map (copy_of (name_at config.members member) (name_at config.symbols symbol)) (reports_of member n next.reports)) (sym start) in
      let all = flat_map (copies_of_row l.row now.reports) (range_with_len 0 count) in record {
        row = row;
        moved_are = s ∙ ap (λ (xs : List ℕ). xs ++ max from front ∷ []) l.moved_are ∙ append_assoc moved l.row (max from front ∷ []);
        many = length-append l.row (max from front ∷ []) ∙ ap (λ (n : ℕ). n + 1) l.many;
        messages_are =
            r ∙ ap (λ (ms : List Message). ms ++ map (copy_of (name_at config.members member) (name_at config.symbols symbol)) (reports_of member from next.reports)) l.messages_are
            ∙ append_assoc messages all (map (copy_of (name_at config.members member) (name_at config.symbols symbol)) (reports_of member from next.reports))
            ∙ ap (λ (ms : List Message). messages ++ (all ++ ms)) (sym new)
            ∙ ap (λ (ms : List Message). messages ++ (ms ++ copies_of_row row next.reports count)) (sym (flat_same (copies_of_row row next.reports) (copies_of_row l.row now.reports) count old))
            ∙ ap (λ (ms : List Message). messages ++ ms) (sym (flat_next (copies_of_row row next.reports) count));
        each = λ place h.
            dite (ℕ_discrete place count)
            (λ at. subst (λ (n : ℕ). WentOn made before next (cursor_at cursors (length moved + n)) (get_or row n 0)) (sym at)
            (went_now made before now next (cursor_at cursors (length moved + count)) (get_or row count 0) p q m (here ∙ step)))
            (λ away. let inside : place < count = omega arith in
            subst (λ (n : ℕ). WentOn made before next (cursor_at cursors (length moved + place)) n) (sym (there place inside))
            (went_kept made before now next (cursor_at cursors (length moved + place)) (get_or l.row place 0) (l.each place inside) q));
        last = λ place h.
            let at : place ≡ count = omega arith in
            ap (λ (n : ℕ). get_or row n 0) at ∙ here ∙ step
            ∙ ap (λ (n : ℕ). max (cursor_at cursors (length moved + n)) (length next.reports)) (sym at);
        turns = λ h. kept_rose before.turns now.turns next.turns p.turns rose;
      }

-- ---- all symbols

-- nothing is said of what a look does
abbrev any_look : ℕ → SymbolView → SymbolView → Type 0
any_look symbol before after = Unit {0}

module _ {F : Type 0} (at : F → ℕ → SymbolView) (made : ℕ → List Event → List Report) (config : Config) (members cursors : List ℕ) (before : F) where
  abbrev reports_of_floor : F → ℕ → List Report
  reports_of_floor floor symbol = (at floor symbol).reports

  -- the first symbols, so many, were looked at
  pub record AllLooked (count : ℕ) (now : F) (messages : List Message) (moved : List ℕ) : Type 0 where
    pub waited : (symbol : ℕ) → Waited (at before symbol) (at now symbol)
    pub ahead : (symbol : ℕ) → count ≤ symbol → at now symbol ≡ at before symbol
    pub many : length moved ≡ count * length members
    pub messages_are : messages ≡ flat_map (symbol_copies config members cursors moved (reports_of_floor now)) (range_with_len 0 count)
    pub each : (symbol place : ℕ) → symbol < count → place < length members
        → WentOn (made symbol) (at before symbol) (at now symbol) (cursor_of members cursors symbol place) (cursor_of members moved symbol place)
    pub last : (symbol place : ℕ) → symbol < count → place + 1 ≡ length members
        → cursor_of members moved symbol place ≡ max (cursor_of members cursors symbol place) (length (at now symbol).reports)
    pub turns : 0 < length members → (symbol : ℕ) → symbol < count → TurnsRose (at before symbol).turns (at now symbol).turns

  pub all_none : AllLooked 0 before [] []
  all_none = record {
    waited = λ symbol. waited_self (at before symbol);
    ahead = λ symbol h. refl;
    many = let e : 0 ≡ 0 * length members = omega arith in e;
    messages_are = refl;
    each = λ symbol place h. absurd (omega arith);
    last = λ symbol place h. absurd (omega arith);
    turns = λ some symbol h. absurd (omega arith);
  }

  -- the next symbol
  pub all_more : (count : ℕ) (now next : F) (messages more : List Message) (moved further : List ℕ)
      → AllLooked count now messages moved → ((other : ℕ) → other ≢ count → at next other ≡ at now other) → Waited (at now count) (at next count)
      → LookedRow (made count) config count members cursors (at now count) (at next count) messages more moved further
      → AllLooked (count + 1) next more further
  all_more count now next messages more moved further l others one r =
      let width = length members in
      let kept : (symbol place : ℕ) → symbol < count → place < width → cursor_of members further symbol place ≡ cursor_of members moved symbol place
      = λ symbol place h k.
      let inside : symbol * width + place < count * width = place_before symbol count place width h k in
      ap (λ (xs : List ℕ). get_or xs (symbol * width + place) 0) r.moved_are
      ∙ get_or_append_left moved r.row 0 (symbol * width + place) (omega (arith, l.many, inside)) in
      let added : (place : ℕ) → cursor_of members further count place ≡ get_or r.row place 0
      = λ place.
      let back : (count * width + place) - count * width ≡ place = omega arith in
      ap (λ (xs : List ℕ). get_or xs (count * width + place) 0) r.moved_are
      ∙ get_or-append_right moved r.row (count * width) (count * width + place) 0 l.many (omega arith)
      ∙ ap (λ (n : ℕ). get_or r.row n 0) back in
      let start : (place : ℕ) → cursor_at cursors (length moved + place) ≡ cursor_of members cursors count place
      = λ place. ap (λ (n : ℕ). cursor_at cursors (n + place)) l.many in
      let view : (symbol : ℕ) → symbol < count → at next symbol ≡ at now symbol = λ symbol h. others symbol (λ e. absurd (omega arith)) in
      let first : at now count ≡ at before count = l.ahead count (omega arith) in
      let old : (symbol : ℕ) → symbol < count → symbol_copies config members cursors further (reports_of_floor next) symbol ≡ symbol_copies config members cursors moved (reports_of_floor now) symbol
      = λ symbol h. flat_same (copies_at config members cursors further (reports_of_floor next) symbol) (copies_at config members cursors moved (reports_of_floor now) symbol) width
      (λ place k.
      ap (λ (to : ℕ). copies config (name_at config.symbols symbol) (get_or members place 0) (cursor_of members cursors symbol place) to (at next symbol).reports) (kept symbol place h k)
      ∙ ap (λ (v : SymbolView). copies config (name_at config.symbols symbol) (get_or members place 0) (cursor_of members cursors symbol place) (cursor_of members moved symbol place) v.reports) (view symbol h)) in
      let new : flat_map (row_copies config count members cursors (length moved) r.row (at next count).reports) (range_with_len 0 width)
      ≡ symbol_copies config members cursors further (reports_of_floor next) count
      = flat_same (row_copies config count members cursors (length moved) r.row (at next count).reports) (copies_at config members cursors further (reports_of_floor next) count) width
      (λ place k.
      ap (λ (from : ℕ). copies config (name_at config.symbols count) (get_or members place 0) from (get_or r.row place 0) (at next count).reports) (start place)
      ∙ ap (λ (to : ℕ). copies config (name_at config.symbols count) (get_or members place 0) (cursor_of members cursors count place) to (at next count).reports) (sym (added place))) in
      let all = flat_map (symbol_copies config members cursors moved (reports_of_floor now)) (range_with_len 0 count) in record {
        waited = waited_on at config 0 cursors all_seen any_look before now next count l.waited l.ahead others one;
        ahead = ahead_on at config 0 cursors all_seen any_look before now next count l.ahead others;
        many = ap length r.moved_are ∙ length-append moved r.row ∙ omega (arith, l.many, r.many, next_row count width);
        messages_are =
            r.messages_are ∙ ap (λ (ms : List Message). ms ++ flat_map (row_copies config count members cursors (length moved) r.row (at next count).reports) (range_with_len 0 width)) l.messages_are
            ∙ ap (λ (ms : List Message). all ++ ms) new
            ∙ ap (λ (ms : List Message). ms ++ symbol_copies config members cursors further (reports_of_floor next) count)
            (sym (flat_same (symbol_copies config members cursors further (reports_of_floor next)) (symbol_copies config members cursors moved (reports_of_floor now)) count old))
            ∙ sym (flat_next (symbol_copies config members cursors further (reports_of_floor next)) count);
        each = λ symbol place h k.
            dite (ℕ_discrete symbol count)
            (λ is. subst (λ (n : ℕ). WentOn (made n) (at before n) (at next n) (cursor_of members cursors n place) (cursor_of members further n place)) (sym is)
            (subst (λ (v : SymbolView). WentOn (made count) v (at next count) (cursor_of members cursors count place) (cursor_of members further count place)) first
            (subst (λ (n : ℕ). WentOn (made count) (at now count) (at next count) (cursor_of members cursors count place) n) (sym (added place))
            (subst (λ (n : ℕ). WentOn (made count) (at now count) (at next count) n (get_or r.row place 0)) (start place) (r.each place k)))))
            (λ away. let inside : symbol < count = omega arith in
            subst (λ (v : SymbolView). WentOn (made symbol) (at before symbol) v (cursor_of members cursors symbol place) (cursor_of members further symbol place)) (sym (view symbol inside))
            (subst (λ (n : ℕ). WentOn (made symbol) (at before symbol) (at now symbol) (cursor_of members cursors symbol place) n) (sym (kept symbol place inside k)) (l.each symbol place inside k)));
        last = λ symbol place h k.
            dite (ℕ_discrete symbol count)
            (λ is. ap (λ (n : ℕ). cursor_of members further n place) is ∙ added place ∙ r.last place k
            ∙ ap (λ (n : ℕ). max n (length (at next count).reports)) (start place)
            ∙ ap (λ (n : ℕ). max (cursor_of members cursors n place) (length (at next n).reports)) (sym is))
            (λ away. let inside : symbol < count = omega arith in
            kept symbol place inside (omega arith) ∙ l.last symbol place inside k
            ∙ ap (λ (v : SymbolView). max (cursor_of members cursors symbol place) (length v.reports)) (sym (view symbol inside)));
        turns = λ some symbol h.
            dite (ℕ_discrete symbol count)
            (λ is. subst (λ (n : ℕ). TurnsRose (at before n).turns (at next n).turns) (sym is)
            (subst (λ (v : SymbolView). TurnsRose v.turns (at next count).turns) first (r.turns some)))
            (λ away. let inside : symbol < count = omega arith in
            subst (λ (v : SymbolView). TurnsRose (at before symbol).turns v.turns) (sym (view symbol inside)) (l.turns some symbol inside));
      }

  -- behind the last symbol the cursors that are left stay
  pub all_went_on : (now : F) (messages : List Message) (moved all : List ℕ) → AllLooked (length config.symbols) now messages moved
      → all ≡ moved ++ drop (length moved) cursors
      → AllWentOn at made (length config.symbols) members cursors all before now
  all_went_on now messages moved all l e =
      let width = length members in
      let symbols = length config.symbols in
      let kept : (symbol place : ℕ) → symbol < symbols → place < width → cursor_of members all symbol place ≡ cursor_of members moved symbol place
      = λ symbol place h k.
      let inside : symbol * width + place < symbols * width = place_before symbol symbols place width h k in
      ap (λ (xs : List ℕ). get_or xs (symbol * width + place) 0) e
      ∙ get_or_append_left moved (drop (length moved) cursors) 0 (symbol * width + place) (omega (arith, l.many, inside)) in record {
        each = λ symbol place h k.
            subst (λ (n : ℕ). WentOn (made symbol) (at before symbol) (at now symbol) (cursor_of members cursors symbol place) n) (sym (kept symbol place h k)) (l.each symbol place h k);
        last = λ symbol place h k. kept symbol place h (omega arith) ∙ l.last symbol place h k;
        rest = λ index h.
            let back : length moved + (index - length moved) ≡ index = omega (arith, l.many) in
            ap (λ (xs : List ℕ). get_or xs index 0) e
            ∙ get_or-append_right moved (drop (length moved) cursors) (length moved) index 0 refl (omega (arith, l.many))
            ∙ get_or-drop (length moved) cursors (index - length moved) 0 ∙ ap (λ (n : ℕ). get_or cursors n 0) back;
      }

  pub all_messages : (now : F) (messages : List Message) (moved all : List ℕ) → AllLooked (length config.symbols) now messages moved
      → all ≡ moved ++ drop (length moved) cursors
      → messages ≡ copies_past config members cursors all (reports_of_floor now)
  all_messages now messages moved all l e =
      let width = length members in
      let symbols = length config.symbols in
      l.messages_are ∙ flat_same (symbol_copies config members cursors moved (reports_of_floor now)) (symbol_copies config members cursors all (reports_of_floor now)) symbols
      (λ symbol h. flat_same (copies_at config members cursors moved (reports_of_floor now) symbol) (copies_at config members cursors all (reports_of_floor now) symbol) width
      (λ place k.
      let inside : symbol * width + place < symbols * width = place_before symbol symbols place width h k in
      ap (λ (to : ℕ). copies config (name_at config.symbols symbol) (get_or members place 0) (cursor_of members cursors symbol place) to (at now symbol).reports)
      (sym (ap (λ (xs : List ℕ). get_or xs (symbol * width + place) 0) e
      ∙ get_or_append_left moved (drop (length moved) cursors) 0 (symbol * width + place) (omega (arith, l.many, inside))))))
