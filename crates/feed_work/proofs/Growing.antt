-- How a floor's own calls grow, command by command.
use Rattle.std.proofs.Common.{◌≡◌, ◌≢◌, ℕ, zero, suc, ◌+◌, ◌-◌, ◌<◌, ◌≤◌, List, [], ◌∷◌, ◌++◌, length, sym, refl, ap, ◌∙◌, subst, arith, append_assoc, append-nil, length-append, Some, slice_get}
use mathlib.Core.Logic.{dite}
use native.Mathlib.Decide.{ℕ_discrete}
use Rattle.venue_words.specs.declared.command.Event.{Event}
use Rattle.venue_words.specs.Journals.{StartsWith, event}
use Rattle.venue_words.specs.Floors.{SymbolView, Records, AddsNone}
use Rattle.eager_meaning.specs.Interleaving.{Timed}
use Rattle.turn_gate.specs.Numbers.{IncreasesWithin}
use Rattle.feed_work.specs.Feeds.{Asked, commands_at}
use Rattle.feed_work.specs.Working.{Stand, Grew, GrewByAll}
use Rattle.feed_work.proofs.Commands.{timed, commands_here, commands_else}

get_more : {A : Type 0} (xs ys : List A) (k : ℕ) (x : A) → slice_get xs k ≡ Some x → slice_get (xs ++ ys) k ≡ Some x
get_more [] ys k x at = absurd (cc)
get_more (z ∷ zs) ys zero x at = at
get_more (z ∷ zs) ys (suc k) x at = get_more zs ys k x at

get_last : {A : Type 0} (xs : List A) (x : A) → slice_get (xs ++ x ∷ []) (length xs) ≡ Some x
get_last [] x = refl
get_last (z ∷ zs) x = get_last zs x

pub stand_more : (feed : ℕ) (j j' : List Event) (ns : List ℕ) (cs : List Timed) → StartsWith j' j → Stand feed j ns cs → Stand feed j' ns cs
stand_more feed j j' [] [] s h = tt
stand_more feed j j' [] (c ∷ cs) s h = h
stand_more feed j j' (n ∷ ns) [] s h = h
stand_more feed j j' (n ∷ ns) (c ∷ cs) s h =
    (ap (λ (l : List Event). slice_get l (n - 1)) s.1 ∙ get_more j s.0 (n - 1) _ h.0, stand_more feed j j' ns cs s h.1)

stand_snoc : (feed : ℕ) (j : List Event) (ns : List ℕ) (cs : List Timed) (n : ℕ) (c : Timed) → Stand feed j ns cs
    → slice_get j (n - 1) ≡ Some (event n feed c.0 c.1) → Stand feed j (ns ++ n ∷ []) (cs ++ c ∷ [])
stand_snoc feed j [] [] n c h at = (at, tt)
stand_snoc feed j [] (k ∷ ks) n c h at = absurd h
stand_snoc feed j (m ∷ ms) [] n c h at = absurd h
stand_snoc feed j (m ∷ ms) (k ∷ ks) n c h at = (h.0, stand_snoc feed j ms ks n c h.1 at)

pub starts_on : (xs ys zs : List Event) → StartsWith zs ys → StartsWith ys xs → StartsWith zs xs
starts_on xs ys zs a b = (b.0 ++ a.0, a.1 ∙ ap (λ (w : List Event). w ++ a.0) b.1 ∙ append_assoc xs b.0 a.0)

pub starts_self : (xs : List Event) → StartsWith xs xs
starts_self xs = ([], sym (append-nil xs))

pub starts_long : (xs ys : List Event) → StartsWith ys xs → length xs ≤ length ys
starts_long xs ys s = omega (arith, ap length s.1, length-append xs s.0)

pub rises_more : (low : ℕ) (ns : List ℕ) (most more : ℕ) → IncreasesWithin low most ns → most ≤ more → IncreasesWithin low more ns
rises_more low [] most more r le = let h : low ≤ most = r in omega arith
rises_more low (n ∷ ns) most more r le = (r.0, rises_more n ns most more r.1 le)

rises_snoc : (low : ℕ) (ns : List ℕ) (most n : ℕ) → IncreasesWithin low most ns → most < n → IncreasesWithin low n (ns ++ n ∷ [])
rises_snoc low [] most n r lt = let h : low ≤ most = r in (omega arith, omega arith)
rises_snoc low (m ∷ ms) most n r lt = (r.0, rises_snoc m ms most n r.1 lt)

grew_none : (feed : ℕ) (a : SymbolView) → Grew feed a a []
grew_none feed a =
    record { numbers = []; mine = sym (append-nil a.mine); stand = tt; rise = omega arith; seen = starts_self a.journal }

grew_wait : (feed : ℕ) (a b c : SymbolView) (cs : List Timed) → Grew feed a b cs → AddsNone b c → Grew feed a c cs
grew_wait feed a b c cs g n = record {
  numbers = g.numbers;
  mine = n.1 ∙ g.mine;
  stand = stand_more feed b.journal c.journal g.numbers cs n.0 g.stand;
  rise = rises_more (length a.journal) g.numbers (length b.journal) (length c.journal) g.rise (starts_long b.journal c.journal n.0);
  seen = starts_on a.journal b.journal c.journal n.0 g.seen;
}

grew_more : (feed : ℕ) (a b c : SymbolView) (cs : List Timed) (asked : Timed) (n : ℕ) → Grew feed a b cs
    → Records b c n feed asked.0 asked.1 → Grew feed a c (cs ++ asked ∷ [])
grew_more feed a b c cs asked n g r =
    let e : Event = event n feed asked.0 asked.1 in
    let on : StartsWith c.journal b.journal = (r.0 ++ e ∷ [], r.1 ∙ append_assoc b.journal r.0 (e ∷ [])) in
    let long : length c.journal ≡ length (b.journal ++ r.0) + 1 = ap length r.1 ∙ length-append (b.journal ++ r.0) (e ∷ []) in
    let number : n ≡ length c.journal = r.2 in
    let place : n - 1 ≡ length (b.journal ++ r.0) = omega arith in
    let at : slice_get c.journal (n - 1) ≡ Some e = (λ k. slice_get (r.1 k) (place k)) ∙ get_last (b.journal ++ r.0) e in
    let more = length-append b.journal r.0 in record {
      numbers = g.numbers ++ n ∷ [];
      mine = r.3 ∙ ap (λ (ns : List ℕ). ns ++ n ∷ []) g.mine ∙ append_assoc a.mine g.numbers (n ∷ []);
      stand = stand_snoc feed c.journal g.numbers cs n asked (stand_more feed b.journal c.journal g.numbers cs on g.stand) at;
      rise = subst (λ (m : ℕ). IncreasesWithin (length a.journal) m (g.numbers ++ n ∷ [])) number
          (rises_snoc (length a.journal) g.numbers (length b.journal) n g.rise (omega arith));
      seen = starts_on a.journal b.journal c.journal on g.seen;
    }

-- no command was submitted yet
pub begin : (feed : ℕ) (a : ℕ → SymbolView) → GrewByAll feed a a []
begin feed a symbol = grew_none feed (a symbol)

-- a command that was taken
pub turn : (feed : ℕ) (a b c : ℕ → SymbolView) (xs : List Asked) (asked : Asked) (n : ℕ) → GrewByAll feed a b xs
    → ((other : ℕ) → other ≢ asked.0 → c other ≡ b other) → Records (b asked.0) (c asked.0) n feed asked.1 asked.2
    → GrewByAll feed a c (xs ++ asked ∷ [])
turn feed a b c xs asked n g others r symbol =
    dite (ℕ_discrete symbol asked.0)
    (λ is. subst (λ (s : ℕ). Grew feed (a s) (c s) (commands_at s (xs ++ asked ∷ []))) (sym is)
    (subst (Grew feed (a asked.0) (c asked.0)) (sym (commands_here asked.0 xs asked refl))
    (grew_more feed (a asked.0) (b asked.0) (c asked.0) (commands_at asked.0 xs) (timed asked) n (g asked.0) r)))
    (λ not. subst (Grew feed (a symbol) (c symbol)) (sym (commands_else symbol xs asked (λ e. not (sym e))))
    (subst (λ (v : SymbolView). Grew feed (a symbol) v (commands_at symbol xs)) (sym (others symbol not)) (g symbol)))

-- a command that was refused
pub wait : (feed : ℕ) (a b c : ℕ → SymbolView) (xs : List Asked) (at : ℕ) → GrewByAll feed a b xs
    → ((other : ℕ) → other ≢ at → c other ≡ b other) → AddsNone (b at) (c at) → GrewByAll feed a c xs
wait feed a b c xs at g others r symbol =
    dite (ℕ_discrete symbol at)
    (λ is. subst (λ (s : ℕ). Grew feed (a s) (c s) (commands_at s xs)) (sym is)
    (grew_wait feed (a at) (b at) (c at) (commands_at at xs) (g at) r))
    (λ not. subst (λ (v : SymbolView). Grew feed (a symbol) v (commands_at symbol xs)) (sym (others symbol not)) (g symbol))

-- all were taken
pub finished : (feed : ℕ) (a b : ℕ → SymbolView) (all xs rest : List Asked) → all ≡ xs ++ rest → length rest ≡ 0
    → GrewByAll feed a b xs → GrewByAll feed a b all
finished feed a b all xs [] is none g = subst (GrewByAll feed a b) (sym (is ∙ append-nil xs)) g
finished feed a b all xs (x ∷ rest) is none g = absurd (omega (arith, none))
