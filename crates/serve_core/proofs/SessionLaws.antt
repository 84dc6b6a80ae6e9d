-- One more turn of a session.
use Rattle.std.proofs.Common.{◌≡◌, ◌+◌, ◌++◌, ◌∷◌, [], ℕ, ℤ, Bool, true, false, cond, count_by, arith, List, Option, Some, None, map, refl, sym, ◌∙◌, ap, subst, append-nil, append_assoc}
use Rattle.std.specs.List.{All}
use Rattle.std.proofs.lemmas.Grind.{flat_map-append}
use Rattle.std.proofs.lemmas.List.{map-append}
use Rattle.std.proofs.lemmas.List.Sums.{sum_by-append}
use Rattle.std.proofs.lemmas.List.Elements.{All-append, All-cons, All-head, All-nil, All-tail, filter-append}
use Rattle.venue_words.specs.declared.command.Command.{Command}
use Rattle.venue_words.specs.declared.config.Config.{Config}
use Rattle.venue_words.specs.Floors.{SymbolView, TurnsKept, TurnsRose}
use Rattle.venue_words.specs.Journals.{StartsWith}
use Rattle.io_edge.specs.Links.{Told, Tells, WasPut}
use Rattle.member_gate.specs.Answering.{Submission}
use Rattle.member_gate.specs.Desks.{DeskView}
use Rattle.line_work.specs.Commands.{commands_for}
use Rattle.link_work.specs.Turns.{LinkTurn, Answered, GaveMoments, TurnsWere}
use Rattle.serve_core.specs.Growing.{Grew}
use Rattle.serve_core.specs.Rounds.{Served, Serves, Round, IsRound, Follow, round_of, put_in, put_by, commands_in, commands_by, turns_of}
use Rattle.serve_core.specs.Turning.{GrewBy, TookTurn}
use Rattle.serve_core.specs.Sessions.{Ground, ground, RoseBy, SoFar, looks}
use Rattle.serve_core.proofs.Catching.{caught_turn}
use Rattle.serve_core.proofs.Grows.{grew_then, grew_same, starts_self, starts_then}

-- ---- what is told

answered_more : (xs : List LinkTurn) (p : List ℕ) (turn : LinkTurn) (q : List ℕ) (a b c d : Option Told)
    → Tells (Answered xs p) a b → Tells (Answered (turn ∷ []) []) b c → Tells (WasPut q) c d
    → Tells (Answered (xs ++ turn ∷ []) (p ++ q)) a d
answered_more xs p turn q None b c d h k l = tt
answered_more xs p turn q (Some a) None c d h k l = absurd h
answered_more xs p turn q (Some a) (Some b) None d h k l = absurd k
answered_more xs p turn q (Some a) (Some b) (Some c) None h k l = absurd l
answered_more xs p turn q (Some a) (Some b) (Some c) (Some d) h k l = record {
  answers = ap (λ (t : Told). t.answers) l ∙ k.answers ∙ ap (λ (as0 : List _). as0 ++ turn.answer ∷ []) h.answers
      ∙ append_assoc a.answers (map (λ (t : LinkTurn). t.answer) xs) (turn.answer ∷ [])
      ∙ ap (λ (as0 : List _). a.answers ++ as0) (sym (map-append (λ (t : LinkTurn). t.answer) xs (turn ∷ [])));
  put_is = ap (λ (t : Told). t.put) l
      ∙ ap (λ (bytes : List ℕ). bytes ++ q) (k.put_is ∙ append-nil b.put ∙ h.put_is)
      ∙ append_assoc a.put p q;
}

pub moments_more : (xs ys : List ℤ) (a b c : Option (List ℤ)) → GaveMoments xs a b → GaveMoments ys b c → GaveMoments (xs ++ ys) a c
moments_more xs ys a b None h k = tt
moments_more xs ys a None (Some c) h k = absurd k
moments_more xs ys None (Some b) (Some c) h k = absurd h
moments_more xs ys (Some a) (Some b) (Some c) h k = k ∙ ap (λ (l : List ℤ). l ++ ys) h ∙ append_assoc a xs ys

pub told_more : (xs : List LinkTurn) (p : List ℕ) (turn : LinkTurn) (q : List ℕ) (a b c d : Option Told) (s t u : Option (List ℤ))
    → TurnsWere xs p a s b t → TurnsWere (turn ∷ []) [] b t c u → Tells (WasPut q) c d
    → TurnsWere (xs ++ turn ∷ []) (p ++ q) a s d u
told_more xs p turn q a b c d s t u h k l = record {
  link_told = answered_more xs p turn q a b c d h.link_told k.link_told l;
  clock_told = subst (λ (ms : List ℤ). GaveMoments ms s u) (sym (map-append (λ (x : LinkTurn). x.moment) xs (turn ∷ [])))
      (moments_more (map (λ (x : LinkTurn). x.moment) xs) (turn.moment ∷ []) s t u h.clock_told k.clock_told);
}

pub answered_none : (a : Option Told) → Tells (Answered [] []) a a
answered_none None = tt
answered_none (Some a) = record { answers = sym (append-nil a.answers); put_is = sym (append-nil a.put) }

pub moments_none : (a : Option (List ℤ)) → GaveMoments [] a a
moments_none None = tt
moments_none (Some a) = sym (append-nil a)

-- ---- turns

follow_more : (start : Served) (rounds : List Round) (stop : Served) (round : Round) → Follow start rounds stop → round.before ≡ stop
    → Follow start (rounds ++ round ∷ []) round.after
follow_more start [] stop round follow same = (same ∙ follow, refl)
follow_more start (r ∷ rounds) stop round follow same = (follow.0, follow_more r.after rounds stop round follow.1 same)

commands_append : (symbol : ℕ) (xs ys : List (ℤ × Submission)) → commands_for symbol (xs ++ ys) ≡ commands_for symbol xs ++ commands_for symbol ys
commands_append symbol xs ys =
    ap (map (λ (one : ℤ × Submission). (one.0, one.1.command))) (filter-append _ xs ys) ∙ map-append _ _ _

pub grew_more : {F : Type 0} (at : F → ℕ → SymbolView) (feed : ℕ) (xs ys : List (ℤ × Submission)) (a b c : F)
    → GrewBy at feed xs a b → GrewBy at feed ys b c → GrewBy at feed (xs ++ ys) a c
grew_more at feed xs ys a b c h k symbol =
    subst (λ (cs : List (ℤ × Command)). Grew feed cs (at a symbol) (at c symbol)) (sym (commands_append symbol xs ys))
    (grew_then feed (commands_for symbol xs) (commands_for symbol ys) (at a symbol) (at b symbol) (at c symbol) (h symbol) (k symbol))

-- ---- turns at the gates

rose_none : (a : Option ℕ) → RoseBy 0 a a
rose_none None = refl
rose_none (Some n) = (n, refl, omega arith)

rose_then : (k l m : ℕ) (a b c : Option ℕ) → k + l ≡ m → RoseBy k a b → RoseBy l b c → RoseBy m a c
rose_then k l m None b c e p q = subst (λ (x : Option ℕ). RoseBy l x c) p q
rose_then k l m (Some n) b c e p q =
    let r : RoseBy l (Some p.0) c = subst (λ (x : Option ℕ). RoseBy l x c) p.1 q in
    (r.0, r.1, omega (arith, p.2, r.2, e))

rose_at : (is : Bool) (a b : Option ℕ) → (is ≡ true → TurnsRose a b) → TurnsKept a b → RoseBy (cond is 1 0) a b
rose_at true None b rose kept = kept
rose_at true (Some n) b rose kept = let r = rose refl in (r.0, r.1, omega (arith, r.2))
rose_at false None b rose kept = kept
rose_at false (Some n) b rose kept = (kept.0, kept.1, omega (arith, kept.2))

count_more : {A : Type 0} (p : A → Bool) (xs : List A) (x : A) → count_by p xs + cond (p x) 1 0 ≡ count_by p (xs ++ x ∷ [])
count_more p xs x = omega (arith, sum_by-append (λ (y : _). cond (p y) 1 0) xs (x ∷ []))

-- ---- what was seen

all_map : {A : Type 0} (P Q : A → Type 0) (xs : List A) → ((x : A) → P x → Q x) → All P xs → All Q xs
all_map P Q [] more all = All-nil Q
all_map P Q (x ∷ xs) more all =
    All-cons Q x xs (more x (All-head P x xs all)) (all_map P Q xs more (All-tail P x xs all))

pub so_far_none : {F : Type 0} (at : F → ℕ → SymbolView) (config : Config) (feed : ℕ) (start : Served) (desk : DeskView) (before : Ground F)
    → Serves desk start → SoFar at config feed start desk before before
so_far_none at config feed start desk before serves = record {
  rounds = [];
  stop = start;
  are = record { each = All-nil (IsRound config); follow = refl };
  serves = serves;
  told = record { link_told = answered_none before.link; clock_told = moments_none before.clock };
  grew = λ symbol. grew_same feed (at before.floor symbol) (at before.floor symbol) refl;
  seen = All-nil (λ (round : Round). (symbol : ℕ) → StartsWith (at before.floor symbol).reports (round.looked symbol));
  turns = λ symbol within. rose_none (at before.floor symbol).turns;
  caught = λ entry caught. caught;
}

pub so_far_more : {F : Type 0} (at : F → ℕ → SymbolView) (config : Config) (feed : ℕ) (start : Served) (desk desk' : DeskView)
    (before : Ground F) (floor floor' : F) (a b c : Option Told) (s t : Option (List ℤ)) (turn : LinkTurn)
    (so : SoFar at config feed start desk before (ground floor a s)) → TurnsWere (turn ∷ []) [] a s b t
    → TookTurn at config feed turn so.stop desk' floor floor' b c
    → SoFar at config feed start desk' before (ground floor' c t)
so_far_more {F = F} at config feed start desk desk' before floor floor' a b c s t turn so asked took =
    let round = round_of turn so.stop (λ symbol. (at floor' symbol).reports) took.after in
    let WasSeen : F → Round → Type 0 = λ f r. (symbol : ℕ) → StartsWith (at f symbol).reports (r.looked symbol) in record {
      rounds = so.rounds ++ round ∷ [];
      stop = took.after;
      are = record {
        each = All-append (IsRound config) so.rounds (round ∷ []) so.are.each
            (All-cons (IsRound config) round [] took.round (All-nil (IsRound config)));
        follow = follow_more start so.rounds so.stop round so.are.follow refl;
      };
      serves = took.serves;
      told =
          subst (λ (ts : List LinkTurn). TurnsWere ts (put_by config (so.rounds ++ round ∷ [])) before.link before.clock c t)
          (sym (map-append (λ (r : Round). r.turn) so.rounds (round ∷ [])))
          (subst (λ (p : List ℕ). TurnsWere (turns_of so.rounds ++ turn ∷ []) p before.link before.clock c t)
          (ap (λ (q : List ℕ). put_by config so.rounds ++ q) (sym (append-nil (put_in config round)))
          ∙ sym (flat_map-append (put_in config) so.rounds (round ∷ [])))
          (told_more (turns_of so.rounds) (put_by config so.rounds) turn (put_in config round) before.link a b c before.clock s t
          so.told asked took.put));
      grew =
          subst (λ (cs : List (ℤ × Submission)). GrewBy at feed cs before.floor floor')
          (ap (λ (q : List (ℤ × Submission)). commands_by config so.rounds ++ q) (sym (append-nil (commands_in config turn so.stop)))
          ∙ sym (flat_map-append (λ (r : Round). commands_in config r.turn r.before) so.rounds (round ∷ [])))
          (grew_more at feed (commands_by config so.rounds) (commands_in config turn so.stop) before.floor floor floor' so.grew took.grew);
      seen =
          All-append (WasSeen floor') so.rounds (round ∷ [])
          (all_map (WasSeen floor) (WasSeen floor') so.rounds
          (λ r seen symbol. starts_then (r.looked symbol) (at floor symbol).reports (at floor' symbol).reports (seen symbol)
          (took.grew symbol).reports) so.seen)
          (All-cons (WasSeen floor') round [] (λ symbol. starts_self (at floor' symbol).reports) (All-nil (WasSeen floor')));
      turns = λ symbol within. rose_then (count_by (looks config) so.rounds) (cond (looks config round) 1 0)
          (count_by (looks config) (so.rounds ++ round ∷ [])) (at before.floor symbol).turns (at floor symbol).turns
          (at floor' symbol).turns (count_more (looks config) so.rounds round) (so.turns symbol within)
          (rose_at (looks config round) (at floor symbol).turns (at floor' symbol).turns (λ up. took.turns up symbol within)
          (took.grew symbol).turns);
      caught = λ entry first. caught_turn config (λ symbol. (at floor symbol).reports) (λ symbol. (at floor' symbol).reports) turn so.stop
          took.after entry (λ symbol. (took.grew symbol).reports) took.round (so.caught entry first);
    }
