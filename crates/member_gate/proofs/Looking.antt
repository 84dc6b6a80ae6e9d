-- Symbol by symbol a member's reports are gathered.
use Rattle.std.proofs.Common.{◌≡◌, ◌≢◌, ◌⊎◌, inl, inr, ℕ, ◌+◌, ◌-◌, ◌<◌, ◌≤◌, max, Bool, true, false, List, [], ◌∷◌, ◌++◌, length, take, drop, get_or, refl, sym, ◌∙◌, ap, subst, arith, append_assoc, length-append}
use Rattle.std.proofs.lemmas.List.{append-nil, take_more, get_or_append_left, get_or-append_right, get_or-drop, length-take-le}
use Rattle.std.proofs.lemmas.Bool.{cases_lt}
use Rattle.std.proofs.lemmas.Option.{unwrap_or-slice_get}
use Rattle.std.proofs.Math.Seq.{get_or-append_seam, take-length}
use mathlib.Core.Logic.{dite}
use native.Mathlib.Decide.{ℕ_discrete}
use Rattle.venue_words.specs.declared.config.Config.{Config}
use Rattle.venue_words.specs.declared.report.Report.{Report}
use Rattle.venue_words.specs.Floors.{SymbolView}
use Rattle.session_core.specs.declared.message.Message.{Message}
use Rattle.member_gate.specs.Answering.{name_at}
use Rattle.member_gate.specs.Submitting.{Waited}
use Rattle.member_gate.specs.QuietLaws.{none_behind}
use Rattle.member_gate.specs.Reporting.{cursor_at, asked_at, where_asked, messages_at, messages_from, messages_past, HasNoNews, MovedOn, IsAskedForNews}
use Rattle.member_gate.proofs.Taking.{waited_self}

messages_same : (config : Config) (member : ℕ) (cursors : List ℕ) (before after : ℕ → List Report) (number : ℕ) (symbols : List (List ℕ)) → ((k : ℕ) → k < number + length symbols → after k ≡ before k)
    → messages_from config member cursors after number symbols ≡ messages_from config member cursors before number symbols
messages_same config member cursors before after number [] same = refl
messages_same config member cursors before after number (symbol ∷ symbols) same =
    ap (λ (rs : List Report). messages_at config member symbol (cursor_at cursors number) rs ++ messages_from config member cursors after (number + 1) symbols) (same number (omega arith))
    ∙ ap (λ (ms : List Message). messages_at config member symbol (cursor_at cursors number) (before number) ++ ms) (messages_same config member cursors before after (number + 1) symbols (λ k h. same k (omega arith)))

messages_snoc : (config : Config) (member : ℕ) (cursors : List ℕ) (reports : ℕ → List Report) (number place : ℕ) (symbols : List (List ℕ)) (symbol : List ℕ) → number + length symbols ≡ place
    → messages_from config member cursors reports number (symbols ++ symbol ∷ [])
    ≡ messages_from config member cursors reports number symbols ++ messages_at config member symbol (cursor_at cursors place) (reports place)
messages_snoc config member cursors reports number place [] symbol e =
    let here : number ≡ place = omega arith in
    append-nil (messages_at config member symbol (cursor_at cursors number) (reports number))
    ∙ ap (λ (k : ℕ). messages_at config member symbol (cursor_at cursors k) (reports k)) here
messages_snoc config member cursors reports number place (first ∷ symbols) symbol e =
    let front = messages_at config member first (cursor_at cursors number) (reports number) in
    ap (λ (ms : List Message). front ++ ms) (messages_snoc config member cursors reports (number + 1) place symbols symbol (omega arith))
    ∙ sym (append_assoc front (messages_from config member cursors reports (number + 1) symbols) (messages_at config member symbol (cursor_at cursors place) (reports place)))

-- `seen` is which of its reports a look reads, and `asked` what it does to its symbol
module _ {F : Type 0} (at : F → ℕ → SymbolView) (config : Config) (member : ℕ) (cursors : List ℕ) (seen : ℕ → List Report → List Report) (asked : ℕ → SymbolView → SymbolView → Type 0) where
  abbrev reports_at : F → ℕ → List Report
  reports_at floor symbol = (at floor symbol).reports

  abbrev seen_at : F → ℕ → List Report
  seen_at floor = λ symbol. seen symbol (at floor symbol).reports

  -- the first symbols, so many, were asked for
  pub record Looked (before : F) (count : ℕ) (now : F) (messages : List Message) (fronts : List ℕ) : Type 0 where
    pub messages_are : messages ≡ messages_from config member cursors (seen_at now) 0 (take count config.symbols)
    pub many : length fronts ≡ count
    pub fronts_are : (symbol : ℕ) → symbol < count → get_or fronts symbol 0 ≡ max (cursor_at cursors symbol) (length (reports_at now symbol))
    pub waited : (symbol : ℕ) → Waited (at before symbol) (at now symbol)
    pub ahead : (symbol : ℕ) → count ≤ symbol → at now symbol ≡ at before symbol
    pub each : (symbol : ℕ) → symbol < count → asked symbol (at before symbol) (at now symbol)

  pub looked_none : (floor : F) → Looked floor 0 floor [] []
  looked_none floor = record {
    messages_are = refl;
    many = refl;
    fronts_are = λ symbol h. absurd (omega arith);
    waited = λ symbol. waited_self (at floor symbol);
    ahead = λ symbol h. refl;
    each = λ symbol h. absurd (omega arith);
  }

  -- one look, at the next symbol
  pub waited_on : (before now next : F) (count : ℕ) → ((symbol : ℕ) → Waited (at before symbol) (at now symbol)) → ((symbol : ℕ) → count ≤ symbol → at now symbol ≡ at before symbol)
      → ((other : ℕ) → other ≢ count → at next other ≡ at now other) → Waited (at now count) (at next count) → (symbol : ℕ) → Waited (at before symbol) (at next symbol)
  waited_on before now next count waited ahead others one symbol =
      dite (ℕ_discrete symbol count)
      (λ is. subst (λ (k : ℕ). Waited (at before k) (at next k)) (sym is) (subst (λ (v : SymbolView). Waited v (at next count)) (ahead count (omega arith)) one))
      (λ not. subst (λ (v : SymbolView). Waited (at before symbol) v) (sym (others symbol not)) (waited symbol))

  pub ahead_on : (before now next : F) (count : ℕ) → ((symbol : ℕ) → count ≤ symbol → at now symbol ≡ at before symbol) → ((other : ℕ) → other ≢ count → at next other ≡ at now other)
      → (symbol : ℕ) → count + 1 ≤ symbol → at next symbol ≡ at before symbol
  ahead_on before now next count ahead others symbol h = others symbol (λ e. absurd (omega arith)) ∙ ahead symbol (omega arith)

  pub looked_more : (before : F) (count : ℕ) (now next : F) (messages more : List Message) (fronts further : List ℕ) (front : ℕ)
      → Looked before count now messages fronts → count < length config.symbols
      → ((other : ℕ) → other ≢ count → at next other ≡ at now other) → Waited (at now count) (at next count) → asked count (at now count) (at next count)
      → more ≡ messages ++ messages_at config member (name_at config.symbols count) (cursor_at cursors count) (seen_at next count)
      → front ≡ length (reports_at next count) → further ≡ fronts ++ max (cursor_at cursors count) front ∷ []
      → Looked before (count + 1) next more further
  looked_more before count now next messages more fronts further front l inside others waited rose m f s =
      let shown = take count config.symbols in
      let few : length shown ≡ count = length-take-le count config.symbols (omega arith) in
      let place : 0 + length shown ≡ count = omega (arith, few) in
      let name : get_or config.symbols count [] ≡ name_at config.symbols count = sym (unwrap_or-slice_get config.symbols count []) in
      let names : take (count + 1) config.symbols ≡ shown ++ name_at config.symbols count ∷ [] = take_more config.symbols count [] inside ∙ ap (λ (x : List ℕ). shown ++ x ∷ []) name in
      let kept : messages_from config member cursors (seen_at next) 0 shown ≡ messages_from config member cursors (seen_at now) 0 shown =
      messages_same config member cursors (seen_at now) (seen_at next) 0 shown (λ k h. ap (λ (v : SymbolView). seen k v.reports) (others k (λ e. absurd (omega arith)))) in
      let added = messages_snoc config member cursors (seen_at next) 0 count shown (name_at config.symbols count) place in
      let here = messages_at config member (name_at config.symbols count) (cursor_at cursors count) (seen_at next count) in record {
        messages_are =
            m ∙ ap (λ (ms : List Message). ms ++ here) (l.messages_are ∙ sym kept) ∙ sym added
            ∙ ap (messages_from config member cursors (seen_at next) 0) (sym names);
        many = ap length s ∙ length-append fronts _ ∙ ap (λ (k : ℕ). k + 1) l.many;
        fronts_are = λ symbol h.
            dite (ℕ_discrete symbol count)
            (λ is. ap (λ (xs : List ℕ). get_or xs symbol 0) s ∙ ap (λ (k : ℕ). get_or (fronts ++ max (cursor_at cursors count) front ∷ []) k 0) (is ∙ sym l.many) ∙ get_or-append_seam fronts _ [] 0
            ∙ ap (max (cursor_at cursors count)) f ∙ ap (λ (k : ℕ). max (cursor_at cursors k) (length (reports_at next k))) (sym is))
            (λ not. ap (λ (xs : List ℕ). get_or xs symbol 0) s ∙ get_or_append_left fronts _ 0 symbol (let e = l.many in omega arith) ∙ l.fronts_are symbol (omega arith)
            ∙ ap (λ (v : SymbolView). max (cursor_at cursors symbol) (length v.reports)) (sym (others symbol not)));
        waited = waited_on before now next count l.waited l.ahead others waited;
        ahead = ahead_on before now next count l.ahead others;
        each = λ symbol h.
            dite (ℕ_discrete symbol count)
            (λ is. subst (λ (k : ℕ). asked k (at before k) (at next k)) (sym is) (subst (λ (v : SymbolView). asked count v (at next count)) (l.ahead count (omega arith)) rose))
            (λ not. subst (λ (v : SymbolView). asked symbol (at before symbol) v) (sym (others symbol not)) (l.each symbol (omega arith)));
      }

  pub moved_on : (before now : F) (messages : List Message) (fronts all : List ℕ) → Looked before (length config.symbols) now messages fronts → all ≡ fronts ++ drop (length config.symbols) cursors
      → MovedOn (length config.symbols) (reports_at now) cursors all
  moved_on before now messages fronts all l e =
      let count = length config.symbols in record {
        read = λ symbol h. ap (λ (xs : List ℕ). get_or xs symbol 0) e ∙ get_or_append_left fronts (drop count cursors) 0 symbol (let m = l.many in omega arith) ∙ l.fronts_are symbol h;
        rest = λ symbol h.
            let place : count + (symbol - count) ≡ symbol = omega arith in
            ap (λ (xs : List ℕ). get_or xs symbol 0) e ∙ get_or-append_right fronts (drop count cursors) count symbol 0 l.many h
            ∙ get_or-drop count cursors (symbol - count) 0 ∙ ap (λ (k : ℕ). get_or cursors k 0) place;
      }

  pub all_messages : (before now : F) (messages : List Message) (fronts : List ℕ) → Looked before (length config.symbols) now messages fronts → messages ≡ messages_past config member cursors (seen_at now)
  all_messages before now messages fronts l = l.messages_are ∙ ap (messages_from config member cursors (seen_at now) 0) (take-length config.symbols)

-- where every symbol is looked at
abbrev pub all_seen : ℕ → List Report → List Report
all_seen _ reports = reports

-- ---- where only symbols with news are asked for

abbrev pub asked_seen : List Bool → ℕ → List Report → List Report
asked_seen asked symbol reports = where_asked (asked_at asked symbol) reports

abbrev pub for_news : List Bool → List ℕ → ℕ → SymbolView → SymbolView → Type 0
for_news asked cursors symbol before after = IsAskedForNews (asked_at asked symbol) (cursor_at cursors symbol) before after

-- a symbol without news has no messages
pub no_messages : (config : Config) (member : ℕ) (symbol : List ℕ) (from : ℕ) (reports : List Report) (is : Bool)
    → (is ≡ true → length reports ≤ from) → messages_at config member symbol from (where_asked is reports) ≡ []
no_messages config member symbol from reports true read = none_behind config member symbol from reports (read refl)
no_messages config member symbol from reports false read = none_behind config member symbol from [] (omega arith)

module _ {F : Type 0} (at : F → ℕ → SymbolView) (asked : List Bool) (cursors : List ℕ) where
  stays_at : (before now : F) (count symbol : ℕ) → ((other : ℕ) → other < count → for_news asked cursors other (at before other) (at now other))
      → ((other : ℕ) → count ≤ other → at now other ≡ at before other) → HasNoNews (asked_at asked symbol) (cursor_at cursors symbol) (at before symbol)
      → (symbol < count) ⊎ (count ≤ symbol) → at now symbol ≡ at before symbol
  stays_at before now count symbol each ahead h (inl l) = (each symbol l).unasked h
  stays_at before now count symbol each ahead h (inr l) = ahead symbol l

  -- a symbol without news is as it was
  pub stays : (before now : F) (count : ℕ) → ((other : ℕ) → other < count → for_news asked cursors other (at before other) (at now other))
      → ((other : ℕ) → count ≤ other → at now other ≡ at before other)
      → (symbol : ℕ) → HasNoNews (asked_at asked symbol) (cursor_at cursors symbol) (at before symbol) → at now symbol ≡ at before symbol
  stays before now count each ahead symbol h = stays_at before now count symbol each ahead h (cases_lt symbol count)

  -- and still so behind one more look
  pub stays_on : (before now next : F) (count from : ℕ) (is : Bool) → ((other : ℕ) → other < count → for_news asked cursors other (at before other) (at now other))
      → ((other : ℕ) → count ≤ other → at now other ≡ at before other)
      → ((other : ℕ) → other ≢ count → at next other ≡ at now other) → from ≡ cursor_at cursors count → is ≡ asked_at asked count
      → (HasNoNews is from (at now count) → at next count ≡ at now count)
      → (symbol : ℕ) → HasNoNews (asked_at asked symbol) (cursor_at cursors symbol) (at before symbol) → at next symbol ≡ at before symbol
  stays_on before now next count from is each ahead others e f unasked symbol h =
      let here = ahead count (omega arith) in
      dite (ℕ_discrete symbol count)
      (λ same. subst (λ (k : ℕ). at next k ≡ at before k) (sym same)
      (unasked (subst (λ (v : SymbolView). HasNoNews is from v) (sym here) (subst (λ (b : Bool). HasNoNews b from (at before count)) (sym f)
      (subst (λ (k : ℕ). HasNoNews (asked_at asked count) k (at before count)) (sym e)
      (subst (λ (k : ℕ). HasNoNews (asked_at asked k) (cursor_at cursors k) (at before k)) same h)))) ∙ here))
      (λ not. others symbol not ∙ stays before now count each ahead symbol h)
