-- A session between a source and a desk, turn by turn.
use Rattle.std.proofs.Common.{◌≡◌, ◌⊎◌, ◌+◌, ◌<◌, ℕ, ℤ, suc, true, false, inl, inr, Result, Ok, Err, OnOk, IfErr, List, [], ◌∷◌, ◌++◌, Option, Some, None, length, take, get_or, drop, drop-cons, add-one, refl, sym, ◌∙◌, ap, subst, append_assoc, append-nil}
use Rattle.std.proofs.Math.Seq.{take-append-add}
use Rattle.std.specs.Io.KnownBytes.{Appends}
use Rattle.io_edge.specs.Grows.{AppendsPrefix}
use Rattle.io_edge.specs.Links.{Told}
use Rattle.venue_words.specs.declared.config.Config.{Config}
use Rattle.quote_flow.specs.declared.quote.MarketQuote.{MarketQuote}
use Rattle.quote_flow.specs.Tables.{Table, turned, passed}
use Rattle.source_session.specs.declared.names.Names.{Names}
use Rattle.source_session.specs.Hearing.{Hearing, StandsFor, Adds, unheard}
use Rattle.source_session.specs.HearingLaws.{stands_unheard, said_none}
use Rattle.source_session.specs.Messages.{is_over}
use Rattle.source_session.specs.Quotes.{quotes_said}
use Rattle.source_feed.specs.declared.end.FeedEnd.{FeedEnd}
use Rattle.source_feed.specs.declared.end.FeedEnd.TheVariants.{Ended, SourceGone, SourceFault, DeskFault, NoMemory}
use Rattle.source_feed.specs.Serving.{line_of, lines_of, Turn, quotes_in, table_after, passed_in, table_of, Serves}
use Rattle.source_feed.specs.Turns.{Gave, IsQuietEnd, IsPassEnd, HearsPiece, Stands}
use Rattle.source_feed.proofs.Links.{gave_none, gave_both}

-- ---- lines

-- the line of one more quote
pub line_more : (config : Config) (whole text next : List ℕ) (quotes : List MarketQuote) (i : ℕ) (quote : MarketQuote)
    → i < length quotes → quote ≡ get_or quotes i quote
    → whole ≡ text ++ lines_of config (drop i quotes)
    → next ≡ text ++ line_of config quote
    → whole ≡ next ++ lines_of config (drop (i + 1) quotes)
line_more config whole text next quotes i quote within is so more =
    let cut : drop i quotes ≡ quote ∷ drop (i + 1) quotes =
    rw add-one (drop-cons quotes i quote within ∙ ap (λ (q : MarketQuote). q ∷ drop (suc i) quotes) (sym is)) in
    so ∙ ap (λ (qs : List MarketQuote). text ++ lines_of config qs) cut
    ∙ sym (append_assoc text (line_of config quote) (lines_of config (drop (i + 1) quotes)))
    ∙ ap (λ (t : List ℕ). t ++ lines_of config (drop (i + 1) quotes)) (sym more)

pub lines-append : (config : Config) (first second : List MarketQuote) → lines_of config (first ++ second) ≡ lines_of config first ++ lines_of config second
lines-append config [] second = refl
lines-append config (quote ∷ first) second =
    ap (λ (t : List ℕ). line_of config quote ++ t) (lines-append config first second)
    ∙ sym (append_assoc (line_of config quote) (lines_of config first) (lines_of config second))

-- ---- what was told

pub appends_none : (t : Option (List ℕ)) → Appends t t []
appends_none None = tt
appends_none (Some xs) = sym (append-nil xs)

pub appends_trans : (a b c : Option (List ℕ)) (p q : List ℕ) → Appends a b p → Appends b c q → Appends a c (p ++ q)
appends_trans None b c p q h k = tt
appends_trans (Some xs) None c p q h k = absurd h
appends_trans (Some xs) (Some ys) None p q h k = absurd k
appends_trans (Some xs) (Some ys) (Some zs) p q h k = rw (k, h) (append_assoc xs p q)

-- a whole text, and then a beginning of another one
pub prefix_after : (a b c : Option (List ℕ)) (text more : List ℕ) → Appends a b text → AppendsPrefix b c more → AppendsPrefix a c (text ++ more)
prefix_after a b c text more h k =
    (length text + k.0, subst (λ (t : List ℕ). Appends a c t) (sym (take-append-add text more k.0)) (appends_trans a b c text (take k.0 more) h k.1))

-- ---- turns

abbrev pub turn_of : ℤ → List MarketQuote → Turn
turn_of moment quotes = record { moment = moment; quotes = quotes }

quotes_more : (turns : List Turn) (turn : Turn) → quotes_in (turns ++ turn ∷ []) ≡ quotes_in turns ++ turn.quotes
quotes_more [] turn = append-nil turn.quotes
quotes_more (first ∷ turns) turn =
    ap (λ (q : List MarketQuote). first.quotes ++ q) (quotes_more turns turn) ∙ sym (append_assoc first.quotes (quotes_in turns) turn.quotes)

table_more : (table : Table) (turns : List Turn) (turn : Turn)
    → table_after table (turns ++ turn ∷ []) ≡ turned (table_after table turns) turn.moment turn.quotes
table_more table [] turn = refl
table_more table (first ∷ turns) turn = table_more (turned table first.moment first.quotes) turns turn

passed_more : (table : Table) (turns : List Turn) (turn : Turn)
    → passed_in table (turns ++ turn ∷ []) ≡ passed_in table turns ++ passed (table_after table turns) turn.moment turn.quotes
passed_more table [] turn = append-nil (passed table turn.moment turn.quotes)
passed_more table (first ∷ turns) turn =
    let one = passed table first.moment first.quotes in
    let next = turned table first.moment first.quotes in
    ap (λ (q : List MarketQuote). one ++ q) (passed_more next turns turn)
    ∙ sym (append_assoc one (passed_in next turns) (passed (table_after next turns) turn.moment turn.quotes))

-- ---- a piece

-- the clock after a piece says nothing, and may end the session
pub hears_ticked : (config : Config) (came piece : List ℕ) (middle new : Hearing) (added quotes : List MarketQuote)
    → Adds config came piece added middle → quotes ≡ added → new.names ≡ middle.names → new.unread ≡ middle.unread
    → (new.state ≡ middle.state) ⊎ (is_over new.state.phase ≡ true)
    → HearsPiece config came piece quotes new
hears_ticked config came piece middle new added quotes adds list names unread (inl state) =
    let same : middle ≡ new = λ k. record { names = sym names k; state = sym state k; unread = sym unread k } in
    record {
      said =
          subst (λ (n : Names). quotes_said config n (came ++ piece) ≡ quotes_said config n came ++ quotes) (sym names)
          (adds.quotes ∙ ap (λ (q : List MarketQuote). quotes_said config middle.names came ++ q) (sym list));
      stands = subst (λ (h : Hearing). is_over h.state.phase ≡ false → StandsFor config (came ++ piece) h) same adds.stands;
    }
hears_ticked config came piece middle new added quotes adds list names unread (inr over) = record {
  said =
      subst (λ (n : Names). quotes_said config n (came ++ piece) ≡ quotes_said config n came ++ quotes) (sym names)
      (adds.quotes ∙ ap (λ (q : List MarketQuote). quotes_said config middle.names came ++ q) (sym list));
  stands = λ still. absurd (cc);
}

pub on_ok_any : {T E P : Type 0} (r : Result T E) → P → OnOk r P
on_ok_any (Ok x) p = p
on_ok_any (Err e) p = tt

pub map_on_ok : {T E P Q : Type 0} (r : Result T E) → (P → Q) → OnOk r P → OnOk r Q
map_on_ok (Ok x) f h = f h
map_on_ok (Err e) f h = tt

pub map_if_err : {T E : Type 0} {P Q : E → Type 0} (r : Result T E) → ((e : E) → P e → Q e) → IfErr r P → IfErr r Q
map_if_err (Ok x) f h = tt
map_if_err (Err e) f h = f e h

-- ---- a session

module _ (config : Config) (names : Names) (pace : Option ℕ) (link : Option Told) (desk : Option (List ℕ)) where
  abbrev lines_in : List Turn → List ℕ
  lines_in turns = lines_of config (passed_in (table_of pace) turns)

  pub stands_first : (now : Option Told) (hearing : Hearing) (table : Table) → Gave [] link now → hearing ≡ unheard names → table ≡ table_of pace
      → Stands config names pace link now desk desk hearing table
  stands_first now hearing table gave h t = record {
    came = [];
    gave = gave;
    names_are = ap (λ (x : Hearing). x.names) h;
    stands = subst (λ (x : Hearing). StandsFor config [] x) (sym h) (stands_unheard config names);
    turns = [];
    quotes = sym (said_none config names);
    table_is = t;
    put = appends_none desk;
  }

  -- nothing came but an end
  pub ends_at : (now later : Option Told) (desk_now : Option (List ℕ)) (hearing : Hearing) (table : Table) (end : FeedEnd)
      → Stands config names pace link now desk desk_now hearing table → Gave [] now later → IsQuietEnd end
      → Serves config names pace link later desk desk_now end
  ends_at now later desk_now hearing table (Ended cause) s gave k = record { came = s.came; lost = []; gave = gave_both s.came [] link now later s.gave gave; turns = s.turns; quotes = s.quotes; put = s.put; loses = refl }
  ends_at now later desk_now hearing table SourceGone s gave k = record { came = s.came; lost = []; gave = gave_both s.came [] link now later s.gave gave; turns = s.turns; quotes = s.quotes; put = s.put; loses = refl }
  ends_at now later desk_now hearing table SourceFault s gave k = record { came = s.came; lost = []; gave = gave_both s.came [] link now later s.gave gave; turns = s.turns; quotes = s.quotes; put = s.put; loses = refl }
  ends_at now later desk_now hearing table DeskFault s gave k = absurd k
  ends_at now later desk_now hearing table NoMemory s gave k = record { came = s.came; lost = []; gave = gave_both s.came [] link now later s.gave gave; turns = s.turns; quotes = s.quotes; put = s.put; loses = tt }

  -- memory ran out after a piece
  pub ends_lost : (now later : Option Told) (desk_now desk_later : Option (List ℕ)) (hearing : Hearing) (table : Table) (piece : List ℕ)
      → Stands config names pace link now desk desk_now hearing table → Gave piece now later → desk_later ≡ desk_now
      → Serves config names pace link later desk desk_later NoMemory
  ends_lost now later desk_now desk_later hearing table piece s gave same = record {
    came = s.came;
    lost = piece;
    gave = gave_both s.came piece link now later s.gave gave;
    turns = s.turns;
    quotes = s.quotes;
    put = subst (λ (d : Option (List ℕ)). Appends desk d (lines_in s.turns)) (sym same) s.put;
    loses = tt;
  }

  -- a piece came, whose quotes made a turn
  pub record Heard (now : Option Told) (desk_now : Option (List ℕ)) (table : Table) (moment : ℤ) (quotes : List MarketQuote) (hearing : Hearing) : Type 0 where
    pub came : List ℕ
    pub gave : Gave came link now
    pub names_are : hearing.names ≡ names
    pub stands : is_over hearing.state.phase ≡ false → StandsFor config came hearing
    pub turns : List Turn
    pub quotes_are : quotes_in (turns ++ turn_of moment quotes ∷ []) ≡ quotes_said config names came
    pub table_is : table ≡ table_after (table_of pace) turns
    pub put : Appends desk desk_now (lines_in turns)

  pub heard_piece : (now later : Option Told) (desk_now : Option (List ℕ)) (old new : Hearing) (table : Table) (piece : List ℕ) (moment : ℤ) (quotes : List MarketQuote)
      → Stands config names pace link now desk desk_now old table → Gave piece now later → new.names ≡ old.names
      → ((came : List ℕ) → StandsFor config came old → HearsPiece config came piece quotes new)
      → Heard later desk_now table moment quotes new
  heard_piece now later desk_now old new table piece moment quotes s gave same hears =
      let h = hears s.came s.stands in
      let named : new.names ≡ names = same ∙ s.names_are in record {
        came = s.came ++ piece;
        gave = gave_both s.came piece link now later s.gave gave;
        names_are = named;
        stands = h.stands;
        turns = s.turns;
        quotes_are =
            quotes_more s.turns (turn_of moment quotes) ∙ ap (λ (q : List MarketQuote). q ++ quotes) s.quotes
            ∙ subst (λ (n : Names). quotes_said config n s.came ++ quotes ≡ quotes_said config n (s.came ++ piece)) named (sym h.said);
        table_is = s.table_is;
        put = s.put;
      }

  lines_more : (turns : List Turn) (table : Table) (moment : ℤ) (quotes : List MarketQuote) → table ≡ table_after (table_of pace) turns
      → lines_in (turns ++ turn_of moment quotes ∷ []) ≡ lines_in turns ++ lines_of config (passed table moment quotes)
  lines_more turns table moment quotes e =
      ap (lines_of config) (passed_more (table_of pace) turns (turn_of moment quotes))
      ∙ lines-append config (passed_in (table_of pace) turns) (passed (table_after (table_of pace) turns) moment quotes)
      ∙ ap (λ (t : Table). lines_in turns ++ lines_of config (passed t moment quotes)) (sym e)

  put_more : (turns : List Turn) (table : Table) (moment : ℤ) (quotes : List MarketQuote) (desk_now desk_later : Option (List ℕ)) → table ≡ table_after (table_of pace) turns
      → Appends desk desk_now (lines_in turns) → Appends desk_now desk_later (lines_of config (passed table moment quotes))
      → Appends desk desk_later (lines_in (turns ++ turn_of moment quotes ∷ []))
  put_more turns table moment quotes desk_now desk_later e before more =
      subst (λ (t : List ℕ). Appends desk desk_later t) (sym (lines_more turns table moment quotes e))
      (appends_trans desk desk_now desk_later (lines_in turns) (lines_of config (passed table moment quotes)) before more)

  -- its lines were put, and the session goes on
  pub goes_on : (now later : Option Told) (desk_now desk_later : Option (List ℕ)) (table next : Table) (moment : ℤ) (quotes : List MarketQuote) (hearing : Hearing)
      → Heard now desk_now table moment quotes hearing → next ≡ turned table moment quotes
      → Appends desk_now desk_later (lines_of config (passed table moment quotes))
      → Gave [] now later → is_over hearing.state.phase ≡ false
      → Stands config names pace link later desk desk_later hearing next
  goes_on now later desk_now desk_later table next moment quotes hearing h next_is put gave still = record {
    came = h.came;
    gave = subst (λ (b : List ℕ). Gave b link later) (append-nil h.came) (gave_both h.came [] link now later h.gave gave);
    names_are = h.names_are;
    stands = h.stands still;
    turns = h.turns ++ turn_of moment quotes ∷ [];
    quotes = h.quotes_are;
    table_is =
        next_is ∙ ap (λ (t : Table). turned t moment quotes) h.table_is ∙ sym (table_more (table_of pace) h.turns (turn_of moment quotes));
    put = put_more h.turns table moment quotes desk_now desk_later h.table_is h.put put;
  }

  -- its lines were put, and the source's side ended the session
  pub ends_heard : (now later : Option Told) (desk_now desk_later : Option (List ℕ)) (table : Table) (moment : ℤ) (quotes : List MarketQuote) (hearing : Hearing) (end : FeedEnd)
      → Heard now desk_now table moment quotes hearing
      → Appends desk_now desk_later (lines_of config (passed table moment quotes))
      → Gave [] now later → IsQuietEnd end
      → Serves config names pace link later desk desk_later end
  ends_heard now later desk_now desk_later table moment quotes hearing (Ended cause) h put gave is = record {
    came = h.came;
    lost = [];
    gave = gave_both h.came [] link now later h.gave gave;
    turns = h.turns ++ turn_of moment quotes ∷ [];
    quotes = h.quotes_are;
    put = put_more h.turns table moment quotes desk_now desk_later h.table_is h.put put;
    loses = refl;
  }
  ends_heard now later desk_now desk_later table moment quotes hearing SourceGone h put gave is = record {
    came = h.came;
    lost = [];
    gave = gave_both h.came [] link now later h.gave gave;
    turns = h.turns ++ turn_of moment quotes ∷ [];
    quotes = h.quotes_are;
    put = put_more h.turns table moment quotes desk_now desk_later h.table_is h.put put;
    loses = refl;
  }
  ends_heard now later desk_now desk_later table moment quotes hearing SourceFault h put gave is = record {
    came = h.came;
    lost = [];
    gave = gave_both h.came [] link now later h.gave gave;
    turns = h.turns ++ turn_of moment quotes ∷ [];
    quotes = h.quotes_are;
    put = put_more h.turns table moment quotes desk_now desk_later h.table_is h.put put;
    loses = refl;
  }
  ends_heard now later desk_now desk_later table moment quotes hearing DeskFault h put gave is = absurd is
  ends_heard now later desk_now desk_later table moment quotes hearing NoMemory h put gave is = record {
    came = h.came;
    lost = [];
    gave = gave_both h.came [] link now later h.gave gave;
    turns = h.turns ++ turn_of moment quotes ∷ [];
    quotes = h.quotes_are;
    put = put_more h.turns table moment quotes desk_now desk_later h.table_is h.put put;
    loses = tt;
  }

  -- its lines were not put, or a beginning of them was
  pub ends_pass : (now later : Option Told) (desk_now desk_later : Option (List ℕ)) (old new : Hearing) (table : Table) (piece : List ℕ) (moment : ℤ) (quotes : List MarketQuote) (end : FeedEnd)
      → Stands config names pace link now desk desk_now old table → Gave piece now later
      → Heard later desk_now table moment quotes new
      → IsPassEnd end desk_now desk_later (lines_of config (passed table moment quotes))
      → Serves config names pace link later desk desk_later end
  ends_pass now later desk_now desk_later old new table piece moment quotes DeskFault s gave h is = record {
    came = h.came;
    lost = [];
    gave = gave_both h.came [] link later later h.gave (gave_none later);
    turns = h.turns ++ turn_of moment quotes ∷ [];
    quotes = h.quotes_are;
    put =
        subst (λ (t : List ℕ). AppendsPrefix desk desk_later t) (sym (lines_more h.turns table moment quotes h.table_is))
        (prefix_after desk desk_now desk_later (lines_in h.turns) (lines_of config (passed table moment quotes)) h.put is);
    loses = refl;
  }
  ends_pass now later desk_now desk_later old new table piece moment quotes NoMemory s gave h is = ends_lost now later desk_now desk_later old table piece s gave is
  ends_pass now later desk_now desk_later old new table piece moment quotes (Ended cause) s gave h is = absurd is
  ends_pass now later desk_now desk_later old new table piece moment quotes SourceGone s gave h is = absurd is
  ends_pass now later desk_now desk_later old new table piece moment quotes SourceFault s gave h is = absurd is
