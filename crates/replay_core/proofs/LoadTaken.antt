-- Every line of the load script is taken.
use Rattle.std.proofs.Common.{◌≡◌, ℕ, zero, suc, ◌+◌, ◌*◌, ◌^◌, ◌<◌, ◌≤◌, nat_lt, true, false, ℤ, List, [], ◌∷◌, ◌++◌, length, map, None, Ok, codes, decimal, refl, sym, ◌∙◌, ap, subst, append_assoc, length-append, arith}
use Rattle.std.proofs.lemmas.Bool.Decides.{nat_tests}
use Rattle.std.proofs.lemmas.Fmt.{length-decimal-le}
use Rattle.std.specs.List.{range_with_len}
use Rattle.venue_words.specs.declared.command.Event.{Event}
use Rattle.venue_words.specs.declared.limits.TheConstants.{MAX_LINE_BYTES, MAX_SCRIPT_BYTES}
use Rattle.member_gate.specs.Answering.{Submission}
use Rattle.member_gate.specs.Working.{work_of_reading}
use Rattle.session_core.specs.Machine.{Machine, fresh}
use Rattle.script_text.specs.Header.{header_line, blank}
use Rattle.script_text.specs.Load.{load_lines, first_lines, order_line, quote_line, last_line}
use Rattle.script_text.specs.declared.header.Header.{Header}
use Rattle.line_work.specs.FeedState.{FeedState, Connection, new_connection}
use Rattle.line_work.specs.LineWork.{LineWork, work_of_read, work_of_text, work_of_bytes, reading_behind, fed, piece_lines}
use Rattle.replay_core.specs.Loading.{loaded}
use Rattle.replay_core.specs.Plan.{most_load}
use Rattle.replay_core.specs.Play.{Place, Stage, Head, Body, Played, play, step_at, turned, next_place, start, end_at}
use Rattle.replay_core.specs.PlayLine.{play_line, answer_to_work}
use Rattle.replay_core.specs.Playing.{Playing, Member, before_body}
use Rattle.replay_core.specs.Pulling.{pulled, lines_of_pulls}
use Rattle.replay_core.specs.Recording.{recorded, has_room, next_event}
use Rattle.replay_core.proofs.LineByLine.{worked_line}
use Rattle.load_laws.specs.LoadFrameLaws.{IsWhole, whole_none, whole_on, AtMostOne, few_given, none_given}
use Rattle.load_laws.specs.LoadTextLaws.{IsMessage, IsQuoteLine, load_config, begins_at, frame_in, message_framed, message_read, message_short, logon_line, logon_message, first_quote, each_quote, order_message, last_message, header_one, header_two, header_three, header_four, version_read, member_read, market_read, symbol_read, begin_read}

-- ---- a line that is taken

-- the line behind a place is taken, and leads to a place of this kind
pub record IsTaken (place : Place) (line : List ℕ) (next : Place) : Type 0 where
  pub out : List ℕ
  pub taken : (step_at place line).result ≡ Ok (next, out)

-- a place so early that a line may stand behind it
pub record IsEarly (place : Place) : Type 0 where
  pub bytes : place.bytes ≤ place.lines * 2000
  pub lines : place.lines ≤ 500000

stepped_on : (place : Place) (line : List ℕ) (stage : Stage) (out : List ℕ) → IsEarly place → length line ≤ 1500
    → (turned (place.lines + 1) place.stage line).result ≡ Ok (stage, out) → IsTaken place line (next_place place line stage)
unfolding step_at
stepped_on place line stage out early short turns =
    let fits : nat_lt MAX_LINE_BYTES (length line) ≡ false = grind (arith, nat_tests) in
    let most : place.bytes + length line + 1 ≤ MAX_SCRIPT_BYTES = omega (arith, early.bytes, early.lines, short) in
    let within : nat_lt MAX_SCRIPT_BYTES (place.bytes + length line + 1) ≡ false = grind (arith, nat_tests) in
    record { out = out; taken = rw (fits, turns) (rw within refl) }

taken_on : (place next : Place) (line : List ℕ) (lines : List (List ℕ)) → IsTaken place line next
    → (play place (line ∷ lines) []).fault ≡ (play next lines []).fault
unfolding play
taken_on place next line lines t =
    ap (λ (p : Played). p.fault) (worked_line (step_at place line) next t.out (λ q. play q lines []) t.taken)

-- ---- the body

-- the member's connection and cursors, and the journal of the one symbol
abbrev body_with : ℕ → ℤ → Connection → List ℕ → List Event → Playing
body_with limit moment connection cursors journal = record {
  feed = record { config = load_config limit begins_at; moment = moment; connections = connection ∷ [] };
  cursors = cursors ∷ [];
  journals = journal ∷ [];
}

-- a place in the body, with at most so many events before it
pub record InBody (limit count : ℕ) (place : Place) : Type 0 where
  pub moment : ℤ
  pub connection : Connection
  pub cursors : List ℕ
  pub journal : List Event
  pub stage : place.stage ≡ Body (body_with limit moment connection cursors journal)
  pub whole : IsWhole connection.stream
  pub few : length journal ≤ count
  pub early : place.bytes ≤ place.lines * 2000

-- commands that find room in the journal
pub record FindRoom (limit count : ℕ) (moment : ℤ) (submissions : List Submission) (journal : List Event) : Type 0 where
  pub behind : List Event
  pub journals : (recorded (load_config limit begins_at) moment submissions (journal ∷ [])).journals ≡ behind ∷ []
  pub room : (recorded (load_config limit begins_at) moment submissions (journal ∷ [])).is_full ≡ false
  pub few : length behind ≤ count

room_at : (limit symbol : ℕ) (journal : List Event) → symbol ≡ 0 → length journal < limit
    → has_room (load_config limit begins_at) (journal ∷ []) symbol ≡ true
unfolding has_room
room_at limit symbol journal e l = let test : nat_lt (length journal) limit ≡ true = grind (arith, nat_tests) in rw e test

find_none : (limit count : ℕ) (moment : ℤ) (journal : List Event) → length journal ≤ count → FindRoom limit count moment [] journal
find_none limit count moment journal few = record { behind = journal; journals = refl; room = refl; few = few }

find_one : (limit count : ℕ) (moment : ℤ) (one : Submission) (journal : List Event) → one.symbol ≡ 0 → length journal ≤ count
    → count < limit → FindRoom limit (count + 1) moment (one ∷ []) journal
find_one limit count moment one journal e few l =
    let room = room_at limit one.symbol journal e (omega (arith, few, l)) in
    let event = next_event moment one (journal ∷ []) in
    record {
      behind = journal ++ event ∷ [];
      journals = rw room (rw e refl);
      room = rw room refl;
      few = omega (arith, few, length-append journal (event ∷ []));
    }

find_few : (limit count : ℕ) (moment : ℤ) (submissions : List Submission) (journal : List Event) → AtMostOne submissions
    → length journal ≤ count → count < limit → FindRoom limit (count + 1) moment submissions journal
find_few limit count moment [] journal one few l = find_none limit (count + 1) moment journal (omega (arith, few))
find_few limit count moment (one ∷ []) journal e few l = find_one limit count moment one journal e few l
find_few limit count moment (one ∷ other ∷ more) journal e few l = absurd e

-- a line's work that leaves this connection
abbrev worked : ℕ → ℤ → Connection → List ℕ → List Submission → LineWork
worked limit moment after text submissions = record {
  state = record { config = load_config limit begins_at; moment = moment; connections = after ∷ [] };
  text = text;
  submissions = submissions;
}

-- the member once his reports went out
abbrev pulled_one : ℕ → ℤ → Connection → List ℕ → List Event → Member
pulled_one limit moment after cursors journal =
    pulled (load_config limit begins_at) moment (journal ∷ []) (record { connection = after; cursors = cursors })

-- the player behind a line whose commands find room
answered : (n limit : ℕ) (moment : ℤ) (before after : Connection) (cursors : List ℕ) (journal behind : List Event) (text : List ℕ)
    (submissions : List Submission)
    → (recorded (load_config limit begins_at) moment submissions (journal ∷ [])).journals ≡ behind ∷ []
    → (recorded (load_config limit begins_at) moment submissions (journal ∷ [])).is_full ≡ false
    → (answer_to_work n (body_with limit moment before cursors journal) (Ok (worked limit moment after text submissions))).result
    ≡ Ok (
      body_with limit moment (pulled_one limit moment after cursors behind).connection (pulled_one limit moment after cursors behind).cursors behind,
      text ++ lines_of_pulls (body_with limit moment after cursors behind),
    )
answered n limit moment before after cursors journal behind text submissions journals room = rw (room, journals) refl

-- a line of the body that was read
pub record IsWorked (limit count : ℕ) (place : Place) (line : List ℕ) (before : InBody limit count place) (last : ℕ) : Type 0 where
  pub after : Connection
  pub text : List ℕ
  pub submissions : List Submission
  pub works : work_of_text (record { config = load_config limit begins_at; moment = before.moment; connections = before.connection ∷ [] }) line
      ≡ Ok (worked limit before.moment after text submissions)
  pub whole : IsWhole after.stream
  pub finds : FindRoom limit last before.moment submissions before.journal
  pub short : length line ≤ 1500

-- a line is taken, and leads on in the body
pub record LeadsOn (limit last : ℕ) (place : Place) (line : List ℕ) : Type 0 where
  pub next : Place
  pub taken : IsTaken place line next
  pub there : InBody limit last next
  pub lines : next.lines ≡ place.lines + 1

leads_on : (limit count last : ℕ) (place : Place) (line : List ℕ) (x : InBody limit count place) → place.lines ≤ 500000
    → IsWorked limit count place line x last → LeadsOn limit last place line
unfolding turned play_line
leads_on limit count last place line x few w =
    let now = pulled_one limit x.moment w.after x.cursors w.finds.behind in
    let playing = body_with limit x.moment now.connection now.cursors w.finds.behind in
    let out = w.text ++ lines_of_pulls (body_with limit x.moment w.after x.cursors w.finds.behind) in
    let answer = answered (place.lines + 1) limit x.moment x.connection w.after x.cursors x.journal w.finds.behind w.text w.submissions
    w.finds.journals w.finds.room in
    let turns : (turned (place.lines + 1) place.stage line).result ≡ Ok (Body playing, out) = rw (x.stage, w.works, answer) refl in
    record {
      next = next_place place line (Body playing);
      taken = stepped_on place line (Body playing) out (record { bytes = x.early; lines = few }) w.short turns;
      there = record {
        moment = x.moment;
        connection = now.connection;
        cursors = now.cursors;
        journal = w.finds.behind;
        stage = refl;
        whole = w.whole;
        few = w.finds.few;
        early = omega (arith, x.early, w.short);
      };
      lines = refl;
    }

-- the feed at a place
abbrev feed_at : {limit count : ℕ} {place : Place} → InBody limit count place → FeedState
feed_at {limit} x = record { config = load_config limit begins_at; moment = x.moment; connections = x.connection ∷ [] }

message_worked : (limit count last : ℕ) (place : Place) (line : List ℕ) (m : IsMessage line) (x : InBody limit count place)
    → FindRoom limit last x.moment (work_of_bytes (load_config limit begins_at) x.moment x.connection (frame_in m)).submissions x.journal
    → IsWorked limit count place line x last
unfolding work_of_text
message_worked limit count last place line m x finds =
    let config = load_config limit begins_at in
    let framed = message_framed line m in
    record {
      after = fed config x.moment x.connection (frame_in m);
      text = piece_lines config x.moment x.connection (frame_in m);
      submissions = (work_of_bytes config x.moment x.connection (frame_in m)).submissions;
      works = ap (work_of_read (feed_at x)) (message_read limit begins_at line m);
      whole = whole_on x.connection.stream (frame_in m) x.whole framed.0 framed.1;
      finds = finds;
      short = omega (arith, message_short line m);
    }

message_on : (limit count : ℕ) (place : Place) (line : List ℕ) → IsMessage line → InBody limit count place → count < limit
    → place.lines ≤ 500000 → LeadsOn limit (count + 1) place line
message_on limit count place line m x room early =
    let config = load_config limit begins_at in
    let framed = message_framed line m in
    leads_on limit count (count + 1) place line x early (message_worked limit count (count + 1) place line m x
    (find_few limit count x.moment _ x.journal
    (few_given config x.connection.number x.moment x.connection.session x.connection.stream (frame_in m) refl x.whole framed.0 framed.1)
    x.few room))

logon_on : (limit : ℕ) (place : Place) (x : InBody limit 0 place) → x.connection.session ≡ fresh (codes "A") → place.lines ≤ 500000
    → LeadsOn limit 0 place logon_line
logon_on limit place x new early =
    let config = load_config limit begins_at in
    let m = logon_message in
    let framed = message_framed logon_line m in
    let none : (work_of_bytes config x.moment x.connection (frame_in m)).submissions ≡ [] =
    ap (λ (session : Machine). (work_of_reading config x.connection.number x.moment session (reading_behind x.connection.stream (frame_in m))).submissions) new
    ∙ none_given config x.connection.number x.moment (codes "A") x.connection.stream (frame_in m) x.whole framed.0 framed.1 in
    leads_on limit 0 0 place logon_line x early (message_worked limit 0 0 place logon_line m x
    (subst (λ (s : List Submission). FindRoom limit 0 x.moment s x.journal) (sym none) (find_none limit 0 x.moment x.journal x.few)))

quote_on : (limit count : ℕ) (place : Place) (line : List ℕ) → IsQuoteLine limit begins_at line → InBody limit count place → count < limit
    → place.lines ≤ 500000 → LeadsOn limit (count + 1) place line
unfolding work_of_text
quote_on limit count place line q x room early =
    leads_on limit count (count + 1) place line x early (record {
      after = x.connection;
      text = [];
      submissions = record { symbol = 0; command = q.command } ∷ [];
      works = ap (work_of_read (feed_at x)) q.read;
      whole = x.whole;
      finds = find_one limit count x.moment (record { symbol = 0; command = q.command }) x.journal refl x.few room;
      short = omega (arith, q.short);
    })

-- ---- many lines

-- from each place in the body, with so many events and lines before it, these lines are played to their end
abbrev PlaysOn : ℕ → ℕ → ℕ → List (List ℕ) → Type 0
PlaysOn limit count lines rest = (q : Place) → InBody limit count q → q.lines ≡ lines → (play q rest []).fault ≡ None

many_on : (limit : ℕ) (line : ℕ → List ℕ) (most : ℕ)
    → ((i count : ℕ) (place : Place) → i ≤ most → InBody limit count place → count < limit → place.lines ≤ 500000 → LeadsOn limit (count + 1) place (line i))
    → (n a count lines : ℕ) (rest : List (List ℕ)) → a + n ≤ most + 1 → count + n ≤ limit → lines + n ≤ 500000
    → PlaysOn limit (count + n) (lines + n) rest → PlaysOn limit count lines (map line (range_with_len a n) ++ rest)
many_on limit line most takes zero a count lines rest within room early ends q x e =
    let none : count ≡ count + 0 = omega arith in
    ends q (subst (λ (c : ℕ). InBody limit c q) none x) (omega (arith, e))
many_on limit line most takes (suc n) a count lines rest within room early ends q x e =
    let on = takes a count q (omega (arith, within)) x (omega (arith, room)) (omega (arith, early, e)) in
    taken_on q on.next (line a) (map line (range_with_len (a + 1) n) ++ rest) on.taken
    ∙ many_on limit line most takes n (a + 1) (count + 1) (lines + 1) rest (omega (arith, within)) (omega (arith, room)) (omega (arith, early))
    (λ r y d.
    let same : count + 1 + n ≡ count + suc n = omega arith in
    ends r (subst (λ (c : ℕ). InBody limit c r) same y) (omega (arith, d))) on.next on.there (omega (arith, on.lines, e))

-- behind the last line
ends_body : (limit count lines : ℕ) → PlaysOn limit count lines []
unfolding play end_at
ends_body limit count lines q x e = rw x.stage refl

last_on : (limit count lines orders : ℕ) → count < limit → lines ≤ 500000 → orders < 2 ^ 32 → PlaysOn limit count lines (last_line orders ∷ [])
last_on limit count lines orders room early small q x e =
    let on = message_on limit count q (last_line orders) (last_message orders small) x room (omega (arith, early, e)) in
    taken_on q on.next (last_line orders) [] on.taken ∙ ends_body limit (count + 1) (lines + 1) on.next on.there (omega (arith, on.lines, e))

-- ---- the header

early_on : (place : Place) (line : List ℕ) (stage : Stage) → IsEarly place → length line ≤ 1500 → place.lines < 500000
    → IsEarly (next_place place line stage)
early_on place line stage early short few = record { bytes = omega (arith, early.bytes, short); lines = omega arith }

header_on : (limit : ℕ) (place : Place) (line : List ℕ) (header next : Header) → place.stage ≡ Head header → IsEarly place → length line ≤ 1500
    → header_line (place.lines + 1) header line ≡ Ok (false, next) → IsTaken place line (next_place place line (Head next))
unfolding turned
header_on limit place line header next here early short e =
    stepped_on place line (Head next) [] early short (rw (here, e) refl)

abbrev symbol_line : ℕ → List ℕ
symbol_line limit = codes "SYMBOL L " ++ decimal limit

symbol_short : (limit : ℕ) → limit ≤ 1000000 → length (symbol_line limit) ≤ 1500
symbol_short limit most =
    omega (arith, length-append (codes "SYMBOL L ") (decimal limit), length-decimal-le 7 limit (omega arith) (omega arith) (omega arith))

-- the body begins with a member who was never connected
header_plays : (limit : ℕ) (rest : List (List ℕ)) → 0 < limit → limit ≤ 1000000
    → ((q : Place) (x : InBody limit 0 q) → x.connection.session ≡ fresh (codes "A") → q.lines ≡ 5 → (play q rest []).fault ≡ None)
    → (play start (codes "PEGV 1" ∷ codes "MEMBER A" ∷ codes "MARKET M" ∷ symbol_line limit ∷ codes "BEGIN 20240102-14:30:00.000" ∷ rest) []).fault ≡ None
unfolding turned
header_plays limit rest some most ends =
    let e0 : IsEarly start = record { bytes = omega arith; lines = omega arith } in
    let l1 = codes "PEGV 1" in
    let t1 = header_on limit start l1 blank header_one refl e0 (omega arith) version_read in
    let p1 = next_place start l1 (Head header_one) in
    let e1 = early_on start l1 (Head header_one) e0 (omega arith) (omega arith) in
    let l2 = codes "MEMBER A" in
    let t2 = header_on limit p1 l2 header_one header_two refl e1 (omega arith) member_read in
    let p2 = next_place p1 l2 (Head header_two) in
    let e2 = early_on p1 l2 (Head header_two) e1 (omega arith) (omega arith) in
    let l3 = codes "MARKET M" in
    let t3 = header_on limit p2 l3 header_two header_three refl e2 (omega arith) market_read in
    let p3 = next_place p2 l3 (Head header_three) in
    let e3 = early_on p2 l3 (Head header_three) e2 (omega arith) (omega arith) in
    let l4 = symbol_line limit in
    let t4 = header_on limit p3 l4 header_three (header_four limit) refl e3 (symbol_short limit most) (symbol_read limit some most) in
    let p4 = next_place p3 l4 (Head (header_four limit)) in
    let e4 = early_on p3 l4 (Head (header_four limit)) e3 (symbol_short limit most) (omega arith) in
    let l5 = codes "BEGIN 20240102-14:30:00.000" in
    let body = Body (before_body (load_config limit begins_at)) in
    let t5 = stepped_on p4 l5 body [] e4 (omega arith) (rw (begin_read limit) refl) in
    let p5 = next_place p4 l5 body in
    let e5 = early_on p4 l5 body e4 (omega arith) (omega arith) in
    taken_on start p1 l1 _ t1 ∙ taken_on p1 p2 l2 _ t2 ∙ taken_on p2 p3 l3 _ t3 ∙ taken_on p3 p4 l4 _ t4 ∙ taken_on p4 p5 l5 _ t5
    ∙ ends p5 (record {
      moment = begins_at;
      connection = new_connection (load_config limit begins_at) 0;
      cursors = [];
      journal = [];
      stage = refl;
      whole = whole_none;
      few = omega arith;
      early = e5.bytes;
    }) refl refl

-- ---- the whole script

body_plays : (orders quotes : ℕ) → orders ≤ most_load → quotes ≤ most_load
    → PlaysOn (orders + quotes + 2) 1 7 (map order_line (range_with_len 1 orders) ++ (map quote_line (range_with_len 1 quotes) ++ last_line orders ∷ []))
body_plays orders quotes few less =
    let limit = orders + quotes + 2 in
    many_on limit order_line orders (λ i count place within x room early. message_on limit count place (order_line i) (order_message i (omega arith)) x room early)
    orders 1 1 7 _ (omega arith) (omega arith) (omega arith)
    (many_on limit quote_line quotes (λ i count place within x room early. quote_on limit count place (quote_line i) (each_quote limit begins_at i) x room early)
    quotes 1 (1 + orders) (7 + orders) _ (omega arith) (omega arith) (omega arith)
    (last_on limit (1 + orders + quotes) (7 + orders + quotes) orders (omega arith) (omega arith) (omega arith)))

first_plays : (orders quotes : ℕ) → orders ≤ most_load → quotes ≤ most_load → (rest : List (List ℕ))
    → PlaysOn (orders + quotes + 2) 1 7 rest → (play start (first_lines (orders + quotes + 2) ++ rest) []).fault ≡ None
first_plays orders quotes few less rest ends =
    let limit = orders + quotes + 2 in
    header_plays limit (logon_line ∷ codes "Q L M 10.00 10.02" ∷ rest) (omega arith) (omega arith) (λ q x new e.
    let a = logon_on limit q x new (omega (arith, e)) in
    let b = quote_on limit 0 a.next (codes "Q L M 10.00 10.02") (first_quote limit begins_at) a.there (omega arith) (omega (arith, a.lines, e)) in
    taken_on q a.next logon_line _ a.taken ∙ taken_on a.next b.next (codes "Q L M 10.00 10.02") rest b.taken
    ∙ ends b.next b.there (omega (arith, a.lines, b.lines, e)))

-- the load script has no fault
pub load_whole : (orders quotes : ℕ) → orders ≤ most_load → quotes ≤ most_load → (loaded orders quotes).fault ≡ None
unfolding loaded load_lines
load_whole orders quotes few less =
    let first = first_lines (orders + quotes + 2) in
    let many = map order_line (range_with_len 1 orders) in
    let more = map quote_line (range_with_len 1 quotes) in
    let last = last_line orders ∷ [] in
    ap (λ (lines : List (List ℕ)). (play start lines []).fault) (append_assoc (first ++ many) more last ∙ append_assoc first many (more ++ last))
    ∙ first_plays orders quotes few less (many ++ (more ++ last)) (body_plays orders quotes few less)
