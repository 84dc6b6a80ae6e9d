-- What goes out to a desk's member is what the definitions send him.
use Rattle.std.proofs.Common.{◌≡◌, ℕ, ℤ, ◌+◌, ◌<◌, ◌≤◌, max, Bool, true, false, cond, List, [], ◌∷◌, ◌++◌, length, map, get_or, refl, sym, ◌∙◌, ap, subst, inl, inr, append-nil, arith}
use Rattle.std.proofs.Math.ListN.{drop_of_length-le}
use Rattle.std.proofs.lemmas.List.FromFn.{get_or-map-range_with_len}
use Rattle.std.specs.List.{AllZip, range_with_len}
use Rattle.venue_words.specs.declared.config.Config.{Config}
use Rattle.venue_words.specs.declared.command.Event.{Event}
use Rattle.venue_words.specs.declared.report.Report.{Report}
use Rattle.venue_words.specs.Journals.{reports_of}
use Rattle.session_core.specs.Machine.{Machine, Outcome, IsUp, IsOver, rests, on_send}
use Rattle.session_core.specs.Frames.{new_frames}
use Rattle.session_core.specs.Runs.{send_if_up}
use Rattle.session_core.specs.State.{is_up}
use Rattle.session_core.specs.declared.message.Message.{Message}
use Rattle.member_gate.specs.Answering.{name_at, message_of}
use Rattle.member_gate.specs.Desks.{DeskView}
use Rattle.member_gate.specs.Reporting.{cursor_at, asked_at, where_asked, asked_reports, messages_at, messages_from, messages_past, MovedOn}
use Rattle.member_gate.specs.Working.{AreUnread}
use Rattle.line_work.specs.Output.{frame_lines}
use Rattle.line_work.specs.OverLaws.{send_over}
use Rattle.line_work.specs.Pulling.{IsPulled}
use Rattle.member_gate.specs.Pulling.{reports_sent}
use Rattle.line_work.specs.Standing.{IsDeskOf}
use Rattle.replay_core.specs.News.{NoneWaits, NoneElsewhere}
use Rattle.replay_core.specs.Playing.{Member, reports_at}
use Rattle.replay_core.specs.Pulling.{sent_to, pulled, pull_lines, moved_cursors}
use Rattle.replay_core.specs.Stages.{AreCursors, AreSent, IsDeskOfMember, IsSamePast}
use Rattle.replay_core.proofs.Down.{where_up}

-- ---- messages

same_messages : (config : Config) (a b : ℕ) (symbol : List ℕ) (x y : ℕ) (r s : List Report) → a ≡ b
    → reports_of a x r ≡ reports_of a y s → messages_at config a symbol x r ≡ messages_at config b symbol y s
unfolding messages_at
same_messages config a b symbol x y r s e h =
    subst (λ (k : ℕ). messages_at config a symbol x r ≡ messages_at config k symbol y s) e
    (ap (λ (reports : List Report). map (message_of (name_at config.members a) symbol) reports) h)

messages_same : (config : Config) (a b : ℕ) (c d : List ℕ) (r s : ℕ → List Report) (n number : ℕ) (symbols : List (List ℕ)) → a ≡ b
    → number + length symbols ≤ n
    → ((k : ℕ) → k < n → reports_of a (cursor_at c k) (r k) ≡ reports_of a (cursor_at d k) (s k))
    → messages_from config a c r number symbols ≡ messages_from config b d s number symbols
messages_same config a b c d r s n number [] e l h = refl
messages_same config a b c d r s n number (symbol ∷ symbols) e l h =
    let at : number < n = omega arith in
    let more : (number + 1) + length symbols ≤ n = omega arith in
    let first = same_messages config a b symbol (cursor_at c number) (cursor_at d number) (r number) (s number) e (h number at) in
    let rest = messages_same config a b c d r s n (number + 1) symbols e more h in
    rw (first, rest) refl

no_messages_at : (config : Config) (member : ℕ) (symbol : List ℕ) (x : ℕ) (r : List Report) → reports_of member x r ≡ []
    → messages_at config member symbol x r ≡ []
unfolding messages_at
no_messages_at config member symbol x r h = ap (λ (reports : List Report). map (message_of (name_at config.members member) symbol) reports) h

no_messages : (config : Config) (member : ℕ) (c : List ℕ) (r : ℕ → List Report) (n number : ℕ) (symbols : List (List ℕ))
    → number + length symbols ≤ n → ((k : ℕ) → k < n → reports_of member (cursor_at c k) (r k) ≡ [])
    → messages_from config member c r number symbols ≡ []
no_messages config member c r n number [] l h = refl
no_messages config member c r n number (symbol ∷ symbols) l h =
    let at : number < n = omega arith in
    let more : (number + 1) + length symbols ≤ n = omega arith in
    let first = no_messages_at config member symbol (cursor_at c number) (r number) (h number at) in
    let rest = no_messages config member c r n (number + 1) symbols more h in
    rw (first, rest) refl

-- a floor shows these reports of each symbol
abbrev pub Shown : Config → List (List Event) → (ℕ → List Report) → Type 0
Shown config journals reports = (symbol : ℕ) → symbol < length config.symbols → reports symbol ≡ reports_at config journals symbol

pub none_past : (member from : ℕ) (reports : List Report) → length reports ≤ from → reports_of member from reports ≡ []
none_past member from reports l = rw (drop_of_length-le reports l) refl

-- what is read of a symbol, where nothing waits at one that is not asked
read_where : (member a b : ℕ) (shown there : List Report) (is : Bool) → shown ≡ there → reports_of member a there ≡ reports_of member b there
    → (is ≡ false → reports_of member b there ≡ []) → reports_of member a (where_asked is shown) ≡ reports_of member b there
read_where member a b shown there true e same none = ap (reports_of member a) e ∙ same
read_where member a b shown there false e same none = none_past member a [] (omega arith) ∙ sym (none refl)

messages_alike : (config : Config) (desk : DeskView) (member : Member) (journals : List (List Event)) (row : List Bool) (reports : ℕ → List Report)
    → IsDeskOfMember config journals desk member → Shown config journals reports
    → NoneElsewhere config journals row desk.member member.cursors
    → messages_past config desk.member desk.cursors (asked_reports row reports)
    ≡ messages_past config member.connection.number member.cursors (reports_at config journals)
messages_alike config desk member journals row reports x same none =
    messages_same config desk.member member.connection.number desk.cursors member.cursors (asked_reports row reports) (reports_at config journals)
    (length config.symbols) 0 config.symbols x.connection.number (omega arith)
    (λ k l. read_where desk.member (cursor_at desk.cursors k) (cursor_at member.cursors k) (reports k) (reports_at config journals k)
    (asked_at row k) (same k l) (x.cursors k l).same (none k l))

sends_down : (session : Machine) (messages : List Message) (moment : ℤ) → is_up session.state ≡ false
    → send_if_up session messages moment ≡ rests session
sends_down session messages moment e = rw e refl

sends_alike : (session : Machine) (a b : List Message) (moment : ℤ) (up : Bool) → is_up session.state ≡ up → (up ≡ true → a ≡ b)
    → send_if_up session a moment ≡ send_if_up session b moment
sends_alike session a b moment true e same = ap (λ (m : List Message). send_if_up session m moment) (same refl)
sends_alike session a b moment false e same = sends_down session a moment e ∙ sym (sends_down session b moment e)

-- what a desk's session sends is what its member's does
sends_same : (config : Config) (moment : ℤ) (desk : DeskView) (member : Member) (journals : List (List Event)) (row : List Bool) (reports : ℕ → List Report)
    → IsDeskOfMember config journals desk member → Shown config journals reports
    → (IsUp desk.session → NoneElsewhere config journals row desk.member member.cursors)
    → reports_sent config moment (asked_reports row reports) desk ≡ sent_to config moment journals member
sends_same config moment desk member journals row reports x same none =
    ap (λ (s : Machine). send_if_up s (messages_past config desk.member desk.cursors (asked_reports row reports)) moment) x.connection.session
    ∙ sends_alike member.connection.session _ _ moment (is_up member.connection.session.state) refl
    (λ up. messages_alike config desk member journals row reports x same (none (ap (λ (s : Machine). is_up s.state) x.connection.session ∙ up)))

over_sent : (session : Machine) (messages : List Message) (moment : ℤ) → IsOver session
    → IsOver (send_if_up session messages moment).machine
over_sent session messages moment over =
    subst (λ (o : Outcome). IsOver o.machine) (sym (send_over session messages moment over)) over

-- ---- cursors

-- the cursor of the definition that went on stands at the end of the symbol's reports
moved_to_end : (config : Config) (journals : List (List Event)) (cursors : List ℕ) (k : ℕ) → k < length config.symbols
    → cursor_at cursors k ≤ length (reports_at config journals k)
    → cursor_at (moved_cursors config journals cursors) k ≡ length (reports_at config journals k)
moved_to_end config journals cursors k l within =
    let f : ℕ → ℕ = λ symbol. max (cursor_at cursors symbol) (length (reports_at config journals symbol)) in
    let there : get_or (map f (range_with_len 0 (length config.symbols))) k 0 ≡ f k =
    get_or-map-range_with_len f 0 (length config.symbols) k k 0 l (omega arith) in
    omega (arith, there, within)

both_at_end : (member a b : ℕ) (reports : List Report) → a ≡ length reports → b ≡ length reports → IsSamePast member reports a b
both_at_end member a b reports e f = record {
  first = omega (arith, e);
  second = omega (arith, f);
  same = none_past member a reports (omega (arith, e)) ∙ sym (none_past member b reports (omega (arith, f)));
}

cursor_moved : (config : Config) (journals : List (List Event)) (number : ℕ) (before after member : List ℕ) (reports : ℕ → List Report)
    → MovedOn (length config.symbols) reports before after → AreCursors config journals number before member
    → Shown config journals reports → AreCursors config journals number after (moved_cursors config journals member)
cursor_moved config journals number before after member reports moved cursors same k l =
    let read = moved.read k l in
    let shown : length (reports k) ≡ length (reports_at config journals k) = ap (length {A = Report}) (same k l) in
    let first = (cursors k l).first in
    both_at_end number (cursor_at after k) (cursor_at (moved_cursors config journals member) k) (reports_at config journals k)
    (omega (arith, read, shown, first)) (moved_to_end config journals member k l (cursors k l).second)

cursors_pulled : (config : Config) (journals : List (List Event)) (number : ℕ) (before after member : List ℕ) (reports : ℕ → List Report) (up : Bool)
    → (up ≡ true → MovedOn (length config.symbols) reports before after) → (up ≡ false → after ≡ before)
    → AreCursors config journals number before member → Shown config journals reports
    → AreCursors config journals number after (cond up (moved_cursors config journals member) member)
cursors_pulled config journals number before after member reports true moved down cursors same =
    cursor_moved config journals number before after member reports (moved refl) cursors same
cursors_pulled config journals number before after member reports false moved down cursors same =
    subst (λ (c : List ℕ). AreCursors config journals number c member) (sym (down refl)) cursors

-- ---- a desk that is pulled

pub desk_pulled : (config : Config) (moment : ℤ) (journals : List (List Event)) (desk next : DeskView) (member : Member) (row : List Bool) (reports : ℕ → List Report)
    → Shown config journals reports → IsPulled config moment row reports desk next → IsDeskOfMember config journals desk member
    → (IsUp desk.session → NoneElsewhere config journals row desk.member member.cursors)
    → IsDeskOfMember config journals next (pulled config moment journals member)
desk_pulled config moment journals desk next member row reports same p x none = record {
  connection = record {
    number = p.member ∙ x.connection.number;
    session = p.session ∙ ap (λ (o : Outcome). o.machine) (sends_same config moment desk member journals row reports x same none);
    stream = elim x.connection.stream [
      | inl over ↦ inl (over_sent member.connection.session (messages_past config member.connection.number member.cursors (reports_at config journals)) moment over)
      | inr read ↦ inr (subst (λ (u : List ℕ). AreUnread member.connection.stream u) (sym p.unread) read)
    ];
  };
  cursors = subst (λ (k : ℕ). AreCursors config journals k next.cursors (pulled config moment journals member).cursors) (sym p.member)
      (cursors_pulled config journals desk.member desk.cursors next.cursors member.cursors reports (is_up member.connection.session.state)
      (λ up. p.cursors (ap (λ (s : Machine). is_up s.state) x.connection.session ∙ up))
      (λ no. ap (λ (d : DeskView). d.cursors) (p.down (λ up.
      let e : is_up member.connection.session.state ≡ true = sym (ap (λ (s : Machine). is_up s.state) x.connection.session) ∙ up in cc)))
      x.cursors same);
}

pub line_pulled : (config : Config) (moment : ℤ) (journals : List (List Event)) (row : List Bool) (reports : ℕ → List Report) (number : ℕ) (desk : DeskView) (old new : List ℕ) (member : Member)
    → Shown config journals reports → desk.member ≡ number
    → new ≡ old ++ frame_lines (name_at config.members number) (reports_sent config moment (asked_reports row reports) desk).turn.replies
    → IsDeskOfMember config journals desk member → (IsUp desk.session → NoneElsewhere config journals row desk.member member.cursors)
    → new ≡ old ++ pull_lines config moment journals member
line_pulled config moment journals row reports number desk old new member same own text x none =
    text
    ∙ ap (λ (k : ℕ). old ++ frame_lines (name_at config.members k) (reports_sent config moment (asked_reports row reports) desk).turn.replies) (sym own ∙ x.connection.number)
    ∙ ap (λ (o : Outcome). old ++ frame_lines (name_at config.members member.connection.number) o.turn.replies)
    (sends_same config moment desk member journals row reports x same none)

-- ---- a desk for whose member nothing waits

nothing_sent : (session : Machine) (moment : ℤ) → on_send session [] moment ≡ rests session
unfolding on_send new_frames
nothing_sent session moment = rw (append-nil session.sent) refl

sends_nothing : (session : Machine) (messages : List Message) (moment : ℤ) (up : Bool) → is_up session.state ≡ up
    → (up ≡ true → messages ≡ []) → send_if_up session messages moment ≡ rests session
sends_nothing session messages moment true e none = rw (e, none refl) (nothing_sent session moment)
sends_nothing session messages moment false e none = rw e refl

quiet : (config : Config) (moment : ℤ) (journals : List (List Event)) (desk : DeskView) (member : Member)
    → IsDeskOf desk member.connection → (IsUp desk.session → NoneWaits config journals desk.member member.cursors)
    → sent_to config moment journals member ≡ rests member.connection.session
quiet config moment journals desk member x none =
    sends_nothing member.connection.session _ moment (is_up member.connection.session.state) refl
    (λ up. no_messages config member.connection.number member.cursors (reports_at config journals) (length config.symbols) 0 config.symbols
    (omega arith) (subst (λ (k : ℕ). NoneWaits config journals k member.cursors) x.number
    (none (ap (λ (s : Machine). is_up s.state) x.session ∙ up))))

cursors_passed : (config : Config) (journals : List (List Event)) (number : ℕ) (desk member : List ℕ) (up : Bool)
    → (up ≡ true → NoneWaits config journals number member) → AreCursors config journals number desk member
    → AreCursors config journals number desk (cond up (moved_cursors config journals member) member)
cursors_passed config journals number desk member true none cursors = λ k l.
    let x = cursors k l in
    let end = moved_to_end config journals member k l x.second in
    record {
      first = x.first;
      second = omega (arith, end);
      same = x.same ∙ none refl k l
          ∙ sym (none_past number (cursor_at (moved_cursors config journals member) k) (reports_at config journals k) (omega (arith, end)));
    }
cursors_passed config journals number desk member false none cursors = cursors

pub desk_passed : (config : Config) (moment : ℤ) (journals : List (List Event)) (desk : DeskView) (member : Member)
    → (IsUp desk.session → NoneWaits config journals desk.member member.cursors) → IsDeskOfMember config journals desk member
    → IsDeskOfMember config journals desk (pulled config moment journals member)
desk_passed config moment journals desk member none x = record {
  connection = subst (λ (o : Outcome). IsDeskOf desk (record member.connection { session = o.machine }))
      (sym (quiet config moment journals desk member x.connection none)) x.connection;
  cursors = cursors_passed config journals desk.member desk.cursors member.cursors (is_up member.connection.session.state)
      (λ up. none (ap (λ (s : Machine). is_up s.state) x.connection.session ∙ up)) x.cursors;
}

pub line_passed : (config : Config) (moment : ℤ) (journals : List (List Event)) (desk : DeskView) (member : Member)
    → IsDeskOf desk member.connection → (IsUp desk.session → NoneWaits config journals desk.member member.cursors)
    → pull_lines config moment journals member ≡ []
unfolding frame_lines
line_passed config moment journals desk member x none =
    ap (λ (o : Outcome). frame_lines (name_at config.members member.connection.number) o.turn.replies)
    (quiet config moment journals desk member x none)

-- ---- behind all that goes out

-- a member whose session is up was sent all
pub sent_behind : (config : Config) (moment : ℤ) (journals : List (List Event)) (desk : DeskView) (member : Member)
    → IsDeskOfMember config journals desk (pulled config moment journals member)
    → AreSent config journals desk (pulled config moment journals member).cursors
sent_behind config moment journals desk member x = record {
  past = x.cursors;
  sent = λ up k l.
      let was : IsUp member.connection.session =
      where_up member.connection.session (is_up member.connection.session.state) _ refl
      (sym (ap (λ (s : Machine). is_up s.state) x.connection.session) ∙ up) in
      at_end (is_up member.connection.session.state) was k l (x.cursors k l).second;
}
  where
    at_end : (up : Bool) → up ≡ true → (k : ℕ) → k < length config.symbols
        → cursor_at (cond up (moved_cursors config journals member.cursors) member.cursors) k ≤ length (reports_at config journals k)
        → cursor_at (cond up (moved_cursors config journals member.cursors) member.cursors) k ≡ length (reports_at config journals k)
    at_end true e k l within =
        let f : ℕ → ℕ = λ symbol. max (cursor_at member.cursors symbol) (length (reports_at config journals symbol)) in
        let there : get_or (map f (range_with_len 0 (length config.symbols))) k 0 ≡ f k =
        get_or-map-range_with_len f 0 (length config.symbols) k k 0 l (omega arith) in
        omega (arith, there, within)
    at_end false e k l within = absurd (cc)

pub zip_sent : (config : Config) (moment : ℤ) (journals : List (List Event)) (ds : List DeskView) (members : List Member)
    → AllZip (IsDeskOfMember config journals) ds (map (pulled config moment journals) members)
    → AllZip (AreSent config journals) ds (map (λ (m : Member). m.cursors) (map (pulled config moment journals) members))
zip_sent config moment journals [] [] h = tt
zip_sent config moment journals [] (m ∷ ms) h = absurd h
zip_sent config moment journals (d ∷ ds) [] h = absurd h
zip_sent config moment journals (d ∷ ds) (m ∷ ms) h = (sent_behind config moment journals d m h.0, zip_sent config moment journals ds ms h.1)
