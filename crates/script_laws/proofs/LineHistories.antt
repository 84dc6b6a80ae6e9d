-- Each line that was taken goes on with the journals as a feed to which nothing is sent does with its commands.
use Rattle.std.proofs.Common.{◌≡◌, ℕ, zero, suc, ℤ, ◌+◌, ◌<◌, Bool, true, false, cond, List, [], ◌∷◌, ◌++◌, length, map, replicate, Some, Result, Ok, Err, refl, sym, ◌∙◌, ap, subst, arith}
use Rattle.std.specs.List.{AllZip, range_with_len}
use Rattle.std.proofs.lemmas.List.FromFn.{length-map-range_with_len}
use Rattle.venue_words.specs.declared.command.Event.{Event}
use Rattle.venue_words.specs.declared.config.Config.{Config}
use Rattle.session_core.specs.AlikeLaws.{sends_if_up-alike}
use Rattle.member_gate.specs.Answering.{Submission}
use Rattle.member_gate.specs.Reporting.{messages_past}
use Rattle.script_text.specs.declared.fault.LineFault.{LineFault}
use Rattle.script_laws.specs.Alike.{ConnectionsAlike, FeedsAlike}
use Rattle.script_laws.proofs.FeedAlike.{WorkAlike, TextAlike, same_alike, text_alike}
use Rattle.line_work.specs.Commands.{at_moment, and_then, submitted_by, commands_for, commands_of}
use Rattle.line_work.specs.FeedState.{FeedState, Connection, before_lines, new_connection}
use Rattle.line_work.specs.LineWork.{LineWork, work_of_text}
use Rattle.line_work.specs.LineWorkLaws.{text_keeps_config, text_keeps_count}
use Rattle.replay_core.specs.Histories.{place_behind, behind_result}
use Rattle.replay_core.specs.Play.{Place, Stage, Body, Stepped, turned, after_body, placed, next_place, step_at}
use Rattle.replay_core.specs.PlayLine.{play_line, answer_to, answer_to_work, recorded_by, behind_work, with_pulls}
use Rattle.replay_core.specs.Playing.{Playing, Member, members_in, before_body, journal_at, reports_at}
use Rattle.replay_core.specs.Pulling.{pulled, after_pulls}
use Rattle.replay_core.specs.Recording.{Recorded}
use Rattle.replay_core.proofs.Lists.{no_journal}
use Rattle.script_laws.specs.Histories.{HoldsCommands}
use Rattle.script_laws.proofs.RecordedCommands.{Continues, continues_none, continues_on, commands_append, commands_recorded, count_recorded}

-- ---- what goes out changes no feed but for what was sent

pulled_alike : (config : Config) (moment : ℤ) (journals : List (List Event)) (xs ys : List Connection) (cursors : List (List ℕ))
    → length cursors ≡ length xs → AllZip ConnectionsAlike xs ys
    → AllZip ConnectionsAlike (map (λ (m : Member). m.connection) (map (pulled config moment journals) (members_in xs cursors))) ys
pulled_alike config moment journals [] [] cursors e h = tt
pulled_alike config moment journals [] (y ∷ ys) cursors e h = absurd h
pulled_alike config moment journals (x ∷ xs) [] cursors e h = absurd h
pulled_alike config moment journals (x ∷ xs) (y ∷ ys) [] e h = absurd (omega arith)
pulled_alike config moment journals (x ∷ xs) (y ∷ ys) (c ∷ cs) e h = (
  record {
    number = h.0.number;
    stream = h.0.stream;
    sessions = sends_if_up-alike x.session y.session (messages_past config x.number c (reports_at config journals)) moment h.0.sessions;
  },
  pulled_alike config moment journals xs ys cs (omega (arith, e)) h.1,
)

pulled_count : (config : Config) (moment : ℤ) (journals : List (List Event)) (xs : List Connection) (cursors : List (List ℕ))
    → length cursors ≡ length xs
    → length (map (λ (m : Member). m.cursors) (map (pulled config moment journals) (members_in xs cursors)))
    ≡ length (map (λ (m : Member). m.connection) (map (pulled config moment journals) (members_in xs cursors)))
pulled_count config moment journals [] cursors e = refl
pulled_count config moment journals (x ∷ xs) [] e = absurd (omega arith)
pulled_count config moment journals (x ∷ xs) (c ∷ cs) e = ap suc (pulled_count config moment journals xs cs (omega (arith, e)))

-- ---- a line

-- a player beside a feed to which nothing is sent
pub record Beside (playing : Playing) (state : FeedState) : Type 0 where
  pub alike : FeedsAlike playing.feed state
  pub cursors : length playing.cursors ≡ length playing.feed.connections
  pub journals : length playing.journals ≡ length playing.feed.config.symbols

-- both went on by these commands
pub record WentOn (before after : Playing) (state : FeedState) (given : List (ℤ × Submission)) : Type 0 where
  pub beside : Beside after state
  pub config : after.feed.config ≡ before.feed.config
  pub journals : (symbol : ℕ) → symbol < length before.feed.config.symbols
      → Continues (journal_at before.journals symbol) (journal_at after.journals symbol) (commands_for symbol given)

-- what the line's answer says of its work
room_of : (n : ℕ) (playing : Playing) (work : LineWork) (r : Recorded) (x : Playing × List ℕ) → (answer_to n playing work r).result ≡ Ok x
    → (r.is_full ≡ false) × (x.0 ≡ after_pulls (behind_work playing work r))
room_of n playing work r x e =
    elim r.is_full as (λ b. r.is_full ≡ b → (r.is_full ≡ false) × (x.0 ≡ after_pulls (behind_work playing work r))) [
      | true ↦ λ full. absurd (let refused = rw full at e in cc)
      | false ↦ λ room.
          let taken = rw room at e in
          let same : with_pulls (behind_work playing work r) work.text ≡ x = cc in
          (room, sym (ap (λ (y : Playing × List ℕ). y.0) same))
    ] refl

line_worked : (n : ℕ) (playing : Playing) (state : FeedState) (text : List ℕ) (x : Playing × List ℕ) (work other : LineWork)
    → Beside playing state → work_of_text playing.feed text ≡ Ok work → WorkAlike work other
    → (answer_to n playing work (recorded_by playing work)).result ≡ Ok x
    → WentOn playing x.0 other.state (at_moment other.state.moment other.submissions)
line_worked n playing state text x work other b says alike e =
    let r = room_of n playing work (recorded_by playing work) x e in
    let config : work.state.config ≡ playing.feed.config = text_keeps_config playing.feed text work says in
    let count : length work.state.connections ≡ length playing.feed.connections = text_keeps_count playing.feed text work says in
    let cursors : length playing.cursors ≡ length work.state.connections = b.cursors ∙ sym count in
    let each : length (recorded_by playing work).journals ≡ length playing.journals =
    count_recorded work.state.config work.state.moment work.submissions playing.journals in
    let behind = behind_work playing work (recorded_by playing work) in
    let on : WentOn playing (after_pulls behind) other.state (at_moment other.state.moment other.submissions) = record {
      beside = record {
        alike = record {
          config = alike.states.config;
          moment = alike.states.moment;
          connections = pulled_alike work.state.config work.state.moment (recorded_by playing work).journals work.state.connections
              other.state.connections playing.cursors cursors alike.states.connections;
        };
        cursors = pulled_count work.state.config work.state.moment (recorded_by playing work).journals work.state.connections playing.cursors cursors;
        journals = each ∙ b.journals ∙ ap (λ (k : Config). length k.symbols) (sym config);
      };
      config = config;
      journals = λ symbol l.
          let given : commands_for symbol (at_moment work.state.moment work.submissions) ≡ commands_for symbol (at_moment other.state.moment other.submissions) =
          ap (λ (m : ℤ). commands_for symbol (at_moment m work.submissions)) alike.states.moment
          ∙ ap (λ (s : List Submission). commands_for symbol (at_moment other.state.moment s)) alike.submissions in
          let here : symbol < length playing.journals = omega (arith, b.journals, l) in
          subst (Continues (journal_at playing.journals symbol) (journal_at (recorded_by playing work).journals symbol)) given
          (commands_recorded work.state.config work.state.moment work.submissions playing.journals symbol here r.0);
    } in
    subst (λ (p : Playing). WentOn playing p other.state (at_moment other.state.moment other.submissions)) (sym r.1) on

-- a feed to which nothing is sent takes the line too
pub record TakenBeside (before after : Playing) (state : FeedState) (text : List ℕ) : Type 0 where
  pub work : LineWork
  pub says : work_of_text state text ≡ Ok work
  pub on : WentOn before after work.state (at_moment work.state.moment work.submissions)

taken_as : (n : ℕ) (playing : Playing) (state : FeedState) (text : List ℕ) (x : Playing × List ℕ) (mine other : Result LineWork LineFault)
    → Beside playing state → work_of_text playing.feed text ≡ mine → work_of_text state text ≡ other → TextAlike mine other
    → (answer_to_work n playing mine).result ≡ Ok x → TakenBeside playing x.0 state text
taken_as n playing state text x (Ok work) (Ok other) b e f alike taken =
    record { work = other; says = f; on = line_worked n playing state text x work other b e alike taken }
taken_as n playing state text x (Ok work) (Err fault) b e f alike taken = absurd alike
taken_as n playing state text x (Err fault) other b e f alike taken = absurd (cc)

line_taken : (n : ℕ) (playing : Playing) (state : FeedState) (text : List ℕ) (x : Playing × List ℕ) → Beside playing state
    → (play_line n playing text).result ≡ Ok x → TakenBeside playing x.0 state text
unfolding play_line
line_taken n playing state text x b e =
    taken_as n playing state text x (work_of_text playing.feed text) (work_of_text state text) b refl refl (text_alike playing.feed state text b.alike) e

-- ---- the place behind a line

refused_not : (test : Bool) (s t : Stepped) (fault : LineFault) (x : Place × List ℕ) → s.result ≡ Err fault → (cond test s t).result ≡ Ok x → t.result ≡ Ok x
refused_not true s t fault x e h = absurd (cc)
refused_not false s t fault x e h = h

not_over : (test : Bool) (fault : LineFault) (r : Result (Place × List ℕ) LineFault) (x : Place × List ℕ) → cond test (Err fault) r ≡ Ok x → r ≡ Ok x
not_over true fault r x h = absurd (cc)
not_over false fault r x h = h

-- the line was taken at its stage
pub record TakenAt (place next : Place) (text : List ℕ) : Type 0 where
  pub out : List ℕ
  pub turn : (turned (place.lines + 1) place.stage text).result ≡ Ok (next.stage, out)
  pub lines : next.lines ≡ place.lines + 1

placed_so : (place : Place) (text : List ℕ) (r : Result (Stage × List ℕ) LineFault) (x : Place × List ℕ) → placed place text r ≡ Ok x
    → (r ≡ Ok (x.0.stage, x.1)) × (x.0.lines ≡ place.lines + 1)
placed_so place text (Ok y) x e =
    let same : (next_place place text y.0, y.1) ≡ x = cc in
    let stage : y.0 ≡ x.0.stage = ap (λ (p : Place × List ℕ). p.0.stage) same in
    let out : y.1 ≡ x.1 = ap (λ (p : Place × List ℕ). p.1) same in
    (ap (λ (s : Stage). Ok (s, y.1)) stage ∙ ap (λ (o : List ℕ). Ok (x.0.stage, o)) out, sym (ap (λ (p : Place × List ℕ). p.0.lines) same))
placed_so place text (Err fault) x e = absurd (cc)

pub taken_at : (place : Place) (text : List ℕ) (x : Place × List ℕ) → (step_at place text).result ≡ Ok x → TakenAt place x.0 text
unfolding step_at
taken_at place text x e =
    let short = refused_not _ _ _ _ x refl e in
    let y = placed_so place text (turned (place.lines + 1) place.stage text).result x (not_over _ _ _ x short) in
    record { out = x.1; turn = y.0; lines = y.1 }

body_so : (r : Result (Playing × List ℕ) LineFault) (stage : Stage) (out : List ℕ) → after_body r ≡ Ok (stage, out)
    → (next : Playing) × (r ≡ Ok (next, out)) × (stage ≡ Body next)
body_so (Ok y) stage out e =
    let both : (Body y.0, y.1) ≡ (stage, out) = cc in
    (y.0, ap (λ (p : Stage × List ℕ). Ok (y.0, p.1)) both, sym (ap (λ (p : Stage × List ℕ). p.0) both))
body_so (Err fault) stage out e = absurd (cc)

body_taken : (place next : Place) (playing : Playing) (text : List ℕ) → place.stage ≡ Body playing → TakenAt place next text
    → (after : Playing) × ((out : List ℕ) × ((play_line (place.lines + 1) playing text).result ≡ Ok (after, out))) × (next.stage ≡ Body after)
unfolding turned
body_taken place next playing text is t =
    let here : after_body (play_line (place.lines + 1) playing text).result ≡ Ok (next.stage, t.out) =
    ap (λ (s : Stage). (turned (place.lines + 1) s text).result) (sym is) ∙ t.turn in
    let x = body_so (play_line (place.lines + 1) playing text).result next.stage t.out here in
    (x.0, (t.out, x.1), x.2)

-- ---- lines

-- the journals went on by these commands
pub record Records (before after : Playing) (given : List (ℤ × Submission)) : Type 0 where
  pub config : after.feed.config ≡ before.feed.config
  pub journals : (symbol : ℕ) → symbol < length before.feed.config.symbols
      → Continues (journal_at before.journals symbol) (journal_at after.journals symbol) (commands_for symbol given)

same_body : (a b : Playing) → Body a ≡ Body b → a ≡ b
same_body a b e = cc

records_none : (before after : Playing) → before ≡ after → Records before after []
records_none before after e = subst (λ (p : Playing). Records before p []) e
    (record { config = refl; journals = λ symbol l. continues_none (journal_at before.journals symbol) })

submitted_more : (state : FeedState) (line : List ℕ) (lines : List (List ℕ)) (work : LineWork) → work_of_text state line ≡ Ok work
    → submitted_by state (line ∷ lines) ≡ at_moment work.state.moment work.submissions ++ submitted_by work.state lines
unfolding submitted_by
submitted_more state line lines work e =
    ap (λ (r : Result LineWork LineFault). and_then r (λ next. submitted_by next lines)) e

records_more : (before mid after : Playing) (state : FeedState) (line : List ℕ) (lines : List (List ℕ)) (t : TakenBeside before mid state line)
    → Records mid after (submitted_by t.work.state lines) → Records before after (submitted_by state (line ∷ lines))
records_more before mid after state line lines t r =
    subst (Records before after) (sym (submitted_more state line lines t.work t.says)) (record {
      config = r.config ∙ t.on.config;
      journals = λ symbol l.
          let here : symbol < length mid.feed.config.symbols = rw t.on.config l in
          subst (Continues (journal_at before.journals symbol) (journal_at after.journals symbol))
          (sym (commands_append symbol (at_moment t.work.state.moment t.work.submissions) (submitted_by t.work.state lines)))
          (continues_on (journal_at before.journals symbol) (journal_at mid.journals symbol) (journal_at after.journals symbol)
          (commands_for symbol (at_moment t.work.state.moment t.work.submissions)) (commands_for symbol (submitted_by t.work.state lines))
          (t.on.journals symbol l) (r.journals symbol here));
    })

lines_on : (place last : Place) (lines : List (List ℕ)) (playing after : Playing) (state : FeedState) → place.stage ≡ Body playing
    → Beside playing state → place_behind place lines ≡ Some last → last.stage ≡ Body after → Records playing after (submitted_by state lines)
unfolding place_behind submitted_by
lines_on place last [] playing after state is b e end =
    let here : place ≡ last = cc in
    records_none playing after (same_body playing after (sym is ∙ ap (λ (p : Place). p.stage) here ∙ end))
lines_on place last (line ∷ lines) playing after state is b e end =
    elim (step_at place line).result as (λ r. (step_at place line).result ≡ r → behind_result r (λ next. place_behind next lines) ≡ Some last
    → Records playing after (submitted_by state (line ∷ lines))) [
      | Ok x ↦ λ taken more.
          let y = body_taken place x.0 playing line is (taken_at place line x taken) in
          let t = line_taken (place.lines + 1) playing state line (y.0, y.1.0) b y.1.1 in
          records_more playing y.0 after state line lines t
          (lines_on x.0 last lines y.0 after t.work.state y.2 t.on.beside more end)
      | Err fault ↦ λ taken more. absurd (cc)
    ] refl e

-- ---- before the first line

first_beside : (config : Config) → Beside (before_body config) (before_lines config)
first_beside config =
    let members : length (map (new_connection config) (range_with_len 0 (length config.members))) ≡ length config.members =
    length-map-range_with_len (new_connection config) 0 (length config.members) in
    record {
      alike = record { config = refl; moment = refl; connections = same_alike (before_lines config).connections };
      cursors = none_each ℕ (length config.members) ∙ sym members;
      journals = none_each Event (length config.symbols);
    }
  where
    none_each : (A : Type 0) (n : ℕ) → length (replicate {A = List A} n []) ≡ n
    none_each A zero = refl
    none_each A (suc n) = ap suc (none_each A n)

holds_first : (config : Config) (playing : Playing) (lines : List (List ℕ)) → Records (before_body config) playing (submitted_by (before_lines config) lines)
    → HoldsCommands config playing (commands_of config lines)
holds_first config playing lines r = record {
  config_is = r.config;
  journals = λ symbol l. subst (λ (before : List Event). Continues before (journal_at playing.journals symbol) (commands_of config lines symbol))
      (no_journal (length config.symbols) symbol) (r.journals symbol l);
}

pub lines_record : (config : Config) (place last : Place) (lines : List (List ℕ)) (playing : Playing)
    → place.stage ≡ Body (before_body config) → place_behind place lines ≡ Some last → last.stage ≡ Body playing
    → HoldsCommands config playing (commands_of config lines)
lines_record config place last lines playing is e end =
    holds_first config playing lines
    (lines_on place last lines (before_body config) playing (before_lines config) is (first_beside config) e end)
