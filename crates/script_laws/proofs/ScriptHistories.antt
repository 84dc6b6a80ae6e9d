-- What a whole body, and a whole script, records.
use Rattle.std.proofs.Common.{◌≡◌, ℕ, ◌+◌, Bool, true, false, cond, List, [], ◌∷◌, Some, Result, Ok, Err, refl, sym, ◌∙◌, ap, subst}
use Rattle.venue_words.specs.declared.config.Config.{Config}
use Rattle.script_text.specs.Header.{header_line, blank}
use Rattle.script_text.specs.Lines.{cut}
use Rattle.script_text.specs.declared.header.Header.{Header}
use Rattle.script_text.specs.declared.fault.LineFault.{LineFault}
use Rattle.line_work.specs.Commands.{commands_of}
use Rattle.replay_core.specs.Histories.{place_behind, behind_result}
use Rattle.replay_core.specs.Play.{Place, Stage, Head, Body, turned, after_header, step_at, play, played, after_result, end_at, end_of, stopped, start, script}
use Rattle.replay_core.specs.Playing.{Playing, before_body}
use Rattle.script_laws.specs.Histories.{HoldsCommands, body_lines, on_header, RecordsCommands}
use Rattle.script_laws.proofs.LineHistories.{TakenAt, taken_at, lines_record}

-- ---- a whole body

-- a script that was played to its end: none of its lines is refused, and its player stands behind them
pub record PlayedTo (place : Place) (lines : List (List ℕ)) (playing : Playing) : Type 0 where
  pub last : Place
  pub behind : place_behind place lines ≡ Some last
  pub end : last.stage ≡ Body playing

end_so : (test : Bool) (fault : LineFault) (n : ℕ) (stage : Stage) (rest : List ℕ) (playing : Playing)
    → (cond test (stopped fault) (end_of n stage rest)).last ≡ Some playing → stage ≡ Body playing
end_so true fault n stage rest playing e = absurd (cc)
end_so false fault n (Body other) [] playing e = ap Body (cc)
end_so false fault n (Body other) (b ∷ rest) playing e = absurd (cc)
end_so false fault n (Head header) rest playing e = absurd (cc)

played_none : (place : Place) (rest : List ℕ) (playing : Playing) → (play place [] rest).last ≡ Some playing → PlayedTo place [] playing
unfolding play end_at place_behind
played_none place rest playing e = record { last = place; behind = refl; end = end_so _ _ _ place.stage rest playing e }

played_more : (place next : Place) (out : List ℕ) (line : List ℕ) (lines : List (List ℕ)) (playing : Playing) → (step_at place line).result ≡ Ok (next, out)
    → PlayedTo next lines playing → PlayedTo place (line ∷ lines) playing
unfolding place_behind
played_more place next out line lines playing e p = record {
  last = p.last;
  behind = ap (λ (r : Result (Place × List ℕ) LineFault). behind_result r (λ next. place_behind next lines)) e ∙ p.behind;
  end = p.end;
}

-- what the first line and the others were played to
pub record PlayedOn (place : Place) (line : List ℕ) (lines : List (List ℕ)) (rest : List ℕ) (playing : Playing) : Type 0 where
  pub next : Place
  pub out : List ℕ
  pub taken : (step_at place line).result ≡ Ok (next, out)
  pub last : (play next lines rest).last ≡ Some playing

played_on_as : (place : Place) (line : List ℕ) (lines : List (List ℕ)) (rest : List ℕ) (playing : Playing) (result : Result (Place × List ℕ) LineFault)
    → (step_at place line).result ≡ result → (after_result (step_at place line).steps result (λ next. play next lines rest)).last ≡ Some playing
    → PlayedOn place line lines rest playing
played_on_as place line lines rest playing (Ok x) taken e = record { next = x.0; out = x.1; taken = taken; last = e }
played_on_as place line lines rest playing (Err fault) taken e = absurd (cc)

played_on : (place : Place) (line : List ℕ) (lines : List (List ℕ)) (rest : List ℕ) (playing : Playing)
    → (play place (line ∷ lines) rest).last ≡ Some playing → PlayedOn place line lines rest playing
unfolding play
played_on place line lines rest playing e = played_on_as place line lines rest playing (step_at place line).result refl e

played_to : (place : Place) (lines : List (List ℕ)) (rest : List ℕ) (playing : Playing) → (play place lines rest).last ≡ Some playing
    → PlayedTo place lines playing
played_to place [] rest playing e = played_none place rest playing e
played_to place (line ∷ lines) rest playing e =
    let x = played_on place line lines rest playing e in
    played_more place x.next x.out line lines playing x.taken (played_to x.next lines rest playing x.last)

play_records : (config : Config) (place : Place) (lines : List (List ℕ)) (rest : List ℕ) (playing : Playing)
    → place.stage ≡ Body (before_body config) → (play place lines rest).last ≡ Some playing
    → HoldsCommands config playing (commands_of config lines)
play_records config place lines rest playing is e =
    let p = played_to place lines rest playing e in lines_record config place p.last lines playing is p.behind p.end

pub body_records : (config : Config) (place : Place) (text : List ℕ) (playing : Playing)
    → place.stage ≡ Body (before_body config) → (played place text).last ≡ Some playing
    → HoldsCommands config playing (commands_of config (cut text).lines)
unfolding played
body_records config place text playing is e = play_records config place (cut text).lines (cut text).rest playing is e

-- ---- a header before it

-- the config and the body behind so many lines of a header
record Headed (n : ℕ) (header : Header) (lines : List (List ℕ)) (playing : Playing) : Type 0 where
  config : Config
  body : List (List ℕ)
  says : body_lines n header lines ≡ Some (config, body)
  holds : HoldsCommands config playing (commands_of config body)

header_whole : (n : ℕ) (header next : Header) (line : List ℕ) (lines : List (List ℕ)) (playing : Playing) → header_line n header line ≡ Ok (true, next)
    → HoldsCommands next.config playing (commands_of next.config lines) → Headed n header (line ∷ lines) playing
unfolding body_lines
header_whole n header next line lines playing e holds = record {
  config = next.config;
  body = lines;
  says = ap (λ (r : Result (Bool × Header) LineFault). on_header r lines (λ next. body_lines (n + 1) next lines)) e;
  holds = holds;
}

header_more : (n : ℕ) (header next : Header) (line : List ℕ) (lines : List (List ℕ)) (playing : Playing) → header_line n header line ≡ Ok (false, next)
    → Headed (n + 1) next lines playing → Headed n header (line ∷ lines) playing
unfolding body_lines
header_more n header next line lines playing e more = record {
  config = more.config;
  body = more.body;
  says = ap (λ (r : Result (Bool × Header) LineFault). on_header r lines (λ next. body_lines (n + 1) next lines)) e ∙ more.says;
  holds = more.holds;
}

-- what a line of a header came to
header_so : (r : Result (Bool × Header) LineFault) (stage : Stage) (out : List ℕ) → after_header r ≡ Ok (stage, out)
    → (x : Bool × Header) × (r ≡ Ok x) × (stage ≡ cond x.0 (Body (before_body x.1.config)) (Head x.1))
header_so (Ok x) stage out e =
    let both : (cond x.0 (Body (before_body x.1.config)) (Head x.1), []) ≡ (stage, out) = cc in
    (x, refl, sym (ap (λ (p : Stage × List ℕ). p.0) both))
header_so (Err fault) stage out e = absurd (cc)

header_taken : (place next : Place) (header : Header) (line : List ℕ) → place.stage ≡ Head header → TakenAt place next line
    → (x : Bool × Header) × (header_line (place.lines + 1) header line ≡ Ok x) × (next.stage ≡ cond x.0 (Body (before_body x.1.config)) (Head x.1))
unfolding turned
header_taken place next header line is t =
    header_so (header_line (place.lines + 1) header line) next.stage t.out
    (ap (λ (s : Stage). (turned (place.lines + 1) s line).result) (sym is) ∙ t.turn)

not_ended : (place : Place) (header : Header) (rest : List ℕ) (playing : Playing) → place.stage ≡ Head header → (play place [] rest).last ≡ Some playing → ⊥
unfolding play end_at
not_ended place header rest playing is e =
    let contrary : Head header ≡ Body playing = sym is ∙ end_so _ _ _ place.stage rest playing e in cc

-- behind a line of a header, where the lines behind it are known to do so behind any header
script_behind : (place next : Place) (header : Header) (line : List ℕ) (lines : List (List ℕ)) (rest : List ℕ) (playing : Playing)
    → next.lines ≡ place.lines + 1 → (y : Bool × Header) → header_line (place.lines + 1) header line ≡ Ok y
    → next.stage ≡ cond y.0 (Body (before_body y.1.config)) (Head y.1) → (play next lines rest).last ≡ Some playing
    → ((other : Header) → next.stage ≡ Head other → Headed (next.lines + 1) other lines playing)
    → Headed (place.lines + 1) header (line ∷ lines) playing
script_behind place next header line lines rest playing count (true, other) read is e more =
    header_whole (place.lines + 1) header other line lines playing read (play_records other.config next lines rest playing is e)
script_behind place next header line lines rest playing count (false, other) read is e more =
    header_more (place.lines + 1) header other line lines playing read
    (subst (λ (n : ℕ). Headed (n + 1) other lines playing) count (more other is))

script_from : (place : Place) (header : Header) (lines : List (List ℕ)) (rest : List ℕ) (playing : Playing) → place.stage ≡ Head header
    → (play place lines rest).last ≡ Some playing → Headed (place.lines + 1) header lines playing
script_from place header [] rest playing is e = absurd (not_ended place header rest playing is e)
script_from place header (line ∷ lines) rest playing is e =
    let x = played_on place line lines rest playing e in
    let t = taken_at place line (x.next, x.out) x.taken in
    let y = header_taken place x.next header line is t in
    script_behind place x.next header line lines rest playing t.lines y.0 y.1 y.2 x.last
    (λ other here. script_from x.next other lines rest playing here x.last)

pub script_records : (text : List ℕ) (playing : Playing) → (script text).last ≡ Some playing → RecordsCommands text playing
unfolding played
script_records text playing e =
    let x = script_from start blank (cut text).lines (cut text).rest playing refl e in
    record { config = x.config; lines = x.body; header = x.says; holds = x.holds }
