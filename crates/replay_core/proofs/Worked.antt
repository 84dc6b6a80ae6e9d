-- From what a line leaves of a worker and its floor to what the line comes to.
use Rattle.std.proofs.Common.{◌≡◌, ◌⊎◌, ℕ, ℤ, ◌+◌, ◌<◌, ◌≤◌, Bool, true, false, List, [], ◌++◌, length, map, slice_index, Some, Result, Ok, Err, Option, None, refl, sym, ◌∙◌, ap, subst, inl, inr, arith}
use Rattle.std.specs.Prelude.{IsOkAnd}
use Rattle.std.specs.List.{AllZip, flat_map}
use Rattle.venue_words.specs.Conditions.{IsConfig}
use Rattle.venue_words.specs.FloorLaws.{sets_up}
use Rattle.venue_words.specs.Floors.{FloorMark, IsSetUpFor, Setup, SymbolView}
use Rattle.venue_words.specs.declared.command.Event.{Event}
use Rattle.venue_words.specs.declared.config.Config.{Config}
use Rattle.venue_words.specs.declared.report.Report.{Report}
use Rattle.venue_words.specs.Journals.{StartsWith, reports_of}
use Rattle.eager_meaning.specs.State.{State}
use Rattle.member_gate.specs.declared.refusal.DeskRefusal.{DeskRefusal}
use Rattle.member_gate.specs.declared.refusal.DeskRefusal.TheVariants as refusal
use Rattle.member_gate.specs.Answering.{Submission}
use Rattle.member_gate.specs.Desks.{DeskView}
use Rattle.member_gate.specs.Submitting.{TookAll}
use Rattle.script_text.specs.declared.body.Line.{Line}
use Rattle.script_text.specs.declared.body.Line.TheVariants.{Moment, Quote, Piece, Open}
use Rattle.script_text.specs.declared.fault.LineFault.{LineFault}
use Rattle.script_text.specs.declared.fault.LineFault.TheVariants.{Limit, NoMemory}
use Rattle.script_text.specs.declared.fault.LimitCause.TheVariants.{Events}
use Rattle.line_work.specs.FeedState.{FeedState}
use Rattle.line_work.specs.LineWork.{LineWork, work_of_line}
use Rattle.line_work.specs.Refusing.{TookPart, refusal_at}
use Rattle.line_work.specs.Standing.{AreDesks, WorkerView}
use Rattle.line_work.specs.Standing as feed
use Rattle.replay_core.specs.News.{row_at, asks, AreRows, KeepsDown, IsAsked}
use Rattle.replay_core.specs.PlainFloor.{IsPlain, ShowsJournals}
use Rattle.replay_core.specs.Playing.{Playing, members_in, members_of, reports_at}
use Rattle.replay_core.specs.PlayLine.{Answer, play_read, answer_to, recorded_by, behind_work, with_pulls}
use Rattle.replay_core.specs.Pulling.{pulled, pull_lines, after_pulls, lines_of_pulls, ShowsFronts}
use Rattle.replay_core.specs.Recording.{Recorded, recorded}
use Rattle.replay_core.specs.Stages.{AreSent, IsDeskOfMember, StandsFor, kept_of}
use Rattle.replay_core.proofs.FloorWork.{Took, took_all, none_full, no_steps, recorded_append, reports_shown}
use Rattle.replay_core.proofs.Growing.{all_grow}
use Rattle.replay_core.proofs.Lists.{zip_connections}
use Rattle.replay_core.proofs.Pulls.{zip_sent}
use Rattle.replay_core.proofs.Waiting.{Looked, asked_all}

pub set_up : {F : Type 0} (mark_of : F → FloorMark) (at : F → ℕ → SymbolView) (limit : FloorMark → ℕ → List Event → Event → Option ℕ) (state : F → ℕ → State) (config : Config) (mark : FloorMark)
    → IsConfig config → IsPlain mark_of at limit state config mark → IsSetUpFor config mark.setup
set_up mark_of at limit state config mark is plain = subst (λ (s : Setup). IsSetUpFor config s) (sym plain.setup) (sets_up config is)

-- who is asked, by a look at the floor from these fronts: all members with reports behind them at the symbols of these, and
-- the member whose session may have come up at all
pub record Notes {F : Type 0} (at : F → ℕ → SymbolView) (config : Config) (floor : F) (fronts : List ℕ) (own : Option ℕ) (asked : List (List Bool)) : Type 0 where
  pub mine : (member symbol : ℕ) → own ≡ Some member → member < length config.members → symbol < length config.symbols
      → asks asked member symbol ≡ true
  pub none : (member symbol : ℕ) → member < length config.members → symbol < length config.symbols → asks asked member symbol ≡ false
      → reports_of member (slice_index fronts symbol) (at floor symbol).reports ≡ []

pub noted_so : {F : Type 0} (at : F → ℕ → SymbolView) (config : Config) (floor : F) (fronts : List ℕ) (own : Option ℕ) (before asked : List (List Bool))
    → length fronts ≡ length config.symbols → AreRows (length config.members) (length config.symbols) before
    → ((member symbol : ℕ) → own ≡ Some member → symbol < length (row_at before member) → asks asked member symbol ≡ true)
    → ((member symbol : ℕ) → symbol < length (row_at before member) → symbol < length fronts → asks asked member symbol ≡ false
    → reports_of member (slice_index fronts symbol) (at floor symbol).reports ≡ [])
    → Notes at config floor fronts own asked
noted_so at config floor fronts own before asked symbols rows mine none = record {
  mine = λ member symbol e l within. mine member symbol e (let row = rows member l in omega (arith, row, within));
  none = λ member symbol l within off.
      none member symbol (let row = rows member l in omega (arith, row, within)) (omega (arith, symbols, within)) off;
}

-- what is kept behind a line's own work, before anything else goes out
pub record Behind {F : Type 0} (at : F → ℕ → SymbolView) (worker : WorkerView) (floor : F) (rows : List (List Bool)) (playing : Playing) : Type 0 where
  pub feed : feed.StandsFor worker playing.feed
  pub asked : AllZip (IsAsked rows worker.config playing.journals) worker.desks (members_of playing)
  pub shows : ShowsJournals at worker.config floor playing.journals
  pub each : length playing.journals ≡ length playing.feed.config.symbols

-- a line was worked
pub record Worked {F : Type 0} (at : F → ℕ → SymbolView) (limit : FloorMark → ℕ → List Event → Event → Option ℕ) (mark : FloorMark) (playing : Playing) (line : Line) (worker : WorkerView) (old new : List ℕ) (before after : F × ℕ) (own : Option ℕ) : Type 0 where
  pub work : LineWork
  pub says : work_of_line playing.feed line ≡ work
  pub stands : feed.StandsFor worker work.state
  pub told : new ≡ old ++ work.text
  pub took : TookAll at limit mark 1 work.state.moment work.submissions before after
  pub down : AllZip (KeepsDown own) playing.feed.connections work.state.connections

pub worked_so : {F : Type 0} (at : F → ℕ → SymbolView) (limit : FloorMark → ℕ → List Event → Event → Option ℕ) (mark : FloorMark) (playing : Playing) (line : Line) (worker : WorkerView) (old new : List ℕ) (before after : F × ℕ) (own : Option ℕ)
    → feed.StandsFor worker (work_of_line playing.feed line).state
    → new ≡ old ++ (work_of_line playing.feed line).text
    → TookAll at limit mark 1 (work_of_line playing.feed line).state.moment (work_of_line playing.feed line).submissions before after
    → AllZip (KeepsDown own) playing.feed.connections (work_of_line playing.feed line).state.connections
    → Worked at limit mark playing line worker old new before after own
worked_so at limit mark playing line worker old new before after own stands told took down =
    record { work = work_of_line playing.feed line; says = refl; stands = stands; told = told; took = took; down = down }

module _ {F : Type 0} (mark_of : F → FloorMark) (at : F → ℕ → SymbolView) (limit : FloorMark → ℕ → List Event → Event → Option ℕ) (state : F → ℕ → State) (mark : FloorMark) where
  -- the floor shows what the line's commands make of the journals
  pub took_line : (worker next : WorkerView) (floor : F) (steps : ℕ) (after : F × ℕ) (fronts : List ℕ) (fault : Option LineFault) (own : Option ℕ) (playing : Playing) (line : Line) (old new : List ℕ)
      → IsConfig worker.config → IsPlain mark_of at limit state worker.config mark
      → StandsFor at (kept_of worker floor fronts fault) playing → next.config ≡ worker.config
      → (w : Worked at limit mark playing line next old new (floor, steps) after own)
      → Took at w.work.state.config (recorded_by playing w.work) steps after
  took_line worker next floor steps after fronts fault own playing line old new is plain s same w =
      let mine : worker.config ≡ w.work.state.config = sym same ∙ w.stands.config in
      let ours : playing.feed.config ≡ w.work.state.config = sym s.feed.config ∙ mine in
      took_all mark_of at limit state w.work.state.config mark w.work.state.moment w.work.submissions playing.journals (floor, steps) after
      (subst (λ (k : Config). IsPlain mark_of at limit state k mark) mine plain)
      (subst (λ (k : Config). length k.limits ≡ length k.symbols) mine is.limit_each)
      (subst (λ (k : Config). length playing.journals ≡ length k.symbols) ours s.each)
      (subst (λ (k : Config). ShowsJournals at k floor playing.journals) ours s.journals) w.took

  -- what a look from the fronts found in the floor is so of the journals
  looked : (worker : WorkerView) (floor : F) (fronts : List ℕ) (fault : Option LineFault) (playing : Playing) (moment : ℤ) (subs : List Submission)
      (steps : ℕ) (after : F × ℕ) (journals : List (List Event)) (own : Option ℕ) (asked : List (List Bool))
      → IsPlain mark_of at limit state worker.config mark → mark_of floor ≡ mark → mark_of after.0 ≡ mark
      → StandsFor at (kept_of worker floor fronts fault) playing → TookAll at limit mark 1 moment subs (floor, steps) after
      → ShowsJournals at worker.config after.0 journals → Notes at worker.config after.0 fronts own asked
      → Looked worker.config playing.journals journals fronts own asked
  looked worker floor fronts fault playing moment subs steps after journals own asked plain mine behind s took shows x =
      let was : ShowsJournals at worker.config floor playing.journals =
      subst (λ (k : Config). ShowsJournals at k floor playing.journals) (sym s.feed.config) s.journals in
      let told : ShowsFronts at worker.config floor fronts = subst (λ (k : Config). ShowsFronts at k floor fronts) (sym s.feed.config) s.fronts in
      let before = reports_shown mark_of at limit state worker.config mark floor plain mine playing.journals was in
      let now = reports_shown mark_of at limit state worker.config mark after.0 plain behind journals shows in
      record {
        grown = λ symbol l. subst (λ (rs : List Report). StartsWith rs (reports_at worker.config playing.journals symbol)) (now symbol l)
            (subst (λ (rs : List Report). StartsWith (at after.0 symbol).reports rs) (before symbol l)
            (all_grow at limit mark moment subs (floor, steps) after took symbol));
        told = λ symbol l. told.read symbol l ∙ ap (length {A = Report}) (before symbol l);
        mine = x.mine;
        none = λ member symbol l within off.
            ap (reports_of member (slice_index fronts symbol)) (sym (now symbol within)) ∙ x.none member symbol l within off;
      }

  -- the player behind the line's own work, beside what is kept: who is to be asked
  pub behind_worked : (worker next : WorkerView) (floor : F) (steps : ℕ) (after : F × ℕ) (fronts : List ℕ) (fault : Option LineFault) (own : Option ℕ) (playing : Playing) (line : Line) (old new : List ℕ) (asked : List (List Bool))
      → IsPlain mark_of at limit state worker.config mark → mark_of floor ≡ mark → mark_of after.0 ≡ mark
      → StandsFor at (kept_of worker floor fronts fault) playing → AreDesks worker.config worker.desks → next.config ≡ worker.config
      → map (λ (d : DeskView). d.cursors) next.desks ≡ map (λ (d : DeskView). d.cursors) worker.desks
      → (w : Worked at limit mark playing line next old new (floor, steps) after own)
      → Took at w.work.state.config (recorded_by playing w.work) steps after
      → Notes at worker.config after.0 fronts own asked
      → Behind at next after.0 asked (behind_work playing w.work (recorded_by playing w.work))
  behind_worked worker next floor steps after fronts fault own playing line old new asked plain mine behind s desks same cursors w took x =
      let shows : ShowsJournals at worker.config after.0 (recorded_by playing w.work).journals =
      subst (λ (k : Config). ShowsJournals at k after.0 (recorded_by playing w.work).journals) (sym w.stands.config ∙ same) took.shows in
      let sent = subst (λ (k : Config). AllZip (AreSent k playing.journals) worker.desks playing.cursors) (sym s.feed.config) s.cursors in
      let all = looked worker floor fronts fault playing w.work.state.moment w.work.submissions steps after (recorded_by playing w.work).journals own
      asked plain mine behind s w.took shows x in
      record {
        feed = w.stands;
        asked = subst (λ (k : Config). AllZip (IsAsked asked k (recorded_by playing w.work).journals) next.desks
            (members_in w.work.state.connections playing.cursors)) (sym same)
            (asked_all worker.config playing.journals (recorded_by playing w.work).journals fronts own asked all worker.desks next.desks
            playing.feed.connections w.work.state.connections playing.cursors 0 (length worker.config.members) desks (omega arith)
            s.feed.desks w.down w.stands.desks cursors sent);
        shows = subst (λ (k : Config). ShowsJournals at k after.0 (recorded_by playing w.work).journals) (sym same) shows;
        each = took.each;
      }

play_ok : (n : ℕ) (playing : Playing) (line : Line) (work : LineWork) → work_of_line playing.feed line ≡ work
    → play_read n playing line ≡ answer_to n playing work (recorded_by playing work)
play_ok n playing line work e = ap (λ (w : LineWork). answer_to n playing w (recorded_by playing w)) e

pub play_steps : (n : ℕ) (playing : Playing) (line : Line) (work : LineWork) → work_of_line playing.feed line ≡ work
    → (play_read n playing line).steps ≡ (recorded_by playing work).steps
play_steps n playing line work e = ap (λ (a : Answer). a.steps) (play_ok n playing line work e)

room_answer : (n : ℕ) (playing : Playing) (work : LineWork) (recorded : Recorded) → recorded.is_full ≡ false
    → (answer_to n playing work recorded).result ≡ Ok (with_pulls (behind_work playing work recorded) work.text)
room_answer n playing work recorded e = rw e refl

full_answer : (n : ℕ) (playing : Playing) (work : LineWork) (recorded : Recorded) → recorded.is_full ≡ true
    → (answer_to n playing work recorded).result ≡ Err (Limit n Events)
full_answer n playing work recorded e = rw e refl

-- the output of a line whose commands found room
pub line_told : (n : ℕ) (playing : Playing) (line : Line) (old between new : List ℕ) (work : LineWork) → work_of_line playing.feed line ≡ work
    → (recorded_by playing work).is_full ≡ false → old ≡ [] → between ≡ old ++ work.text
    → new ≡ between ++ lines_of_pulls (behind_work playing work (recorded_by playing work))
    → (play_read n playing line).result ≡ Ok (after_pulls (behind_work playing work (recorded_by playing work)), new)
line_told n playing line old between new work e room none told grew =
    let behind = behind_work playing work (recorded_by playing work) in
    let whole : work.text ++ lines_of_pulls behind ≡ new =
    ap (λ (xs : List ℕ). xs ++ lines_of_pulls behind) (sym (told ∙ ap (λ (xs : List ℕ). xs ++ work.text) none)) ∙ sym grew in
    ap (λ (a : Answer). a.result) (play_ok n playing line work e) ∙ room_answer n playing work (recorded_by playing work) room
    ∙ ap (λ (xs : List ℕ). Ok (after_pulls behind, xs)) whole

-- ---- what goes out

pub stands_pulled : {F : Type 0} (at : F → ℕ → SymbolView) (worker next : WorkerView) (floor after : F) (fronts : List ℕ) (asked : List (List Bool)) (fault : Option LineFault) (playing : Playing)
    → Behind at worker floor asked playing → fault ≡ None → next.config ≡ worker.config → next.moment ≡ worker.moment
    → AllZip (IsDeskOfMember worker.config playing.journals) next.desks
    (map (pulled worker.config worker.moment playing.journals) (members_of playing))
    → ShowsJournals at worker.config after playing.journals → ShowsFronts at worker.config after fronts
    → StandsFor at (kept_of next after fronts fault) (after_pulls playing)
stands_pulled at worker next floor after fronts asked fault playing s clear config moment pulls shows told =
    let desks : AllZip (IsDeskOfMember playing.feed.config playing.journals) next.desks
    (map (pulled playing.feed.config playing.feed.moment playing.journals) (members_of playing)) =
    subst (λ (m : ℤ). AllZip (IsDeskOfMember playing.feed.config playing.journals) next.desks (map (pulled playing.feed.config m playing.journals) (members_of playing)))
    s.feed.moment
    (subst (λ (k : Config). AllZip (IsDeskOfMember k playing.journals) next.desks (map (pulled k worker.moment playing.journals) (members_of playing)))
    s.feed.config pulls) in
    record {
      clear = clear;
      feed = record {
        config = config ∙ s.feed.config;
        moment = moment ∙ s.feed.moment;
        desks = zip_connections playing.feed.config playing.journals next.desks _ desks;
      };
      cursors = zip_sent playing.feed.config playing.feed.moment playing.journals next.desks (members_of playing) desks;
      journals = subst (λ (k : Config). ShowsJournals at k after playing.journals) s.feed.config shows;
      each = s.each;
      fronts = subst (λ (k : Config). ShowsFronts at k after fronts) s.feed.config told;
    }

pub text_pulled : {F : Type 0} (at : F → ℕ → SymbolView) (worker : WorkerView) (floor : F) (asked : List (List Bool)) (playing : Playing) (old new : List ℕ)
    → Behind at worker floor asked playing
    → new ≡ old ++ flat_map (pull_lines worker.config worker.moment playing.journals) (members_of playing)
    → new ≡ old ++ lines_of_pulls playing
text_pulled at worker floor asked playing old new s pulls =
    subst (λ (m : ℤ). new ≡ old ++ flat_map (pull_lines playing.feed.config m playing.journals) (members_of playing)) s.feed.moment
    (subst (λ (k : Config). new ≡ old ++ flat_map (pull_lines k worker.moment playing.journals) (members_of playing)) s.feed.config pulls)

-- ---- refusals

-- what a refusal says of all commands of a line
record Refusal (config : Config) (moment : ℤ) (subs : List Submission) (journals : List (List Event)) (stop : DeskRefusal) (before after : ℕ) : Type 0 where
  full : (symbol found : ℕ) → stop ≡ refusal.Full symbol found → (recorded config moment subs journals).is_full ≡ true
  steps : after ≤ before + (recorded config moment subs journals).steps

refusal_of : {F : Type 0} (mark_of : F → FloorMark) (at : F → ℕ → SymbolView) (limit : FloorMark → ℕ → List Event → Event → Option ℕ) (state : F → ℕ → State) (config : Config) (mark : FloorMark) (moment : ℤ) (subs : List Submission) (stop : DeskRefusal) (journals : List (List Event)) (before after : F × ℕ)
    → IsPlain mark_of at limit state config mark → length config.limits ≡ length config.symbols
    → length journals ≡ length config.symbols → ShowsJournals at config before.0 journals
    → TookPart at limit mark 1 moment stop subs before after
    → Refusal config moment subs journals stop before.1 after.1
refusal_of {F} mark_of at limit state config mark moment subs stop journals before after plain limits each shows x =
    let took : Took at config (recorded config moment x.taken journals) before.1 x.between =
    took_all mark_of at limit state config mark moment x.taken journals before x.between plain limits each shows x.took in
    let parts = recorded_append config moment x.taken x.left journals took.room in
    let idle = no_steps mark_of at limit state config mark moment x.left x.between after plain x.rest.steps in
    let total : (recorded config moment subs journals).steps ≡ _ =
    ap (λ (s : List Submission). (recorded config moment s journals).steps) x.parts ∙ parts.steps in
    record {
      full = λ symbol found e. ap (λ (s : List Submission). (recorded config moment s journals).is_full) x.parts ∙ parts.full
          ∙ none_full mark_of at limit state config mark moment symbol found x.left
          (recorded config moment x.taken journals).journals x.between after plain limits took.shows
          (rw (sym e) x.rest);
      steps = omega (arith, took.steps, idle, total);
    }

-- a refused line is refused so by the definitions, or memory was wanted, and it took no more steps than they say
pub record RefusedLine (n : ℕ) (playing : Playing) (line : Line) (stop : DeskRefusal) (before after : ℕ) : Type 0 where
  pub answer : (refusal_at n stop ≡ NoMemory) ⊎ ((play_read n playing line).result ≡ Err (refusal_at n stop))
  pub steps : after ≤ before + (play_read n playing line).steps

stopped_so : (n : ℕ) (playing : Playing) (work : LineWork) (stop : DeskRefusal) (before after : ℕ)
    → Refusal work.state.config work.state.moment work.submissions playing.journals stop before after
    → (refusal_at n stop ≡ NoMemory) ⊎ ((answer_to n playing work (recorded_by playing work)).result ≡ Err (refusal_at n stop))
stopped_so n playing work (refusal.Full symbol found) before after x =
    inr (full_answer n playing work (recorded_by playing work) (x.full symbol found refl))
stopped_so n playing work refusal.NoMemory before after x = inl refl

line_keeps_config : (state : FeedState) (line : Line) → (work_of_line state line).state.config ≡ state.config
line_keeps_config state (Moment moment) = refl
line_keeps_config state (Quote symbol command) = refl
line_keeps_config state (Piece number bytes) = refl
line_keeps_config state (Open number) = refl

pub refused_line : {F : Type 0} (mark_of : F → FloorMark) (at : F → ℕ → SymbolView) (limit : FloorMark → ℕ → List Event → Event → Option ℕ) (state : F → ℕ → State) (mark : FloorMark)
    (worker : WorkerView) (floor : F) (steps : ℕ) (after : F × ℕ) (fronts : List ℕ) (at_fault : Option LineFault) (n : ℕ) (playing : Playing) (line : Line) (stop : DeskRefusal)
    → IsConfig worker.config → IsPlain mark_of at limit state worker.config mark → StandsFor at (kept_of worker floor fronts at_fault) playing
    → TookPart at limit mark 1 (work_of_line playing.feed line).state.moment stop (work_of_line playing.feed line).submissions (floor, steps) after
    → RefusedLine n playing line stop steps after.1
refused_line mark_of at limit state mark worker floor steps after fronts at_fault n playing line stop is plain s x =
    let work = work_of_line playing.feed line in
    let ours : playing.feed.config ≡ work.state.config = sym (line_keeps_config playing.feed line) in
    let mine : worker.config ≡ work.state.config = s.feed.config ∙ ours in
    let y = refusal_of mark_of at limit state work.state.config mark work.state.moment work.submissions stop playing.journals (floor, steps) after
    (subst (λ (k : Config). IsPlain mark_of at limit state k mark) mine plain)
    (subst (λ (k : Config). length k.limits ≡ length k.symbols) mine is.limit_each)
    (subst (λ (k : Config). length playing.journals ≡ length k.symbols) ours s.each)
    (subst (λ (k : Config). ShowsJournals at k floor playing.journals) ours s.journals) x in
    record { answer = stopped_so n playing work stop steps after.1 y; steps = y.steps }
