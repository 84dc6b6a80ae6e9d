-- What is kept stands for the state behind each kind of line.
use Rattle.std.proofs.Common.{◌≡◌, ℕ, ℤ, ◌<◌, Bool, List, [], ◌∷◌, ◌++◌, length, map, slice_set, slice_get, get_or, Some, Ok, Err, OnOk, IfErr, Result, refl, sym, ◌∙◌, ap, subst, arith, Option, zero, suc}
use Rattle.std.specs.List.{AllZip}
use Rattle.venue_words.specs.declared.command.Event.{Event}
use Rattle.venue_words.specs.declared.config.Config.{Config}
use Rattle.venue_words.specs.declared.report.Report.{Report}
use Rattle.venue_words.specs.Floors.{FloorMark, SymbolView}
use Rattle.member_gate.specs.declared.refusal.DeskRefusal.{DeskRefusal}
use Rattle.member_gate.specs.Answering.{name_at}
use Rattle.member_gate.specs.Desks.{DeskView}
use Rattle.member_gate.specs.Reporting.{asked_reports}
use Rattle.member_gate.specs.Submitting.{TookAll}
use Rattle.line_work.specs.FeedState.{FeedState, Connection, connection_at}
use Rattle.line_work.specs.LineWork.{ticked, work_of_moment, work_of_bytes, work_of_piece, fed, piece_lines}
use Rattle.line_work.specs.OneByOneLaws.{zip_at, zip_set}
use Rattle.line_work.specs.Output.{frame_lines}
use Rattle.line_work.specs.Pulling.{IsPulled, PulledOne}
use Rattle.member_gate.specs.Pulling.{reports_sent}
use Rattle.line_work.specs.Refusing.{TookPart}
use Rattle.line_work.specs.Standing.{StandsFor, IsDeskOf, WorkerView, worker_of}

pub moved : (P : Config → ℤ → Type 0) (a b : Config) (m n : ℤ) → a ≡ b → m ≡ n → P a m → P b n
moved P a b m n e f p = subst (λ (k : Config). P k n) e (subst (λ (t : ℤ). P a t) f p)

-- a fact of an `Ok` that follows from another
pub weaker : {T E : Type 0} (r : Result T E) (P Q : Type 0) → (P → Q) → OnOk r P → OnOk r Q
weaker (Ok x) P Q f h = f h
weaker (Err e) P Q f h = tt

-- a fact of an `Err` that follows from another
pub weaker_err : {T E : Type 0} (r : Result T E) (P Q : E → Type 0) → ((e : E) → P e → Q e) → IfErr r P → IfErr r Q
weaker_err (Ok x) P Q f h = tt
weaker_err (Err e) P Q f h = f e h

pub both_ok : {T E : Type 0} (r : Result T E) (P Q R : Type 0) → (P → Q → R) → OnOk r P → OnOk r Q → OnOk r R
both_ok (Ok x) P Q R f p q = f p q
both_ok (Err e) P Q R f p q = tt

-- ---- the clock

pub stands_ticked : (config : Config) (before moment now : ℤ) (ds es : List DeskView) (state : FeedState) → now ≡ moment
    → StandsFor (worker_of config before ds) state → AllZip IsDeskOf es (map (ticked moment) state.connections)
    → StandsFor (worker_of config now es) (work_of_moment state moment).state
stands_ticked config before moment now ds es state e s members = record { config = s.config; moment = e; desks = members }

-- ---- a piece

pub stands_taken : (worker : WorkerView) (config : Config) (moment now : ℤ) (ds : List DeskView) (number : ℕ) (desk next : DeskView) (piece : List ℕ) (state : FeedState)
    → worker ≡ worker_of config moment ds → now ≡ moment → number < length ds → desk ≡ get_or ds number desk → StandsFor worker state
    → ((connection : Connection) → IsDeskOf desk connection → IsDeskOf next (fed config now connection piece))
    → StandsFor (worker_of config moment (slice_set ds number next)) (work_of_piece state number piece).state
stands_taken worker config moment now ds number desk next piece state w e l at s taken =
    let t = subst (λ (x : WorkerView). StandsFor x state) w s in
    let x = zip_at IsDeskOf ds state.connections number desk _ l at t.desks in
    record {
      config = t.config;
      moment = t.moment;
      desks = zip_set IsDeskOf ds state.connections number next (fed state.config state.moment (connection_at state number) piece)
          (moved (λ k m. IsDeskOf next (fed k m (connection_at state number) piece)) config state.config now state.moment t.config (e ∙ t.moment)
          (taken (connection_at state number) x)) t.desks;
    }

pub text_taken : (worker : WorkerView) (config : Config) (moment now : ℤ) (ds : List DeskView) (number : ℕ) (desk : DeskView) (piece old new : List ℕ) (state : FeedState)
    → worker ≡ worker_of config moment ds → now ≡ moment → number < length ds → desk ≡ get_or ds number desk → StandsFor worker state
    → ((connection : Connection) → IsDeskOf desk connection → new ≡ old ++ piece_lines config now connection piece)
    → new ≡ old ++ (work_of_piece state number piece).text
text_taken worker config moment now ds number desk piece old new state w e l at s taken =
    let t = subst (λ (x : WorkerView). StandsFor x state) w s in
    let x = zip_at IsDeskOf ds state.connections number desk _ l at t.desks in
    moved (λ k m. new ≡ old ++ piece_lines k m (connection_at state number) piece) config state.config now state.moment t.config (e ∙ t.moment)
    (taken (connection_at state number) x)

module _ {F : Type 0} (at : F → ℕ → SymbolView) (step_limit : FloorMark → ℕ → List Event → Event → Option ℕ) (mark : FloorMark) (feed : ℕ) where
  pub took_taken : (worker : WorkerView) (config : Config) (moment now : ℤ) (ds : List DeskView) (number : ℕ) (desk : DeskView) (piece : List ℕ) (before after : F × ℕ) (state : FeedState)
      → worker ≡ worker_of config moment ds → now ≡ moment → number < length ds → desk ≡ get_or ds number desk → StandsFor worker state
      → ((connection : Connection) → IsDeskOf desk connection
      → TookAll at step_limit mark feed now (work_of_bytes config now connection piece).submissions before after)
      → TookAll at step_limit mark feed state.moment (work_of_piece state number piece).submissions before after
  took_taken worker config moment now ds number desk piece before after state w e l here s taken =
      let t = subst (λ (x : WorkerView). StandsFor x state) w s in
      let x = zip_at IsDeskOf ds state.connections number desk _ l here t.desks in
      moved (λ k m. TookAll at step_limit mark feed m (work_of_bytes k m (connection_at state number) piece).submissions before after)
      config state.config now state.moment t.config (e ∙ t.moment) (taken (connection_at state number) x)

  pub stopped_taken : (worker : WorkerView) (config : Config) (moment now : ℤ) (ds : List DeskView) (number : ℕ) (desk : DeskView) (piece : List ℕ) (refusal : DeskRefusal) (before after : F × ℕ) (state : FeedState)
      → worker ≡ worker_of config moment ds → now ≡ moment → number < length ds → desk ≡ get_or ds number desk → StandsFor worker state
      → ((connection : Connection) → IsDeskOf desk connection
      → TookPart at step_limit mark feed now refusal (work_of_bytes config now connection piece).submissions before after)
      → TookPart at step_limit mark feed state.moment refusal (work_of_piece state number piece).submissions before after
  stopped_taken worker config moment now ds number desk piece refusal before after state w e l here s taken =
      let t = subst (λ (x : WorkerView). StandsFor x state) w s in
      let x = zip_at IsDeskOf ds state.connections number desk _ l here t.desks in
      moved (λ k m. TookPart at step_limit mark feed m refusal (work_of_bytes k m (connection_at state number) piece).submissions before after)
      config state.config now state.moment t.config (e ∙ t.moment) (taken (connection_at state number) x)

-- ---- reports

found_at : (ds : List DeskView) (number : ℕ) (desk : DeskView) → number < length ds → desk ≡ get_or ds number desk
    → slice_get ds number ≡ Some desk
found_at [] number desk l at = absurd (omega arith)
found_at (d ∷ ds) zero desk l at = ap Some (sym at)
found_at (d ∷ ds) (suc number) desk l at = found_at ds number desk (omega arith) at

pub pulled_one : (worker : WorkerView) (config : Config) (moment now : ℤ) (asked : List Bool) (reports : ℕ → List Report) (ds : List DeskView) (number : ℕ) (desk next : DeskView) (old new : List ℕ)
    → worker ≡ worker_of config moment ds → now ≡ moment → number < length ds → desk ≡ get_or ds number desk → desk.member ≡ number
    → IsPulled config now asked reports desk next
    → new ≡ old ++ frame_lines (name_at config.members number) (reports_sent config now (asked_reports asked reports) desk).turn.replies
    → PulledOne worker.config worker.moment asked reports number worker.desks (slice_set ds number next) old new
pulled_one worker config moment now asked reports ds number desk next old new w e l at own pulled text =
    subst (λ (x : WorkerView). PulledOne x.config x.moment asked reports number x.desks (slice_set ds number next) old new) (sym w)
    (subst (λ (m : ℤ). PulledOne config m asked reports number ds (slice_set ds number next) old new) e (record {
      desk = desk;
      next = next;
      found = found_at ds number desk l at;
      own = own;
      others = refl;
      pulled = pulled;
      text = text;
    }))
