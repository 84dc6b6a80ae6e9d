-- The load script, line by line, and what a load run comes to.
use Rattle.std.proofs.Common.{◌≡◌, ◌⊎◌, ℕ, ◌+◌, ◌<◌, ◌≤◌, nat_lt, Bool, true, List, [], ◌∷◌, ◌++◌, length, map, drop, get_or, Option, Some, None, Ok, Err, refl, sym, ◌∙◌, ap, subst, inl, inr, length-append, arith}
use Rattle.std.proofs.lemmas.List.{drop_more, drop_all}
use Rattle.std.proofs.lemmas.List.FromFn.{length-map-range_with_len}
use Rattle.std.specs.List.{range_with_len}
use Rattle.std.specs.Io.KnownBytes.{Appends}
use Rattle.io_edge.specs.Grows.{AppendsPrefix}
use Rattle.venue_words.specs.Floors.{SymbolView}
use Rattle.script_text.specs.Load.{load_lines, first_lines, order_line, quote_line, last_line}
use Rattle.script_text.specs.declared.fault.LineFault.{LineFault}
use Rattle.script_text.specs.declared.fault.LineFault.TheVariants as fault
use Rattle.script_text.specs.declared.fault.LineCause.TheVariants.{NoEnd}
use Rattle.script_text.specs.declared.fault.LimitCause.TheVariants.{Line}
use Rattle.std.proofs.lemmas.Bool.Decides.{nat_tests}
use Rattle.venue_words.specs.declared.limits.TheConstants.{MAX_LINE_BYTES, MAX_SCRIPT_BYTES}
use Rattle.replay_core.specs.Loading.{loaded, line_behind, summary, Loaded, LoadOutcome, LoadsTo}
use Rattle.replay_core.specs.Phases.{IsAtStage}
use Rattle.replay_core.specs.Plan.{most_load}
use Rattle.replay_core.specs.Play.{Place, Stage, Head, Body, Played, play, step_at, after_line, onto, start, end_at, end_of, finished, stopped}
use Rattle.replay_core.specs.Playing.{Playing}
use Rattle.replay_core.specs.Reading.{IsAtPlace, IsBehind, IsLineAt}
use Rattle.replay_core.specs.Stages.{Kept, StandsFor}
use Rattle.replay_core.specs.Statuses.{IsTold, status_of}
use Rattle.replay_core.specs.Summary.{summary_of, summary_text}
use Rattle.replay_core.specs.Telling.{seen}
use Rattle.replay_core.specs.declared.phase.Phase.{Phase}
use Rattle.replay_core.specs.declared.phase.Phase.TheVariants as phase
use Rattle.replay_core.specs.declared.status.Status.{Status}
use Rattle.replay_core.specs.declared.status.Status.TheVariants.{Done, BadWords, BadLine, LimitLine, ReadFault, WriteFault, NoMemory}
use Rattle.replay_core.proofs.Leading.{onto_nothing, onto_onto}
use Rattle.replay_core.proofs.LineByLine.{worked_line, refused_line, either_steps}
use Rattle.replay_core.proofs.LoadTaken.{load_whole}
use Rattle.replay_core.proofs.Outcomes.{prefix_none}

-- ---- the lines

pub line_count : (orders quotes : ℕ) → length (load_lines orders quotes) ≡ orders + quotes + 8
unfolding load_lines
line_count orders quotes =
    let a = length-append ((first_lines (orders + quotes + 2) ++ map order_line (range_with_len 1 orders)) ++ map quote_line (range_with_len 1 quotes)) (last_line orders ∷ []) in
    let b = length-append (first_lines (orders + quotes + 2) ++ map order_line (range_with_len 1 orders)) (map quote_line (range_with_len 1 quotes)) in
    let c = length-append (first_lines (orders + quotes + 2)) (map order_line (range_with_len 1 orders)) in
    let d = length-map-range_with_len order_line 1 orders in
    let e = length-map-range_with_len quote_line 1 quotes in
    omega (arith, a, b, c, d, e)

pub no_more : (done orders quotes : ℕ) → done ≡ orders + quotes + 8 → drop done (load_lines orders quotes) ≡ []
no_more done orders quotes e = let n = line_count orders quotes in drop_all done (load_lines orders quotes) (omega arith)

-- what the next line makes, and then the others
next_line : (place : Place) (lines : List (List ℕ)) (done : ℕ) → done < length lines
    → play place (drop done lines) [] ≡ after_line (step_at place (get_or lines done [])) (λ next. play next (drop (done + 1) lines) [])
unfolding play
next_line place lines done l = rw (drop_more lines done [] l) refl

-- ---- line by line

pub loads_first : {F : Type 0} (at : F → ℕ → SymbolView) (orders quotes steps : ℕ) (phase : Phase F) → IsAtPlace at phase start
    → LoadsTo at (loaded orders quotes) (load_lines orders quotes) steps steps 0 0 phase
unfolding loaded
loads_first at orders quotes steps phase there = record {
  place = start;
  there = there;
  lines_are = refl;
  bytes_are = refl;
  text = [];
  spent = 0;
  counted = omega arith;
  goes = onto_nothing (play start (load_lines orders quotes) []);
}

-- the next line stands where the lines so far lead
pub line_stands : {F : Type 0} (at : F → ℕ → SymbolView) (all : Played) (rest : List (List ℕ)) (old new lines bytes : ℕ) (phase : Phase F)
    (number : ℕ) (line : List ℕ) (is_over : Bool) (x : LoadsTo at all rest old new lines bytes phase) → number ≡ lines + 1
    → is_over ≡ nat_lt MAX_SCRIPT_BYTES (bytes + length line + 1) → IsLineAt number line is_over x.place
line_stands at all rest old new lines bytes phase number line is_over x e over = record {
  counted = e ∙ ap (λ (n : ℕ). n + 1) x.lines_are;
  over = over ∙ ap (λ (n : ℕ). nat_lt MAX_SCRIPT_BYTES (n + length line + 1)) x.bytes_are;
}

-- a line was worked where the lines so far lead
pub record Worked {F : Type 0} (at : F → ℕ → SymbolView) (place : Place) (phase : Phase F) (line out : List ℕ) (old new : ℕ) : Type 0 where
  pub answer : (behind : Place) × ((step_at place line).result ≡ Ok (behind, out)) × IsBehind at place line phase behind
  pub steps : new ≤ old + (step_at place line).steps

pub loads_on : {F : Type 0} (at : F → ℕ → SymbolView) (all : Played) (lines : List (List ℕ)) (done bytes old mid new : ℕ) (phase next : Phase F)
    (line out : List ℕ) (x : LoadsTo at all (drop done lines) old mid done bytes phase) → done < length lines → line ≡ get_or lines done []
    → Worked at x.place next line out mid new
    → LoadsTo at all (drop (done + 1) lines) old new (done + 1) (bytes + (length line + 1)) next
loads_on at all lines done bytes old mid new phase next line out x l e w =
    let y = w.answer in
    let result : (step_at x.place (get_or lines done [])).result ≡ Ok (y.0, out) = subst (λ (t : List ℕ). (step_at x.place t).result ≡ Ok (y.0, out)) e y.1 in
    let spent : (step_at x.place line).steps ≡ (step_at x.place (get_or lines done [])).steps = ap (λ (t : List ℕ). (step_at x.place t).steps) e in
    record {
      place = y.0;
      there = y.2.there;
      lines_are = ap (λ (n : ℕ). n + 1) x.lines_are ∙ sym y.2.lines;
      bytes_are = omega (arith, x.bytes_are, y.2.bytes);
      text = x.text ++ out;
      spent = x.spent + (step_at x.place (get_or lines done [])).steps;
      counted = omega (arith, x.counted, w.steps, spent);
      goes = x.goes ∙ ap (onto x.text x.spent) (next_line x.place lines done l
          ∙ worked_line (step_at x.place (get_or lines done [])) y.0 out (λ next. play next (drop (done + 1) lines) []) result)
          ∙ onto_onto x.text out x.spent (step_at x.place (get_or lines done [])).steps (play y.0 (drop (done + 1) lines) []);
    }

pub loads_within : {F : Type 0} (at : F → ℕ → SymbolView) (all : Played) (rest : List (List ℕ)) (old new lines bytes : ℕ) (phase : Phase F)
    → LoadsTo at all rest old new lines bytes phase → new ≤ old + all.steps
loads_within at all rest old new lines bytes phase x =
    let steps : all.steps ≡ x.spent + (play x.place rest []).steps = ap (λ (p : Played). p.steps) x.goes in
    omega (arith, x.counted, steps)

-- a line was refused where the lines so far lead
pub record Unworked (place : Place) (line : List ℕ) (why : LineFault) (old new : ℕ) : Type 0 where
  pub answer : (why ≡ fault.NoMemory) ⊎ ((step_at place line).result ≡ Err why)
  pub steps : new ≤ old + (step_at place line).steps

pub loads_fault : {F : Type 0} (at : F → ℕ → SymbolView) (all : Played) (lines : List (List ℕ)) (done bytes old mid new : ℕ) (phase : Phase F)
    (line : List ℕ) (why : LineFault) (x : LoadsTo at all (drop done lines) old mid done bytes phase) → done < length lines
    → line ≡ get_or lines done [] → Unworked x.place line why mid new → (why ≡ fault.NoMemory) ⊎ (all.fault ≡ Some why)
loads_fault at all lines done bytes old mid new phase line why x l e w =
    elim w.answer [
      | inl none ↦ inl none
      | inr refused ↦
          let result : (step_at x.place (get_or lines done [])).result ≡ Err why = subst (λ (t : List ℕ). (step_at x.place t).result ≡ Err why) e refused in
          inr (ap (λ (p : Played). p.fault) (x.goes ∙ ap (onto x.text x.spent) (next_line x.place lines done l
          ∙ refused_line (step_at x.place (get_or lines done [])) why (λ next. play next (drop (done + 1) lines) []) result)))
    ]

pub loads_stopped : {F : Type 0} (at : F → ℕ → SymbolView) (all : Played) (lines : List (List ℕ)) (done bytes old mid new : ℕ) (phase : Phase F)
    (line : List ℕ) (why : LineFault) (x : LoadsTo at all (drop done lines) old mid done bytes phase) → done < length lines
    → line ≡ get_or lines done [] → Unworked x.place line why mid new → new ≤ old + all.steps
loads_stopped at all lines done bytes old mid new phase line why x l e w =
    let spent : (step_at x.place line).steps ≡ (step_at x.place (get_or lines done [])).steps = ap (λ (t : List ℕ). (step_at x.place t).steps) e in
    let steps : all.steps ≡ x.spent + (play x.place (drop done lines) []).steps = ap (λ (p : Played). p.steps) x.goes in
    let next : (play x.place (drop done lines) []).steps ≡ (after_line (step_at x.place (get_or lines done [])) (λ next. play next (drop (done + 1) lines) [])).steps =
    ap (λ (p : Played). p.steps) (next_line x.place lines done l) in
    let most = either_steps (step_at x.place (get_or lines done [])).steps (step_at x.place (get_or lines done [])).result (λ next. play next (drop (done + 1) lines) []) in
    omega (arith, x.counted, w.steps, spent, steps, next, most)

-- a line that is too long
pub long_unworked : {F : Type 0} (at : F → ℕ → SymbolView) (all : Played) (rest : List (List ℕ)) (old new lines bytes : ℕ) (phase : Phase F)
    (number : ℕ) (line : List ℕ) (x : LoadsTo at all rest old new lines bytes phase) → number ≡ lines + 1 → MAX_LINE_BYTES < length line
    → Unworked x.place line (fault.Limit number Line) new new
unfolding step_at
long_unworked at all rest old new lines bytes phase number line x e long =
    let test : nat_lt MAX_LINE_BYTES (length line) ≡ true = grind (arith, nat_tests) in
    let same : x.place.lines + 1 ≡ number = ap (λ (n : ℕ). n + 1) (sym x.lines_are) ∙ sym e in
    record { answer = inr (rw (test, same) refl); steps = omega arith }

-- ---- what the run comes to

-- behind the last line
behind_lines : {F : Type 0} (at : F → ℕ → SymbolView) (all : Played) (old new lines bytes : ℕ) (phase : Phase F)
    (x : LoadsTo at all [] old new lines bytes phase) → all ≡ onto x.text x.spent (end_of (x.place.lines + 1) x.place.stage [])
unfolding play end_at
behind_lines at all old new lines bytes phase x = x.goes

end_of_body : {F : Type 0} (at : F → ℕ → SymbolView) (n : ℕ) (player : Kept F) (stage : Stage) → IsAtStage at (phase.Body player) stage
    → (playing : Playing) × (end_of n stage [] ≡ finished playing) × StandsFor at player playing
end_of_body at n player (Head header) s = absurd s
end_of_body at n player (Body playing) s = (playing, refl, s)

end_of_other : {F : Type 0} (at : F → ℕ → SymbolView) (n : ℕ) (now : Phase F) (stage : Stage) → IsAtStage at now stage
    → ((player : Kept F) → now ≡ phase.Body player → ⊥) → end_of n stage [] ≡ stopped (fault.Bad n NoEnd)
end_of_other at n (phase.Head header) (Head other) s unended = refl
end_of_other at n (phase.Head header) (Body playing) s unended = absurd s
end_of_other at n (phase.Body player) stage s unended = absurd (unended player refl)
end_of_other at n (phase.Refused why) stage s unended = absurd s

-- a player at the end, for which that of the definitions stands
pub record AtEnd {F : Type 0} (at : F → ℕ → SymbolView) (all : Played) (player : Kept F) : Type 0 where
  pub playing : Playing
  pub stands : StandsFor at player playing
  pub last : all.last ≡ Some playing
  pub whole : all.fault ≡ None

pub at_end : {F : Type 0} (at : F → ℕ → SymbolView) (all : Played) (old new lines bytes : ℕ) (now : Phase F) (player : Kept F)
    → LoadsTo at all [] old new lines bytes now → now ≡ phase.Body player → AtEnd at all player
at_end at all old new lines bytes now player x is =
    let stage = subst (λ (p : Phase _). IsAtStage at p x.place.stage) is x.there in
    let y = end_of_body at (x.place.lines + 1) player x.place.stage stage in
    let whole : all ≡ onto x.text x.spent (finished y.0) = behind_lines at all old new lines bytes now x ∙ ap (onto x.text x.spent) y.1 in
    record {
      playing = y.0;
      stands = y.2;
      last = ap (λ (p : Played). p.last) whole;
      whole = ap (λ (p : Played). p.fault) whole;
    }

told_summary : (orders quotes : ℕ) (old new : Option (List ℕ)) (line : List ℕ) (status : Status)
    → ((status ≡ Done) ⊎ (status ≡ NoMemory)) ⊎ (status ≡ WriteFault) → line ≡ summary orders quotes
    → (status ≡ Done → Appends old new line) → ((status ≡ Done → ⊥) → AppendsPrefix old new line) → LoadOutcome orders quotes old new status
told_summary orders quotes old new line status (inl (inl is)) e done early =
    subst (LoadOutcome orders quotes old new) (sym is) (subst (Appends old new) e (done is))
told_summary orders quotes old new line status (inl (inr is)) e done early =
    subst (LoadOutcome orders quotes old new) (sym is) (subst (AppendsPrefix old new) e (early (λ n. absurd (cc))))
told_summary orders quotes old new line status (inr is) e done early =
    subst (LoadOutcome orders quotes old new) (sym is) (subst (AppendsPrefix old new) e (early (λ n. absurd (cc))))

-- what was put of the line that sums a player up
pub record PutsSummary {F : Type 0} (at : F → ℕ → SymbolView) (old new : Option (List ℕ)) (player : Kept F) (status : Status) : Type 0 where
  pub done : status ≡ Done → (playing : Playing) → StandsFor at player playing → Appends old new (summary_text (summary_of playing))
  pub early : (status ≡ Done → ⊥) → (playing : Playing) → StandsFor at player playing → AppendsPrefix old new (summary_text (summary_of playing))
  pub ends : ((status ≡ Done) ⊎ (status ≡ NoMemory)) ⊎ (status ≡ WriteFault)

pub loaded_body : {F : Type 0} (at : F → ℕ → SymbolView) (orders quotes : ℕ) (old new : Option (List ℕ)) (before after lines bytes : ℕ) (now : Phase F)
    (player : Kept F) (status : Status) → LoadsTo at (loaded orders quotes) [] before after lines bytes now → now ≡ phase.Body player
    → PutsSummary at old new player status → Loaded orders quotes (seen old before) (seen new after) status
loaded_body at orders quotes old new before after lines bytes now player status x is puts =
    let y = at_end at (loaded orders quotes) before after lines bytes now player x is in
    record {
      outcome = told_summary orders quotes old new (summary_text (summary_of y.playing)) status puts.ends
          (ap line_behind (sym y.last)) (λ e. puts.done e y.playing y.stands) (λ e. puts.early e y.playing y.stands);
      steps = loads_within at (loaded orders quotes) [] before after lines bytes now x;
    }

-- the load script has a player at its end
pub has_player : {F : Type 0} (at : F → ℕ → SymbolView) (orders quotes before after lines bytes : ℕ) (now : Phase F)
    → LoadsTo at (loaded orders quotes) [] before after lines bytes now → ((player : Kept F) → now ≡ phase.Body player → ⊥)
    → orders ≤ most_load → quotes ≤ most_load → ⊥
has_player at orders quotes before after lines bytes now x unended few less =
    let whole = load_whole orders quotes few less in
    let stops : (loaded orders quotes).fault ≡ Some (fault.Bad (x.place.lines + 1) NoEnd) =
    ap (λ (p : Played). p.fault) (behind_lines at (loaded orders quotes) before after lines bytes now x
    ∙ ap (onto x.text x.spent) (end_of_other at (x.place.lines + 1) now x.place.stage x.there unended)) in
    cc

-- none of its lines is refused
pub only_memory : (orders quotes : ℕ) (why : LineFault) → (why ≡ fault.NoMemory) ⊎ ((loaded orders quotes).fault ≡ Some why)
    → orders ≤ most_load → quotes ≤ most_load → why ≡ fault.NoMemory
only_memory orders quotes why (inl none) few less = none
only_memory orders quotes why (inr refused) few less = let whole = load_whole orders quotes few less in absurd (cc)

pub loaded_early : (orders quotes : ℕ) (told : Option (List ℕ)) (before after : ℕ) (why : LineFault) → why ≡ fault.NoMemory
    → after ≤ before + (loaded orders quotes).steps → Loaded orders quotes (seen told before) (seen told after) (status_of why)
loaded_early orders quotes told before after why e steps =
    rw e (record { outcome = prefix_none told (summary orders quotes); steps = steps })

-- where no write failed, the run is done or wanted memory
pub load_ends : (orders quotes : ℕ) (old new told now : Option (List ℕ)) (before after : ℕ) (ended result : Status)
    → LoadOutcome orders quotes old new ended → IsTold ended result told now before after → (result ≡ WriteFault → ⊥)
    → (result ≡ Done) ⊎ (result ≡ NoMemory)
load_ends orders quotes old new told now before after Done result o (inl t) w = inl t.0
load_ends orders quotes old new told now before after Done result o (inr t) w = inl t.0
load_ends orders quotes old new told now before after NoMemory result o (inl t) w = inr t.0
load_ends orders quotes old new told now before after NoMemory result o (inr t) w = inr t.0
load_ends orders quotes old new told now before after WriteFault result o (inl t) w = absurd (w t.0)
load_ends orders quotes old new told now before after WriteFault result o (inr t) w = absurd (w t.0)
load_ends orders quotes old new told now before after BadWords result o t w = absurd o
load_ends orders quotes old new told now before after (BadLine line cause) result o t w = absurd o
load_ends orders quotes old new told now before after (LimitLine line which) result o t w = absurd o
load_ends orders quotes old new told now before after ReadFault result o t w = absurd o
