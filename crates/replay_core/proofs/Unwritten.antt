-- A run whose output was put, and of which a write failed behind that.
use Rattle.std.proofs.Common.{◌≡◌, ℕ, ◌+◌, ◌≤◌, ◌==◌, ◌⊎◌, Bool, true, false, cond, List, [], ◌∷◌, ◌++◌, length, take, Option, Some, None, Result, Ok, Err, IfSome, inl, inr, refl, sym, ◌∙◌, ap, subst, append_assoc, append-nil, arith}
use Rattle.std.proofs.Math.Seq.{take-append_seam}
use Rattle.std.specs.Io.KnownBytes.{Appends}
use Rattle.io_edge.specs.Files.{Files, Opens, file_named}
use Rattle.script_text.specs.Lines.{Cut, cut, onto_line}
use Rattle.script_text.specs.declared.fault.LineFault.{LineFault}
use Rattle.replay_core.specs.Play.{Place, Played, after_result, play, played, script, start, step_at}
use Rattle.replay_core.specs.Telling.{Seen, seen, StopsIn, Outcome, Ran}
use Rattle.replay_core.specs.declared.status.Status.{Status}
use Rattle.replay_core.specs.declared.status.Status.TheVariants.{Done, BadWords, BadLine, LimitLine, ReadFault, WriteFault, NoMemory}
use Rattle.replay_core.proofs.Ahead.{end_at_text}

-- ---- a text that goes on makes what it made before, and more

abbrev LinesGoOn : List (List ℕ) → List (List ℕ) → Type 0
LinesGoOn front all = (more : List (List ℕ)) × (all ≡ front ++ more)

abbrev TextGoesOn : List ℕ → List ℕ → Type 0
TextGoesOn front all = (more : List ℕ) × (all ≡ front ++ more)

onto_goes_on : (b : ℕ) (front all : List (List ℕ)) (held rest : List ℕ) → LinesGoOn front all
    → LinesGoOn (onto_line b front held).lines (onto_line b all rest).lines
onto_goes_on b [] all held rest h = ((onto_line b all rest).lines, refl)
onto_goes_on b (line ∷ front) all held rest h = (h.0, rw h.1 refl)

abbrev one_more : Bool → ℕ → Cut → Cut
one_more end b there = cond end (record { lines = [] ∷ there.lines; rest = there.rest }) (onto_line b there.lines there.rest)

more_goes_on : (end : Bool) (b : ℕ) (here there : Cut) → LinesGoOn here.lines there.lines
    → LinesGoOn (one_more end b here).lines (one_more end b there).lines
more_goes_on true b here there h = (h.0, ap (λ (lines : List (List ℕ)). [] ∷ lines) h.1)
more_goes_on false b here there h = onto_goes_on b here.lines there.lines here.rest there.rest h

lines_go_on : (text more : List ℕ) → LinesGoOn (cut text).lines (cut (text ++ more)).lines
unfolding cut
lines_go_on [] more = ((cut more).lines, refl)
lines_go_on (b ∷ text) more = more_goes_on (b == 10) b (cut text) (cut (text ++ more)) (lines_go_on text more)

either_goes_on : (n : ℕ) (r : Result (Place × List ℕ) LineFault) (f g : Place → Played)
    → ((q : Place) → TextGoesOn (f q).text (g q).text) → TextGoesOn (after_result n r f).text (after_result n r g).text
either_goes_on n (Ok x) f g h =
    let there = h x.0 in
    (there.0, ap (λ (t : List ℕ). x.1 ++ t) there.1 ∙ sym (append_assoc x.1 (f x.0).text there.0))
either_goes_on n (Err fault) f g h = ([], refl)

play_goes_on : (p : Place) (worked more : List (List ℕ)) (held rest : List ℕ)
    → TextGoesOn (play p worked held).text (play p (worked ++ more) rest).text
unfolding play
play_goes_on p [] more held rest =
    ((play p more rest).text, ap (λ (t : List ℕ). t ++ (play p more rest).text) (sym (end_at_text p held)))
play_goes_on p (line ∷ worked) more held rest =
    either_goes_on (step_at p line).steps (step_at p line).result (λ (q : Place). play q worked held)
    (λ (q : Place). play q (worked ++ more) rest) (λ q. play_goes_on q worked more held rest)

script_goes_on : (given rest : List ℕ) → TextGoesOn (script given).text (script (given ++ rest)).text
unfolding played
script_goes_on given rest =
    let lines = lines_go_on given rest in
    let text = play_goes_on start (cut given).lines lines.0 (cut given).rest (cut (given ++ rest)).rest in
    (text.0, ap (λ (ls : List (List ℕ)). (play start ls (cut (given ++ rest)).rest).text) lines.1 ∙ text.1)

-- ---- every end is one by a failed write, too

-- the output of these first bytes was put
first_put : (bytes given rest : List ℕ) (old new : Seen) → bytes ≡ given ++ rest → Appends old.told new.told (script given).text
    → new.steps ≤ old.steps + (script given).steps → StopsIn bytes old new
unfolding cut
first_put bytes given rest old new whole grew steps =
    let text = script_goes_on given rest in
    let all : (script bytes).text ≡ (script given).text ++ text.0 = ap (λ (b : List ℕ). (script b).text) whole ∙ text.1 in
    let same : given ++ [] ≡ given = append-nil given in
    let put : take (length (script given).text) (script given).text ≡ (script given).text =
    rw append-nil at (take-append_seam (script given).text []) in
    record {
      worked = given;
      line = [];
      rest = rest;
      whole = whole ∙ ap (λ (b : List ℕ). b ++ rest) (sym same);
      one = omega arith;
      count = length (script given).text;
      grew = rw (same, put) grew;
      least = omega arith;
      steps = rw same steps;
      part = (length (script given).text, rw (all, take-append_seam (script given).text text.0) grew);
    }

all_put : (bytes : List ℕ) (old new : Seen) → Appends old.told new.told (script bytes).text
    → new.steps ≤ old.steps + (script bytes).steps → StopsIn bytes old new
all_put bytes old new grew steps = first_put bytes bytes [] old new (sym (append-nil bytes)) grew steps

stopped_writing : (bytes : List ℕ) (old new : Seen) (left : Option (List ℕ)) (status : Status)
    → new.steps ≤ old.steps + (script bytes).steps → Outcome bytes old new left status → StopsIn bytes old new
stopped_writing bytes old new left Done steps x = all_put bytes old new x.0 steps
stopped_writing bytes old new left (BadLine line cause) steps x = all_put bytes old new x.0 steps
stopped_writing bytes old new left (LimitLine line which) steps x = all_put bytes old new x.0 steps
stopped_writing bytes old new left ReadFault steps x = first_put bytes x.given x.rest old new x.whole x.grew x.steps
stopped_writing bytes old new left WriteFault steps x = x
stopped_writing bytes old new left NoMemory steps x = x
stopped_writing bytes old new left BadWords steps x = absurd x

ran_unwritten : (bytes : List ℕ) (old new : Seen) (left : Option (List ℕ)) (status : Status) → Ran bytes old new left status
    → Ran bytes old new left WriteFault
ran_unwritten bytes old new left status x =
    record { outcome = stopped_writing bytes old new left status x.steps x.outcome; steps = x.steps }

-- behind a flush, which told nothing more
pub ran_behind : (first told before after left : Option (List ℕ)) (was is : ℕ) (status result : Status) → after ≡ before
    → (result ≡ status) ⊎ (result ≡ WriteFault) → IfSome first (λ bytes. Ran bytes (seen told was) (seen before is) left status)
    → IfSome first (λ bytes. Ran bytes (seen told was) (seen after is) left result)
ran_behind None told before after left was is status result same ends x = tt
ran_behind (Some bytes) told before after left was is status result same (inl e) x = rw (same, e) x
ran_behind (Some bytes) told before after left was is status result same (inr e) x =
    rw (same, e) (ran_unwritten bytes (seen told was) (seen before is) left status x)

-- the file of a name, which was opened
pub ran_named : (told : Option Files) (name : List ℕ) (left : Option (List ℕ)) (P : List ℕ → Type 0) → Opens told name left → IfSome left P
    → IfSome told (λ files. IfSome (file_named files name) P)
ran_named None name left P opens ran = tt
ran_named (Some files) name left P opens ran = subst (λ (bytes : Option (List ℕ)). IfSome bytes P) opens.1 ran
