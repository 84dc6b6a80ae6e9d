-- From the middle of a script to its outcome.
use Rattle.std.proofs.Common.{◌≡◌, ℕ, ◌+◌, ◌≤◌, Bool, List, [], ◌∷◌, ◌++◌, length, Option, Some, None, IfSome, MatchOption, refl, sym, ◌∙◌, ap, subst, append_assoc, append-nil, arith, length-append, false, nat_lt}
use Rattle.std.proofs.lemmas.Bool.Decides.{nat_tests}
use Rattle.std.proofs.Math.Seq.{take-append_seam}
use Rattle.std.specs.Io.KnownBytes.{Appends, Consumes, IsAtEnd}
use Rattle.std.proofs.KnownBytes.{Consumes-nil}
use Rattle.io_edge.specs.Files.{Files, file_named}
use Rattle.io_edge.specs.Grows.{AppendsPrefix}
use Rattle.venue_words.specs.Floors.{SymbolView}
use Rattle.venue_words.specs.declared.limits.TheConstants.{MAX_SCRIPT_BYTES}
use Rattle.script_text.specs.Lines as lines
use Rattle.script_text.specs.Lines.{cut, has_end}
use Rattle.script_text.specs.LinesLaws.{cut_first}
use Rattle.script_text.specs.declared.fault.LineFault.{LineFault}
use Rattle.script_text.specs.declared.fault.LineFault.TheVariants as fault
use Rattle.script_text.specs.declared.fault.LimitCause.TheVariants.{Line}
use Rattle.line_reader.specs.Reading.{Reading, before_lines}
use Rattle.line_reader.specs.ReadingLaws.{taken_more}
use Rattle.line_reader.specs.NextLines.{HandsOut, IsAllRead, IsTooLong, IsCutOff}
use Rattle.line_reader.specs.NextLaws.{long_front}
use Rattle.replay_core.specs.Play.{Place, Played, played, start, script, onto, end_at, play, stopped}
use Rattle.replay_core.specs.Reading.{Goes, InMiddle, IsAtPlace, IsLineAt, fault_in}
use Rattle.replay_core.specs.Telling.{Seen, Leads, Begins, Halts, StopsIn, Outcome, Ran, ending}
use Rattle.replay_core.specs.declared.phase.Phase.{Phase}
use Rattle.replay_core.specs.declared.status.Status.{Status}
use Rattle.replay_core.specs.declared.status.Status.TheVariants.{Done, BadWords, BadLine, LimitLine, ReadFault, WriteFault, NoMemory}
use Rattle.replay_core.proofs.Ahead.{played_end, played_long, end_at_text, end_at_fault}
use Rattle.replay_core.proofs.Leading.{appends_none, appends_trans, leads_none, leads_trans}

-- ---- in the middle

-- a line behind what was worked, and the rest
line_more : (worked line more : List ℕ) → (worked ++ (line ++ 10 ∷ [])) ++ more ≡ worked ++ (line ++ 10 ∷ more)
line_more worked line more =
    append_assoc worked (line ++ 10 ∷ []) more ∙ ap (λ (t : List ℕ). worked ++ t) (append_assoc line (10 ∷ []) more)

pub middle_line : {F : Type 0} (at : F → ℕ → SymbolView) (first before left : Option (List ℕ)) (old t u : Seen) (reader next : Reading)
    (phase behind : Phase F) (line : List ℕ) (is_over : Bool)
    (x : InMiddle at first before old t reader.lines reader.bytes reader.held phase) → HandsOut reader next before left line is_over
    → Goes at t u x.place line behind → InMiddle at first left old u next.lines next.bytes next.held behind
middle_line at first before left old t u reader next phase behind line is_over x h y =
    let lines = ap (λ (r : Reading). r.lines) h.next in
    let bytes = ap (λ (r : Reading). r.bytes) h.next in
    record {
      place = y.next;
      there = y.behind.there;
      lines_are = lines ∙ ap (λ (n : ℕ). n + 1) x.lines_are ∙ sym y.behind.lines;
      bytes_are = bytes ∙ ap (λ (n : ℕ). n + length line + 1) x.bytes_are ∙ sym y.behind.bytes;
      worked = x.worked ++ (line ++ 10 ∷ []);
      taken = subst (Consumes first left) (sym (line_more x.worked line next.held))
          (taken_more first before left x.worked reader.held (line ++ 10 ∷ next.held) x.taken h.reads);
      leads = leads_trans old t u _ _ _ (record {
        done = x.leads.done;
        grew = x.leads.grew;
        spent = x.leads.spent;
        counted = x.leads.counted;
        goes = λ more. ap (played start) (line_more x.worked line more) ∙ x.leads.goes (line ++ 10 ∷ more);
      }) y.leads;
    }

-- the line that was handed out is the next one of the place
pub line_at : {F : Type 0} (at : F → ℕ → SymbolView) (first before left : Option (List ℕ)) (old t : Seen) (reader next : Reading)
    (phase : Phase F) (line : List ℕ) (is_over : Bool) (n : ℕ)
    (x : InMiddle at first before old t reader.lines reader.bytes reader.held phase) → HandsOut reader next before left line is_over
    → n ≡ reader.lines → reader.most ≡ MAX_SCRIPT_BYTES → IsLineAt (n + 1) line is_over x.place
line_at at first before left old t reader next phase line is_over n x h same most = record {
  counted = ap (λ (k : ℕ). k + 1) (same ∙ x.lines_are);
  over = h.over ∙ ap (λ (k : ℕ). nat_lt k next.bytes) most ∙ ap (λ (r : Reading). nat_lt MAX_SCRIPT_BYTES r.bytes) h.next
      ∙ ap (λ (k : ℕ). nat_lt MAX_SCRIPT_BYTES (k + length line + 1)) x.bytes_are;
}

-- a line that is not over leaves the reader within the limit
pub line_within : (old new : Reading) (before left : Option (List ℕ)) (line : List ℕ) (is_over : Bool) → HandsOut old new before left line is_over
    → is_over ≡ false → new.bytes ≤ new.most
line_within old new before left line is_over h inside =
    let most = ap (λ (r : Reading). r.most) h.next in
    let test : nat_lt old.most new.bytes ≡ false = sym h.over ∙ inside in
    let within : new.bytes ≤ old.most = grind (arith, nat_tests) in
    omega (arith, within, most)

pub prefix_none : (t : Option (List ℕ)) (text : List ℕ) → AppendsPrefix t t text
prefix_none t text = (0, appends_none t)

-- what was told leads to this, and the script is at its end
whole_outcome : (old new : Seen) (left : Option (List ℕ)) (bytes done : List ℕ) (spent : ℕ) (last : Played) (status : Status)
    → script bytes ≡ onto done spent last → last.text ≡ [] → Appends old.told new.told done → new.steps ≤ old.steps + spent
    → (Appends old.told new.told (script bytes).text → (script bytes).fault ≡ last.fault → Outcome bytes old new left status)
    → Ran bytes old new left status
whole_outcome old new left bytes done spent last status whole none grew counted make =
    let text : (script bytes).text ≡ done = ap (λ (p : Played). p.text) whole ∙ ap (λ (t : List ℕ). done ++ t) none ∙ append-nil done in
    let steps : (script bytes).steps ≡ spent + last.steps = ap (λ (p : Played). p.steps) whole in
    record {
      outcome = make (rw text grew) (ap (λ (p : Played). p.fault) whole);
      steps = omega (arith, counted, steps);
    }

-- what some first lines make
worked_text : (worked done : List ℕ) (spent : ℕ) (place : Place) → played start (worked ++ []) ≡ onto done spent (played place [])
    → (script worked).text ≡ done
worked_text worked done spent place e =
    ap (λ (p : Played). p.text) (rw append-nil at e) ∙ ap (λ (t : List ℕ). done ++ t) (ap (λ (p : Played). p.text) (played_end place [] refl) ∙ end_at_text place [])
    ∙ append-nil done

one_line : (line : List ℕ) → has_end line ≡ false → length (cut (line ++ 10 ∷ [])).lines ≤ 1
unfolding cut
one_line line clear = rw (cut_first line [] clear) (omega arith)

-- the run stops in a line of which a beginning was put
stops_in : (old t u : Seen) (bytes worked line rest : List ℕ) (place : Place) → has_end line ≡ false
    → bytes ≡ worked ++ (line ++ 10 ∷ rest) → Leads old t (λ more. played start (worked ++ more)) (played place)
    → Begins t u (λ more. played place (line ++ 10 ∷ more)) → StopsIn bytes old u
stops_in old t u bytes worked line rest place clear whole x y =
    let all : script (worked ++ (line ++ 10 ∷ [])) ≡ onto x.done x.spent (played place (line ++ 10 ∷ [])) = x.goes (line ++ 10 ∷ []) in
    let text : (script (worked ++ (line ++ 10 ∷ []))).text ≡ (x.done ++ y.done) ++ y.behind [] =
    ap (λ (p : Played). p.text) all ∙ ap (λ (t : List ℕ). x.done ++ t) (y.goes []) ∙ sym (append_assoc x.done y.done (y.behind [])) in
    let steps : (script (worked ++ (line ++ 10 ∷ []))).steps ≡ x.spent + (played place (line ++ 10 ∷ [])).steps = ap (λ (p : Played). p.steps) all in
    let told : Appends old.told u.told (x.done ++ y.done) = appends_trans old.told t.told u.told x.done y.done x.grew y.grew in
    let total : (script bytes).text ≡ (x.done ++ y.done) ++ y.behind rest =
    ap (λ (p : Played). p.text) (ap script whole ∙ x.goes (line ++ 10 ∷ rest)) ∙ ap (λ (t : List ℕ). x.done ++ t) (y.goes rest)
    ∙ sym (append_assoc x.done y.done (y.behind rest)) in
    let first : (script worked).text ≡ x.done = worked_text worked x.done x.spent place (x.goes []) in
    let least : length (script worked).text ≡ length x.done = ap length first in
    record {
      worked = worked;
      line = line ++ 10 ∷ [];
      rest = rest;
      whole = whole ∙ sym (line_more worked line rest);
      one = one_line line clear;
      count = length (x.done ++ y.done);
      grew = rw (text, take-append_seam (x.done ++ y.done) (y.behind [])) told;
      least = omega (arith, least, length-append x.done y.done);
      steps = omega (arith, steps, x.counted, y.counted []);
      part = (length (x.done ++ y.done), rw (total, take-append_seam (x.done ++ y.done) (y.behind rest)) told);
    }

within_script : (bytes : List ℕ) (old u : Seen) (worked more : List ℕ) (place : Place) (t : Seen) → bytes ≡ worked ++ more
    → Leads old t (λ more. played start (worked ++ more)) (played place) → u.steps ≤ t.steps + (played place more).steps
    → u.steps ≤ old.steps + (script bytes).steps
within_script bytes old u worked more place t whole x counted =
    let steps : (script bytes).steps ≡ x.spent + (played place more).steps = ap (λ (p : Played). p.steps) (ap script whole ∙ x.goes more) in
    omega (arith, steps, x.counted, counted)

after_worked : (a b : Seen) (worked line : List ℕ) (place : Place) → Leads a b (λ more. played start (worked ++ more)) (played place)
    → Leads a b (λ more. played start (worked ++ (line ++ 10 ∷ more))) (λ more. played place (line ++ 10 ∷ more))
after_worked a b worked line place x = record {
  done = x.done;
  grew = x.grew;
  spent = x.spent;
  counted = x.counted;
  goes = λ more. x.goes (line ++ 10 ∷ more);
}

-- a line that ends the run, in the middle of a told file
halts_told : (left : Option (List ℕ)) (old t u : Seen) (bytes worked line rest : List ℕ) (place : Place) (status : Status) → has_end line ≡ false
    → bytes ≡ worked ++ (line ++ 10 ∷ rest) → Leads old t (λ more. played start (worked ++ more)) (played place)
    → Halts t u (λ more. played place (line ++ 10 ∷ more)) status → Ran bytes old u left status
halts_told left old t u bytes worked line rest place Done clear whole x y = absurd y
halts_told left old t u bytes worked line rest place BadWords clear whole x y = absurd y
halts_told left old t u bytes worked line rest place ReadFault clear whole x y = absurd y
halts_told left old t u bytes worked line rest place (BadLine n cause) clear whole x y =
    let z = leads_trans old t u _ _ _ (after_worked old t worked line place x) y in
    whole_outcome old u left bytes z.done z.spent (stopped (fault.Bad n cause)) (BadLine n cause) (ap script whole ∙ z.goes rest) refl
    z.grew z.counted (λ grew why. (grew, why))
halts_told left old t u bytes worked line rest place (LimitLine n which) clear whole x y =
    let z = leads_trans old t u _ _ _ (after_worked old t worked line place x) y in
    whole_outcome old u left bytes z.done z.spent (stopped (fault.Limit n which)) (LimitLine n which) (ap script whole ∙ z.goes rest) refl
    z.grew z.counted (λ grew why. (grew, why))
halts_told left old t u bytes worked line rest place WriteFault clear whole x y = record {
  outcome = stops_in old t u bytes worked line rest place clear whole x y;
  steps = within_script bytes old u worked (line ++ 10 ∷ rest) place t whole x (y.counted rest);
}
halts_told left old t u bytes worked line rest place NoMemory clear whole x y = record {
  outcome = stops_in old t u bytes worked line rest place clear whole x y;
  steps = within_script bytes old u worked (line ++ 10 ∷ rest) place t whole x (y.counted rest);
}

-- what was taken of a told file, and the rest of it
pub record TakenOf (bytes : List ℕ) (left : Option (List ℕ)) (all : List ℕ) : Type 0 where
  pub rest : List ℕ
  pub left_is : left ≡ Some rest
  pub whole : bytes ≡ all ++ rest

taken_of : (bytes : List ℕ) (left : Option (List ℕ)) (all : List ℕ) → Consumes (Some bytes) left all → TakenOf bytes left all
taken_of bytes None all x = absurd x
taken_of bytes (Some rest) all x = record { rest = rest; left_is = refl; whole = x }

pub middle_halts : {F : Type 0} (at : F → ℕ → SymbolView) (first before left : Option (List ℕ)) (old t u : Seen) (reader next : Reading)
    (phase : Phase F) (line : List ℕ) (is_over : Bool) (status : Status)
    (x : InMiddle at first before old t reader.lines reader.bytes reader.held phase) → HandsOut reader next before left line is_over
    → Halts t u (λ more. played x.place (line ++ 10 ∷ more)) status → IfSome first (λ bytes. Ran bytes old u left status)
middle_halts at None before left old t u reader next phase line is_over status x h y = tt
middle_halts at (Some bytes) before left old t u reader next phase line is_over status x h y =
    let taken = taken_of bytes left (x.worked ++ (line ++ 10 ∷ next.held))
    (taken_more (Some bytes) before left x.worked reader.held (line ++ 10 ∷ next.held) x.taken h.reads) in
    halts_told left old t u bytes x.worked line (next.held ++ taken.rest) x.place status h.clear
    (taken.whole ∙ append_assoc x.worked (line ++ 10 ∷ next.held) taken.rest
    ∙ ap (λ (t : List ℕ). x.worked ++ t) (append_assoc line (10 ∷ next.held) taken.rest)) x.leads y

finish : (old new : Seen) (left : Option (List ℕ)) (bytes : List ℕ) (why : Option LineFault) → (why ≡ Some fault.NoMemory → ⊥)
    → Appends old.told new.told (script bytes).text → (script bytes).fault ≡ why → Outcome bytes old new left (ending why)
finish old new left bytes None wanted grew e = (grew, e)
finish old new left bytes (Some (fault.Bad line cause)) wanted grew e = (grew, e)
finish old new left bytes (Some (fault.Limit line which)) wanted grew e = (grew, e)
finish old new left bytes (Some fault.NoMemory) wanted grew e = absurd (wanted refl)

pub middle_ends : {F : Type 0} (at : F → ℕ → SymbolView) (first before left : Option (List ℕ)) (old t : Seen) (reader next : Reading)
    (phase : Phase F) (rest : List ℕ) (x : InMiddle at first before old t reader.lines reader.bytes reader.held phase)
    → IsAllRead reader next before left rest → IfSome first (λ bytes. Ran bytes old t left (ending (fault_in x.place rest)))
middle_ends at None before left old t reader next phase rest x h = tt
middle_ends at (Some bytes) before left old t reader next phase rest x h =
    let taken = taken_of bytes left (x.worked ++ rest) (taken_more (Some bytes) before left x.worked reader.held rest x.taken h.reads) in
    let none : taken.rest ≡ [] = subst IsAtEnd taken.left_is h.ended in
    let all : bytes ≡ x.worked ++ rest = taken.whole ∙ ap (λ (r : List ℕ). (x.worked ++ rest) ++ r) none ∙ append-nil (x.worked ++ rest) in
    whole_outcome old t left bytes x.leads.done x.leads.spent (end_at x.place rest) (ending (fault_in x.place rest))
    (ap script all ∙ x.leads.goes rest ∙ ap (onto x.leads.done x.leads.spent) (played_end x.place rest h.clear)) (end_at_text x.place rest)
    x.leads.grew x.leads.counted (λ grew why. finish old t left bytes (fault_in x.place rest) (end_at_fault x.place rest) grew why)

pub middle_long : {F : Type 0} (at : F → ℕ → SymbolView) (first before left : Option (List ℕ)) (old t : Seen) (reader next : Reading)
    (phase : Phase F) (n : ℕ) → InMiddle at first before old t reader.lines reader.bytes reader.held phase
    → IsTooLong reader next before left → n ≡ reader.lines → IfSome first (λ bytes. Ran bytes old t left (LimitLine (n + 1) Line))
middle_long at None before left old t reader next phase n x h e = tt
middle_long at (Some bytes) before left old t reader next phase n x h e =
    let taken = taken_of bytes left (x.worked ++ next.held) (taken_more (Some bytes) before left x.worked reader.held next.held x.taken h.reads) in
    let long = long_front next.held taken.rest h.long in
    let number : x.place.lines + 1 ≡ n + 1 = ap (λ (k : ℕ). k + 1) (sym (e ∙ x.lines_are)) in
    let ends : played x.place (next.held ++ taken.rest) ≡ stopped (fault.Limit (n + 1) Line) =
    ap (played x.place) long.whole ∙ played_long x.place long.front long.behind long.clear long.long
    ∙ ap (λ (k : ℕ). stopped (fault.Limit k Line)) number in
    whole_outcome old t left bytes x.leads.done x.leads.spent (stopped (fault.Limit (n + 1) Line)) (LimitLine (n + 1) Line)
    (ap script (taken.whole ∙ append_assoc x.worked next.held taken.rest) ∙ x.leads.goes (next.held ++ taken.rest)
    ∙ ap (onto x.leads.done x.leads.spent) ends) refl x.leads.grew x.leads.counted (λ grew why. (grew, why))

pub middle_gave_up : {F : Type 0} (at : F → ℕ → SymbolView) (first before left : Option (List ℕ)) (old t : Seen) (reader next : Reading)
    (phase : Phase F) → InMiddle at first before old t reader.lines reader.bytes reader.held phase
    → IsCutOff reader next before left → IfSome first (λ bytes. Ran bytes old t left ReadFault)
middle_gave_up at None before left old t reader next phase x h = tt
middle_gave_up at (Some bytes) before left old t reader next phase x h =
    let taken = taken_of bytes left (x.worked ++ next.held) (taken_more (Some bytes) before left x.worked reader.held next.held x.taken h.reads) in
    let given : script (x.worked ++ next.held) ≡ onto x.leads.done x.leads.spent (end_at x.place next.held) =
    x.leads.goes next.held ∙ ap (onto x.leads.done x.leads.spent) (played_end x.place next.held h.clear) in
    let text : (script (x.worked ++ next.held)).text ≡ x.leads.done =
    ap (λ (p : Played). p.text) given ∙ ap (λ (t : List ℕ). x.leads.done ++ t) (end_at_text x.place next.held) ∙ append-nil x.leads.done in
    let steps : (script (x.worked ++ next.held)).steps ≡ x.leads.spent + (end_at x.place next.held).steps = ap (λ (p : Played). p.steps) given in
    record {
      outcome = record {
        given = x.worked ++ next.held;
        rest = taken.rest;
        whole = taken.whole;
        place = subst (λ (k : Option (List ℕ)). MatchOption k (x.worked ++ next.held ≡ []) (λ l. l ≡ taken.rest)) (sym taken.left_is) refl;
        grew = rw text x.leads.grew;
        steps = omega (arith, steps, x.leads.counted);
      };
      steps = within_script bytes old t x.worked (next.held ++ taken.rest) x.place t
          (taken.whole ∙ append_assoc x.worked next.held taken.rest) x.leads (omega arith);
    }

-- ---- before a line was read

-- nothing was read
nothing_given : (bytes : List ℕ) (t : Seen) → Outcome bytes t t None ReadFault
unfolding played play lines.cut end_at
nothing_given bytes t =
    record { given = []; rest = bytes; whole = refl; place = refl; grew = appends_none t.told; steps = omega arith }

not_begun : (first : Option (List ℕ)) (t : Seen) → IfSome first (λ bytes. Ran bytes t t None ReadFault)
not_begun None t = tt
not_begun (Some bytes) t = record { outcome = nothing_given bytes t; steps = omega arith }

pub not_begun_named : (told : Option Files) (name : List ℕ) (k : Option (List ℕ)) (t : Seen) → k ≡ None
    → IfSome told (λ files. IfSome (file_named files name) (λ bytes. Ran bytes t t k ReadFault))
not_begun_named None name k t e = tt
not_begun_named (Some files) name k t e = rw e (not_begun (file_named files name) t)

no_line : (bytes : List ℕ) (t : Seen) → StopsIn bytes t t
unfolding played play lines.cut end_at
no_line bytes t = record {
  worked = [];
  line = [];
  rest = bytes;
  whole = refl;
  one = omega arith;
  count = 0;
  grew = appends_none t.told;
  least = omega arith;
  steps = omega arith;
  part = prefix_none t.told (script bytes).text;
}

pub no_room : (first k : Option (List ℕ)) (t : Seen) → IfSome first (λ bytes. Ran bytes t t k NoMemory)
no_room None k t = tt
no_room (Some bytes) k t = record { outcome = no_line bytes t; steps = omega arith }

pub no_room_named : (told : Option Files) (name : List ℕ) (k : Option (List ℕ)) (t : Seen)
    → IfSome told (λ files. IfSome (file_named files name) (λ bytes. Ran bytes t t k NoMemory))
no_room_named None name k t = tt
no_room_named (Some files) name k t = no_room (file_named files name) k t

-- ---- at the start

pub middle_start : {F : Type 0} (at : F → ℕ → SymbolView) (left : Option (List ℕ)) (t : Seen) (reader : Reading) (phase : Phase F)
    → reader ≡ before_lines 0 MAX_SCRIPT_BYTES → IsAtPlace at phase start
    → InMiddle at left left t t reader.lines reader.bytes reader.held phase
middle_start at left t reader phase e there = record {
  place = start;
  there = there;
  lines_are = ap (λ (r : Reading). r.lines) e;
  bytes_are = ap (λ (r : Reading). r.bytes) e;
  worked = [];
  taken = subst (Consumes left left) (sym (ap (λ (r : Reading). r.held) e)) (Consumes-nil left);
  leads = leads_none t (played start);
}
