-- A line is noted and weighed.
use Rattle.std.proofs.Common.{◌≡◌, ℕ, Bool, true, false, cond, List, Option, None, Some, option_map, Result, Ok, Err, refl}
use Rattle.script_text.specs.declared.body.Line.{Line}
use Rattle.script_text.specs.declared.fault.LineFault.{LineFault}
use Rattle.script_text.specs.declared.fault.LineFault.TheVariants.{Bad}
use Rattle.script_text.specs.declared.fault.LineCause.TheVariants.{SharedMember}
use Rattle.line_reader.specs.Over.{over}
use Rattle.line_work.specs.Refusing.{fault_at}
use Rattle.feeds_core.specs.FeedLines.{is_taken, fault_in, fault_of, or_else}
use Rattle.feeds_core.specs.Naming.{shared_fault, refused_by, naming_of}
use Rattle.feeds_core.specs.declared.naming.Naming.{Naming}

-- what the limit and a taken member make of a line that can be read
abbrev pub weighed_of : Bool → Bool → Line → ℕ → Option LineFault
weighed_of is_over taken line n =
    option_map (fault_at n) (fault_in (cond is_over (Err (over 1 (cond taken (Err (Bad 1 SharedMember)) (let x : Result Line LineFault = Ok line in x))))
    (cond taken (Err (Bad 1 SharedMember)) (let x : Result Line LineFault = Ok line in x))))

-- a member that is taken: his first naming is refused, whatever stands behind it
taken_stops : (old : Option Naming) (member n : ℕ) (line : Line) (is_over : Bool) (rest next : Option LineFault)
    → or_else (shared_fault old) (or_else (weighed_of is_over true line n) rest)
    ≡ or_else (shared_fault (or_else old (naming_of (Some member) n true))) next
taken_stops None member n line true rest next = refl
taken_stops None member n line false rest next = refl
taken_stops (Some one) member n line true rest next = refl
taken_stops (Some one) member n line false rest next = refl

free_goes : (old : Option Naming) (named : Option ℕ) (n : ℕ) (line : Line) (next : Option LineFault)
    → or_else (shared_fault old) (or_else (weighed_of false false line n) next)
    ≡ or_else (shared_fault (or_else old (naming_of named n false))) next
free_goes None None n line next = refl
free_goes None (Some member) n line next = refl
free_goes (Some one) None n line next = refl
free_goes (Some one) (Some member) n line next = refl

goes_by : (old : Option Naming) (named : Option ℕ) (taken : ℕ → Bool) (b : Bool) (n : ℕ) (line : Line) (next : Option LineFault)
    → is_taken taken named ≡ b
    → or_else (shared_fault old) (or_else (weighed_of false b line n) next)
    ≡ or_else (shared_fault (or_else old (naming_of named n b))) next
goes_by old None taken true n line next e = absurd (cc)
goes_by old (Some member) taken true n line next e = taken_stops old member n line false next next
goes_by old named taken false n line next e = free_goes old named n line next

-- ---- by what was read

abbrev pub GoesOn : (ℕ → Bool) → ℕ → ℕ → List Naming → List Naming → Result Line LineFault → Option LineFault → Option LineFault → Type 0
GoesOn taken n bytes old new read next behind =
    refused_by taken old (or_else (fault_of taken n bytes read) next) ≡ refused_by taken new behind
