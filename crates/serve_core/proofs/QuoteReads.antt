-- What a line of quotes is read as, and what becomes of it.
use Rattle.std.proofs.Common.{◌≡◌, ◌⊎◌, inl, inr, ◌≤◌, ℕ, ℤ, Bool, true, false, cond, List, [], ◌∷◌, length, Option, Some, None, IsSome, IfOk, IfErr, Result, Ok, Err, refl, ◌∙◌, ap, subst, arith, nat_lt}
use Rattle.std.proofs.lemmas.Bool.Decides.{nat_tests}
use Rattle.io_edge.specs.Clocks.{GaveMoment}
use Rattle.venue_words.specs.Floors.{FloorMark, SymbolView}
use Rattle.venue_words.specs.declared.command.Command.{Command}
use Rattle.venue_words.specs.declared.config.Config.{Config}
use Rattle.venue_words.specs.declared.limits.TheConstants.{MAX_LINE_BYTES}
use Rattle.member_gate.specs.Answering.{Submission}
use Rattle.script_text.specs.Body.{read_of}
use Rattle.script_text.specs.Meets.{MeetsUnless}
use Rattle.script_text.specs.declared.body.Line.{Line}
use Rattle.script_text.specs.declared.body.Line.TheVariants as line
use Rattle.script_text.specs.declared.fault.LineFault.{LineFault}
use Rattle.script_text.specs.declared.fault.LineFault.TheVariants as fault
use Rattle.line_reader.specs.Over.{over}
use Rattle.line_work.specs.Refusing.{fault_at}
use Rattle.link_work.specs.Turns.{GaveMoments}
use Rattle.serve_core.specs.QuoteFiles.{begins_quote, no_quote, nth_quote, numbered, only_quote, quote_of}
use Rattle.serve_core.specs.Quoting.{LineEnds, Place, Submits, end_of, place, quote_in}
use Rattle.serve_core.specs.Turning.{GrewBy}
use Rattle.serve_core.specs.declared.quotes.Quote.{Quote}
use Rattle.serve_core.proofs.QuotesMiddle.{submits_none}
use Rattle.serve_core.proofs.SessionLaws.{moments_none}

-- ---- a line

short_line : (text : List ℕ) → length text ≤ MAX_LINE_BYTES → nat_lt MAX_LINE_BYTES (length text) ≡ false
short_line text short = grind (arith, nat_tests)

pub no_quote_is : (config : Config) (text : List ℕ) → length text ≤ MAX_LINE_BYTES → begins_quote text ≡ false
    → quote_of config text ≡ Err no_quote
unfolding quote_of
no_quote_is config text short other = rw (short_line text short, other) refl

quote_is : (config : Config) (text : List ℕ) → length text ≤ MAX_LINE_BYTES → begins_quote text ≡ true
    → quote_of config text ≡ only_quote (read_of config text)
unfolding quote_of
quote_is config text short begins = rw (short_line text short, begins) refl

pub other_line : (l : Line) → ((symbol : ℕ) (command : Command) → l ≡ line.Quote symbol command → ⊥) → only_quote (Ok l) ≡ Err no_quote
other_line (line.Moment moment) not = refl
other_line (line.Quote symbol command) not = absurd (not symbol command refl)
other_line (line.Piece member bytes) not = refl
other_line (line.Open member) not = refl

-- a line that was read, and is a quote or not
pub meets_only : (config : Config) (text : List ℕ) (l : Line) (result : Result Quote LineFault) → length text ≤ MAX_LINE_BYTES
    → begins_quote text ≡ true → read_of config text ≡ Ok l → IfOk result (λ quote. l ≡ line.Quote quote.symbol quote.command)
    → IfErr result (λ why. only_quote (Ok l) ≡ Err why) → MeetsUnless fault.NoMemory quote_in (quote_of config text) result
meets_only config text l (Ok quote) short begins e is other =
    quote_is config text short begins ∙ ap only_quote (e ∙ ap (λ (x : Line). let r : Result Line LineFault = Ok x in r) is)
meets_only config text l (Err why) short begins e is other = inr (quote_is config text short begins ∙ ap only_quote e ∙ other)

-- what holds of each quote that a line may be holds of the one that it is
pub quoted : (P : ℕ → Command → Type 0) (l : Line) (result : Result Quote LineFault)
    → ((symbol : ℕ) (command : Command) → l ≡ line.Quote symbol command → P symbol command)
    → IfOk result (λ quote. l ≡ line.Quote quote.symbol quote.command) → IfOk result (λ quote. P quote.symbol quote.command)
quoted P l (Ok quote) each is = each quote.symbol quote.command is
quoted P l (Err why) each is = tt

pub read_fault : (config : Config) (text : List ℕ) (why : LineFault) → length text ≤ MAX_LINE_BYTES → begins_quote text ≡ true
    → (why ≡ fault.NoMemory) ⊎ (read_of config text ≡ Err why) → (why ≡ fault.NoMemory) ⊎ (quote_of config text ≡ Err why)
read_fault config text why short begins (inl wanted) = inl wanted
read_fault config text why short begins (inr e) = inr (quote_is config text short begins ∙ ap only_quote e)

-- ---- under the limit on bytes

pub weighed_quote : (config : Config) (text : List ℕ) (n : ℕ) (is_over : Bool) (read weighed : Result Quote LineFault) (quote : Quote)
    → MeetsUnless fault.NoMemory quote_in (quote_of config text) read → weighed ≡ cond is_over (Err (over n read)) read → weighed ≡ Ok quote
    → (nth_quote config n is_over text ≡ Ok (quote_in quote)) × (is_over ≡ false)
unfolding nth_quote
weighed_quote config text n true read weighed quote meets w e = absurd (cc)
weighed_quote config text n false (Ok q) weighed quote meets w e =
    let same : q ≡ quote = cc in
    (ap (numbered n) meets ∙ ap (λ (x : Quote). let r : Result Submission LineFault = Ok (quote_in x) in r) same, refl)
weighed_quote config text n false (Err why) weighed quote meets w e = absurd (cc)

over_says : (n : ℕ) (meant : Result Submission LineFault) (read : Result Quote LineFault) → MeetsUnless fault.NoMemory quote_in meant read
    → (over n read ≡ fault.NoMemory) ⊎ (over n meant ≡ over n read)
over_says n meant (Ok q) meets = inr (ap (over n) meets)
over_says n meant (Err why) (inl wanted) =
    inl (ap (λ (f : LineFault). let r : Result Quote LineFault = Err f in over n r) wanted)
over_says n meant (Err why) (inr e) = inr (ap (over n) e)

numbered_over : (n : ℕ) (meant : Result Submission LineFault) (read : Result Quote LineFault)
    → (over n read ≡ fault.NoMemory) ⊎ (over n meant ≡ over n read)
    → (over n read ≡ fault.NoMemory) ⊎ (numbered n (Err (over n meant)) ≡ Err (fault_at n (over n read)))
numbered_over n meant read (inl wanted) = inl wanted
numbered_over n meant read (inr e) = inr (ap (λ (f : LineFault). let r : Result Submission LineFault = Err (fault_at n f) in r) e)

numbered_read : (n : ℕ) (meant : Result Submission LineFault) (why : LineFault) → (why ≡ fault.NoMemory) ⊎ (meant ≡ Err why)
    → (why ≡ fault.NoMemory) ⊎ (numbered n meant ≡ Err (fault_at n why))
numbered_read n meant why (inl wanted) = inl wanted
numbered_read n meant why (inr e) = inr (ap (numbered n) e)

pub weighed_fault : (config : Config) (text : List ℕ) (n : ℕ) (is_over : Bool) (read weighed : Result Quote LineFault) (why : LineFault)
    → MeetsUnless fault.NoMemory quote_in (quote_of config text) read → weighed ≡ cond is_over (Err (over n read)) read → weighed ≡ Err why
    → (why ≡ fault.NoMemory) ⊎ (nth_quote config n is_over text ≡ Err (fault_at n why))
unfolding nth_quote
weighed_fault config text n true read weighed why meets w e =
    let same : over n read ≡ why = cc in
    subst (λ (f : LineFault). (f ≡ fault.NoMemory) ⊎ (numbered n (Err (over n (quote_of config text))) ≡ Err (fault_at n f))) same
    (numbered_over n (quote_of config text) read (over_says n (quote_of config text) read meets))
weighed_fault config text n false (Ok q) weighed why meets w e = absurd (cc)
weighed_fault config text n false (Err f) weighed why meets w e =
    let same : f ≡ why = cc in
    subst (λ (f : LineFault). (f ≡ fault.NoMemory) ⊎ (numbered n (quote_of config text) ≡ Err (fault_at n f))) same
    (numbered_read n (quote_of config text) f meets)

pub line_refused : {F : Type 0} (at : F → ℕ → SymbolView) (mark : FloorMark) (feed n : ℕ) (meant : Result Submission LineFault) (why : LineFault) (p : Place F)
    → (why ≡ fault.NoMemory) ⊎ (meant ≡ Err (fault_at n why)) → LineEnds at mark feed meant (end_of (fault_at n why)) p p
line_refused at mark feed n meant (fault.Bad k cause) p (inl wanted) = absurd (cc)
line_refused at mark feed n meant (fault.Bad k cause) p (inr e) = (e, refl)
line_refused at mark feed n meant (fault.Limit k which) p (inl wanted) = absurd (cc)
line_refused at mark feed n meant (fault.Limit k which) p (inr e) = (e, refl)
line_refused at mark feed n meant fault.NoMemory p x = (submits_none at feed p, inl refl)

-- ---- a quote that is submitted

gave_one : (moment : ℤ) (a b : Option (List ℤ)) → GaveMoment moment a b → GaveMoments (moment ∷ []) a b
gave_one moment a None x = tt
gave_one moment None (Some new) x = absurd x
gave_one moment (Some old) (Some new) x = x

pub submits_one : {F : Type 0} (at : F → ℕ → SymbolView) (feed : ℕ) (moment : ℤ) (quote : Submission) (a b : F) (k l : Option (List ℤ))
    → GrewBy at feed ((moment, quote) ∷ []) a b → GaveMoment moment k l → Submits at feed (quote ∷ []) (place a k) (place b l)
submits_one at feed moment quote a b k l grew gave = record {
  timed = (moment, quote) ∷ [];
  are = refl;
  moments = gave_one moment k l gave;
  grew = grew;
}

pub submits_no : {F : Type 0} (at : F → ℕ → SymbolView) (feed : ℕ) (a b : F) (k : Option (List ℤ)) → GrewBy at feed [] a b
    → Submits at feed [] (place a k) (place b k)
submits_no at feed a b k grew = record { timed = []; are = refl; moments = moments_none k; grew = grew }

-- ---- a file that was begun

none_there : (first : Option (List ℕ)) → IsSome first → first ≡ None → ⊥
none_there None some e = absurd (cc)
none_there (Some x) some e = cc
