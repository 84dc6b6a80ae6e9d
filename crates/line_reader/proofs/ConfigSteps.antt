-- A line of a config file, as it is read.
use Rattle.std.proofs.Common.{◌≡◌, ℕ, ◌+◌, ◌≤◌, ◌⊎◌, inl, inr, Bool, true, false, List, length, Result, Ok, Err, Option, Some, sym, ap, ◌∙◌, subst, arith, nat_lt, cond, OnOk}
use Rattle.script_text.specs.Header.{Step, header_line, with_header}
use Rattle.script_text.specs.Meets.{Meets}
use Rattle.script_text.specs.declared.header.Header.{Header}
use Rattle.script_text.specs.declared.fault.LineFault.{LineFault}
use Rattle.script_text.specs.declared.fault.LineFault.TheVariants.{Bad, Limit, NoMemory}
use Rattle.script_text.specs.declared.fault.LineCause.TheVariants.{NoEnd}
use Rattle.script_text.specs.declared.fault.LimitCause.TheVariants.{Line}
use Rattle.line_reader.specs.Over.{over, weighed}
use Rattle.line_reader.specs.ConfigFile.{Answer, header_text, behind_text, fault_of, IsMeant}
use Rattle.line_reader.specs.Reading.{Reading, ahead}
use Rattle.line_reader.specs.NextLines.{HandsOut, IsAllRead, IsTooLong}
use Rattle.line_reader.specs.NextLaws.{line_ahead, end_ahead, long_ahead}
use Rattle.line_reader.proofs.ConfigLines.{header_ends, header_goes_on, header_refused, header_rest, header_long, weighed_read, weighed_refused, meant_fault}

-- the line behind the lines so far, under the limit
pub weighed_line : Reading → Header → List ℕ → Step
weighed_line old header line =
    weighed old.most (old.lines + 1) (old.bytes + length line + 1) (header_line (old.lines + 1) header line)

apart : (w : Bool) (fault : LineFault) → (let x : Result Bool LineFault = Ok w in x) ≡ Err fault → ⊥
apart w fault e = cc

over_here : (old new : Reading) (before left : Option (List ℕ)) (line : List ℕ) (is_over : Bool)
    → HandsOut old new before left line is_over → is_over ≡ nat_lt old.most (old.bytes + length line + 1)
over_here old new before left line is_over x = x.over ∙ ap (λ (r : Reading). nat_lt old.most r.bytes) x.next

pub line_read : (old new : Reading) (before left : Option (List ℕ)) (header next : Header) (line : List ℕ) (is_over whole : Bool)
    (read : Result Bool LineFault) (n : ℕ) → HandsOut old new before left line is_over → n ≡ old.lines
    → Meets (header_line (n + 1) header line) (with_header read next) → Ok whole ≡ cond is_over (Err (over (n + 1) read)) read
    → (weighed_line old header line ≡ Ok (whole, next)) × (new.bytes ≤ new.most)
unfolding weighed_line
line_read old new before left header next line is_over whole read n x same meets is =
    let r = weighed_read old.most (old.lines + 1) (old.bytes + length line + 1) is_over whole read next
    (header_line (old.lines + 1) header line) (over_here old new before left line is_over x)
    (subst (λ (k : ℕ). Meets (header_line (k + 1) header line) (with_header read next)) same meets)
    (subst (λ (k : ℕ). Ok whole ≡ cond is_over (Err (over (k + 1) read)) read) same is) in
    let bytes = ap (λ (r : Reading). r.bytes) x.next in
    let most = ap (λ (r : Reading). r.most) x.next in
    (r.0, omega (arith, r.1, bytes, most))

-- what holds of a line that was read holds under the limit
pub kept_read : (is_over w : Bool) (read : Result Bool LineFault) (n : ℕ) (P : Type 0)
    → Ok w ≡ cond is_over (Err (over n read)) read → OnOk read P → P
kept_read true w read n P is x = absurd (apart w _ is)
kept_read false w (Ok v) n P is x = x
kept_read false w (Err fault) n P is x = absurd (apart w fault is)

pub line_refused : (old new : Reading) (before left : Option (List ℕ)) (header next : Header) (line : List ℕ) (is_over : Bool)
    (read : Result Bool LineFault) (n : ℕ) (fault : LineFault) → HandsOut old new before left line is_over → n ≡ old.lines
    → Meets (header_line (n + 1) header line) (with_header read next) → Err fault ≡ cond is_over (Err (over (n + 1) read)) read
    → (fault ≡ NoMemory) ⊎ (weighed_line old header line ≡ Err fault)
unfolding weighed_line
line_refused old new before left header next line is_over read n fault x same meets is =
    weighed_refused old.most (old.lines + 1) (old.bytes + length line + 1) is_over read next
    (header_line (old.lines + 1) header line) fault (over_here old new before left line is_over x)
    (subst (λ (k : ℕ). Meets (header_line (k + 1) header line) (with_header read next)) same meets)
    (subst (λ (k : ℕ). Err fault ≡ cond is_over (Err (over (k + 1) read)) read) same is)

pub said_whole : (total : Answer) (old new : Reading) (before left : Option (List ℕ)) (header next : Header) (line : List ℕ) (is_over : Bool)
    (more : List ℕ) → HandsOut old new before left line is_over → weighed_line old header line ≡ Ok (true, next)
    → ahead old.held before ≡ Some more → total ≡ header_text old.most old.lines old.bytes header more
    → (rest : List ℕ) × (ahead new.held left ≡ Some rest) × (total ≡ behind_text new.lines new.bytes next.config rest)
unfolding weighed_line
said_whole total old new before left header next line is_over more x step e said =
    let rest = line_ahead old new before left line is_over more x e in (
      rest.0,
      rest.1,
      said ∙ ap (header_text old.most old.lines old.bytes header) rest.2
          ∙ header_ends old.most old.lines old.bytes header next line rest.0 x.clear step
          ∙ ap (λ (r : Reading). behind_text r.lines r.bytes next.config rest.0) (sym x.next),
    )

pub said_more : (total : Answer) (old new : Reading) (before left : Option (List ℕ)) (header next : Header) (line : List ℕ) (is_over : Bool)
    (more : List ℕ) → HandsOut old new before left line is_over → weighed_line old header line ≡ Ok (false, next)
    → ahead old.held before ≡ Some more → total ≡ header_text old.most old.lines old.bytes header more
    → (rest : List ℕ) × (ahead new.held left ≡ Some rest) × (total ≡ header_text new.most new.lines new.bytes next rest)
unfolding weighed_line
said_more total old new before left header next line is_over more x step e said =
    let rest = line_ahead old new before left line is_over more x e in (
      rest.0,
      rest.1,
      said ∙ ap (header_text old.most old.lines old.bytes header) rest.2
          ∙ header_goes_on old.most old.lines old.bytes header next line rest.0 x.clear step
          ∙ ap (λ (r : Reading). header_text r.most r.lines r.bytes next rest.0) (sym x.next),
    )

either_meant : (total : Answer) (fault : LineFault) (P : Type 0) → (fault ≡ NoMemory) ⊎ P → (P → total ≡ Err fault) → IsMeant total (fault_of fault)
either_meant total fault P (inl none) f = meant_fault total fault (inl none)
either_meant total fault P (inr p) f = meant_fault total fault (inr (f p))

pub said_fault : (total : Answer) (old new : Reading) (before left : Option (List ℕ)) (header : Header) (line : List ℕ) (is_over : Bool)
    (more : List ℕ) (fault : LineFault) → HandsOut old new before left line is_over
    → (fault ≡ NoMemory) ⊎ (weighed_line old header line ≡ Err fault)
    → ahead old.held before ≡ Some more → total ≡ header_text old.most old.lines old.bytes header more
    → IsMeant total (fault_of fault)
unfolding weighed_line
said_fault total old new before left header line is_over more fault x step e said =
    let rest = line_ahead old new before left line is_over more x e in
    either_meant total fault _ step (λ refused. said ∙ ap (header_text old.most old.lines old.bytes header) rest.2
    ∙ header_refused old.most old.lines old.bytes header fault line rest.0 x.clear refused)

pub said_end : (total : Answer) (old new : Reading) (before left : Option (List ℕ)) (header : Header) (rest more : List ℕ)
    → IsAllRead old new before left rest → ahead old.held before ≡ Some more
    → total ≡ header_text old.most old.lines old.bytes header more → total ≡ Err (Bad (old.lines + 1) NoEnd)
said_end total old new before left header rest more x e said =
    said ∙ ap (header_text old.most old.lines old.bytes header) (end_ahead old new before left rest more x e)
    ∙ header_rest old.most old.lines old.bytes header rest x.clear x.short

pub said_long : (total : Answer) (old new : Reading) (before left : Option (List ℕ)) (header : Header) (more : List ℕ)
    → IsTooLong old new before left → ahead old.held before ≡ Some more
    → total ≡ header_text old.most old.lines old.bytes header more → total ≡ Err (Limit (old.lines + 1) Line)
said_long total old new before left header more x e said =
    said ∙ header_long old.most old.lines old.bytes header more (long_ahead old new before left more x e)
